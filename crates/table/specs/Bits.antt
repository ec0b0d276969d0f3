-- Bit fields of a byte string: bits count from the most significant bit of the first byte.
use Rattle.std.specs.Prelude.{ℕ, zero, suc, ◌+◌, ◌-◌, ◌*◌, ◌/◌, ◌%◌, ◌^◌, List, slice_index}

-- bit i of the bytes, 0 or 1
abbrev pub bit_at : List ℕ → ℕ → ℕ
bit_at bytes i = (slice_index bytes (i / 8) / 2 ^ (7 - i % 8)) % 2

-- the number in the w bits from bit i on
unfoldable pub field : List ℕ → ℕ → ℕ → ℕ
field bytes i zero = 0
field bytes i (suc w) = 2 * field bytes i w + bit_at bytes (i + w)
