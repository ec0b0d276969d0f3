-- Where the fields of a table lie in its bytes.
use Rattle.std.specs.Prelude.{ℕ, ◌+◌, ◌*◌, List, map}
use Rattle.std.specs.List.{range_with_len}
use Rattle.table.specs.Bits.{field}
use Rattle.table.specs.Rows.{Plan}
use Rattle.table.specs.declared.rows.Row.{Row}

-- the bit at which each field of row r begins: core, start, end, claim, data bits
abbrev pub core_bit : ℕ → ℕ
core_bit r = 48 + 88 * r

abbrev pub start_bit : ℕ → ℕ
start_bit r = 51 + 88 * r

abbrev pub end_bit : ℕ → ℕ
end_bit r = 79 + 88 * r

abbrev pub claim_bit : ℕ → ℕ
claim_bit r = 107 + 88 * r

abbrev pub inputs_bit : ℕ → ℕ
inputs_bit r = 128 + 88 * r

-- row r of the bytes
abbrev pub row_at : List ℕ → ℕ → Row
row_at bytes r = record {
  core = field bytes (core_bit r) 3;
  start = field bytes (start_bit r) 28;
  end = field bytes (end_bit r) 28;
  claim = field bytes (claim_bit r) 21;
  inputs = record { bits = field bytes (inputs_bit r) 8 };
}

-- the header's fields behind the mark
abbrev pub cores_of : List ℕ → ℕ
cores_of bytes = field bytes 8 3 + 1

abbrev pub tasks_of : List ℕ → ℕ
tasks_of bytes = field bytes 11 9

abbrev pub ticks_of : List ℕ → ℕ
ticks_of bytes = field bytes 20 28

-- the first n rows of the bytes
abbrev pub rows_of : List ℕ → ℕ → List Row
rows_of bytes n = map (row_at bytes) (range_with_len 0 n)

-- what the bytes say, lawful or not
abbrev pub described : List ℕ → Plan
described bytes = record { cores = cores_of bytes; ticks = ticks_of bytes; rows = rows_of bytes (tasks_of bytes) }
