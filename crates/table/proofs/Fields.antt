-- The fields of a row, read behind the rows before it.
use Rattle.std.proofs.Common.{◌≡◌, ℕ, zero, suc, ◌+◌, ◌-◌, ◌*◌, ◌/◌, ◌%◌, ◌^◌, List, length, get_or, take, drop, refl, ap, ◌∙◌, arith, length-drop}
use Rattle.std.proofs.lemmas.List.{get_or-drop, take_all}
use Rattle.table.specs.Bits.{bit_at, field}

-- a bit, and a field, of what is left behind n bytes
bit_behind : (bytes : List ℕ) (n i : ℕ) → bit_at (drop n bytes) i ≡ bit_at bytes (i + 8 * n)
bit_behind bytes n i =
    let byte : n + i / 8 ≡ (i + 8 * n) / 8 = omega arith in
    let place : i % 8 ≡ (i + 8 * n) % 8 = omega arith in
    ap (λ b. (b / 2 ^ (7 - i % 8)) % 2) (get_or-drop n bytes (i / 8) 0 ∙ ap (λ j. get_or bytes j 0) byte)
    ∙ ap (λ j. (get_or bytes ((i + 8 * n) / 8) 0 / 2 ^ (7 - j)) % 2) place

field_behind : (bytes : List ℕ) (n i w : ℕ) → field (drop n bytes) i w ≡ field bytes (i + 8 * n) w
unfolding field
field_behind bytes n i zero = refl
field_behind bytes n i (suc w) =
    let next : i + w + 8 * n ≡ i + 8 * n + w = omega arith in
    ap (λ v. 2 * v + bit_at (drop n bytes) (i + w)) (field_behind bytes n i w)
    ∙ ap (λ b. 2 * field bytes (i + 8 * n) w + b) (bit_behind bytes n (i + w) ∙ ap (bit_at bytes) next)

-- a field of the slice of a row and what is behind it
pub field_of_row : (bytes : List ℕ) (n t i w : ℕ) → n ≡ 11 * t → field (take (length bytes - n) (drop n bytes)) i w ≡ field bytes (i + 88 * t) w
field_of_row bytes n t i w e =
    let at : i + 8 * n ≡ i + 88 * t = omega (arith, e) in
    ap (λ bs. field bs i w) (take_all (length bytes - n) (drop n bytes) (omega (arith, length-drop n bytes))) ∙ (field_behind bytes n i w ∙ ap (λ j. field bytes j w) at)
