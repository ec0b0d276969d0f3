-- What a fold over the bits of a field makes of them.
use Rattle.std.proofs.Common.{◌≡◌, ℕ, zero, suc, ◌+◌, ◌*◌, ◌%◌, ◌^◌, ◌≤◌, List, fold, bit_or, refl, ap, ◌∙◌, arith}
use Rattle.std.proofs.Math.Pow.{pow-lt}
use Rattle.std.proofs.lemmas.Nat.{or_shifted}
use Rattle.std.specs.List.{range_with_len}
use Rattle.table.specs.Bits.{bit_at, field}
use Rattle.table.proofs.Accepts.{field_lt}

-- a fold over one number more
fold_range : {X : Type 0} (f : X → ℕ → X) (x : X) (i n : ℕ) → fold f x (range_with_len i (suc n)) ≡ f (fold f x (range_with_len i n)) (i + n)
fold_range f x i zero = let e : i ≡ i + zero = omega arith in ap (f x) e
fold_range f x i (suc n) =
    let e : i + 1 + n ≡ i + suc n = omega arith in
    fold_range f (f x i) (i + 1) n ∙ ap (f (fold f (f x i) (range_with_len (i + 1) n))) e

-- the number so far, a bit further left, and the next bit
abbrev pub next_bit : List ℕ → ℕ → ℕ → ℕ
next_bit bytes value i = bit_or (value * 2 ^ 1 % 2 ^ 32) (bit_at bytes i)

-- at most 28 bits fold to the number in them
pub folded : (bytes : List ℕ) (at w : ℕ) → w ≤ 28 → fold (next_bit bytes) 0 (range_with_len at w) ≡ field bytes at w
unfolding field
folded bytes at zero few = refl
folded bytes at (suc w) few =
    let so_far = folded bytes at w (omega arith) in
    let value = fold (next_bit bytes) 0 (range_with_len at w) in
    let room : value * 2 ^ 1 % 2 ^ 32 ≡ value * 2 ^ 1 = omega (arith, so_far, field_lt bytes at w, pow-lt {i = w} {j = 28} (omega arith)) in
    fold_range (next_bit bytes) 0 at w ∙ (ap (λ v. bit_or v (bit_at bytes (at + w))) room ∙ (or_shifted value 1 (bit_at bytes (at + w)) (omega arith) ∙ omega (arith, so_far)))
