-- The number that digits write: read from the left, and as a sum of places.
use Rattle.std.proofs.Common.{◌≡◌, ℕ, ◌+◌, ◌-◌, ◌*◌, ◌^◌, ◌≤◌, List, [], ◌∷◌, length, Some, ap, ◌∙◌, mul_assoc, mul_comm, add-mul, arith}
use native.Mathlib.Nat.{pow-succ'}
use Rattle.std.specs.List.{AllByRecursion}
use Rattle.script.specs.Grammar.{digits_value, number}
use Rattle.script.specs.Lines.{Digit, value}
use Rattle.script.proofs.Scan.{number_few}

step : (n d p v : ℕ) → (10 * n + d) * p + v ≡ n * (10 * p) + (d * p + v)
step n d p v =
    let a : (10 * n + d) * p ≡ 10 * n * p + d * p = add-mul (10 * n) d p in
    let b : 10 * n * p ≡ n * (10 * p) = ap (λ x. x * p) (mul_comm 10 n) ∙ mul_assoc n 10 p in
    omega arith

-- from digits to their value
pub value_from_digits : (n : ℕ) (ds : List ℕ) → AllByRecursion Digit ds → digits_value n ds ≡ Some (n * 10 ^ length ds + value ds)
value_from_digits n [] all = ap Some (omega arith)
value_from_digits n (d ∷ ds) all = grind (arith, value_from_digits (10 * n + (d - 48)) ds, step n (d - 48) (10 ^ length ds) (value ds), pow-succ' 10 (length ds))

-- a word that has a value is digits
pub digits_from_value : (n m : ℕ) (ds : List ℕ) → digits_value n ds ≡ Some m → AllByRecursion Digit ds
digits_from_value n m [] h = tt
digits_from_value n m (d ∷ ds) h = grind (arith, digits_from_value (10 * n + (d - 48)) m ds)

-- a word that is a number: 1 to 9 digits, and their value
pub record Figures (word : List ℕ) (n : ℕ) : Type 0 where
  pub some : 1 ≤ length word
  pub few : length word ≤ 9
  pub plain : AllByRecursion Digit word
  pub writes : value word ≡ n

pub figures : (word : List ℕ) (n : ℕ) → number word ≡ Some n → Figures word n
figures word n h = grind (arith, digits_from_value 0 n word, value_from_digits 0 word)

pub number_from_figures : (word : List ℕ) (n : ℕ) → Figures word n → number word ≡ Some n
number_from_figures word n f = grind (arith, number_few word, value_from_digits 0 word)
