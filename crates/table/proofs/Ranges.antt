-- What the numbers below a bound yield, and what `any`, `all` and `find` answer over them.
use Rattle.std.proofs.Common.{◌≡◌, ℕ, zero, suc, ◌+◌, Bool, true, false, cond, ◌&&◌, ◌||◌, not, List, [], ◌∷◌, Some, refl, ap, sym, ◌∙◌, arith}
use Rattle.std.proofs.iter.Yields.{nat_range_steps}
use Rattle.std.proofs.lemmas.Iterator.{YieldsList, YieldsList-from_range}
use Rattle.std.specs.List.{range_with_len, list_all, list_any, find}
use Rattle.table.specs.Below.{all_below, any_below, first_from}

-- the range of the numbers below n yields them in turn
pub numbers_below : (n : ℕ) → YieldsList nat_range_steps (λ x. x) (record { start = 0; end = n }) (range_with_len 0 n)
numbers_below n = YieldsList-from_range 0 n n refl (omega arith)

-- a test of some number in a range, and the same from its other end
or_swap : (a b c : Bool) → (a || (b || c)) ≡ (b || (a || c))
or_swap true true c = refl
or_swap true false c = refl
or_swap false b c = refl

range_more : (f : ℕ → Bool) (i n : ℕ) → list_any f (range_with_len i (suc n)) ≡ (f (i + n) || list_any f (range_with_len i n))
range_more f i zero = let e : i ≡ i + zero = omega arith in ap (λ j. f j || false) e
range_more f i (suc n) =
    let e : i + 1 + n ≡ i + suc n = omega arith in
    ap (λ b. f i || b) (range_more f (i + 1) n ∙ ap (λ j. f j || list_any f (range_with_len (i + 1) n)) e) ∙ or_swap (f i) (f (i + suc n)) (list_any f (range_with_len (i + 1) n))

-- what `any` answers over the numbers below n
pub any_of_range : (f : ℕ → Bool) (n : ℕ) → list_any f (range_with_len 0 n) ≡ any_below n f
any_of_range f zero = refl
any_of_range f (suc n) =
    let e : 0 + n ≡ n = omega arith in
    range_more f 0 n ∙ (ap (λ j. f j || list_any f (range_with_len 0 n)) e ∙ ap (λ b. f n || b) (any_of_range f n))

-- a test of all numbers is, turned, the turned test of some number: in a list, and below a bound
turned : (b c d : Bool) → c ≡ not d → (b && c) ≡ not (not b || d)
turned true c d h = h
turned false c d h = refl

list_turned : (f : ℕ → Bool) (xs : List ℕ) → list_all f xs ≡ not (list_any (λ j. not (f j)) xs)
list_turned f [] = refl
list_turned f (x ∷ xs) = turned (f x) _ _ (list_turned f xs)

below_turned : (f : ℕ → Bool) (n : ℕ) → all_below n f ≡ not (any_below n (λ j. not (f j)))
below_turned f zero = refl
below_turned f (suc n) = turned (f n) _ _ (below_turned f n)

-- what `all` answers over the numbers below n
pub all_of_range : (f : ℕ → Bool) (n : ℕ) → list_all f (range_with_len 0 n) ≡ all_below n f
all_of_range f n = list_turned f (range_with_len 0 n) ∙ (ap not (any_of_range (λ j. not (f j)) n) ∙ sym (below_turned f n))

-- what `find` answers over n numbers from i on
pub first_of_range : (f : ℕ → Bool) (i n : ℕ) → find f (range_with_len i n) ≡ first_from f i n
first_of_range f i zero = refl
first_of_range f i (suc n) = let e : i + 1 ≡ suc i = omega arith in ap (λ o. cond (f i) (Some i) o) (first_of_range f (i + 1) n ∙ ap (λ j. first_from f j n) e)
