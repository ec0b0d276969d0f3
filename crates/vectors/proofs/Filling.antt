-- An array that is filled by a function of the place, and a set of cores that a loop fills by a test.
use Rattle.std.proofs.Common.{◌≡◌, ℕ, ◌+◌, ◌<◌, ◌≤◌, Bool, true, false, ◌&&◌, ◌||◌, eqb, ltb, [], map, get_or, sym, ap, ◌∙◌, ⊎_elim, arith}
use Rattle.std.proofs.lemmas.Bool.Decides.{nat_tests}
use Rattle.std.specs.List.{range_with_len}
use Rattle.std.proofs.lemmas.List.FromFn.{length-map-range_with_len, get_or-map-range_with_len, fill_by_all}
use Rattle.std.proofs.lemmas.Bool.{cases_eq, le-ltb}
use Rattle.table.specs.Sets.{has, set_of, none, with}
use Rattle.table.specs.declared.rows.CoreSet.{CoreSet}
use Rattle.table.proofs.Sets.{bits_below, has_none, set_at}
use Rattle.table.proofs.Masks.{set_is}

-- what stands in a filled array of arrays
pub read_both : {X : Type 0} (f : ℕ → ℕ → X) (n m i j : ℕ) (d : X) → i < n → j < m → get_or (get_or (map (λ x. map (f x) (range_with_len 0 m)) (range_with_len 0 n)) i []) j d ≡ f i j
read_both f n m i j d l h = ap (λ xs. get_or xs j d) (get_or-map-range_with_len (λ x. map (f x) (range_with_len 0 m)) 0 n i i [] l (omega arith)) ∙ get_or-map-range_with_len (f i) 0 m j j d h (omega arith)

-- arrays filled by functions that agree
pub fill_same : {X : Type 0} (f g : ℕ → X) (n : ℕ) → ((k : ℕ) → k < n → f k ≡ g k) → map f (range_with_len 0 n) ≡ map g (range_with_len 0 n)
fill_same f g n h = fill_by_all g (map f (range_with_len 0 n)) n (f 0) (length-map-range_with_len f 0 n) (λ k l. get_or-map-range_with_len f 0 n k k (f 0) l (omega arith) ∙ h k l)

-- sets by tests that agree
pub set_same : (f g : ℕ → Bool) → ((j : ℕ) → j < 8 → f j ≡ g j) → set_of f ≡ set_of g
unfolding set_of
set_same f g h = set_is (set_of f) g (bits_below 8 f) (λ j l. set_at f j l ∙ h j l)

-- the cores below k at which f holds
abbrev pub gathered : (ℕ → Bool) → ℕ → CoreSet
gathered f k = set_of (λ j. ltb j k && f j)

pub gather_first : (f : ℕ → Bool) → none ≡ gathered f 0
gather_first f = set_is none (λ j. ltb j 0 && f j) (omega arith) (λ j l. has_none j ∙ sym (ap (λ b. b && f j) (le-ltb j 0 (omega arith))))

-- one core more, and all cores
pub gather_yes : (f : ℕ → Bool) (k : ℕ) (s : CoreSet) → s ≡ gathered f k → f k ≡ true → with s k ≡ gathered f (k + 1)
gather_yes f k s h y = set_same (λ j. eqb j k || has s j) (λ j. ltb j (k + 1) && f j)
    (λ j l. ap (λ t. eqb j k || has t j) h ∙ (ap (λ b. eqb j k || b) (set_at (λ i. ltb i k && f i) j l) ∙ ⊎_elim (λ e. rw e (grind (arith, nat_tests))) (λ n. grind (arith, nat_tests)) (cases_eq j k)))

pub gather_no : (f : ℕ → Bool) (k : ℕ) (s : CoreSet) → s ≡ gathered f k → f k ≡ false → s ≡ gathered f (k + 1)
gather_no f k s h y = h ∙ set_same (λ j. ltb j k && f j) (λ j. ltb j (k + 1) && f j) (λ j l. ⊎_elim (λ e. rw e (grind (arith, nat_tests))) (λ n. grind (arith, nat_tests)) (cases_eq j k))

pub gather_last : (f : ℕ → Bool) (k : ℕ) (s : CoreSet) → s ≡ gathered f k → 8 ≤ k → s ≡ set_of f
gather_last f k s h l = h ∙ set_same (λ j. ltb j k && f j) f (λ j m. grind (arith, nat_tests))
