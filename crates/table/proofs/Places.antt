-- Places of tasks on their cores: the (n+1)th row of a core, and how many rows of a core a task waits for.
use Rattle.std.proofs.Common.{◌≡◌, ℕ, zero, suc, ◌+◌, ◌<◌, ◌≤◌, Bool, true, false, cond, List, [], ◌∷◌, length, get_or, take, count_by, Some, refl, ◌∙◌, subst, ⊎_elim, arith}
use Rattle.std.proofs.lemmas.List.Sums.{sum_by-cons, sum_by-take-le, sum_by-le-sum_by, count_by_more_yes}
use Rattle.std.proofs.lemmas.List.{take-take}
use Rattle.std.proofs.lemmas.Bool.{cases_Bool, eqb-true}
use Rattle.std.proofs.lemmas.Bool.Decides.{nat_tests}
use Rattle.table.specs.Rows.{blank, on, ends_by, no_task, named, tasks_on, nth_on}
use Rattle.table.specs.declared.rows.Row.{Row}

-- how many rows of core k stand before row t
abbrev pub before : ℕ → List Row → ℕ → ℕ
before k rows t = count_by (on k) (take t rows)

-- a count, one element further left
pub count_one : {X : Type 0} (p : X → Bool) (x : X) (xs : List X) → count_by p (x ∷ xs) ≡ cond (p x) 1 0 + count_by p xs
count_one p x xs = sum_by-cons (λ y. cond (p y) 1 0) x xs

pub count_yes : {X : Type 0} (p : X → Bool) (x : X) (xs : List X) → p x ≡ true → count_by p (x ∷ xs) ≡ suc (count_by p xs)
count_yes p x xs e = grind (arith, count_one p x xs)

pub count_no : {X : Type 0} (p : X → Bool) (x : X) (xs : List X) → p x ≡ false → count_by p (x ∷ xs) ≡ count_by p xs
count_no p x xs e = grind (arith, count_one p x xs)

-- what nth_on finds
pub record Found (k n i : ℕ) (rows : List Row) : Type 0 where
  pub at : ℕ
  pub is : nth_on k n i rows ≡ i + at
  pub within : at < length rows
  pub core : (get_or rows at blank).core ≡ k
  pub place : before k rows at ≡ n

found_on : (k n m i : ℕ) (r : Row) (rs : List Row) → n ≡ cond (on k r) 1 0 + m → nth_on k n i (r ∷ rs) ≡ nth_on k m (suc i) rs → Found k m (suc i) rs → Found k n i (r ∷ rs)
found_on k n m i r rs e step f = record { at = suc f.at; is = step ∙ (f.is ∙ omega arith); within = omega arith; core = f.core; place = grind (arith, e, f.place, count_one (on k) r (take f.at rs)) }

pub nth_found : (k n i : ℕ) (rows : List Row) → n < tasks_on rows k → Found k n i rows
nth_found k n i [] h = absurd (omega arith)
nth_found k zero i (r ∷ rs) h = ⊎_elim
    (λ e. record { at = 0; is = grind (arith, nat_tests); within = omega arith; core = eqb-true _ _ e; place = refl })
    (λ e. found_on k 0 0 i r rs (grind (arith, nat_tests)) (grind (arith, nat_tests)) (nth_found k zero (suc i) rs (grind (arith, count_one (on k) r rs))))
    (cases_Bool (on k r))
nth_found k (suc n) i (r ∷ rs) h = ⊎_elim
    (λ e. found_on k (suc n) n i r rs (grind (arith, nat_tests)) (grind (arith, nat_tests)) (nth_found k n (suc i) rs (grind (arith, count_one (on k) r rs))))
    (λ e. found_on k (suc n) (suc n) i r rs (grind (arith, nat_tests)) (grind (arith, nat_tests)) (nth_found k (suc n) (suc i) rs (grind (arith, count_one (on k) r rs))))
    (cases_Bool (on k r))

-- past the tasks of core k there is none
pub nth_none : (k n i : ℕ) (rows : List Row) → tasks_on rows k ≤ n → nth_on k n i rows ≡ no_task
nth_none k zero i [] h = refl
nth_none k (suc n) i [] h = refl
nth_none k zero i (r ∷ rs) h = grind (arith, nat_tests, nth_none k zero (suc i) rs, count_one (on k) r rs)
nth_none k (suc n) i (r ∷ rs) h = grind (arith, nat_tests, nth_none k n (suc i) rs, nth_none k (suc n) (suc i) rs, count_one (on k) r rs)

-- a place that is taken names a row
pub nth_within : (k n : ℕ) (rows : List Row) → n < tasks_on rows k → nth_on k n 0 rows < length rows
nth_within k n rows h = let f = nth_found k n 0 rows h in omega (arith, f.is, f.within)

-- a number below 511 names a task, and none but that
pub named_small : (t : ℕ) → t < 511 → named t ≡ Some t
named_small t l = grind (arith, nat_tests)

pub named_some : (n t : ℕ) → named n ≡ Some t → n ≡ t
named_some n t h = grind (arith, nat_tests)

-- a core on which no row lies has no tasks
pub none_on : (k : ℕ) (rows : List Row) → ((t : ℕ) → t < length rows → (get_or rows t blank).core ≡ k → ⊥) → tasks_on rows k ≡ 0
none_on k [] h = refl
none_on k (r ∷ rs) h = grind (arith, nat_tests, h 0, none_on k rs (λ t l. h (suc t) (omega arith)), count_one (on k) r rs)

-- a row is found at its place
pub nth_at : (k i j : ℕ) (rows : List Row) → j < length rows → (get_or rows j blank).core ≡ k → nth_on k (before k rows j) i rows ≡ i + j
nth_at k i j [] h c = absurd (omega arith)
nth_at k i zero (r ∷ rs) h c = grind (arith, nat_tests)
nth_at k i (suc j) (r ∷ rs) h c = grind (arith, nat_tests, nth_at k (suc i) j rs, count_one (on k) r (take j rs))

-- a row's place is below the number of tasks of its core
pub before_lt : (k : ℕ) (rows : List Row) (j : ℕ) → j < length rows → (get_or rows j blank).core ≡ k → before k rows j < tasks_on rows k
before_lt k rows j h c = grind (arith, nat_tests, count_by_more_yes (on k) rows j blank h, sum_by-take-le (λ r. cond (on k r) 1 0) rows (j + 1))

pub before_mono : (k : ℕ) (rows : List Row) (i j : ℕ) → i ≤ j → before k rows i ≤ before k rows j
before_mono k rows i j h = subst (λ xs. count_by (on k) xs ≤ before k rows j) (take-take i j rows h) (sum_by-take-le (λ r. cond (on k r) 1 0) (take j rows) i)

-- the ends of core k ascend
abbrev pub Ascend : ℕ → List Row → Type 0
Ascend k rows = (i j : ℕ) → i < j → j < length rows → (get_or rows i blank).core ≡ k → (get_or rows j blank).core ≡ k → (get_or rows i blank).end ≤ (get_or rows j blank).end

ascend_tail : (k : ℕ) (r : Row) (rs : List Row) → Ascend k (r ∷ rs) → Ascend k rs
ascend_tail k r rs up i j l h = up (suc i) (suc j) (omega arith) (omega arith)

none_by : (k s : ℕ) (rows : List Row) → ((j : ℕ) → j < length rows → (get_or rows j blank).core ≡ k → s < (get_or rows j blank).end) → count_by (ends_by k s) rows ≡ 0
none_by k s [] late = refl
none_by k s (r ∷ rs) late = grind (arith, nat_tests, late 0, none_by k s rs (λ j h. late (suc j) (omega arith)), count_one (ends_by k s) r rs)

-- where a row of core k ends late, no row after it ends by s
none_after : (k s : ℕ) (r : Row) (rs : List Row) → Ascend k (r ∷ rs) → r.core ≡ k → s < r.end → count_by (ends_by k s) rs ≡ 0
none_after k s r rs up c l = none_by k s rs (λ j h d. omega (arith, l, up 0 (suc j) (omega arith) (omega arith) c d))

-- what ends by s is counted
pub counted : (k s : ℕ) (rows : List Row) → Ascend k rows → (a : ℕ) → a < length rows → (get_or rows a blank).core ≡ k → (get_or rows a blank).end ≤ s → before k rows a < count_by (ends_by k s) rows
counted k s [] up a h c l = absurd (omega arith)
counted k s (r ∷ rs) up zero h c l = grind (arith, nat_tests, count_one (ends_by k s) r rs)
counted k s (r ∷ rs) up (suc a) h c l = grind (arith, nat_tests, counted k s rs (ascend_tail k r rs up) a, up 0 (suc a), count_one (on k) r (take a rs), count_one (ends_by k s) r rs)

-- what is counted ends by s
pub counts : (k s : ℕ) (rows : List Row) → Ascend k rows → (a : ℕ) → a < length rows → (get_or rows a blank).core ≡ k → before k rows a < count_by (ends_by k s) rows → (get_or rows a blank).end ≤ s
counts k s [] up a h c l = absurd (omega arith)
counts k s (r ∷ rs) up zero h c l = grind (arith, nat_tests, none_after k s r rs up c, count_one (ends_by k s) r rs)
counts k s (r ∷ rs) up (suc a) h c l = grind (arith, nat_tests, counts k s rs (ascend_tail k r rs up) a, none_after k s r rs up, count_one (on k) r (take a rs), count_one (ends_by k s) r rs)

-- a wait counts no more than the tasks of its core
pub wait_le : (k s : ℕ) (rows : List Row) → count_by (ends_by k s) rows ≤ tasks_on rows k
wait_le k s rows = sum_by-le-sum_by (λ r. cond (ends_by k s r) 1 0) (λ r. cond (on k r) 1 0) rows (λ r. grind (arith, nat_tests))
