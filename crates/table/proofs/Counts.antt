-- Rows that are counted by their numbers.
use Rattle.std.proofs.Common.{◌≡◌, ℕ, ◌+◌, ◌≤◌, cond, List, [], ◌∷◌, length, get_or, take, map, sum_by, refl, sym, ap, ◌∙◌}
use Rattle.std.proofs.lemmas.List.{length-take-le, get_or-take}
use Rattle.std.proofs.lemmas.List.FromFn.{fill_by_all}
use Rattle.std.proofs.lemmas.List.Sums.{sum_by-cons}
use Rattle.std.specs.List.{range_with_len}
use Rattle.table.specs.Rows.{blank, on, tasks_on}
use Rattle.table.specs.declared.rows.Row.{Row}

-- a sum over what the numbers name
sum_named : (h : Row → ℕ) (f : ℕ → Row) (xs : List ℕ) → sum_by (λ i. h (f i)) xs ≡ sum_by h (map f xs)
sum_named h f [] = refl
sum_named h f (x ∷ xs) = sum_by-cons (λ i. h (f i)) x xs ∙ (ap (λ n. h (f x) + n) (sum_named h f xs) ∙ sym (sum_by-cons h (f x) (map f xs)))

-- 1 for each number below n whose row lies on core k
abbrev pub one_on : ℕ → List Row → ℕ → ℕ
one_on k rows i = cond (on k (get_or rows i blank)) 1 0

pub counted : (k n : ℕ) (rows : List Row) → n ≤ length rows → sum_by (one_on k rows) (range_with_len 0 n) ≡ tasks_on (take n rows) k
counted k n rows l =
    let named : take n rows ≡ map (λ i. get_or rows i blank) (range_with_len 0 n) = fill_by_all (λ i. get_or rows i blank) (take n rows) n blank (length-take-le n rows l) (λ i m. get_or-take n rows i blank m) in
    sum_named (λ r. cond (on k r) 1 0) (λ i. get_or rows i blank) (range_with_len 0 n) ∙ ap (λ xs. tasks_on xs k) (sym named)
