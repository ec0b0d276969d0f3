-- The tasks of one core by their places, and how their waits grow along it.
use Rattle.std.proofs.Common.{◌≡◌, ℕ, suc, ◌+◌, ◌<◌, ◌≤◌, Bool, true, cond, leb, ◌⊎◌, List, [], ◌∷◌, take, count_by, sym, ap, ◌∙◌, inl, inr, ⊎_elim, add-one, arith}
use Rattle.std.proofs.lemmas.Bool.{cases_eq, cases_lt, leb-true, le-leb, and_parts, and_from}
use Rattle.std.proofs.lemmas.List.Sums.{sum_by-cons}
use Rattle.table.specs.Rows.{Plan, row, on, ends_by, named, nth_on, tasks_on, wait}
use Rattle.table.specs.declared.rows.Row.{Row}
use Rattle.table.proofs.Places.{Found, nth_found, nth_none, none_on, before_mono}
use Rattle.table.proofs.Tables.{nth_within}
use Rattle.table.proofs.Ordered.{Ordered}
use Rattle.vectors.specs.Links.{place, following}

-- a weaker test counts at least as many rows
count_le : (f g : Row → Bool) → ((r : Row) → f r ≡ true → g r ≡ true) → (rows : List Row) → count_by f rows ≤ count_by g rows
count_le f g weak [] = omega arith
count_le f g weak (r ∷ rs) = grind (arith, count_le f g weak rs, weak r, sum_by-cons (λ r. cond (f r) 1 0) r rs, sum_by-cons (λ r. cond (g r) 1 0) r rs)

-- a row that starts later waits for no fewer rows
pub wait_rises : (rows : List Row) (a b : Row) (k : ℕ) → a.start ≤ b.start → wait rows a k ≤ wait rows b k
wait_rises rows a b k h = count_le (ends_by k a.start) (ends_by k b.start)
    (λ r e. let q = and_parts (on k r) (leb r.end a.start) e in
    and_from (on k r) (leb r.end b.start) q.0 (le-leb r.end b.start (omega (arith, leb-true r.end a.start q.1)))) rows

-- the task at place i of core c, and how many tasks it has
abbrev pub nth : Plan → ℕ → ℕ → ℕ
nth p c i = nth_on c i 0 p.rows

abbrev pub tasks : Plan → ℕ → ℕ
tasks p c = tasks_on p.rows c

-- a task lies on its core, at its place
module _ (p : Plan) (c i : ℕ) (h : i < tasks p c) where
  found : Found c i 0 p.rows
  found = nth_found c i 0 p.rows h

  -- where it was found is its number
  at_is : found.at ≡ nth p c i
  at_is = omega (arith, found.is)

  -- it lies on that core
  pub nth_core : (row p (nth p c i)).core ≡ c
  nth_core = rw at_is at found.core

  -- so many tasks of the core stand before it
  nth_before : tasks_on (take (nth p c i) p.rows) c ≡ i
  nth_before = rw at_is at found.place

  -- its place is the one at which it was found
  pub nth_place : place p (nth p c i) ≡ i
  nth_place = ap (λ x. tasks_on (take (nth p c i) p.rows) x) nth_core ∙ nth_before

-- no task stands at two places
pub nth_one : (p : Plan) (c d i j : ℕ) → i < tasks p c → j < tasks p d → nth p c i ≡ nth p d j → (c ≡ d) × (i ≡ j)
nth_one p c d i j h g e =
    let q : c ≡ d = sym (nth_core p c i h) ∙ (ap (λ t. (row p t).core) e ∙ nth_core p d j g) in
    (q, sym (nth_place p c i h) ∙ (ap (place p) e ∙ nth_place p d j g))

-- tasks stand in the order of their places
nth_order : (p : Plan) (c i j : ℕ) → i < j → j < tasks p c → nth p c i < nth p c j
nth_order p c i j l h = ⊎_elim (λ q. q)
    (λ q. absurd (omega (arith, before_mono c p.rows (nth p c j) (nth p c i) q, nth_before p c i (omega arith), nth_before p c j h)))
    (cases_lt (nth p c i) (nth p c j))

module _ (p : Plan) (o : Ordered p) where
  -- a later place starts no earlier
  pub start_rises : (c i j : ℕ) → i ≤ j → j < tasks p c → (row p (nth p c i)).start ≤ (row p (nth p c j)).start
  start_rises c i j l h = go (cases_eq i j)
    where
      go : ((i ≡ j) ⊎ (i ≡ j → ⊥)) → (row p (nth p c i)).start ≤ (row p (nth p c j)).start
      go (inl e) = rw e (omega arith)
      go (inr n) =
          let hi : i < tasks p c = omega arith in
          let s = o.spans (nth p c i) (nth_within c i p.rows hi) in
          let a = o.after (nth p c i) (nth p c j) (nth_order p c i j (omega arith) h) (nth_within c j p.rows h) (nth_core p c i hi ∙ sym (nth_core p c j h)) in
          omega arith

  -- a place with a task is told from every other place, with or without one
  pub nth_only : (c d i j : ℕ) → j < tasks p d → nth p c i ≡ nth p d j → (c ≡ d) × (i ≡ j)
  nth_only c d i j h e = ⊎_elim
      (λ g. nth_one p c d i j g h e)
      (λ g. absurd (omega (arith, nth_none c i 0 p.rows g, e, nth_within d j p.rows h, o.short)))
      (cases_lt i (tasks p c))

  -- no task lies on a core that the table lacks
  pub none_past : (k : ℕ) → p.cores ≤ k → tasks p k ≡ 0
  none_past k l = none_on k p.rows (λ t h e. omega (arith, o.on_core t h, e, l))

-- the task after the one at place i is that at the next place
pub following_is : (p : Plan) (c i : ℕ) → i < tasks p c → following p (nth p c i) ≡ named (nth p c (suc i))
following_is p c i h =
    ap (λ z. named (nth_on z (place p (nth p c i) + 1) 0 p.rows)) (nth_core p c i h) ∙ ap (λ z. named (nth_on c z 0 p.rows)) (ap (λ z. z + 1) (nth_place p c i h) ∙ add-one i)
