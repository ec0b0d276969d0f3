-- What a table says: its rows, the places of rows on their cores, and the waits.
use Rattle.std.specs.Prelude.{ℕ, zero, suc, Bool, cond, ◌&&◌, List, [], ◌∷◌, Some, None, count_by, Option, ◌==◌, nat_le, slice_index_or}
use Rattle.table.specs.declared.rows.Row.{Row}

-- no row
abbrev pub blank : Row
blank = record { core = 0; start = 0; end = 0; claim = 0; inputs = record { bits = 0 } }

-- what a table says: its number of cores, the length of its frame in ticks, and its rows
pub record Plan : Type 0 where
  pub cores : ℕ
  pub ticks : ℕ
  pub rows : List Row

-- the plan of an empty table
abbrev pub nothing : Plan
nothing = record { cores = 0; ticks = 0; rows = [] }

-- row t; blank if there is none
abbrev pub row : Plan → ℕ → Row
row p t = slice_index_or p.rows t blank

-- a row lies on core k; it lies on core k and ends by the time
abbrev pub on : ℕ → Row → Bool
on k r = r.core == k

abbrev pub ends_by : ℕ → ℕ → Row → Bool
ends_by k time r = on k r && nat_le r.end time

-- how many rows lie on core k
abbrev pub tasks_on : List Row → ℕ → ℕ
tasks_on rows k = count_by (on k) rows

-- the wait of a row on core k: how many rows of that core end at or before its start
abbrev pub wait : List Row → Row → ℕ → ℕ
wait rows r k = count_by (ends_by k r.start) rows

-- the number that stands for no task: no table has so many rows
-- a number and no Option, so that `row` can be asked for it: there it is the blank row
abbrev pub no_task : ℕ
no_task = 511

-- the task that a number names, if it is one
abbrev pub named : ℕ → Option ℕ
named t = cond (t == no_task) None (Some t)

-- the number of the row at place n on core k, where the first of the rows has number i and places count from 0
abbrev pub nth_on : ℕ → ℕ → ℕ → List Row → ℕ
nth_on k n i [] = no_task
nth_on k zero i (r ∷ rs) = cond (on k r) i (nth_on k zero (suc i) rs)
nth_on k (suc n) i (r ∷ rs) = cond (on k r) (nth_on k n (suc i) rs) (nth_on k (suc n) (suc i) rs)

-- what is kept for core k along the rows: `keep` makes it anew from the end of each row on that core and what was kept before
abbrev pub kept_end : {X : Type 0} → (ℕ → X → X) → ℕ → List Row → X → X
kept_end keep k [] sofar = sofar
kept_end keep k (r ∷ rs) sofar = kept_end keep k rs (cond (on k r) (keep r.end sofar) sofar)

-- the end of the last of these rows that lies on core k, 0 if there is none
abbrev pub last_end : ℕ → List Row → ℕ
last_end k rows = kept_end (λ new old. new) k rows 0
