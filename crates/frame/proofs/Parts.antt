-- The parts of a frame: its records and its next tasks.
use Rattle.std.proofs.Common.{◌≡◌, ℕ, ◌<◌, ◌≤◌, List, length, get_or, take, replicate, Some, None, Option, sym, arith}
use Rattle.std.proofs.lemmas.List.{get_or_past, length-take, take-replicate}
use Rattle.table.specs.Rows.{Plan, tasks_on}
use Rattle.table.specs.Lawful.{EmptyOrLawful}
use Rattle.table.proofs.Ordered.{ordered, nth_some, some_nth, none_nth}
use Rattle.board.specs.Meaning.{ended_on, next, next_task}
use Rattle.board.specs.declared.cores.Core.{Core}
use Rattle.runs.specs.Calls.{State}
use Rattle.runs.specs.Records.{fresh}
use Rattle.runs.specs.declared.Record.{Record}
use Rattle.frame.specs.View.{Within}

-- a frame by its parts
pub state_is : (p q : Plan) (cs ds : List Core) (l : ℕ) (rs ts : List Record) → q ≡ p → ds ≡ cs → ts ≡ rs →
    ◌≡◌ {A = State} (record { plan = q; progress = ds; latest = l; records = ts }) (record { plan = p; progress = cs; latest = l; records = rs })
state_is p q cs ds l rs ts a b d = cc

-- a front of fresh records
pub fresh_front : (n : ℕ) → n ≤ 384 → take n (replicate 384 fresh) ≡ replicate n fresh
fresh_front n h = take-replicate n 384 fresh h

module _ (p : Plan) (law : EmptyOrLawful p) (cs : List Core) (k : ℕ) where
  -- a core with a task left names it
  pub left_named : ended_on cs k < tasks_on p.rows k → next_task p cs k ≡ Some (next p cs k)
  left_named h = nth_some p (ordered p law) k (ended_on cs k) h

  -- the task that is named is the next one, and one of the table's
  pub named_next : (t : ℕ) → Some t ≡ next_task p cs k → (t ≡ next p cs k) × (t < length p.rows)
  named_next t e = let q = some_nth p (ordered p law) k (ended_on cs k) t (sym e) in (sym q.0, q.1)

  -- where none is named, the number of the next task is past all rows
  pub unnamed_next : None ≡ next_task p cs k → length p.rows ≤ next p cs k
  unnamed_next e = none_nth p (ordered p law) k (ended_on cs k) (sym e)

  -- so a task that is named is one of the table's
  pub within_rows : (o : Option ℕ) → o ≡ next_task p cs k → Within (length p.rows) o
  within_rows None e = tt
  within_rows (Some t) e = (named_next t e).1

-- the record of a task that there is not
pub no_record : (n : ℕ) (rs : List Record) (t : ℕ) → n ≤ t → get_or (take n rs) t fresh ≡ fresh
no_record n rs t h = get_or_past (take n rs) t fresh (omega (arith, length-take n rs, h))
