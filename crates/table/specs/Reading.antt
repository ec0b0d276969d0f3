-- What the parts of load have found when the next part begins.
use Rattle.std.specs.Prelude.{◌≡◌, ℕ, ◌+◌, ◌*◌, ◌≤◌, min, Bool, false, not, ◌&&◌, ◌||◌, List, length, Some, None, Ok, Err, Option, Result, nat_le, nat_lt, slice_index_or}
use Rattle.table.specs.Sets.{has}
use Rattle.table.specs.Rows.{on, kept_end}
use Rattle.table.specs.Layout.{cores_of, tasks_of, ticks_of}
use Rattle.table.specs.Questions.{header_fault}
use Rattle.table.specs.declared.rows.Row.{Row}
use Rattle.table.specs.declared.faults.Fault.{Fault}
use Rattle.table.specs.declared.layout.Header.{Header}

-- the header of bytes that hold just its rows
pub record Heads (bytes : List ℕ) (h : Header) : Type 0 where
  pub cores : h.cores ≡ cores_of bytes
  pub tasks : h.tasks ≡ tasks_of bytes
  pub ticks : h.ticks ≡ ticks_of bytes
  pub some_task : 1 ≤ h.tasks
  pub few_tasks : h.tasks ≤ 384
  pub size : length bytes ≡ 6 + 11 * h.tasks

-- questions 1 to 3 were asked: the header, or the fault
abbrev pub HeadRead : List ℕ → Result Header Fault → Type 0
HeadRead bytes (Ok h) = (header_fault bytes ≡ None) × Heads bytes h
HeadRead bytes (Err f) = header_fault bytes ≡ Some f

-- nothing, unless there is a fault
abbrev pub ok_unless : Option Fault → Result (Unit {0}) Fault
ok_unless None = Ok tt
ok_unless (Some f) = Err f

-- the smaller of a new end and the end before, if there was one
abbrev pub sooner : ℕ → Option ℕ → Option ℕ
sooner new None = Some new
sooner new (Some old) = Some (min new old)

-- the smallest end of these rows on core k, if there is one
abbrev pub earliest_end : ℕ → List Row → Option ℕ
earliest_end k rows = kept_end sooner k rows None

-- there is an end, and it is reached by the time
abbrev pub reached : ℕ → Option ℕ → Bool
reached time None = false
reached time (Some end) = nat_le end time

-- question 7 of row r at core k, by the earliest end on that core; by a list of these
abbrev pub input_passes : ℕ → Row → ℕ → Option ℕ → Bool
input_passes cores r k earliest = not (has r.inputs k) || (not (on k r) && (nat_lt k cores && reached r.start earliest))

abbrev pub passes_by : ℕ → Row → List (Option ℕ) → ℕ → Bool
passes_by cores r ends k = input_passes cores r k (slice_index_or ends k None)
