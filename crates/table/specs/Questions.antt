-- The questions that load asks, in their order, and what it makes of bytes.
use Rattle.std.specs.Prelude.{ℕ, zero, suc, ◌+◌, ◌*◌, Bool, false, cond, not, ◌&&◌, ◌||◌, List, [], ◌∷◌, length, take, Some, None, Ok, Err, Option, Result, ◌==◌, nat_le, nat_lt, slice_index}
use Rattle.table.specs.Below.{all_below}
use Rattle.table.specs.Sets.{has}
use Rattle.table.specs.Rows.{Plan, row, on, ends_by, last_end}
use Rattle.table.specs.Layout.{tasks_of, described}
use Rattle.table.specs.declared.rows.Row.{Row}
use Rattle.table.specs.declared.faults.Fault.{Fault}
use Rattle.table.specs.declared.faults.Fault.TheVariants.{NotATable, TaskCount, WrongLength, NoSuchCore, BadSpan, OutOfOrder, BadInputs}

-- questions 1 to 3: the mark, the number of tasks, the length
abbrev pub header_fault : List ℕ → Option Fault
header_fault bytes =
    cond (not (nat_le 6 (length bytes) && slice_index bytes 0 == 87)) (Some NotATable)
    (cond (not (nat_le 1 (tasks_of bytes) && nat_le (tasks_of bytes) 384)) (Some TaskCount)
    (cond (not (length bytes == 6 + 11 * tasks_of bytes)) (Some WrongLength) None))

-- questions 4 to 6 of row t, where the row before it on its core ends at `before`, 0 if there is none
abbrev pub span_fault : ℕ → ℕ → ℕ → Row → ℕ → Option Fault
span_fault cores ticks t r before =
    cond (not (nat_lt r.core cores)) (Some (NoSuchCore t))
    (cond (not (nat_lt r.start r.end && nat_le r.end ticks)) (Some (BadSpan t))
    (cond (not (nat_le before r.start)) (Some (OutOfOrder t)) None))

abbrev pub place_fault : Plan → ℕ → Option Fault
place_fault p t = span_fault p.cores p.ticks t (row p t) (last_end (row p t).core (take t p.rows))

-- some of the rows lies on core k and ends by the time
abbrev pub some_ends_by : ℕ → ℕ → List Row → Bool
some_ends_by k time [] = false
some_ends_by k time (r ∷ rs) = ends_by k time r || some_ends_by k time rs

-- if a data bit of row r names core k, that is another core of the table, on which some row ends by r's start
abbrev pub input_ok : Plan → Row → ℕ → Bool
input_ok p r k = not (has r.inputs k) || (not (on k r) && (nat_lt k p.cores && some_ends_by k r.start p.rows))

-- question 7 of row t, for each of its 8 data bits
abbrev pub input_fault : Plan → ℕ → Option Fault
input_fault p t = cond (not (all_below 8 (input_ok p (row p t)))) (Some (BadInputs t)) None

-- the first fault, or else the second
abbrev pub or_else : Option Fault → Option Fault → Option Fault
or_else (Some f) g = Some f
or_else None g = g

-- the first fault that a question finds among n rows from row t on
abbrev pub first_fault : (ℕ → Option Fault) → ℕ → ℕ → Option Fault
first_fault ask t zero = None
first_fault ask t (suc n) = or_else (ask t) (first_fault ask (suc t) n)

-- questions 4 to 6 of each row in turn, then question 7 of each
abbrev pub rows_fault : Plan → Option Fault
rows_fault p = or_else (first_fault (place_fault p) 0 (length p.rows)) (first_fault (input_fault p) 0 (length p.rows))

-- the plan, unless there is a fault
abbrev pub unless : Option Fault → Plan → Result Plan Fault
unless None p = Ok p
unless (Some f) p = Err f

-- the table that the bytes hold, or the fault of the first question that is answered no
abbrev pub loaded : List ℕ → Result Plan Fault
loaded bytes = unless (or_else (header_fault bytes) (rows_fault (described bytes))) (described bytes)

-- what load answers: the number of tasks, or the fault
abbrev pub answered : Result Plan Fault → Result ℕ Fault
answered (Ok p) = Ok (length p.rows)
answered (Err f) = Err f

-- the plan that load leaves: the loaded one, or the former
abbrev pub left_by : Result Plan Fault → Plan → Plan
left_by (Ok p) former = p
left_by (Err f) former = former
