-- What a frame notes of a task.
use Rattle.std.specs.Prelude.{ℕ, Bool, true, false}
use Rattle.runs.specs.declared.Record.{Record}
use Rattle.runs.specs.declared.Manner.{Manner}
use Rattle.runs.specs.declared.Manner.TheVariants.{NotStarted, InTurn, Loose}

-- the number of a manner
abbrev pub manner_number : Manner → ℕ
manner_number NotStarted = 0
manner_number InTurn = 1
manner_number Loose = 2

-- the task was started before its turn
abbrev pub went_loose : Manner → Bool
went_loose NotStarted = false
went_loose InTurn = false
went_loose Loose = true

-- the record of a task that has not started; that started at a time; and the same record when the task has ended
abbrev pub fresh : Record
fresh = record { manner = NotStarted; start = 0; ended = false; end = 0 }

abbrev pub started_at : ℕ → Manner → Record
started_at time m = record fresh { manner = m; start = time }

abbrev pub ended_at : ℕ → Record → Record
ended_at time r = record r { ended = true; end = time }
