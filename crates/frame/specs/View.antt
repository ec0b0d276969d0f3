-- What a frame value stands for.
use Rattle.std.specs.Prelude.{ℕ, ◌<◌, length, take, Some, None, Option}
use Rattle.board.specs.declared.Board.{Ghosts}
use Rattle.calls.specs.declared.Call.{Call}
use Rattle.runs.specs.Calls.{State}
use Rattle.runs.specs.declared.Event.{Event}
use Rattle.frame.specs.declared.Frame.{Frame}

-- what a frame remembers; g is the meaning of its board
abbrev pub state_of : {B R : Type 0} → Ghosts B → Frame B R → State
state_of g f = record {
  plan = g.plan f.board;
  progress = g.progress f.board;
  latest = f.latest;
  records = take (length (g.plan f.board).rows) f.records;
}

-- the call of an event
abbrev pub call_of : Event → Call
call_of e = e.call

-- a number, if there is one, is below n
abbrev pub Within : ℕ → Option ℕ → Type 0
Within n None = Unit {0}
Within n (Some t) = t < n

-- a start, if there is one, is a time of a table
abbrev pub Soon : Option ℕ → Type 0
Soon o = Within 268435456 o
