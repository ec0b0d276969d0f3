use Rattle.std.proofs.Common.{◌≡◌, [], map, take, drop}
use Rattle.table.specs.View.{plan_of}
use Rattle.runs.specs.Calls.{opening, played}
use Rattle.runs.proofs.Run.{Run}
use Rattle.frame.specs.View.{state_of, call_of}
use Rattle.frame.proofs.playing.play.Given as goal

-- the calls are as they were, what is left to play comes to the same, and what was played is a run
abbrev pub invariant-loop-event : goal.invariant-loop-event
invariant-loop-event g l = record {
  calls : map call_of l.events ≡ map call_of l.initial.events;
  left : played g.R.Rule.says g.R.Rule.after (map call_of (drop l.event-index l.events)) l.frame.rule (state_of g.B.Board l.frame) (take l.event-index l.events)
      ≡ played g.R.Rule.says g.R.Rule.after (map call_of l.initial.events) l.initial.frame.rule (opening (plan_of l.table)) [];
  run : Run (plan_of l.table) (take l.event-index l.events) (state_of g.B.Board l.frame);
}
