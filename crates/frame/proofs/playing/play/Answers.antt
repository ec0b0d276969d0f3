use Rattle.std.proofs.Common.{◌<◌, length, refl, ◌∙◌, arith}
use Rattle.std.proofs.lemmas.List.{take_all}
use Rattle.table.specs.View.{plan_of}
use Rattle.table.proofs.Tables.{table_sound}
use Rattle.calls.specs.declared.Call.TheVariants.{Ask}
use Rattle.calls.specs.declared.Answer.TheVariants.{Over}
use Rattle.calls.specs.declared.Reply.TheVariants.{Told}
use Rattle.runs.specs.declared.Event.{Event}
use Rattle.runs.proofs.Run.{Run}
use Rattle.runs.proofs.Kept.{promises_kept}
use Rattle.frame.specs.View.{state_of}
use Rattle.frame.proofs.playing.play.Goals as goal
use Rattle.frame.proofs.Calling.{run_filled, calls_filled, played_more}

-- what stands past the end of a list of events
abbrev none : Event
none = record { call = Ask 0 0; reply = Told Over }

pub loop-event-init : goal.loop-event-init
loop-event-init g c = let e = c.open-frame.ensures.frame in record { calls = refl; left = rw e refl; run = rw e Run.begun }

pub loop-event-preserved : goal.loop-event-preserved
loop-event-preserved g c =
    let es = c.loop-event.events in
    let i = c.loop-event.event-index in
    let q = c.loop-event.frame.rule in
    let s = state_of g.B.Board c.loop-event.frame in
    let after = state_of g.B.Board c.fill.new.self in
    let x = c.fill.new.event in
    let l : i < length es = omega arith in
    let f = c.fill.ensures in
    record {
      calls = calls_filled es i none l x f.call ∙ c.loop-event.invariant.calls;
      left = played_more es i none l x f.call g.R.Rule.says g.R.Rule.after q c.fill.new.self.rule s after f.outcome f.rule ∙ c.loop-event.invariant.left;
      run = run_filled es i none l x f.call (plan_of c.args.table.now) s after (g.R.Rule.says q) (g.met.R.Rule.covered q) f.outcome c.loop-event.invariant.run;
    }

pub returns-clause-promises : goal.returns-clause-promises
returns-clause-promises g c =
    let p = plan_of c.args.table.now in
    let run : Run p c.loop-event.events (state_of g.B.Board c.loop-event.frame) = rw (take_all c.loop-event.event-index c.loop-event.events (omega arith)) at c.loop-event.invariant.run in
    promises_kept p (table_sound c.args.table.now) run
