-- What is promised of every log is kept by every run.
use Rattle.std.proofs.Common.{List}
use Rattle.table.specs.Rows.{Plan}
use Rattle.table.specs.Lawful.{EmptyOrLawful}
use Rattle.table.proofs.Ordered.{ordered}
use Rattle.runs.specs.declared.Event.{Event}
use Rattle.runs.specs.Calls.{State}
use Rattle.runs.specs.Promises.{Promises}
use Rattle.runs.proofs.Run.{Run}
use Rattle.runs.proofs.Order.{in_turn, inputs_first, in_order}
use Rattle.runs.proofs.Splits.{prefix}
use Rattle.runs.proofs.OnTime.{on_time}
use Rattle.runs.proofs.Standstill.{no_standstill}

-- at every moment of a run, with any rules that keep their law, the promises hold
pub promises_kept : (p : Plan) → EmptyOrLawful p → {log : List Event} {s : State} → Run p log s → Promises p log
promises_kept p h r =
    let o = ordered p h in
    record {
      in_order = λ n. in_order o (prefix r n).1;
      in_turn = λ n. in_turn o (prefix r n).1;
      inputs_first = λ n. inputs_first o (prefix r n).1;
      on_time = λ n. on_time o (prefix r n).1;
      no_standstill = λ n. no_standstill o (prefix r n).1;
    }
