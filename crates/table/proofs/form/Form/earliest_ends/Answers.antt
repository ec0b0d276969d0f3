use Rattle.std.proofs.Common.{◌≡◌, get_or, None, Some, ◌∙◌, rules}
use Rattle.std.proofs.lemmas.List.{length-set}
use Rattle.table.specs.Reading.{sooner}
use Rattle.table.proofs.Scans.{kept_more}
use Rattle.table.proofs.form.Form.earliest_ends.Goals as goal

pub loop-task-preserved : goal.loop-task-preserved
loop-task-preserved c =
    let row = c.row-row.result in
    let k = c.from-core.result in
    let ends = c.loop-task.ends in
    let new : Some c.map_or.result ≡ sooner row.end (get_or ends k None) = search rules in
    record {
      room = length-set ends k (Some c.map_or.result) ∙ c.loop-task.invariant.room;
      each = kept_more sooner None c.args.self.now.bytes.now c.loop-task.task row c.row-row.ensures.is k c.from-core.ensures ends c.loop-task.invariant.room (Some c.map_or.result) new c.loop-task.invariant.each;
    }
