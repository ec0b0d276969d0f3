use Rattle.std.proofs.Common.{Err, sym, refl, ap, ◌∙◌}
use Rattle.std.proofs.lemmas.List.{length-set}
use Rattle.std.proofs.lemmas.Result.{err_from_is_err_and}
use Rattle.table.specs.Layout.{described}
use Rattle.table.specs.Questions.{place_fault}
use Rattle.table.specs.Reading.{ok_unless}
use Rattle.table.proofs.Scans.{fault_of, no_fault_of, scan_found, scan_more, kept_more, place_asked}
use Rattle.table.proofs.form.Form.check_places.Goals as goal

pub returns-in_err-check_span : goal.returns-in_err-check_span
returns-in_err-check_span c =
    let form = c.args.self.now in
    let t = c.loop-task.task in
    let f = c.in_err-check_span.field-0.0 in
    let p = err_from_is_err_and c.from_residual.result c.from_residual.ensures.1 in
    let asked = place_asked form.bytes.now form.header form.heads t c.loop-task-test.true c.row-row.result c.row-row.ensures.is c.from-core.result c.from-core.ensures c.loop-task.last_ends c.loop-task.invariant.ends in
    p.1 ∙ (ap Err p.2 ∙ sym (ap ok_unless (c.loop-task.invariant.asked ∙ scan_found (place_fault (described form.bytes.now)) t form.header.tasks f c.loop-task-test.true (asked ∙ fault_of _ f c.in_err-check_span.ensures))))

pub loop-task-preserved : goal.loop-task-preserved
loop-task-preserved c =
    let form = c.args.self.now in
    let bytes = form.bytes.now in
    let t = c.loop-task.task in
    let row = c.row-row.result in
    let k = c.from-core.result in
    let ends = c.loop-task.last_ends in
    let asked = place_asked bytes form.header form.heads t c.loop-task-test.true row c.row-row.ensures.is k c.from-core.ensures ends c.loop-task.invariant.ends in
    record {
      room = length-set ends k row.end ∙ c.loop-task.invariant.room;
      ends = kept_more (λ new old. new) 0 bytes t row c.row-row.ensures.is k c.from-core.ensures ends c.loop-task.invariant.room row.end refl c.loop-task.invariant.ends;
      asked = c.loop-task.invariant.asked ∙ scan_more (place_fault (described bytes)) t form.header.tasks c.loop-task-test.true (asked ∙ no_fault_of _ c.in_ok-check_span.ensures);
    }
