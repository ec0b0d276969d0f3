use Rattle.std.proofs.Common.{cond, not, Some, None, sym, ap, ◌∙◌}
use Rattle.table.specs.Layout.{described}
use Rattle.table.specs.Questions.{input_fault}
use Rattle.table.specs.Reading.{ok_unless}
use Rattle.table.specs.declared.faults.Fault.TheVariants.{BadInputs}
use Rattle.table.proofs.Scans.{scan_found, scan_more, input_asked}
use Rattle.table.proofs.form.Form.check_inputs.Goals as goal

pub returns-then-not-inputs_pass : goal.returns-then-not-inputs_pass
returns-then-not-inputs_pass c =
    let form = c.args.self.now in
    let t = c.loop-task.task in
    let asked = input_asked form.bytes.now form.header form.heads c.earliest_ends-earliest.result c.earliest_ends-earliest.ensures.each t c.loop-task-test.true c.row.result c.row.ensures.is c.inputs_pass.result c.inputs_pass.ensures in
    sym (ap ok_unless (c.loop-task.invariant ∙ scan_found (input_fault (described form.bytes.now)) t form.header.tasks (BadInputs t) c.loop-task-test.true
    (asked ∙ ap (λ b. cond (not b) (Some (BadInputs t)) None) c.if-not-inputs_pass.true)))

pub loop-task-preserved : goal.loop-task-preserved
loop-task-preserved c =
    let form = c.args.self.now in
    let t = c.loop-task.task in
    let asked = input_asked form.bytes.now form.header form.heads c.earliest_ends-earliest.result c.earliest_ends-earliest.ensures.each t c.loop-task-test.true c.row.result c.row.ensures.is c.inputs_pass.result c.inputs_pass.ensures in
    c.loop-task.invariant ∙ scan_more (input_fault (described form.bytes.now)) t form.header.tasks c.loop-task-test.true
    (asked ∙ ap (λ b. cond (not b) (Some (BadInputs t)) None) c.if-not-inputs_pass.false)
