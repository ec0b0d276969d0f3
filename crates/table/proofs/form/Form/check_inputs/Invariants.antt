use Rattle.std.proofs.Common.{◌≡◌, ◌-◌}
use Rattle.table.specs.Layout.{described}
use Rattle.table.specs.Questions.{input_fault, first_fault}
use Rattle.table.proofs.form.Form.check_inputs.Given as goal

abbrev pub invariant-loop-task : goal.invariant-loop-task
invariant-loop-task l = first_fault (input_fault (described l.self.bytes.now)) 0 l.self.header.tasks ≡ first_fault (input_fault (described l.self.bytes.now)) l.task (l.self.header.tasks - l.task)
