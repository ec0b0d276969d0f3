use Rattle.std.proofs.Common.{sym, ap, ◌∙◌, arith}
use Rattle.table.specs.Rows.{named}
use Rattle.table.proofs.Tables.{after_task, after_none, task_small}
use Rattle.board.specs.Meaning.{ended_on}
use Rattle.board.specs.Standing.{progress_at}
use Rattle.board.proofs.progress.Progress.after_next.Goals as goal

pub returns-in_err-task : goal.returns-in_err-task
returns-in_err-task c = c.from_residual.ensures ∙ sym (after_none c.args.self.now.table c.args.core (ended_on (progress_at c.args.self.now) c.args.core) (sym c.in_err-task.ensures))

pub overflow_add-task : goal.overflow_add-task
overflow_add-task c = omega (arith, task_small c.args.self.now.table c.args.core (ended_on (progress_at c.args.self.now) c.args.core) c.in_ok-task.task (sym c.in_ok-task.ensures))

pub returns : goal.returns
returns c = c.first_on.ensures ∙ ap named (after_task c.args.self.now.table c.args.core (ended_on (progress_at c.args.self.now) c.args.core) c.in_ok-task.task (sym c.in_ok-task.ensures))
