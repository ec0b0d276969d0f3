use Rattle.std.proofs.Common.{◌≡◌, not, ◌&&◌, ap, ◌∙◌, rules}
use borrow.Author.Tests.{tests}
use Rattle.table.specs.Below.{any_below}
use Rattle.table.specs.Rows.{row}
use Rattle.table.specs.Sets.{has}
use Rattle.board.specs.Keeping.{waiting_left}
use Rattle.board.specs.Steps.{is_waiting}
use Rattle.vectors.specs.Linked.{dropped}
use Rattle.vectors.specs.Phases.{drops}
use Rattle.vectors.specs.View.{plan_on}
use Rattle.vectors.proofs.Stands.{asked, some_dropped}
use Rattle.vectors.proofs.vector_board.VectorBoard.easable_task.Goals as goal

pub returns : goal.returns
returns c =
    let b = c.args.self.now in
    let k = c.args.core in
    asked b k is_waiting (λ s t. any_below 8 (drops (plan_on b) b.vectors k t)) waiting_left c.core-step.result c.next-next.result c.filter.result c.core-step.ensures c.next-next.ensures
    _ (λ t y h.
    let is : y ≡ (is_waiting c.core-step.result.step && not (not (any_below 8 (has (dropped b.vectors k t (row (plan_on b) t).inputs))))) = search (rules, tests) in
    is ∙ ap (λ z. is_waiting c.core-step.result.step && z) (some_dropped (plan_on b) b.vectors k t)) c.filter.ensures
