use Rattle.std.proofs.Common.{rules}
use borrow.Author.Tests.{tests}
use Rattle.table.specs.Below.{any_below}
use Rattle.board.specs.Steps.{is_waiting}
use Rattle.board.specs.Meaning.{droppable}
use Rattle.board.specs.Standing.{plan_at, progress_at}
use Rattle.board.specs.Keeping.{waiting_left}
use Rattle.board.proofs.Asking.{asked_with}
use Rattle.board.proofs.count.CountBoardBoard.easable.Goals as goal

pub returns : goal.returns
returns c =
    let x = c.args.self.now.progress in
    let k = c.args.core in
    asked_with x k is_waiting (λ s t. any_below (plan_at x).cores (droppable (plan_at x) (progress_at x) k t)) waiting_left c.core-step.result c.next-next.result c.is_some_and.result c.core-step.ensures c.next-next.ensures
    _ (λ t h. search (rules, tests)) c.is_some_and.ensures
