use Rattle.std.proofs.Common.{rules}
use borrow.Author.Tests.{tests}
use Rattle.table.specs.Below.{all_below}
use Rattle.board.specs.Steps.{is_pending}
use Rattle.board.specs.Meaning.{free_of}
use Rattle.board.specs.Standing.{plan_at, progress_at}
use Rattle.board.specs.Keeping.{pending_left}
use Rattle.board.proofs.Asking.{asked_with}
use Rattle.board.proofs.count.CountBoardBoard.clear.Goals as goal

pub returns : goal.returns
returns c =
    let x = c.args.self.now.progress in
    let k = c.args.core in
    asked_with x k is_pending (λ s t. all_below (plan_at x).cores (free_of (plan_at x) (progress_at x) s t)) pending_left c.core-step.result c.next-next.result c.is_some_and.result c.core-step.ensures c.next-next.ensures
    _ (λ t h. search (rules, tests)) c.is_some_and.ensures
