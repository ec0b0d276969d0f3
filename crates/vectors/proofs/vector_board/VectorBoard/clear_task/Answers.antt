use Rattle.std.proofs.Common.{rules}
use borrow.Author.Tests.{tests}
use Rattle.board.specs.Keeping.{pending_left}
use Rattle.board.specs.Steps.{is_pending}
use Rattle.vectors.specs.Phases.{noticed}
use Rattle.vectors.proofs.Stands.{asked}
use Rattle.vectors.proofs.vector_board.VectorBoard.clear_task.Goals as goal

pub returns : goal.returns
returns c =
    let b = c.args.self.now in
    let k = c.args.core in
    asked b k is_pending (λ s t. noticed b.vectors k t) pending_left c.core-step.result c.next-next.result c.filter.result c.core-step.ensures c.next-next.ensures
    _ (λ t y h. search (rules, tests)) c.filter.ensures
