use Rattle.std.proofs.Common.{rules}
use borrow.Author.Tests.{tests}
use Rattle.vectors.proofs.Stands.{tested, none_running}
use Rattle.vectors.proofs.vector_board.VectorBoard.running_task.Goals as goal

pub returns : goal.returns
returns c =
    let b = c.args.self.now in
    let k = c.args.core in
    tested b k _ c.next-next.result c.filter.result c.next-next.ensures _ (none_running b k) (λ t y d h. search (rules, tests)) c.filter.ensures
