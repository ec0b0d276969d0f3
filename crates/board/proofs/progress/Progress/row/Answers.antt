use Rattle.std.proofs.Common.{sym, arith}
use Rattle.board.proofs.progress.Progress.row.Goals as goal
use Rattle.board.proofs.Changes.{next_known, next_off}

pub returns-then-core-from-clause-next : goal.returns-then-core-from-clause-next
returns-then-core-from-clause-next c = next_known c.args.self.now c.args.core (omega (arith, c.if-core-from.true, c.from.ensures, c.cores.ensures.is))

pub returns-else-core-from-clause-next : goal.returns-else-core-from-clause-next
returns-else-core-from-clause-next c = sym (next_off c.args.self.now c.args.core (omega (arith, c.if-core-from.false, c.from.ensures, c.cores.ensures.is)))
