use Rattle.std.proofs.Common.{rules}
use Rattle.board.specs.Keeping.{left_at}
use Rattle.board.proofs.progress.Progress.advance.Goals as goal
use Rattle.board.proofs.Changes.{moves, moves_kept}

pub invariant_of-self : goal.invariant_of-self
invariant_of-self g c =
    let x = c.args.self.now in
    let k = c.args.core in record { ok = moves_kept x k c.args.to c.move_to.new.self (left_at x k (c.requires.left (search rules))) c.move_to.ensures c.requires.more }

pub returns-clause-progress : goal.returns-clause-progress
returns-clause-progress g c =
    let x = c.args.self.now in
    let k = c.args.core in
    moves x k c.args.to c.move_to.new.self (left_at x k (c.requires.left (search rules))) c.move_to.ensures
