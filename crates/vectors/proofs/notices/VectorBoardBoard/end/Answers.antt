use Rattle.vectors.specs.Phases.{board_finished}
use Rattle.vectors.specs.Reached.{by_end}
use Rattle.vectors.specs.View.{plan_on, standing_of}
use Rattle.vectors.proofs.Orders.{ended_standing, reached_on, linked_on}
use Rattle.vectors.proofs.notices.VectorBoardBoard.end.Goals as goal

-- a task was named, and the state is the one that the order defines
pub invariant_of-self : goal.invariant_of-self
invariant_of-self c =
    let b = c.args.self.now in
    let k = c.args.core in
    let after = ended_standing b k c.in-Some.task c.end-2.new.self c.end.new.self c.in-Some.ensures c.end-2.ensures.progress c.end.ensures in
    record { reached = reached_on b c.end-2.new.self c.end.new.self (board_finished (plan_on b) (standing_of b) k) c.end-2.ensures.plan after (by_end (standing_of b) k); linked = linked_on b c.end-2.new.self c.end-2.ensures.plan }

pub returns-clause-standing : goal.returns-clause-standing
returns-clause-standing c = ended_standing c.args.self.now c.args.core c.in-Some.task c.end-2.new.self c.end.new.self c.in-Some.ensures c.end-2.ensures.progress c.end.ensures
