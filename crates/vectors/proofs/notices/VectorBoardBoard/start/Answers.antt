use Rattle.std.proofs.Common.{◌≡◌, true, refl, ◌∙◌}
use Rattle.std.proofs.lemmas.Bool.{both_ways}
use Rattle.vectors.specs.Phases.{board_started}
use Rattle.vectors.specs.Reached.{by_start}
use Rattle.vectors.specs.View.{plan_on, standing_of}
use Rattle.vectors.proofs.Orders.{refused, started_done, clear_pending, reached_on, linked_on}
use Rattle.vectors.proofs.Stands.{clear_means}
use Rattle.vectors.proofs.notices.VectorBoardBoard.start.Goals as goal

-- no task was named: the answer is no, and nothing is changed
pub returns-in_default : goal.returns-in_default
returns-in_default c =
    let b = c.args.self.now in
    let k = c.args.core in
    let q = refused b k _ _ _ _ (clear_means b k) c.in_default.ensures in
    record { answer = q.answer; plan = refl; kept = λ _. refl; progress = q.progress; standing = q.standing }

-- a task was named: the answer is yes, and the state is the one that the order defines
pub invariant_of-self : goal.invariant_of-self
invariant_of-self c =
    let b = c.args.self.now in
    let k = c.args.core in
    let yes : c.run.result ≡ true = c.run.ensures.answer ∙ clear_pending b k c.in-Some.task c.in-Some.ensures in
    let q = started_done b k c.in-Some.task c.run.new.self c.start.new.self c.in-Some.ensures c.run.result yes c.run.ensures.progress c.start.ensures in
    record { reached = reached_on b c.run.new.self c.start.new.self (board_started (plan_on b) (standing_of b) k) c.run.ensures.plan q.standing (by_start (standing_of b) k); linked = linked_on b c.run.new.self c.run.ensures.plan }

pub returns : goal.returns
returns c =
    let b = c.args.self.now in
    let k = c.args.core in
    let yes : c.run.result ≡ true = c.run.ensures.answer ∙ clear_pending b k c.in-Some.task c.in-Some.ensures in
    let q = started_done b k c.in-Some.task c.run.new.self c.start.new.self c.in-Some.ensures c.run.result yes c.run.ensures.progress c.start.ensures in
    record { answer = q.answer; plan = c.run.ensures.plan; kept = λ h. absurd (both_ways c.run.result h yes); progress = q.progress; standing = q.standing }
