use Rattle.std.proofs.Common.{◌≡◌, true, refl, ◌∙◌}
use Rattle.std.proofs.lemmas.Bool.{both_ways}
use Rattle.vectors.specs.Phases.{board_eased}
use Rattle.vectors.specs.Reached.{by_easing}
use Rattle.vectors.specs.View.{plan_on, standing_of}
use Rattle.vectors.proofs.Orders.{refused, eased_done, easable_waiting, reached_on, linked_on}
use Rattle.vectors.proofs.Stands.{easable_means}
use Rattle.vectors.proofs.notices.VectorBoardBoard.ease.Goals as goal

-- no task was named: the answer is no, and nothing is changed
pub returns-in_default : goal.returns-in_default
returns-in_default c =
    let b = c.args.self.now in
    let k = c.args.core in
    let q = refused b k _ _ _ _ (easable_means b k) c.in_default.ensures in
    record { answer = q.answer; plan = refl; kept = λ _. refl; progress = q.progress; standing = q.standing }

-- a task was named: the answer is yes, and the state is the one that the order defines
pub invariant_of-self : goal.invariant_of-self
invariant_of-self c =
    let b = c.args.self.now in
    let k = c.args.core in
    let yes : c.loosen.result ≡ true = c.loosen.ensures.answer ∙ easable_waiting b k c.in-Some.task c.in-Some.ensures in
    let q = eased_done b k c.in-Some.task c.loosen.new.self c.ease.new.self c.in-Some.ensures c.loosen.result yes c.loosen.ensures.progress c.inputs-inputs.result c.inputs-inputs.ensures c.ease.ensures in
    record { reached = reached_on b c.loosen.new.self c.ease.new.self (board_eased (plan_on b) (standing_of b) k) c.loosen.ensures.plan q.standing (by_easing (standing_of b) k); linked = linked_on b c.loosen.new.self c.loosen.ensures.plan }

pub returns : goal.returns
returns c =
    let b = c.args.self.now in
    let k = c.args.core in
    let yes : c.loosen.result ≡ true = c.loosen.ensures.answer ∙ easable_waiting b k c.in-Some.task c.in-Some.ensures in
    let q = eased_done b k c.in-Some.task c.loosen.new.self c.ease.new.self c.in-Some.ensures c.loosen.result yes c.loosen.ensures.progress c.inputs-inputs.result c.inputs-inputs.ensures c.ease.ensures in
    record { answer = q.answer; plan = c.loosen.ensures.plan; kept = λ h. absurd (both_ways c.loosen.result h yes); progress = q.progress; standing = q.standing }
