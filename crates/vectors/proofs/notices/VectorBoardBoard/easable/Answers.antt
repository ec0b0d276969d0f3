use Rattle.std.proofs.Common.{is_some, ap, ◌∙◌}
use Rattle.vectors.proofs.Stands.{some_if, easable_means}
use Rattle.vectors.proofs.notices.VectorBoardBoard.easable.Goals as goal

pub returns : goal.returns
returns c = c.is_some.ensures ∙ (ap is_some c.easable_task.ensures ∙ (some_if _ c.args.self.now c.args.core ∙ easable_means c.args.self.now c.args.core))
