use Rattle.std.proofs.Common.{is_some, ap, ◌∙◌}
use Rattle.vectors.proofs.Stands.{some_if, clear_means}
use Rattle.vectors.proofs.notices.VectorBoardBoard.clear.Goals as goal

pub returns : goal.returns
returns c = c.is_some.ensures ∙ (ap is_some c.clear_task.ensures ∙ (some_if _ c.args.self.now c.args.core ∙ clear_means c.args.self.now c.args.core))
