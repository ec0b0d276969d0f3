use Rattle.std.proofs.Common.{ap, ◌∙◌}
use Rattle.vectors.specs.Reached.{first_standing}
use Rattle.vectors.proofs.vector_board.VectorBoard.new.Goals as goal

pub returns-clause-standing : goal.returns-clause-standing
returns-clause-standing c = c.opened.ensures.standing ∙ ap first_standing c.new.ensures
