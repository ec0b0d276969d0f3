use Rattle.std.proofs.Common.{sym, ap, ◌∙◌}
use Rattle.table.specs.View.{plan_of}
use Rattle.board.specs.Meaning.{opened}
use Rattle.vectors.specs.Links.{links_of}
use Rattle.vectors.specs.Phases.{first_vectors}
use Rattle.vectors.specs.Reached.{standing}
use Rattle.vectors.proofs.Orders.{reached_first}
use Rattle.vectors.proofs.vector_board.VectorBoard.opened.Goals as goal

pub invariant_of-result : goal.invariant_of-result
invariant_of-result c =
    let p = plan_of c.args.table.now in
    let x = c.open.new.self in
    record {
      reached = reached_first p x c.vectors.result c.open.ensures.plan c.open.ensures.progress (c.vectors.ensures ∙ ap first_vectors c.new-opening.ensures);
      linked = c.new-opening.result.linked ∙ ap links_of (c.new-opening.ensures ∙ sym c.open.ensures.plan);
    }

pub returns-clause-standing : goal.returns-clause-standing
returns-clause-standing c =
    ap (λ cs. standing cs c.vectors.result) c.open.ensures.progress ∙ ap (standing (opened (plan_of c.args.table.now))) (c.vectors.ensures ∙ ap first_vectors c.new-opening.ensures)
