use Rattle.std.proofs.Common.{◌≡◌, ap, ◌∙◌, arith}
use Rattle.table.specs.declared.rows.CoreSet.{CoreSet}
use Rattle.vectors.specs.Linked.{ease_linked}
use Rattle.vectors.proofs.state.Vectors.ease.Goals as goal

pub returns : goal.returns
returns c =
    let e : c.loop-other.other ≡ 8 = omega arith in
    c.loop-other.invariant ∙ (ap (λ n. ease_linked n c.args.links.now c.dropped-dropped.result c.args.self.now c.args.core c.args.task) e
    ∙ ap (λ (d : CoreSet). ease_linked 8 c.args.links.now d c.args.self.now c.args.core c.args.task) c.dropped-dropped.ensures)
