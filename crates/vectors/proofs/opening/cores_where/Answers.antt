use Rattle.std.proofs.Common.{sym, ◌∙◌, arith}
use Rattle.vectors.proofs.Filling.{gather_first, gather_yes, gather_no, gather_last}
use Rattle.vectors.proofs.opening.cores_where.Goals as goal
use Rattle.vectors.proofs.opening.cores_where.Goals.{then-test, else-test}

pub loop-k-init : goal.loop-k-init
loop-k-init g c f h = gather_first f

pub loop-k-preserved : goal.loop-k-preserved
loop-k-preserved g c f h =
    let sofar = c.loop-k.invariant f h in
    let is = h c.loop-k.k c.test.result (omega arith) c.test.ensures in
    elim c.if-test.branch [
      | then-test w ↦ w.cores-is ∙ (w.with-cores.ensures ∙ gather_yes f c.loop-k.k c.loop-k.cores sofar (sym is ∙ w.if-test.true))
      | else-test w ↦ w.cores-is ∙ gather_no f c.loop-k.k c.loop-k.cores sofar (sym is ∙ w.if-test.false)
    ]

pub returns : goal.returns
returns g c f h = gather_last f c.loop-k.k c.loop-k.cores (c.loop-k.invariant f h) (omega arith)
