use Rattle.std.proofs.Common.{◌≡◌, ap, ◌∙◌}
use Rattle.table.specs.View.{plan_of}
use Rattle.board.specs.Meaning.{rest}
use Rattle.board.specs.Standing.{untouched}
use Rattle.board.proofs.Changes.{untouched_rest}
use Rattle.board.proofs.cores.CoreRow.at_start.Goals as goal

pub returns : goal.returns
returns c =
    let p = plan_of c.args.table.now in
    let e : c.untouched-step.result ≡ rest p c.args.core 0 = c.untouched-step.ensures ∙ (ap untouched c.first_on-next.ensures ∙ untouched_rest c.args.table.now c.args.core 0) in
    let n = c.first_on-next.ensures in
    cc
