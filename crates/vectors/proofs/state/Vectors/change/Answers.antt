use Rattle.std.proofs.Common.{◌≡◌, List, get_or, set, refl, ap, ◌∙◌, arith}
use Rattle.std.proofs.lemmas.List.{get_or_default}
use Rattle.vectors.specs.Phases.{no_vectors, vectors_at}
use Rattle.vectors.specs.declared.state.TaskVectors.{TaskVectors}
use Rattle.vectors.proofs.state.Vectors.change.Goals as goal

pub returns-then-at-lt384 : goal.returns-then-at-lt384
returns-then-at-lt384 g c to h =
    let v = c.args.self.now in
    let shown : get_or v.tasks c.from-at.result _ ≡ vectors_at v c.args.task = get_or_default v.tasks c.from-at.result _ no_vectors (omega arith) ∙ ap (λ n. get_or v.tasks n no_vectors) c.from-at.ensures in
    let is : c.by.new.arg2 ≡ to = h c.by.new.arg2 (record { shown = _; shows = shown; left = _; met = c.by.ensures; leaves = refl }) in
    ap (λ (ts : List TaskVectors). record v { tasks = ts }) (ap (set v.tasks c.from-at.result) is ∙ ap (λ n. set v.tasks n to) c.from-at.ensures)
