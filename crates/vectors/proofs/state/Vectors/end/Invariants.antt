use Rattle.std.proofs.Common.{◌≡◌}
use Rattle.vectors.specs.Phases.{end_vectors}
use Rattle.vectors.proofs.state.Vectors.end.Given as goal

abbrev pub invariant-loop-to : goal.invariant-loop-to
invariant-loop-to l = l.self ≡ end_vectors l.to l.initial.self l.core l.task
