use Rattle.std.proofs.Common.{◌≡◌}
use Rattle.vectors.specs.Linked.{ease_linked}
use Rattle.vectors.proofs.state.Vectors.ease.Given as goal

abbrev pub invariant-loop-other : goal.invariant-loop-other
invariant-loop-other l = l.self ≡ ease_linked l.other l.links l.dropped l.initial.self l.core l.task
