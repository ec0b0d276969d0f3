use Rattle.std.proofs.Common.{◌≡◌, ℕ, ◌<◌, Bool}
use Rattle.vectors.proofs.Filling.{gathered}
use Rattle.vectors.proofs.opening.cores_where.Given as goal

abbrev pub invariant-loop-k : goal.invariant-loop-k
invariant-loop-k g l = (f : ℕ → Bool) → ((k : ℕ) (b : Bool) → k < 8 → goal.F-post g l.test k b → b ≡ f k) → l.cores ≡ gathered f l.k
