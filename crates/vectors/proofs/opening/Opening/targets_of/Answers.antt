use Rattle.std.proofs.Common.{rules}
use Rattle.table.specs.View.{plan_of}
use Rattle.vectors.specs.Links.{first_target}
use Rattle.table.proofs.FromFn.{from_fn_is}
use Rattle.vectors.proofs.opening.Opening.targets_of.Goals as goal

pub returns : goal.returns
returns c = from_fn_is (first_target (plan_of c.args.self.now.table.now) c.args.task) _ c.from_fn.ensures.items (λ i x q h. (search rules, cc))
