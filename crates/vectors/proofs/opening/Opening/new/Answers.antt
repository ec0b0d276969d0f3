use Rattle.std.proofs.Common.{rules}
use Rattle.table.specs.Sets.{set_of}
use Rattle.table.specs.View.{plan_of}
use Rattle.vectors.specs.Links.{begins}
use Rattle.table.proofs.FromFn.{from_fn_is}
use Rattle.vectors.proofs.opening.Opening.new.Goals as goal

pub invariant_of-result : goal.invariant_of-result
invariant_of-result c = record {
  linked = c.links.ensures;
  begun = from_fn_is (λ t. set_of (begins (plan_of c.args.table.now) t)) _ c.from_fn.ensures.items (λ i x q h. (search rules, cc));
}
