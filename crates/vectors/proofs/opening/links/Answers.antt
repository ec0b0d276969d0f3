use Rattle.std.proofs.Common.{List, ap, rules}
use Rattle.table.specs.View.{plan_of}
use Rattle.vectors.specs.Links.{task_links}
use Rattle.vectors.specs.declared.state.TaskLinks.{TaskLinks}
use Rattle.table.proofs.FromFn.{from_fn_is}
use Rattle.vectors.proofs.opening.links.Goals as goal

pub returns : goal.returns
returns c = ap (λ (xs : List TaskLinks). record { tasks = xs }) (from_fn_is (task_links (plan_of c.args.table.now)) _ c.from_fn.ensures.items (λ i x q h. (search rules, cc)))
