use Rattle.std.proofs.Common.{List, ap, replicate, rules}
use Rattle.table.specs.Sets.{none}
use Rattle.table.specs.View.{plan_of}
use Rattle.vectors.specs.Phases.{task_vectors}
use Rattle.vectors.specs.declared.state.TaskVectors.{TaskVectors}
use Rattle.table.proofs.FromFn.{from_fn_is}
use Rattle.vectors.proofs.opening.Opening.vectors.Goals as goal

pub returns : goal.returns
returns c = ap (λ (ts : List TaskVectors). record { tasks = ts; status = replicate 8 none }) (from_fn_is (task_vectors (plan_of c.args.self.now.table.now)) _ c.from_fn.ensures.items (λ i x q h. (search rules, cc)))
