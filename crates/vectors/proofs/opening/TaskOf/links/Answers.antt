use Rattle.std.proofs.Common.{◌≡◌, ℕ, List, Option, rules}
use Rattle.table.specs.View.{plan_of}
use Rattle.vectors.specs.Links.{completer}
use Rattle.vectors.specs.declared.state.TaskLinks.{TaskLinks}
use Rattle.table.proofs.FromFn.{from_fn_is}
use Rattle.vectors.proofs.opening.TaskOf.links.Goals as goal

-- links are what their parts are
both : (a b : List (Option ℕ)) (x y : Option ℕ) → a ≡ b → x ≡ y → ◌≡◌ {A = TaskLinks} (record { completers = a; following = x }) (record { completers = b; following = y })
both a b x y e f = cc

pub returns : goal.returns
returns c = both _ _ _ _ (from_fn_is (completer (plan_of c.args.self.now.table.now) c.args.self.now.task) _ c.from_fn.ensures.items (λ i x q h. (search rules, cc))) c.following.ensures
