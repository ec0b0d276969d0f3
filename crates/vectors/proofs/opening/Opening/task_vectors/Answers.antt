use Rattle.std.proofs.Common.{◌≡◌, ℕ, List, Option, get_or, is_some, None, ap, ◌∙◌, arith}
use Rattle.std.proofs.lemmas.List.FromFn.{get_or-map-range_with_len}
use Rattle.table.specs.Sets.{none, set_of}
use Rattle.table.specs.View.{plan_of}
use Rattle.table.specs.declared.rows.CoreSet.{CoreSet}
use Rattle.vectors.specs.Links.{begins, first_target}
use Rattle.vectors.specs.Phases.{task_vectors}
use Rattle.vectors.specs.declared.state.TaskVectors.{TaskVectors}
use Rattle.vectors.proofs.Filling.{set_same}
use Rattle.vectors.proofs.opening.Opening.task_vectors.Goals as goal

-- vectors are what their parts are
all_parts : (a b c d : CoreSet) (x y : List (Option ℕ)) → a ≡ b → c ≡ d → x ≡ y → ◌≡◌ {A = TaskVectors} (record { ready = a; notify = c; target = x }) (record { ready = b; notify = d; target = y })
all_parts a b c d x y e f g = cc

pub returns : goal.returns
unfolding task_vectors
returns c =
    let o = c.args.self.now in
    let p = plan_of o.table.now in
    let x = c.args.task in
    let ready : get_or o.ready c.from.result none ≡ set_of (begins p x) =
    ap (λ n. get_or o.ready n none) c.from.ensures ∙ (ap (λ ss. get_or ss x none) o.begun ∙ get_or-map-range_with_len (λ t. set_of (begins p t)) 0 384 x x none c.requires (omega arith)) in
    all_parts _ _ _ _ _ _ ready
    (c.told.ensures ∙ set_same (λ k. is_some (get_or c.targets_of-target.result k None)) (λ k. is_some (first_target p x k))
    (λ k l. ap is_some (ap (λ ts. get_or ts k None) c.targets_of-target.ensures ∙ get_or-map-range_with_len (first_target p x) 0 8 k k None l (omega arith)))) c.targets_of-target.ensures
