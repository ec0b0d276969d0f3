use Rattle.std.proofs.Common.{◌≡◌, ℕ, Bool, ◌<◌, true, false, ◌&&◌, get_or, sym, ap, ◌∙◌, arith}
use Rattle.std.proofs.lemmas.Bool.{and_left, and_right}
use Rattle.std.proofs.lemmas.List.FromFn.{get_or-map-range_with_len}
use Rattle.table.specs.Rows.{Plan, on, row}
use Rattle.table.specs.Sets.{has, none, set_of}
use Rattle.table.specs.View.{plan_of}
use Rattle.table.specs.declared.rows.CoreSet.{CoreSet}
use Rattle.table.specs.declared.rows.Row.{Row}
use Rattle.table.proofs.Sets.{set_at}
use Rattle.table.proofs.Tables.{core_below}
use Rattle.vectors.specs.Links.{begins, completer, is_task, completer_of}
use Rattle.vectors.specs.declared.opening.Opening.{Opening}
use Rattle.vectors.specs.declared.state.Links.{Links}
use Rattle.vectors.proofs.Stands.{completer_at}
use Rattle.vectors.proofs.opening.Opening.aims.Goals as goal

-- what the opening holds of task i and core k of task x
module _ (o : Opening) (x i k : ℕ) (l : i < 384) (own : k ≡ (row (plan_of o.table.now) x).core) where
  core_8 : k < 8
  core_8 = omega (arith, own, core_below o.table.now x)

  ready_is : has (get_or o.ready i none) k ≡ begins (plan_of o.table.now) i (row (plan_of o.table.now) x).core
  ready_is = let p = plan_of o.table.now in
      ap (λ (ss : _). has (get_or ss i none) k) o.begun
      ∙ (ap (λ (s : CoreSet). has s k) (get_or-map-range_with_len (λ t. set_of (begins p t)) 0 384 i i none l (omega arith))
      ∙ (set_at (begins p i) k core_8 ∙ ap (begins p i) own))

  completer_is : completer_of o.links i k ≡ completer (plan_of o.table.now) i (row (plan_of o.table.now) x).core
  completer_is = ap (λ (m : Links). completer_of m i k) o.linked ∙ (completer_at (plan_of o.table.now) i k l core_8 ∙ ap (completer (plan_of o.table.now) i) own)

-- whether row i lies on core k, as the code asks it
lies : (p : Plan) (i k : ℕ) (b : Bool) (r : Row) → r ≡ row p i → b ≡ on k r → on k (row p i) ≡ b
lies p i k b r is asked = ap (on k) (sym is) ∙ sym asked

pub returns-then-contains : goal.returns-then-contains
returns-then-contains c =
    let o = c.args.self.now in
    let p = plan_of o.table.now in
    let x = c.args.task in
    let i = c.args.i in
    let own : c.from-own.result ≡ (row p x).core = c.from-own.ensures ∙ ap (λ (r : Row). r.core) c.row-2.ensures.is in
    let a : on c.args.core (row p i) ≡ true = lies p i c.args.core c.lies_on.result c.row.result c.row.ensures.is c.lies_on.ensures ∙ c.if-not-lies_on.false in
    let b : begins p i (row p x).core ≡ true = sym (ready_is o x i c.from-own.result c.requires own) ∙ (ap (λ n. has (get_or o.ready n none) c.from-own.result) (sym c.from.ensures) ∙ (sym c.contains.ensures ∙ c.if-contains.true)) in
    let d = c.eq.ensures ∙ ap (is_task x) (c.completer.ensures ∙ completer_is o x i c.from-own.result c.requires own) in
    d ∙ sym (ap (λ y. y && (begins p i (row p x).core && is_task x (completer p i (row p x).core))) a ∙ ap (λ y. y && is_task x (completer p i (row p x).core)) b)

pub returns-else-contains : goal.returns-else-contains
returns-else-contains c =
    let o = c.args.self.now in
    let p = plan_of o.table.now in
    let x = c.args.task in
    let i = c.args.i in
    let own : c.from-own.result ≡ (row p x).core = c.from-own.ensures ∙ ap (λ (r : Row). r.core) c.row-2.ensures.is in
    let b : begins p i (row p x).core ≡ false = sym (ready_is o x i c.from-own.result c.requires own) ∙ (ap (λ n. has (get_or o.ready n none) c.from-own.result) (sym c.from.ensures) ∙ (sym c.contains.ensures ∙ c.if-contains.false)) in
    c.if-contains.false ∙ sym (and_right (on c.args.core (row p i)) _ (and_left _ _ b))
