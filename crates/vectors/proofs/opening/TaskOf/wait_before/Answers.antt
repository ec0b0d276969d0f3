use Rattle.std.proofs.Common.{◌≡◌, ℕ, ◌-◌, cond, eqb, None, Option, rules, sym, ap, ◌∙◌, ⊎_elim, arith}
use Rattle.std.specs.Option.{option_map_or}
use Rattle.std.proofs.lemmas.List.Sums.{sum_by-take-le}
use Rattle.std.proofs.lemmas.Bool.{cases_eq, eq-eqb, ne_eqb, cond-true, cond-false}
use Rattle.table.specs.Rows.{named, nth_on, on, row, wait}
use Rattle.table.specs.View.{plan_of}
use Rattle.table.specs.declared.lawful.Table.{Table}
use Rattle.table.proofs.Tables.{task_at}
use Rattle.vectors.specs.Links.{place, wait_before}
use Rattle.vectors.proofs.opening.TaskOf.wait_before.Goals as goal

-- the wait of the task before, if there is one: only the first task of a core has none
waits : (t : Table) (x k : ℕ) (o : Option ℕ) → let p = plan_of t in o ≡ cond (eqb (place p x) 0) None (named (nth_on (row p x).core (place p x - 1) 0 p.rows)) →
    option_map_or (λ b. wait p.rows (row p b) k) o 0 ≡ wait_before p x k
waits t x k o h =
    let p = plan_of t in
    let f : Option ℕ → ℕ = λ y. option_map_or (λ b. wait p.rows (row p b) k) y 0 in
    ⊎_elim
    (λ e. let first = eq-eqb (place p x) 0 e in ap f (h ∙ cond-true (eqb (place p x) 0) _ _ first) ∙ sym (cond-true (eqb (place p x) 0) _ _ first))
    (λ n.
    let later = ne_eqb (place p x) 0 n in
    let at = task_at t (row p x).core (place p x - 1) (omega (arith, n, sum_by-take-le (λ r. cond (on (row p x).core r) 1 0) p.rows x)) in
    ap f (h ∙ (cond-false (eqb (place p x) 0) _ _ later ∙ at)) ∙ sym (cond-false (eqb (place p x) 0) _ _ later))
    (cases_eq (place p x) 0)

pub returns : goal.returns
returns c =
    let p = plan_of c.args.self.now.table.now in
    let e : c.map_or.result ≡ option_map_or (λ b. wait p.rows (row p b) c.args.core) c.args.before 0 = search rules in
    e ∙ waits c.args.self.now.table.now c.args.self.now.task c.args.core c.args.before c.requires
