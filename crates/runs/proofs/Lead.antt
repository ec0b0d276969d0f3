-- Of the open cores, one runs or has every wait met.
use Rattle.std.proofs.Common.{◌≡◌, ℕ, zero, suc, ◌<◌, ◌≤◌, Bool, true, false, not, ◌||◌, eqb, ◌⊎◌, List, get_or, sym, refl, ap, ◌∙◌, subst, inl, inr, ⊎_elim, arith}
use Rattle.std.proofs.lemmas.Bool.{cases_Bool, cases_lt, cases_eq, both_ways, false≢true, not-true, not_from_true, not_from_false, eqb-true, eq-eqb, lt-ltb, leb-true, leb-false, le-leb, lt-leb, and_from, and_parts, and_cases, and_left, or_parts, or_cases, or_left, or_right}
use Rattle.table.specs.Below.{all_below}
use Rattle.table.specs.Rows.{row, tasks_on}
use Rattle.table.proofs.Below.{all_at, all_from}
use Rattle.table.proofs.Places.{before}
use Rattle.board.specs.Steps.{is_running, is_over}
use Rattle.board.specs.Meaning.{ended_on, step_of, met, free_of, clear}
use Rattle.board.proofs.Steps.{step_left}
use Rattle.runs.specs.declared.Event.{Event}
use Rattle.runs.specs.Records.{fresh}
use Rattle.runs.specs.Calls.{State, next_of, next_row, at_large}
use Rattle.runs.specs.Log.{has_started, let_loose, has_ended, runs}
use Rattle.runs.specs.Promises.{Task}
use Rattle.runs.proofs.Tasks.{At, at_next, at_task, at_below, same_at, awaited, wait_within}
use Rattle.runs.proofs.Agree.{loosed, Agree}
use Rattle.runs.proofs.Ways.{Open, AllMet}

-- where a test does not hold of all numbers, it fails at one
some_fails : (n : ℕ) (f : ℕ → Bool) → all_below n f ≡ false → (j : ℕ) × (j < n) × (f j ≡ false)
some_fails zero f h = absurd (false≢true (sym h))
some_fails (suc n) f h = ⊎_elim (λ e. (n, omega arith, e)) (λ e. let r = some_fails n f e in (r.0, omega (arith, r.1), r.2)) (and_cases (f n) (all_below n f) h)

-- an open core is not over
pub open_not : {log : List Event} {s : State} {k : ℕ} → Agree log s → Open s k → is_over (step_of s.progress k) ≡ false
open_not {k = k} g o = g.over k o.within ∙ lt-leb _ _ (at_below o.at)

-- an open core that does not run and has all waits met is clear
pub met_clear : {log : List Event} {s : State} {k : ℕ} → Agree log s → Open s k → is_running (step_of s.progress k) ≡ false → AllMet s k → clear s.plan s.progress k ≡ true
met_clear {log} {s} {k} g o r m = and_from _ _ (lt-ltb _ _ o.within) (and_from _ _ (step_left _ (open_not g o) r) (all_from s.plan.cores (free_of s.plan s.progress (step_of s.progress k) (next_of s k)) (λ j l. ⊎_elim
    (λ e. or_left _ _ (not_from_false _ (and_left _ _ (not_from_true _ (eq-eqb (next_row s k).core j (o.at.core ∙ sym e))))))
    (λ e. or_right _ _ (le-leb _ _ (m j l e)))
    (cases_eq j k))))

-- a core m that runs or has all waits met: k itself, or one whose task ends by the start of k's
pub record Lead (s : State) (k m : ℕ) : Type 0 where
  pub is_open : Open s m
  pub free : (is_running (step_of s.progress m) ≡ true) ⊎ AllMet s m
  pub sooner : (m ≡ k) ⊎ ((next_row s m).end ≤ (next_row s k).start)

-- what leads a core that k waits for leads k
lead_on : {s : State} {k j m : ℕ} → (next_row s j).start < (next_row s j).end → (next_row s j).end ≤ (next_row s k).start → Lead s j m → Lead s k m
lead_on {s} {k} {j} {m} span h l = record {
  is_open = l.is_open;
  free = l.free;
  sooner = inr (⊎_elim
      (λ e. subst (λ i. (next_row s i).end ≤ (next_row s k).start) (sym e) h) (λ e. omega arith) l.sooner);
}

-- every open core has one that leads it; the fuel is above the start of its next task
pub lead : {log : List Event} {s : State} → Agree log s → (fuel k : ℕ) → Open s k → (next_row s k).start < fuel → (m : ℕ) × Lead s k m
lead g zero k o h = absurd (omega arith)
lead {log} {s} g (suc fuel) k o h =
    let p = s.plan in
    let test : ℕ → Bool = λ j. eqb j k || met p s.progress (next_of s k) j in
    ⊎_elim
    (λ a. (k, record { is_open = o; sooner = inl refl; free = inr (λ j l d. ⊎_elim (λ e. absurd (d (eqb-true _ _ e))) (λ e. leb-true _ _ e) (or_cases (eqb j k) _ (all_at p.cores test a j l))) }))
    (λ a.
    let b = some_fails p.cores test a in
    let j = b.0 in
    let short = leb-false _ _ (or_parts (eqb j k) (met p s.progress (next_of s k) j) b.2).1 in
    let o' : Open s j = record { within = b.1; at = at_next p j (ended_on s.progress j) (omega (arith, short, wait_within p (next_of s k) j)) } in
    let sooner = awaited g.ordered (next_of s k) o'.at short in
    let span = g.ordered.spans (next_of s j) o'.at.task in
    let r = lead g fuel j o' (omega arith) in
    (r.0, lead_on {m = r.0} span sooner r.1))
    (cases_Bool (all_below p.cores test))

-- task t is the next of core k, which runs it
pub record Runner (log : List Event) (s : State) (k t : ℕ) : Type 0 where
  pub within : k < s.plan.cores
  pub is : t ≡ next_of s k
  pub running : is_running (step_of s.progress k) ≡ true
  pub loose : let_loose log t ≡ at_large s k

-- every task that runs by the log is one
pub runner : {log : List Event} {s : State} → Agree log s → (t : ℕ) → Task s.plan t → runs log t ≡ true → Runner log s (row s.plan t).core t
runner {log} {s} g t h r =
    let k = (row s.plan t).core in
    let a = at_task s.plan t h in
    let n = before k s.plan.rows t in
    let stood = g.each k n t a in
    let x = and_parts (has_started log t) (not (has_ended log t)) r in
    let l = g.ordered.on_core t h in
    let e : n ≡ ended_on s.progress k = ⊎_elim (λ q. absurd (both_ways _ (not-true _ x.1) (stood.past q).0)) (λ q. ⊎_elim (λ y. absurd (both_ways _ (stood.later y).1 x.0)) (λ y. omega arith) (cases_lt (ended_on s.progress k) n)) (cases_lt n (ended_on s.progress k)) in
    let now = stood.now e in
    let run = sym now.1 ∙ x.0 in
    let o = at_next s.plan k (ended_on s.progress k) (subst (λ i. i < tasks_on s.plan.rows k) e (at_below a)) in
    let is : t ≡ next_of s k = same_at (subst (λ i. At s.plan k i t) e a) o in
    record {
      within = l;
      is = is;
      running = run;
      loose = now.2 ∙ ap (λ u. loosed (step_of s.progress k) (get_or s.records u fresh).manner) is;
    }

-- the next task of a core that runs it runs by the log
pub running_runs : {log : List Event} {s : State} (k : ℕ) → Agree log s → Open s k → is_running (step_of s.progress k) ≡ true → runs log (next_of s k) ≡ true
running_runs k g o r = let x = (g.each k _ _ o.at).now refl in and_from _ _ (x.1 ∙ r) (not_from_false _ x.0)
