-- On time: a tick keeps the bounds, and so does every plant that keeps its terms.
use Rattle.std.proofs.Common.{◌≡◌, ℕ, suc, ◌+◌, ◌-◌, ◌<◌, ◌≤◌, Bool, true, false, not, ◌&&◌, eqb, List, ◌∷◌, sym, refl, ◌∙◌, subst, ⊎_elim, arith}
use Rattle.std.proofs.lemmas.Bool.{cases_Bool, cases_lt, both_ways, eq-eqb, and_from, and_parts, cond-true, cond_both}
use Rattle.table.specs.Rows.{Plan, row}
use Rattle.table.proofs.Places.{before}
use Rattle.table.proofs.Ordered.{Ordered}
use Rattle.board.specs.Steps.{is_pending, is_running}
use Rattle.board.specs.Meaning.{ended_on, step_of, clear}
use Rattle.board.specs.Keeping.{pending_left, running_left}
use Rattle.board.proofs.Steps.{pending_still, step_left}
use Rattle.calls.specs.declared.Call.TheVariants.{Ask, End}
use Rattle.runs.specs.declared.Event.{Event}
use Rattle.runs.specs.Calls.{State, next_of, next_row, at_large, ask, finish}
use Rattle.runs.specs.Log.{call_time, has_started, has_ended, runs}
use Rattle.runs.specs.Plant.{Tick, working, holding, Move, call, tick, held_up, pays, time, log_of, left, purse, CanPay, Allowed, Kept}
use Rattle.runs.specs.Promises.{Task, OnTime}
use Rattle.runs.proofs.Tasks.{At, at_next, at_task, at_below, same_at, sooner}
use Rattle.runs.proofs.Logs.{event}
use Rattle.runs.proofs.Agree.{Agree}
use Rattle.runs.proofs.Ways.{Open, opens, way, close}
use Rattle.runs.proofs.Run.{Run}
use Rattle.runs.proofs.Steps.{agree_run}
use Rattle.runs.proofs.Order.{Sound, sound_run, run_plan}
use Rattle.runs.proofs.Progress.{progress_is}
use Rattle.runs.proofs.Totals.{total_none, total_less}
use Rattle.runs.proofs.Bounds.{purses, Bounds, Within, part_le}
use Rattle.runs.proofs.Times.{bounds_ask, bounds_end}
use Rattle.runs.proofs.Lead.{open_not, met_clear, lead, runner, running_runs}
use Rattle.runs.proofs.Splits.{Last, last}

-- in a tick no task gets more in its purse or more left to do
purse_down : (p : Plan) (t : ℕ) (i : Tick) (ms : List Move) → purse p t (tick i ∷ ms) ≤ purse p t ms
purse_down p t i ms = cond_both (pays i t && runs (log_of ms) t) (purse p t ms - 1) (purse p t ms) (λ x. x ≤ purse p t ms) (λ _. omega arith) (λ _. omega arith)

left_down : (p : Plan) (t : ℕ) (i : Tick) (ms : List Move) → left p t (tick i ∷ ms) ≤ left p t ms
left_down p t i ms = cond_both (runs (log_of ms) t && not (held_up i t)) (left p t ms - 1) (left p t ms) (λ x. x ≤ left p t ms) (λ _. omega arith) (λ _. omega arith)

-- a task that pays and can pay is at large, so the purses have less
purses_pay : {s : State} (ms : List Move) → Agree (log_of ms) s → Sound s.plan (log_of ms) → (held : ℕ → Bool) (payer : ℕ) → CanPay s.plan payer ms → purses s (tick (holding held payer) ∷ ms) < purses s ms
purses_pay {s} ms g q held payer can =
    let p = s.plan in
    let ms' = tick (holding held payer) ∷ ms in
    let k = (row p payer).core in
    let a = runner g payer (q.known payer (and_parts (has_started (log_of ms) payer) (not (has_ended (log_of ms) payer)) can.running).0) can.running in
    let large : at_large s k ≡ true = sym a.loose ∙ can.loose in
    let less : purse p payer ms' < purse p payer ms = omega (arith, can.purse_left, cond-true (eqb payer payer && runs (log_of ms) payer) (purse p payer ms - 1) (purse p payer ms) (and_from _ _ (eq-eqb payer payer refl) can.running)) in
    let less' = subst (λ t. purse p t ms' < purse p t ms) a.is less in
    total_less (at_large s) (at_large s) (λ j. purse p (next_of s j) ms') (λ j. purse p (next_of s j) ms) p.cores k a.within
    (λ j l. part_le (at_large s j) _ _ (λ _. purse_down p (next_of s j) (holding held payer) ms))
    (omega (arith, less', cond-true (at_large s k) (purse p (next_of s k) ms') 0 large, cond-true (at_large s k) (purse p (next_of s k) ms) 0 large))

-- where a tick is allowed, a pending task has time to spare: one that runs, and has work left, ends by its start
pending_spare : {s : State} (ms : List Move) → Agree (log_of ms) s → {i : Tick} → Allowed s.plan i ms → Within s ms →
    (k : ℕ) → k < s.plan.cores → is_pending (step_of s.progress k) ≡ true → time ms + purses s ms < (next_row s k).start
pending_spare {s} ms g ok b k l w =
    let p = s.plan in
    let not_clear : (m : ℕ) → clear p s.progress m ≡ false = λ m. subst (λ cs. clear p cs m ≡ false) (progress_is g) (ok.blocked m) in
    let found = lead g (suc (next_row s k).start) k (opens k g l (pending_left _ w)) (omega arith) in
    let m = found.0 in
    let o = found.1.is_open in
    let run : is_running (step_of s.progress m) ≡ true = ⊎_elim (λ x. x) (λ x. ⊎_elim (λ y. y) (λ y. absurd (both_ways _ (not_clear m) (met_clear g o y x))) (cases_Bool (is_running (step_of s.progress m)))) found.1.free in
    ⊎_elim
    (λ e. absurd (both_ways _ (pending_still _ w) (subst (λ i. is_running (step_of s.progress i) ≡ true) e run)))
    (λ e. omega (arith, e, b.run m o.within run, ok.work (next_of s m) (running_runs m g o run)))
    found.1.sooner

-- a tick keeps the bounds: either every running task works, or the purses have less
bounds_tick : {s : State} (ms : List Move) → Agree (log_of ms) s → Sound s.plan (log_of ms) → (i : Tick) → Allowed s.plan i ms → Within s ms → Within s (tick i ∷ ms)
bounds_tick {s} ms g q working ok b = record {
  run = λ k l r.
      let t = next_of s k in
      let works = running_runs k g (opens k g l (running_left _ r)) r in
      omega (arith, b.run k l r, ok.work t works, cond-true (runs (log_of ms) t && true) (left s.plan t ms - 1) (left s.plan t ms) (and_from _ _ works refl));
  wait = λ k l w. omega (arith, pending_spare ms g ok b k l w);
}
bounds_tick {s} ms g q (holding held payer) ok b =
    let less = purses_pay ms g q held payer ok.paid.1 in
    record {
      run = λ k l r. omega (arith, less, b.run k l r, left_down s.plan (next_of s k) (holding held payer) ms);
      wait = λ k l w. omega (arith, less, b.wait k l w);
    }

-- a call keeps the bounds
bounds_call : {p : Plan} → Ordered p → (ms : List Move) {e : Event} {s : State} → Last p (log_of ms) e s → call_time e.call ≡ time ms →
    ((s₀ : State) → Run p (log_of ms) s₀ → Within s₀ ms) → Within s (call e ∷ ms)
bounds_call o ms (Last.asked {s = s₀} r says law k now) h ih =
    let g = agree_run o r in
    subst (λ t. Within (ask says s₀ k t).state (call (event (Ask k t) (ask says s₀ k t).reply) ∷ ms)) (sym h) (bounds_ask ms g k (ih s₀ r) _ (way says law s₀ g k (time ms)))
bounds_call o ms (Last.ended {s = s₀} r k t now) h ih =
    let g = agree_run o r in
    subst (λ x. Within (finish s₀ k t x).state (call (event (End k t x) (finish s₀ k t x).reply) ∷ ms)) (sym h) (bounds_end ms g k t (ih s₀ r) _ (close s₀ g k t (time ms)))

-- every plant that keeps its terms is within the bounds
bounds_kept : {p : Plan} → Ordered p → {ms : List Move} → Kept p ms → {s : State} → Run p (log_of ms) s → Within s ms
bounds_kept o Kept.begun {s} r =
    let z = total_none s.plan.cores (at_large s) in
    record { run = λ k l h. omega (arith, z); wait = λ k l h. omega (arith, z) }
bounds_kept o (Kept.called {e = e} {ms} kept h) r = bounds_call o ms (last r (log_of ms) e refl) h (λ s₀. bounds_kept o kept)
bounds_kept o (Kept.ticked {i = i} {ms} kept ok) {s} r =
    bounds_tick ms (agree_run o r) (sound_run o r) i (subst (λ q. Allowed q i ms) (sym (run_plan o r)) ok) (bounds_kept o kept r)

-- the bounds hold of every task
within_table : {s : State} (ms : List Move) → Agree (log_of ms) s → {x : ℕ} → Bounds s ms x → (t : ℕ) → Task s.plan t →
    (has_started (log_of ms) t ≡ false → time ms ≤ (row s.plan t).start) × (runs (log_of ms) t ≡ true → time ms ≤ (row s.plan t).end)
within_table {s} ms g b t h =
    let p = s.plan in
    let k = (row p t).core in
    let a = at_task p t h in
    let n = before k p.rows t in
    let e = ended_on s.progress k in
    let l = g.ordered.on_core t h in
    let stood = g.each k n t a in (
      λ y. ⊎_elim
          (λ q. absurd (both_ways _ y (stood.past q).1))
          (λ q.
          let o : Open s k = record { within = l; at = at_next p k e (omega (arith, q, at_below a)) } in
          let late : time ms ≤ (next_row s k).end = ⊎_elim (λ r. omega (arith, b.run k l r)) (λ r. omega (arith, b.wait k l (step_left _ (open_not g o) r), g.ordered.spans (next_of s k) o.at.task)) (cases_Bool (is_running (step_of s.progress k))) in
          ⊎_elim
          (λ z. omega (arith, late, sooner g.ordered o.at a z))
          (λ z.
          let d : n ≡ e = omega arith in
          let i = sym (same_at (subst (λ i. At p k i t) d a) o.at) in
          let idle = sym (stood.now d).1 ∙ y in
          subst (λ u. time ms ≤ (row p u).start) i (omega (arith, b.wait k l (step_left _ (open_not g o) idle))))
          (cases_lt e n))
          (cases_lt n e),
      λ y. let r = runner g t h y in subst (λ u. time ms ≤ (row p u).end) (sym r.is) (omega (arith, b.run k l r.running)),
    )

-- while the plant keeps its terms, its time is within the table's
pub on_time : {p : Plan} → Ordered p → {log : List Event} {s : State} → Run p log s → OnTime p log
on_time {p} o {log} {s} r ms kept is =
    let r' = subst (λ l. Run p l s) (sym is) r in
    subst (λ l. (t : ℕ) → Task p t → (has_started l t ≡ false → time ms ≤ (row p t).start) × (runs l t ≡ true → time ms ≤ (row p t).end)) is
    (subst (λ q. (t : ℕ) → Task q t → (has_started (log_of ms) t ≡ false → time ms ≤ (row q t).start) × (runs (log_of ms) t ≡ true → time ms ≤ (row q t).end)) (run_plan o r')
    (within_table ms (agree_run o r') (bounds_kept o kept r')))
