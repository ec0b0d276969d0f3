-- No standstill: where no core runs, one ask to each core starts a task.
use Rattle.std.proofs.Common.{◌≡◌, ℕ, suc, ◌<◌, ◌≤◌, true, false, not, ◌&&◌, eqb, List, [], ◌∷◌, ◌++◌, length, count_by, sym, refl, ap, ◌∙◌, subst, ⊎_elim, arith}
use Rattle.std.proofs.Math.Bool.{or-false}
use Rattle.std.proofs.lemmas.List.{append_assoc}
use Rattle.std.proofs.lemmas.Bool.{cases_Bool, cases_lt, both_ways, false≢true, eqb-true, eq-eqb, ne_eqb, lt-ltb, le-leb, and_from, or_left, or_right, cond-true}
use Rattle.table.specs.Rows.{Plan, row, on, wait, nth_on, tasks_on}
use Rattle.table.proofs.Places.{before, count_yes, count_no}
use Rattle.table.proofs.Ordered.{Ordered}
use Rattle.board.specs.Steps.{is_running}
use Rattle.board.specs.Meaning.{ended_on, step_of, clear}
use Rattle.board.specs.Keeping.{running_left}
use Rattle.calls.specs.declared.Call.{Call}
use Rattle.calls.specs.declared.Call.TheVariants.{Ask, End}
use Rattle.runs.specs.declared.Event.{Event}
use Rattle.runs.specs.Calls.{State, Outcome, last_tick, timely, next_of, next_row, ask}
use Rattle.runs.specs.Log.{asking, call_time, accepted, starts, ends, asks, has_started, has_ended, runs, latest_from, ended_there, ended_count}
use Rattle.runs.specs.Promises.{Task, Timely, AllAccepted, SomeStarts, Stalled, NoStandstill}
use Rattle.runs.proofs.Tasks.{at_next, at_task, at_below}
use Rattle.runs.proofs.Logs.{event, keeps, latest_push}
use Rattle.runs.proofs.Agree.{Agree}
use Rattle.runs.proofs.Ways.{Open, AllMet, Way, opens, way}
use Rattle.runs.proofs.Run.{Run}
use Rattle.runs.proofs.Steps.{agree_run}
use Rattle.runs.proofs.Order.{run_plan}
use Rattle.runs.proofs.Progress.{count_ended}
use Rattle.runs.proofs.Totals.{total_same}
use Rattle.runs.proofs.Lead.{met_clear, lead, running_runs}
use Rattle.runs.proofs.Splits.{Last, last, before_run}
use Rattle.runs.proofs.Asks.{count_cons, Fresh, each_asked, each_fresh}

-- core m has a next task, and all its waits are met, by the log
record Ready (p : Plan) (log : List Event) (m : ℕ) : Type 0 where
  within : m < p.cores
  more : ended_count p log m < tasks_on p.rows m
  met : (j : ℕ) → j < p.cores → (j ≡ m → ⊥) → wait p.rows (row p (nth_on m (ended_count p log m) 0 p.rows)) j ≤ ended_count p log j

-- that goes by what has ended
ready_same : {p : Plan} {m : ℕ} (log log' : List Event) → ((t : ℕ) → has_ended log t ≡ has_ended log' t) → Ready p log m → Ready p log' m
ready_same {p} {m} log log' same r =
    let e : (k : ℕ) → ended_count p log k ≡ ended_count p log' k = λ k. total_same (length p.rows) (ended_there p log k) (ended_there p log' k) (λ _. 1) (λ t. ap (λ b. on k (row p t) && b) (same t)) in
    record {
      within = r.within;
      more = subst (λ n. n < tasks_on p.rows m) (e m) r.more;
      met = λ j l d. subst (λ n. n ≤ ended_count p log' j) (ap (λ n. wait p.rows (row p (nth_on m n 0 p.rows)) j) (e m)) (subst (λ n. wait p.rows (row p (nth_on m (ended_count p log m) 0 p.rows)) j ≤ n) (e j) (r.met j l d));
    }

-- a core is ready by the log as by the frame
ready_open : {log : List Event} {s : State} {m : ℕ} → Agree log s → Ready s.plan log m → Open s m × AllMet s m
ready_open {log} {s} {m} g r =
    let e : (k : ℕ) → k < s.plan.cores → ended_count s.plan log k ≡ ended_on s.progress k = λ k l. count_ended {log = log} {s = s} k g l in (
      record { within = r.within; at = at_next s.plan m (ended_on s.progress m) (omega (arith, r.more, e m r.within)) },
      λ j l d. omega (arith, r.met j l d, e j l, ap (λ n. wait s.plan.rows (row s.plan (nth_on m n 0 s.plan.rows)) j) (e m r.within)),
    )

open_ready : {log : List Event} {s : State} {m : ℕ} → Agree log s → Open s m → AllMet s m → Ready s.plan log m
open_ready {log} {s} {m} g o a =
    let e : (k : ℕ) → k < s.plan.cores → ended_count s.plan log k ≡ ended_on s.progress k = λ k l. count_ended {log = log} {s = s} k g l in
    record {
      within = o.within;
      more = omega (arith, at_below o.at, e m o.within);
      met = λ j l d. omega (arith, a j l d, e j l, ap (λ n. wait s.plan.rows (row s.plan (nth_on m n 0 s.plan.rows)) j) (e m o.within));
    }

-- no task of core k runs
abbrev Idle : Plan → List Event → ℕ → Type 0
Idle p log k = (t : ℕ) → Task p t → (row p t).core ≡ k → runs log t ≡ false

-- such a core does not run
idle_step : {log : List Event} {s : State} {k : ℕ} → Agree log s → Idle s.plan log k → k < s.plan.cores → is_running (step_of s.progress k) ≡ false
idle_step {log} {s} {k} g idle l = ⊎_elim
    (λ r. let o = opens k g l (running_left _ r) in absurd (both_ways _ (idle (next_of s k) o.at.task o.at.core) (running_runs k g o r)))
    (λ r. r) (cases_Bool (is_running (step_of s.progress k)))

-- what an ask to an idle core does
record Asked (p : Plan) (log : List Event) (e : Event) (k : ℕ) : Type 0 where
  taken : accepted e ≡ true
  others : (t : ℕ) → ((row p t).core ≡ k → ⊥) → starts t e ≡ false
  none_end : (t : ℕ) → ends t e ≡ false
  begins : Ready p log k → SomeStarts p (e ∷ [])

module _ {log : List Event} {s : State} (g : Agree log s) (k time : ℕ) (l : k < s.plan.cores) (now : timely s time ≡ true) (idle : Idle s.plan log k) where
  -- a task of another core is not the next of core k
  not_next : Open s k → (t : ℕ) → ((row s.plan t).core ≡ k → ⊥) → eqb t (next_of s k) ≡ false
  not_next o t d = ne_eqb t (next_of s k) (λ e. d (ap (λ x. (row s.plan x).core) e ∙ o.at.core))

  -- an event that starts no task, as core k is not clear and so not ready
  none_starts : (e : Event) → clear s.plan s.progress k ≡ false → accepted e ≡ true → ((t : ℕ) → starts t e ≡ false) → ((t : ℕ) → ends t e ≡ false) → Asked s.plan log e k
  none_starts e c taken quiet none_end = record {
    taken = taken;
    others = λ t d. quiet t;
    none_end = none_end;
    begins = λ r. let o = ready_open g r in absurd (both_ways _ c (met_clear g o.0 (idle_step g idle l) o.1));
  }

  -- an event that starts the next task of core k
  next_starts : (e : Event) → Open s k → accepted e ≡ true → ((t : ℕ) → starts t e ≡ eqb t (next_of s k)) → ((t : ℕ) → ends t e ≡ false) → Asked s.plan log e k
  next_starts e o taken only none_end = record {
    taken = taken;
    others = λ t d. only t ∙ not_next o t d;
    none_end = none_end;
    begins = λ r. record { task = next_of s k; known = o.at.task; begins = or_left _ _ (only (next_of s k) ∙ eq-eqb (next_of s k) (next_of s k) refl) };
  }

  -- every way of an ask to a core that is idle, at an allowed time
  asked : (o : Outcome) → Way s k time o → Asked s.plan log (event (Ask k time) o.reply) k
  asked _ (Way.refuses r w) = absurd (⊎_elim (λ x. both_ways _ x (lt-ltb _ _ l)) (⊎_elim (λ x. both_ways _ x now) (λ x. both_ways _ (idle_step g idle l) x)) w)
  asked _ (Way.over c) = none_starts _ c refl (λ t. refl) (λ t. refl)
  asked _ (Way.hold c) = none_starts _ c refl (λ t. refl) (λ t. refl)
  asked _ (Way.again o c h) = none_starts _ c refl (λ t. refl) (λ t. refl)
  asked _ (Way.goes o w a) = next_starts _ o refl (λ t. or-false _) (λ t. refl)
  asked _ (Way.looses o h a) = next_starts _ o refl (λ t. refl) (λ t. refl)
  asked _ (Way.eases o w c room) = none_starts _ c refl (λ t. refl) (λ t. refl)
  asked _ (Way.eases_goes o w c room a) = next_starts _ o refl (λ t. refl) (λ t. refl)

-- the last event of a run, if it asks an idle core in time
asked_last : {p : Plan} → Ordered p → {log : List Event} {e : Event} {s : State} → Last p log e s → (k : ℕ) → k < p.cores → asks k e ≡ true →
    latest_from 0 log ≤ call_time e.call → call_time e.call ≤ last_tick → Idle p log k → Asked p log e k
asked_last {p} o {log} (Last.asked {s = s} r says law j time) k l asks_k from to idle =
    let g = agree_run o r in
    let is = eqb-true k j asks_k in
    subst (λ q. j < q.cores → Idle q log j → Asked q log (event (Ask j time) (ask says s j time).reply) k) (run_plan o r)
    (λ l' idle'. subst (λ i. Asked s.plan log (event (Ask j time) (ask says s j time).reply) i) (sym is)
    (asked g j time l' (and_from _ _ (le-leb _ _ (omega (arith, g.latest, from))) (le-leb _ _ to)) idle' _ (way says law s g j time)))
    (subst (λ i. i < p.cores) is l) (subst (Idle p log) is idle)
asked_last o (Last.ended r j t time) k l asks_k from to idle = absurd (false≢true asks_k)

-- an event asks one core
asks_one : (m k : ℕ) (e : Event) → asks m e ≡ true → asks k e ≡ true → m ≡ k
asks_one m k e = one e.call
  where
    one : (c : Call) → asking m c ≡ true → asking k c ≡ true → m ≡ k
    one (Ask j t) x y = eqb-true m j x ∙ sym (eqb-true k j y)
    one (End j u t) x y = absurd (false≢true x)

-- the other cores stay idle
idle_on : {p : Plan} {k j : ℕ} (log : List Event) {e : Event} → Asked p log e k → (j ≡ k → ⊥) → Idle p log j → Idle p (log ++ (e ∷ [])) j
idle_on log {e} a d idle t h c =
    ap (λ b. b && not (has_ended (log ++ (e ∷ [])) t)) (keeps (starts t) log e refl (a.others t (λ x. d (sym c ∙ x)))) ∙
    (ap (λ b. has_started log t && not b) (keeps (ends t) log e refl (a.none_end t)) ∙ idle t h c)

-- events of which the first starts a task; of which a later one does
starts_first : {p : Plan} {e : Event} {es : List Event} → SomeStarts p (e ∷ []) → SomeStarts p (e ∷ es)
starts_first {e = e} b = record { task = b.task; known = b.known; begins = or_left _ _ (sym (or-false (starts b.task e)) ∙ b.begins) }

starts_later : {p : Plan} {e : Event} {es : List Event} → SomeStarts p es → SomeStarts p (e ∷ es)
starts_later {e = e} b = record { task = b.task; known = b.known; begins = or_right (starts b.task e) _ b.begins }

-- asks, one after another, to cores that are idle
asks_on : {p : Plan} → Ordered p → (m : ℕ) (es done : List Event) {s : State} → Run p (done ++ es) s → Fresh p.cores es → Timely (latest_from 0 done) es →
    ((k : ℕ) → 0 < count_by (asks k) es → Idle p done k) → Ready p done m →
    AllAccepted es × (0 < count_by (asks m) es → SomeStarts p es)
asks_on o m [] done r fresh now idle ready = (tt, λ h. absurd (omega arith))
asks_on {p} o m (e ∷ es) done {s} r fresh now idle ready =
    let r' : Run p ((done ++ (e ∷ [])) ++ es) s = subst (λ l. Run p l s) (sym (append_assoc done (e ∷ []) es)) r in
    let k = fresh.0.0 in
    let q = before_run (done ++ (e ∷ [])) es r' in
    let idle_k : Idle p done k = idle k (omega (arith, count_yes (asks k) e es fresh.0.2)) in
    let a : Asked p done e k = asked_last o (last q.1 done e refl) k fresh.0.1 fresh.0.2 now.0 now.1 idle_k in
    let same : (t : ℕ) → has_ended done t ≡ has_ended (done ++ (e ∷ [])) t = λ t. sym (keeps (ends t) done e refl (a.none_end t)) in
    let latest : latest_from 0 (done ++ (e ∷ [])) ≡ call_time e.call = latest_push 0 done e ∙ cond-true (accepted e) _ _ a.taken in
    let rec = asks_on o m es (done ++ (e ∷ [])) r' fresh.1 (subst (λ n. Timely n es) (sym latest) now.2) (λ j h. idle_on done a (λ d. omega (arith, h, fresh.0.3, ap (λ i. count_by (asks i) es) d)) (idle j (omega (arith, h, count_cons j e es)))) (ready_same done (done ++ (e ∷ [])) same ready) in (
      (a.taken, rec.0),
      λ h. ⊎_elim
          (λ y. starts_first (a.begins (subst (Ready p done) (asks_one m k e y fresh.0.2) ready)))
          (λ y. starts_later (rec.1 (omega (arith, h, count_no (asks m) e es y))))
          (cases_Bool (asks m e)),
    )

-- where a task is unfinished and none runs, some core is ready
some_ready : {log : List Event} {s : State} → Agree log s → Stalled s.plan log → (m : ℕ) × Ready s.plan log m
some_ready {log} {s} g stalled =
    let p = s.plan in
    let t = stalled.task in
    let k = (row p t).core in
    let a = at_task p t stalled.known in
    let open_k : Open s k = record {
      within = g.ordered.on_core t stalled.known;
      at = at_next p k (ended_on s.progress k) (⊎_elim
          (λ l. absurd (both_ways _ stalled.unfinished ((g.each k _ t a).past l).0)) (λ l. omega (arith, l, at_below a)) (cases_lt (before k p.rows t) (ended_on s.progress k)));
    } in
    let found = lead g (suc (next_row s k).start) k open_k (omega arith) in
    let o = found.1.is_open in
    (found.0, open_ready g o (⊎_elim (λ r. absurd (both_ways _ (stalled.quiet (next_of s found.0) o.at.task) (running_runs found.0 g o r))) (λ x. x) found.1.free))

-- one ask to each core is accepted each time, and starts a task
pub no_standstill : {p : Plan} → Ordered p → {log : List Event} {s : State} → Run p log s → NoStandstill p log
no_standstill {p} o {log} {s} r front es is stalled each =
    let r' : Run p (front ++ es) s = subst (λ l. Run p l s) (sym is) r in
    let q = before_run front es r' in
    let m = subst (λ p. Stalled p front → (m : ℕ) × Ready p front m) (run_plan o q.1) (some_ready (agree_run o q.1)) stalled in
    let a = asks_on o m.0 es front r' (each_fresh each) each.timely (λ k _ u hu _. stalled.quiet u hu) m.1 in
    (a.0, a.1 (each_asked each m.0 m.1.within))
