-- Every call of a run leaves the frame in agreement with the log.
use Rattle.std.proofs.Common.{◌≡◌, ℕ, suc, ◌<◌, ◌≤◌, true, false, ◌||◌, eqb, ltb, leb, ◌⊎◌, List, [], ◌∷◌, ◌++◌, length, get_or, set, sym, refl, ap, ◌∙◌, subst, inl, inr, ⊎_elim, arith}
use Rattle.std.proofs.Math.Bool.{or-false, and-false}
use Rattle.std.proofs.lemmas.List.{get_or-set_same, get_or-set_other, length-set, length-replicate}
use Rattle.std.proofs.lemmas.List.FromFn.{length-map-range_with_len}
use Rattle.std.proofs.lemmas.Bool.{cases_lt, cases_eq, eqb-false, eq-eqb, ltb-true, ltb-false, le-leb, lt-leb, and_from, and_left, or_from, or_left, cond_both}
use Rattle.table.specs.Rows.{Plan, tasks_on}
use Rattle.table.proofs.Ordered.{Ordered}
use Rattle.board.specs.Steps.{is_loose, is_running, is_over}
use Rattle.board.specs.Meaning.{idle, ended_on, step_of, rest, rested}
use Rattle.board.specs.declared.cores.Core.{Core}
use Rattle.board.specs.declared.cores.Step.{Step}
use Rattle.board.specs.declared.cores.Step.TheVariants.{Waiting, Loose as LooseStep, Running, Over as OverStep}
use Rattle.board.proofs.Steps.{waiting_is}
use Rattle.board.proofs.Changes.{opened_at}
use Rattle.calls.specs.declared.Answer.{Answer}
use Rattle.calls.specs.declared.Answer.TheVariants.{Over, Go, Loose, Data, Hold}
use Rattle.calls.specs.declared.Refusal.{Refusal}
use Rattle.calls.specs.declared.Reply.TheVariants.{Told, Noted, Refused}
use Rattle.calls.specs.declared.Call.{Call}
use Rattle.calls.specs.declared.Call.TheVariants.{Ask, End}
use Rattle.runs.specs.declared.Record.{Record}
use Rattle.runs.specs.declared.Manner.{Manner}
use Rattle.runs.specs.declared.Manner.TheVariants.{InTurn, Loose as WentLoose}
use Rattle.runs.specs.declared.Event.{Event}
use Rattle.runs.specs.Records.{went_loose, fresh, started_at, ended_at}
use Rattle.runs.specs.Calls.{State, Outcome, opening, next_of, at_time, starting}
use Rattle.runs.specs.Log.{goes, goes_loose, frees, names, starts, loosens, ends, has_started, let_loose, has_ended}
use Rattle.runs.proofs.Tasks.{At, at_below, same_at, apart}
use Rattle.runs.proofs.Logs.{event, keeps, adds, latest_push}
use Rattle.runs.proofs.Agree.{loosed, Stands, Agree, stay, with_core, moved}
use Rattle.runs.proofs.Ways.{Open, Way, way, Close, close}
use Rattle.runs.proofs.Run.{Run}

-- a task is the next of core k, or is another
about : {s : State} {j k n t : ℕ} → Open s k → At s.plan j n t → ((j ≡ k) × (n ≡ ended_on s.progress k)) ⊎ (eqb t (next_of s k) ≡ false)
about {s} {j} {k} {n} {t} o a = ⊎_elim
    (λ e. ⊎_elim (λ d. inl (e, d)) (λ d. inr (apart a o.at (λ x y. d y))) (cases_eq n (ended_on s.progress k)))
    (λ e. inr (apart a o.at (λ x y. e x)))
    (cases_eq j k)

-- the step and the manner of a core's next task do not bear on the others
off_now : {log : List Event} {c : Core} {m : Manner} {n t : ℕ} → Stands log c m n t → (new : Step) (m' : Manner) → (n ≡ c.ended → ⊥) → Stands log (record { ended = c.ended; step = new }) m' n t
off_now x new m' d = record { past = x.past; now = λ h. absurd (d h); later = x.later }

-- how core k's next task stands
at_now : {log : List Event} {n t : ℕ} (c : Core) (m : Manner) → n ≡ c.ended →
    (has_ended log t ≡ false) × (has_started log t ≡ is_running c.step) × (let_loose log t ≡ loosed c.step m) → Stands log c m n t
at_now {n = n} c m h x = record { past = λ l. absurd (omega arith); now = λ _. x; later = λ l. absurd (omega arith) }

-- a core at rest neither runs nor is loose, and is over when all its tasks have ended
pub rest_quiet : (p : Plan) (k n : ℕ) → (is_running (rest p k n) ≡ false) × (is_loose (rest p k n) ≡ false)
rest_quiet p k n = cond_both (ltb n (tasks_on p.rows k)) Waiting OverStep (λ x. (is_running x ≡ false) × (is_loose x ≡ false)) (λ _. (refl, refl)) (λ _. (refl, refl))

pub rest_over : (p : Plan) (k n : ℕ) → is_over (rest p k n) ≡ leb (tasks_on p.rows k) n
rest_over p k n = cond_both (ltb n (tasks_on p.rows k)) Waiting OverStep (λ x. is_over x ≡ leb (tasks_on p.rows k) n)
    (λ e. sym (lt-leb _ _ (ltb-true _ _ e))) (λ e. sym (le-leb _ _ (ltb-false _ _ e)))

-- a task that neither runs nor is loose was not let loose
pub quiet_loosed : (x : Step) (m : Manner) → is_running x ≡ false → is_loose x ≡ false → loosed x m ≡ false
quiet_loosed x m a b = or_from _ _ b (and_left _ _ a)

-- with another row for core k, the cores that are over are still those without a task left, and no core has ended more than its tasks
over_set : {log : List Event} {s : State} → Agree log s → (k : ℕ) (c : Core) → k < s.plan.cores → is_over c.step ≡ leb (tasks_on s.plan.rows k) c.ended →
    (j : ℕ) → j < s.plan.cores → is_over (step_of (set s.progress k c) j) ≡ leb (tasks_on s.plan.rows j) (ended_on (set s.progress k c) j)
over_set {log} {s} g k c l h j l' = ⊎_elim
    (λ e. subst (λ x. is_over x.step ≡ leb (tasks_on s.plan.rows j) x.ended)
    (sym (ap (λ i. get_or (set s.progress k c) i idle) e ∙ get_or-set_same s.progress k c idle (omega (arith, g.many)))) (subst (λ i. is_over c.step ≡ leb (tasks_on s.plan.rows i) c.ended) (sym e) h))
    (λ e. subst (λ x. is_over x.step ≡ leb (tasks_on s.plan.rows j) x.ended) (sym (get_or-set_other s.progress k j c idle e)) (g.over j l'))
    (cases_eq j k)

fits_set : {log : List Event} {s : State} → Agree log s → (k : ℕ) (c : Core) → k < s.plan.cores → c.ended ≤ tasks_on s.plan.rows k →
    (j : ℕ) → j < s.plan.cores → ended_on (set s.progress k c) j ≤ tasks_on s.plan.rows j
fits_set {log} {s} g k c l h j l' = ⊎_elim
    (λ e. subst (λ x. x.ended ≤ tasks_on s.plan.rows j)
    (sym (ap (λ i. get_or (set s.progress k c) i idle) e ∙ get_or-set_same s.progress k c idle (omega (arith, g.many)))) (subst (λ i. c.ended ≤ tasks_on s.plan.rows i) (sym e) h))
    (λ e. subst (λ x. x.ended ≤ tasks_on s.plan.rows j) (sym (get_or-set_other s.progress k j c idle e)) (g.fits j l'))
    (cases_eq j k)

-- a core with a next task has one left
open_over : {s : State} {k : ℕ} → Open s k → false ≡ leb (tasks_on s.plan.rows k) (ended_on s.progress k)
open_over o = sym (lt-leb _ _ (at_below o.at))

-- the manner of another task stays
pub manner_other : (rs : List Record) (u t : ℕ) (r : Record) → eqb t u ≡ false → (get_or (set rs u r) t fresh).manner ≡ (get_or rs t fresh).manner
manner_other rs u t r h = ap (λ x. x.manner) (get_or-set_other rs u t r fresh (eqb-false t u h))

-- an end keeps the manner
pub manner_same : (rs : List Record) (t : ℕ) (r : Record) → t < length rs → r.manner ≡ (get_or rs t fresh).manner → (x : ℕ) → (get_or (set rs t r) x fresh).manner ≡ (get_or rs x fresh).manner
manner_same rs t r l h x = ⊎_elim
    (λ e. ap (λ i. (get_or (set rs t r) i fresh).manner) e ∙ (ap (λ y. y.manner) (get_or-set_same rs t r fresh l) ∙ (h ∙ ap (λ i. (get_or rs i fresh).manner) (sym e))))
    (λ e. ap (λ y. y.manner) (get_or-set_other rs t x r fresh e))
    (cases_eq x t)

-- a refusal leaves all as it is
agree_refused : {log : List Event} {s : State} → Agree log s → (c : Call) (r : Refusal) → Agree (log ++ (event c (Refused r) ∷ [])) s
agree_refused {log} {s} g c r =
    let e = event c (Refused r) in
    record {
      ordered = g.ordered;
      many = g.many;
      noted = g.noted;
      over = g.over;
      fits = g.fits;
      latest = g.latest ∙ sym (latest_push 0 log e);
      each = λ j n t a. stay (g.each j n t a) e (and-false (names t c)) refl refl;
    }

module _ {log : List Event} {s : State} (g : Agree log s) (k time : ℕ) where
  -- an answer that tells nothing of any task
  agree_quiet : (a : Answer) → ((t : ℕ) → ((goes t a || goes_loose t a) ≡ false) × (frees t a ≡ false)) →
      Agree (log ++ (event (Ask k time) (Told a) ∷ [])) (at_time s time s.progress)
  agree_quiet a h =
      let e = event (Ask k time) (Told a) in
      record {
        ordered = g.ordered;
        many = g.many;
        noted = g.noted;
        over = g.over;
        fits = g.fits;
        latest = sym (latest_push 0 log e);
        each = λ j n t x. stay (g.each j n t x) e refl (h t).0 (h t).1;
      }

  -- the next task is loose already, and told so again
  agree_again : Open s k → is_loose (step_of s.progress k) ≡ true →
      Agree (log ++ (event (Ask k time) (Told (Data (next_of s k))) ∷ [])) (at_time s time s.progress)
  agree_again o h =
      let e = event (Ask k time) (Told (Data (next_of s k))) in
      record {
        ordered = g.ordered;
        many = g.many;
        noted = g.noted;
        over = g.over;
        fits = g.fits;
        latest = sym (latest_push 0 log e);
        each = λ j n t x. ⊎_elim
            (λ b.
            let y = subst (λ i. At s.plan i n t) b.0 x in
            let d = (g.each k n t y).now b.1 in
            let u = same_at (subst (λ m. At s.plan k m t) b.1 y) o.at in
            subst (λ i. Stands (log ++ (e ∷ [])) (get_or s.progress i idle) (get_or s.records t fresh).manner n t) (sym b.0)
            (at_now (get_or s.progress k idle) (get_or s.records t fresh).manner b.1
            (keeps (ends t) log e d.0 refl, keeps (starts t) log e d.1 refl, adds (loosens t) log e (eq-eqb _ _ u) ∙ sym (or_left _ _ h))))
            (λ b. stay (g.each j n t x) e refl refl b)
            (about o x);
      }

  -- the next task of core k takes another step
  agree_step : (o : Open s k) (new : Step) (m : Manner) (rs : List Record) (a : Answer) → is_over new ≡ false → length rs ≡ length s.records →
      ((t : ℕ) → eqb t (next_of s k) ≡ false → (get_or rs t fresh).manner ≡ (get_or s.records t fresh).manner) → (get_or rs (next_of s k) fresh).manner ≡ m →
      ((t : ℕ) → eqb t (next_of s k) ≡ false → ((goes t a || goes_loose t a) ≡ false) × (frees t a ≡ false)) →
      (has_started (log ++ (event (Ask k time) (Told a) ∷ [])) (next_of s k) ≡ is_running new) →
      (let_loose (log ++ (event (Ask k time) (Told a) ∷ [])) (next_of s k) ≡ loosed new m) →
      Agree (log ++ (event (Ask k time) (Told a) ∷ [])) (with_core s k (record { ended = ended_on s.progress k; step = new }) time rs)
  agree_step o new m rs a v size others mine quiet started loose =
      let e = event (Ask k time) (Told a) in
      let log' = log ++ (e ∷ []) in
      let c : Core = record { ended = ended_on s.progress k; step = new } in
      record {
        ordered = g.ordered;
        many = length-set s.progress k c ∙ g.many;
        noted = size ∙ g.noted;
        over = over_set g k c o.within (v ∙ open_over o);
        fits = fits_set g k c o.within (g.fits k o.within);
        latest = sym (latest_push 0 log e);
        each = moved s k c rs log' (omega (arith, g.many, o.within))
            (λ j n t d x.
            let b = apart x o.at (λ y z. d y) in
            subst (λ m. Stands log' (get_or s.progress j idle) m n t) (sym (others t b)) (stay (g.each j n t x) e refl (quiet t b).0 (quiet t b).1))
            (λ n t x. ⊎_elim
            (λ b.
            let u = same_at (subst (λ i. At s.plan k i t) b.1 x) o.at in
            subst (λ t. Stands log' c (get_or rs t fresh).manner n t) (sym u)
            (subst (λ m. Stands log' c m n (next_of s k)) (sym mine)
            (at_now c m b.1 (keeps (ends (next_of s k)) log e ((g.each k _ _ o.at).now refl).0 refl, started, loose))))
            (λ b.
            let y = stay (g.each k n t x) e refl (quiet t b).0 (quiet t b).1 in
            off_now y new (get_or rs t fresh).manner (λ d. eqb-false _ _ b (same_at (subst (λ i. At s.plan k i t) d x) o.at)))
            (about o x));
      }

  -- the next task of core k starts in the manner m
  agree_start : (o : Open s k) (m : Manner) (a : Answer) →
      ((t : ℕ) → eqb t (next_of s k) ≡ false → ((goes t a || goes_loose t a) ≡ false) × (frees t a ≡ false)) →
      (has_started (log ++ (event (Ask k time) (Told a) ∷ [])) (next_of s k) ≡ true) →
      (let_loose (log ++ (event (Ask k time) (Told a) ∷ [])) (next_of s k) ≡ went_loose m) →
      Agree (log ++ (event (Ask k time) (Told a) ∷ [])) (starting s k (next_of s k) time m)
  agree_start o m a =
      let r = started_at time m in
      agree_step o Running m (set s.records (next_of s k) r) a refl (length-set s.records (next_of s k) r) (λ t. manner_other s.records (next_of s k) t r)
      (ap (λ x. x.manner) (get_or-set_same s.records (next_of s k) r fresh (omega (arith, g.noted, o.at.task))))

  -- every way of an ask leaves the frame in agreement
  agree_ask : (o : Outcome) → Way s k time o → Agree (log ++ (event (Ask k time) o.reply ∷ [])) o.state
  agree_ask _ (Way.refuses r w) = agree_refused g (Ask k time) r
  agree_ask _ (Way.over c) = agree_quiet Over (λ t. (refl, refl))
  agree_ask _ (Way.hold c) = agree_quiet (Hold (next_of s k)) (λ t. (refl, refl))
  agree_ask _ (Way.again o c h) = agree_again o h
  agree_ask _ (Way.goes o w a) =
      let e = event (Ask k time) (Told (Go (next_of s k))) in
      let d = waiting_is _ w in
      agree_start o InTurn (Go (next_of s k)) (λ t h. (or-false _ ∙ h, refl)) (adds (starts (next_of s k)) log e (or-false _ ∙ eq-eqb (next_of s k) (next_of s k) refl))
      (keeps (loosens (next_of s k)) log e (((g.each k _ _ o.at).now refl).2 ∙ quiet_loosed (step_of s.progress k) _ (ap is_running d) (ap is_loose d)) refl)
  agree_ask _ (Way.looses o h a) =
      let e = event (Ask k time) (Told (Loose (next_of s k))) in
      agree_start o WentLoose (Loose (next_of s k)) (λ t h. (h, h)) (adds (starts (next_of s k)) log e (eq-eqb _ _ refl)) (adds (loosens (next_of s k)) log e (eq-eqb _ _ refl))
  agree_ask _ (Way.eases o w c room) =
      let e = event (Ask k time) (Told (Data (next_of s k))) in
      let d = waiting_is _ w in
      agree_step o LooseStep (get_or s.records (next_of s k) fresh).manner s.records (Data (next_of s k)) refl refl (λ t h. refl) refl (λ t h. (refl, h))
      (keeps (starts (next_of s k)) log e (((g.each k _ _ o.at).now refl).1 ∙ ap is_running d) refl) (adds (loosens (next_of s k)) log e (eq-eqb _ _ refl))
  agree_ask _ (Way.eases_goes o w c room a) =
      let e = event (Ask k time) (Told (Loose (next_of s k))) in
      agree_start o WentLoose (Loose (next_of s k)) (λ t h. (h, h)) (adds (starts (next_of s k)) log e (eq-eqb _ _ refl)) (adds (loosens (next_of s k)) log e (eq-eqb _ _ refl))

  -- how the tasks of core k stand when its next one has ended
  agree_ends : (o : Open s k) → is_running (step_of s.progress k) ≡ true → (t : ℕ) → next_of s k ≡ t → (c : Core) → c.ended ≡ suc (ended_on s.progress k) → is_running c.step ≡ false → is_loose c.step ≡ false →
      (rs : List Record) → ((x : ℕ) → (get_or rs x fresh).manner ≡ (get_or s.records x fresh).manner) →
      (n x : ℕ) → At s.plan k n x → Stands (log ++ (event (End k t time) Noted ∷ [])) c (get_or rs x fresh).manner n x
  agree_ends o run t is c count still_c quiet_c rs same n x a =
      let e = event (End k t time) Noted in
      let stood = g.each k n x a in
      let over_now : (n ≡ ended_on s.progress k → ⊥) → ends x e ≡ false = λ d. and_left _ _ (subst (λ u. eqb x u ≡ false) is (apart a o.at (λ _ y. d y))) in
      record {
        past = λ h. ⊎_elim
            (λ l. (keeps (ends x) log e (stood.past l).0 (over_now (λ d. omega arith)), keeps (starts x) log e (stood.past l).1 refl))
            (λ l.
            let d : n ≡ ended_on s.progress k = omega arith in
            let u : x ≡ t = same_at (subst (λ i. At s.plan k i x) d a) o.at ∙ is in
            (adds (ends x) log e (and_from _ _ (eq-eqb _ _ u) refl), keeps (starts x) log e ((stood.now d).1 ∙ run) refl))
            (cases_lt n (ended_on s.progress k));
        now = λ h.
            let l : ended_on s.progress k < n = omega arith in
            let y = stood.later l in (
              keeps (ends x) log e y.0 (over_now (λ d. omega arith)),
              keeps (starts x) log e y.1 refl ∙ sym still_c,
              keeps (loosens x) log e y.2 refl ∙ sym (quiet_loosed c.step _ still_c quiet_c),
            );
        later = λ h.
            let l : ended_on s.progress k < n = omega arith in
            let y = stood.later l in
            (keeps (ends x) log e y.0 (over_now (λ d. omega arith)), keeps (starts x) log e y.1 refl, keeps (loosens x) log e y.2 refl);
      }

  -- and so does every way of an end
  agree_end : (t : ℕ) (o : Outcome) → Close s k t time o → Agree (log ++ (event (End k t time) o.reply ∷ [])) o.state
  agree_end t _ (Close.refuses r) = agree_refused g (End k t time) r
  agree_end t _ (Close.ends o run is) =
      let e = event (End k t time) Noted in
      let n = suc (ended_on s.progress k) in
      let c = rested s.plan k n in
      let q = rest_quiet s.plan k n in
      let r = ended_at time (get_or s.records t fresh) in
      let same : (x : ℕ) → (get_or (set s.records t r) x fresh).manner ≡ (get_or s.records x fresh).manner = manner_same s.records t r (omega (arith, g.noted, is, o.at.task)) refl in
      record {
        ordered = g.ordered;
        many = length-set s.progress k c ∙ g.many;
        noted = length-set s.records t r ∙ g.noted;
        over = over_set g k c o.within (rest_over s.plan k n);
        fits = fits_set g k c o.within (at_below o.at);
        latest = sym (latest_push 0 log e);
        each = moved s k c (set s.records t r) (log ++ (e ∷ [])) (omega (arith, g.many, o.within))
            (λ j m x d a.
            let b = subst (λ u. eqb x u ≡ false) is (apart a o.at (λ y z. d y)) in
            subst (λ m'. Stands (log ++ (e ∷ [])) (get_or s.progress j idle) m' m x) (sym (same x)) (stay (g.each j m x a) e (and_left _ _ b) refl refl))
            (agree_ends o run t is c refl q.0 q.1 (set s.records t r) same);
      }

-- an opened frame agrees with the empty log
agree_open : (p : Plan) → Ordered p → Agree [] (opening p)
agree_open p o = record {
  ordered = o;
  many = length-map-range_with_len (λ k. rested p k 0) 0 p.cores;
  noted = length-replicate (length p.rows) fresh;
  over = λ k l. subst (λ c. is_over c.step ≡ leb (tasks_on p.rows k) c.ended) (sym (opened_at p k l)) (rest_over p k 0);
  fits = λ k l. subst (λ c. c.ended ≤ tasks_on p.rows k) (sym (opened_at p k l)) (omega arith);
  latest = refl;
  each = λ k n t a.
      let q = rest_quiet p k 0 in
      subst (λ c. Stands [] c (get_or (opening p).records t fresh).manner n t) (sym (opened_at p k (subst (λ i. i < p.cores) a.core (o.on_core t a.task))))
      (record { past = λ h. absurd (omega arith); now = λ h. (refl, sym q.0, sym (quiet_loosed (rest p k 0) _ q.0 q.1)); later = λ h. (refl, refl, refl) });
}

-- the frame of a run agrees with its log
pub agree_run : {p : Plan} → Ordered p → {log : List Event} {s : State} → Run p log s → Agree log s
agree_run {p} o Run.begun = agree_open p o
agree_run o (Run.asked {s = s} r says law k time) = let g = agree_run o r in agree_ask g k time _ (way says law s g k time)
agree_run o (Run.ended {s = s} r k t time) = let g = agree_run o r in agree_end g k time t _ (close s g k t time)
