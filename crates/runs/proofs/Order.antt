-- In order, in turn, and inputs first: what had to end before a task started has ended.
use Rattle.std.proofs.Common.{◌≡◌, ℕ, ◌≤◌, true, false, not, eqb, ◌⊎◌, List, [], ◌∷◌, ◌++◌, sym, refl, ap, ◌∙◌, subst, inl, inr, ⊎_elim, arith}
use Rattle.std.proofs.Math.Bool.{or-false}
use Rattle.std.proofs.lemmas.Bool.{cases_Bool, cases_eq, both_ways, false≢true, not-true, not_from_false, eqb-true, eq-eqb, leb-true, and_parts, or_from, or_parts, or_cases, or_left, or_right, cond-true, cond-false}
use Rattle.table.specs.Sets.{has}
use Rattle.table.specs.Rows.{Plan, row, wait}
use Rattle.table.proofs.Places.{before}
use Rattle.table.proofs.Ordered.{Ordered}
use Rattle.board.specs.Meaning.{ended_on}
use Rattle.calls.specs.declared.Answer.TheVariants.{Go, Loose}
use Rattle.calls.specs.declared.Reply.TheVariants.{Told}
use Rattle.calls.specs.declared.Call.TheVariants.{Ask, End}
use Rattle.runs.specs.declared.Event.{Event}
use Rattle.runs.specs.Calls.{State, Outcome, next_of, next_row}
use Rattle.runs.specs.Log.{starts, sends_loose, ends, has_started, told_loose, has_ended, runs}
use Rattle.runs.specs.Promises.{Task, precedes, reads, InOrder, InTurn, InputsFirst}
use Rattle.runs.proofs.Tasks.{At, at_task, earlier, awaits}
use Rattle.runs.proofs.Logs.{event, occurs_push, still}
use Rattle.runs.proofs.Agree.{Agree}
use Rattle.runs.proofs.Ways.{Open, DataMet, Way, way, Close, close}
use Rattle.runs.proofs.Run.{Run}
use Rattle.runs.proofs.Steps.{agree_run}

-- what a started task had to wait for has ended, and it is a task of the plan
pub record Sound (p : Plan) (log : List Event) : Type 0 where
  pub turns : InTurn p log
  pub inputs : InputsFirst p log
  pub known : (t : ℕ) → has_started log t ≡ true → Task p t

-- a task that ends by the start of core k's next has ended, if the wait on its core is met
ended_by : {log : List Event} {s : State} {k : ℕ} → Agree log s → Open s k → (r : ℕ) → Task s.plan r → precedes s.plan r (next_of s k) ≡ true →
    (((row s.plan r).core ≡ k → ⊥) → wait s.plan.rows (next_row s k) (row s.plan r).core ≤ ended_on s.progress (row s.plan r).core) → has_ended log r ≡ true
ended_by {log} {s} {k} g o r h l w =
    let a = at_task s.plan r h in
    ⊎_elim
    (λ e. let b = subst (λ i. At s.plan i (before (row s.plan r).core s.plan.rows r) r) e a in ((g.each k _ r b).past (earlier g.ordered b o.at (leb-true _ _ l))).0)
    (λ e. ((g.each _ _ r a).past (omega (arith, awaits g.ordered (next_of s k) a (leb-true _ _ l), w e))).0)
    (cases_eq (row s.plan r).core k)

module _ {p : Plan} {log : List Event} (q : Sound p log) (e : Event) where
  -- an event that may start u alone
  sound_start : (u : ℕ) → Task p u → ((t : ℕ) → eqb t u ≡ false → starts t e ≡ false) →
      ((r : ℕ) → Task p r → precedes p r u ≡ true → (sends_loose u e ≡ false) ⊎ (has (row p u).inputs (row p r).core ≡ true) → has_ended log r ≡ true) → Sound p (log ++ (e ∷ []))
  sound_start u known_u only needs =
      let who : (t : ℕ) → starts t e ≡ true → t ≡ u = λ t h. ⊎_elim (λ x. eqb-true _ _ x) (λ x. absurd (both_ways _ (only t x) h)) (cases_Bool (eqb t u)) in
      record {
        turns = λ a b known_a known_b h n l.
            let m = or_parts (told_loose log b) (sends_loose b e) (sym (occurs_push (sends_loose b) log e) ∙ n) in
            still (ends a) log e (⊎_elim
            (λ x. q.turns a b known_a known_b x m.0 l)
            (λ x. let d = who b x in needs a known_a (subst (λ t. precedes p a t ≡ true) d l) (inl (subst (λ t. sends_loose t e ≡ false) d m.1)))
            (or_cases (has_started log b) (starts b e) (sym (occurs_push (starts b) log e) ∙ h)));
        inputs = λ t r known_t known_r h i.
            still (ends r) log e (⊎_elim
            (λ x. q.inputs t r known_t known_r x i)
            (λ x.
            let m = and_parts (has (row p u).inputs (row p r).core) (precedes p r u) (subst (λ v. reads p v r ≡ true) (who t x) i) in
            needs r known_r m.1 (inr m.0))
            (or_cases (has_started log t) (starts t e) (sym (occurs_push (starts t) log e) ∙ h)));
        known = λ t h. ⊎_elim (λ x. q.known t x) (λ x. subst (Task p) (sym (who t x)) known_u) (or_cases (has_started log t) (starts t e) (sym (occurs_push (starts t) log e) ∙ h));
      }

  -- an event that starts none
  sound_quiet : ((t : ℕ) → starts t e ≡ false) → Sound p (log ++ (e ∷ []))
  sound_quiet none = record {
    turns = λ a b known_a known_b h n l.
        let m = or_parts (told_loose log b) (sends_loose b e) (sym (occurs_push (sends_loose b) log e) ∙ n) in
        still (ends a) log e (q.turns a b known_a known_b (old b h) m.0 l);
    inputs = λ t r known_t known_r h i. still (ends r) log e (q.inputs t r known_t known_r (old t h) i);
    known = λ t h. q.known t (old t h);
  }
    where
      old : (b : ℕ) → has_started (log ++ (e ∷ [])) b ≡ true → has_started log b ≡ true
      old b h = ⊎_elim (λ x. x) (λ x. absurd (both_ways _ (none b) x)) (or_cases (has_started log b) (starts b e) (sym (occurs_push (starts b) log e) ∙ h))

module _ {log : List Event} {s : State} (g : Agree log s) (q : Sound s.plan log) (k time : ℕ) where
  -- the next task of core k goes loose, with the waits on its data cores met
  sound_loose : (o : Open s k) → DataMet s k → Sound s.plan (log ++ (event (Ask k time) (Told (Loose (next_of s k))) ∷ []))
  sound_loose o a = sound_start q (event (Ask k time) (Told (Loose (next_of s k)))) (next_of s k) o.at.task (λ t h. h)
      (λ r h l c. ended_by g o r h l (λ d. ⊎_elim (λ x. absurd (both_ways _ x (eq-eqb (next_of s k) (next_of s k) refl))) (λ x. a _ (g.ordered.on_core r h) d x) c))

  -- every way of an ask keeps this, and every way of an end
  sound_ask : (o : Outcome) → Way s k time o → Sound o.state.plan (log ++ (event (Ask k time) o.reply ∷ []))
  sound_ask _ (Way.refuses r w) = sound_quiet q _ (λ t. refl)
  sound_ask _ (Way.over c) = sound_quiet q _ (λ t. refl)
  sound_ask _ (Way.hold c) = sound_quiet q _ (λ t. refl)
  sound_ask _ (Way.again o c h) = sound_quiet q _ (λ t. refl)
  sound_ask _ (Way.goes o w a) = sound_start q (event (Ask k time) (Told (Go (next_of s k)))) (next_of s k) o.at.task (λ t h. or-false _ ∙ h)
      (λ r h l c. ended_by g o r h l (λ d. a _ (g.ordered.on_core r h) d))
  sound_ask _ (Way.looses o h a) = sound_loose o a
  sound_ask _ (Way.eases o w c room) = sound_quiet q _ (λ t. refl)
  sound_ask _ (Way.eases_goes o w c room a) = sound_loose o a

  sound_end : (t : ℕ) (o : Outcome) → Close s k t time o → Sound o.state.plan (log ++ (event (End k t time) o.reply ∷ []))
  sound_end t _ (Close.refuses r) = sound_quiet q _ (λ t. refl)
  sound_end t _ (Close.ends o run is) = sound_quiet q _ (λ t. refl)

-- and so does a run
pub sound_run : {p : Plan} → Ordered p → {log : List Event} {s : State} → Run p log s → Sound s.plan log
sound_run o Run.begun = record { turns = λ a b known_a known_b h. absurd (false≢true h); inputs = λ t r known_t known_r h. absurd (false≢true h); known = λ t h. absurd (false≢true h) }
sound_run o (Run.asked {s = s} r says law k time) = let g = agree_run o r in sound_ask g (sound_run o r) k time _ (way says law s g k time)
sound_run o (Run.ended {s = s} r k t time) = let g = agree_run o r in sound_end g (sound_run o r) k time t _ (close s g k t time)

-- an ask keeps the plan; an end; a run
way_plan : {s : State} {k time : ℕ} {o : Outcome} → Way s k time o → o.state.plan ≡ s.plan
way_plan (Way.refuses r w) = refl
way_plan (Way.over c) = refl
way_plan (Way.hold c) = refl
way_plan (Way.again o c h) = refl
way_plan (Way.goes o w a) = refl
way_plan (Way.looses o h a) = refl
way_plan (Way.eases o w c room) = refl
way_plan (Way.eases_goes o w c room a) = refl

close_plan : {s : State} {k t time : ℕ} {o : Outcome} → Close s k t time o → o.state.plan ≡ s.plan
close_plan (Close.refuses r) = refl
close_plan (Close.ends o run is) = refl

pub run_plan : {p : Plan} → Ordered p → {log : List Event} {s : State} → Run p log s → s.plan ≡ p
run_plan o Run.begun = refl
run_plan o (Run.asked {s = s} r says law k time) = way_plan (way says law s (agree_run o r) k time) ∙ run_plan o r
run_plan o (Run.ended {s = s} r k t time) = close_plan (close s (agree_run o r) k t time) ∙ run_plan o r

-- the same of the plan that the run began with
sound : {p : Plan} → Ordered p → {log : List Event} {s : State} → Run p log s → Sound p log
sound o {log} r = subst (λ p. Sound p log) (run_plan o r) (sound_run o r)

module _ {p : Plan} (o : Ordered p) {log : List Event} {s : State} (r : Run p log s) where
  -- what is promised of the order of tasks
  pub in_turn : InTurn p log
  in_turn = (sound o r).turns

  pub inputs_first : InputsFirst p log
  inputs_first = (sound o r).inputs

  -- of two tasks that run together, one that the table puts second was told to go loose
  second_loose : (a b : ℕ) → Task p a → Task p b → runs log a ≡ true → runs log b ≡ true → precedes p a b ≡ true → told_loose log b ≡ true
  second_loose a b known_a known_b ra rb l = ⊎_elim (λ x. x)
      (λ x. absurd (both_ways _ (not-true _ (and_parts (has_started log a) _ ra).1) (in_turn a b known_a known_b (and_parts (has_started log b) (not (has_ended log b)) rb).0 x l)))
      (cases_Bool (told_loose log b))

  pub in_order : InOrder p log
  in_order a b known_a known_b ra rb = ⊎_elim
      (λ x. or_right _ _ (ap (told_loose log) (cond-true (precedes p a b) b a x) ∙ second_loose a b known_a known_b ra rb x))
      (λ x. ⊎_elim
      (λ y. or_right _ _ (ap (told_loose log) (cond-false (precedes p a b) b a x) ∙ second_loose b a known_b known_a rb ra y))
      (λ y. or_left _ _ (not_from_false _ (or_from _ _ x y)))
      (cases_Bool (precedes p b a)))
      (cases_Bool (precedes p a b))
