-- When the vectors say what the progress of a board says, and what follows for its two tests.
use Rattle.std.proofs.Common.{◌≡◌, ℕ, suc, ◌<◌, ◌≤◌, Bool, true, false, not, ◌&&◌, ◌||◌, eqb, ltb, ◌⊎◌, List, length, get_or, sym, refl, ap, ◌∙◌, subst, inl, inr}
use Rattle.std.proofs.lemmas.Bool.{eq-eqb, ne_eqb, ltb-true, leb-true, leb-false, cases_eq, true≢false, le-leb, or_left, or_right, and_left, and_right, not_from_false}
use Rattle.table.specs.Below.{all_below}
use Rattle.table.specs.Sets.{has}
use Rattle.table.specs.Rows.{Plan, row, on, wait}
use Rattle.table.proofs.Below.{all_same, any_same, all_fewer, any_fewer}
use Rattle.table.proofs.Places.{wait_le}
use Rattle.board.specs.Steps.{is_waiting, is_pending, is_over}
use Rattle.board.specs.Meaning.{idle, ended_on, step_of, next, met, free_of, droppable, clear, easable}
use Rattle.board.specs.declared.cores.Core.{Core}
use Rattle.board.specs.declared.cores.Step.{Step}
use Rattle.board.specs.declared.cores.Step.TheVariants.{Waiting, Loose, Running, Over}
use Rattle.board.specs.Keeping.{pending_left, waiting_left}
use Rattle.vectors.specs.Phases.{Standing, vectors_at, ready_of, notify_of, status_of, target_of, drops, vectors_clear, vectors_easable}
use Rattle.vectors.specs.declared.state.Vectors.{Vectors}
use Rattle.vectors.proofs.Pair.{Waits, Rises, Bits, Kept, unmet_ready, unmet_status, met_status}
use Rattle.table.proofs.Ordered.{Ordered}
use Rattle.vectors.proofs.Places.{nth, tasks, nth_core, start_rises, wait_rises}

-- the waits of core c on core k, and the bits that stand for them
abbrev pub waits : Plan → ℕ → ℕ → Waits
waits p c k = record { many = tasks p c; others = tasks p k; wait = λ i. wait p.rows (row p (nth p c i)) k; task = nth p c }

abbrev pub bits : Plan → Vectors → ℕ → ℕ → Bits
bits p v c k = record {
  ready = λ i. has (ready_of v (nth p c i)) k;
  status = has (status_of v c) k;
  notify = λ y. has (notify_of v (nth p k y)) c;
  target = λ y. target_of v (nth p k y) c;
}

-- waits rise along a core, up to the other core's tasks
pub waits_rise : (p : Plan) → Ordered p → (c k : ℕ) → Rises (waits p c k)
waits_rise p o c k = record {
  rises = λ i j l h. wait_rises p.rows (row p (nth p c i)) (row p (nth p c j)) k (start_rises p o c i j l h);
  bounded = λ i h. wait_le k (row p (nth p c i)).start p.rows;
}

-- room for 384 rows and 8 cores
pub record Shaped (v : Vectors) : Type 0 where
  pub tasks : length v.tasks ≡ 384
  pub wide : (x : ℕ) → x < 384 → length (vectors_at v x).target ≡ 8
  pub status : length v.status ≡ 8

-- from which place f on the waits on one core are in force, e tasks having ended: a task that runs, or is loose and has
-- dropped its wait, is passed over; a loose task keeps a wait on a data core, and one that was met
abbrev pub From : Step → ℕ → ℕ → Bool → ℕ → ℕ → Bool → Type 0
From Waiting e f feeds w E bit = f ≡ e
From Loose e f feeds w E bit = ((f ≡ e) × ((feeds ≡ true) ⊎ (w ≤ E))) ⊎ ((f ≡ suc e) × (feeds ≡ false) × (bit ≡ false))
From Running e f feeds w E bit = f ≡ suc e
From Over e f feeds w E bit = f ≡ e

-- so for core c, at r, and its waits on core k
abbrev pub Starts : Plan → Vectors → ℕ → ℕ → Core → ℕ → ℕ → Type 0
Starts p v c k r E f = From r.step r.ended f (has (row p (nth p c r.ended)).inputs k) (wait p.rows (row p (nth p c r.ended)) k) E (has (ready_of v (nth p c r.ended)) k)

-- core c, at r, and its waits on core k, of whose tasks E have ended
pub record Pair (p : Plan) (v : Vectors) (c k : ℕ) (r : Core) (E : ℕ) : Type 0 where
  pub start : ℕ
  pub from : Starts p v c k r E start
  pub kept : Kept (waits p c k) E start (bits p v c k)

-- the vectors v say what the progress cs says; no task needs a notice of its own core or of one that the table lacks, and none is told there
pub record Agree (p : Plan) (cs : List Core) (v : Vectors) : Type 0 where
  pub long : length cs ≡ p.cores
  pub shape : Shaped v
  pub left : (c : ℕ) → c < p.cores → is_over (step_of cs c) ≡ false → ended_on cs c < tasks p c
  pub alone : (c i : ℕ) → c < p.cores → i < tasks p c → has (ready_of v (nth p c i)) c ≡ false
  pub silent : (c y : ℕ) → c < p.cores → y < tasks p c → has (notify_of v (nth p c y)) c ≡ false
  pub beyond : (t j : ℕ) → p.cores ≤ j → j < 8 → has (ready_of v t) j ≡ false
  pub beyond_told : (t c : ℕ) → p.cores ≤ c → c < 8 → has (notify_of v t) c ≡ false
  pub pairs : (c k : ℕ) → c < p.cores → k < p.cores → (c ≡ k → ⊥) → Pair p v c k (get_or cs c idle) (ended_on cs k)

-- two tests that agree where a third holds
and_when : (x y z : Bool) → (x ≡ true → y ≡ z) → (x && y) ≡ (x && z)
and_when true y z h = h refl
and_when false y z h = refl

-- a bit that is missing in the status vector, as a wait that is not met
stands : (b σ m : Bool) → (m ≡ true → b ≡ true → σ ≡ true) → (m ≡ false → b ≡ true) → (m ≡ false → σ ≡ false) → (not b || σ) ≡ m
stands true σ true h g l = h refl refl
stands true σ false h g l = l refl
stands false σ true h g l = refl
stands false σ false h g l = sym (g refl)

lacks : (b σ m : Bool) → (m ≡ true → b ≡ true → σ ≡ true) → (m ≡ false → b ≡ true) → (m ≡ false → σ ≡ false) → (b && not σ) ≡ not m
lacks true σ true h g l = ap not (h refl refl)
lacks true σ false h g l = ap not (l refl)
lacks false σ true h g l = refl
lacks false σ false h g l = g refl

-- while the next task waits, all its waits are in force
pub waiting_from : (st : Step) (e f : ℕ) (d : Bool) (w E : ℕ) (b : Bool) → is_waiting st ≡ true → From st e f d w E b → f ≡ e
waiting_from Waiting e f d w E b t fr = fr
waiting_from Loose e f d w E b t fr = absurd (true≢false (sym t))
waiting_from Running e f d w E b t fr = absurd (true≢false (sym t))
waiting_from Over e f d w E b t fr = absurd (true≢false (sym t))

-- the same beside a data bit
regroup : (b σ d m : Bool) → (b && not σ) ≡ not m → (b && (not σ && not d)) ≡ (not d && not m)
regroup true σ d true h = rw h (sym (and_right (not d) false refl))
regroup true σ true false h = and_right (not σ) false refl
regroup true σ false false h = rw h
regroup false σ d true h = sym (and_right (not d) false refl)
regroup false σ d false h = absurd (true≢false (sym h))

module _ (p : Plan) (o : Ordered p) (cs : List Core) (v : Vectors) (s : Agree p cs v) (c : ℕ) (hc : c < p.cores) where
  -- while all waits from the next task on are in force, a bit is missing exactly where a wait is not met
  module _ (k : ℕ) (l : ended_on cs c < tasks p c) (kept : Kept (waits p c k) (ended_on cs k) (ended_on cs c) (bits p v c k)) where
    met_both : met p cs (next p cs c) k ≡ true → has (ready_of v (next p cs c)) k ≡ true → has (status_of v c) k ≡ true
    met_both q = met_status (waits p c k) (waits_rise p o c k) (ended_on cs k) (ended_on cs c) (bits p v c k) kept l (leb-true (wait p.rows (row p (next p cs c)) k) (ended_on cs k) q)

    unmet_is_ready : met p cs (next p cs c) k ≡ false → has (ready_of v (next p cs c)) k ≡ true
    unmet_is_ready q = unmet_ready (waits p c k) (waits_rise p o c k) (ended_on cs k) (ended_on cs c) (bits p v c k) kept l (leb-false (wait p.rows (row p (next p cs c)) k) (ended_on cs k) q)

    unmet_no_status : met p cs (next p cs c) k ≡ false → has (status_of v c) k ≡ false
    unmet_no_status q = unmet_status (waits p c k) (waits_rise p o c k) (ended_on cs k) (ended_on cs c) (bits p v c k) kept l (leb-false (wait p.rows (row p (next p cs c)) k) (ended_on cs k) q)

    bit_is : (not (has (ready_of v (next p cs c)) k) || has (status_of v c) k) ≡ met p cs (next p cs c) k
    bit_is = stands (has (ready_of v (next p cs c)) k) (has (status_of v c) k) (met p cs (next p cs c) k) met_both unmet_is_ready unmet_no_status

    bit_lacks : (has (ready_of v (next p cs c)) k && not (has (status_of v c) k)) ≡ not (met p cs (next p cs c) k)
    bit_lacks = lacks (has (ready_of v (next p cs c)) k) (has (status_of v c) k) (met p cs (next p cs c) k) met_both unmet_is_ready unmet_no_status

  -- the place from which waits are in force, known by an equation
  at_start : (k e f : ℕ) → f ≡ e → Kept (waits p c k) (ended_on cs k) f (bits p v c k) → Kept (waits p c k) (ended_on cs k) e (bits p v c k)
  at_start k e f q kept = subst (λ x. Kept (waits p c k) (ended_on cs k) x (bits p v c k)) q kept

  -- the test of one core's bit is the test of its wait
  clear_at : (st : Step) (k f : ℕ) → is_pending st ≡ true → ended_on cs c < tasks p c →
      From st (ended_on cs c) f (has (row p (next p cs c)).inputs k) (wait p.rows (row p (next p cs c)) k) (ended_on cs k) (has (ready_of v (next p cs c)) k) →
      Kept (waits p c k) (ended_on cs k) f (bits p v c k) →
      (not (has (ready_of v (next p cs c)) k) || has (status_of v c) k) ≡ (not (is_waiting st || has (row p (next p cs c)).inputs k) || met p cs (next p cs c) k)
  clear_at Waiting k f t l fr kept = bit_is k l (at_start k (ended_on cs c) f fr kept)
  clear_at Loose k f t l (inl (e, inl d)) kept = rw d (bit_is k l (at_start k (ended_on cs c) f e kept))
  clear_at Loose k f t l (inl (e, inr m)) kept =
      let q = le-leb (wait p.rows (row p (next p cs c)) k) (ended_on cs k) m in
      bit_is k l (at_start k (ended_on cs c) f e kept) ∙ (q ∙ sym (or_right (not (has (row p (next p cs c)).inputs k)) (met p cs (next p cs c) k) q))
  clear_at Loose k f t l (inr q) kept = rw (q.1, q.2)
  clear_at Running k f t l fr kept = absurd (true≢false (sym t))
  clear_at Over k f t l fr kept = absurd (true≢false (sym t))

  -- so for each core of the table, at the step that the core has
  clear_each : is_pending (step_of cs c) ≡ true → (k : ℕ) → k < p.cores →
      (not (has (ready_of v (next p cs c)) k) || has (status_of v c) k) ≡ free_of p cs (step_of cs c) (next p cs c) k
  clear_each t k hk = go (cases_eq c k)
    where
      l : ended_on cs c < tasks p c
      l = s.left c hc (pending_left (step_of cs c) t)

      go : ((c ≡ k) ⊎ (c ≡ k → ⊥)) → (not (has (ready_of v (next p cs c)) k) || has (status_of v c) k) ≡ free_of p cs (step_of cs c) (next p cs c) k
      go (inl e) =
          let a : has (ready_of v (next p cs c)) k ≡ false = rw (← e) (s.alone c (ended_on cs c) hc l) in
          let b : on k (row p (next p cs c)) ≡ true = eq-eqb (row p (next p cs c)).core k (nth_core p c (ended_on cs c) l ∙ e) in
          rw (a, b)
      go (inr n) =
          let b : on k (row p (next p cs c)) ≡ false = ne_eqb (row p (next p cs c)).core k (λ q. n (sym (nth_core p c (ended_on cs c) l) ∙ q)) in
          let pr = s.pairs c k hc hk n in
          rw b (clear_at (step_of cs c) k pr.start t l pr.from pr.kept)

  -- the bits of a core that is clear by all cores of the table, and by all 8
  noticed_each : is_pending (step_of cs c) ≡ true → all_below 8 (λ j. not (has (ready_of v (next p cs c)) j) || has (status_of v c) j) ≡ all_below p.cores (free_of p cs (step_of cs c) (next p cs c))
  noticed_each t =
      all_fewer p.cores 8 (λ j. not (has (ready_of v (next p cs c)) j) || has (status_of v c) j) o.few
      (λ j a b. or_left (not (has (ready_of v (next p cs c)) j)) (has (status_of v c) j) (not_from_false (has (ready_of v (next p cs c)) j) (s.beyond (next p cs c) j a b)))
      ∙ all_same p.cores _ _ (clear_each t)

  -- the waits of a waiting task on another core
  kept_waiting : is_waiting (step_of cs c) ≡ true → (k : ℕ) → k < p.cores → (c ≡ k → ⊥) → Kept (waits p c k) (ended_on cs k) (ended_on cs c) (bits p v c k)
  kept_waiting t k hk n =
      let pr = s.pairs c k hc hk n in
      at_start k (ended_on cs c) pr.start (waiting_from (step_of cs c) (ended_on cs c) pr.start (has (row p (next p cs c)).inputs k) (wait p.rows (row p (next p cs c)) k) (ended_on cs k) (has (ready_of v (next p cs c)) k) t pr.from) pr.kept

  -- a bit that easing drops is an unmet wait on a core that is no data core
  pub easing_each : is_waiting (step_of cs c) ≡ true → (k : ℕ) → k < p.cores → drops p v c (next p cs c) k ≡ droppable p cs c (next p cs c) k
  easing_each t k hk = go (cases_eq c k)
    where
      l : ended_on cs c < tasks p c
      l = s.left c hc (waiting_left (step_of cs c) t)

      go : ((c ≡ k) ⊎ (c ≡ k → ⊥)) → drops p v c (next p cs c) k ≡ droppable p cs c (next p cs c) k
      go (inl e) =
          let a : has (ready_of v (next p cs c)) k ≡ false = rw (← e) (s.alone c (ended_on cs c) hc l) in
          let b : eqb k c ≡ true = eq-eqb k c (sym e) in
          rw (a, b)
      go (inr n) =
          let b : eqb k c ≡ false = ne_eqb k c (λ q. n (sym q)) in
          rw b (regroup (has (ready_of v (next p cs c)) k) (has (status_of v c) k) (has (row p (next p cs c)).inputs k) (met p cs (next p cs c) k) (bit_lacks k l (kept_waiting t k hk n)))

-- the vectors tell which cores are clear
pub clear_right : (p : Plan) → Ordered p → (b : Standing) → Agree p b.progress b.vectors → (k : ℕ) → vectors_clear p b k ≡ clear p b.progress k
clear_right p o b s k =
    and_when (ltb k p.cores) _ _ (λ h.
    and_when (is_pending (step_of b.progress k)) _ _ (noticed_each p o b.progress b.vectors s k (ltb-true k p.cores h)))

-- the vectors tell which cores can be eased
pub easable_right : (p : Plan) → Ordered p → (b : Standing) → Agree p b.progress b.vectors → (k : ℕ) → vectors_easable p b k ≡ easable p b.progress k
easable_right p o b s k =
    and_when (ltb k p.cores) _ _ (λ h.
    and_when (is_waiting (step_of b.progress k)) _ _ (λ t.
    any_fewer p.cores 8 (drops p b.vectors k (next p b.progress k)) o.few (λ j a l. and_left _ _ (s.beyond (next p b.progress k) j a l))
    ∙ any_same p.cores _ _ (easing_each p o b.progress b.vectors s k (ltb-true k p.cores h) t)))
