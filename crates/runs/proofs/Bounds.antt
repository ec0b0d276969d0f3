-- The plant's time stays within the table's, with what is in the purses to spare.
use Rattle.std.proofs.Common.{◌≡◌, ℕ, ◌+◌, ◌-◌, ◌<◌, ◌≤◌, Bool, true, false, cond, not, ◌&&◌, List, [], ◌∷◌, get_or, set, sym, refl, ap, ◌∙◌, subst, ⊎_elim, arith}
use Rattle.std.proofs.lemmas.List.{get_or-set_same, get_or-set_other}
use Rattle.std.proofs.lemmas.Bool.{cases_Bool, cases_eq, false≢true, not_from_true, and_right, cond-true, cond-false, cond_both}
use Rattle.table.specs.Rows.{Plan, row, nth_on}
use Rattle.board.specs.Steps.{is_pending, is_running, is_over}
use Rattle.board.specs.Meaning.{idle, step_of}
use Rattle.board.specs.declared.cores.Core.{Core}
use Rattle.board.specs.declared.cores.Step.{Step}
use Rattle.board.specs.declared.cores.Step.TheVariants.{Waiting, Loose as LooseStep, Running, Over as OverStep}
use Rattle.board.specs.Keeping.{pending_left, running_left}
use Rattle.runs.specs.declared.Record.{Record}
use Rattle.runs.specs.declared.Manner.{Manner}
use Rattle.runs.specs.declared.Event.{Event}
use Rattle.runs.specs.Records.{fresh}
use Rattle.runs.specs.Sums.{total}
use Rattle.runs.specs.Calls.{State, next_of, next_row, at_large, reserve}
use Rattle.runs.specs.Log.{starts, loosens, let_loose, runs}
use Rattle.runs.specs.Plant.{Move, call, tick, held_up, pays, time, log_of, left, purse}
use Rattle.runs.proofs.Agree.{loosed, Agree, with_core}
use Rattle.runs.proofs.Ways.{Open, Room, opens}
use Rattle.runs.proofs.Totals.{total_le, total_more}

-- no task has more left than its span, nor more in its purse than its claim
pub left_le : (p : Plan) (t : ℕ) (ms : List Move) → left p t ms ≤ (row p t).end - (row p t).start
left_le p t [] = omega arith
left_le p t (call e ∷ ms) = let ih = left_le p t ms in cond_both (starts t e) ((row p t).end - (row p t).start) (left p t ms) (λ x. x ≤ (row p t).end - (row p t).start) (λ _. omega arith) (λ _. ih)
left_le p t (tick i ∷ ms) = let ih = left_le p t ms in cond_both (runs (log_of ms) t && not (held_up i t)) (left p t ms - 1) (left p t ms) (λ x. x ≤ (row p t).end - (row p t).start) (λ _. omega arith) (λ _. ih)

pub purse_le : (p : Plan) (t : ℕ) (ms : List Move) → purse p t ms ≤ (row p t).claim
purse_le p t [] = omega arith
purse_le p t (call e ∷ ms) = let ih = purse_le p t ms in cond_both (loosens t e && not (let_loose (log_of ms) t)) (row p t).claim (purse p t ms) (λ x. x ≤ (row p t).claim) (λ _. omega arith) (λ _. ih)
purse_le p t (tick i ∷ ms) = let ih = purse_le p t ms in cond_both (pays i t && runs (log_of ms) t) (purse p t ms - 1) (purse p t ms) (λ x. x ≤ (row p t).claim) (λ _. omega arith) (λ _. ih)

-- what is in the purses of the tasks at large
abbrev pub purses : State → List Move → ℕ
purses s ms = total s.plan.cores (at_large s) (λ k. purse s.plan (next_of s k) ms)

-- within the table's times, with x to spare
pub record Bounds (s : State) (ms : List Move) (x : ℕ) : Type 0 where
  pub run : (k : ℕ) → k < s.plan.cores → is_running (step_of s.progress k) ≡ true → time ms + (left s.plan (next_of s k) ms + x) ≤ (next_row s k).end
  pub wait : (k : ℕ) → k < s.plan.cores → is_pending (step_of s.progress k) ≡ true → time ms + x ≤ (next_row s k).start

-- with what is in the purses to spare
abbrev pub Within : State → List Move → Type 0
Within s ms = Bounds s ms (purses s ms)

-- with that much to spare, there is less to spare too
pub less_to_spare : {s : State} {ms : List Move} {x y : ℕ} → Bounds s ms x → y ≤ x → Bounds s ms y
less_to_spare b h = record { run = λ k l r. omega (arith, b.run k l r); wait = λ k l w. omega (arith, b.wait k l w) }

-- a part of a total is no more where its value is no more
pub part_le : (b : Bool) (x y : ℕ) → (b ≡ true → x ≤ y) → cond b x 0 ≤ cond b y 0
part_le true x y h = h refl
part_le false x y h = omega arith

-- the purses have no more than the reserve
purses_reserve : (s : State) (ms : List Move) → purses s ms ≤ reserve s
purses_reserve s ms = total_le (at_large s) (at_large s) (λ k. purse s.plan (next_of s k) ms) (λ k. (next_row s k).claim) s.plan.cores
    (λ j l. part_le (at_large s j) _ _ (λ _. purse_le s.plan (next_of s j) ms))

-- a core whose task was let loose is not over
loosed_open : (x : Step) (m : Manner) → loosed x m ≡ true → is_over x ≡ false
loosed_open Waiting m h = refl
loosed_open LooseStep m h = refl
loosed_open Running m h = refl
loosed_open OverStep m h = absurd (false≢true h)

-- a call leaves the purse of a task at large
pub purse_kept : {s : State} (ms : List Move) (e : Event) → Agree (log_of ms) s → (j : ℕ) → j < s.plan.cores → at_large s j ≡ true → purse s.plan (next_of s j) (call e ∷ ms) ≡ purse s.plan (next_of s j) ms
purse_kept {s} ms e g j l h =
    let o = opens j g l (loosed_open _ (get_or s.records (next_of s j) fresh).manner h) in
    let x = ((g.each j _ _ o.at).now refl).2 in
    cond-false (loosens (next_of s j) e && not (let_loose (log_of ms) (next_of s j))) _ _ (and_right _ _ (not_from_true _ (x ∙ h)))

-- with the room that the rule leaves, there is the claim to spare on top
pub room_bounds : {s : State} {log : List Event} (k : ℕ) (ms : List Move) → Agree log s → Room s k (time ms) → Bounds s ms (purses s ms + (next_row s k).claim)
room_bounds {s} k ms g room =
    let q = purses_reserve s ms in
    record {
      run = λ j l r.
          let o = opens j g l (running_left _ r) in
          omega (arith, q, room j l (ap not (running_left _ r)), left_le s.plan (next_of s j) ms, g.ordered.spans (next_of s j) o.at.task);
      wait = λ j l w. omega (arith, q, room j l (ap not (pending_left _ w)));
    }

-- what the next task of core j adds to the purses, and its bounds while it runs and before, by the core's row
abbrev pub core_part : Plan → List Record → List Move → ℕ → Core → ℕ
core_part p rs ms j c = cond (loosed c.step (get_or rs (nth_on j c.ended 0 p.rows) fresh).manner) (purse p (nth_on j c.ended 0 p.rows) ms) 0

abbrev pub RunAt : Plan → List Move → ℕ → ℕ → Core → Type 0
RunAt p ms x j c = is_running c.step ≡ true → time ms + (left p (nth_on j c.ended 0 p.rows) ms + x) ≤ (row p (nth_on j c.ended 0 p.rows)).end

abbrev pub WaitAt : Plan → List Move → ℕ → ℕ → Core → Type 0
WaitAt p ms x j c = is_pending c.step ≡ true → time ms + x ≤ (row p (nth_on j c.ended 0 p.rows)).start

module _ {s : State} (ms : List Move) (g : Agree (log_of ms) s) (k : ℕ) (within : k < s.plan.cores) (c : Core) (rs : List Record) (latest : ℕ) (e : Event) (x : ℕ)
    (others : (j : ℕ) → (j ≡ k → ⊥) → Open s j → ((get_or rs (next_of s j) fresh).manner ≡ (get_or s.records (next_of s j) fresh).manner) × (starts (next_of s j) e ≡ false)) where
  -- the rows of the cores after the call
  here : get_or (set s.progress k c) k idle ≡ c
  here = get_or-set_same s.progress k c idle (omega (arith, within, g.many))

  there : (j : ℕ) → (j ≡ k → ⊥) → get_or (set s.progress k c) j idle ≡ get_or s.progress j idle
  there j d = get_or-set_other s.progress k j c idle d

  -- a call that moves core k alone adds nothing to the purses of the others
  part_kept : (j : ℕ) → j < s.plan.cores → (j ≡ k → ⊥) → core_part s.plan rs (call e ∷ ms) j (get_or s.progress j idle) ≤ core_part s.plan s.records ms j (get_or s.progress j idle)
  part_kept j l d =
      let now = step_of s.progress j in
      let t = next_of s j in
      ⊎_elim
      (λ h.
      let o = opens j g l (loosed_open now (get_or rs t fresh).manner h) in
      let h' : at_large s j ≡ true = ap (loosed now) (sym (others j d o).0) ∙ h in
      omega (arith, cond-true (loosed now (get_or rs t fresh).manner) (purse s.plan t (call e ∷ ms)) 0 h, cond-true (at_large s j) (purse s.plan t ms) 0 h', purse_kept ms e g j l h'))
      (λ h. omega (arith, cond-false (loosed now (get_or rs t fresh).manner) (purse s.plan t (call e ∷ ms)) 0 h))
      (cases_Bool (loosed now (get_or rs t fresh).manner))

  -- so the purses have at most x more, if core k adds at most x
  purses_move : core_part s.plan rs (call e ∷ ms) k c ≤ core_part s.plan s.records ms k (get_or s.progress k idle) + x → purses (with_core s k c latest rs) (call e ∷ ms) ≤ purses s ms + x
  purses_move mine =
      let s' = with_core s k c latest rs in
      let p = s.plan in
      let ms' = call e ∷ ms in
      total_more (at_large s') (at_large s) (λ j. purse p (next_of s' j) ms') (λ j. purse p (next_of s j) ms) p.cores k x
      (λ j l d. subst (λ a. core_part p rs ms' j a ≤ core_part p s.records ms j (get_or s.progress j idle)) (sym (there j d)) (part_kept j l d))
      (subst (λ a. core_part p rs ms' k a ≤ core_part p s.records ms k (get_or s.progress k idle) + x) (sym here) mine)

  -- and the bounds are kept, if there was x more to spare and core k is within its own
  pub bounds_move : core_part s.plan rs (call e ∷ ms) k c ≤ core_part s.plan s.records ms k (get_or s.progress k idle) + x →
      Bounds s ms (purses s ms + x) →
      ((y : ℕ) → y ≤ purses s ms + x → RunAt s.plan (call e ∷ ms) y k c × WaitAt s.plan (call e ∷ ms) y k c) →
      Within (with_core s k c latest rs) (call e ∷ ms)
  bounds_move mine wide new =
      let p = s.plan in
      let ms' = call e ∷ ms in
      let y = purses (with_core s k c latest rs) ms' in
      let le = purses_move mine in
      record {
        run = λ j l. ⊎_elim
            (λ d. subst (λ i. RunAt p ms' y i (get_or (set s.progress k c) i idle)) (sym d) (subst (RunAt p ms' y k) (sym here) (new y le).0))
            (λ d. subst (RunAt p ms' y j) (sym (there j d)) (λ r.
            omega (arith, le, wide.run j l r, cond-false (starts (next_of s j) e) ((row p (next_of s j)).end - (row p (next_of s j)).start) (left p (next_of s j) ms) (others j d (opens j g l (running_left _ r))).1)))
            (cases_eq j k);
        wait = λ j l. ⊎_elim
            (λ d. subst (λ i. WaitAt p ms' y i (get_or (set s.progress k c) i idle)) (sym d) (subst (WaitAt p ms' y k) (sym here) (new y le).1))
            (λ d. subst (WaitAt p ms' y j) (sym (there j d)) (λ r. omega (arith, le, wide.wait j l r)))
            (cases_eq j k);
      }
