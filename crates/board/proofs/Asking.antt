-- What the questions of a board come down to, over a progress value.
use Rattle.std.proofs.Common.{◌≡◌, ℕ, Bool, true, false, ◌&&◌, ltb, get_or, Some, None, Option, MatchOption, sym, ap, ◌∙◌, ⊎_elim, arith}
use Rattle.std.proofs.lemmas.Bool.{cases_Bool, lt-ltb, and_parts, and_left, and_right}
use Rattle.table.proofs.Tables.{named_some, task_at}
use Rattle.board.specs.Steps.{is_waiting, is_pending, is_over}
use Rattle.board.specs.Meaning.{idle, ended_on, step_of, next, next_task, clear, easable}
use Rattle.board.specs.Standing.{plan_at, progress_at}
use Rattle.board.specs.declared.cores.Core.{Core}
use Rattle.board.specs.declared.cores.Step.{Step}
use Rattle.board.specs.declared.progress.Progress.{Progress}
use Rattle.board.specs.Keeping.{left_at, waiting_left, pending_left}
use Rattle.board.proofs.Steps.{over_not}

and_last : (x y z : Bool) → x ≡ true → y ≡ true → (x && (y && z)) ≡ z
and_last x y z a b = rw (a, b)

-- where a core is over, its next task is not pending, and not waiting
pub over_pending : (s : Step) → is_over s ≡ true → is_pending s ≡ false
over_pending = over_not is_pending pending_left

pub over_waiting : (s : Step) → is_over s ≡ true → is_waiting s ≡ false
over_waiting = over_not is_waiting waiting_left

-- a core with no next task is over
pub none_over : (x : Progress) (k : ℕ) → None ≡ next_task (plan_at x) (progress_at x) k → is_over (step_of (progress_at x) k) ≡ true
none_over x k h = ⊎_elim (λ e. e)
    (λ e. let g : None ≡ Some (next (plan_at x) (progress_at x) k) = h ∙ task_at x.table k (ended_on (progress_at x) k) (left_at x k e).left in
    let z : ◌≡◌ {A = ℕ} 0 1 = cc in absurd (omega arith))
    (cases_Bool (is_over (step_of (progress_at x) k)))

-- a question about a core: its next task is at a step of the kind g, and passes the test f there
module _ (x : Progress) (k : ℕ) (g : Step → Bool) (f : Step → ℕ → Bool) where
  pub asked_from : ((s : Step) → g s ≡ true → is_over s ≡ false) → (c : Core) (t : ℕ) (b : Bool) → c ≡ get_or (progress_at x) k idle → Some t ≡ next_task (plan_at x) (progress_at x) k → g c.step ≡ true →
      b ≡ f c.step t → b ≡ (ltb k (plan_at x).cores && (g (step_of (progress_at x) k) && f (step_of (progress_at x) k) (next (plan_at x) (progress_at x) k)))
  asked_from left c t b e d w h =
      let v : g (step_of (progress_at x) k) ≡ true = ap (λ (c : Core). g c.step) (sym e) ∙ w in
      h ∙ (ap (f c.step) (sym (named_some _ t (sym d)))
      ∙ (ap (λ (c : Core). f c.step (next (plan_at x) (progress_at x) k)) e
      ∙ sym (and_last (ltb k (plan_at x).cores) (g (step_of (progress_at x) k)) _ (lt-ltb _ _ (left_at x k (left _ v)).there) v)))

  -- at a step of another kind the answer is no
  pub asked_not : (c : Core) (b : Bool) → c ≡ get_or (progress_at x) k idle → b ≡ g c.step → b ≡ false → b ≡ (ltb k (plan_at x).cores && (g (step_of (progress_at x) k) && f (step_of (progress_at x) k) (next (plan_at x) (progress_at x) k)))
  asked_not c b e w h = h ∙ sym (and_right _ _ (and_left _ _ (ap (λ (c : Core). g c.step) (sym e) ∙ (sym w ∙ h))))

  -- without a next task the answer is no
  pub asked_none : ((s : Step) → is_over s ≡ true → g s ≡ false) → None ≡ next_task (plan_at x) (progress_at x) k →
      false ≡ (ltb k (plan_at x).cores && (g (step_of (progress_at x) k) && f (step_of (progress_at x) k) (next (plan_at x) (progress_at x) k)))
  asked_none over h = sym (and_right _ _ (and_left _ _ (over (step_of (progress_at x) k) (none_over x k h))))

-- the question as code asks it of what may be the next task
pub asked_with : (x : Progress) (k : ℕ) (g : Step → Bool) (f : Step → ℕ → Bool) → ((s : Step) → g s ≡ true → is_over s ≡ false) → (c : Core) (o : Option ℕ) (b : Bool) →
    c ≡ get_or (progress_at x) k idle → o ≡ next_task (plan_at x) (progress_at x) k → (P : ℕ → Type 0) → ((t : ℕ) → P t → b ≡ (g c.step && f c.step t)) → MatchOption o (b ≡ false) P →
    b ≡ (ltb k (plan_at x).cores && (g (step_of (progress_at x) k) && f (step_of (progress_at x) k) (next (plan_at x) (progress_at x) k)))
asked_with x k g f left c None b e d P m h = h ∙ asked_none x k g f (over_not g left) d
asked_with x k g f left c (Some t) b e d P m h = ⊎_elim
    (λ w. asked_from x k g f left c t b e d w (m t h ∙ ap (λ (z : Bool). z && f c.step t) w))
    (λ w. let no : b ≡ false = m t h ∙ ap (λ (z : Bool). z && f c.step t) w in asked_not x k g f c b e (no ∙ sym w) no)
    (cases_Bool (g c.step))

-- a clear core has a pending next task, an easable one a waiting one
pub clear_pending : (x : Progress) (k : ℕ) → clear (plan_at x) (progress_at x) k ≡ true → is_pending (step_of (progress_at x) k) ≡ true
clear_pending x k h = (and_parts (is_pending (step_of (progress_at x) k)) _ (and_parts (ltb k (plan_at x).cores) _ h).1).0

pub easable_waiting : (x : Progress) (k : ℕ) → easable (plan_at x) (progress_at x) k ≡ true → is_waiting (step_of (progress_at x) k) ≡ true
easable_waiting x k h = (and_parts (is_waiting (step_of (progress_at x) k)) _ (and_parts (ltb k (plan_at x).cores) _ h).1).0
