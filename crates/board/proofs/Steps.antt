-- Steps that exclude one another; that a pending, a waiting or a running task is one that is left stands in `specs/Keeping.antt`.
use Rattle.std.proofs.Common.{◌≡◌, Bool, true, false, refl, ⊎_elim}
use Rattle.std.proofs.lemmas.Bool.{cases_Bool, both_ways, false≢true, true≢false}
use Rattle.board.specs.Steps.{is_waiting, is_pending, is_running, is_over}
use Rattle.board.specs.declared.cores.Step.{Step}
use Rattle.board.specs.declared.cores.Step.TheVariants.{Waiting, Loose, Running, Over}

-- the one step that a test names
pub waiting_is : (s : Step) → is_waiting s ≡ true → s ≡ Waiting
waiting_is Waiting h = refl
waiting_is Loose h = absurd (false≢true h)
waiting_is Running h = absurd (false≢true h)
waiting_is Over h = absurd (false≢true h)

pub over_is : (s : Step) → is_over s ≡ true → s ≡ Over
over_is Waiting h = absurd (false≢true h)
over_is Loose h = absurd (false≢true h)
over_is Running h = absurd (false≢true h)
over_is Over h = refl

-- a pending task does not run
pub pending_still : (s : Step) → is_pending s ≡ true → is_running s ≡ false
pending_still Waiting h = refl
pending_still Loose h = refl
pending_still Running h = absurd (false≢true h)
pending_still Over h = absurd (false≢true h)

-- a step that is neither over nor running is pending
pub step_left : (s : Step) → is_over s ≡ false → is_running s ≡ false → is_pending s ≡ true
step_left Waiting h r = refl
step_left Loose h r = refl
step_left Running h r = absurd (true≢false r)
step_left Over h r = absurd (true≢false h)

-- a test that holds of no core that is over fails where one is
pub over_not : (g : Step → Bool) → ((s : Step) → g s ≡ true → is_over s ≡ false) → (s : Step) → is_over s ≡ true → g s ≡ false
over_not g left s h = ⊎_elim (λ y. absurd (both_ways (is_over s) (left s y) h)) (λ n. n) (cases_Bool (g s))
