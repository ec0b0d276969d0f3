-- What a progress value keeps of its cores, as far as the laws of a board over it need it, and what a step that is not over is.
use Rattle.std.specs.Prelude.{◌≡◌, ℕ, zero, suc, ◌<◌, ◌≤◌, true, false, List, [], ◌∷◌, length, take, Some, None, Option, ◌==◌, nat_le, slice_index_or, slice_set, refl}
use Rattle.std.proofs.Common.{sym, ap, ◌∙◌, ⊎_elim, arith}
use Rattle.std.proofs.lemmas.Bool.{cases_lt, ltb-true, eqb-true, leb-true, and_parts, cond-false, both_ways, false≢true}
use Rattle.std.proofs.lemmas.List.{get_or_past}
use Rattle.table.specs.Rows.{Plan, tasks_on}
use Rattle.table.specs.Lawful.{EmptyOrLawful}
use Rattle.table.specs.Below.{all_below}
use Rattle.table.proofs.Below.{all_at}
use Rattle.table.proofs.Tables.{few_on, table_sound}
use Rattle.board.specs.Steps.{is_waiting, is_pending, is_running, is_over}
use Rattle.board.specs.Meaning.{idle, ended_on, step_of, next_task}
use Rattle.board.specs.Keeps.{agrees, same_task, keeps_at, keeps, nexts_of}
use Rattle.board.specs.Standing.{plan_at, progress_at}
use Rattle.board.specs.declared.cores.Core.{Core}
use Rattle.board.specs.declared.cores.Step.{Step}
use Rattle.board.specs.declared.cores.Step.TheVariants.{Waiting, Loose, Running, Over}
use Rattle.board.specs.declared.progress.Progress.{Progress}

pub take_set_in : {X : Type 0} (n : ℕ) (xs : List X) (i : ℕ) (y : X) → take n (slice_set xs i y) ≡ slice_set (take n xs) i y
take_set_in zero xs i y = refl
take_set_in (suc n) [] i y = refl
take_set_in (suc n) (x ∷ xs) zero y = refl
take_set_in (suc n) (x ∷ xs) (suc i) y = ap (λ l. x ∷ l) (take_set_in n xs i y)

same_is : (a b : Option ℕ) → same_task a b ≡ true → a ≡ b
same_is None None h = refl
same_is None (Some u) h = absurd (false≢true h)
same_is (Some t) None h = absurd (false≢true h)
same_is (Some t) (Some u) h = ap Some (eqb-true t u h)

pub record Kept (p : Plan) (cs : List Core) (ns : List (Option ℕ)) : Type 0 where
  pub many : length cs ≡ p.cores
  pub room : p.cores ≤ length ns
  pub each : (k : ℕ) → k < p.cores → agrees (tasks_on p.rows k) (slice_index_or cs k idle) ≡ true
  pub names : (k : ℕ) → k < p.cores → slice_index_or ns k None ≡ next_task p cs k

pub keeps_parts : (p : Plan) (cs : List Core) (ns : List (Option ℕ)) → keeps p cs ns ≡ true → Kept p cs ns
unfolding keeps
keeps_parts p cs ns h =
    let a = and_parts (length cs == p.cores) _ h in
    let b = and_parts (nat_le p.cores (length ns)) (all_below p.cores (keeps_at p cs ns)) a.1 in
    record {
      many = eqb-true _ _ a.0;
      room = leb-true _ _ b.0;
      each = λ k l. (and_parts (agrees (tasks_on p.rows k) (slice_index_or cs k idle)) (same_task (slice_index_or ns k None) (next_task p cs k)) (all_at p.cores (keeps_at p cs ns) b.1 k l)).0;
      names = λ k l. same_is _ _ (and_parts (agrees (tasks_on p.rows k) (slice_index_or cs k idle)) (same_task (slice_index_or ns k None) (next_task p cs k)) (all_at p.cores (keeps_at p cs ns) b.1 k l)).1;
    }

-- core k is not over: it is one of the table's, and has a task left
pub record Left (x : Progress) (k : ℕ) : Type 0 where
  pub there : k < (plan_at x).cores
  pub left : ended_on (progress_at x) k < tasks_on (plan_at x).rows k
  pub few : tasks_on (plan_at x).rows k ≤ 384

pub left_at : (x : Progress) (k : ℕ) → is_over (step_of (progress_at x) k) ≡ false → Left x k
left_at x k h =
    let a = keeps_parts (plan_at x) (progress_at x) (nexts_of x.cores.rows) x.ok in
    let l : k < (plan_at x).cores = ⊎_elim (λ q. q) (λ q. absurd (both_ways (is_over (step_of (progress_at x) k)) h (ap (λ (c : Core). is_over c.step) (get_or_past (progress_at x) k idle (omega (arith, q, a.many)))))) (cases_lt k (plan_at x).cores) in
    record {
      there = l;
      few = few_on x.table k;
      left = ltb-true _ _ (sym (cond-false (is_over (step_of (progress_at x) k)) (ended_on (progress_at x) k == tasks_on (plan_at x).rows k) _ h) ∙ a.each k l);
    }

-- what a board over a progress value owes
pub progress_left : (x : Progress) (k : ℕ) → is_over (step_of (progress_at x) k) ≡ false → ended_on (progress_at x) k < tasks_on (plan_at x).rows k
progress_left x k h = (left_at x k h).left

pub progress_lawful : (x : Progress) → EmptyOrLawful (plan_at x)
progress_lawful x = table_sound x.table

-- a core whose next task is pending or running is not over
pub pending_left : (s : Step) → is_pending s ≡ true → is_over s ≡ false
pending_left Waiting h = refl
pending_left Loose h = refl
pending_left Running h = absurd (false≢true h)
pending_left Over h = absurd (false≢true h)

pub waiting_left : (s : Step) → is_waiting s ≡ true → is_over s ≡ false
waiting_left Waiting h = refl
waiting_left Loose h = absurd (false≢true h)
waiting_left Running h = absurd (false≢true h)
waiting_left Over h = absurd (false≢true h)

pub running_left : (s : Step) → is_running s ≡ true → is_over s ≡ false
running_left Waiting h = refl
running_left Loose h = refl
running_left Running h = refl
running_left Over h = absurd (false≢true h)
