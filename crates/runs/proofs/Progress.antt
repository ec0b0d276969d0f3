-- The progress of a frame is the progress by its log.
use Rattle.std.proofs.Common.{◌≡◌, ℕ, zero, suc, ◌+◌, ◌<◌, ◌≤◌, min, Bool, true, false, cond, not, ◌&&◌, leb, List, length, get_or, count_by, sym, refl, ap, ◌∙◌, ⊎_elim, arith}
use Rattle.std.proofs.lemmas.List.{ext_get_or, take_all}
use Rattle.std.proofs.lemmas.List.FromFn.{length-map-range_with_len, get_or-map-range_with_len}
use Rattle.std.proofs.lemmas.List.Sums.{count_by_more_yes, count_by_more_no}
use Rattle.std.proofs.lemmas.Bool.{cases_Bool, cases_lt, both_ways, eqb-true, and_from, and_left, and_right, cond-true, cond-false}
use Rattle.table.specs.Rows.{row, blank, on, nth_on, tasks_on}
use Rattle.table.proofs.Places.{before}
use Rattle.board.specs.Steps.{is_running, is_over}
use Rattle.board.specs.Meaning.{idle, ended_on, step_of}
use Rattle.board.specs.declared.cores.Step.{Step}
use Rattle.board.specs.declared.cores.Step.TheVariants.{Waiting, Loose as LooseStep, Running, Over as OverStep}
use Rattle.board.proofs.Steps.{over_is}
use Rattle.runs.specs.declared.Manner.{Manner}
use Rattle.runs.specs.declared.Event.{Event}
use Rattle.runs.specs.Records.{fresh}
use Rattle.runs.specs.Sums.{total}
use Rattle.runs.specs.Calls.{State, next_of}
use Rattle.runs.specs.Log.{let_loose, has_ended, runs, ended_there, ended_count, step_by, core_by, progress_by}
use Rattle.runs.proofs.Tasks.{At}
use Rattle.runs.proofs.Agree.{loosed, Agree}
use Rattle.runs.proofs.Ways.{opens}

-- by the log as by the frame, a task has ended if its place is below the core's count
ended_below : {log : List Event} {s : State} {k n t : ℕ} → Agree log s → At s.plan k n t → n < ended_on s.progress k → has_ended log t ≡ true
ended_below {k = k} {n} {t} g a h = ((g.each k n t a).past h).0

ended_above : {log : List Event} {s : State} {k n t : ℕ} → Agree log s → At s.plan k n t → ended_on s.progress k ≤ n → has_ended log t ≡ false
ended_above {s = s} {k} {n} {t} g a h = ⊎_elim (λ l. ((g.each k n t a).later l).0) (λ l. ((g.each k n t a).now (omega arith)).0) (cases_lt (ended_on s.progress k) n)

-- of the first n rows, those of core k that have ended are its first
rows_ended : {log : List Event} {s : State} (k n : ℕ) → Agree log s → n ≤ length s.plan.rows → total n (ended_there s.plan log k) (λ _. 1) ≡ min (ended_on s.progress k) (before k s.plan.rows n)
rows_ended k zero g h = omega arith
rows_ended {log} {s} k (suc n) g h =
    let rows = s.plan.rows in
    let one : n + 1 ≡ suc n = omega arith in
    let l : n < length rows = omega arith in
    let ih = rows_ended k n g (omega arith) in
    let count = total n (ended_there s.plan log k) (λ _. 1) in
    ⊎_elim
    (λ c.
    let more = ap (λ j. before k rows j) (sym one) ∙ count_by_more_yes (on k) rows n blank l c in
    let a : At s.plan k (before k rows n) n = record { task = l; core = eqb-true _ _ c; place = refl } in
    ⊎_elim
    (λ b. omega (arith, cond-true (ended_there s.plan log k n) (1 + count) count (and_from _ _ c (ended_below g a b))))
    (λ b. omega (arith, cond-false (ended_there s.plan log k n) (1 + count) count (and_right _ _ (ended_above g a b))))
    (cases_lt (before k rows n) (ended_on s.progress k)))
    (λ c.
    let more = ap (λ j. before k rows j) (sym one) ∙ count_by_more_no (on k) rows n blank l c in
    omega (arith, cond-false (ended_there s.plan log k n) (1 + count) count (and_left _ _ c)))
    (cases_Bool (on k (row s.plan n)))

-- the log and the frame count the same
pub count_ended : {log : List Event} {s : State} (k : ℕ) → Agree log s → k < s.plan.cores → ended_count s.plan log k ≡ ended_on s.progress k
count_ended {log} {s} k g l =
    let rows = s.plan.rows in
    omega (arith, rows_ended k (length rows) g (omega arith), ap (count_by (on k)) (take_all (length rows) rows (omega arith)), g.fits k l)

-- the step of a task by what the log says of it is the step that it has
abbrev shown : Bool → Bool → Bool → Step
shown over run loose = cond over OverStep (cond run Running (cond loose LooseStep Waiting))

shows : (x : Step) (m : Manner) → is_over x ≡ false → shown false (is_running x && true) (loosed x m) ≡ x
shows Waiting m h = refl
shows LooseStep m h = refl
shows Running m h = refl
shows OverStep m h = absurd (both_ways _ h refl)

-- the log and the frame have the same step for each core
step_shown : {log : List Event} {s : State} (k : ℕ) → Agree log s → k < s.plan.cores → step_by s.plan log k ≡ step_of s.progress k
step_shown {log} {s} k g l =
    let t = next_of s k in
    ap (λ n. shown (leb (tasks_on s.plan.rows k) n) (runs log (nth_on k n 0 s.plan.rows)) (let_loose log (nth_on k n 0 s.plan.rows))) (count_ended k g l) ∙
    (ap (λ b. shown b (runs log t) (let_loose log t)) (sym (g.over k l)) ∙ ⊎_elim
    (λ h. ap (λ b. shown b (runs log t) (let_loose log t)) h ∙ sym (over_is _ h))
    (λ h.
    let x = (g.each k _ t (opens k g l h).at).now refl in
    ap (λ b. shown b (runs log t) (let_loose log t)) h ∙
    (ap (λ b. shown false (b && not (has_ended log t)) (let_loose log t)) x.1 ∙
    (ap (λ b. shown false (is_running (step_of s.progress k) && not b) (let_loose log t)) x.0 ∙
    (ap (λ b. shown false (is_running (step_of s.progress k) && true) b) x.2 ∙ shows _ (get_or s.records t fresh).manner h))))
    (cases_Bool (is_over (step_of s.progress k))))

pub progress_is : {log : List Event} {s : State} → Agree log s → progress_by s.plan log ≡ s.progress
progress_is {log} {s} g =
    let p = s.plan in
    let size = length-map-range_with_len (core_by p log) 0 p.cores in
    ext_get_or idle (progress_by p log) s.progress (size ∙ sym g.many) (λ j h.
    let l : j < p.cores = omega (arith, h, size) in
    get_or-map-range_with_len (core_by p log) 0 p.cores j j idle l (omega arith) ∙ (λ i. record { ended = count_ended j g l i; step = step_shown j g l i }))
