-- Every call keeps the plant within the table's times.
use Rattle.std.proofs.Common.{◌≡◌, ℕ, suc, ◌+◌, ◌-◌, ◌≤◌, true, false, cond, ◌||◌, eqb, List, ◌∷◌, get_or, set, sym, refl, ap, ◌∙◌, subst, arith}
use Rattle.std.proofs.Math.Bool.{or-false}
use Rattle.std.proofs.lemmas.List.{get_or-set_same}
use Rattle.std.proofs.lemmas.Bool.{both_ways, leb-false, or_left, or_right, cond-true, cond-false}
use Rattle.table.specs.Rows.{row, nth_on}
use Rattle.board.specs.Steps.{is_pending, is_over}
use Rattle.board.specs.Meaning.{idle, ended_on, step_of, rest, rested}
use Rattle.board.specs.declared.cores.Step.{Step}
use Rattle.board.specs.declared.cores.Step.TheVariants.{Loose as LooseStep, Running}
use Rattle.board.specs.Keeping.{pending_left}
use Rattle.calls.specs.declared.Answer.{Answer}
use Rattle.calls.specs.declared.Answer.TheVariants.{Go, Loose, Data}
use Rattle.calls.specs.declared.Reply.TheVariants.{Told, Noted}
use Rattle.calls.specs.declared.Call.TheVariants.{Ask, End}
use Rattle.runs.specs.declared.Record.{Record}
use Rattle.runs.specs.declared.Manner.{Manner}
use Rattle.runs.specs.declared.Manner.TheVariants.{InTurn, Loose as WentLoose}
use Rattle.runs.specs.declared.Event.{Event}
use Rattle.runs.specs.Records.{went_loose, fresh, started_at, ended_at}
use Rattle.runs.specs.Calls.{State, Outcome, next_of, next_row, at_large, at_time, starting}
use Rattle.runs.specs.Log.{goes, goes_loose, starts}
use Rattle.runs.specs.Plant.{Move, call, time, log_of, left, purse}
use Rattle.runs.proofs.Tasks.{at_next, apart, sooner}
use Rattle.runs.proofs.Logs.{event}
use Rattle.runs.proofs.Agree.{loosed, Agree, with_core}
use Rattle.runs.proofs.Ways.{Open, Way, Close}
use Rattle.runs.proofs.Steps.{rest_quiet, rest_over, quiet_loosed, manner_other, manner_same}
use Rattle.runs.proofs.Totals.{total_le}
use Rattle.runs.proofs.Bounds.{left_le, purse_le, purses, Bounds, Within, less_to_spare, part_le, purse_kept, room_bounds, core_part, bounds_move}

module _ {s : State} (ms : List Move) (g : Agree (log_of ms) s) where
  -- a call that starts none and moves no core
  bounds_quiet : (latest : ℕ) (e : Event) → ((t : ℕ) → starts t e ≡ false) → Within s ms →
      Within (at_time s latest s.progress) (call e ∷ ms)
  bounds_quiet latest e none b =
      let p = s.plan in
      let le : purses s (call e ∷ ms) ≤ purses s ms = total_le (at_large s) (at_large s) (λ j. purse p (next_of s j) (call e ∷ ms)) (λ j. purse p (next_of s j) ms) p.cores (λ j l. part_le (at_large s j) _ _ (λ h. omega (arith, purse_kept ms e g j l h))) in
      record {
        run = λ j l r. omega (arith, le, b.run j l r, cond-false (starts (next_of s j) e) ((row p (next_of s j)).end - (row p (next_of s j)).start) (left p (next_of s j) ms) (none (next_of s j)));
        wait = λ j l w. omega (arith, le, b.wait j l w);
      }

  module _ (k : ℕ) (o : Open s k) where
    -- core k takes a step, and the purses may grow by x
    bounds_step : is_pending (step_of s.progress k) ≡ true → (new : Step) (rs : List Record) (a : Answer) (x : ℕ) →
        ((t : ℕ) → eqb t (next_of s k) ≡ false → ((get_or rs t fresh).manner ≡ (get_or s.records t fresh).manner) × ((goes t a || goes_loose t a) ≡ false)) →
        core_part s.plan rs (call (event (Ask k (time ms)) (Told a)) ∷ ms) k (record { ended = ended_on s.progress k; step = new }) ≤ core_part s.plan s.records ms k (get_or s.progress k idle) + x →
        Bounds s ms (purses s ms + x) →
        Within (with_core s k (record { ended = ended_on s.progress k; step = new }) (time ms) rs) (call (event (Ask k (time ms)) (Told a)) ∷ ms)
    bounds_step w new rs a x others mine wide =
        let e = event (Ask k (time ms)) (Told a) in
        bounds_move ms g k o.within (record { ended = ended_on s.progress k; step = new }) rs (time ms) e x
        (λ j d q. others (next_of s j) (apart q.at o.at (λ y z. d y))) mine wide
        (λ y h. (
          λ r. omega (arith, h, left_le s.plan (next_of s k) (call e ∷ ms), wide.wait k o.within w, g.ordered.spans (next_of s k) o.at.task),
          λ r. omega (arith, h, wide.wait k o.within w),
        ))

    -- a start in the manner m
    bounds_start : is_pending (step_of s.progress k) ≡ true → (m : Manner) (a : Answer) (x : ℕ) →
        ((t : ℕ) → eqb t (next_of s k) ≡ false → (goes t a || goes_loose t a) ≡ false) →
        cond (went_loose m) (purse s.plan (next_of s k) (call (event (Ask k (time ms)) (Told a)) ∷ ms)) 0 ≤ core_part s.plan s.records ms k (get_or s.progress k idle) + x →
        Bounds s ms (purses s ms + x) →
        Within (starting s k (next_of s k) (time ms) m) (call (event (Ask k (time ms)) (Told a)) ∷ ms)
    bounds_start w m a x quiet mine wide =
        let r = started_at (time ms) m in
        let e = event (Ask k (time ms)) (Told a) in
        let mine' = ap (λ y. y.manner) (get_or-set_same s.records (next_of s k) r fresh (omega (arith, g.noted, o.at.task))) in
        bounds_step w Running (set s.records (next_of s k) r) a x (λ t h. (manner_other s.records (next_of s k) t r h, quiet t h))
        (subst (λ y. cond (went_loose y) (purse s.plan (next_of s k) (call e ∷ ms)) 0 ≤ core_part s.plan s.records ms k (get_or s.progress k idle) + x) (sym mine') mine) wide

  -- every way of an ask keeps the bounds, and every way of an end
  pub bounds_ask : (k : ℕ) → Within s ms → (o : Outcome) → Way s k (time ms) o →
      Within o.state (call (event (Ask k (time ms)) o.reply) ∷ ms)
  bounds_ask k b _ (Way.refuses r w) = bounds_quiet s.latest _ (λ t. refl) b
  bounds_ask k b _ (Way.over c) = bounds_quiet (time ms) _ (λ t. refl) b
  bounds_ask k b _ (Way.hold c) = bounds_quiet (time ms) _ (λ t. refl) b
  bounds_ask k b _ (Way.again o c h) = bounds_quiet (time ms) _ (λ t. refl) b
  bounds_ask k b _ (Way.goes o w a) = bounds_start k o (or_left _ _ w) InTurn (Go (next_of s k)) 0 (λ t h. or-false _ ∙ h) (omega arith) (less_to_spare b (omega arith))
  bounds_ask k b _ (Way.looses o h a) =
      let e = event (Ask k (time ms)) (Told (Loose (next_of s k))) in
      let h' : at_large s k ≡ true = or_left _ _ h in
      bounds_start k o (or_right _ _ h) WentLoose (Loose (next_of s k)) 0 (λ t h. h)
      (omega (arith, cond-true (at_large s k) (purse s.plan (next_of s k) ms) 0 h', purse_kept ms e g k o.within h')) (less_to_spare b (omega arith))
  bounds_ask k b _ (Way.eases o w c room) =
      let e = event (Ask k (time ms)) (Told (Data (next_of s k))) in
      bounds_step k o (or_left _ _ w) LooseStep s.records (Data (next_of s k)) (next_row s k).claim (λ t h. (refl, refl))
      (omega (arith, purse_le s.plan (next_of s k) (call e ∷ ms))) (room_bounds k ms g room)
  bounds_ask k b _ (Way.eases_goes o w c room a) =
      let e = event (Ask k (time ms)) (Told (Loose (next_of s k))) in
      bounds_start k o (or_left _ _ w) WentLoose (Loose (next_of s k)) (next_row s k).claim (λ t h. h)
      (omega (arith, purse_le s.plan (next_of s k) (call e ∷ ms))) (room_bounds k ms g room)

  pub bounds_end : (k t : ℕ) → Within s ms → (o : Outcome) → Close s k t (time ms) o →
      Within o.state (call (event (End k t (time ms)) o.reply) ∷ ms)
  bounds_end k t b _ (Close.refuses r) = bounds_quiet s.latest _ (λ t. refl) b
  bounds_end k t b _ (Close.ends o run is) =
      let e = event (End k t (time ms)) Noted in
      let p = s.plan in
      let n = suc (ended_on s.progress k) in
      let q = rest_quiet p k n in
      let r = ended_at (time ms) (get_or s.records t fresh) in
      let rs = set s.records t r in
      bounds_move ms g k o.within (rested p k n) rs (time ms) e 0
      (λ j d q. (manner_same s.records t r (omega (arith, g.noted, is, o.at.task)) refl (next_of s j), refl))
      (omega (arith, cond-false (loosed (rest p k n) (get_or rs (nth_on k n 0 p.rows) fresh).manner) (purse p (nth_on k n 0 p.rows) (call e ∷ ms)) 0 (quiet_loosed (rest p k n) _ q.0 q.1)))
      (less_to_spare b (omega arith))
      (λ y h. (
        λ r. absurd (both_ways _ q.0 r),
        λ w.
            let v : is_over (rest p k n) ≡ false = pending_left _ w in
            let a = at_next p k n (leb-false _ _ (sym (rest_over p k n) ∙ v)) in
            omega (arith, h, b.run k o.within run, sooner g.ordered o.at a (omega arith)),
      ))
