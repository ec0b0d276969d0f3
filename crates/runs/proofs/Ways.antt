-- The ways in which an ask and an end can come out.
use Rattle.std.proofs.Common.{◌≡◌, ℕ, zero, suc, ◌+◌, ◌<◌, ◌≤◌, Bool, true, false, not, ◌&&◌, ◌||◌, eqb, ltb, ◌⊎◌, List, length, set, pos, ◌-ℤ◌, Some, None, Option, sym, refl, ap, ◌∙◌, subst, inl, inr, ⊎_elim, arith}
use Rattle.std.proofs.lemmas.List.{get_or-set_same, get_or-set_other, set-set}
use Rattle.std.proofs.lemmas.Int.{ints}
use Rattle.std.proofs.lemmas.Bool.{cases_lt, cases_eq, both_ways, not-true, not-false, not_from_false, eqb-true, ne_eqb, ltb-true, leb-true, leb-false, and_from, and_parts, and_left, and_right, or_cases, or_left, or_right, cond-true, cond_both}
use Rattle.table.specs.Below.{all_below}
use Rattle.table.specs.Sets.{has}
use Rattle.table.specs.Rows.{Plan, row, on, wait, nth_on}
use Rattle.table.proofs.Below.{all_at}
use Rattle.board.specs.Steps.{is_waiting, is_loose, is_pending, is_running, is_over}
use Rattle.board.specs.Meaning.{idle, ended_on, step_of, next, met, in_force, free_of, clear, easable}
use Rattle.board.specs.declared.cores.Core.{Core}
use Rattle.board.specs.declared.cores.Step.TheVariants.{Loose as LooseStep, Running}
use Rattle.board.specs.Keeping.{running_left}
use Rattle.board.proofs.Asking.{over_pending}
use Rattle.rule.specs.Law.{Says, Covered}
use Rattle.calls.specs.declared.Answer.TheVariants.{Over, Go, Loose, Data, Hold}
use Rattle.calls.specs.declared.Refusal.{Refusal}
use Rattle.calls.specs.declared.Refusal.TheVariants.{NoSuchCore, BadTime, CoreBusy, NotRunning}
use Rattle.calls.specs.declared.Reply.TheVariants.{Told, Noted}
use Rattle.runs.specs.declared.Manner.{Manner}
use Rattle.runs.specs.declared.Manner.TheVariants.{InTurn, Loose as WentLoose}
use Rattle.runs.specs.declared.Event.{Event}
use Rattle.runs.specs.Records.{started_at}
use Rattle.runs.specs.Sums.{lower, lowest}
use Rattle.runs.specs.Calls.{State, Outcome, outcome, timely, next_of, next_row, not_over, lowest_start, until, reserve, loose_count, asked_at, question, says_to, refused, answered, starting, go_on, let_go, ease_or_hold, ask, runs_on, ending, finish}
use Rattle.runs.proofs.Tasks.{At, at_next}
use Rattle.runs.proofs.Agree.{Agree}

-- core k has a next task
pub record Open (s : State) (k : ℕ) : Type 0 where
  pub within : k < s.plan.cores
  pub at : At s.plan k (ended_on s.progress k) (next_of s k)

-- all waits of the next task of core k are met; those on its data cores
abbrev pub AllMet : State → ℕ → Type 0
AllMet s k = (j : ℕ) → j < s.plan.cores → (j ≡ k → ⊥) → wait s.plan.rows (next_row s k) j ≤ ended_on s.progress j

abbrev pub DataMet : State → ℕ → Type 0
DataMet s k = (j : ℕ) → j < s.plan.cores → (j ≡ k → ⊥) → has (next_row s k).inputs j ≡ true → wait s.plan.rows (next_row s k) j ≤ ended_on s.progress j

-- every next task starts late enough for the reserve and the claim of core k's
abbrev pub Room : State → ℕ → ℕ → Type 0
Room s k time = (j : ℕ) → j < s.plan.cores → not_over s.progress j ≡ true → time + (reserve s + (next_row s k).claim) ≤ (next_row s j).start

-- the ways of an ask: what it comes to, and what then holds of the frame before it
pub data Way (s : State) (k time : ℕ) : Outcome → Type 0 where
  refuses : (r : Refusal) → (ltb k s.plan.cores ≡ false) ⊎ ((timely s time ≡ false) ⊎ (is_running (step_of s.progress k) ≡ true)) → Way s k time (refused s r)
  over : clear s.plan s.progress k ≡ false → Way s k time (answered s time s.progress Over)
  hold : clear s.plan s.progress k ≡ false → Way s k time (answered s time s.progress (Hold (next_of s k)))
  again : Open s k → clear s.plan s.progress k ≡ false → is_loose (step_of s.progress k) ≡ true → Way s k time (answered s time s.progress (Data (next_of s k)))
  goes : Open s k → is_waiting (step_of s.progress k) ≡ true → AllMet s k → Way s k time (outcome (Told (Go (next_of s k))) (starting s k (next_of s k) time InTurn))
  looses : Open s k → is_loose (step_of s.progress k) ≡ true → DataMet s k → Way s k time (outcome (Told (Loose (next_of s k))) (starting s k (next_of s k) time WentLoose))
  eases : Open s k → is_waiting (step_of s.progress k) ≡ true → clear s.plan s.progress k ≡ false → Room s k time →
      Way s k time (answered s time (let_go s k).progress (Data (next_of s k)))
  eases_goes : Open s k → is_waiting (step_of s.progress k) ≡ true → clear s.plan s.progress k ≡ false → Room s k time → DataMet s k →
      Way s k time (outcome (Told (Loose (next_of s k))) (starting s k (next_of s k) time WentLoose))

-- the next task of a clear core is pending, and no core keeps it from starting
clear_parts : (p : Plan) (cs : List Core) (k : ℕ) → clear p cs k ≡ true → (is_pending (step_of cs k) ≡ true) × (all_below p.cores (free_of p cs (step_of cs k) (next p cs k)) ≡ true)
clear_parts p cs k c = and_parts (is_pending (step_of cs k)) _ (and_parts (ltb k p.cores) _ c).1

-- a clear core has the waits in force met
clear_met : (p : Plan) (cs : List Core) (k t : ℕ) → clear p cs k ≡ true → t ≡ next p cs k → (row p t).core ≡ k →
    (j : ℕ) → j < p.cores → (j ≡ k → ⊥) → (is_waiting (step_of cs k) || has (row p t).inputs j) ≡ true → wait p.rows (row p t) j ≤ ended_on cs j
clear_met p cs k t c e d j l n w =
    let free = subst (λ u. free_of p cs (step_of cs k) u j ≡ true) (sym e) (all_at p.cores (free_of p cs (step_of cs k) (next p cs k)) (clear_parts p cs k c).1 j l) in
    let force = and_from (not (on j (row p t))) _ (not_from_false _ (ne_eqb (row p t).core j (λ x. n (sym x ∙ d)))) w in
    ⊎_elim (λ x. absurd (both_ways _ (not-true _ x) force)) (λ x. leb-true _ _ x) (or_cases (not (in_force p (step_of cs k) t j)) (met p cs t j) free)

-- a number is at least the lowest, which there is
abbrev Low : Option ℕ → ℕ → Type 0
Low None x = ⊥
Low (Some m) x = m ≤ x

-- the smaller of two numbers is low
low_first : (o : Option ℕ) (y : ℕ) → Low (lower o y) y
low_first None y = omega arith
low_first (Some m) y = omega arith

low_more : (o : Option ℕ) (x y : ℕ) → Low o x → Low (lower o y) x
low_more None x y h = absurd h
low_more (Some m) x y h = omega arith

-- each value is at least the lowest
lowest_low : (n : ℕ) (f : ℕ → Bool) (g : ℕ → ℕ) (j : ℕ) → j < n → f j ≡ true → Low (lowest n f g) (g j)
lowest_low zero f g j l h = absurd (omega arith)
lowest_low (suc n) f g j l h = ⊎_elim
    (λ q. let ih = lowest_low n f g j q h in cond_both (f n) _ _ (λ o. Low o (g j)) (λ e. low_more (lowest n f g) (g j) (g n) ih) (λ e. ih))
    (λ q.
    let e : n ≡ j = omega arith in
    subst (λ i. Low (lowest (suc n) f g) (g i)) e (subst (λ o. Low o (g n)) (sym (cond-true (f n) _ _ (subst (λ i. f i ≡ true) (sym e) h))) (low_first (lowest n f g) (g n))))
    (cases_lt j n)

-- a yes of the rule at the lowest start leaves room up to every start
yes_room : (says : Says) → Covered says → (s : State) (k time : ℕ) (low : Option ℕ) (x : ℕ) → says_to says (asked_at s k (until time low)) ≡ true → Low low x → time + (reserve s + (next_row s k).claim) ≤ x
yes_room says law s k time None x h l = absurd l
yes_room says law s k time (Some m) x h l =
    let q = law (record { slack = pos m -ℤ pos time; reserve = reserve s; claim = (next_row s k).claim; loose = loose_count s }) h in
    omega (arith, ints)

-- and so the rule leaves room for what it grants
granted_room : (says : Says) → Covered says → (s : State) (k time : ℕ) → says_to says (question s k time) ≡ true → Room s k time
granted_room says law s k time h j l e =
    yes_room says law s k time (lowest_start s) (next_row s j).start h (lowest_low s.plan.cores (not_over s.progress) (λ i. (next_row s i).start) j l e)

-- a core that is not over has a next task
pub opens : {log : List Event} {s : State} (k : ℕ) → Agree log s → k < s.plan.cores → is_over (step_of s.progress k) ≡ false → Open s k
opens {log} {s} k g l h = record { within = l; at = at_next s.plan k (ended_on s.progress k) (leb-false _ _ (sym (g.over k l) ∙ h)) }

-- letting the next task of core k loose changes its step, and no count
module _ (s : State) (k : ℕ) (l : k < length s.progress) where
  loose_ended : (j : ℕ) → ended_on (let_go s k).progress j ≡ ended_on s.progress j
  loose_ended j = ⊎_elim
      (λ e. subst (λ i. ended_on (let_go s k).progress i ≡ ended_on s.progress i) (sym e) (ap (λ c. c.ended) (get_or-set_same s.progress k _ idle l)))
      (λ e. ap (λ c. c.ended) (get_or-set_other s.progress k j _ idle e))
      (cases_eq j k)

  loose_step : step_of (let_go s k).progress k ≡ LooseStep
  loose_step = ap (λ c. c.step) (get_or-set_same s.progress k _ idle l)

  loose_next : next_of (let_go s k) k ≡ next_of s k
  loose_next = ap (λ n. nth_on k n 0 s.plan.rows) (loose_ended k)

  -- a task that was just let loose starts as it would have started before
  loose_starting : (t time : ℕ) (m : Manner) → starting (let_go s k) k t time m ≡ starting s k t time m
  loose_starting t time m = ap (λ cs. record { plan = s.plan; progress = cs; latest = time; records = set s.records t (started_at time m) })
      (set-set s.progress k _ _ ∙ ap (λ n. set s.progress k (record { ended = n; step = Running })) (loose_ended k))

module _ {log : List Event} (says : Says) (law : Covered says) (s : State) (g : Agree log s) (k time : ℕ) where
  -- core k is clear
  way_go : k < s.plan.cores → is_over (step_of s.progress k) ≡ false → clear s.plan s.progress k ≡ true → Way s k time (go_on s k (next_of s k) time)
  way_go l v c =
      let o = opens k g l v in
      let met' = clear_met s.plan s.progress k (next_of s k) c refl o.at.core in
      cond_both (is_loose (step_of s.progress k)) _ _ (Way s k time)
      (λ e. looses o e (λ j a b d. met' j a b (or_right _ _ d)))
      (λ e.
      let w = ⊎_elim (λ x. x) (λ x. absurd (both_ways _ e x)) (or_cases (is_waiting (step_of s.progress k)) (is_loose (step_of s.progress k)) (clear_parts s.plan s.progress k c).0) in
      goes o w (λ j a b. met' j a b (or_left _ _ w)))

  -- its next task is let loose, and then clear at once
  way_loose : k < s.plan.cores → Open s k → is_waiting (step_of s.progress k) ≡ true → clear s.plan s.progress k ≡ false → Room s k time →
      clear s.plan (let_go s k).progress k ≡ true → Way s k time (go_on (let_go s k) k (next_of s k) time)
  way_loose l o w c room d =
      let l' : k < length s.progress = omega (arith, l, g.many) in
      let t = next_of s k in
      let met' = clear_met s.plan (let_go s k).progress k t d (sym (loose_next s k l')) o.at.core in
      let way' = eases_goes o w c room (λ j x y z. subst (λ n. wait s.plan.rows (next_row s k) j ≤ n) (loose_ended s k l' j) (met' j x y (or_right _ _ z))) in
      subst (Way s k time)
      (sym (cond-true (is_loose (step_of (let_go s k).progress k)) (outcome (Told (Loose t)) (starting (let_go s k) k t time WentLoose)) (outcome (Told (Go t)) (starting (let_go s k) k t time InTurn)) (ap is_loose (loose_step s k l'))
      ∙ ap (outcome (Told (Loose t))) (loose_starting s k l' t time WentLoose)))
      way'

  -- core k is not clear
  way_ease : k < s.plan.cores → is_over (step_of s.progress k) ≡ false → clear s.plan s.progress k ≡ false → Way s k time (ease_or_hold says s k time)
  way_ease l v c = cond_both (easable s.plan s.progress k && says_to says (question s k time)) _ _ (Way s k time)
      (λ e.
      let x = and_parts (easable s.plan s.progress k) (says_to says (question s k time)) e in
      let waits = (and_parts (is_waiting (step_of s.progress k)) _ (and_parts (ltb k s.plan.cores) _ x.0).1).0 in
      let room = granted_room says law s k time x.1 in
      cond_both (clear s.plan (let_go s k).progress k) _ _ (Way s k time)
      (λ d. way_loose l (opens k g l v) waits c room d)
      (λ d. eases (opens k g l v) waits c room))
      (λ e. cond_both (is_loose (step_of s.progress k)) (Data (next_of s k)) (Hold (next_of s k)) (λ a. Way s k time (answered s time s.progress a)) (λ d. again (opens k g l v) c d) (λ d. hold c))

  -- every ask comes out in one of the ways
  pub way : Way s k time (ask says s k time)
  way =
      cond_both (not (ltb k s.plan.cores)) _ _ (Way s k time) (λ a. refuses NoSuchCore (inl (not-true _ a))) (λ a.
      cond_both (not (timely s time)) _ _ (Way s k time) (λ b. refuses BadTime (inr (inl (not-true _ b)))) (λ b.
      cond_both (is_running (step_of s.progress k)) _ _ (Way s k time) (λ c. refuses CoreBusy (inr (inr c))) (λ c.
      cond_both (is_over (step_of s.progress k)) _ _ (Way s k time) (λ d. over (and_right _ _ (and_left _ _ (over_pending _ d)))) (λ d.
      cond_both (clear s.plan s.progress k) _ _ (Way s k time) (λ e. way_go (ltb-true _ _ (not-false _ a)) d e)
      (λ e. way_ease (ltb-true _ _ (not-false _ a)) d e)))))

-- the ways of an end
pub data Close (s : State) (k t time : ℕ) : Outcome → Type 0 where
  refuses : (r : Refusal) → Close s k t time (refused s r)
  ends : Open s k → is_running (step_of s.progress k) ≡ true → next_of s k ≡ t → Close s k t time (outcome Noted (ending s k t time))

-- every end comes out in one of them
pub close : {log : List Event} (s : State) → Agree log s → (k t time : ℕ) → Close s k t time (finish s k t time)
close s g k t time =
    cond_both (not (ltb k s.plan.cores)) _ _ (Close s k t time) (λ a. refuses NoSuchCore) (λ a.
    cond_both (not (timely s time)) _ _ (Close s k t time) (λ b. refuses BadTime) (λ b.
    cond_both (not (runs_on s k t)) _ _ (Close s k t time) (λ c. refuses NotRunning) (λ c.
    let d = and_parts (is_running (step_of s.progress k)) (eqb (next_of s k) t) (not-false _ c) in
    ends (opens k g (ltb-true _ _ (not-false _ a)) (running_left _ d.0)) d.0 (eqb-true _ _ d.1))))
