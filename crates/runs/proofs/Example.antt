-- The premises of the promises can be met: a task goes loose, and pays for the tick in which another is held up.
use Rattle.std.proofs.Common.{◌≡◌, ℕ, zero, suc, ◌<◌, ◌≤◌, true, false, eqb, List, [], ◌∷◌, refl, inr, arith}
use Rattle.std.proofs.lemmas.Int.{ints}
use Rattle.std.proofs.lemmas.Bool.{both_ways, le-ltb, and_left}
use Rattle.std.proofs.lemmas.Bool.Decides.{nat_tests}
use Rattle.table.specs.Sets.{has, none}
use Rattle.table.specs.Rows.{Plan, row}
use Rattle.table.specs.Lawful.{EmptyOrLawful, Lawful, Fits, RowFits, Writes}
use Rattle.table.proofs.Sets.{has_none}
use Rattle.board.specs.Meaning.{clear}
use Rattle.rule.specs.Law.{Covered, by_slack}
use Rattle.calls.specs.declared.Answer.TheVariants.{Go, Loose}
use Rattle.calls.specs.declared.Reply.TheVariants.{Told}
use Rattle.calls.specs.declared.Call.TheVariants.{Ask}
use Rattle.runs.specs.Calls.{State, opening, ask}
use Rattle.runs.specs.Log.{runs, progress_by}
use Rattle.runs.specs.Plant.{Tick, holding, Move, call, tick, log_of, left, Allowed, Kept}
use Rattle.runs.proofs.Logs.{event}
use Rattle.runs.proofs.Run.{Run}

-- two cores with a task each; the second may go loose with a claim of 3
abbrev plan : Plan
plan = record {
  cores = 2;
  ticks = 12;
  rows = record { core = 0; start = 5; end = 9; claim = 0; inputs = none } ∷ record { core = 1; start = 10; end = 12; claim = 3; inputs = none } ∷ [];
}

-- the plan is that of a lawful table
pub plan_lawful : EmptyOrLawful plan
plan_lawful = inr (fits, lawful)
  where
    each : (t : ℕ) → t < 2 → RowFits (row plan t)
    each zero h = record { core = omega arith; start = omega arith; end = omega arith; claim = omega arith; inputs = omega arith }
    each (suc zero) h = record { core = omega arith; start = omega arith; end = omega arith; claim = omega arith; inputs = omega arith }
    each (suc (suc t)) h = absurd (omega arith)

    fits : Fits plan
    fits = record { some_core = omega arith; few_cores = omega arith; some_task = omega arith; few_tasks = omega arith; ticks = omega arith; each = each }

    on_a_core : (t : ℕ) → t < 2 → (row plan t).core < 2
    on_a_core zero h = omega arith
    on_a_core (suc zero) h = omega arith
    on_a_core (suc (suc t)) h = absurd (omega arith)

    forward : (t : ℕ) → t < 2 → (row plan t).start < (row plan t).end
    forward zero h = omega arith
    forward (suc zero) h = omega arith
    forward (suc (suc t)) h = absurd (omega arith)

    in_frame : (t : ℕ) → t < 2 → (row plan t).end ≤ 12
    in_frame zero h = omega arith
    in_frame (suc zero) h = omega arith
    in_frame (suc (suc t)) h = absurd (omega arith)

    in_order : (a b : ℕ) → a < b → b < 2 → (row plan a).core ≡ (row plan b).core → (row plan a).end ≤ (row plan b).start
    in_order zero (suc zero) l h e = omega arith
    in_order a zero l h e = absurd (omega arith)
    in_order (suc a) (suc b) l h e = absurd (omega arith)
    in_order zero (suc (suc b)) l h e = absurd (omega arith)

    written : (t k : ℕ) → t < 2 → has (row plan t).inputs k ≡ true → Writes plan (row plan t) k
    written zero k h i = absurd (both_ways (has none k) (has_none k) i)
    written (suc zero) k h i = absurd (both_ways (has none k) (has_none k) i)
    written (suc (suc t)) k h i = absurd (omega arith)

    lawful : Lawful plan
    lawful = record { on_a_core = on_a_core; forward = forward; in_frame = in_frame; in_order = in_order; written = written }

-- the slack rule keeps its law
slack_covered : Covered by_slack
slack_covered q h = omega (arith, ints)

-- both cores ask at time 0: the first goes, the second goes loose
abbrev moves : List Move
moves = call (event (Ask 1 0) (Told (Loose 1))) ∷ call (event (Ask 0 0) (Told (Go 0))) ∷ []

-- the frame after the first ask, and the run of both
abbrev first : State
first = (ask by_slack (opening plan) 0 0).state

pub run : Run plan (log_of moves) (ask by_slack first 1 0).state
run = Run.asked (Run.asked Run.begun by_slack slack_covered 0 0) by_slack slack_covered 1 0

-- the two tasks run, and no other
only_two : (t : ℕ) → runs (log_of moves) (suc (suc t)) ≡ true → ⊥
only_two t h = grind (arith, nat_tests)

-- then a tick in which task 0 is held up and task 1 pays
abbrev held_first : Tick
held_first = holding (λ t. eqb t 0) 1

-- it is allowed, so the plant keeps its terms
tick_allowed : Allowed plan held_first moves
tick_allowed = record { work = work; blocked = blocked; paid = (record { task = 0; running = refl; is_held = refl }, record { running = refl; loose = refl; purse_left = omega arith }) }
  where
    work : (t : ℕ) → runs (log_of moves) t ≡ true → 0 < left plan t moves
    work zero h = omega arith
    work (suc zero) h = omega arith
    work (suc (suc t)) h = absurd (only_two t h)

    blocked : (k : ℕ) → clear plan (progress_by plan (log_of moves)) k ≡ false
    blocked zero = refl
    blocked (suc zero) = refl
    blocked (suc (suc k)) = and_left _ _ (le-ltb (suc (suc k)) 2 (omega arith))

pub plant : Kept plan (tick held_first ∷ moves)
plant = Kept.ticked (Kept.called (Kept.called Kept.begun refl) refl) tick_allowed
