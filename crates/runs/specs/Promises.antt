-- What is promised of every log of a frame.
use Rattle.std.specs.Prelude.{◌≡◌, ℕ, ◌<◌, ◌≤◌, Bool, true, false, cond, not, ◌&&◌, ◌||◌, List, [], ◌∷◌, ◌++◌, length, take, nat_le}
use Rattle.table.specs.Rows.{Plan, row}
use Rattle.table.specs.Sets.{has}
use Rattle.runs.specs.Calls.{last_tick}
use Rattle.runs.specs.Log.{accepted, asks, call_time, starts, occurs, has_started, told_loose, has_ended, runs, latest_from}
use Rattle.runs.specs.Plant.{Move, Kept, time, log_of}
use Rattle.runs.specs.declared.Event.{Event}

-- t is a task of the plan
abbrev pub Task : Plan → ℕ → Type 0
Task p t = t < length p.rows

-- the table puts b second: a's row ends at or before the start of b's
abbrev pub precedes : Plan → ℕ → ℕ → Bool
precedes p a b = nat_le (row p a).end (row p b).start

-- two tasks overlap in the table unless it puts one of them second; which one that is
abbrev pub overlap : Plan → ℕ → ℕ → Bool
overlap p a b = not (precedes p a b || precedes p b a)

abbrev pub second : Plan → ℕ → ℕ → ℕ
second p a b = cond (precedes p a b) b a

-- two tasks that run together overlap in the table, or the second of them was told to go loose
abbrev pub InOrder : Plan → List Event → Type 0
InOrder p log = (a b : ℕ) → Task p a → Task p b → runs log a ≡ true → runs log b ≡ true → (overlap p a b || told_loose log (second p a b)) ≡ true

-- when a task has started and was not told to go loose, all that the table puts before it has ended
abbrev pub InTurn : Plan → List Event → Type 0
InTurn p log = (a b : ℕ) → Task p a → Task p b → has_started log b ≡ true → told_loose log b ≡ false → precedes p a b ≡ true → has_ended log a ≡ true

-- a data bit of task t names task r: r lies on the core of that bit, and the table puts t second
abbrev pub reads : Plan → ℕ → ℕ → Bool
reads p t r = has (row p t).inputs (row p r).core && precedes p r t

-- no task starts before the tasks that its data bits name have ended
abbrev pub InputsFirst : Plan → List Event → Type 0
InputsFirst p log = (t r : ℕ) → Task p t → Task p r → has_started log t ≡ true → reads p t r ≡ true → has_ended log r ≡ true

-- whatever the plant does between these calls, while it keeps its terms its time is at most the start of every unstarted task and the end of every running one
abbrev pub OnTime : Plan → List Event → Type 0
OnTime p log = (ms : List Move) → Kept p ms → log_of ms ≡ log → (t : ℕ) → Task p t → (has_started log t ≡ false → time ms ≤ (row p t).start) × (runs log t ≡ true → time ms ≤ (row p t).end)

-- the times of these calls are allowed after the time `now`: none is before the one in front of it, or above the last
abbrev pub Timely : ℕ → List Event → Type 0
Timely now [] = Unit {0}
Timely now (e ∷ es) = (now ≤ call_time e.call) × (call_time e.call ≤ last_tick) × Timely (call_time e.call) es

-- these events are one ask to each core, in some order, at allowed times
pub record AskEach (p : Plan) (now : ℕ) (es : List Event) : Type 0 where
  pub count : length es ≡ p.cores
  pub each : (k : ℕ) → k < p.cores → occurs (asks k) es ≡ true
  pub timely : Timely now es

-- each of these events is accepted
abbrev pub AllAccepted : List Event → Type 0
AllAccepted [] = Unit {0}
AllAccepted (e ∷ es) = (accepted e ≡ true) × AllAccepted es

-- one of these events starts a task
pub record SomeStarts (p : Plan) (es : List Event) : Type 0 where
  pub task : ℕ
  pub known : Task p task
  pub begins : occurs (starts task) es ≡ true

-- some task is unfinished, and no task runs
pub record Stalled (p : Plan) (log : List Event) : Type 0 where
  pub task : ℕ
  pub known : Task p task
  pub unfinished : has_ended log task ≡ false
  pub quiet : (u : ℕ) → Task p u → runs log u ≡ false

-- where a task is unfinished and none runs, one ask to each core is accepted each time, and starts a task
abbrev pub NoStandstill : Plan → List Event → Type 0
NoStandstill p log = (before asks : List Event) → before ++ asks ≡ log → Stalled p before → AskEach p (latest_from 0 before) asks → AllAccepted asks × SomeStarts p asks

-- all of it at every moment of the log
pub record Promises (p : Plan) (log : List Event) : Type 0 where
  pub in_order : (n : ℕ) → InOrder p (take n log)
  pub in_turn : (n : ℕ) → InTurn p (take n log)
  pub inputs_first : (n : ℕ) → InputsFirst p (take n log)
  pub on_time : (n : ℕ) → OnTime p (take n log)
  pub no_standstill : (n : ℕ) → NoStandstill p (take n log)
