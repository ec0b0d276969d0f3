-- What a log of calls and replies tells of the tasks, and of nothing else. A log has the oldest event first.
use Rattle.std.specs.Prelude.{ℕ, Bool, true, false, cond, not, ◌&&◌, ◌||◌, List, [], ◌∷◌, map, length, ◌==◌, nat_le}
use Rattle.std.specs.List.{list_any, range_with_len}
use Rattle.table.specs.Rows.{Plan, row, on, nth_on, tasks_on}
use Rattle.board.specs.declared.cores.Core.{Core}
use Rattle.board.specs.declared.cores.Step.{Step}
use Rattle.board.specs.declared.cores.Step.TheVariants.{Waiting, Loose as LooseStep, Running, Over as OverStep}
use Rattle.calls.specs.declared.Answer.{Answer}
use Rattle.calls.specs.declared.Answer.TheVariants.{Over, Go, Loose, Data, Hold}
use Rattle.calls.specs.declared.Reply.{Reply}
use Rattle.calls.specs.declared.Reply.TheVariants.{Told, Noted, Refused}
use Rattle.calls.specs.declared.Call.{Call}
use Rattle.calls.specs.declared.Call.TheVariants.{Ask, End}
use Rattle.runs.specs.Sums.{total}
use Rattle.runs.specs.declared.Event.{Event}

-- an answer tells task t to go; tells it to go loose; lets it loose
abbrev pub goes : ℕ → Answer → Bool
goes t Over = false
goes t (Go u) = t == u
goes t (Loose u) = false
goes t (Data u) = false
goes t (Hold u) = false

abbrev pub goes_loose : ℕ → Answer → Bool
goes_loose t Over = false
goes_loose t (Go u) = false
goes_loose t (Loose u) = t == u
goes_loose t (Data u) = false
goes_loose t (Hold u) = false

abbrev pub frees : ℕ → Answer → Bool
frees t Over = false
frees t (Go u) = false
frees t (Loose u) = t == u
frees t (Data u) = t == u
frees t (Hold u) = false

-- a reply is an answer of this kind
abbrev pub told : (Answer → Bool) → Reply → Bool
told f (Told a) = f a
told f Noted = false
told f (Refused r) = false

-- a reply accepts its call
abbrev pub accepts : Reply → Bool
accepts (Told a) = true
accepts Noted = true
accepts (Refused r) = false

-- a call names task t as finished; is an ask of core k; its time
abbrev pub names : ℕ → Call → Bool
names t (Ask k time) = false
names t (End k u time) = t == u

abbrev pub asking : ℕ → Call → Bool
asking k (Ask j time) = k == j
asking k (End j u time) = false

abbrev pub call_time : Call → ℕ
call_time (Ask k time) = time
call_time (End k u time) = time

-- an event is accepted; starts task t; tells it to go loose; lets it loose; ends it; asks core k
abbrev pub accepted : Event → Bool
accepted e = accepts e.reply

abbrev pub starts : ℕ → Event → Bool
starts t e = told (λ a. goes t a || goes_loose t a) e.reply

abbrev pub sends_loose : ℕ → Event → Bool
sends_loose t e = told (goes_loose t) e.reply

abbrev pub loosens : ℕ → Event → Bool
loosens t e = told (frees t) e.reply

abbrev pub ends : ℕ → Event → Bool
ends t e = names t e.call && accepted e

abbrev pub asks : ℕ → Event → Bool
asks k e = asking k e.call

-- some event of the log is of this kind
abbrev pub occurs : (Event → Bool) → List Event → Bool
occurs = list_any

-- task t has started; was told to go loose; was let loose; has ended; runs
abbrev pub has_started : List Event → ℕ → Bool
has_started log t = occurs (starts t) log

abbrev pub told_loose : List Event → ℕ → Bool
told_loose log t = occurs (sends_loose t) log

abbrev pub let_loose : List Event → ℕ → Bool
let_loose log t = occurs (loosens t) log

abbrev pub has_ended : List Event → ℕ → Bool
has_ended log t = occurs (ends t) log

abbrev pub runs : List Event → ℕ → Bool
runs log t = has_started log t && not (has_ended log t)

-- the time of the last accepted call, or this time if there is none
abbrev pub latest_from : ℕ → List Event → ℕ
latest_from time [] = time
latest_from time (e ∷ es) = latest_from (cond (accepted e) (call_time e.call) time) es

-- task t lies on core k and has ended
abbrev pub ended_there : Plan → List Event → ℕ → ℕ → Bool
ended_there p log k t = on k (row p t) && has_ended log t

-- how many tasks of core k have ended
abbrev pub ended_count : Plan → List Event → ℕ → ℕ
ended_count p log k = total (length p.rows) (ended_there p log k) (λ t. 1)

-- the step of the next task of core k, which is task t
abbrev pub step_of_task : List Event → ℕ → Step
step_of_task log t = cond (runs log t) Running (cond (let_loose log t) LooseStep Waiting)

abbrev pub step_by : Plan → List Event → ℕ → Step
step_by p log k = cond (nat_le (tasks_on p.rows k) (ended_count p log k)) OverStep (step_of_task log (nth_on k (ended_count p log k) 0 p.rows))

-- how far each core has come
abbrev pub core_by : Plan → List Event → ℕ → Core
core_by p log k = record { ended = ended_count p log k; step = step_by p log k }

abbrev pub progress_by : Plan → List Event → List Core
progress_by p log = map (core_by p log) (range_with_len 0 p.cores)
