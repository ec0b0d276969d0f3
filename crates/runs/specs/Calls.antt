-- What a frame remembers, and what each of its calls answers and leaves.
use Rattle.std.specs.Prelude.{ℕ, Bool, false, cond, not, ◌&&◌, ◌||◌, List, [], ◌∷◌, ◌++◌, length, get_or, drop, replicate, ℤ, pos, ◌-ℤ◌, Some, None, Ok, Err, Option, Result, ◌==◌, nat_le, nat_lt, slice_index_or, slice_set}
use Rattle.table.specs.Rows.{Plan, row}
use Rattle.table.specs.declared.rows.Row.{Row}
use Rattle.board.specs.Steps.{is_loose, is_running, is_over}
use Rattle.board.specs.Meaning.{ended_on, step_of, next, next_task, clear, easable, stepped, ended_one, opened}
use Rattle.board.specs.declared.cores.Core.{Core}
use Rattle.board.specs.declared.cores.Step.TheVariants.{Running, Loose as LooseStep}
use Rattle.rule.specs.Law.{Says}
use Rattle.rule.specs.declared.question.Question.{Question}
use Rattle.calls.specs.declared.Answer.{Answer}
use Rattle.calls.specs.declared.Answer.TheVariants.{Over, Go, Loose, Data, Hold}
use Rattle.calls.specs.declared.Refusal.{Refusal}
use Rattle.calls.specs.declared.Refusal.TheVariants.{NoSuchCore, BadTime, CoreBusy, NotRunning, ListTooShort}
use Rattle.calls.specs.declared.Reply.{Reply}
use Rattle.calls.specs.declared.Reply.TheVariants.{Told, Noted, Refused}
use Rattle.calls.specs.declared.Call.{Call}
use Rattle.calls.specs.declared.Call.TheVariants.{Ask, End}
use Rattle.runs.specs.Records.{went_loose, fresh, started_at, ended_at}
use Rattle.runs.specs.Sums.{lowest, total}
use Rattle.runs.specs.declared.Record.{Record}
use Rattle.runs.specs.declared.Manner.{Manner}
use Rattle.runs.specs.declared.Manner.TheVariants.{InTurn, Loose as WentLoose}
use Rattle.runs.specs.declared.Event.{Event}
use Rattle.runs.specs.declared.Look.{Look}

-- what a frame remembers: its plan, how far each core has come, the latest time, and a record for each task
pub record State : Type 0 where
  pub plan : Plan
  pub progress : List Core
  pub latest : ℕ
  pub records : List Record

-- a frame that was just opened
abbrev pub opening : Plan → State
opening p = record { plan = p; progress = opened p; latest = 0; records = replicate (length p.rows) fresh }

-- the last time that a call may carry
abbrev pub last_tick : ℕ
last_tick = 268435455

-- a call may carry this time
abbrev pub timely : State → ℕ → Bool
timely s time = nat_le s.latest time && nat_le time last_tick

-- the next task of core k, and its row
abbrev pub next_of : State → ℕ → ℕ
next_of s k = next s.plan s.progress k

abbrev pub next_row : State → ℕ → Row
next_row s k = row s.plan (next_of s k)

-- core k has a task left
abbrev pub not_over : List Core → ℕ → Bool
not_over cs k = not (is_over (step_of cs k))

-- the smallest start among the next tasks of all cores that are not over
abbrev pub lowest_start : State → Option ℕ
lowest_start s = lowest s.plan.cores (not_over s.progress) (λ k. (next_row s k).start)

-- a start minus the time
abbrev pub until : ℕ → Option ℕ → Option ℤ
until time None = None
until time (Some start) = Some (pos start -ℤ pos time)

-- the slack: that smallest start minus the time; none when all cores are over
abbrev pub slack : State → ℕ → Option ℤ
slack s time = until time (lowest_start s)

-- the next task of core k was let loose and has not ended
abbrev pub at_large : State → ℕ → Bool
at_large s k = is_loose (step_of s.progress k) || (is_running (step_of s.progress k) && went_loose (get_or s.records (next_of s k) fresh).manner)

-- the reserve: the claims of the tasks let loose and not ended
abbrev pub reserve : State → ℕ
reserve s = total s.plan.cores (at_large s) (λ k. (next_row s k).claim)

-- the number of the tasks let loose and not ended
abbrev pub loose_count : State → ℕ
loose_count s = total s.plan.cores (at_large s) (λ k. 1)

-- what a rule is asked about core k's next task at a slack
abbrev pub asked_at : State → ℕ → Option ℤ → Option Question
asked_at s k None = None
asked_at s k (Some x) = Some (record { slack = x; reserve = reserve s; claim = (next_row s k).claim; loose = loose_count s })

-- what a rule is asked about core k's next task at a time; nothing when all cores are over
abbrev pub question : State → ℕ → ℕ → Option Question
question s k time = asked_at s k (slack s time)

-- the rule's answer to a question, and the rule after it; without a question it is no, and the rule stays
abbrev pub says_to : Says → Option Question → Bool
says_to says None = false
says_to says (Some q) = says q

abbrev pub moved_by : {R : Type 0} → (R → Question → R) → R → Option Question → R
moved_by after rule None = rule
moved_by after rule (Some q) = after rule q

-- an ask of core k at this time comes to the rule: it is not clear and can be eased
abbrev pub consults : State → ℕ → ℕ → Bool
consults s k time = timely s time && (not (clear s.plan s.progress k) && easable s.plan s.progress k)

-- the rule after an ask: asked that one question if the ask comes to it, and left as it was otherwise
abbrev pub rule_after : {R : Type 0} → (R → Question → R) → R → State → ℕ → ℕ → R
rule_after after rule s k time = cond (consults s k time) (moved_by after rule (question s k time)) rule

-- a reply, and the frame after it
pub record Outcome : Type 0 where
  pub reply : Reply
  pub state : State

abbrev pub outcome : Reply → State → Outcome
outcome r s = record { reply = r; state = s }

-- a refused call leaves the frame as it was
abbrev pub refused : State → Refusal → Outcome
refused s r = outcome (Refused r) s

-- the frame with other progress, at this time
abbrev pub at_time : State → ℕ → List Core → State
at_time s time cs = record s { progress = cs; latest = time }

-- an answer at this time, with the progress after it
abbrev pub answered : State → ℕ → List Core → Answer → Outcome
answered s time cs a = outcome (Told a) (at_time s time cs)

-- core k starts task t
abbrev pub starting : State → ℕ → ℕ → ℕ → Manner → State
starting s k t time m = record s {
  progress = stepped s.progress k Running;
  latest = time;
  records = slice_set s.records t (started_at time m);
}

-- core k, which is clear, starts task t: loose if it was let loose
abbrev pub go_on : State → ℕ → ℕ → ℕ → Outcome
go_on s k t time = cond (is_loose (step_of s.progress k)) (outcome (Told (Loose t)) (starting s k t time WentLoose)) (outcome (Told (Go t)) (starting s k t time InTurn))

-- the frame with core k's next task let loose
abbrev pub let_go : State → ℕ → State
let_go s k = record s { progress = stepped s.progress k LooseStep }

-- core k is not clear: its next task is eased if the rule grants it, and then starts if it is clear
abbrev pub ease_or_hold : Says → State → ℕ → ℕ → Outcome
ease_or_hold says s k time =
    cond (easable s.plan s.progress k && says_to says (question s k time))
    (cond (clear s.plan (let_go s k).progress k) (go_on (let_go s k) k (next_of s k) time) (answered s time (let_go s k).progress (Data (next_of s k))))
    (answered s time s.progress (cond (is_loose (step_of s.progress k)) (Data (next_of s k)) (Hold (next_of s k))))

-- core k asks at this time
abbrev pub ask : Says → State → ℕ → ℕ → Outcome
ask says s k time =
    cond (not (nat_lt k s.plan.cores)) (refused s NoSuchCore)
    (cond (not (timely s time)) (refused s BadTime)
    (cond (is_running (step_of s.progress k)) (refused s CoreBusy)
    (cond (is_over (step_of s.progress k)) (answered s time s.progress Over)
    (cond (clear s.plan s.progress k) (go_on s k (next_of s k) time)
    (ease_or_hold says s k time)))))

-- core k runs task t
abbrev pub runs_on : State → ℕ → ℕ → Bool
runs_on s k t = is_running (step_of s.progress k) && next_of s k == t

-- core k ends task t
abbrev pub ending : State → ℕ → ℕ → ℕ → State
ending s k t time = record s {
  progress = ended_one s.plan s.progress k;
  latest = time;
  records = slice_set s.records t (ended_at time (slice_index_or s.records t fresh));
}

-- core k has finished task t at this time
abbrev pub finish : State → ℕ → ℕ → ℕ → Outcome
finish s k t time =
    cond (not (nat_lt k s.plan.cores)) (refused s NoSuchCore)
    (cond (not (timely s time)) (refused s BadTime)
    (cond (not (runs_on s k t)) (refused s NotRunning)
    (outcome Noted (ending s k t time))))

-- a look at core k
abbrev pub look : State → ℕ → Result Look Refusal
look s k =
    cond (nat_lt k s.plan.cores)
    (Ok (record { ended = ended_on s.progress k; step = step_of s.progress k; next = next_task s.plan s.progress k }))
    (Err NoSuchCore)

-- slack, reserve and the number of tasks let loose and not ended, at this time
abbrev pub sums : State → ℕ → Result (Option ℤ × ℕ × ℕ) Refusal
sums s time = cond (timely s time) (Ok (slack s time, reserve s, loose_count s)) (Err BadTime)

-- a report: how many records it fills in, and the list after it
abbrev pub report_answer : State → List Record → Result ℕ Refusal
report_answer s list = cond (nat_lt (length list) (length s.plan.rows)) (Err ListTooShort) (Ok (length s.plan.rows))

abbrev pub reported : State → List Record → List Record
reported s list = cond (nat_lt (length list) (length s.plan.rows)) list (s.records ++ drop (length s.plan.rows) list)

-- what any call comes to, and the rule after it
abbrev pub respond : Says → State → Call → Outcome
respond says s (Ask k time) = ask says s k time
respond says s (End k t time) = finish s k t time

abbrev pub rule_left : {R : Type 0} → (R → Question → R) → R → State → Call → R
rule_left after rule s (Ask k time) = rule_after after rule s k time
rule_left after rule s (End k t time) = rule

-- what is left when all calls of a list are made: the calls with their replies, the frame and the rule
pub record Played (R : Type 0) : Type 0 where
  pub events : List Event
  pub state : State
  pub rule : R

abbrev pub left_by : {R : Type 0} → List Event → State → R → Played R
left_by es s r = record { events = es; state = s; rule = r }

-- the calls made one after the other, each with what the rule then says
abbrev pub played : {R : Type 0} → (R → Says) → (R → Question → R) → List Call → R → State → List Event → Played R
played says after [] r s done = left_by done s r
played says after (c ∷ cs) r s done =
    played says after cs (rule_left after r s c) (respond (says r) s c).state (done ++ (record { call = c; reply = (respond (says r) s c).reply } ∷ []))
