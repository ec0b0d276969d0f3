-- A frame agrees with the log of its calls.
use Rattle.std.proofs.Common.{◌≡◌, ℕ, ◌<◌, ◌≤◌, Bool, true, false, ◌&&◌, ◌||◌, leb, List, [], ◌∷◌, ◌++◌, length, get_or, set, sym, ap, ◌∙◌, subst, ⊎_elim}
use Rattle.std.proofs.lemmas.List.{get_or-set_same, get_or-set_other}
use Rattle.std.proofs.lemmas.Bool.{cases_eq}
use Rattle.table.specs.Rows.{tasks_on}
use Rattle.table.proofs.Ordered.{Ordered}
use Rattle.board.specs.Steps.{is_loose, is_running, is_over}
use Rattle.board.specs.Meaning.{idle, ended_on, step_of}
use Rattle.board.specs.declared.cores.Core.{Core}
use Rattle.board.specs.declared.cores.Step.{Step}
use Rattle.runs.specs.declared.Record.{Record}
use Rattle.runs.specs.declared.Manner.{Manner}
use Rattle.runs.specs.declared.Event.{Event}
use Rattle.runs.specs.Records.{went_loose, fresh}
use Rattle.runs.specs.Calls.{State}
use Rattle.runs.specs.Log.{starts, loosens, ends, has_started, let_loose, has_ended, latest_from}
use Rattle.runs.proofs.Tasks.{At}
use Rattle.runs.proofs.Logs.{keeps}

-- a task with this step and manner is let loose
abbrev pub loosed : Step → Manner → Bool
loosed x m = is_loose x || (is_running x && went_loose m)

-- task t, the (n+1)th of its core, stands by the log as the core's progress has it
pub record Stands (log : List Event) (c : Core) (m : Manner) (n t : ℕ) : Type 0 where
  pub past : n < c.ended → (has_ended log t ≡ true) × (has_started log t ≡ true)
  pub now : n ≡ c.ended → (has_ended log t ≡ false) × (has_started log t ≡ is_running c.step) × (let_loose log t ≡ loosed c.step m)
  pub later : c.ended < n → (has_ended log t ≡ false) × (has_started log t ≡ false) × (let_loose log t ≡ false)

-- the frame has an ordered plan, a row for each core and a record for each task, and tells of each task what the log tells
pub record Agree (log : List Event) (s : State) : Type 0 where
  pub ordered : Ordered s.plan
  pub many : length s.progress ≡ s.plan.cores
  pub noted : length s.records ≡ length s.plan.rows
  pub over : (k : ℕ) → k < s.plan.cores → is_over (step_of s.progress k) ≡ leb (tasks_on s.plan.rows k) (ended_on s.progress k)
  pub fits : (k : ℕ) → k < s.plan.cores → ended_on s.progress k ≤ tasks_on s.plan.rows k
  pub latest : s.latest ≡ latest_from 0 log
  pub each : (k n t : ℕ) → At s.plan k n t → Stands log (get_or s.progress k idle) (get_or s.records t fresh).manner n t

-- an event that says nothing of t
pub stay : {log : List Event} {c : Core} {m : Manner} {n t : ℕ} → Stands log c m n t → (e : Event) → ends t e ≡ false → starts t e ≡ false → loosens t e ≡ false → Stands (log ++ (e ∷ [])) c m n t
stay {log} {t = t} stood e a b c = record {
  past = λ h. let x = stood.past h in (keeps (ends t) log e x.0 a, keeps (starts t) log e x.1 b);
  now = λ h. let x = stood.now h in (keeps (ends t) log e x.0 a, keeps (starts t) log e x.1 b, keeps (loosens t) log e x.2 c);
  later = λ h. let x = stood.later h in (keeps (ends t) log e x.0 a, keeps (starts t) log e x.1 b, keeps (loosens t) log e x.2 c);
}

-- the frame with another row for core k, other records and another latest time
abbrev pub with_core : State → ℕ → Core → ℕ → List Record → State
with_core s k c latest rs = record { plan = s.plan; progress = set s.progress k c; latest = latest; records = rs }

-- core k moves to c, and the log to log': the tasks of the other cores stand, and so do its own
pub moved : (s : State) (k : ℕ) (c : Core) (rs : List Record) (log' : List Event) → k < length s.progress →
    ((j n t : ℕ) → (j ≡ k → ⊥) → At s.plan j n t → Stands log' (get_or s.progress j idle) (get_or rs t fresh).manner n t) →
    ((n t : ℕ) → At s.plan k n t → Stands log' c (get_or rs t fresh).manner n t) →
    (j n t : ℕ) → At s.plan j n t → Stands log' (get_or (set s.progress k c) j idle) (get_or rs t fresh).manner n t
moved s k c rs log' in' others own j n t a = ⊎_elim
    (λ e. let own' = own n t (subst (λ i. At s.plan i n t) e a) in
    subst (λ x. Stands log' x (get_or rs t fresh).manner n t) (sym (ap (λ i. get_or (set s.progress k c) i idle) e ∙ get_or-set_same s.progress k c idle in')) own')
    (λ e. subst (λ x. Stands log' x (get_or rs t fresh).manner n t) (sym (get_or-set_other s.progress k j c idle e)) (others j n t e a))
    (cases_eq j k)
