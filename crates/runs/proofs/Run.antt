-- Runs of a frame.
use Rattle.std.proofs.Common.{ℕ, List, [], ◌∷◌, ◌++◌}
use Rattle.table.specs.Rows.{Plan}
use Rattle.rule.specs.Law.{Says, Covered}
use Rattle.calls.specs.declared.Call.TheVariants.{Ask, End}
use Rattle.runs.specs.declared.Event.{Event}
use Rattle.runs.specs.Calls.{State, opening, ask, finish}

-- A run of a frame: every reply of its log is the one that the call defines, with what some rule that keeps its law then said.
pub data Run (p : Plan) : List Event → State → Type 0 where
  begun : Run p [] (opening p)
  asked : {log : List Event} {s : State} → Run p log s → (says : Says) → Covered says → (k time : ℕ) →
      Run p (log ++ (record { call = Ask k time; reply = (ask says s k time).reply } ∷ [])) (ask says s k time).state
  ended : {log : List Event} {s : State} → Run p log s → (k t time : ℕ) →
      Run p (log ++ (record { call = End k t time; reply = (finish s k t time).reply } ∷ [])) (finish s k t time).state
