-- A log with one more event.
use Rattle.std.proofs.Common.{◌≡◌, ℕ, Bool, true, false, cond, ◌||◌, List, [], ◌∷◌, ◌++◌, refl, ap, ◌∙◌}
use Rattle.std.proofs.Math.Bool.{or-false}
use Rattle.std.proofs.lemmas.Bool.{or_left, or_right}
use Rattle.std.proofs.lemmas.List.Folds.{list_any-append}
use Rattle.calls.specs.declared.Reply.{Reply}
use Rattle.calls.specs.declared.Call.{Call}
use Rattle.runs.specs.declared.Event.{Event}
use Rattle.runs.specs.Log.{call_time, accepted, occurs, latest_from}

-- a call with its reply
abbrev pub event : Call → Reply → Event
event c r = record { call = c; reply = r }

-- a log with one more event
pub occurs_push : (f : Event → Bool) (log : List Event) (e : Event) → occurs f (log ++ (e ∷ [])) ≡ (occurs f log || f e)
occurs_push f log e = list_any-append f log (e ∷ []) ∙ ap (λ b. occurs f log || b) (or-false (f e))

-- an event at which f fails changes nothing
pub keeps : (f : Event → Bool) (log : List Event) {b : Bool} (e : Event) → occurs f log ≡ b → f e ≡ false → occurs f (log ++ (e ∷ [])) ≡ b
keeps f log e h n = occurs_push f log e ∙ (ap (λ x. occurs f log || x) n ∙ (or-false (occurs f log) ∙ h))

-- an event at which f holds, and one after such an event
pub adds : (f : Event → Bool) (log : List Event) (e : Event) → f e ≡ true → occurs f (log ++ (e ∷ [])) ≡ true
adds f log e h = occurs_push f log e ∙ or_right _ _ h

pub still : (f : Event → Bool) (log : List Event) (e : Event) → occurs f log ≡ true → occurs f (log ++ (e ∷ [])) ≡ true
still f log e h = occurs_push f log e ∙ or_left _ _ h

-- the time of the last accepted call, with one more event
pub latest_push : (time : ℕ) (log : List Event) (e : Event) → latest_from time (log ++ (e ∷ [])) ≡ cond (accepted e) (call_time e.call) (latest_from time log)
latest_push time [] e = refl
latest_push time (x ∷ log) e = latest_push (cond (accepted x) (call_time x.call) time) log e
