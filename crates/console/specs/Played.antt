-- What a line comes to.
use Rattle.std.specs.Prelude.{Bool, false, Some, None, Option}
use Rattle.rule.specs.Law.{Says}
use Rattle.rule.specs.declared.question.Question.{Question}
use Rattle.runs.specs.Calls.{State, respond, rule_left}
use Rattle.runs.specs.Log.{accepts}
use Rattle.script.specs.declared.Line.{Line}
use Rattle.script.specs.declared.Line.TheVariants.{Silent, Play, Bad as BadLine}
use Rattle.console.specs.declared.Shown.{Shown}
use Rattle.console.specs.declared.Shown.TheVariants.{Bad, Reply}

-- what is shown for a line, and the frame and the rule after it
pub record LineOutcome (R : Type 0) : Type 0 where
  pub shows : Option Shown
  pub state : State
  pub rule : R

abbrev pub line_done : {R : Type 0} → Option Shown → State → R → LineOutcome R
line_done shows s r = record { shows = shows; state = s; rule = r }

-- what a line comes to, by what it reads as: only a call does anything
abbrev pub line_played : {R : Type 0} → (R → Says) → (R → Question → R) → Line → State → R → LineOutcome R
line_played says after Silent s r = line_done None s r
line_played says after BadLine s r = line_done (Some Bad) s r
line_played says after (Play c) s r = line_done (Some (Reply (respond (says r) s c).reply)) (respond (says r) s c).state (rule_left after r s c)

-- what is shown tells of a call that was accepted
abbrev pub made_call : Option Shown → Bool
made_call None = false
made_call (Some Bad) = false
made_call (Some (Reply reply)) = accepts reply
