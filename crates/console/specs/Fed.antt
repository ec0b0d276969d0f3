-- What a byte of the input comes to. 10 is the newline.
use Rattle.std.specs.Prelude.{ℕ, cond, List, [], None, ◌==◌}
use Rattle.rule.specs.Law.{Says}
use Rattle.rule.specs.declared.question.Question.{Question}
use Rattle.runs.specs.Calls.{State}
use Rattle.script.specs.Grammar.{read}
use Rattle.console.specs.Kept.{pushed}
use Rattle.console.specs.Played.{LineOutcome, line_done, line_played}

-- what is kept of the line so far, and what the byte has done
pub record Fed (R : Type 0) : Type 0 where
  pub so_far : List ℕ
  pub done : LineOutcome R

abbrev pub fed : {R : Type 0} → List ℕ → LineOutcome R → Fed R
fed so_far done = record { so_far = so_far; done = done }

-- a newline plays the line so far and begins the next one; any other byte is added to the line and does nothing else
abbrev pub byte_fed : {R : Type 0} → (R → Says) → (R → Question → R) → ℕ → List ℕ → State → R → Fed R
byte_fed says after b so_far s r =
    cond (b == 10) (fed [] (line_played says after (read so_far) s r)) (fed (pushed so_far b) (line_done None s r))
