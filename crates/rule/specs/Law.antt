-- What rules say, and the law that each keeps.
use Rattle.std.specs.Prelude.{ℕ, ◌+◌, Bool, true, false, ◌&&◌, ◌≡◌, ltb, pos, ◌≤ℤ◌}
use Rattle.std.specs.Int.Signed.{le_z}
use Rattle.rule.specs.declared.question.Question.{Question}

-- the questions to which a rule says yes
abbrev pub Says : Type 0
Says = Question → Bool

-- the law: a yes means that the slack is at least the reserve and the claim
abbrev pub Covered : Says → Type 0
Covered says = (q : Question) → says q ≡ true → pos (q.reserve + q.claim) ≤ℤ q.slack

-- the locked rule
abbrev pub never : Says
never q = false

-- the slack rule
abbrev pub by_slack : Says
by_slack q = le_z (pos (q.reserve + q.claim)) q.slack

-- the capped rule over another
abbrev pub capped : ℕ → Says → Says
capped cap says q = ltb q.loose cap && says q
