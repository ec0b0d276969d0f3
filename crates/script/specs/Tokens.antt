-- What the parts of a text are.
use Rattle.std.specs.Prelude.{◌≡◌, ℕ, ◌<◌, List, [], length, Some, None, Option}
use Rattle.std.specs.Borrow.{Bor}
use Rattle.script.specs.Grammar.{number, next_word, after_word}
use Rattle.script.specs.declared.tokens.Token.{Token}
use Rattle.script.specs.declared.tokens.Token.TheVariants.{Word, Number, End}

-- t is the next part of the text
abbrev pub TokenOf : List ℕ → Token → Type 0
TokenOf text (Word w) = (0 < length text) × (w.now ≡ next_word text) × (number (next_word text) ≡ None)
TokenOf text (Number n) = (0 < length text) × (number (next_word text) ≡ Some n)
TokenOf text End = text ≡ []

-- the number that comes next, with the text after it
abbrev pub NumberOf : List ℕ → Option (ℕ × Bor (List ℕ)) → Type 0
NumberOf text None = number (next_word text) ≡ None
NumberOf text (Some p) = (number (next_word text) ≡ Some p.0) × (p.1.now ≡ after_word text)
