-- What is kept of a line.
use Rattle.std.specs.Prelude.{◌≡◌, ℕ, List, [], ◌∷◌, ◌++◌, take, fold}
use Rattle.script.specs.Grammar.{read}
use Rattle.console.specs.declared.buffer.LineBuffer.{LineBuffer}

-- the bytes that a buffer keeps
abbrev pub kept : LineBuffer → List ℕ
kept b = take b.len b.bytes

-- one more byte: the first 81 are kept
abbrev pub pushed : List ℕ → ℕ → List ℕ
pushed before b = take 81 (before ++ (b ∷ []))

-- the bytes of a line, pushed one after the other, leave its first 81, and these read as the whole line does
pub record LosesNothing (whole : List ℕ) : Type 0 where
  pub leaves : fold pushed [] whole ≡ take 81 whole
  pub reads : read (take 81 whole) ≡ read whole
