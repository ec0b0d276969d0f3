-- The words that are shown for a line.
use Rattle.std.specs.Prelude.{ℕ, List, codes}
use Rattle.calls.specs.Words.{line_of}
use Rattle.console.specs.declared.Shown.{Shown}
use Rattle.console.specs.declared.Shown.TheVariants.{Bad, Reply}

abbrev pub words_of : Shown → List ℕ
words_of Bad = codes "bad"
words_of (Reply r) = line_of r
