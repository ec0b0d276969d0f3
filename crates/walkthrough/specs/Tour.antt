-- The first core whose task may start.
use Rattle.std.specs.Prelude.{ℕ, List, Option}
use Rattle.table.specs.Below.{first_from}
use Rattle.table.specs.Rows.{Plan}
use Rattle.board.specs.Meaning.{clear}
use Rattle.board.specs.declared.cores.Core.{Core}

abbrev pub first_clear : Plan → List Core → Option ℕ
first_clear p cs = first_from (clear p cs) 0 p.cores
