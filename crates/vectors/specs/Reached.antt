-- The states that a vector board can be in.
use Rattle.std.specs.Prelude.{ℕ, List}
use Rattle.table.specs.Rows.{Plan}
use Rattle.board.specs.Meaning.{opened}
use Rattle.board.specs.declared.cores.Core.{Core}
use Rattle.vectors.specs.Phases.{Standing, first_vectors, board_eased, board_started, board_finished}
use Rattle.vectors.specs.declared.state.Vectors.{Vectors}

-- how far the cores have come, beside the vectors
abbrev pub standing : List Core → Vectors → Standing
standing cs v = record { progress = cs; vectors = v }

-- a board that was just opened on the plan
abbrev pub first_standing : Plan → Standing
first_standing p = standing (opened p) (first_vectors p)

-- the states that any orders lead to, in any number and order, from the opening on
pub data Reached (p : Plan) : Standing → Type 0 where
  at_opening : Reached p (first_standing p)
  by_easing : (b : Standing) (k : ℕ) → Reached p b → Reached p (board_eased p b k)
  by_start : (b : Standing) (k : ℕ) → Reached p b → Reached p (board_started p b k)
  by_end : (b : Standing) (k : ℕ) → Reached p b → Reached p (board_finished p b k)
