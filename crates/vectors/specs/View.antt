-- What a vector board stands for.
use Rattle.std.specs.Prelude.{ℕ, Bool, cond, Some, None, Option}
use Rattle.table.specs.Rows.{Plan}
use Rattle.board.specs.Meaning.{next}
use Rattle.board.specs.Standing.{plan_at, progress_at}
use Rattle.vectors.specs.Phases.{Standing}
use Rattle.vectors.specs.Reached.{standing}
use Rattle.vectors.specs.declared.vector_board.VectorBoard.{VectorBoard}

abbrev pub plan_on : VectorBoard → Plan
plan_on b = plan_at b.progress

abbrev pub standing_of : VectorBoard → Standing
standing_of b = standing (progress_at b.progress) b.vectors

-- the next task of core k, if the answer is yes
abbrev pub task_if : Bool → Plan → Standing → ℕ → Option ℕ
task_if b p s k = cond b (Some (next p s.progress k)) None
