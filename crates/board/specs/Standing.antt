-- What a progress value stands for, and what its orders do.
use Rattle.std.specs.Prelude.{ℕ, cond, List, take, Some, None, Option}
use Rattle.table.specs.Rows.{Plan, named, nth_on}
use Rattle.table.specs.View.{plan_of}
use Rattle.board.specs.Steps.{is_waiting, is_pending}
use Rattle.board.specs.Meaning.{rested, step_of, stepped}
use Rattle.board.specs.Keeps.{cores_of}
use Rattle.board.specs.declared.cores.Core.{Core}
use Rattle.board.specs.declared.cores.CoreRow.{CoreRow}
use Rattle.board.specs.declared.cores.Step.{Step}
use Rattle.board.specs.declared.cores.Step.TheVariants.{Waiting, Loose, Running, Over}
use Rattle.board.specs.declared.progress.Progress.{Progress}

abbrev pub plan_at : Progress → Plan
plan_at x = plan_of x.table

abbrev pub progress_at : Progress → List Core
progress_at x = take (plan_of x.table).cores (cores_of x.cores.rows)

-- the cores after a waiting next task of core k was let loose, after a pending one was started
abbrev pub loosened : List Core → ℕ → List Core
loosened cs k = cond (is_waiting (step_of cs k)) (stepped cs k Loose) cs

abbrev pub launched : List Core → ℕ → List Core
launched cs k = cond (is_pending (step_of cs k)) (stepped cs k Running) cs

-- the step of a core whose next task has not been touched, if there is one
abbrev pub untouched : Option ℕ → Step
untouched (Some t) = Waiting
untouched None = Over

-- the row of core k at the beginning of the frame: its first task, if there is one, is its next, and has not been touched
abbrev pub row_at_start : Plan → ℕ → CoreRow
row_at_start p k = record { core = rested p k 0; next = named (nth_on k 0 0 p.rows) }
