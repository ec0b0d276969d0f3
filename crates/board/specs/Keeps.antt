-- The test that every progress value passes: each core's step agrees with its count, and its next task is at hand.
use Rattle.std.specs.Prelude.{ℕ, Bool, true, false, cond, ◌&&◌, List, map, length, Some, None, Option, ◌==◌, nat_le, nat_lt, slice_index_or}
use Rattle.table.specs.Rows.{Plan, tasks_on}
use Rattle.board.specs.Steps.{is_over}
use Rattle.table.specs.Below.{all_below}
use Rattle.board.specs.Meaning.{idle, next_task}
use Rattle.board.specs.declared.cores.Core.{Core}
use Rattle.board.specs.declared.cores.CoreRow.{CoreRow}

-- how far each core has come, and the next task of each, as their rows say
abbrev pub cores_of : List CoreRow → List Core
cores_of rows = map (λ r. r.core) rows

abbrev pub nexts_of : List CoreRow → List (Option ℕ)
nexts_of rows = map (λ r. r.next) rows

-- a core with n tasks is over exactly when all have ended
abbrev pub agrees : ℕ → Core → Bool
agrees n c = cond (is_over c.step) (c.ended == n) (nat_lt c.ended n)

-- the two are one task, or both none
abbrev pub same_task : Option ℕ → Option ℕ → Bool
same_task None None = true
same_task None (Some u) = false
same_task (Some t) None = false
same_task (Some t) (Some u) = t == u

-- so it is on core k, and its next task is at hand
abbrev pub keeps_at : Plan → List Core → List (Option ℕ) → ℕ → Bool
keeps_at p cs ns k = agrees (tasks_on p.rows k) (slice_index_or cs k idle) && same_task (slice_index_or ns k None) (next_task p cs k)

unfoldable pub keeps : Plan → List Core → List (Option ℕ) → Bool
keeps p cs ns = length cs == p.cores && (nat_le p.cores (length ns) && all_below p.cores (keeps_at p cs ns))
