-- What a board means: for each core, how many of its tasks have ended and the step of its next task.
use Rattle.std.specs.Prelude.{ℕ, suc, Bool, cond, not, ◌&&◌, ◌||◌, List, map, Option, ◌==◌, nat_le, nat_lt, slice_index_or, slice_set}
use Rattle.std.specs.List.{range_with_len}
use Rattle.table.specs.Below.{all_below, any_below}
use Rattle.table.specs.Sets.{has}
use Rattle.table.specs.Rows.{Plan, row, on, named, nth_on, tasks_on, wait}
use Rattle.board.specs.Steps.{is_waiting, is_pending, is_running}
use Rattle.board.specs.declared.cores.Core.{Core}
use Rattle.board.specs.declared.cores.Step.{Step}
use Rattle.board.specs.declared.cores.Step.TheVariants.{Waiting, Loose, Running, Over}

-- a core that the table lacks
abbrev pub idle : Core
idle = record { ended = 0; step = Over }

-- how many tasks of core k have ended, and the step of its next one
abbrev pub ended_on : List Core → ℕ → ℕ
ended_on cs k = (slice_index_or cs k idle).ended

abbrev pub step_of : List Core → ℕ → Step
step_of cs k = (slice_index_or cs k idle).step

-- the number of the next task of core k, the first that has not ended
abbrev pub next : Plan → List Core → ℕ → ℕ
next p cs k = nth_on k (ended_on cs k) 0 p.rows

-- the next task of core k, if one is left
abbrev pub next_task : Plan → List Core → ℕ → Option ℕ
next_task p cs k = named (next p cs k)

-- the wait of task t on core k is met: that core has ended as many
abbrev pub met : Plan → List Core → ℕ → ℕ → Bool
met p cs t k = nat_le (wait p.rows (row p t) k) (ended_on cs k)

-- the wait of task t on core k is in force: always until the task is let loose, then only on its data cores
abbrev pub in_force : Plan → Step → ℕ → ℕ → Bool
in_force p s t k = not (on k (row p t)) && (is_waiting s || has (row p t).inputs k)

-- core j does not keep task t, at this step, from starting
abbrev pub free_of : Plan → List Core → Step → ℕ → ℕ → Bool
free_of p cs s t j = not (in_force p s t j) || met p cs t j

-- task t has an unmet wait on core j that easing would drop: j is not its core k and no data core
abbrev pub droppable : Plan → List Core → ℕ → ℕ → ℕ → Bool
droppable p cs k t j = not (j == k) && (not (has (row p t).inputs j) && not (met p cs t j))

-- core k is clear: its next task waits or is loose, and its waits in force are met
abbrev pub clear : Plan → List Core → ℕ → Bool
clear p cs k = nat_lt k p.cores && (is_pending (step_of cs k) && all_below p.cores (free_of p cs (step_of cs k) (next p cs k)))

-- core k can be eased: its next task waits, and some unmet wait of it is on a core without a data bit
abbrev pub easable : Plan → List Core → ℕ → Bool
easable p cs k = nat_lt k p.cores && (is_waiting (step_of cs k) && any_below p.cores (droppable p cs k (next p cs k)))

-- the step of core k when e of its tasks have ended and the next has not been touched
abbrev pub rest : Plan → ℕ → ℕ → Step
rest p k e = cond (nat_lt e (tasks_on p.rows k)) Waiting Over

-- core k with e ended tasks and its next task untouched
abbrev pub rested : Plan → ℕ → ℕ → Core
rested p k e = record { ended = e; step = rest p k e }

-- the cores of a board that was just opened on the plan
abbrev pub opened : Plan → List Core
opened p = map (λ k. rested p k 0) (range_with_len 0 p.cores)

-- core k's next task at another step
abbrev pub stepped : List Core → ℕ → Step → List Core
stepped cs k s = slice_set cs k (record { ended = ended_on cs k; step = s })

-- one more task of core k has ended
abbrev pub ended_one : Plan → List Core → ℕ → List Core
ended_one p cs k = slice_set cs k (rested p k (suc (ended_on cs k)))

-- what the three orders do to the cores; out of step they do nothing
abbrev pub eased : Plan → List Core → ℕ → List Core
eased p cs k = cond (easable p cs k) (stepped cs k Loose) cs

abbrev pub started : Plan → List Core → ℕ → List Core
started p cs k = cond (clear p cs k) (stepped cs k Running) cs

abbrev pub finished : Plan → List Core → ℕ → List Core
finished p cs k = cond (is_running (step_of cs k)) (ended_one p cs k) cs
