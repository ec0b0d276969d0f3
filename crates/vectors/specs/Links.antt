-- What the vectors of a table are made from: which task begins to wait on a core, and which task completes that wait.
use Rattle.std.specs.Prelude.{ℕ, ◌+◌, ◌-◌, Bool, cond, not, ◌&&◌, map, replicate, length, take, Some, None, Option, ◌==◌, nat_eq, nat_lt, slice_index_or}
use Rattle.std.specs.List.{range_with_len}
use Rattle.std.specs.Option.{option_eq}
use Rattle.table.specs.Below.{first_from}
use Rattle.table.specs.Rows.{Plan, row, on, named, nth_on, tasks_on, wait}
use Rattle.vectors.specs.declared.state.Links.{Links}
use Rattle.vectors.specs.declared.state.TaskLinks.{TaskLinks}

-- the place of task t on its core: how many tasks stand before it there
abbrev pub place : Plan → ℕ → ℕ
place p t = tasks_on (take t p.rows) (row p t).core

-- the task before task t on its core, if there is one
abbrev pub preceding : Plan → ℕ → Option ℕ
preceding p t = cond (place p t == 0) None (named (nth_on (row p t).core (place p t - 1) 0 p.rows))

-- the task after task t on its core, if there is one
abbrev pub following : Plan → ℕ → Option ℕ
following p t = named (nth_on (row p t).core (place p t + 1) 0 p.rows)

-- the wait on core k of the task before task t on its core, 0 if there is none
abbrev pub wait_before : Plan → ℕ → ℕ → ℕ
wait_before p t k = cond (place p t == 0) 0 (wait p.rows (row p (nth_on (row p t).core (place p t - 1) 0 p.rows)) k)

-- task t begins to wait on core k: its wait there exceeds that of the task before it on its core
abbrev pub begins : Plan → ℕ → ℕ → Bool
begins p t k = not (on k (row p t)) && nat_lt (wait_before p t k) (wait p.rows (row p t) k)

-- the task of core k that completes the wait of task t there
abbrev pub completer : Plan → ℕ → ℕ → Option ℕ
completer p t k = named (nth_on k (wait p.rows (row p t) k - 1) 0 p.rows)

-- task x it is
abbrev pub is_task : ℕ → Option ℕ → Bool
is_task x a = option_eq nat_eq a (Some x)

-- task i lies on core c and begins to wait on the core of task x, and x completes that wait
abbrev pub aims : Plan → ℕ → ℕ → ℕ → Bool
aims p x c i = on c (row p i) && (begins p i (row p x).core && is_task x (completer p i (row p x).core))

-- the task of core c that waits for the end of task x, if one does
abbrev pub first_target : Plan → ℕ → ℕ → Option ℕ
first_target p x c = first_from (aims p x c) 0 (length p.rows)

-- what a board looks up of its table for task t: the task of each core that completes its wait there, and the task after it
abbrev pub task_links : Plan → ℕ → TaskLinks
task_links p t = record { completers = map (completer p t) (range_with_len 0 8); following = following p t }

-- the same for every task that a table can have
abbrev pub links_of : Plan → Links
links_of p = record { tasks = map (task_links p) (range_with_len 0 384) }

-- what they say of task t, nothing past the last one
abbrev pub no_links : TaskLinks
no_links = record { completers = replicate 8 None; following = None }

abbrev pub links_at : Links → ℕ → TaskLinks
links_at l t = slice_index_or l.tasks t no_links

abbrev pub completer_of : Links → ℕ → ℕ → Option ℕ
completer_of l t k = slice_index_or (links_at l t).completers k None

abbrev pub following_of : Links → ℕ → Option ℕ
following_of l t = (links_at l t).following
