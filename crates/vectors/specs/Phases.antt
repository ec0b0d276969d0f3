-- The vectors at the opening and after each order, to be read beside the published ready, notify and relax phases.
-- Left out everywhere: the bit of a core in its own vectors. A core runs its tasks in their order, so that bit says nothing.
use Rattle.std.specs.Prelude.{ℕ, zero, suc, Bool, cond, not, ◌&&◌, List, map, replicate, is_some, Some, None, Option, nat_lt, slice_index_or, slice_set}
use Rattle.std.specs.List.{range_with_len}
use Rattle.table.specs.Below.{any_below}
use Rattle.table.specs.Sets.{has, set_of, none, with, without, less, includes}
use Rattle.table.specs.Rows.{Plan, row}
use Rattle.table.specs.declared.rows.CoreSet.{CoreSet}
use Rattle.board.specs.Steps.{is_waiting, is_pending, is_running}
use Rattle.board.specs.Meaning.{step_of, next, stepped, finished}
use Rattle.board.specs.declared.cores.Core.{Core}
use Rattle.board.specs.declared.cores.Step.TheVariants.{Loose, Running}
use Rattle.vectors.specs.Links.{following, begins, completer, first_target}
use Rattle.vectors.specs.declared.state.TaskVectors.{TaskVectors}
use Rattle.vectors.specs.declared.state.Vectors.{Vectors}

-- nothing is known of a task past the last one
abbrev pub no_vectors : TaskVectors
no_vectors = record { ready = none; notify = none; target = replicate 8 None }

abbrev pub vectors_at : Vectors → ℕ → TaskVectors
vectors_at v t = slice_index_or v.tasks t no_vectors

-- the ready and the notification vector of task t, its target on core c, and the status vector of core k
abbrev pub ready_of : Vectors → ℕ → CoreSet
ready_of v t = (vectors_at v t).ready

abbrev pub notify_of : Vectors → ℕ → CoreSet
notify_of v t = (vectors_at v t).notify

abbrev pub target_of : Vectors → ℕ → ℕ → Option ℕ
target_of v t c = slice_index_or (vectors_at v t).target c None

abbrev pub status_of : Vectors → ℕ → CoreSet
status_of v k = slice_index_or v.status k none

-- before the first start: a task needs a notice from each core on which it begins to wait, the task that completes
-- that wait gives it, and no notice has come
unfoldable pub task_vectors : Plan → ℕ → TaskVectors
task_vectors p x = record {
  ready = set_of (begins p x);
  notify = set_of (λ c. is_some (first_target p x c));
  target = map (first_target p x) (range_with_len 0 8);
}

abbrev pub first_vectors : Plan → Vectors
first_vectors p = record { tasks = map (task_vectors p) (range_with_len 0 384); status = replicate 8 none }

-- the vectors with another ready vector of task t, another notification vector, another target on core c, another status vector of core k
abbrev pub set_ready : Vectors → ℕ → CoreSet → Vectors
set_ready v t s = record v { tasks = slice_set v.tasks t (record (vectors_at v t) { ready = s }) }

abbrev pub set_notify : Vectors → ℕ → CoreSet → Vectors
set_notify v t s = record v { tasks = slice_set v.tasks t (record (vectors_at v t) { notify = s }) }

abbrev pub set_target : Vectors → ℕ → ℕ → ℕ → Vectors
set_target v t c u = record v { tasks = slice_set v.tasks t (record (vectors_at v t) { target = slice_set (vectors_at v t).target c (Some u) }) }

abbrev pub set_status : Vectors → ℕ → CoreSet → Vectors
set_status v k s = record v { status = slice_set v.status k s }

-- READY PHASE. Core k has every notice that task t needs.
abbrev pub noticed : Vectors → ℕ → ℕ → Bool
noticed v k t = includes (status_of v k) (ready_of v t)

-- The notices that task t needed leave the status vector of core k as it starts, and no others: one for a later task stays.
abbrev pub start_vectors : Vectors → ℕ → ℕ → Vectors
start_vectors v k t = set_status v k (less (status_of v k) (ready_of v t))

-- NOTIFY PHASE. Core k tells core c that its task x has ended: it sets its bit in c's status vector. If the bit is
-- set already, c has not used an earlier notice, and the target needs none any more: its ready bit goes instead.
abbrev pub unready : Vectors → Option ℕ → ℕ → Vectors
unready v None k = v
unready v (Some u) k = set_ready v u (without (ready_of v u) k)

abbrev pub notice : Vectors → ℕ → ℕ → ℕ → Vectors
notice v k x c = cond (has (status_of v c) k) (unready v (target_of v x c) k) (set_status v c (with (status_of v c) k))

-- It tells the cores below n that are in the notification vector of x.
abbrev pub end_vectors : ℕ → Vectors → ℕ → ℕ → Vectors
end_vectors zero v k x = v
end_vectors (suc c) v k x = cond (has (notify_of v x) c) (notice (end_vectors c v k x) k x c) (end_vectors c v k x)

-- RELAX PHASE. Easing task t of core k drops the ready bits that are neither in the status vector nor data bits.
-- The published phase clears the status bit of every predecessor's core too; a notice for a later task would be lost.
abbrev pub drops : Plan → Vectors → ℕ → ℕ → ℕ → Bool
drops p v k t j = has (ready_of v t) j && (not (has (status_of v k) j) && not (has (row p t).inputs j))

-- The end of task x is of no use to core k any more.
abbrev pub withdraw : Vectors → Option ℕ → ℕ → Vectors
withdraw v None k = v
withdraw v (Some x) k = set_notify v x (without (notify_of v x) k)

-- The end of task x is for task u of core k now.
abbrev pub retarget : Vectors → Option ℕ → ℕ → ℕ → Vectors
retarget v None k u = v
retarget v (Some x) k u = set_target v x k u

-- The wait for core j that task t of core k has dropped is handed on to the following task, unless that begins one of
-- its own there or there is none. The published phase hands nothing on, so the following task could start unchecked.
abbrev pub hand_on : Vectors → Option ℕ → ℕ → Option ℕ → ℕ → Vectors
hand_on v None k x j = withdraw v x k
hand_on v (Some u) k x j = cond (has (ready_of v u) j) (withdraw v x k) (retarget (set_ready v u (with (ready_of v u) j)) x k u)

abbrev pub drop_bit : Plan → Vectors → ℕ → ℕ → ℕ → Vectors
drop_bit p v k t j = hand_on (set_ready v t (without (ready_of v t) j)) (following p t) k (completer p t j) j

-- So for each core below n whose bit is dropped.
abbrev pub ease_vectors : ℕ → Plan → Vectors → ℕ → ℕ → Vectors
ease_vectors zero p v k t = v
ease_vectors (suc j) p v k t = cond (drops p v k t j) (drop_bit p (ease_vectors j p v k t) k t j) (ease_vectors j p v k t)

-- the vector board: how far each core has come, and the vectors
pub record Standing : Type 0 where
  pub progress : List Core
  pub vectors : Vectors

-- core k is clear, and can be eased, as its vectors say
abbrev pub vectors_clear : Plan → Standing → ℕ → Bool
vectors_clear p b k = nat_lt k p.cores && (is_pending (step_of b.progress k) && noticed b.vectors k (next p b.progress k))

abbrev pub vectors_easable : Plan → Standing → ℕ → Bool
vectors_easable p b k = nat_lt k p.cores && (is_waiting (step_of b.progress k) && any_below 8 (drops p b.vectors k (next p b.progress k)))

-- what the three orders do to the board
abbrev pub board_eased : Plan → Standing → ℕ → Standing
board_eased p b k = cond (vectors_easable p b k)
    (record { progress = stepped b.progress k Loose; vectors = ease_vectors 8 p b.vectors k (next p b.progress k) }) b

abbrev pub board_started : Plan → Standing → ℕ → Standing
board_started p b k = cond (vectors_clear p b k)
    (record { progress = stepped b.progress k Running; vectors = start_vectors b.vectors k (next p b.progress k) }) b

abbrev pub board_finished : Plan → Standing → ℕ → Standing
board_finished p b k = cond (is_running (step_of b.progress k))
    (record { progress = finished p b.progress k; vectors = end_vectors 8 b.vectors k (next p b.progress k) }) b
