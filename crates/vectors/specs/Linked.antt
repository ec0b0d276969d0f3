-- Easing as a board does it, with what it looks up of its table.
use Rattle.std.specs.Prelude.{ℕ, zero, suc, cond}
use Rattle.table.specs.Sets.{has, without, less}
use Rattle.table.specs.declared.rows.CoreSet.{CoreSet}
use Rattle.vectors.specs.Links.{completer_of, following_of}
use Rattle.vectors.specs.Phases.{ready_of, status_of, set_ready, hand_on}
use Rattle.vectors.specs.declared.state.Links.{Links}
use Rattle.vectors.specs.declared.state.Vectors.{Vectors}

-- the ready bits of task t of core k that easing drops
abbrev pub dropped : Vectors → ℕ → ℕ → CoreSet → CoreSet
dropped v k t inputs = less (less (ready_of v t) (status_of v k)) inputs

-- task t of core k drops its wait for core j
abbrev pub drop_linked : Links → Vectors → ℕ → ℕ → ℕ → Vectors
drop_linked l v k t j = hand_on (set_ready v t (without (ready_of v t) j)) (following_of l t) k (completer_of l t j) j

-- so for each core below n that is dropped
abbrev pub ease_linked : ℕ → Links → CoreSet → Vectors → ℕ → ℕ → Vectors
ease_linked zero l d v k t = v
ease_linked (suc j) l d v k t = cond (has d j) (drop_linked l (ease_linked j l d v k t) k t j) (ease_linked j l d v k t)
