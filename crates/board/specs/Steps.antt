-- The steps of a core's next task.
use Rattle.std.specs.Prelude.{Bool, true, false, ◌||◌}
use Rattle.board.specs.declared.cores.Step.{Step}
use Rattle.board.specs.declared.cores.Step.TheVariants.{Waiting, Loose, Running, Over}

abbrev pub is_waiting : Step → Bool
is_waiting Waiting = true
is_waiting Loose = false
is_waiting Running = false
is_waiting Over = false

abbrev pub is_loose : Step → Bool
is_loose Waiting = false
is_loose Loose = true
is_loose Running = false
is_loose Over = false

abbrev pub is_running : Step → Bool
is_running Waiting = false
is_running Loose = false
is_running Running = true
is_running Over = false

abbrev pub is_over : Step → Bool
is_over Waiting = false
is_over Loose = false
is_over Running = false
is_over Over = true

-- the next task has not started
abbrev pub is_pending : Step → Bool
is_pending s = is_waiting s || is_loose s
