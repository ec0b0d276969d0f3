-- Which lines write which call.
use Rattle.std.specs.Prelude.{◌≡◌, ℕ, ◌+◌, ◌-◌, ◌*◌, ◌^◌, ◌≤◌, List, [], ◌∷◌, ◌++◌, length, replicate, codes}
use Rattle.std.specs.List.{AllByRecursion}
use Rattle.calls.specs.declared.Call.{Call}
use Rattle.calls.specs.declared.Call.TheVariants.{Ask, End}
use Rattle.script.specs.declared.Line.TheVariants.{Play}
use Rattle.script.specs.Grammar.{read}

-- so many spaces
abbrev pub spaces : ℕ → List ℕ
spaces count = replicate count 32

-- a byte that is a digit
abbrev pub Digit : ℕ → Type 0
Digit b = (48 ≤ b) × (b ≤ 57)

-- the decimal value of digits
abbrev pub value : List ℕ → ℕ
value [] = 0
value (d ∷ ds) = (d - 48) * 10 ^ length ds + value ds

-- the part is one or more spaces, and then 1 to 9 digits that write n
pub record Numbered (part : List ℕ) (n : ℕ) : Type 0 where
  pub gap : ℕ
  pub digits : List ℕ
  pub whole : part ≡ spaces gap ++ digits
  pub apart : 1 ≤ gap
  pub some : 1 ≤ length digits
  pub few : length digits ≤ 9
  pub plain : AllByRecursion Digit digits
  pub writes : value digits ≡ n

-- the line is the word ask, a core and a time, in at most 80 bytes
pub record AskLine (line : List ℕ) (core time : ℕ) : Type 0 where
  pub core_part : List ℕ
  pub time_part : List ℕ
  pub whole : line ≡ codes "ask" ++ (core_part ++ time_part)
  pub of_core : Numbered core_part core
  pub of_time : Numbered time_part time
  pub fits : length line ≤ 80

-- the line is the word end, a core, a task and a time, in at most 80 bytes
pub record EndLine (line : List ℕ) (core task time : ℕ) : Type 0 where
  pub core_part : List ℕ
  pub task_part : List ℕ
  pub time_part : List ℕ
  pub whole : line ≡ codes "end" ++ (core_part ++ (task_part ++ time_part))
  pub of_core : Numbered core_part core
  pub of_task : Numbered task_part task
  pub of_time : Numbered time_part time
  pub fits : length line ≤ 80

-- the line writes the call
abbrev pub Reads : List ℕ → Call → Type 0
Reads line (Ask core time) = AskLine line core time
Reads line (End core task time) = EndLine line core task time

-- a line is read as a call just where it writes that call
abbrev pub ReadsExactly : List ℕ → Type 0
ReadsExactly line = (c : Call) → (read line ≡ Play c → Reads line c) × (Reads line c → read line ≡ Play c)
