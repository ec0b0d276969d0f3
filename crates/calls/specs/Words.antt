-- The words and numbers of the replies.
use Rattle.std.specs.Prelude.{ℕ, List, ◌++◌, Some, None, Ok, Err, codes, decimal, Option, Result}
use Rattle.calls.specs.declared.Answer.{Answer}
use Rattle.calls.specs.declared.Answer.TheVariants.{Over, Go, Loose, Data, Hold}
use Rattle.calls.specs.declared.Refusal.{Refusal}
use Rattle.calls.specs.declared.Refusal.TheVariants.{NoSuchCore, BadTime, CoreBusy, NotRunning, ListTooShort}
use Rattle.calls.specs.declared.Reply.{Reply}
use Rattle.calls.specs.declared.Reply.TheVariants.{Told, Noted, Refused}

-- the word of an answer
abbrev pub word_of : Answer → List ℕ
word_of Over = codes "over"
word_of (Go t) = codes "go"
word_of (Loose t) = codes "loose"
word_of (Data t) = codes "data"
word_of (Hold t) = codes "hold"

-- the task that an answer carries
abbrev pub task_of : Answer → Option ℕ
task_of Over = None
task_of (Go t) = Some t
task_of (Loose t) = Some t
task_of (Data t) = Some t
task_of (Hold t) = Some t

-- the number of a refusal
abbrev pub number_of : Refusal → ℕ
number_of NoSuchCore = 8
number_of BadTime = 9
number_of CoreBusy = 10
number_of NotRunning = 11
number_of ListTooShort = 12

-- a word, and a space and a number after it where there is one
abbrev pub word_with : List ℕ → Option ℕ → List ℕ
word_with w None = w
word_with w (Some n) = w ++ (codes " " ++ decimal n)

-- the line that tells an answer, a refusal, a reply
abbrev pub answer_line : Answer → List ℕ
answer_line a = word_with (word_of a) (task_of a)

abbrev pub refusal_line : Refusal → List ℕ
refusal_line r = word_with (codes "no") (Some (number_of r))

abbrev pub line_of : Reply → List ℕ
line_of (Told a) = answer_line a
line_of Noted = codes "ok"
line_of (Refused r) = refusal_line r

-- the result of an ask, of a finish, as a reply
abbrev pub told : Result Answer Refusal → Reply
told (Ok a) = Told a
told (Err r) = Refused r

abbrev pub noted : {U : Type 0} → Result U Refusal → Reply
noted (Ok u) = Noted
noted (Err r) = Refused r
