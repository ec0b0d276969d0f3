-- What a line of a script says. A byte is a number: 32 is the space, 35 is #, 48 to 57 are the digits.
use Rattle.std.specs.Prelude.{ℕ, suc, ◌+◌, ◌-◌, ◌*◌, Bool, cond, ◌&&◌, List, [], ◌∷◌, length, take, drop, Some, None, codes, Option, option_and_then, ◌==◌, nat_le}
use Rattle.std.specs.Str.{bytes_eq}
use Rattle.calls.specs.declared.Call.{Call}
use Rattle.calls.specs.declared.Call.TheVariants.{Ask, End}
use Rattle.script.specs.declared.Line.{Line}
use Rattle.script.specs.declared.Line.TheVariants.{Silent, Play, Bad}

-- the text without the spaces in front
abbrev pub spaces_off : List ℕ → List ℕ
spaces_off [] = []
spaces_off (b ∷ bs) = cond (b == 32) (spaces_off bs) (b ∷ bs)

-- how many bytes stand before the next space, or before the end
abbrev pub word_length : List ℕ → ℕ
word_length [] = 0
word_length (b ∷ bs) = cond (b == 32) 0 (suc (word_length bs))

-- the next word: past the spaces, the bytes up to the next space
abbrev pub next_word : List ℕ → List ℕ
next_word text = take (word_length (spaces_off text)) (spaces_off text)

-- what stands after the next word
abbrev pub after_word : List ℕ → List ℕ
after_word text = drop (word_length (spaces_off text)) (spaces_off text)

-- a byte that is a digit
abbrev pub is_digit : ℕ → Bool
is_digit b = nat_le 48 b && nat_le b 57

-- the number that digits write after the number n, and none if a byte is no digit
abbrev pub digits_value : ℕ → List ℕ → Option ℕ
digits_value n [] = Some n
digits_value n (b ∷ bs) = cond (is_digit b) (digits_value (10 * n + (b - 48)) bs) None

-- the number that a word of 1 to 9 digits writes
abbrev pub number : List ℕ → Option ℕ
number word = cond (nat_le 1 (length word) && nat_le (length word) 9) (digits_value 0 word) None

-- go on with a value, if there is one
abbrev pub then : {A B : Type 0} → Option A → (A → Option B) → Option B
then o next = option_and_then next o

-- the same bytes
abbrev pub same : List ℕ → List ℕ → Bool
same bs cs = bytes_eq bs cs

-- the call, if nothing stands after its last word
abbrev pub close : List ℕ → Call → Option Call
close [] call = Some call
close (b ∷ bs) call = None

-- after the word ask: a core and a time
abbrev pub read_ask : List ℕ → Option Call
read_ask text =
    then (number (next_word text)) (λ core.
    then (number (next_word (after_word text))) (λ time.
    close (after_word (after_word text)) (Ask core time)))

-- after the word end: a core, a task and a time
abbrev pub read_end : List ℕ → Option Call
read_end text =
    then (number (next_word text)) (λ core.
    then (number (next_word (after_word text))) (λ task.
    then (number (next_word (after_word (after_word text)))) (λ time.
    close (after_word (after_word (after_word text))) (End core task time))))

-- the call of a command word and of what follows it
abbrev pub read_command : List ℕ → List ℕ → Option Call
read_command word text = cond (same word (codes "ask")) (read_ask text) (cond (same word (codes "end")) (read_end text) None)

-- the call that a line writes
abbrev pub read_call : List ℕ → Option Call
read_call line = read_command (next_word line) (after_word line)

-- a line that writes no call is bad
abbrev pub play : Option Call → Line
play None = Bad
play (Some call) = Play call

-- a line that is not too long, by its first byte
abbrev pub read_short : List ℕ → Line
read_short [] = Silent
read_short (b ∷ bs) = cond (b == 35) Silent (cond (b == 32) Bad (play (read_call (b ∷ bs))))

-- what a line says
abbrev pub read : List ℕ → Line
read line = cond (nat_le (length line) 80) (read_short line) Bad
