-- What the patterns and the loop of the code read of a text.
use Rattle.std.proofs.Common.{◌≡◌, ℕ, suc, ◌+◌, ◌*◌, cond, ◌^◌, ◌<◌, ◌≤◌, ◌==◌, Bool, not, true, false, drop, List, [], ◌∷◌, length, get_or, Some, None, codes, sym, refl, ap, ◌∙◌, ⊎_elim, add-one, arith}
use native.Mathlib.Nat.{pow-succ', pow-le-pow_right}
use Rattle.std.proofs.lemmas.Bool.{le-leb, lt-leb, and_from, and_left, and_right, cond-true, cond-false, cases_Bool}
use Rattle.std.proofs.lemmas.List.Recursion.{is_position_or_len}
use Rattle.std.proofs.lemmas.List.Sums.{prefix_len-le-length}
use Rattle.std.proofs.lemmas.Slice.Eq.{text_from_reads, bytes_eq-Decides}
use Rattle.std.specs.List.{position, position_or_len}
use Rattle.std.specs.Option.{unwrap_or}
use Rattle.script.specs.Grammar.{spaces_off, word_length, is_digit, digits_value, number, same, read_ask, read_end, read_command}

-- the place of the first byte that passes a test, or the end
first_or_end : (p : ℕ → Bool) (text : List ℕ) → unwrap_or (position p text) (length text) ≡ position_or_len p text
first_or_end p text = grind (arith, prefix_len-le-length (λ b. not (p b)) text)

-- the first space, or the end
pub before_space : (text : List ℕ) → unwrap_or (position (λ b. b == 32) text) (length text) ≡ word_length text
before_space text = first_or_end (λ b. b == 32) text ∙ sym (is_position_or_len word_length (λ b. b == 32) refl (λ x xs. grind arith) text)

-- what stands from the first byte on that is no space
from_dark : (text : List ℕ) → drop (position_or_len (λ b. not (b == 32)) text) text ≡ spaces_off text
from_dark [] = refl
from_dark (b ∷ bs) =
    let place : ℕ = position_or_len (λ x. not (x == 32)) bs in
    let more : 1 + place ≡ suc place = omega arith in
    ⊎_elim
    (λ e. ap (λ t. drop (cond (not (not t)) (1 + place) 0) (b ∷ bs)) e ∙ (ap (λ n. drop n (b ∷ bs)) more ∙ from_dark bs ∙ sym (cond-true (b == 32) (spaces_off bs) (b ∷ bs) e)))
    (λ e. ap (λ t. drop (cond (not (not t)) (1 + place) 0) (b ∷ bs)) e ∙ sym (cond-false (b == 32) (spaces_off bs) (b ∷ bs) e))
    (cases_Bool (b == 32))

pub past_spaces : (text : List ℕ) → drop (unwrap_or (position (λ b. not (b == 32)) text) (length text)) text ≡ spaces_off text
past_spaces text = ap (λ n. drop n text) (first_or_end (λ b. not (b == 32)) text) ∙ from_dark text

-- a byte that is a digit, and one that is not
pub digit_true : (b : ℕ) → 48 ≤ b → b ≤ 57 → is_digit b ≡ true
digit_true b low high = and_from _ _ (le-leb 48 b low) (le-leb b 57 high)

pub digit_low : (b : ℕ) → b < 48 → is_digit b ≡ false
digit_low b h = and_left _ _ (lt-leb 48 b h)

pub digit_high : (b : ℕ) → 57 < b → is_digit b ≡ false
digit_high b h = and_right _ _ (lt-leb b 57 h)

-- what so many digits write leaves room for one more
pub tens_below : (i : ℕ) → i < 9 → 10 ^ i ≤ 100000000
tens_below i few = pow-le-pow_right {n = 10} (omega arith) {i = i} {j = 8} (omega arith)

pub one_digit_more : (n i d : ℕ) → n < 10 ^ i → d ≤ 9 → 10 * n + d < 10 ^ (i + 1)
one_digit_more n i d h few = let top : 10 ^ (i + 1) ≡ 10 * 10 ^ i = rw add-one (pow-succ' 10 i) in omega arith

-- 1 to 9 bytes
pub number_few : (word : List ℕ) → 1 ≤ length word → length word ≤ 9 → number word ≡ digits_value 0 word
number_few word low high = grind arith

-- a word of three bytes
pub three : (w : List ℕ) (a b c : ℕ) → length w ≡ 3 → get_or w 0 0 ≡ a → get_or w 1 0 ≡ b → get_or w 2 0 ≡ c → w ≡ a ∷ b ∷ c ∷ []
three w a b c n x y z = text_from_reads w (a ∷ b ∷ c ∷ []) n (x, (y, (z, tt)))

-- w is not the three bytes a, b, c
abbrev pub NotThree : List ℕ → ℕ → ℕ → ℕ → Type 0
NotThree w a b c = length w ≡ 3 → get_or w 0 0 ≡ a → get_or w 1 0 ≡ b → get_or w 2 0 ≡ c → ⊥

pub not_same : (w : List ℕ) (a b c : ℕ) → NotThree w a b c → same w (a ∷ b ∷ c ∷ []) ≡ false
not_same w a b c h =
    ⊎_elim
    (λ yes_same. let e = (bytes_eq-Decides w (a ∷ b ∷ c ∷ [])).0 yes_same in absurd (h (ap length e) (ap (λ l. get_or l 0 0) e) (ap (λ l. get_or l 1 0) e) (ap (λ l. get_or l 2 0) e)))
    (λ differ. differ)
    (cases_Bool (same w (a ∷ b ∷ c ∷ [])))

-- the two commands, and any other word
pub command_ask : (w text : List ℕ) → length w ≡ 3 → get_or w 0 0 ≡ 97 → get_or w 1 0 ≡ 115 → get_or w 2 0 ≡ 107 → read_command w text ≡ read_ask text
command_ask w text n x y z = ap (λ v. read_command v text) (three w 97 115 107 n x y z)

pub command_end : (w text : List ℕ) → length w ≡ 3 → get_or w 0 0 ≡ 101 → get_or w 1 0 ≡ 110 → get_or w 2 0 ≡ 100 → read_command w text ≡ read_end text
command_end w text n x y z = ap (λ v. read_command v text) (three w 101 110 100 n x y z)

pub command_none : (w text : List ℕ) → NotThree w 97 115 107 → NotThree w 101 110 100 → None ≡ read_command w text
command_none w text p q = sym (cond-false (same w (codes "ask")) _ _ (not_same w 97 115 107 p) ∙ cond-false (same w (codes "end")) _ _ (not_same w 101 110 100 q))

-- a number is no command
pub number_none : (w text : List ℕ) (n : ℕ) → number w ≡ Some n → None ≡ read_command w text
number_none w text n h =
    command_none w text
    (λ l a b c. let none : number w ≡ None = ap number (three w 97 115 107 l a b c) in cc)
    (λ l a b c. let none : number w ≡ None = ap number (three w 101 110 100 l a b c) in cc)
