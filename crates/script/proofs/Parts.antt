-- A text as spaces, a word and what follows: taken apart, and put together.
use Rattle.std.proofs.Common.{◌≡◌, ℕ, zero, suc, ◌≤◌, eqb, List, [], ◌∷◌, ◌++◌, length, take, drop, Some, sym, refl, ap, ◌∙◌, subst, ⊎_elim, append_assoc, arith, take-append-drop}
use Rattle.std.proofs.lemmas.List.{take_at, drop_at}
use Rattle.std.proofs.lemmas.Bool.{cases_Bool}
use Rattle.std.specs.List.{AllByRecursion}
use Rattle.script.specs.Grammar.{spaces_off, word_length, next_word, after_word, number}
use Rattle.script.specs.Lines.{spaces, Digit, Numbered}
use Rattle.script.proofs.Values.{figures, number_from_figures}

-- the text is empty or begins with a space
abbrev pub Opens : List ℕ → Type 0
Opens [] = Unit {0}
Opens (b ∷ bs) = b ≡ 32

-- a byte that is no space
abbrev pub Dark : ℕ → Type 0
Dark b = b ≡ 32 → ⊥

-- how many spaces stand in front
pub front : (text : List ℕ) → (k : ℕ) × (text ≡ spaces k ++ spaces_off text)
front [] = (0, refl)
front (b ∷ bs) =
    let more = front bs in
    ⊎_elim
    (λ is. (suc more.0, grind arith))
    (λ is. (0, grind arith))
    (cases_Bool (eqb b 32))

-- what follows a word is empty or begins with a space
pub opens_after : (text : List ℕ) → Opens (drop (word_length text) text)
opens_after [] = tt
opens_after (b ∷ bs) = let more = opens_after bs in grind arith

-- a word before a space or the end is as long as it is
pub word_length_is : (w rest : List ℕ) → AllByRecursion Dark w → Opens rest → word_length (w ++ rest) ≡ length w
word_length_is [] [] dark opens = refl
word_length_is [] (b ∷ bs) dark opens = grind arith
word_length_is (b ∷ w) rest dark opens = grind (arith, word_length_is w rest)

pub spaces_off_word : (w rest : List ℕ) → 1 ≤ length w → AllByRecursion Dark w → spaces_off (w ++ rest) ≡ w ++ rest
spaces_off_word [] rest some dark = absurd (omega arith)
spaces_off_word (b ∷ w) rest some dark = grind arith

pub spaces_off_spaces : (k : ℕ) (text : List ℕ) → spaces_off (spaces k ++ text) ≡ spaces_off text
spaces_off_spaces zero text = refl
spaces_off_spaces (suc k) text = spaces_off_spaces k text

-- a word after spaces: what it is, and what follows it
pub word_reads : (k : ℕ) (w rest : List ℕ) → 1 ≤ length w → AllByRecursion Dark w → Opens rest → (next_word (spaces k ++ (w ++ rest)) ≡ w) × (after_word (spaces k ++ (w ++ rest)) ≡ rest)
word_reads k w rest some dark opens =
    let off : spaces_off (spaces k ++ (w ++ rest)) ≡ w ++ rest = spaces_off_spaces k (w ++ rest) ∙ spaces_off_word w rest some dark in
    let long = word_length_is w rest dark opens in
    (ap (λ l. take (word_length l) l) off ∙ take_at w rest (word_length (w ++ rest)) (sym long), ap (λ l. drop (word_length l) l) off ∙ drop_at w rest (word_length (w ++ rest)) (sym long))

dark_digits : (ds : List ℕ) → AllByRecursion Digit ds → AllByRecursion Dark ds
dark_digits [] all = tt
dark_digits (d ∷ ds) all = (λ is. let low = all.0.0 in omega arith, dark_digits ds all.1)

opens_spaces : (k : ℕ) (text : List ℕ) → 1 ≤ k → Opens (spaces k ++ text)
opens_spaces zero text some = absurd (omega arith)
opens_spaces (suc k) text some = refl

-- a part that is numbered reads as its number
pub record PartReads (part rest : List ℕ) (n : ℕ) : Type 0 where
  pub opens : Opens (part ++ rest)
  pub reads : number (next_word (part ++ rest)) ≡ Some n
  pub leaves : after_word (part ++ rest) ≡ rest

pub part_reads : (part rest : List ℕ) (n : ℕ) → Numbered part n → Opens rest → PartReads part rest n
part_reads part rest n p opens =
    let joined : part ++ rest ≡ spaces p.gap ++ (p.digits ++ rest) = ap (λ l. l ++ rest) p.whole ∙ append_assoc (spaces p.gap) p.digits rest in
    let word = word_reads p.gap p.digits rest p.some (dark_digits p.digits p.plain) opens in
    record {
      opens = subst Opens (sym joined) (opens_spaces p.gap (p.digits ++ rest) p.apart);
      reads = ap (λ l. number (next_word l)) joined ∙ ap number word.0 ∙ number_from_figures p.digits n (record { some = p.some; few = p.few; plain = p.plain; writes = p.writes });
      leaves = ap after_word joined ∙ word.1;
    }

-- a number that is read is a part of the text
pub record Split (text : List ℕ) (n : ℕ) : Type 0 where
  pub part : List ℕ
  pub numbered : Numbered part n
  pub whole : text ≡ part ++ after_word text
  pub opens : Opens (after_word text)

-- a text that begins with a space begins with some number of them, and then has its next word
front_some : (text : List ℕ) → Opens text → 1 ≤ length (next_word text) → (k : ℕ) × (text ≡ spaces (suc k) ++ spaces_off text)
front_some [] opens some = absurd (omega arith)
front_some (b ∷ bs) opens some = let more = front bs in (more.0, grind arith)

pub split : (text : List ℕ) (n : ℕ) → Opens text → number (next_word text) ≡ Some n → Split text n
split text n opens h =
    let f = figures (next_word text) n h in
    let lead = front_some text opens f.some in
    let rest = spaces_off text in
    let cut : next_word text ++ after_word text ≡ rest = take-append-drop (word_length rest) rest in
    record {
      part = spaces (suc lead.0) ++ next_word text;
      numbered = record { gap = suc lead.0; digits = next_word text; whole = refl; apart = omega arith; some = f.some; few = f.few; plain = f.plain; writes = f.writes };
      whole = lead.1 ∙ ap (λ l. spaces (suc lead.0) ++ l) (sym cut) ∙ sym (append_assoc (spaces (suc lead.0)) (next_word text) (after_word text));
      opens = opens_after rest;
    }
