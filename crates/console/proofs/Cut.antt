-- The first 81 bytes of a line are enough.
use Rattle.std.proofs.Common.{◌≡◌, ℕ, zero, suc, ◌+◌, ◌<◌, ◌≤◌, leb, List, [], ◌∷◌, ◌++◌, length, take, set, fold, sym, refl, ap, ◌∙◌, ⊎_elim, append-nil, arith, length-append, length-take}
use Rattle.std.proofs.lemmas.List.{take_all, take-append-le, take_more_set}
use Rattle.std.proofs.lemmas.Bool.{leb-true, leb-false, lt-leb, cond-false, cases_Bool}
use Rattle.std.proofs.lemmas.Grind.{common_steps}
use Rattle.script.specs.Grammar.{read}
use Rattle.script.specs.declared.Line.TheVariants.{Bad}
use Rattle.console.specs.Kept.{pushed, LosesNothing}

-- of what is kept, no byte after the cut was needed
cut_again : (n : ℕ) (xs ys : List ℕ) → take n (take n xs ++ ys) ≡ take n (xs ++ ys)
cut_again zero xs ys = refl
cut_again (suc n) [] ys = refl
cut_again (suc n) (x ∷ xs) ys = grind (arith, cut_again n xs ys)

leaves_from : (before whole : List ℕ) → length before ≤ 81 → fold pushed before whole ≡ take 81 (before ++ whole)
leaves_from before [] h = simp append-nil (sym (take_all 81 before h))
leaves_from before (b ∷ bs) h = grind (arith, common_steps, leaves_from (pushed before b) bs, cut_again 81 (before ++ (b ∷ [])) bs, length-take 81 (before ++ (b ∷ [])))

too_long : (line : List ℕ) → 80 < length line → read line ≡ Bad
too_long line h = cond-false _ _ _ (lt-leb (length line) 80 h)

reads_same : (whole : List ℕ) → read (take 81 whole) ≡ read whole
reads_same whole =
    ⊎_elim
    (λ is. let fits : length whole ≤ 81 = omega (arith, leb-true (length whole) 80) in ap read (take_all 81 whole fits))
    (λ is.
    let long : 80 < length whole = leb-false (length whole) 80 is in
    too_long (take 81 whole) (omega (arith, length-take 81 whole)) ∙ sym (too_long whole long))
    (cases_Bool (leb (length whole) 80))

pub loses_nothing : (whole : List ℕ) → LosesNothing whole
loses_nothing whole = record { leaves = leaves_from [] whole (omega arith); reads = reads_same whole }

-- a byte that is pushed where there is room, and one that is let go
pub push_fits : (bytes : List ℕ) (len b : ℕ) → length bytes ≡ 81 → len < 81 → take (len + 1) (set bytes len b) ≡ take 81 (take len bytes ++ (b ∷ []))
push_fits bytes len b whole room = grind (arith, take_more_set bytes len b, take_all 81 (take len bytes ++ (b ∷ [])), length-append (take len bytes) (b ∷ []), length-take len bytes)

pub push_full : (bytes : List ℕ) (len b : ℕ) → length bytes ≡ 81 → 81 ≤ len → take len bytes ≡ take 81 (take len bytes ++ (b ∷ []))
push_full bytes len b whole full = grind (arith, take-append-le 81 (take len bytes) (b ∷ []), take_all 81 (take len bytes), length-take len bytes)
