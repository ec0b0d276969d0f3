-- The array that `array::from_fn` makes with a closure that computes a function of the index.
use Rattle.std.proofs.Common.{◌≡◌, ℕ, zero, suc, ◌+◌, ◌<◌, ◌≤◌, List, map, get_or, sym, ap, ◌∙◌, subst, ⊎_elim, arith}
use Rattle.std.proofs.lemmas.Bool.{cases_eq}
use Rattle.std.proofs.lemmas.List.FromFn.{fill_by_all}
use Rattle.std.specs.Array.{IsFromFnResult, IsFromFnResultFrom}
use Rattle.std.specs.Fn.{Called}
use Rattle.std.specs.List.{range_with_len}
use denote.Param.Members.{Mut}

module _ {F X : Type 0} (g : Mut F (ℕ × Unit {0}) X) (f : F) (h : ℕ → X) (d : X) (same : (i : ℕ) (x : X) (q : F) → Called g f (i, tt) x q → (x ≡ h i) × (q ≡ f)) where
  made_from : (xs : List X) (i n : ℕ) → IsFromFnResultFrom g f xs i n → (j : ℕ) → i ≤ j → j < i + n → get_or xs j d ≡ h j
  made_from xs i zero made j l m = absurd (omega arith)
  made_from xs i (suc n) (q, x, at, call, rest) j l m = ⊎_elim
      (λ e. ap (λ k. get_or xs k d) e ∙ (at.1 d ∙ ((same i x q call).0 ∙ ap h (sym e))))
      (λ e. made_from xs (i + 1) n (subst (λ p. IsFromFnResultFrom g p xs (i + 1) n) (same i x q call).1 rest) j (omega (arith, e)) (omega arith))
      (cases_eq j i)

  pub made_at : (xs : List X) (n : ℕ) → IsFromFnResult g f xs n → (j : ℕ) → j < n → get_or xs j d ≡ h j
  made_at xs n made j l = made_from xs 0 n made.each j (omega arith) (omega arith)

-- the whole array is what h gives for the places in turn
pub from_fn_is : {F X : Type 0} {g : Mut F (ℕ × Unit {0}) X} {f : F} {n : ℕ} (h : ℕ → X) (xs : List X) → IsFromFnResult g f xs n →
    ((i : ℕ) (x : X) (q : F) → Called g f (i, tt) x q → (q ≡ f) × (x ≡ h i)) → xs ≡ map h (range_with_len 0 n)
from_fn_is {F} {X} {g} {f} {n} h xs made called =
    fill_by_all h xs n (h 0) made.long (λ j l. made_at g f h (h 0) (λ i x q k. ((called i x q k).1, (called i x q k).0)) xs n made j l)
