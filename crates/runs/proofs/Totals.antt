-- Totals over the numbers below a bound.
use Rattle.std.proofs.Common.{◌≡◌, ℕ, zero, suc, ◌+◌, ◌<◌, ◌≤◌, Bool, true, false, cond, sym, refl, ap, ◌∙◌, subst, ⊎_elim, arith}
use Rattle.std.proofs.lemmas.Bool.{cases_lt, cases_eq, cond_both}
use Rattle.runs.specs.Sums.{total}

-- what k adds to the total
abbrev pub part : (ℕ → Bool) → (ℕ → ℕ) → ℕ → ℕ
part f g k = cond (f k) (g k) 0

-- a total is its last part and the rest
total_suc : (n : ℕ) (f : ℕ → Bool) (g : ℕ → ℕ) → total (suc n) f g ≡ part f g n + total n f g
total_suc n f g = go (f n)
  where
    go : (b : Bool) → cond b (g n + total n f g) (total n f g) ≡ cond b (g n) 0 + total n f g
    go true = refl
    go false = omega arith

-- tests that agree give the same total
pub total_same : (n : ℕ) (f f' : ℕ → Bool) (g : ℕ → ℕ) → ((j : ℕ) → f j ≡ f' j) → total n f g ≡ total n f' g
total_same zero f f' g h = refl
total_same (suc n) f f' g h = ap (λ b. cond b (g n + total n f g) (total n f g)) (h n) ∙ ap (λ x. cond (f' n) (g n + x) x) (total_same n f f' g h)

-- a total of nothing is nothing
pub total_none : (n : ℕ) (f : ℕ → Bool) → total n f (λ _. 0) ≡ 0
total_none zero f = refl
total_none (suc n) f = let ih = total_none n f in cond_both (f n) (0 + total n f (λ _. 0)) (total n f (λ _. 0)) (λ x. x ≡ 0) (λ _. omega arith) (λ _. ih)

module _ (f f' : ℕ → Bool) (g g' : ℕ → ℕ) where
  -- where no part is more, the total is not
  pub total_le : (n : ℕ) → ((j : ℕ) → j < n → part f g j ≤ part f' g' j) → total n f g ≤ total n f' g'
  total_le zero h = omega arith
  total_le (suc n) h = omega (arith, total_suc n f g, total_suc n f' g', h n (omega arith), total_le n (λ j l. h j (omega arith)))

  -- one part alone may be more, by x
  pub total_more : (n k x : ℕ) → ((j : ℕ) → j < n → (j ≡ k → ⊥) → part f g j ≤ part f' g' j) → part f g k ≤ part f' g' k + x → total n f g ≤ total n f' g' + x
  total_more zero k x h m = omega arith
  total_more (suc n) k x h m = ⊎_elim
      (λ e. omega (arith, total_suc n f g, total_suc n f' g', subst (λ i. part f g i ≤ part f' g' i + x) (sym e) m, total_le n (λ j l. h j (omega arith) (λ d. omega arith))))
      (λ e. omega (arith, total_suc n f g, total_suc n f' g', h n (omega arith) e, total_more n k x (λ j l. h j (omega arith)) m))
      (cases_eq n k)

  -- one part is less
  pub total_less : (n k : ℕ) → k < n → ((j : ℕ) → j < n → part f g j ≤ part f' g' j) → part f g k < part f' g' k → total n f g < total n f' g'
  total_less zero k l h m = absurd (omega arith)
  total_less (suc n) k l h m = ⊎_elim
      (λ e. omega (arith, total_suc n f g, total_suc n f' g', h n (omega arith), total_less n k e (λ j d. h j (omega arith)) m))
      (λ e.
      let d : k ≡ n = omega arith in
      omega (arith, total_suc n f g, total_suc n f' g', subst (λ i. part f g i < part f' g' i) d m, total_le n (λ j d. h j (omega arith))))
      (cases_lt k n)
