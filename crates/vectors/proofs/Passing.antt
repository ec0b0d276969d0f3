-- What a loop over the core numbers has done once it has passed those below n.
use Rattle.std.proofs.Common.{◌≡◌, ℕ, zero, suc, ◌<◌, ◌≤◌, cond, ◌&&◌, eqb, ltb, ◌⊎◌, sym, refl, ap, ◌∙◌, inl, inr, ⊎_elim, arith}
use Rattle.std.proofs.lemmas.Bool.{lt-ltb, eq-eqb, ne_eqb, cases_eq, cases_lt}
use Rattle.std.proofs.lemmas.Bool.Decides.{nat_tests}

-- what the cores see of core c, which the loop is about, is new once it has passed them; of others it is old
module _ {X : Type 0} (c : ℕ) (new : X) (old : ℕ → X) where
  pub passed : ℕ → ℕ → ℕ → X
  passed n d j = cond (eqb d c && ltb j n) new (old d)

  pub passed_before : (n : ℕ) → passed n c n ≡ old c
  unfolding passed
  passed_before n = grind (arith, nat_tests)

  pub passed_after : (n : ℕ) → passed (suc n) c n ≡ new
  unfolding passed
  passed_after n = grind (arith, nat_tests)

  pub passed_else : (n d j : ℕ) → (d ≡ c → j ≡ n → ⊥) → passed (suc n) d j ≡ passed n d j
  unfolding passed
  passed_else n d j ne = grind (arith, nat_tests)

  pub passed_none : (d j : ℕ) → passed 0 d j ≡ old d
  unfolding passed
  passed_none d j = grind (arith, nat_tests)

  -- once all cores are passed, what is new of core c and as before of the others is what is seen
  pub passed_all : (now : ℕ → X) → now c ≡ new → ((d : ℕ) → (d ≡ c → ⊥) → now d ≡ old d) → (m d j : ℕ) → j < m → passed m d j ≡ now d
  unfolding passed
  passed_all now here there m d j h = go (cases_eq d c)
    where
      go : ((d ≡ c) ⊎ (d ≡ c → ⊥)) → passed m d j ≡ now d
      go (inl e) = rw (e, lt-ltb j m h, eq-eqb c c refl) (sym here)
      go (inr n) = rw (ne_eqb d c n) (sym (there d n))

-- steps from m on that change nothing may be left out
pub fewer : {A : Type 0} (F : ℕ → A) (m n : ℕ) → m ≤ n → ((j : ℕ) → m ≤ j → j < n → F (suc j) ≡ F j) → F n ≡ F m
fewer F m zero l h = let e : zero ≡ m = omega arith in ap F e
fewer F m (suc n) l h = ⊎_elim
    (λ q. h n (omega arith) (omega arith) ∙ fewer F m n (omega arith) (λ j a b. h j a (omega arith)))
    (λ q. let e : suc n ≡ m = omega arith in ap F e)
    (cases_lt m (suc n))
