-- Tests over all numbers below a bound.
use Rattle.std.proofs.Common.{◌≡◌, ℕ, zero, suc, ◌+◌, ◌-◌, ◌<◌, ◌≤◌, Bool, true, false, cond, ◌&&◌, ◌||◌, Some, None, Option, refl, ap, ◌∙◌, subst, ⊎_elim, arith}
use Rattle.std.proofs.lemmas.Bool.{cases_Bool, cases_lt, and_parts, and_from, or_left, or_right, or_from, both_ways}
use Rattle.table.specs.Below.{all_below, any_below, first_from}

-- a test that holds of all numbers holds of each, and the other way round
pub all_at : (n : ℕ) (f : ℕ → Bool) → all_below n f ≡ true → (j : ℕ) → j < n → f j ≡ true
all_at zero f h j l = absurd (omega arith)
all_at (suc n) f h j l =
    let p = and_parts (f n) (all_below n f) h in
    ⊎_elim (λ q. all_at n f p.1 j q) (λ q. let e : n ≡ j = omega arith in subst (λ i. f i ≡ true) e p.0) (cases_lt j n)

pub all_from : (n : ℕ) (f : ℕ → Bool) → ((j : ℕ) → j < n → f j ≡ true) → all_below n f ≡ true
all_from zero f h = refl
all_from (suc n) f h = and_from (f n) (all_below n f) (h n (omega arith)) (all_from n f (λ j l. h j (omega arith)))

-- tests that agree on each number agree on all
pub all_same : (n : ℕ) (f g : ℕ → Bool) → ((j : ℕ) → j < n → f j ≡ g j) → all_below n f ≡ all_below n g
all_same zero f g h = refl
all_same (suc n) f g h = ap (λ b. b && all_below n f) (h n (omega arith)) ∙ ap (λ b. g n && b) (all_same n f g (λ j l. h j (omega arith)))

-- one number more, and a number at which the test fails
pub all_more : (n : ℕ) (f : ℕ → Bool) → f n ≡ true → all_below n f ≡ true → all_below (n + 1) f ≡ true
all_more n f a b = let e : suc n ≡ n + 1 = omega arith in subst (λ i. all_below i f ≡ true) e (and_from (f n) (all_below n f) a b)

pub all_not : (n : ℕ) (f : ℕ → Bool) (j : ℕ) → j < n → f j ≡ false → all_below n f ≡ false
all_not n f j l h = ⊎_elim (λ e. absurd (both_ways (f j) h (all_at n f e j l))) (λ e. e) (cases_Bool (all_below n f))

-- a number at which the test holds, and one number more at which it fails
pub any_yes : (n : ℕ) (f : ℕ → Bool) (j : ℕ) → j < n → f j ≡ true → any_below n f ≡ true
any_yes zero f j l h = absurd (omega arith)
any_yes (suc n) f j l h = ⊎_elim
    (λ q. or_right (f n) (any_below n f) (any_yes n f j q h))
    (λ q. let e : j ≡ n = omega arith in or_left (f n) (any_below n f) (subst (λ i. f i ≡ true) e h))
    (cases_lt j n)

pub any_more : (n : ℕ) (f : ℕ → Bool) → f n ≡ false → any_below n f ≡ false → any_below (n + 1) f ≡ false
any_more n f a b = let e : suc n ≡ n + 1 = omega arith in subst (λ i. any_below i f ≡ false) e (or_from (f n) (any_below n f) a b)

-- a test that holds of no number holds of none of them, and the other way round
pub any_at : (n : ℕ) (f : ℕ → Bool) → any_below n f ≡ false → (j : ℕ) → j < n → f j ≡ false
any_at n f h j l = ⊎_elim (λ y. absurd (both_ways (any_below n f) h (any_yes n f j l y))) (λ e. e) (cases_Bool (f j))

pub any_none : (n : ℕ) (f : ℕ → Bool) → ((j : ℕ) → j < n → f j ≡ false) → any_below n f ≡ false
any_none zero f h = refl
any_none (suc n) f h = or_from (f n) (any_below n f) (h n (omega arith)) (any_none n f (λ j l. h j (omega arith)))

-- tests that agree on each number agree on some
pub any_same : (n : ℕ) (f g : ℕ → Bool) → ((j : ℕ) → j < n → f j ≡ g j) → any_below n f ≡ any_below n g
any_same zero f g h = refl
any_same (suc n) f g h = ap (λ b. b || any_below n f) (h n (omega arith)) ∙ ap (λ b. g n || b) (any_same n f g (λ j l. h j (omega arith)))

-- what no number from m on changes is the same below n as below m
pub fewer : {A : Type 0} (F : ℕ → A) (m n : ℕ) → m ≤ n → ((j : ℕ) → m ≤ j → j < n → F (suc j) ≡ F j) → F n ≡ F m
fewer F m zero l h = let e : zero ≡ m = omega arith in ap F e
fewer F m (suc n) l h = ⊎_elim
    (λ q. h n (omega arith) (omega arith) ∙ fewer F m n (omega arith) (λ j a b. h j a (omega arith)))
    (λ q. let e : suc n ≡ m = omega arith in ap F e)
    (cases_lt m (suc n))

-- numbers from m on at which the test holds may be left out of all, and those at which it fails out of any
pub all_fewer : (m n : ℕ) (f : ℕ → Bool) → m ≤ n → ((j : ℕ) → m ≤ j → j < n → f j ≡ true) → all_below n f ≡ all_below m f
all_fewer m n f l h = fewer (λ i. all_below i f) m n l (λ j a b. ap (λ c. c && all_below j f) (h j a b))

pub any_fewer : (m n : ℕ) (f : ℕ → Bool) → m ≤ n → ((j : ℕ) → m ≤ j → j < n → f j ≡ false) → any_below n f ≡ any_below m f
any_fewer m n f l h = fewer (λ i. any_below i f) m n l (λ j a b. ap (λ c. c || any_below j f) (h j a b))

-- the search for the first number at which the test holds, one number on
module _ (f : ℕ → Bool) (i n : ℕ) (o : Option ℕ) (sofar : first_from f i (n - i) ≡ o) where
  first_step : i < n → cond (f i) (Some i) (first_from f (i + 1) (n - (i + 1))) ≡ o
  first_step l =
      let m : suc (n - (i + 1)) ≡ n - i = omega arith in
      let s : i + 1 ≡ suc i = omega arith in
      ap (λ j. cond (f i) (Some i) (first_from f j (n - (i + 1)))) s ∙ (ap (first_from f i) m ∙ sofar)

  pub first_found : i < n → true ≡ f i → Some i ≡ o
  first_found l h = ap (λ b. cond b (Some i) (first_from f (i + 1) (n - (i + 1)))) h ∙ first_step l

  pub first_more : i < n → false ≡ f i → first_from f (i + 1) (n - (i + 1)) ≡ o
  first_more l h = ap (λ b. cond b (Some i) (first_from f (i + 1) (n - (i + 1)))) h ∙ first_step l

  pub first_done : n ≤ i → None ≡ o
  first_done l = let z : 0 ≡ n - i = omega arith in ap (first_from f i) z ∙ sofar
