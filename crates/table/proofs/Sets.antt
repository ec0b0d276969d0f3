-- The members of a set of cores that is given by a test, and of sets with a core more, with a core less, and less another set.
use Rattle.std.proofs.Common.{◌≡◌, ℕ, zero, suc, ◌+◌, ◌-◌, ◌*◌, ◌/◌, ◌%◌, ◌^◌, ◌<◌, ◌≤◌, Bool, true, false, cond, not, ◌&&◌, ◌||◌, eqb, sym, refl, ap, ◌∙◌, ⊎_elim, arith}
use Rattle.std.proofs.lemmas.Bool.{cases_Bool, cases_lt, eqb-false, eq-eqb, ne_eqb, cond-true, cond-false}
use Rattle.std.proofs.lemmas.Nat.Bits.{bit_at-suc, bit_at_lowest, bit_at_above, bit_at_cat_low, bit_at_cat_high}
use Rattle.std.proofs.lemmas.Bool.Decides.{nat_tests}
use Rattle.table.specs.Sets.{bit, has, bits_of, set_of, none, with, without, less}
use Rattle.table.specs.declared.rows.CoreSet.{CoreSet}

-- bit k + 1 of a number is bit k of its half
pub bit_suc : (v k : ℕ) → bit v (suc k) ≡ bit (v / 2) k
bit_suc v k = ap (λ x. eqb x 1) (bit_at-suc v k)

pub bit_zero : (v : ℕ) → bit v 0 ≡ eqb (v % 2) 1
bit_zero v = ap (λ x. eqb x 1) (bit_at_lowest v)

-- a number has no bit past its size
pub bit_past : (v n k : ℕ) → v < 2 ^ n → n ≤ k → bit v k ≡ false
bit_past v n k l m = ap (λ x. eqb x 1) (bit_at_above v n k l m)

-- a power of two added sets its bit, and no other
pub plus_same : (k v : ℕ) → bit v k ≡ false → bit (2 ^ k + v) k ≡ true
plus_same zero v h = let e = eqb-false (v % 2) 1 (sym (bit_zero v) ∙ h) in bit_zero (1 + v) ∙ eq-eqb ((1 + v) % 2) 1 (omega arith)
plus_same (suc k) v h =
    let half : (2 ^ suc k + v) / 2 ≡ 2 ^ k + v / 2 = omega arith in
    bit_suc (2 ^ suc k + v) k ∙ (ap (λ x. bit x k) half ∙ plus_same k (v / 2) (sym (bit_suc v k) ∙ h))

pub plus_other : (k j v : ℕ) → bit v k ≡ false → (j ≡ k → ⊥) → bit (2 ^ k + v) j ≡ bit v j
plus_other zero zero v h n = absurd (n refl)
plus_other zero (suc j) v h n =
    let e = eqb-false (v % 2) 1 (sym (bit_zero v) ∙ h) in
    let half : (1 + v) / 2 ≡ v / 2 = omega arith in
    bit_suc (1 + v) j ∙ (ap (λ x. bit x j) half ∙ sym (bit_suc v j))
plus_other (suc k) zero v h n =
    let odd : (2 ^ suc k + v) % 2 ≡ v % 2 = omega arith in
    bit_zero (2 ^ suc k + v) ∙ (ap (λ x. eqb x 1) odd ∙ sym (bit_zero v))
plus_other (suc k) (suc j) v h n =
    let half : (2 ^ suc k + v) / 2 ≡ 2 ^ k + v / 2 = omega arith in
    bit_suc (2 ^ suc k + v) j ∙ (ap (λ x. bit x j) half ∙ (plus_other k j (v / 2) (sym (bit_suc v k) ∙ h) (λ e. n (ap suc e)) ∙ sym (bit_suc v j)))

-- the number of a test is within its bits, and has those at which the test holds
pub bits_below : (n : ℕ) (f : ℕ → Bool) → bits_of n f < 2 ^ n
bits_below zero f = omega arith
bits_below (suc n) f = ⊎_elim
    (λ e. omega (arith, bits_below n f, cond-true (f n) (2 ^ n) 0 e))
    (λ e. omega (arith, bits_below n f, cond-false (f n) (2 ^ n) 0 e))
    (cases_Bool (f n))

digit : (b : Bool) (n : ℕ) → cond b (2 ^ n) 0 ≡ cond b 1 0 * 2 ^ n
digit true n = omega arith
digit false n = omega arith

digit_bit : (b : Bool) (i : ℕ) → i ≡ 0 → bit (cond b 1 0) i ≡ b
digit_bit true i e = ap (bit 1) e
digit_bit false i e = ap (bit 0) e

pub bits_at : (n : ℕ) (f : ℕ → Bool) (j : ℕ) → j < n → bit (bits_of n f) j ≡ f j
bits_at zero f j l = absurd (omega arith)
bits_at (suc n) f j l =
    let top : ℕ = cond (f n) 1 0 in
    ap (λ x. bit (x + bits_of n f) j) (digit (f n) n) ∙ ⊎_elim
    (λ q. ap (λ x. eqb x 1) (bit_at_cat_low top n (bits_of n f) j q) ∙ bits_at n f j q)
    (λ q. let e : n ≡ j = omega arith in ap (λ x. eqb x 1) (bit_at_cat_high top n (bits_of n f) j (bits_below n f) q) ∙ (digit_bit (f n) (j - n) (omega arith) ∙ ap f e))
    (cases_lt j n)

-- the members of a set that is given by a test
pub set_at : (f : ℕ → Bool) (j : ℕ) → j < 8 → has (set_of f) j ≡ f j
unfolding set_of
set_at f j l = bits_at 8 f j l

pub set_past : (f : ℕ → Bool) (j : ℕ) → 8 ≤ j → has (set_of f) j ≡ false
unfolding set_of
set_past f j l = bit_past (bits_of 8 f) 8 j (bits_below 8 f) l

pub has_none : (k : ℕ) → has none k ≡ false
has_none k = grind (arith, nat_tests)

-- a core that is past 8 is in no set
pub has_past : (s : CoreSet) (k : ℕ) → s.bits < 2 ^ 8 → 8 ≤ k → has s k ≡ false
has_past s k l h = bit_past s.bits 8 k l h

-- a core more, a core less, a set less
pub with_same : (s : CoreSet) (k : ℕ) → k < 8 → has (with s k) k ≡ true
with_same s k l = set_at (λ j. eqb j k || has s j) k l ∙ ap (λ b. b || has s k) (eq-eqb k k refl)

pub with_other : (s : CoreSet) (k j : ℕ) → j < 8 → (j ≡ k → ⊥) → has (with s k) j ≡ has s j
with_other s k j l n = set_at (λ i. eqb i k || has s i) j l ∙ ap (λ b. b || has s j) (ne_eqb j k n)

pub without_same : (s : CoreSet) (k : ℕ) → k < 8 → has (without s k) k ≡ false
without_same s k l = set_at (λ j. not (eqb j k) && has s j) k l ∙ ap (λ b. not b && has s k) (eq-eqb k k refl)

pub without_other : (s : CoreSet) (k j : ℕ) → j < 8 → (j ≡ k → ⊥) → has (without s k) j ≡ has s j
without_other s k j l n = set_at (λ i. not (eqb i k) && has s i) j l ∙ ap (λ b. not b && has s j) (ne_eqb j k n)

pub less_at : (s r : CoreSet) (j : ℕ) → j < 8 → has (less s r) j ≡ (has s j && not (has r j))
less_at s r j l = set_at (λ i. has s i && not (has r i)) j l
