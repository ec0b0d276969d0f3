-- The masks of the code are the set operations.
use Rattle.std.proofs.Common.{◌≡◌, ℕ, zero, suc, ◌-◌, ◌*◌, ◌/◌, ◌%◌, ◌^◌, ◌<◌, ◌≤◌, Bool, true, not, ◌&&◌, ◌||◌, eqb, min, max, ◌⊎◌, sym, inl, inr, ap, ◌∙◌, ⊎_elim, arith}
use lib.Bits.{bit_and, bit_or, and_le_r, and_le_l, or_lt}
use Rattle.std.proofs.lemmas.Bool.{cases_Bool, cases_eq, eq-eqb, ne_eqb, both_ways}
use Rattle.std.proofs.lemmas.Bool.Decides.{nat_tests}
use Rattle.std.proofs.lemmas.Nat.Bits.{bit_at-lt, bit_at_and, bit_at_or, bit_at-pow_same, bit_at-pow_other, same_from_bits_below}
use Rattle.std.proofs.Math.Bool.{or_comm, and_comm}
use Rattle.std.proofs.Math.Pow.{pow-lt}
use Rattle.std.specs.Int.{bit_at}
use Rattle.std.proofs.lemmas.Nat.{pow_pos}
use Rattle.table.specs.Below.{any_below}
use Rattle.table.specs.Sets.{bit, has, bits_of, set_of, with, without, less, includes}
use Rattle.table.specs.declared.rows.CoreSet.{CoreSet}
use Rattle.table.proofs.Below.{all_at, all_from, any_at, any_none}
use Rattle.table.proofs.Sets.{bit_suc, bit_zero, bit_past, bits_below, set_at}

-- a bit of a conjunction, of a disjunction, of a complement
both : (a b : ℕ) → a < 2 → b < 2 → eqb (min a b) 1 ≡ (eqb a 1 && eqb b 1)
both a b l m = grind (arith, nat_tests)

pub bit_of_and : (x y k : ℕ) → bit (bit_and x y) k ≡ (bit x k && bit y k)
bit_of_and x y k = ap (λ z. eqb z 1) (bit_at_and x y k) ∙ both (bit_at x k) (bit_at y k) (bit_at-lt x k) (bit_at-lt y k)

either : (a b : ℕ) → a < 2 → b < 2 → eqb (max a b) 1 ≡ (eqb a 1 || eqb b 1)
either a b l m = grind (arith, nat_tests)

pub bit_of_or : (x y k : ℕ) → bit (bit_or x y) k ≡ (bit x k || bit y k)
bit_of_or x y k = ap (λ z. eqb z 1) (bit_at_or x y k) ∙ either (bit_at x k) (bit_at y k) (bit_at-lt x k) (bit_at-lt y k)

pub bit_not : (w v k : ℕ) → v < 2 ^ w → k < w → bit (2 ^ w - 1 - v) k ≡ not (bit v k)
bit_not zero v k l h = absurd (omega arith)
bit_not (suc w) v zero l h = bit_zero (2 ^ suc w - 1 - v) ∙ (low (cases_eq (v % 2) 0) ∙ ap not (sym (bit_zero v)))
  where
    low : ((v % 2 ≡ 0) ⊎ (v % 2 ≡ 0 → ⊥)) → eqb ((2 ^ suc w - 1 - v) % 2) 1 ≡ not (eqb (v % 2) 1)
    low (inl e) = eq-eqb ((2 ^ suc w - 1 - v) % 2) 1 (omega (arith, pow_pos w)) ∙ sym (ap (λ z. not (eqb z 1)) e)
    low (inr e) = let odd : v % 2 ≡ 1 = omega arith in ne_eqb ((2 ^ suc w - 1 - v) % 2) 1 (λ q. omega (arith, pow_pos w)) ∙ sym (ap (λ z. not (eqb z 1)) odd)
bit_not (suc w) v (suc k) l h =
    let half : (2 ^ suc w - 1 - v) / 2 ≡ 2 ^ w - 1 - v / 2 = omega (arith, pow_pos w) in
    bit_suc (2 ^ suc w - 1 - v) k ∙ (ap (λ z. bit z k) half ∙ (bit_not w (v / 2) k (omega arith) (omega arith) ∙ ap not (sym (bit_suc v k))))

-- numbers with the same bits are one
same_digit : (a b : ℕ) → a < 2 → b < 2 → eqb a 1 ≡ eqb b 1 → a ≡ b
same_digit a b l m h = grind (arith, nat_tests)

pub same_bits : (n a b : ℕ) → a < 2 ^ n → b < 2 ^ n → ((j : ℕ) → j < n → bit a j ≡ bit b j) → a ≡ b
same_bits n a b l m h = same_from_bits_below n a b l m (λ j q. same_digit (bit_at a j) (bit_at b j) (bit_at-lt a j) (bit_at-lt b j) (h j q))

-- a byte whose bits are a test's is the set of that test
pub set_is : (s : CoreSet) (f : ℕ → Bool) → s.bits < 2 ^ 8 → ((j : ℕ) → j < 8 → has s j ≡ f j) → s ≡ set_of f
unfolding set_of
set_is s f l h = ap (λ b. record { bits = b }) (same_bits 8 s.bits (bits_of 8 f) l (bits_below 8 f) (λ j m. h j m ∙ sym (set_at f j m)))

-- the bits of a power of two, and of the byte of one bit
pub bit_power : (k j : ℕ) → bit (2 ^ k) j ≡ eqb j k
bit_power k j = ⊎_elim
    (λ e. ap (bit (2 ^ k)) e ∙ (ap (λ z. eqb z 1) (bit_at-pow_same k) ∙ sym (eq-eqb j k e)))
    (λ e. ap (λ z. eqb z 1) (bit_at-pow_other k j e) ∙ sym (ne_eqb j k e))
    (cases_eq j k)

one_bit : (k : ℕ) → k < 8 → (j : ℕ) → bit ((1 * 2 ^ k) % 256) j ≡ eqb j k
one_bit k h j =
    let whole : (1 * 2 ^ k) % 256 ≡ 2 ^ k = omega (arith, pow-lt {i = k} {j = 8} h) in
    ap (λ v. bit v j) whole ∙ bit_power k j

-- what the methods of a set of cores make of its byte
module _ (s : CoreSet) (l : s.bits < 2 ^ 8) where
  pub with_mask : (k : ℕ) → k < 8 → record { bits = bit_or s.bits ((1 * 2 ^ k) % 256) } ≡ with s k
  with_mask k h =
      set_is (record { bits = bit_or s.bits ((1 * 2 ^ k) % 256) }) (λ j. eqb j k || has s j) (or_lt 8 s.bits ((1 * 2 ^ k) % 256) l (omega arith))
      (λ j m. bit_of_or s.bits ((1 * 2 ^ k) % 256) j ∙ (ap (λ b. has s j || b) (one_bit k h j) ∙ or_comm (has s j) (eqb j k)))

  pub with_far : (k : ℕ) → 8 ≤ k → s ≡ with s k
  with_far k h = set_is s (λ j. eqb j k || has s j) l (λ j m. sym (ap (λ b. b || has s j) (ne_eqb j k (λ e. omega arith))))

  pub without_mask : (k : ℕ) → k < 8 → record { bits = bit_and s.bits (255 - (1 * 2 ^ k) % 256) } ≡ without s k
  without_mask k h =
      set_is (record { bits = bit_and s.bits (255 - (1 * 2 ^ k) % 256) }) (λ j. not (eqb j k) && has s j) (omega (arith, l, and_le_l s.bits (255 - (1 * 2 ^ k) % 256)))
      (λ j m. bit_of_and s.bits (255 - (1 * 2 ^ k) % 256) j ∙ (ap (λ b. has s j && b) (bit_not 8 ((1 * 2 ^ k) % 256) j (omega arith) m ∙ ap not (one_bit k h j)) ∙ and_comm (has s j) (not (eqb j k))))

  pub without_far : (k : ℕ) → 8 ≤ k → s ≡ without s k
  without_far k h = set_is s (λ j. not (eqb j k) && has s j) l (λ j m. sym (ap (λ b. not b && has s j) (ne_eqb j k (λ e. omega arith))))

  pub less_mask : (r : CoreSet) → r.bits < 2 ^ 8 → record { bits = bit_and s.bits (255 - r.bits) } ≡ less s r
  less_mask r m =
      set_is (record { bits = bit_and s.bits (255 - r.bits) }) (λ j. has s j && not (has r j)) (omega (arith, l, and_le_l s.bits (255 - r.bits)))
      (λ j h. bit_of_and s.bits (255 - r.bits) j ∙ ap (λ b. has s j && b) (bit_not 8 r.bits j m h))

  -- the second set is in the first exactly when masking with the first leaves it as it is
  pub includes_mask : (r : CoreSet) → r.bits < 2 ^ 8 → eqb (bit_and s.bits r.bits) r.bits ≡ includes s r
  includes_mask r m = ⊎_elim
      (λ y. eq-eqb _ _ (same_bits 8 (bit_and s.bits r.bits) r.bits (omega (arith, m, and_le_r s.bits r.bits)) m
      (λ j h. bit_of_and s.bits r.bits j ∙ kept (has s j) (has r j) (all_at 8 (λ i. not (has r i) || has s i) y j h))) ∙ sym y)
      (λ n. ne_eqb _ _ (λ e. both_ways (includes s r) n (all_from 8 (λ i. not (has r i) || has s i) (λ j h. held (has s j) (has r j) (sym (bit_of_and s.bits r.bits j) ∙ ap (λ z. bit z j) e)))) ∙ sym n)
      (cases_Bool (includes s r))
    where
      kept : (a b : Bool) → (not b || a) ≡ true → (a && b) ≡ b
      kept a b q = grind arith

      held : (a b : Bool) → (a && b) ≡ b → (not b || a) ≡ true
      held a b q = grind arith

  -- a byte is 0 exactly when no core is in the set
  pub empty_mask : eqb s.bits 0 ≡ not (any_below 8 (has s))
  empty_mask = ⊎_elim
      (λ y. ne_eqb s.bits 0 (λ z. both_ways (any_below 8 (has s)) (any_none 8 (has s) (λ j h. ap (λ b. bit b j) z ∙ bit_past 0 0 j (omega arith) (omega arith))) y) ∙ sym (ap not y))
      (λ n. eq-eqb s.bits 0 (same_bits 8 s.bits 0 l (omega arith) (λ j h. any_at 8 (has s) n j h ∙ sym (bit_past 0 0 j (omega arith) (omega arith)))) ∙ sym (ap not n))
      (cases_Bool (any_below 8 (has s)))
