-- The sums over the cores: as those of lists, in one pass, and with one core more.
use Rattle.std.proofs.Common.{◌≡◌, ℕ, zero, suc, ◌+◌, ◌*◌, ◌-◌, ◌^◌, ◌<◌, min, Bool, true, false, cond, List, [], ◌∷◌, ◌++◌, length, filter, append-nil, Some, None, Option, refl, sym, ap, ◌∙◌, add-one, arith}
use Rattle.std.proofs.lemmas.Bool.{cond-true, cond-false}
use Rattle.std.specs.List.{range_with_len, sum_by, filter_map, cons_option, reduce, fold}
use Rattle.std.proofs.lemmas.List.{map-id, length-append}
use Rattle.std.proofs.lemmas.List.Elements.{filter-append, filter_map-append}
use Rattle.std.proofs.lemmas.List.FromFn.{map-range_with_len_more}
use Rattle.std.proofs.lemmas.List.Sums.{sum_by-append, sum_by-cons, fold-append}
use Rattle.runs.specs.Sums.{lower, lowest, total}

-- the numbers below n + 1 end in n
numbers_more : (n : ℕ) → range_with_len 0 (suc n) ≡ range_with_len 0 n ++ (n ∷ [])
numbers_more n =
    let e = map-range_with_len_more (λ (x : ℕ). x) 0 n n (omega arith) in
    rw (map-id, map-id, add-one) at e

-- the smallest number with one more
reduce_more : (xs : List ℕ) (y : ℕ) → reduce min (xs ++ (y ∷ [])) ≡ lower (reduce min xs) y
reduce_more [] y = refl
reduce_more (x ∷ xs) y = ap (λ m. Some m) (fold-append min x xs (y ∷ []))

sum_or_not : (b : Bool) (g : ℕ → ℕ) (n s : ℕ) → s + sum_by g (cond b (n ∷ []) []) ≡ cond b (g n + s) s
sum_or_not true g n s = omega arith
sum_or_not false g n s = omega arith

count_or_not : (b : Bool) (n s : ℕ) → s + length {A = ℕ} (cond b (n ∷ []) []) ≡ cond b (1 + s) s
count_or_not true n s = omega arith
count_or_not false n s = omega arith

least_or_not : (b : Bool) (x : ℕ) (xs : List ℕ) → reduce min (xs ++ cons_option (cond b (Some x) None) []) ≡ cond b (lower (reduce min xs) x) (reduce min xs)
least_or_not true x xs = reduce_more xs x
least_or_not false x xs = ap (reduce min) (append-nil xs)

module _ (f : ℕ → Bool) where
  pub total_as_count : (n : ℕ) → total n f (λ k. 1) ≡ length (filter f (range_with_len 0 n))
  total_as_count zero = refl
  total_as_count (suc n) =
      let xs = range_with_len 0 n in
      ap (λ s. cond (f n) (1 + s) s) (total_as_count n)
      ∙ (sym (count_or_not (f n) n (length (filter f xs)))
      ∙ (sym (length-append (filter f xs) (filter f (n ∷ [])))
      ∙ (ap length (sym (filter-append f xs (n ∷ []))) ∙ ap (λ ys. length (filter f ys)) (sym (numbers_more n)))))

  module _ (g : ℕ → ℕ) where
    pub total_as_sum : (n : ℕ) → total n f g ≡ sum_by g (filter f (range_with_len 0 n))
    total_as_sum zero = refl
    total_as_sum (suc n) =
        let xs = range_with_len 0 n in
        ap (λ s. cond (f n) (g n + s) s) (total_as_sum n)
        ∙ (sym (sum_or_not (f n) g n (sum_by g (filter f xs)))
        ∙ (sym (sum_by-append g (filter f xs) (filter f (n ∷ [])))
        ∙ (ap (sum_by g) (sym (filter-append f xs (n ∷ []))) ∙ ap (λ ys. sum_by g (filter f ys)) (sym (numbers_more n)))))

    pub lowest_as_least : (n : ℕ) → lowest n f g ≡ reduce min (filter_map (λ k. cond (f k) (Some (g k)) None) (range_with_len 0 n))
    lowest_as_least zero = refl
    lowest_as_least (suc n) =
        let h : ℕ → Option ℕ = λ k. cond (f k) (Some (g k)) None in
        let xs = range_with_len 0 n in
        ap (λ o. cond (f n) (lower o (g n)) o) (lowest_as_least n)
        ∙ (sym (least_or_not (f n) (g n) (filter_map h xs))
        ∙ (ap (reduce min) (sym (filter_map-append h xs (n ∷ []))) ∙ ap (λ ys. reduce min (filter_map h ys)) (sym (numbers_more n))))

-- a sum and a count in one pass, each of which would stay at its type's end
abbrev pub counted : (ℕ → ℕ) → ℕ × ℕ → ℕ → ℕ × ℕ
counted g p k = (min (p.0 + g k) (2 ^ 32 - 1), min (p.1 + 1) (2 ^ 8 - 1))

pub pair_same : (a b x y : ℕ) → a ≡ b → x ≡ y → ◌≡◌ {A = ℕ × ℕ} (a, x) (b, y)
pair_same a b x y e d = ap (λ z. (z, x)) e ∙ ap (λ z. (b, z)) d

-- over a short list neither comes there
module _ (g : ℕ → ℕ) (few : (k : ℕ) → g k < 2097152) where
  pub counted_all : (xs : List ℕ) (s c : ℕ) → s + length xs * 2097151 < 2 ^ 32 → c + length xs < 2 ^ 8 → fold (counted g) (s, c) xs ≡ (s + sum_by g xs, c + length xs)
  counted_all [] s c h k = pair_same s (s + 0) c (c + 0) (omega arith) (omega arith)
  counted_all (x ∷ xs) s c h k =
      ap (λ p. fold (counted g) p xs) (pair_same (min (s + g x) (2 ^ 32 - 1)) (s + g x) (min (c + 1) (2 ^ 8 - 1)) (c + 1) (omega (arith, few x)) (omega arith))
      ∙ (counted_all xs (s + g x) (c + 1) (omega (arith, few x)) (omega arith)
      ∙ pair_same (s + g x + sum_by g xs) (s + sum_by g (x ∷ xs)) (c + 1 + length xs) (c + length (x ∷ xs)) (omega (arith, sum_by-cons g x xs)) (omega arith))

-- one core more in the sums
module _ (n : ℕ) (f : ℕ → Bool) (g : ℕ → ℕ) where
  after : n + 1 ≡ suc n
  after = omega arith

  one_more : total (n + 1) f g ≡ cond (f n) (g n + total n f g) (total n f g)
  one_more = ap (λ m. total m f g) after

  -- a core that counts, and one that does not
  pub total_yes : (s : ℕ) → f n ≡ true → s ≡ total n f g → s + g n ≡ total (n + 1) f g
  total_yes s h e = omega (arith, one_more, cond-true (f n) (g n + total n f g) (total n f g) h)

  pub total_no : (s : ℕ) → f n ≡ false → s ≡ total n f g → s ≡ total (n + 1) f g
  total_no s h e = omega (arith, one_more, cond-false (f n) (g n + total n f g) (total n f g) h)

  -- the smallest value with one core more
  pub lowest_more : (o r : Option ℕ) → o ≡ lowest n f g → r ≡ cond (f n) (lower o (g n)) o → r ≡ lowest (n + 1) f g
  lowest_more o r e d = d ∙ (ap (λ i. cond (f n) (lower i (g n)) i) e ∙ sym (ap (λ m. lowest m f g) after))

-- what an option tells that holds a number where a test holds
pub some_yes : (b : Bool) (x y : ℕ) → Some x ≡ cond b (Some y) None → (b ≡ true) × (x ≡ y)
some_yes true x y e = (refl, cc)
some_yes false x y e = cc

pub none_no : (b : Bool) (y : ℕ) → None ≡ cond b (Some y) None → b ≡ false
none_no true y e = cc
none_no false y e = refl
