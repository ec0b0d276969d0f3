-- Sums and smallest values over the numbers below a bound.
use Rattle.std.specs.Prelude.{ℕ, zero, suc, ◌+◌, min, Bool, cond, Some, None, Option}

-- the smaller of a number, if there is one, and another
abbrev pub lower : Option ℕ → ℕ → Option ℕ
lower None x = Some x
lower (Some m) x = Some (min m x)

-- the smallest value of g among the numbers below n at which f holds
abbrev pub lowest : ℕ → (ℕ → Bool) → (ℕ → ℕ) → Option ℕ
lowest zero f g = None
lowest (suc n) f g = cond (f n) (lower (lowest n f g) (g n)) (lowest n f g)

-- the sum of g over the numbers below n at which f holds
abbrev pub total : ℕ → (ℕ → Bool) → (ℕ → ℕ) → ℕ
total zero f g = 0
total (suc n) f g = cond (f n) (g n + total n f g) (total n f g)
