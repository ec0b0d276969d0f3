-- Sets of cores, a bit for each of 8.
use Rattle.std.specs.Prelude.{ℕ, zero, suc, ◌+◌, ◌/◌, ◌%◌, ◌^◌, Bool, cond, not, ◌&&◌, ◌||◌, ◌==◌}
use Rattle.table.specs.Below.{all_below}
use Rattle.table.specs.declared.rows.CoreSet.{CoreSet}

-- bit k of a number is set
abbrev pub bit : ℕ → ℕ → Bool
bit v k = (v / 2 ^ k) % 2 == 1

-- core k is in the set
abbrev pub has : CoreSet → ℕ → Bool
has s k = bit s.bits k

-- the number whose bits below n are those at which f holds
abbrev pub bits_of : ℕ → (ℕ → Bool) → ℕ
bits_of zero f = 0
bits_of (suc n) f = cond (f n) (2 ^ n) 0 + bits_of n f

-- the set of the cores at which f holds
unfoldable pub set_of : (ℕ → Bool) → CoreSet
set_of f = record { bits = bits_of 8 f }

-- no core
abbrev pub none : CoreSet
none = record { bits = 0 }

-- the set and core k; the set but core k; the set but the other's cores
abbrev pub with : CoreSet → ℕ → CoreSet
with s k = set_of (λ j. (j == k) || has s j)

abbrev pub without : CoreSet → ℕ → CoreSet
without s k = set_of (λ j. not (j == k) && has s j)

abbrev pub less : CoreSet → CoreSet → CoreSet
less s r = set_of (λ j. has s j && not (has r j))

-- every core of the second set is in the first
abbrev pub includes : CoreSet → CoreSet → Bool
includes s r = all_below 8 (λ j. not (has r j) || has s j)
