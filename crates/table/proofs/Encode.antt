-- For every plan whose fields fit there are bytes that describe it: its fields, one after the other, make one long number, and the bytes are the digits of that number.
use Rattle.std.proofs.Common.{◌≡◌, ℕ, zero, suc, ◌+◌, ◌-◌, ◌*◌, ◌/◌, ◌%◌, ◌^◌, ◌<◌, List, [], ◌∷◌, map, length, get_or, sym, refl, ap, ◌∙◌, add-one, arith}
use Rattle.std.specs.List.{range_with_len, flat_map, AllByRecursion}
use Rattle.std.proofs.lemmas.Nat.{shr-shr, shr_high, mod_low, mod-pow-add, field_of}
use Rattle.std.proofs.lemmas.List.FromFn.{length-map-range_with_len, get_or-map-range_with_len}
use Rattle.std.proofs.ByRecursion.{All-from_get_or}
use Rattle.table.specs.Bits.{bit_at, field}
use Rattle.table.specs.Layout.{row_at, core_bit, start_bit, end_bit, claim_bit, inputs_bit}
use Rattle.table.specs.Lawful.{Fits, RowFits, Describes}
use Rattle.table.specs.Rows.{Plan, blank}
use Rattle.table.specs.declared.rows.Row.{Row}

-- byte j of the last m bytes of a number, the most significant first; all m of them
abbrev byte : ℕ → ℕ → ℕ → ℕ
byte m n j = n / 2 ^ (8 * m - 8 * suc j) % 2 ^ 8

abbrev bytes_of : ℕ → ℕ → List ℕ
bytes_of m n = map (byte m n) (range_with_len 0 m)

-- a byte, a bit and a field of the bytes are those of the number that k bits follow
byte_is : (m n j k : ℕ) → 8 * suc j + k ≡ 8 * m → get_or (bytes_of m n) j 0 ≡ n / 2 ^ k % 2 ^ 8
byte_is m n j k e = get_or-map-range_with_len (byte m n) 0 m j j 0 (omega arith) (omega arith) ∙ ap (λ y. n / 2 ^ y % 2 ^ 8) (omega arith)

bit_of_byte : (x q s : ℕ) → (q + 1) + s ≡ 8 → x % 2 ^ 8 / 2 ^ s % 2 ≡ x / 2 ^ s % 2
bit_of_byte x q s e = omega (arith, rw e at (field_of x (q + 1) s), mod-pow-add (x / 2 ^ s) q 1)

bit_is : (m n i k : ℕ) → suc i + k ≡ 8 * m → bit_at (bytes_of m n) i ≡ n / 2 ^ k % 2
bit_is m n i k e =
    let s : ℕ = 7 - i % 8 in
    ap (λ b. b / 2 ^ s % 2) (byte_is m n (i / 8) (k - s) (omega arith)) ∙
    (bit_of_byte (n / 2 ^ (k - s)) (i % 8) s (omega arith) ∙
    ap (λ x. x % 2) (shr-shr n (k - s) s ∙ ap (λ y. n / 2 ^ y) (omega arith)))

field_is : (m n i w k : ℕ) → i + w + k ≡ 8 * m → field (bytes_of m n) i w ≡ n / 2 ^ k % 2 ^ w
unfolding field
field_is m n i zero k e = omega arith
field_is m n i (suc w) k e =
    let front = field_is m n i w (k + 1) (omega arith) in
    let last = bit_is m n (i + w) k (omega arith) in
    omega (arith, rw (shr-shr n k 1, add-one w) at (mod-pow-add (n / 2 ^ k) w 1))

-- a field to write: its width and its value, which is small if it is within the width
abbrev Field : Type 0
Field = ℕ × ℕ

abbrev Small : Field → Type 0
Small f = f.1 < 2 ^ f.0

-- how many bits the fields take, and the number that they make behind the number a
abbrev size : List Field → ℕ
size [] = 0
size ((w, x) ∷ fs) = size fs + w

abbrev number : ℕ → List Field → ℕ
number a [] = a
number a ((w, x) ∷ fs) = number (a * 2 ^ w + x) fs

-- what stands before the fields is left when they are shifted out
before : (fs : List Field) (a : ℕ) → AllByRecursion Small fs → number a fs / 2 ^ size fs ≡ a
before [] a h = omega arith
before ((w, x) ∷ fs) a (l, h) = sym (shr-shr _ (size fs) w) ∙ (ap (λ y. y / 2 ^ w) (before fs (a * 2 ^ w + x) h) ∙ shr_high a w x l)

-- from bit i on, the bytes hold these fields; so do the bytes of the number that the fields make
abbrev Holds : List ℕ → ℕ → List Field → Type 0
Holds bytes i [] = Unit {0}
Holds bytes i ((w, x) ∷ fs) = ((j : ℕ) → j ≡ i → x ≡ field bytes j w) × Holds bytes (i + w) fs

holds : (m a i : ℕ) (fs : List Field) → AllByRecursion Small fs → i + size fs ≡ 8 * m → Holds (bytes_of m (number a fs)) i fs
holds m a i [] h e = tt
holds m a i ((w, x) ∷ fs) (l, h) e =
    let b : ℕ = a * 2 ^ w + x in (
      (λ j q. sym (field_is m (number b fs) j w (size fs) (omega arith) ∙ (ap (λ y. y % 2 ^ w) (before fs b h) ∙ mod_low a w x l))),
      holds m b (i + w) fs h (omega arith),
    )

-- the fields of a row and of a plan
abbrev row_fields : Row → List Field
row_fields r = (3, r.core) ∷ (28, r.start) ∷ (28, r.end) ∷ (21, r.claim) ∷ (8, r.inputs.bits) ∷ []

abbrev fields : Plan → List Field
fields p = (8, 87) ∷ (3, p.cores - 1) ∷ (9, length p.rows) ∷ (28, p.ticks) ∷ flat_map row_fields p.rows

-- the fields of rows: 88 bits for each row, all of them small if the rows fit
rows_size : (rows : List Row) → size (flat_map row_fields rows) ≡ 88 * length rows
rows_size [] = refl
rows_size (r ∷ rs) = omega (arith, rows_size rs)

rows_small : (rows : List Row) → ((t : ℕ) → t < length rows → RowFits (get_or rows t blank)) → AllByRecursion Small (flat_map row_fields rows)
rows_small [] each = tt
rows_small (r ∷ rs) each =
    let f = each 0 (omega arith) in
    (f.core, (f.start, (f.end, (f.claim, (f.inputs, rows_small rs (λ t h. each (suc t) (omega arith)))))))

-- where the bytes hold the fields of rows, each row is found at its place
rows_held : (bytes : List ℕ) (rows : List Row) (i : ℕ) → Holds bytes i (flat_map row_fields rows) → (t u : ℕ) → t < length rows → core_bit u ≡ i + 88 * t → get_or rows t blank ≡ row_at bytes u
rows_held bytes [] i hs t u h q = absurd (omega arith)
rows_held bytes (r ∷ rs) i (c, (s, (e, (n, (b, hs))))) zero u h q =
    rw (← c (core_bit u) (omega arith), ← s (start_bit u) (omega arith), ← e (end_bit u) (omega arith), ← n (claim_bit u) (omega arith), ← b (inputs_bit u) (omega arith))
rows_held bytes (r ∷ rs) i (c, (s, (e, (n, (b, hs))))) (suc t) u h q = rows_held bytes rs (i + 3 + 28 + 28 + 21 + 8) hs t u (omega arith) (omega arith)

-- a plan whose fields fit has bytes that describe it
pub encodes : (p : Plan) → Fits p → (bytes : List ℕ) × AllByRecursion (λ b. b < 256) bytes × Describes bytes p
encodes p f = (
  bytes,
  below_256,
  record {
    mark = byte_is m n 0 (8 * m - 8) (omega arith) ∙ sym (held.0 0 refl ∙ field_is m n 0 8 (8 * m - 8) (omega arith));
    size = length_bytes;
    some_task = f.some_task;
    few_tasks = f.few_tasks;
    cores = omega (arith, held.1.0 8 refl);
    tasks = held.1.1.0 11 refl;
    ticks = held.1.1.1.0 20 refl;
    each = λ t h. rows_held bytes p.rows 48 held.1.1.1.1 t t h refl;
  },
)
  where
    m : ℕ
    m = 6 + 11 * length p.rows

    n : ℕ
    n = number 0 (fields p)

    bytes : List ℕ
    bytes = bytes_of m n

    length_bytes : length bytes ≡ m
    length_bytes = length-map-range_with_len (byte m n) 0 m

    below_256 : AllByRecursion (λ b. b < 256) bytes
    below_256 = All-from_get_or (λ b. b < 256) bytes 0 (λ j h. omega (arith, byte_is m n j (8 * m - 8 * suc j) (omega (arith, length_bytes))))

    held : Holds bytes 0 (fields p)
    held = holds m 0 0 (fields p) (omega arith, (omega arith, (omega arith, (f.ticks, rows_small p.rows f.each)))) (omega (arith, rows_size p.rows))
