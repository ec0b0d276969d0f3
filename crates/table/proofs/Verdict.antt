-- The rows of a plan pass every question exactly when the plan is lawful.
use Rattle.std.proofs.Common.{◌≡◌, ℕ, zero, suc, ◌+◌, ◌^◌, ◌<◌, ◌≤◌, Bool, true, false, cond, not, ltb, leb, List, [], ◌∷◌, ◌++◌, length, get_or, take, Some, None, Option, sym, refl, ap, ◌∙◌, subst, ⊎_elim, arith}
use Rattle.std.proofs.lemmas.List.{get_or-take, length-take-le, take_more}
use Rattle.std.proofs.lemmas.Bool.{cases_Bool, cases_lt, cases_eq, eqb-true, eqb-false, ne_eqb, ltb-true, lt-ltb, leb-true, not-true, not-false, not_from_true, not_from_false, and_parts, and_from, or_cases, or_left, or_right, cond-true, cond-false, both_ways}
use Rattle.std.proofs.lemmas.Bool.Decides.{nat_tests}
use Rattle.table.specs.Below.{all_below}
use Rattle.table.specs.Sets.{has}
use Rattle.table.specs.Rows.{Plan, row, blank, on, ends_by, kept_end, last_end}
use Rattle.table.specs.Questions.{place_fault, some_ends_by, input_ok, input_fault, or_else, first_fault, rows_fault}
use Rattle.table.specs.Lawful.{EndsBy, Writes, Lawful, RowFits}
use Rattle.table.specs.declared.rows.CoreSet.{CoreSet}
use Rattle.table.specs.declared.rows.Row.{Row}
use Rattle.table.specs.declared.faults.Fault.{Fault}
use Rattle.table.proofs.Below.{all_at, all_from}
use Rattle.table.proofs.Sets.{has_past}

-- a question that finds no fault
pub passed : (b : Bool) (f : Fault) (o : Option Fault) → cond b (Some f) o ≡ None → (b ≡ false) × (o ≡ None)
passed b f o h = grind arith

pub neither : (a b : Option Fault) → or_else a b ≡ None → (a ≡ None) × (b ≡ None)
neither a b h = grind arith

pub none_else : (a b : Option Fault) → a ≡ None → or_else a b ≡ b
none_else a b h = grind arith

-- a question that finds no fault finds none at any row, and the other way round
no_fault_at : (ask : ℕ → Option Fault) (t n : ℕ) → first_fault ask t n ≡ None → (i : ℕ) → t ≤ i → i < t + n → ask i ≡ None
no_fault_at ask t zero h i l m = absurd (omega arith)
no_fault_at ask t (suc n) h i l m =
    let both = neither (ask t) (first_fault ask (suc t) n) h in
    ⊎_elim (λ e. subst (λ j. ask j ≡ None) e both.0) (λ e. no_fault_at ask (suc t) n both.1 i (omega (arith, l, e)) (omega arith)) (cases_eq t i)

no_fault : (ask : ℕ → Option Fault) (t n : ℕ) → ((i : ℕ) → t ≤ i → i < t + n → ask i ≡ None) → first_fault ask t n ≡ None
no_fault ask t zero h = refl
no_fault ask t (suc n) h = none_else (ask t) (first_fault ask (suc t) n) (h t (omega arith) (omega arith)) ∙ no_fault ask (suc t) n (λ i l m. h i (omega arith) (omega arith))

-- what questions 4 to 6 ask of row t
record Placed (p : Plan) (t : ℕ) : Type 0 where
  core : (row p t).core < p.cores
  forward : (row p t).start < (row p t).end
  in_frame : (row p t).end ≤ p.ticks
  after : last_end (row p t).core (take t p.rows) ≤ (row p t).start

placed : (p : Plan) (t : ℕ) → place_fault p t ≡ None → Placed p t
placed p t h = record { core = grind (arith, nat_tests); forward = grind (arith, nat_tests); in_frame = grind (arith, nat_tests); after = grind (arith, nat_tests) }

unplaced : (p : Plan) (t : ℕ) → Placed p t → place_fault p t ≡ None
unplaced p t h = grind (arith, nat_tests)

-- what is kept for core k, one row on
pub kept_push : {X : Type 0} (keep : ℕ → X → X) (k : ℕ) (rows : List Row) (x : Row) (sofar : X) → kept_end keep k (rows ++ (x ∷ [])) sofar ≡ cond (on k x) (keep x.end (kept_end keep k rows sofar)) (kept_end keep k rows sofar)
kept_push keep k [] x sofar = refl
kept_push keep k (r ∷ rs) x sofar = kept_push keep k rs x (cond (on k r) (keep r.end sofar) sofar)

-- if no row of core k ends after m, neither does the last
last_bound : (k m : ℕ) (rows : List Row) (sofar : ℕ) → sofar ≤ m → ((a : ℕ) → a < length rows → (get_or rows a blank).core ≡ k → (get_or rows a blank).end ≤ m) → kept_end (λ new old. new) k rows sofar ≤ m
last_bound k m [] sofar l h = l
last_bound k m (r ∷ rs) sofar l h = last_bound k m rs (cond (on k r) r.end sofar) (grind (arith, nat_tests, h 0)) (λ a q. h (suc a) (omega arith))

-- no row of core k before row t ends after the last of them
module _ (p : Plan) (places : (t : ℕ) → t < length p.rows → Placed p t) where
  before_last : (t : ℕ) → t ≤ length p.rows → (k a : ℕ) → a < t → (row p a).core ≡ k → (row p a).end ≤ last_end k (take t p.rows)
  before_last zero m k a l e = absurd (omega arith)
  before_last (suc t) m k a l e =
      let s : t + 1 ≡ suc t = omega arith in
      let is : last_end k (take (suc t) p.rows) ≡ cond (on k (row p t)) (row p t).end (last_end k (take t p.rows)) =
      ap (λ n. last_end k (take n p.rows)) (sym s) ∙ (ap (last_end k) (take_more p.rows t blank (omega arith)) ∙ kept_push (λ new old. new) k (take t p.rows) (row p t) 0) in
      let here = places t (omega arith) in
      step t m k a l e is here (before_last t (omega arith))
    where
      step : (t : ℕ) → suc t ≤ length p.rows → (k a : ℕ) → a < suc t → (row p a).core ≡ k → last_end k (take (suc t) p.rows) ≡ cond (on k (row p t)) (row p t).end (last_end k (take t p.rows)) →
          Placed p t → ((j b : ℕ) → b < t → (row p b).core ≡ j → (row p b).end ≤ last_end j (take t p.rows)) → (row p a).end ≤ last_end k (take (suc t) p.rows)
      step t m k a l e is here ih = ⊎_elim
          (λ y. let last = is ∙ cond-true (on k (row p t)) (row p t).end (last_end k (take t p.rows)) y in
          ⊎_elim
          (λ q. omega (arith, last, here.forward, here.after, ih (row p t).core a q (e ∙ sym (eqb-true _ _ y))))
          (λ q. let same : a ≡ t = omega arith in omega (arith, last, ap (λ i. (row p i).end) same))
          (cases_lt a t))
          (λ n. let last = is ∙ cond-false (on k (row p t)) (row p t).end (last_end k (take t p.rows)) n in
          ⊎_elim
          (λ q. omega (arith, last, ih k a q e))
          (λ q. let same : t ≡ a = omega arith in absurd (eqb-false (row p t).core k n (ap (λ i. (row p i).core) same ∙ e)))
          (cases_lt a t))
          (cases_Bool (on k (row p t)))

-- a member of a set of cores is below 8
pub has_below : (s : CoreSet) (k : ℕ) → s.bits < 2 ^ 8 → has s k ≡ true → k < 8
has_below s k l h = ⊎_elim (λ q. q) (λ q. absurd (both_ways (has s k) (has_past s k l q) h)) (cases_lt k 8)

found_by : (k time : ℕ) (p : Plan) (i : ℕ) (rows : List Row) → ((a : ℕ) → a < length rows → (i + a < length p.rows) × (row p (i + a) ≡ get_or rows a blank)) → some_ends_by k time rows ≡ true → EndsBy p k time
found_by k time p i [] at h = absurd (both_ways false refl h)
found_by k time p i (r ∷ rs) at h = ⊎_elim
    (λ e. let both = and_parts (on k r) (leb r.end time) e in
    let here = at 0 (omega arith) in
    record { task = i + 0; within = here.0; core = ap (λ x. x.core) here.1 ∙ eqb-true _ _ both.0; ended = subst (λ (x : Row). x.end ≤ time) (sym here.1) (leb-true _ _ both.1) })
    (λ e. found_by k time p (suc i) rs (λ a l. let q : i + suc a ≡ suc i + a = omega arith in
    let next = at (suc a) (omega arith) in (omega (arith, next.0), ap (row p) (sym q) ∙ next.1)) e)
    (or_cases (ends_by k time r) (some_ends_by k time rs) h)

found_at : (k time : ℕ) (rows : List Row) (a : ℕ) → a < length rows → (get_or rows a blank).core ≡ k → (get_or rows a blank).end ≤ time → some_ends_by k time rows ≡ true
found_at k time [] a l c e = absurd (omega arith)
found_at k time (r ∷ rs) zero l c e = grind (arith, nat_tests)
found_at k time (r ∷ rs) (suc a) l c e = grind (arith, nat_tests, found_at k time rs a)

writes : (p : Plan) (r : Row) (k : ℕ) → input_ok p r k ≡ true → has r.inputs k ≡ true → Writes p r k
writes p r k h m = ⊎_elim
    (λ e. absurd (both_ways (has r.inputs k) (not-true (has r.inputs k) e) m))
    (λ e. let a = and_parts (not (on k r)) _ e in
    let b = and_parts (ltb k p.cores) _ a.1 in
    record { other = λ q. eqb-false r.core k (not-true _ a.0) (sym q); there = ltb-true _ _ b.0; done = found_by k r.start p 0 p.rows (λ a l. let z : 0 + a ≡ a = omega arith in (omega arith, ap (row p) z)) b.1 })
    (or_cases (not (has r.inputs k)) _ h)

may_write : (p : Plan) (r : Row) (k : ℕ) → (has r.inputs k ≡ true → Writes p r k) → input_ok p r k ≡ true
may_write p r k h = ⊎_elim
    (λ m. let w = h m in or_right (not (has r.inputs k)) _
    (and_from _ _ (not_from_false (on k r) (ne_eqb _ _ (λ q. w.other (sym q)))) (and_from _ _ (lt-ltb _ _ w.there) (found_at k r.start p.rows w.done.task w.done.within w.done.core w.done.ended))))
    (λ m. or_left _ _ (not_from_false (has r.inputs k) m))
    (cases_Bool (has r.inputs k))

pub lawful_from : (p : Plan) → ((t : ℕ) → t < length p.rows → RowFits (row p t)) → rows_fault p ≡ None → Lawful p
lawful_from p fits h =
    let n = length p.rows in
    let both = neither (first_fault (place_fault p) 0 n) (first_fault (input_fault p) 0 n) h in
    let places : (t : ℕ) → t < length p.rows → Placed p t = λ t l. placed p t (no_fault_at (place_fault p) 0 n both.0 t (omega arith) (omega arith)) in
    record {
      on_a_core = λ t l. (places t l).core;
      forward = λ t l. (places t l).forward;
      in_frame = λ t l. (places t l).in_frame;
      in_order = λ a b l m e. omega (arith, before_last p places b (omega arith) (row p b).core a l e, (places b m).after);
      written = λ t k l m.
          let asked = no_fault_at (input_fault p) 0 n both.1 t (omega arith) (omega arith) in
          let ok = not-false _ (passed (not (all_below 8 (input_ok p (row p t)))) _ None asked).0 in
          writes p (row p t) k (all_at 8 (input_ok p (row p t)) ok k (has_below (row p t).inputs k (fits t l).inputs m)) m;
    }

pub no_fault_from : (p : Plan) → Lawful p → rows_fault p ≡ None
no_fault_from p h =
    none_else (first_fault (place_fault p) 0 (length p.rows)) _ (no_fault (place_fault p) 0 (length p.rows) (λ t z l. places t (omega arith)))
    ∙ no_fault (input_fault p) 0 (length p.rows) (λ t z l. cond-false _ _ _ (not_from_true _ (all_from 8 (input_ok p (row p t)) (λ k q. may_write p (row p t) k (h.written t k (omega arith))))))
  where
    places : (t : ℕ) → t < length p.rows → place_fault p t ≡ None
    places t l = unplaced p t (record {
      core = h.on_a_core t l;
      forward = h.forward t l;
      in_frame = h.in_frame t l;
      after = last_bound (row p t).core (row p t).start (take t p.rows) 0 (omega arith) (λ a q e.
          let m : a < t = omega (arith, q, length-take-le t p.rows (omega arith)) in
          let same = get_or-take t p.rows a blank m in
          omega (arith, ap (λ r. r.end) same, h.in_order a t m l (ap (λ r. r.core) (sym same) ∙ e)));
    })
