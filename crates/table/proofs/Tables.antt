-- What the fact in a table says of its rows.
use Rattle.std.proofs.Common.{◌≡◌, ℕ, zero, suc, ◌+◌, ◌<◌, ◌≤◌, Bool, true, false, not, ◌&&◌, eqb, leb, ◌⊎◌, List, [], ◌∷◌, length, get_or, drop, is_some, Some, None, Option, sym, refl, ap, ◌∙◌, subst, inl, inr, ⊎_elim, arith}
use Rattle.std.proofs.lemmas.Bool.{cases_Bool, cases_lt, leb-true, eqb-true, not-true, and_parts, or_cases}
use Rattle.std.proofs.lemmas.List.{get_or_past, length-take-le}
use Rattle.std.proofs.lemmas.List.Sums.{count_by-le-length}
use Rattle.std.specs.List.{range_with_len, slice_get, filter}
use Rattle.std.proofs.lemmas.Bool.Decides.{nat_tests}
use Rattle.table.specs.Rows.{Plan, nothing, blank, row, on, named, nth_on, tasks_on}
use Rattle.table.specs.Lawful.{RowFits, Fits, EmptyOrLawful}
use Rattle.table.specs.Questions.{rows_fault}
use Rattle.table.specs.Sound.{row_fits, rows_fit, plan_fits, is_lawful, is_nothing, plan_from, sound}
use Rattle.table.specs.View.{plan_of}
use Rattle.table.specs.declared.rows.Row.{Row}
use Rattle.table.specs.declared.faults.Fault.{Fault}
use Rattle.table.specs.declared.lawful.Table.{Table}
pub use Rattle.table.proofs.Places.{nth_within, named_small, named_some}
use Rattle.table.proofs.Places.{none_on, count_yes as count_in, count_no as count_out}
use Rattle.table.proofs.Ordered.{Ordered, ordered, nth_some, nth_past}
use Rattle.table.proofs.Verdict.{lawful_from}

-- the widths of one row, of all rows, of a plan
row_widths : (r : Row) → row_fits r ≡ true → RowFits r
row_widths r h = grind (arith, nat_tests)

rows_widths : (rows : List Row) → rows_fit rows ≡ true → (t : ℕ) → t < length rows → RowFits (get_or rows t blank)
rows_widths [] h t l = absurd (omega arith)
rows_widths (r ∷ rs) h zero l = row_widths r (and_parts (row_fits r) (rows_fit rs) h).0
rows_widths (r ∷ rs) h (suc t) l = rows_widths rs (and_parts (row_fits r) (rows_fit rs) h).1 t (omega arith)

pub plan_widths : (p : Plan) → plan_fits p ≡ true → Fits p
plan_widths p h =
    let rows : rows_fit p.rows ≡ true = grind (arith, nat_tests) in
    record {
      some_core = grind (arith, nat_tests);
      few_cores = grind (arith, nat_tests);
      some_task = grind (arith, nat_tests);
      few_tasks = grind (arith, nat_tests);
      ticks = grind (arith, nat_tests);
      each = rows_widths p.rows rows;
    }

none_is : (o : Option Fault) → is_some o ≡ false → o ≡ None
none_is o h = grind arith

-- what the test of a table's fields says
pub record Sound (cores tasks ticks : ℕ) (rows : List Row) : Type 0 where
  pub enough : tasks ≤ length rows
  pub either : (plan_from cores tasks ticks rows ≡ nothing) ⊎ (Fits (plan_from cores tasks ticks rows) × (rows_fault (plan_from cores tasks ticks rows) ≡ None))

pub sound_parts : (cores tasks ticks : ℕ) (rows : List Row) → sound cores tasks ticks rows ≡ true → Sound cores tasks ticks rows
unfolding sound
sound_parts cores tasks ticks rows h =
    let a = and_parts (leb tasks (length rows)) _ h in
    record {
      enough = leb-true _ _ a.0;
      either = ⊎_elim
          (λ e. let b = and_parts (eqb cores 0) (eqb tasks 0 && eqb ticks 0) e in
          let c = and_parts (eqb tasks 0) (eqb ticks 0) b.1 in
          inl (ap (λ n. plan_from n tasks ticks rows) (eqb-true _ _ b.0) ∙ (ap (λ n. plan_from 0 n ticks rows) (eqb-true _ _ c.0) ∙ ap (λ n. plan_from 0 0 n rows) (eqb-true _ _ c.1))))
          (λ e. let b = and_parts (plan_fits (plan_from cores tasks ticks rows)) (not (is_some (rows_fault (plan_from cores tasks ticks rows)))) e in
          inr (plan_widths (plan_from cores tasks ticks rows) b.0, none_is (rows_fault (plan_from cores tasks ticks rows)) (not-true _ b.1)))
          (or_cases (is_nothing cores tasks ticks) (is_lawful (plan_from cores tasks ticks rows)) a.1);
    }

parts : (t : Table) → Sound t.header.cores t.header.tasks t.header.ticks t.rows
parts t = sound_parts t.header.cores t.header.tasks t.header.ticks t.rows t.ok

-- every table value is empty or lawful
pub table_sound : (t : Table) → EmptyOrLawful (plan_of t)
table_sound t = ⊎_elim (λ e. inl e) (λ h. inr (h.0, lawful_from (plan_of t) h.0.each h.1)) (parts t).either

-- so its plan is in order
table_ordered : (t : Table) → Ordered (plan_of t)
table_ordered t = ordered (plan_of t) (table_sound t)

-- what holds of the empty plan, and of each that fits
of_plan : (t : Table) (P : Plan → Type 0) → P nothing → (Fits (plan_of t) → P (plan_of t)) → P (plan_of t)
of_plan t P n f = ⊎_elim (λ e. subst P (sym e) n) (λ h. f h.0) (parts t).either

-- what holds of a blank row, and of each row within the list
of_row : (rows : List Row) (P : Row → Type 0) → P blank → ((t : ℕ) → t < length rows → P (get_or rows t blank)) → (t : ℕ) → P (get_or rows t blank)
of_row rows P b f t = ⊎_elim (f t) (λ l. subst P (sym (get_or_past rows t blank l)) b) (cases_lt t (length rows))

-- the claims, the starts and the cores of all rows fit
pub small : (t : Table) (n : ℕ) → (row (plan_of t) n).claim < 2097152
small t n = of_plan t (λ (p : Plan). (row p n).claim < 2097152) (omega arith) (λ f. of_row (plan_of t).rows (λ (r : Row). r.claim < 2097152) (omega arith) (λ u l. (f.each u l).claim) n)

pub soon : (t : Table) (n : ℕ) → (row (plan_of t) n).start < 268435456
soon t n = of_plan t (λ (p : Plan). (row p n).start < 268435456) (omega arith) (λ f. of_row (plan_of t).rows (λ (r : Row). r.start < 268435456) (omega arith) (λ u l. (f.each u l).start) n)

pub core_below : (t : Table) (n : ℕ) → (row (plan_of t) n).core < 8
core_below t n = of_plan t (λ (p : Plan). (row p n).core < 8) (omega arith) (λ f. of_row (plan_of t).rows (λ (r : Row). r.core < 8) (omega arith) (λ u l. (f.each u l).core) n)

pub few_cores : (t : Table) → (plan_of t).cores ≤ 8
few_cores t = (table_ordered t).few

pub few_ticks : (t : Table) → (plan_of t).ticks < 268435456
few_ticks t = of_plan t (λ (p : Plan). p.ticks < 268435456) (omega arith) (λ f. f.ticks)

pub few_rows : (t : Table) → length (plan_of t).rows ≤ 384
few_rows t = (table_ordered t).short

pub enough_rows : (t : Table) → t.header.tasks ≤ length t.rows
enough_rows t = (parts t).enough

pub count_rows : (t : Table) → length (plan_of t).rows ≡ t.header.tasks
count_rows t = length-take-le t.header.tasks t.rows (parts t).enough

pub few_tasks : (t : Table) → t.header.tasks ≤ 384
few_tasks t = omega (arith, few_rows t, count_rows t)

pub few_on : (t : Table) (k : ℕ) → tasks_on (plan_of t).rows k ≤ 384
few_on t k = omega (arith, few_rows t, count_by-le-length (on k) (plan_of t).rows)

-- the task at a place of core k is the one there among the numbers of the rows that lie on it: one row further left, and for all rows
nth_step : (k n i : ℕ) (r : Row) (rs : List Row) (test : ℕ → Bool) → test i ≡ on k r → i < 511 → ((m : ℕ) → slice_get (filter test (range_with_len (i + 1) (length rs))) m ≡ named (nth_on k m (suc i) rs)) →
    slice_get (filter test (range_with_len i (suc (length rs)))) n ≡ named (nth_on k n i (r ∷ rs))
nth_step k n i r rs test here l next = grind (arith, nat_tests)

pub nth_named : (k n i : ℕ) (rows : List Row) (test : ℕ → Bool) → ((a : ℕ) → a < length rows → test (i + a) ≡ on k (get_or rows a blank)) → ((a : ℕ) → a < length rows → i + a < 511) → slice_get (filter test (range_with_len i (length rows))) n ≡ named (nth_on k n i rows)
nth_named k zero i [] test at l = refl
nth_named k (suc n) i [] test at l = refl
nth_named k n i (r ∷ rs) test at l =
    let z : i ≡ i + 0 = omega arith in
    let s : i + 1 ≡ suc i = omega arith in
    let on_rest : (a : ℕ) → a < length rs → test (suc i + a) ≡ on k (get_or rs a blank) = λ a q. let t : suc i + a ≡ i + suc a = omega arith in ap test t ∙ at (suc a) (omega arith) in
    nth_step k n i r rs test (ap test z ∙ at 0 (omega arith)) (omega (arith, l 0 (omega arith)))
    (λ m. ap (λ j. slice_get (filter test (range_with_len j (length rs))) m) s ∙ nth_named k m (suc i) rs test on_rest (λ a q. omega (arith, l (suc a) (omega arith))))

-- the task at a place: there is one exactly at the places below the number of the core's tasks
pub task_at : (t : Table) (k n : ℕ) → n < tasks_on (plan_of t).rows k → named (nth_on k n 0 (plan_of t).rows) ≡ Some (nth_on k n 0 (plan_of t).rows)
task_at t k n l = nth_some (plan_of t) (table_ordered t) k n l

pub no_task_at : (t : Table) (k n : ℕ) → tasks_on (plan_of t).rows k ≤ n → named (nth_on k n 0 (plan_of t).rows) ≡ None
no_task_at t k n l = nth_past (plan_of t) (table_ordered t) k n l

-- no task lies on a core that the table lacks
pub off_table : (t : Table) (k : ℕ) → (plan_of t).cores ≤ k → tasks_on (plan_of t).rows k ≡ 0
off_table t k l = none_on k (plan_of t).rows (λ u m x. omega (arith, (table_ordered t).on_core u m, x, l))

-- the next place is the first after this one
record Then (k n i : ℕ) (rows : List Row) : Type 0 where
  at : ℕ
  is : nth_on k n i rows ≡ i + at
  next : nth_on k (suc n) i rows ≡ nth_on k 0 (i + suc at) (drop (suc at) rows)

-- one row further left
then_back : (k n m i : ℕ) (r : Row) (rs : List Row) → nth_on k n i (r ∷ rs) ≡ nth_on k m (suc i) rs → nth_on k (suc n) i (r ∷ rs) ≡ nth_on k (suc m) (suc i) rs → Then k m (suc i) rs → Then k n i (r ∷ rs)
then_back k n m i r rs a b f =
    let e : suc i + suc f.at ≡ i + suc (suc f.at) = omega arith in
    record { at = suc f.at; is = a ∙ (f.is ∙ omega arith); next = b ∙ (f.next ∙ ap (λ j. nth_on k 0 j (drop (suc f.at) rs)) e) }

then_at : (k n i : ℕ) (rows : List Row) → n < tasks_on rows k → Then k n i rows
then_at k n i [] h = absurd (omega arith)
then_at k zero i (r ∷ rs) h = ⊎_elim
    (λ e. record { at = 0; is = grind (arith, nat_tests); next = grind (arith, nat_tests) })
    (λ e. then_back k 0 0 i r rs (grind (arith, nat_tests)) (grind (arith, nat_tests)) (then_at k zero (suc i) rs (omega (arith, count_out (on k) r rs e))))
    (cases_Bool (on k r))
then_at k (suc n) i (r ∷ rs) h = ⊎_elim
    (λ e. then_back k (suc n) n i r rs (grind (arith, nat_tests)) (grind (arith, nat_tests)) (then_at k n (suc i) rs (omega (arith, count_in (on k) r rs e))))
    (λ e. then_back k (suc n) (suc n) i r rs (grind (arith, nat_tests)) (grind (arith, nat_tests)) (then_at k (suc n) (suc i) rs (omega (arith, count_out (on k) r rs e))))
    (cases_Bool (on k r))

pub after_nth : (k n : ℕ) (rows : List Row) → n < tasks_on rows k → nth_on k (n + 1) 0 rows ≡ nth_on k 0 (nth_on k n 0 rows + 1) (drop (nth_on k n 0 rows + 1) rows)
after_nth k n rows h =
    let f = then_at k n 0 rows h in
    let m : n + 1 ≡ suc n = omega arith in
    let a : suc f.at ≡ nth_on k n 0 rows + 1 = omega (arith, f.is) in
    let b : 0 + suc f.at ≡ suc f.at = omega arith in
    ap (λ x. nth_on k x 0 rows) m ∙ (f.next ∙ (ap (λ j. nth_on k 0 j (drop (suc f.at) rows)) b ∙ ap (λ j. nth_on k 0 j (drop j rows)) a))

-- the task after the one at a place
pub taken_place : (t : Table) (k n u : ℕ) → named (nth_on k n 0 (plan_of t).rows) ≡ Some u → n < tasks_on (plan_of t).rows k
taken_place t k n u h = ⊎_elim (λ l. l)
    (λ l. let g : None ≡ Some u = sym (no_task_at t k n l) ∙ h in cc)
    (cases_lt n (tasks_on (plan_of t).rows k))

pub after_task : (t : Table) (k n u : ℕ) → named (nth_on k n 0 (plan_of t).rows) ≡ Some u → nth_on k 0 (u + 1) (drop (u + 1) (plan_of t).rows) ≡ nth_on k (suc n) 0 (plan_of t).rows
after_task t k n u h =
    let m : n + 1 ≡ suc n = omega arith in
    ap (λ j. nth_on k 0 (j + 1) (drop (j + 1) (plan_of t).rows)) (sym (named_some _ u h))
    ∙ (sym (after_nth k n (plan_of t).rows (taken_place t k n u h)) ∙ ap (λ j. nth_on k j 0 (plan_of t).rows) m)

pub after_none : (t : Table) (k n : ℕ) → named (nth_on k n 0 (plan_of t).rows) ≡ None → named (nth_on k (suc n) 0 (plan_of t).rows) ≡ None
after_none t k n h = ⊎_elim
    (λ l. let g : Some (nth_on k n 0 (plan_of t).rows) ≡ None = sym (task_at t k n l) ∙ h in cc)
    (λ l. no_task_at t k (suc n) (omega arith))
    (cases_lt n (tasks_on (plan_of t).rows k))

pub task_small : (t : Table) (k n u : ℕ) → named (nth_on k n 0 (plan_of t).rows) ≡ Some u → u < 384
task_small t k n u h = omega (arith, few_rows t, named_some _ u h, nth_within k n (plan_of t).rows (taken_place t k n u h))
