-- Load accepts the bytes of a lawful table, and no others.
use Rattle.std.proofs.Common.{◌≡◌, ℕ, zero, suc, ◌+◌, ◌*◌, ◌^◌, ◌<◌, ◌≤◌, not, ◌&&◌, eqb, leb, List, length, get_or, None, Ok, Option, sym, refl, ap, ◌∙◌, subst, arith}
use Rattle.std.proofs.lemmas.List.FromFn.{length-map-range_with_len, get_or-map-range_with_len, fill_by_all}
use Rattle.std.proofs.lemmas.Bool.{eqb-true, leb-true, not-false, and_parts}
use Rattle.std.proofs.lemmas.Bool.Decides.{nat_tests}
use Rattle.table.specs.Bits.{field}
use Rattle.table.specs.Rows.{Plan, row, blank}
use Rattle.table.specs.Layout.{cores_of, tasks_of, ticks_of, rows_of, row_at, core_bit, start_bit, end_bit, claim_bit, inputs_bit, described}
use Rattle.table.specs.Questions.{header_fault, rows_fault, or_else, unless, loaded}
use Rattle.table.specs.Lawful.{Lawful, RowFits, Describes, AcceptsExactlyTheLawful, AcceptsEveryLawfulTable}
use Rattle.table.specs.declared.faults.Fault.{Fault}
use Rattle.table.proofs.Verdict.{passed, neither, none_else, lawful_from, no_fault_from}
use Rattle.table.proofs.Encode.{encodes}

-- a field is within its width
pub field_lt : (bytes : List ℕ) (i w : ℕ) → field bytes i w < 2 ^ w
unfolding field
field_lt bytes i zero = omega arith
field_lt bytes i (suc w) = omega (arith, field_lt bytes i w)

pub row_at_fits : (bytes : List ℕ) (r : ℕ) → RowFits (row_at bytes r)
row_at_fits bytes r = record {
  core = field_lt bytes (core_bit r) 3;
  start = field_lt bytes (start_bit r) 28;
  end = field_lt bytes (end_bit r) 28;
  claim = field_lt bytes (claim_bit r) 21;
  inputs = field_lt bytes (inputs_bit r) 8;
}

pub rows_length : (bytes : List ℕ) (n : ℕ) → length (rows_of bytes n) ≡ n
rows_length bytes n = length-map-range_with_len (row_at bytes) 0 n

pub row_is : (bytes : List ℕ) (n t : ℕ) → t < n → get_or (rows_of bytes n) t blank ≡ row_at bytes t
row_is bytes n t l = get_or-map-range_with_len (row_at bytes) 0 n t t blank l (omega arith)

pub described_fits : (bytes : List ℕ) (t : ℕ) → t < length (described bytes).rows → RowFits (row (described bytes) t)
described_fits bytes t l = subst RowFits (sym (row_is bytes (tasks_of bytes) t (omega (arith, rows_length bytes (tasks_of bytes))))) (row_at_fits bytes t)

pub unless_ok : (o : Option Fault) (d p : Plan) → unless o d ≡ Ok p → (o ≡ None) × (d ≡ p)
unless_ok o d p h = grind arith

describes : (bytes : List ℕ) → get_or bytes 0 0 ≡ 87 → 1 ≤ tasks_of bytes → tasks_of bytes ≤ 384 → length bytes ≡ 6 + 11 * tasks_of bytes → Describes bytes (described bytes)
describes bytes m s f l =
    let n = rows_length bytes (tasks_of bytes) in
    record {
      mark = m;
      size = omega (arith, l, n);
      some_task = omega (arith, n);
      few_tasks = omega (arith, n);
      cores = refl;
      tasks = n;
      ticks = refl;
      each = λ t q. row_is bytes (tasks_of bytes) t (omega (arith, n));
    }

accepted : (bytes : List ℕ) (p : Plan) → loaded bytes ≡ Ok p → Describes bytes p × Lawful p
accepted bytes p h =
    let n = tasks_of bytes in
    let d = unless_ok (or_else (header_fault bytes) (rows_fault (described bytes))) (described bytes) p h in
    let e = neither (header_fault bytes) (rows_fault (described bytes)) d.0 in
    let a = passed (not (leb 6 (length bytes) && eqb (get_or bytes 0 0) 87)) _ _ e.0 in
    let b = passed (not (leb 1 n && leb n 384)) _ _ a.1 in
    let c = passed (not (eqb (length bytes) (6 + 11 * n))) _ _ b.1 in
    let first = and_parts (leb 6 (length bytes)) _ (not-false _ a.0) in
    let second = and_parts (leb 1 n) _ (not-false _ b.0) in (
      subst (Describes bytes) d.1 (describes bytes (eqb-true _ _ first.1) (leb-true _ _ second.0) (leb-true _ _ second.1) (eqb-true _ _ (not-false _ c.0))),
      subst Lawful d.1 (lawful_from (described bytes) (described_fits bytes) e.1),
    )

-- the bytes describe one plan alone
same_plan : (bytes : List ℕ) (p : Plan) → Describes bytes p → p ≡ described bytes
same_plan bytes p h =
    let rows : p.rows ≡ rows_of bytes (length p.rows) = fill_by_all (row_at bytes) p.rows (length p.rows) blank refl h.each in
    let more : rows_of bytes (length p.rows) ≡ rows_of bytes (tasks_of bytes) = ap (rows_of bytes) h.tasks in
    ap (λ k. record { cores = k; ticks = p.ticks; rows = p.rows }) h.cores
    ∙ (ap (λ k. record { cores = cores_of bytes; ticks = k; rows = p.rows }) h.ticks
    ∙ ap (λ xs. record { cores = cores_of bytes; ticks = ticks_of bytes; rows = xs }) (rows ∙ more))

pub no_header_fault : (bytes : List ℕ) → 6 ≤ length bytes → get_or bytes 0 0 ≡ 87 → 1 ≤ tasks_of bytes → tasks_of bytes ≤ 384 → length bytes ≡ 6 + 11 * tasks_of bytes → header_fault bytes ≡ None
no_header_fault bytes l m s f e = grind (arith, nat_tests)

accepts : (bytes : List ℕ) (p : Plan) → Describes bytes p → Lawful p → loaded bytes ≡ Ok p
accepts bytes p h l =
    let same = same_plan bytes p h in
    let head : header_fault bytes ≡ None = no_header_fault bytes (omega (arith, h.size)) h.mark (omega (arith, h.tasks, h.some_task)) (omega (arith, h.tasks, h.few_tasks)) (omega (arith, h.size, h.tasks)) in
    let rows : rows_fault (described bytes) ≡ None = subst (λ q. rows_fault q ≡ None) same (no_fault_from p l) in
    ap (λ o. unless o (described bytes)) (none_else (header_fault bytes) (rows_fault (described bytes)) head ∙ rows) ∙ ap Ok (sym same)

pub exactly_the_lawful : (bytes : List ℕ) → AcceptsExactlyTheLawful bytes
exactly_the_lawful bytes p = (accepted bytes p, λ h. accepts bytes p h.0 h.1)

pub every_lawful_table : AcceptsEveryLawfulTable
every_lawful_table p f l = let e = encodes p f in (e.0, e.1, accepts e.0 p e.2 l)
