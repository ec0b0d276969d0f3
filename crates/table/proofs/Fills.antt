-- The fields of a table that load accepts pass the test of a table value.
use Rattle.std.proofs.Common.{◌≡◌, ℕ, suc, ◌^◌, ◌<◌, true, not, List, [], ◌∷◌, length, get_or, take, is_some, Some, None, Ok, Err, sym, refl, ap, ◌∙◌, arith}
use Rattle.table.specs.declared.faults.Fault.{Fault}
use Rattle.std.proofs.lemmas.Bool.{lt-ltb, le-leb, and_from, or_right}
use Rattle.std.proofs.lemmas.Bool.Decides.{nat_tests}
use Rattle.table.specs.Rows.{blank}
use Rattle.table.specs.Layout.{cores_of, tasks_of, ticks_of, rows_of, described}
use Rattle.table.specs.Questions.{header_fault, rows_fault, or_else, loaded, answered}
use Rattle.table.specs.Lawful.{RowFits}
use Rattle.table.specs.Reading.{Heads}
use Rattle.table.specs.Sound.{row_fits, rows_fit, plan_fits, is_lawful, is_nothing, plan_from, sound}
use Rattle.table.specs.declared.rows.Row.{Row}
use Rattle.table.specs.declared.layout.Header.{Header}
use Rattle.table.proofs.Verdict.{neither}
use Rattle.table.proofs.Accepts.{field_lt, rows_length, described_fits, unless_ok}

row_passes : (r : Row) → RowFits r → row_fits r ≡ true
row_passes r f = grind (arith, nat_tests)

rows_pass : (rows : List Row) → ((t : ℕ) → t < length rows → RowFits (get_or rows t blank)) → rows_fit rows ≡ true
rows_pass [] each = refl
rows_pass (r ∷ rs) each = and_from (row_fits r) (rows_fit rs) (row_passes r (each 0 (omega arith))) (rows_pass rs (λ t l. each (suc t) (omega arith)))

plan_passes : (bytes : List ℕ) (h : Header) → Heads bytes h → plan_fits (described bytes) ≡ true
plan_passes bytes h e =
    let n = rows_length bytes (tasks_of bytes) in
    and_from _ _ (le-leb 1 (cores_of bytes) (omega arith))
    (and_from _ _ (le-leb (cores_of bytes) 8 (omega (arith, field_lt bytes 8 3)))
    (and_from _ _ (le-leb 1 (length (described bytes).rows) (omega (arith, n, e.tasks, e.some_task)))
    (and_from _ _ (le-leb (length (described bytes).rows) 384 (omega (arith, n, e.tasks, e.few_tasks)))
    (and_from _ _ (lt-ltb (ticks_of bytes) (2 ^ 28) (field_lt bytes 20 28)) (rows_pass (described bytes).rows (described_fits bytes))))))

-- the plan of the fields that load writes is the one that the bytes describe
pub filled_plan : (bytes : List ℕ) (h : Header) (rows : List Row) → Heads bytes h → take h.tasks rows ≡ rows_of bytes h.tasks → plan_from h.cores h.tasks h.ticks rows ≡ described bytes
filled_plan bytes h rows e is = grind (arith, nat_tests)

pub filled_sound : (bytes : List ℕ) (h : Header) (rows : List Row) → Heads bytes h → loaded bytes ≡ Ok (described bytes) → take h.tasks rows ≡ rows_of bytes h.tasks → length rows ≡ 384 → sound h.cores h.tasks h.ticks rows ≡ true
unfolding sound
filled_sound bytes h rows e whole is room =
    let none = (unless_ok (or_else (header_fault bytes) (rows_fault (described bytes))) (described bytes) (described bytes) whole).0 in
    and_from _ _ (le-leb h.tasks (length rows) (omega (arith, room, e.few_tasks)))
    (or_right (is_nothing h.cores h.tasks h.ticks) (is_lawful (plan_from h.cores h.tasks h.ticks rows))
    (ap is_lawful (filled_plan bytes h rows e is) ∙ and_from (plan_fits (described bytes)) _ (plan_passes bytes h e) (ap (λ o. not (is_some o)) (neither (header_fault bytes) (rows_fault (described bytes)) none).1)))

-- what load makes of bytes without a fault, and of bytes with one
pub loaded_whole : (bytes : List ℕ) → or_else (header_fault bytes) (rows_fault (described bytes)) ≡ None → loaded bytes ≡ Ok (described bytes)
loaded_whole bytes none = grind (arith, nat_tests)

pub loaded_fault : (bytes : List ℕ) (f : Fault) → or_else (header_fault bytes) (rows_fault (described bytes)) ≡ Some f → loaded bytes ≡ Err f
loaded_fault bytes f some = grind (arith, nat_tests)

pub answer_whole : (bytes : List ℕ) (h : Header) → Heads bytes h → or_else (header_fault bytes) (rows_fault (described bytes)) ≡ None → Ok h.tasks ≡ answered (loaded bytes)
answer_whole bytes h e none = ap Ok (e.tasks ∙ sym (rows_length bytes (tasks_of bytes))) ∙ sym (ap answered (loaded_whole bytes none))
