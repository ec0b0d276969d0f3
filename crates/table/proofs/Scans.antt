-- The loops of load over the rows of the bytes.
use Rattle.std.proofs.Common.{◌≡◌, ℕ, suc, ◌+◌, ◌-◌, ◌<◌, ◌≤◌, min, Bool, true, false, cond, not, ◌&&◌, ◌||◌, ltb, leb, List, [], ◌∷◌, length, get_or, take, set, ◌++◌, Some, None, Ok, Err, Option, sym, refl, ap, ◌∙◌, ⊎_elim, arith}
use Rattle.std.proofs.Math.Bool.{or_assoc}
use Rattle.std.proofs.lemmas.List.FromFn.{map-range_with_len_more, take-map-range_with_len}
use Rattle.std.proofs.lemmas.List.{get_or-set_same, get_or-set_other}
use Rattle.std.proofs.lemmas.Bool.Decides.{nat_tests}
use Rattle.std.proofs.lemmas.Bool.{cases_eq}
use Rattle.table.specs.Below.{all_below}
use Rattle.table.specs.Sets.{has}
use Rattle.table.specs.Rows.{row, on, kept_end, last_end}
use Rattle.table.specs.Layout.{cores_of, tasks_of, ticks_of, rows_of, row_at, described}
use Rattle.table.specs.Questions.{span_fault, place_fault, some_ends_by, input_ok, input_fault, or_else, first_fault, header_fault, rows_fault}
use Rattle.table.specs.Reading.{Heads, ok_unless, sooner, reached, earliest_end, passes_by}
use Rattle.table.specs.declared.rows.Row.{Row}
use Rattle.table.specs.declared.faults.Fault.{Fault}
use Rattle.table.specs.declared.faults.Fault.TheVariants.{BadInputs}
use Rattle.table.specs.declared.layout.Header.{Header}
use Rattle.table.proofs.Below.{all_same}
use Rattle.table.proofs.Verdict.{kept_push, none_else}
use Rattle.table.proofs.Accepts.{row_is, row_at_fits, rows_length}

-- a question over the rows, one row on
module _ (ask : ℕ → Option Fault) (t n : ℕ) where
  step : t < n → first_fault ask t (n - t) ≡ or_else (ask t) (first_fault ask (t + 1) (n - (t + 1)))
  step l =
      let m : n - t ≡ suc (n - (t + 1)) = omega arith in
      let s : suc t ≡ t + 1 = omega arith in
      ap (first_fault ask t) m ∙ ap (λ i. or_else (ask t) (first_fault ask i (n - (t + 1)))) s

  pub scan_found : (f : Fault) → t < n → ask t ≡ Some f → first_fault ask t (n - t) ≡ Some f
  scan_found f l h = step l ∙ ap (λ o. or_else o (first_fault ask (t + 1) (n - (t + 1)))) h

  pub scan_more : t < n → ask t ≡ None → first_fault ask t (n - t) ≡ first_fault ask (t + 1) (n - (t + 1))
  scan_more l h = step l ∙ none_else (ask t) (first_fault ask (t + 1) (n - (t + 1))) h

  pub scan_done : n ≤ t → first_fault ask t (n - t) ≡ None
  scan_done l = let z : n - t ≡ 0 = omega arith in ap (first_fault ask t) z

-- a question that found a fault, and one that found none
pub fault_of : (o : Option Fault) (f : Fault) → Err f ≡ ok_unless o → o ≡ Some f
fault_of o f h = grind arith

pub no_fault_of : (o : Option Fault) → Ok tt ≡ ok_unless o → o ≡ None
no_fault_of o h = grind arith

-- what is kept for each core, one row on
pub kept_more : {X : Type 0} (keep : ℕ → X → X) (first : X) (bytes : List ℕ) (t : ℕ) (r : Row) → r ≡ row_at bytes t → (c : ℕ) → c ≡ r.core → (kept : List X) → length kept ≡ 8 → (v : X) → v ≡ keep r.end (get_or kept c first) →
    ((k : ℕ) → k < 8 → get_or kept k first ≡ kept_end keep k (rows_of bytes t) first) → (k : ℕ) → k < 8 → get_or (set kept c v) k first ≡ kept_end keep k (rows_of bytes (t + 1)) first
kept_more keep first bytes t r is c here kept room v new each k l =
    let small : c < 8 = omega (arith, here, ap (λ (x : Row). x.core) is, (row_at_fits bytes t).core) in
    let more : kept_end keep k (rows_of bytes (t + 1)) first ≡ cond (on k r) (keep r.end (kept_end keep k (rows_of bytes t) first)) (kept_end keep k (rows_of bytes t) first) =
    ap (λ xs. kept_end keep k xs first) (map-range_with_len_more (row_at bytes) 0 t t (omega arith)) ∙ (ap (λ x. kept_end keep k (rows_of bytes t ++ (x ∷ [])) first) (sym is) ∙ kept_push keep k (rows_of bytes t) r first) in
    ⊎_elim
    (λ e. grind (arith, nat_tests, more, each k l, e, here, new, get_or-set_same kept c v first (omega (arith, room, small))))
    (λ e. get_or-set_other kept c k v first e ∙ grind (arith, nat_tests, more, each k l, e, here))
    (cases_eq k c)

-- questions 4 to 6 of row t of the bytes
pub place_at : (bytes : List ℕ) (t : ℕ) → t < tasks_of bytes → place_fault (described bytes) t ≡ span_fault (cores_of bytes) (ticks_of bytes) t (row_at bytes t) (last_end (row_at bytes t).core (rows_of bytes t))
place_at bytes t l =
    ap (λ r. span_fault (cores_of bytes) (ticks_of bytes) t r (last_end r.core (take t (rows_of bytes (tasks_of bytes))))) (row_is bytes (tasks_of bytes) t l)
    ∙ ap (λ xs. span_fault (cores_of bytes) (ticks_of bytes) t (row_at bytes t) (last_end (row_at bytes t).core xs)) (take-map-range_with_len (row_at bytes) 0 (tasks_of bytes) t (omega arith))

-- so asked by the code, from the header, the row that it read and the ends of the last rows
pub place_asked : (bytes : List ℕ) (h : Header) → Heads bytes h → (t : ℕ) → t < h.tasks → (r : Row) → r ≡ row_at bytes t → (c : ℕ) → c ≡ r.core → (ends : List ℕ) → ((k : ℕ) → k < 8 → get_or ends k 0 ≡ last_end k (rows_of bytes t)) →
    place_fault (described bytes) t ≡ span_fault h.cores h.ticks t r (get_or ends c 0)
place_asked bytes h e t l r is c here ends each =
    let small : c < 8 = omega (arith, here, ap (λ (x : Row). x.core) is, (row_at_fits bytes t).core) in
    let before : get_or ends c 0 ≡ last_end r.core (rows_of bytes t) = each c small ∙ ap (λ k. last_end k (rows_of bytes t)) here in
    place_at bytes t (omega (arith, l, e.tasks))
    ∙ (ap (λ x. span_fault (cores_of bytes) (ticks_of bytes) t x (last_end x.core (rows_of bytes t))) (sym is)
    ∙ (ap (λ k. span_fault k (ticks_of bytes) t r (last_end r.core (rows_of bytes t))) (sym e.cores)
    ∙ (ap (λ k. span_fault h.cores k t r (last_end r.core (rows_of bytes t))) (sym e.ticks)
    ∙ ap (span_fault h.cores h.ticks t r) (sym before))))

-- the sooner of two ends is reached when one of them is
min_reached : (a b time : ℕ) → leb (min a b) time ≡ (leb b time || leb a time)
min_reached a b time = grind (arith, nat_tests)

sooner_reached : (a time : ℕ) (sofar : Option ℕ) → reached time (sooner a sofar) ≡ (reached time sofar || leb a time)
sooner_reached a time None = refl
sooner_reached a time (Some b) = min_reached a b time

-- the earliest end tells whether some row ends by a time
earliest_tells : (k time : ℕ) (rows : List Row) (sofar : Option ℕ) → reached time (kept_end sooner k rows sofar) ≡ (reached time sofar || some_ends_by k time rows)
earliest_tells k time [] sofar = grind arith
earliest_tells k time (r ∷ rs) sofar = earliest_tells k time rs (cond (on k r) (sooner r.end sofar) sofar) ∙ one (on k r) (some_ends_by k time rs)
  where
    one : (b rest : Bool) → (reached time (cond b (sooner r.end sofar) sofar) || rest) ≡ (reached time sofar || ((b && leb r.end time) || rest))
    one true rest = ap (λ x. x || rest) (sooner_reached r.end time sofar) ∙ or_assoc (reached time sofar) (leb r.end time) rest
    one false rest = refl

-- question 7 of row t of the bytes, as the code asks it
pub input_asked : (bytes : List ℕ) (h : Header) → Heads bytes h → (ends : List (Option ℕ)) → ((k : ℕ) → k < 8 → get_or ends k None ≡ earliest_end k (rows_of bytes h.tasks)) → (t : ℕ) → t < h.tasks → (r : Row) → r ≡ row_at bytes t → (b : Bool) →
    b ≡ all_below 8 (passes_by h.cores r ends) → input_fault (described bytes) t ≡ cond (not b) (Some (BadInputs t)) None
input_asked bytes h e ends each t l r is b q =
    let p = described bytes in
    let here : row p t ≡ r = row_is bytes (tasks_of bytes) t (omega (arith, l, e.tasks)) ∙ sym is in
    let one : (k : ℕ) → k < 8 → passes_by h.cores r ends k ≡ input_ok p r k = λ k m.
    ap (λ n. not (has r.inputs k) || (not (on k r) && (ltb k n && reached r.start (get_or ends k None)))) e.cores
    ∙ ap (λ x. not (has r.inputs k) || (not (on k r) && (ltb k (cores_of bytes) && x)))
    (ap (reached r.start) (each k m ∙ ap (λ n. earliest_end k (rows_of bytes n)) e.tasks) ∙ earliest_tells k r.start p.rows None) in
    ap (λ x. cond (not (all_below 8 (input_ok p x))) (Some (BadInputs t)) None) here
    ∙ ap (λ x. cond (not x) (Some (BadInputs t)) None) (sym (q ∙ all_same 8 (passes_by h.cores r ends) (input_ok p r) one))

-- all questions of the bytes, when those of the header are passed
pub all_asked : (bytes : List ℕ) (h : Header) → header_fault bytes ≡ None → Heads bytes h →
    or_else (header_fault bytes) (rows_fault (described bytes)) ≡ or_else (first_fault (place_fault (described bytes)) 0 h.tasks) (first_fault (input_fault (described bytes)) 0 h.tasks)
all_asked bytes h none e =
    let n : length (described bytes).rows ≡ h.tasks = rows_length bytes (tasks_of bytes) ∙ sym e.tasks in
    none_else (header_fault bytes) (rows_fault (described bytes)) none
    ∙ ap (λ m. or_else (first_fault (place_fault (described bytes)) 0 m) (first_fault (input_fault (described bytes)) 0 m)) n
