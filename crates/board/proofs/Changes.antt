-- What the cores of a progress value are as its rows say, and what a change of one row leaves of them.
use Rattle.std.proofs.Common.{◌≡◌, ℕ, suc, ◌<◌, ◌≤◌, Bool, true, false, ltb, List, map, get_or, take, set, Some, None, Option, sym, refl, ap, subst, ◌∙◌, ⊎_elim, arith}
use mathlib.Core.List.{map-map}
use Rattle.std.proofs.Math.ListN.{get_or-map}
use Rattle.std.proofs.Math.Seq.{map-set_same}
use Rattle.std.specs.List.{range_with_len}
use Rattle.std.proofs.lemmas.Bool.{cases_lt, cases_eq, ltb-false, eq-eqb, lt-ltb, le-ltb, le-leb, and_from, cond-true, cond-false, cond_both}
use Rattle.std.proofs.lemmas.List.{get_or_past, get_or_default, get_or-take, length-take, get_or-set_same, get_or-set_other, set-get_or, length-set, map-set}
use Rattle.std.proofs.lemmas.List.FromFn.{length-map-range_with_len, get_or-map-range_with_len, take-map-range_with_len}
use Rattle.table.specs.Rows.{Plan, named, nth_on, tasks_on}
use Rattle.table.specs.View.{plan_of}
use Rattle.table.specs.declared.lawful.Table.{Table}
use Rattle.table.proofs.Below.{all_from}
use Rattle.table.proofs.Tables.{task_at, no_task_at, off_table}
use Rattle.board.specs.Steps.{is_running, is_over}
use Rattle.board.specs.Meaning.{idle, ended_on, step_of, next_task, rest, rested, opened, stepped, ended_one}
use Rattle.board.specs.Keeps.{cores_of, nexts_of, agrees, same_task, keeps_at, keeps}
use Rattle.board.specs.Standing.{plan_at, progress_at, untouched, row_at_start}
use Rattle.board.specs.Keeping.{take_set_in, Kept, keeps_parts, Left, left_at, running_left}
use Rattle.board.specs.declared.cores.Core.{Core}
use Rattle.board.specs.declared.cores.CoreRow.{CoreRow}
use Rattle.board.specs.declared.cores.Step.{Step}
use Rattle.board.specs.declared.cores.Step.TheVariants.{Waiting, Over}
use Rattle.board.specs.declared.progress.Progress.{Progress}

same_self : (a : Option ℕ) → same_task a a ≡ true
same_self None = refl
same_self (Some t) = eq-eqb t t refl

is_same : (a b : Option ℕ) → a ≡ b → same_task a b ≡ true
is_same a b e = subst (λ x. same_task a x ≡ true) e (same_self a)

pub keeps_from : (p : Plan) (cs : List Core) (ns : List (Option ℕ)) → Kept p cs ns → keeps p cs ns ≡ true
unfolding keeps
keeps_from p cs ns h = and_from _ _ (eq-eqb _ _ h.many) (and_from _ _ (le-leb _ _ h.room)
    (all_from p.cores (keeps_at p cs ns) (λ k l. and_from _ _ (h.each k l) (is_same _ _ (h.names k l)))))

-- another row and another next task of core k
pub keeps_set : (p : Plan) (cs : List Core) (ns : List (Option ℕ)) (k : ℕ) (c : Core) (t : Option ℕ) → keeps p cs ns ≡ true → k < p.cores →
    agrees (tasks_on p.rows k) c ≡ true → t ≡ named (nth_on k c.ended 0 p.rows) → keeps p (set cs k c) (set ns k t) ≡ true
keeps_set p cs ns k c t h l f d =
    let a = keeps_parts p cs ns h in
    let here : get_or (set cs k c) k idle ≡ c = get_or-set_same cs k c idle (omega (arith, l, a.many)) in
    keeps_from p (set cs k c) (set ns k t) (record {
      many = length-set cs k c ∙ a.many;
      room = omega (arith, a.room, length-set ns k t);
      each = λ j m. ⊎_elim
          (λ e. subst (λ i. agrees (tasks_on p.rows i) (get_or (set cs k c) i idle) ≡ true) (sym e) (ap (agrees (tasks_on p.rows k)) here ∙ f))
          (λ e. ap (agrees (tasks_on p.rows j)) (get_or-set_other cs k j c idle e) ∙ a.each j m)
          (cases_eq j k);
      names = λ j m. ⊎_elim
          (λ e. subst (λ i. get_or (set ns k t) i None ≡ next_task p (set cs k c) i) (sym e) (get_or-set_same ns k t None (omega (arith, l, a.room)) ∙ (d ∙ ap (λ (x : Core). named (nth_on k x.ended 0 p.rows)) (sym here))))
          (λ e. get_or-set_other ns k j t None e ∙ (a.names j m ∙ ap (λ (x : Core). named (nth_on j x.ended 0 p.rows)) (sym (get_or-set_other cs k j c idle e))))
          (cases_eq j k);
    })

-- another step of core k, whose next task stays
pub keeps_step : (p : Plan) (cs : List Core) (ns : List (Option ℕ)) (k : ℕ) (s : Step) → keeps p cs ns ≡ true → k < p.cores →
    ended_on cs k < tasks_on p.rows k → is_over s ≡ false → keeps p (set cs k (record { ended = ended_on cs k; step = s })) ns ≡ true
keeps_step p cs ns k s h l m o =
    let c : Core = record { ended = ended_on cs k; step = s } in
    ap (λ xs. keeps p (set cs k c) xs) (sym (set-get_or ns k None))
    ∙ keeps_set p cs ns k c (get_or ns k None) h l (cond-false (is_over s) _ _ o ∙ lt-ltb _ _ m) ((keeps_parts p cs ns h).names k l)

-- a row of one of the table's cores as the code reads it
abbrev pub zeroed : Core
zeroed = record { ended = 0; step = Waiting }

abbrev pub zeroed_row : CoreRow
zeroed_row = record { core = zeroed; next = None }

pub row_read : (x : Progress) (k : ℕ) → k < (plan_at x).cores → (get_or x.cores.rows k zeroed_row).core ≡ get_or (progress_at x) k idle
row_read x k l =
    let a = keeps_parts (plan_at x) (progress_at x) (nexts_of x.cores.rows) x.ok in
    sym (get_or-map (λ (r : CoreRow). r.core) x.cores.rows k zeroed_row)
    ∙ (get_or_default (cores_of x.cores.rows) k zeroed idle (omega (arith, l, a.many, length-take (plan_at x).cores (cores_of x.cores.rows)))
    ∙ sym (get_or-take (plan_at x).cores (cores_of x.cores.rows) k idle l))

-- the next task is at hand; a core that the table lacks has none
pub next_known : (x : Progress) (k : ℕ) → k < (plan_at x).cores → (get_or x.cores.rows k zeroed_row).next ≡ next_task (plan_at x) (progress_at x) k
next_known x k l = sym (get_or-map (λ (r : CoreRow). r.next) x.cores.rows k zeroed_row) ∙ (keeps_parts (plan_at x) (progress_at x) (nexts_of x.cores.rows) x.ok).names k l

pub off_idle : (x : Progress) (k : ℕ) → (plan_at x).cores ≤ k → get_or (progress_at x) k idle ≡ idle
off_idle x k l = get_or_past (progress_at x) k idle (omega (arith, l, (keeps_parts (plan_at x) (progress_at x) (nexts_of x.cores.rows) x.ok).many))

pub next_off : (x : Progress) (k : ℕ) → (plan_at x).cores ≤ k → next_task (plan_at x) (progress_at x) k ≡ None
next_off x k l = ap (λ (c : Core). named (nth_on k c.ended 0 (plan_at x).rows)) (off_idle x k l) ∙ no_task_at x.table k 0 (omega (arith, off_table x.table k l))

-- the cores after a write to the row of one, and the next tasks
row_written : (x : Progress) (k : ℕ) (r : CoreRow) → take (plan_at x).cores (cores_of (set x.cores.rows k r)) ≡ set (progress_at x) k r.core
row_written x k r = ap (take (plan_at x).cores) (map-set (λ (r : CoreRow). r.core) x.cores.rows k r) ∙ take_set_in (plan_at x).cores (cores_of x.cores.rows) k r.core

pub row_moved : (x : Progress) (k : ℕ) (s : Step) (r : CoreRow) → k < (plan_at x).cores → r.core ≡ record { ended = (get_or x.cores.rows k zeroed_row).core.ended; step = s } →
    take (plan_at x).cores (cores_of (set x.cores.rows k r)) ≡ stepped (progress_at x) k s
row_moved x k s r l e = row_written x k r ∙ ap (set (progress_at x) k) (e ∙ ap (λ (c : Core). record { ended = c.ended; step = s }) (row_read x k l))

pub row_ended : (x : Progress) (k : ℕ) (s : Step) (r : CoreRow) → k < (plan_at x).cores → s ≡ rest (plan_at x) k (suc (ended_on (progress_at x) k)) →
    r.core ≡ record { ended = suc (get_or x.cores.rows k zeroed_row).core.ended; step = s } → take (plan_at x).cores (cores_of (set x.cores.rows k r)) ≡ ended_one (plan_at x) (progress_at x) k
row_ended x k s r l q e =
    row_written x k r
    ∙ ap (set (progress_at x) k) (e ∙ (ap (λ (c : Core). record { ended = suc c.ended; step = s }) (row_read x k l) ∙ ap (λ (s : Step). record { ended = suc (ended_on (progress_at x) k); step = s }) q))

-- a task of core k moves to another step
module _ (x : Progress) (k : ℕ) (s : Step) (r : CoreRow) (l : Left x k)
    (e : r ≡ record { core = record { ended = (get_or x.cores.rows k zeroed_row).core.ended; step = s }; next = (get_or x.cores.rows k zeroed_row).next }) where
  pub moves : take (plan_at x).cores (cores_of (set x.cores.rows k r)) ≡ stepped (progress_at x) k s
  moves = row_moved x k s r l.there (ap (λ (r : CoreRow). r.core) e)

  pub moves_kept : is_over s ≡ false → keeps (plan_at x) (take (plan_at x).cores (cores_of (set x.cores.rows k r))) (nexts_of (set x.cores.rows k r)) ≡ true
  moves_kept o =
      ap (λ (cs : List Core). keeps (plan_at x) cs (nexts_of (set x.cores.rows k r))) moves
      ∙ (ap (keeps (plan_at x) (stepped (progress_at x) k s)) (map-set_same (λ (r : CoreRow). r.next) x.cores.rows k r zeroed_row (ap (λ (r : CoreRow). r.next) e))
      ∙ keeps_step (plan_at x) (progress_at x) (nexts_of x.cores.rows) k s x.ok l.there l.left o)

-- the step of an untouched task
pub untouched_rest : (t : Table) (k e : ℕ) → untouched (named (nth_on k e 0 (plan_of t).rows)) ≡ rest (plan_of t) k e
untouched_rest t k e = ⊎_elim
    (λ l. ap untouched (task_at t k e l) ∙ sym (cond-true (ltb e (tasks_on (plan_of t).rows k)) Waiting Over (lt-ltb _ _ l)))
    (λ l. ap untouched (no_task_at t k e l) ∙ sym (cond-false (ltb e (tasks_on (plan_of t).rows k)) Waiting Over (le-ltb _ _ l)))
    (cases_lt e (tasks_on (plan_of t).rows k))

pub rest_agrees : (p : Plan) (k e : ℕ) → e ≤ tasks_on p.rows k → agrees (tasks_on p.rows k) (rested p k e) ≡ true
rest_agrees p k e l = cond_both (ltb e (tasks_on p.rows k)) Waiting Over (λ s. agrees (tasks_on p.rows k) (record { ended = e; step = s }) ≡ true)
    (λ h. h) (λ h. eq-eqb _ _ (omega (arith, l, ltb-false e (tasks_on p.rows k) h)))

-- the cores of a board that was opened
pub opened_at : (p : Plan) (k : ℕ) → k < p.cores → get_or (opened p) k idle ≡ rested p k 0
opened_at p k l = get_or-map-range_with_len (λ k. rested p k 0) 0 p.cores k k idle l (omega arith)

pub keeps_opened : (p : Plan) → p.cores ≤ 8 → keeps p (opened p) (map (λ k. named (nth_on k 0 0 p.rows)) (range_with_len 0 8)) ≡ true
keeps_opened p few = keeps_from p (opened p) (map (λ k. named (nth_on k 0 0 p.rows)) (range_with_len 0 8)) (record {
  many = length-map-range_with_len (λ k. rested p k 0) 0 p.cores;
  room = omega (arith, few, length-map-range_with_len (λ k. named (nth_on k 0 0 p.rows)) 0 8);
  each = λ k l. ap (agrees (tasks_on p.rows k)) (opened_at p k l) ∙ rest_agrees p k 0 (omega arith);
  names = λ k l. get_or-map-range_with_len (λ k. named (nth_on k 0 0 p.rows)) 0 8 k k None (omega arith) (omega arith)
      ∙ ap (λ (x : Core). named (nth_on k x.ended 0 p.rows)) (sym (opened_at p k l));
})

pub opened_front : (p : Plan) (cs : List Core) → p.cores ≤ 8 → cs ≡ map (λ k. rested p k 0) (range_with_len 0 8) → take p.cores cs ≡ opened p
opened_front p cs few e = ap (take p.cores) e ∙ take-map-range_with_len (λ k. rested p k 0) 0 8 p.cores few

module _ (p : Plan) (rows : List CoreRow) (few : p.cores ≤ 8) (e : rows ≡ map (row_at_start p) (range_with_len 0 8)) where
  pub opens : take p.cores (cores_of rows) ≡ opened p
  opens = opened_front p (cores_of rows) few (ap cores_of e ∙ map-map (λ (r : CoreRow). r.core) (row_at_start p) (range_with_len 0 8))

  pub opens_kept : keeps p (take p.cores (cores_of rows)) (nexts_of rows) ≡ true
  opens_kept =
      ap (λ (cs : List Core). keeps p cs (nexts_of rows)) opens
      ∙ (ap (keeps p (opened p)) (ap nexts_of e ∙ map-map (λ (r : CoreRow). r.next) (row_at_start p) (range_with_len 0 8)) ∙ keeps_opened p few)

-- a task of core k ends, and the one after it is at hand
module _ (x : Progress) (k : ℕ) (after : Option ℕ) (s : Step) (r : CoreRow) (l : Left x k) (a : after ≡ named (nth_on k (suc (ended_on (progress_at x) k)) 0 (plan_at x).rows))
    (u : s ≡ untouched after) (e : r.core ≡ record { ended = suc (get_or x.cores.rows k zeroed_row).core.ended; step = s }) where
  pub ends : take (plan_at x).cores (cores_of (set x.cores.rows k r)) ≡ ended_one (plan_at x) (progress_at x) k
  ends = row_ended x k s r l.there (u ∙ (ap untouched a ∙ untouched_rest x.table k (suc (ended_on (progress_at x) k)))) e

  pub ends_kept : r.next ≡ after → keeps (plan_at x) (take (plan_at x).cores (cores_of (set x.cores.rows k r))) (nexts_of (set x.cores.rows k r)) ≡ true
  ends_kept n =
      ap (λ (cs : List Core). keeps (plan_at x) cs (nexts_of (set x.cores.rows k r))) ends
      ∙ (ap (keeps (plan_at x) (ended_one (plan_at x) (progress_at x) k)) (map-set (λ (r : CoreRow). r.next) x.cores.rows k r ∙ ap (set (nexts_of x.cores.rows) k) n)
      ∙ keeps_set (plan_at x) (progress_at x) (nexts_of x.cores.rows) k (rested (plan_at x) k (suc (ended_on (progress_at x) k))) after x.ok l.there
      (rest_agrees (plan_at x) k (suc (ended_on (progress_at x) k)) (omega (arith, l.left))) a)

pub runs_left : (x : Progress) (k : ℕ) (c : Core) (b : Bool) → c ≡ get_or (progress_at x) k idle → b ≡ is_running c.step → b ≡ true → Left x k
runs_left x k c b e r h = left_at x k (running_left (step_of (progress_at x) k) (ap (λ (c : Core). is_running c.step) (sym e) ∙ (sym r ∙ h)))
