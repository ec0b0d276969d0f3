-- What the plan of every table value keeps to, and which places of its cores have a task.
use Rattle.std.proofs.Common.{◌≡◌, ℕ, ◌<◌, ◌≤◌, length, Some, None, sym, ap, ◌∙◌, subst, inl, inr, ⊎_elim, arith}
use Rattle.std.proofs.lemmas.Bool.{cases_lt}
use Rattle.table.specs.Rows.{Plan, nothing, row, named, nth_on, tasks_on}
use Rattle.table.specs.Lawful.{EmptyOrLawful}
use Rattle.table.proofs.Places.{nth_none, nth_within, named_small, named_some}

-- few cores and rows, each row on a core of it, each span forwards, no row before the end of an earlier row on its core
pub record Ordered (p : Plan) : Type 0 where
  pub few : p.cores ≤ 8
  pub short : length p.rows ≤ 384
  pub on_core : (t : ℕ) → t < length p.rows → (row p t).core < p.cores
  pub spans : (t : ℕ) → t < length p.rows → (row p t).start < (row p t).end
  pub after : (t u : ℕ) → t < u → u < length p.rows → (row p t).core ≡ (row p u).core → (row p t).end ≤ (row p u).start

-- the empty plan and every lawful one are so
pub ordered : (p : Plan) → EmptyOrLawful p → Ordered p
ordered p (inl e) = subst Ordered (sym e) none
  where
    none : Ordered nothing
    none = record {
      few = omega arith;
      short = omega arith;
      on_core = λ t h. absurd (omega arith);
      spans = λ t h. absurd (omega arith);
      after = λ t u l h. absurd (omega arith);
    }
ordered p (inr h) = record { few = h.0.few_cores; short = h.0.few_tasks; on_core = h.1.on_a_core; spans = h.1.forward; after = h.1.in_order }

-- a place of a core that has a task names it, one without names none
module _ (p : Plan) (o : Ordered p) (k n : ℕ) where
  pub nth_some : n < tasks_on p.rows k → named (nth_on k n 0 p.rows) ≡ Some (nth_on k n 0 p.rows)
  nth_some h = named_small (nth_on k n 0 p.rows) (omega (arith, nth_within k n p.rows h, o.short))

  pub nth_past : tasks_on p.rows k ≤ n → named (nth_on k n 0 p.rows) ≡ None
  nth_past h = ap named (nth_none k n 0 p.rows h)

  -- what a place names is the task there
  pub some_nth : (t : ℕ) → named (nth_on k n 0 p.rows) ≡ Some t → (nth_on k n 0 p.rows ≡ t) × (t < length p.rows)
  some_nth t e = ⊎_elim
      (λ h. let i = named_some _ t e in (i, subst (λ u. u < length p.rows) i (nth_within k n p.rows h)))
      (λ h. let z : Some t ≡ None = sym e ∙ nth_past h in cc)
      (cases_lt n (tasks_on p.rows k))

  -- where no task is named, the number is past all rows
  pub none_nth : named (nth_on k n 0 p.rows) ≡ None → length p.rows ≤ nth_on k n 0 p.rows
  none_nth e = ⊎_elim
      (λ h. let z : Some (nth_on k n 0 p.rows) ≡ None = sym (nth_some h) ∙ e in cc)
      (λ h. omega (arith, nth_none k n 0 p.rows h, o.short))
      (cases_lt n (tasks_on p.rows k))
