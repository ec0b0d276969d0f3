-- The tasks of an ordered plan and their places on its cores.
use Rattle.std.proofs.Common.{◌≡◌, ℕ, ◌<◌, ◌≤◌, false, eqb, sym, refl, ap, ◌∙◌, subst, ⊎_elim, arith}
use Rattle.std.proofs.lemmas.Bool.{cases_lt, ne_eqb}
use Rattle.table.specs.Rows.{Plan, row, wait, nth_on, tasks_on}
use Rattle.table.proofs.Places.{before, Ascend, nth_found, nth_at, before_lt, before_mono, counted, counts, wait_le}
use Rattle.table.proofs.Ordered.{Ordered}
use Rattle.runs.specs.Promises.{Task}

-- task t is the (n+1)th of core k
pub record At (p : Plan) (k n t : ℕ) : Type 0 where
  pub task : Task p t
  pub core : (row p t).core ≡ k
  pub place : before k p.rows t ≡ n

-- the task that nth_on names
pub at_next : (p : Plan) (k n : ℕ) → n < tasks_on p.rows k → At p k n (nth_on k n 0 p.rows)
at_next p k n h =
    let f = nth_found k n 0 p.rows h in
    let e : f.at ≡ nth_on k n 0 p.rows = omega (arith, f.is) in
    subst (At p k n) e (record { task = f.within; core = f.core; place = f.place })

-- each task has its place
pub at_task : (p : Plan) (t : ℕ) → Task p t → At p (row p t).core (before (row p t).core p.rows t) t
at_task p t h = record { task = h; core = refl; place = refl }

-- a task is the one that its place names, and its place is below the number of its core's tasks
at_named : {p : Plan} {k n t : ℕ} → At p k n t → t ≡ nth_on k n 0 p.rows
at_named {p} {k} {n} {t} a =
    let e = nth_at k 0 t p.rows a.task a.core in
    omega (arith, e, ap (λ m. nth_on k m 0 p.rows) a.place)

pub at_below : {p : Plan} {k n t : ℕ} → At p k n t → n < tasks_on p.rows k
at_below {p} {k} {n} {t} a = omega (arith, before_lt k p.rows t a.task a.core, a.place)

-- there is one task at a place
pub same_at : {p : Plan} {k n t u : ℕ} → At p k n t → At p k n u → t ≡ u
same_at a b = at_named a ∙ sym (at_named b)

-- tasks at different places differ
pub apart : {p : Plan} {k n t j m u : ℕ} → At p k n t → At p j m u → (k ≡ j → n ≡ m → ⊥) → eqb t u ≡ false
apart {p} {k} {n} {t} {j} {m} {u} a b differ = ne_eqb t u (λ e.
    let c : k ≡ j = sym a.core ∙ (ap (λ x. (row p x).core) e ∙ b.core) in
    differ c (sym a.place ∙ (ap (λ x. before k p.rows x) e ∙ (ap (λ i. before i p.rows u) c ∙ b.place))))

module _ {p : Plan} (o : Ordered p) where
  -- along a core, the earlier ends before the later starts
  pub sooner : {k m n a b : ℕ} → At p k m a → At p k n b → m < n → (row p a).end ≤ (row p b).start
  sooner {k} {m} {n} {a} {b} x y h = ⊎_elim
      (λ l. o.after a b l y.task (x.core ∙ sym y.core))
      (λ l. absurd (omega (arith, h, before_mono k p.rows b a l, x.place, y.place)))
      (cases_lt a b)

  -- what ends by the start of another is earlier
  pub earlier : {k m n a b : ℕ} → At p k m a → At p k n b → (row p a).end ≤ (row p b).start → m < n
  earlier {k} {m} {n} {a} {b} x y h = ⊎_elim (λ l. l) (λ l. absurd (⊎_elim
      (λ l. omega (arith, h, sooner y x l, o.spans a x.task, o.spans b y.task))
      (λ g. omega (arith, h, o.spans b y.task, ap (λ t. (row p t).end) (same_at x (subst (λ i. At p k i b) (omega arith) y))))
      (cases_lt n m))) (cases_lt m n)

  -- the ends of a core's rows ascend
  ascend : (k : ℕ) → Ascend k p.rows
  ascend k i j l h c d = omega (arith, o.after i j l h (c ∙ sym d), o.spans j h)

  -- a wait counts the tasks that end by the start, and no others
  pub awaits : {k n a : ℕ} (t : ℕ) → At p k n a → (row p a).end ≤ (row p t).start → n < wait p.rows (row p t) k
  awaits {k} {n} {a} t x h = subst (λ i. i < wait p.rows (row p t) k) x.place (counted k (row p t).start p.rows (ascend k) a x.task x.core h)

  pub awaited : {k n a : ℕ} (t : ℕ) → At p k n a → n < wait p.rows (row p t) k → (row p a).end ≤ (row p t).start
  awaited {k} {n} {a} t x h = counts k (row p t).start p.rows (ascend k) a x.task x.core (subst (λ i. i < wait p.rows (row p t) k) (sym x.place) h)

-- a wait counts no more than the tasks of its core
pub wait_within : (p : Plan) (t k : ℕ) → wait p.rows (row p t) k ≤ tasks_on p.rows k
wait_within p t k = wait_le k (row p t).start p.rows
