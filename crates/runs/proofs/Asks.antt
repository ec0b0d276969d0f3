-- One ask to each core: no core is asked twice, and nothing else is called.
use Rattle.std.proofs.Common.{◌≡◌, ℕ, zero, suc, ◌+◌, ◌<◌, ◌≤◌, Bool, true, cond, eqb, List, [], ◌∷◌, length, count_by, refl, ⊎_elim, arith}
use Rattle.std.proofs.lemmas.Bool.{cases_Bool, cases_lt, false≢true, eqb-true, eq-eqb, or_cases, cond-true, cond-false}
use Rattle.table.specs.Rows.{Plan}
use Rattle.table.proofs.Places.{count_one, count_yes, count_no}
use Rattle.calls.specs.declared.Call.{Call}
use Rattle.calls.specs.declared.Call.TheVariants.{Ask, End}
use Rattle.runs.specs.declared.Event.{Event}
use Rattle.runs.specs.Sums.{total}
use Rattle.runs.specs.Log.{asking, asks, occurs}
use Rattle.runs.specs.Promises.{AskEach}
use Rattle.runs.proofs.Totals.{total_none, total_le, total_less}

-- the sum over the cores below n
abbrev sum : ℕ → (ℕ → ℕ) → ℕ
sum n g = total n (λ _. true) g

-- sums: one that is no more at each core, a sum of two, and one of ones
sum_le : (n : ℕ) (g h : ℕ → ℕ) → ((k : ℕ) → k < n → g k ≤ h k) → sum n g ≤ sum n h
sum_le n g h = total_le (λ _. true) (λ _. true) g h n

sum_add : (n : ℕ) (g h : ℕ → ℕ) → sum n (λ k. g k + h k) ≡ sum n g + sum n h
sum_add zero g h = refl
sum_add (suc n) g h = omega (arith, sum_add n g h)

sum_ones : (n : ℕ) → sum n (λ _. 1) ≡ n
sum_ones zero = refl
sum_ones (suc n) = omega (arith, sum_ones n)

-- what an event adds to the asks of core k
abbrev pub adds_to : Event → ℕ → ℕ
adds_to e k = cond (asks k e) 1 0

-- the core that an event asks is at most one
one_core : (n j : ℕ) → (sum n (λ k. cond (eqb k j) 1 0) ≤ 1) × (0 < sum n (λ k. cond (eqb k j) 1 0) → j < n)
one_core zero j = (omega arith, λ h. absurd (omega arith))
one_core (suc n) j =
    let ih = one_core n j in
    ⊎_elim
    (λ e.
    let d = eqb-true n j e in
    let c = cond-true {A = ℕ} (eqb n j) 1 0 e in
    (⊎_elim (λ z. absurd (omega (arith, ih.1 z, d))) (λ z. omega (arith, c, z)) (cases_lt 0 (sum n (λ k. cond (eqb k j) 1 0))), λ h. omega arith))
    (λ e.
    let c = cond-false {A = ℕ} (eqb n j) 1 0 e in
    (omega (arith, c, ih.0), λ h. omega (arith, ih.1 (omega (arith, c, h)))))
    (cases_Bool (eqb n j))

-- and so is the core that a call asks
one_call : (n : ℕ) (c : Call) → (sum n (λ k. cond (asking k c) 1 0) ≤ 1) × (0 < sum n (λ k. cond (asking k c) 1 0) → (j : ℕ) × (j < n) × (asking j c ≡ true))
one_call n (Ask j t) = let r = one_core n j in (r.0, λ h. (j, r.1 h, eq-eqb j j refl))
one_call n (End j u t) = let z = total_none n (λ _. true) in (omega arith, λ h. absurd (omega arith))

-- how many asks of the cores below n these events are
asked : ℕ → List Event → ℕ
asked n es = sum n (λ k. count_by (asks k) es)

-- one event more, for one core and for all; at most one ask for each event
pub count_cons : (k : ℕ) (e : Event) (es : List Event) → count_by (asks k) (e ∷ es) ≡ adds_to e k + count_by (asks k) es
count_cons k e es = count_one (asks k) e es

asked_cons : (n : ℕ) (e : Event) (es : List Event) → asked n (e ∷ es) ≡ sum n (adds_to e) + asked n es
unfolding asked
asked_cons n e es =
    let a = sum_le n (λ k. count_by (asks k) (e ∷ es)) (λ k. adds_to e k + count_by (asks k) es) (λ k _. omega (arith, count_cons k e es)) in
    let b = sum_le n (λ k. adds_to e k + count_by (asks k) es) (λ k. count_by (asks k) (e ∷ es)) (λ k _. omega (arith, count_cons k e es)) in
    omega (arith, a, b, sum_add n (adds_to e) (λ k. count_by (asks k) es))

asked_le : (n : ℕ) (es : List Event) → asked n es ≤ length es
asked_le n [] = unfold asked in omega (arith, total_none n (λ _. true))
asked_le n (e ∷ es) = omega (arith, asked_cons n e es, asked_le n es, (one_call n e.call).0)

-- each event asks a core below n that no later one asks
abbrev pub Fresh : ℕ → List Event → Type 0
Fresh n [] = Unit {0}
Fresh n (e ∷ es) = ((k : ℕ) × (k < n) × (asks k e ≡ true) × (count_by (asks k) es ≡ 0)) × Fresh n es

-- it does, where there is an ask for each event and at most one of each core
fresh_from : (n : ℕ) (es : List Event) → length es ≤ asked n es → ((k : ℕ) → k < n → count_by (asks k) es ≤ 1) → Fresh n es
fresh_from n [] h most = tt
fresh_from n (e ∷ es) h most =
    let c = one_call n e.call in
    let s = asked_cons n e es in
    let l = asked_le n es in
    let k = c.1 (omega (arith, s, l, h)) in
    let m = most k.0 k.1 in (
      (k.0, k.1, k.2, omega (arith, m, count_yes (asks k.0) e es k.2)),
      fresh_from n es (omega (arith, s, h, c.0)) (λ j q. omega (arith, most j q, count_cons j e es)),
    )

-- what occurs counts
occurs_counts : (f : Event → Bool) (es : List Event) → occurs f es ≡ true → 0 < count_by f es
occurs_counts f [] h = absurd (false≢true h)
occurs_counts f (e ∷ es) h = ⊎_elim
    (λ y. omega (arith, count_yes f e es y))
    (λ y. ⊎_elim (λ z. omega (arith, count_yes f e es z)) (λ z. omega (arith, count_no f e es z, occurs_counts f es y)) (cases_Bool (f e)))
    (or_cases (f e) (occurs f es) h)

-- where there is one ask to each core, each core is asked, and no event asks a core that a later one asks
module _ {p : Plan} {now : ℕ} {es : List Event} (a : AskEach p now es) where
  pub each_asked : (k : ℕ) → k < p.cores → 0 < count_by (asks k) es
  each_asked k l = occurs_counts (asks k) es (a.each k l)

  pub each_fresh : Fresh p.cores es
  each_fresh =
      let n = p.cores in
      let ones = sum_ones n in
      let ge = sum_le n (λ _. 1) (λ k. count_by (asks k) es) each_asked in
      fresh_from n es (unfold asked in omega (arith, a.count)) (λ k l. ⊎_elim
      (λ two. absurd (omega (arith, a.count, asked_sum, total_less (λ _. true) (λ _. true) (λ _. 1) (λ k. count_by (asks k) es) n k l each_asked two)))
      (λ h. h)
      (cases_lt 1 (count_by (asks k) es)))
    where
      asked_sum : sum p.cores (λ k. count_by (asks k) es) ≤ length es
      asked_sum = unfold asked in asked_le p.cores es
