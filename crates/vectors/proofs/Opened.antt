-- The first vectors agree with the progress of a board that was just opened.
use Rattle.std.proofs.Common.{◌≡◌, ℕ, zero, suc, ◌+◌, ◌-◌, ◌<◌, ◌≤◌, Bool, true, false, not, ◌&&◌, eqb, ltb, ◌⊎◌, length, get_or, is_some, Some, None, Option, sym, refl, ap, ◌∙◌, subst, subst₂, inl, inr, ⊎_elim, arith}
use Rattle.std.proofs.lemmas.Bool.{ltb-true, lt-ltb, le-ltb, eqb-true, eqb-false, eq-eqb, ne_eqb, cases_eq, cases_lt, and_parts, and_from, and_left, and_right, not-true, not_from_true, not_from_false, true≢false, both_ways, cond_both, cond-true, cond-false}
use Rattle.std.proofs.lemmas.List.{length-replicate, get_or-replicate, get_or_past}
use Rattle.std.proofs.lemmas.List.FromFn.{length-map-range_with_len, get_or-map-range_with_len}
use Rattle.table.specs.Below.{first_from}
use Rattle.table.specs.Sets.{has, none}
use Rattle.table.specs.Rows.{Plan, row, on, named, nth_on, wait}
use Rattle.table.proofs.Sets.{set_at, has_none}
use Rattle.table.proofs.Places.{before, before_lt, nth_at, wait_le}
use Rattle.table.proofs.Tables.{named_some, nth_within}
use Rattle.board.specs.Steps.{is_over}
use Rattle.board.specs.Meaning.{rested, opened}
use Rattle.board.specs.declared.cores.Core.{Core}
use Rattle.board.proofs.Changes.{opened_at}
use Rattle.vectors.specs.Links.{place, wait_before, begins, completer, is_task, aims, first_target}
use Rattle.vectors.specs.declared.state.TaskVectors.{TaskVectors}
use Rattle.vectors.specs.Phases.{no_vectors, vectors_at, task_vectors, first_vectors, ready_of, notify_of, target_of, status_of}
use Rattle.vectors.proofs.Pair.{Kept, Told}
use Rattle.table.proofs.Ordered.{Ordered, nth_some}
use Rattle.vectors.proofs.Places.{nth, tasks, nth_one, nth_core, nth_place, none_past}
use Rattle.vectors.proofs.Agree.{Shaped, Pair, Agree, waits, bits, waits_rise}
use Rattle.vectors.proofs.Finished.{rest_from, rest_left}

-- what a search over n numbers from i on answers: none, and the test fails at each, or one at which it holds
abbrev Answers : (ℕ → Bool) → ℕ → ℕ → Option ℕ → Type 0
Answers f i n None = (r : ℕ) → i ≤ r → r < i + n → f r ≡ false
Answers f i n (Some t) = (t < i + n) × (f t ≡ true)

answers : (f : ℕ → Bool) (i n : ℕ) → Answers f i n (first_from f i n)
answers f i zero = λ r h g. absurd (omega arith)
answers f i (suc n) = cond_both (f i) (Some i) (first_from f (suc i) n) (Answers f i (suc n)) (λ e. (omega arith, e)) (λ e. go e (first_from f (suc i) n) (answers f (suc i) n))
  where
    go : f i ≡ false → (a : Option ℕ) → Answers f (suc i) n a → Answers f i (suc n) a
    go e None q = λ r h g. ⊎_elim (λ d. ap f d ∙ e) (λ d. q r (omega arith) (omega arith)) (cases_eq r i)
    go e (Some t) q = (omega (arith, q.0), q.1)

-- the task that an answer names
is_task_some : (x : ℕ) (a : Option ℕ) → is_task x a ≡ true → a ≡ Some x
is_task_some x None h = absurd (true≢false (sym h))
is_task_some x (Some y) h = ap Some (eqb-true y x h)

-- the wait of place i of core c on core k
abbrev waited : Plan → ℕ → ℕ → ℕ → ℕ
waited p c k i = wait p.rows (row p (nth p c i)) k

-- a test that holds may be left out
and_known : (x y : Bool) → x ≡ true → (x && y) ≡ y
and_known true y e = refl
and_known false y e = absurd (true≢false (sym e))

module _ (p : Plan) (o : Ordered p) where
  -- what the first vectors hold
  first_at : (t : ℕ) → t < 384 → vectors_at (first_vectors p) t ≡ task_vectors p t
  first_at t h = get_or-map-range_with_len (task_vectors p) 0 384 t t no_vectors h (omega arith)

  first_ready : (t k : ℕ) → t < 384 → k < 8 → has (ready_of (first_vectors p) t) k ≡ begins p t k
  unfolding task_vectors
  first_ready t k h hk = ap (λ (z : TaskVectors). has z.ready k) (first_at t h) ∙ set_at (begins p t) k hk

  first_notify : (x c : ℕ) → x < 384 → c < 8 → has (notify_of (first_vectors p) x) c ≡ is_some (first_target p x c)
  unfolding task_vectors
  first_notify x c h hc = ap (λ (z : TaskVectors). has z.notify c) (first_at x h) ∙ set_at (λ c. is_some (first_target p x c)) c hc

  first_aim : (x c : ℕ) → x < 384 → c < 8 → target_of (first_vectors p) x c ≡ first_target p x c
  unfolding task_vectors
  first_aim x c h hc = ap (λ (z : TaskVectors). get_or z.target c None) (first_at x h) ∙ get_or-map-range_with_len (first_target p x) 0 8 c c None hc (omega arith)

  first_status : (c k : ℕ) → c < 8 → has (status_of (first_vectors p) c) k ≡ false
  first_status c k hc = ap (λ z. has z k) (get_or-replicate 8 c none none hc) ∙ has_none k

  -- the first vectors have the room that they need
  shaped : Shaped (first_vectors p)
  unfolding task_vectors
  shaped = record {
    tasks = length-map-range_with_len (task_vectors p) 0 384;
    wide = λ x h. ap (λ (z : TaskVectors). length z.target) (first_at x h) ∙ length-map-range_with_len (first_target p x) 0 8;
    status = length-replicate 8 none;
  }

  -- a task that the table has is within the vectors
  in_room : (c i : ℕ) → i < tasks p c → nth p c i < 384
  in_room c i h = omega (arith, nth_within c i p.rows h, o.short)

  -- a task begins to wait on another core where its wait exceeds that of the place before
  module _ (c k : ℕ) (n : c ≡ k → ⊥) where
    not_self : (i : ℕ) → i < tasks p c → not (on k (row p (nth p c i))) ≡ true
    not_self i h = not_from_false _ (ne_eqb (row p (nth p c i)).core k (λ e. n (sym (nth_core p c i h) ∙ e)))

    before_zero : (h : 0 < tasks p c) → wait_before p (nth p c 0) k ≡ 0
    before_zero h = cond-true (eqb (place p (nth p c 0)) 0) 0 _ (eq-eqb (place p (nth p c 0)) 0 (nth_place p c 0 h))

    before_suc : (i : ℕ) → suc i < tasks p c → wait_before p (nth p c (suc i)) k ≡ waited p c k i
    before_suc i h =
        let t = nth p c (suc i) in
        let e : place p t - 1 ≡ i = omega (arith, nth_place p c (suc i) h) in
        cond-false (eqb (place p t) 0) 0 _ (ne_eqb (place p t) 0 (λ q. omega (arith, nth_place p c (suc i) h))) ∙
        (ap (λ z. wait p.rows (row p (nth_on z (place p t - 1) 0 p.rows)) k) (nth_core p c (suc i) h) ∙ ap (λ z. wait p.rows (row p (nth_on c z 0 p.rows)) k) e)

    begins_zero : (h : 0 < tasks p c) → begins p (nth p c 0) k ≡ ltb 0 (waited p c k 0)
    begins_zero h = and_known _ _ (not_self 0 h) ∙ ap (λ z. ltb z (waited p c k 0)) (before_zero h)

    begins_suc : (i : ℕ) → suc i < tasks p c → begins p (nth p c (suc i)) k ≡ ltb (waited p c k i) (waited p c k (suc i))
    begins_suc i h = and_known _ _ (not_self (suc i) h) ∙ ap (λ z. ltb z (waited p c k (suc i))) (before_suc i h)

    -- a task that begins to wait waits
    begins_waits : (i : ℕ) → i < tasks p c → begins p (nth p c i) k ≡ true → 0 < waited p c k i
    begins_waits i h e = omega (arith, ltb-true (wait_before p (nth p c i) k) (waited p c k i) (and_parts _ _ e).1)

    module _ (hc : c < p.cores) (hk : k < p.cores) where
      -- the ready bit of place i
      bit : (i : ℕ) → i < tasks p c → has (ready_of (first_vectors p) (nth p c i)) k ≡ begins p (nth p c i) k
      bit i h = first_ready (nth p c i) k (in_room c i h) (omega (arith, o.few))

      -- the task that is told of the end of task y of core k
      told_first : (y : ℕ) → y < tasks p k → has (notify_of (first_vectors p) (nth p k y)) c ≡ true → Told (waits p c k) 0 (bits p (first_vectors p) c k) y
      told_first y h e = go (first_target p x c) refl (answers (aims p x c) 0 (length p.rows)) (sym (first_notify x c (in_room k y h) (omega (arith, o.few))) ∙ e)
        where
          x : ℕ
          x = nth p k y

          go : (a : Option ℕ) → first_target p x c ≡ a → Answers (aims p x c) 0 (length p.rows) a → is_some a ≡ true → Told (waits p c k) 0 (bits p (first_vectors p) c k) y
          go None is q some = absurd (true≢false (sym some))
          go (Some t) to q some =
              let lt : t < length p.rows = omega (arith, q.0) in
              let a = and_parts (on c (row p t)) _ q.1 in
              let b = and_parts (begins p t (row p x).core) _ a.1 in
              let ct : (row p t).core ≡ c = eqb-true (row p t).core c a.0 in
              let i = before c p.rows t in
              let hi : i < tasks p c = before_lt c p.rows t lt ct in
              let is : nth p c i ≡ t = nth_at c 0 t p.rows lt ct ∙ omega arith in
              let bg : begins p (nth p c i) k ≡ true = ap (λ z. begins p z k) is ∙ (ap (begins p t) (sym (nth_core p k y h)) ∙ b.0) in
              let pos : 0 < waited p c k i = begins_waits i hi bg in
              let cs : completer p (nth p c i) k ≡ Some x = ap (λ z. completer p z k) is ∙ (ap (completer p t) (sym (nth_core p k y h)) ∙ is_task_some x _ b.1) in
              let cx : nth p k (waited p c k i - 1) ≡ nth p k y = named_some (nth p k (waited p c k i - 1)) x cs in
              let up : waited p c k i - 1 < tasks p k = omega (arith, (waits_rise p o c k).bounded i hi) in
              let yy : waited p c k i - 1 ≡ y = (nth_one p k k (waited p c k i - 1) y up h cx).1 in
              record { place = i; above = omega arith; within = hi; waits = omega arith; bit = bit i hi ∙ bg; task = first_aim x c (in_room k y h) (omega (arith, o.few)) ∙ (to ∙ ap Some (sym is)) }

      -- a task that begins to wait, and whose wait task y of core k completes, is aimed at
      aimed_at : (y i : ℕ) → y < tasks p k → i < tasks p c → waited p c k i ≡ suc y → begins p (nth p c i) k ≡ true → aims p (nth p k y) c (nth p c i) ≡ true
      aimed_at y i h hi e bg =
          let cy = nth_core p k y h in
          let q : waited p c k i - 1 ≡ y = omega arith in
          let whole : completer p (nth p c i) (row p (nth p k y)).core ≡ Some (nth p k y) = ap (completer p (nth p c i)) cy ∙ (ap (λ z. named (nth p k z)) q ∙ nth_some p o k y h) in
          and_from _ _ (eq-eqb (row p (nth p c i)).core c (nth_core p c i hi))
          (and_from _ _ (ap (begins p (nth p c i)) cy ∙ bg) (ap (is_task (nth p k y)) whole ∙ eq-eqb (nth p k y) (nth p k y) refl))

      -- no task waits for the end of a task that nobody is told of
      module _ (y : ℕ) (h : y < tasks p k) (off : has (notify_of (first_vectors p) (nth p k y)) c ≡ false) where
        no_aim : (r : ℕ) → r < length p.rows → aims p (nth p k y) c r ≡ true → ⊥
        no_aim r hr e = go (first_target p (nth p k y) c) (answers (aims p (nth p k y) c) 0 (length p.rows)) (sym (first_notify (nth p k y) c (in_room k y h) (omega (arith, o.few))) ∙ off)
          where
            go : (a : Option ℕ) → Answers (aims p (nth p k y) c) 0 (length p.rows) a → is_some a ≡ false → ⊥
            go None q lacks = both_ways _ (q r (omega arith) (omega arith)) e
            go (Some t) q lacks = true≢false lacks

        untold_first : (i : ℕ) → i < tasks p c → waited p c k i ≡ suc y → ⊥
        untold_first zero hi e = no_aim (nth p c 0) (nth_within c 0 p.rows hi) (aimed_at y 0 h hi e (begins_zero hi ∙ lt-ltb 0 (waited p c k 0) (omega arith)))
        untold_first (suc i) hi e = go (untold_first i (omega arith)) (cases_lt (waited p c k i) (waited p c k (suc i)))
          where
            go : (waited p c k i ≡ suc y → ⊥) → ((waited p c k i < waited p c k (suc i)) ⊎ (waited p c k (suc i) ≤ waited p c k i)) → ⊥
            go ih (inl u) = no_aim (nth p c (suc i)) (nth_within c (suc i) p.rows hi) (aimed_at y (suc i) h hi e (begins_suc i hi ∙ lt-ltb (waited p c k i) (waited p c k (suc i)) u))
            go ih (inr u) = let up = (waits_rise p o c k).rises i (suc i) (omega arith) hi in ih (omega arith)

      -- no task with a met wait has its ready bit set
      free_first : (i : ℕ) → i < tasks p c → waited p c k i ≤ 0 → has (ready_of (first_vectors p) (nth p c i)) k ≡ true → ⊥
      free_first i hi m e = let q = begins_waits i hi (sym (bit i hi) ∙ e) in omega arith

      -- the bits of one pair of cores at the opening
      kept_first : Kept (waits p c k) 0 0 (bits p (first_vectors p) c k)
      kept_first = record {
        first = λ h u. bit 0 h ∙ (begins_zero h ∙ lt-ltb 0 (waited p c k 0) u);
        later = λ i h l u. bit (suc i) l ∙ begins_suc i l;
        held = λ e. absurd (true≢false (sym e ∙ first_status c k (omega (arith, o.few))));
        free = λ e i h l m b. free_first i l m b;
        told = λ y h l e. told_first y l e;
        untold = λ y h l e i a. untold_first y l e i;
      }

  -- each pair of cores at the opening
  pair_first : (c k : ℕ) → c < p.cores → k < p.cores → (c ≡ k → ⊥) → Pair p (first_vectors p) c k (rested p c 0) 0
  pair_first c k hc hk n = record { start = 0; from = rest_from (ltb 0 (tasks p c)) 0 0 _ _ 0 _ refl; kept = kept_first c k n hc hk }

  -- no core is told of its own tasks, and no task waits on its own core
  silent_first : (c y : ℕ) → c < p.cores → y < tasks p c → has (notify_of (first_vectors p) (nth p c y)) c ≡ false
  silent_first c y hc h = first_notify x c (in_room c y h) (omega (arith, o.few)) ∙ go (first_target p x c) (answers (aims p x c) 0 (length p.rows))
    where
      x : ℕ
      x = nth p c y

      go : (a : Option ℕ) → Answers (aims p x c) 0 (length p.rows) a → is_some a ≡ false
      go None q = refl
      go (Some t) q =
          let a = and_parts (on c (row p t)) _ q.1 in
          let b = and_parts (begins p t (row p x).core) _ a.1 in
          let d = and_parts (not (on (row p x).core (row p t))) _ b.0 in
          absurd (eqb-false (row p t).core (row p x).core (not-true _ d.0) (eqb-true (row p t).core c a.0 ∙ sym (nth_core p c y h)))

  alone_first : (c i : ℕ) → c < p.cores → i < tasks p c → has (ready_of (first_vectors p) (nth p c i)) c ≡ false
  alone_first c i hc h = first_ready (nth p c i) c (in_room c i h) (omega (arith, o.few)) ∙
      and_left (not (on c (row p (nth p c i)))) _ (not_from_true _ (eq-eqb (row p (nth p c i)).core c (nth_core p c i h)))

  -- no task waits on a core that the table lacks, and none is told there
  beyond_first : (t j : ℕ) → p.cores ≤ j → j < 8 → has (ready_of (first_vectors p) t) j ≡ false
  beyond_first t j a b = ⊎_elim
      (λ h. first_ready t j h b ∙ and_right (not (on j (row p t))) _ (le-ltb (wait_before p t j) (wait p.rows (row p t) j) (omega (arith, wait_le j (row p t).start p.rows, none_past p o j a))))
      (λ h. ap (λ (z : TaskVectors). has z.ready j) (get_or_past (first_vectors p).tasks t no_vectors (omega (arith, h, shaped.tasks))) ∙ has_none j)
      (cases_lt t 384)

  beyond_told_first : (x c : ℕ) → p.cores ≤ c → c < 8 → has (notify_of (first_vectors p) x) c ≡ false
  beyond_told_first x c a b = ⊎_elim
      (λ h. first_notify x c h b ∙ go (first_target p x c) (answers (aims p x c) 0 (length p.rows)))
      (λ h. ap (λ (z : TaskVectors). has z.notify c) (get_or_past (first_vectors p).tasks x no_vectors (omega (arith, h, shaped.tasks))) ∙ has_none c)
      (cases_lt x 384)
    where
      go : (a : Option ℕ) → Answers (aims p x c) 0 (length p.rows) a → is_some a ≡ false
      go None q = refl
      go (Some t) q =
          let e = and_parts (on c (row p t)) _ q.1 in
          absurd (omega (arith, eqb-true (row p t).core c e.0, o.on_core t (omega (arith, q.0)), a))

  -- opening begins in agreement
  pub agree_opened : Agree p (opened p) (first_vectors p)
  agree_opened = record {
    long = length-map-range_with_len (λ k. rested p k 0) 0 p.cores;
    shape = shaped;
    left = λ c hc t.
        let q = ltb-true 0 (tasks p c) (rest_left (ltb 0 (tasks p c)) (sym (ap (λ (r : Core). is_over r.step) (opened_at p c hc)) ∙ t)) in
        subst (λ (r : Core). r.ended < tasks p c) (sym (opened_at p c hc)) q;
    alone = alone_first;
    silent = silent_first;
    beyond = beyond_first;
    beyond_told = beyond_told_first;
    pairs = λ c k hc hk n. subst₂ (λ r E. Pair p (first_vectors p) c k r E) (sym (opened_at p c hc)) (sym (ap (λ (r : Core). r.ended) (opened_at p k hk))) (pair_first c k hc hk n);
  }
