-- An easing keeps the vectors in agreement with the progress.
use Rattle.std.proofs.Common.{◌≡◌, ℕ, zero, suc, ◌-◌, ◌<◌, ◌≤◌, Bool, true, false, cond, not, ◌&&◌, eqb, ltb, ◌⊎◌, List, length, get_or, Some, None, sym, refl, ap, ◌∙◌, subst, subst₂, inl, inr, arith}
use Rattle.std.proofs.lemmas.Bool.{ltb-true, leb-true, leb-false, ne_eqb, eqb-false, cases_lt, and_parts, and_cases, and_left, not-true, not-false, both_ways, cond_both, cond-false}
use Rattle.std.proofs.lemmas.List.{length-set}
use Rattle.table.specs.Sets.{has, with, without}
use Rattle.table.specs.Rows.{Plan, row, named, wait}
use Rattle.table.proofs.Tables.{nth_within}
use Rattle.board.specs.Steps.{is_waiting}
use Rattle.board.specs.Meaning.{idle, ended_on, step_of, next, met, stepped, eased}
use Rattle.board.specs.declared.cores.Core.{Core}
use Rattle.board.specs.declared.cores.Step.TheVariants.{Loose}
use Rattle.board.specs.Keeping.{waiting_left}
use Rattle.vectors.specs.Phases.{Standing, vectors_at, ready_of, notify_of, target_of, set_ready, drops, withdraw, retarget, hand_on, drop_bit, ease_vectors, vectors_easable, board_eased}
use Rattle.vectors.specs.declared.state.Vectors.{Vectors}
use Rattle.vectors.proofs.Pair.{Kept, Alike, alike, alike_self, drop_kept_off, drop_kept_on}
use Rattle.vectors.proofs.Entries.{unready_same, unready_other, unready_keeps, ready_same, ready_other, untold_same, untold_other, untold_keeps, notify-set_ready, target-set_ready, ready-set_notify, target-set_notify, target_same, target_other, target_wide, ready-set_target, notify-set_target}
use Rattle.table.proofs.Ordered.{Ordered, nth_some, nth_past}
use Rattle.vectors.proofs.Passing.{passed, passed_before, passed_after, passed_else, passed_none, passed_all, fewer}
use Rattle.vectors.proofs.Places.{nth, tasks, nth_one, nth_only, following_is}
use Rattle.vectors.proofs.Agree.{Shaped, Starts, Pair, Agree, waits, bits, waits_rise, waiting_from, easing_each, easable_right}
use Rattle.vectors.proofs.Started.{either_progress, stepped_here, stepped_there, stepped_ended, stepped_left}
use Rattle.vectors.proofs.Finished.{apart, from_later}

-- task t drops its ready bit j: core c is not told of the end of task x any more, or task y is told
abbrev dropped_of : Vectors → ℕ → ℕ → Vectors
dropped_of v t j = set_ready v t (without (ready_of v t) j)

abbrev let_go : Vectors → ℕ → ℕ → ℕ → ℕ → Vectors
let_go v t x c j = withdraw (dropped_of v t j) (Some x) c

abbrev handed : Vectors → ℕ → ℕ → ℕ → ℕ → ℕ → Vectors
handed v t x y c j = retarget (set_ready (dropped_of v t j) y (with (ready_of (dropped_of v t j) y) j)) (Some x) c y

-- the vectors once core c is not told any more
module _ (v : Vectors) (t x c j : ℕ) where
  let_go_ready : (r i : ℕ) → has (ready_of (let_go v t x c j) r) i ≡ has (ready_of (dropped_of v t j) r) i
  let_go_ready r i = ap (λ z. has z i) (ready-set_notify (dropped_of v t j) x _ r)

  let_go_notify : (r i : ℕ) → i < 8 → (r ≡ x → i ≡ c → ⊥) → has (notify_of (let_go v t x c j) r) i ≡ has (notify_of v r) i
  let_go_notify r i h n = untold_other (dropped_of v t j) x c r i h n ∙ ap (λ z. has z i) (notify-set_ready v t _ r)

  let_go_silent : (r i : ℕ) → i < 8 → has (notify_of v r) i ≡ false → has (notify_of (let_go v t x c j) r) i ≡ false
  let_go_silent r i h e = untold_keeps (dropped_of v t j) x c r i h (ap (λ z. has z i) (notify-set_ready v t _ r) ∙ e)

  let_go_target : (r : ℕ) → (vectors_at (let_go v t x c j) r).target ≡ (vectors_at v r).target
  let_go_target r = target-set_notify (dropped_of v t j) x _ r ∙ target-set_ready v t _ r

-- and once task y of core c is told
module _ (v : Vectors) (t x y c j : ℕ) where
  taken : Vectors
  taken = set_ready (dropped_of v t j) y (with (ready_of (dropped_of v t j) y) j)

  taken_target : (r : ℕ) → (vectors_at taken r).target ≡ (vectors_at v r).target
  unfolding taken
  taken_target r = target-set_ready (dropped_of v t j) y _ r ∙ target-set_ready v t _ r

  handed_ready : (r i : ℕ) → has (ready_of (handed v t x y c j) r) i ≡ has (ready_of taken r) i
  unfolding taken
  handed_ready r i = ap (λ z. has z i) (ready-set_target taken x c y r)

  handed_notify : (r i : ℕ) → has (notify_of (handed v t x y c j) r) i ≡ has (notify_of v r) i
  unfolding taken
  handed_notify r i = ap (λ z. has z i) (notify-set_target taken x c y r ∙ (notify-set_ready (dropped_of v t j) y _ r ∙ notify-set_ready v t _ r))

  handed_target : (r k : ℕ) → (r ≡ x → k ≡ c → ⊥) → target_of (handed v t x y c j) r k ≡ target_of v r k
  unfolding taken
  handed_target r k n = target_other taken x c y r k n ∙ ap (λ z. get_or z k None) (taken_target r)

module _ (p : Plan) (o : Ordered p) (cs : List Core) (v : Vectors) (s : Agree p cs v) (c : ℕ) (hc : c < p.cores) (w : is_waiting (step_of cs c) ≡ true) where
  -- the eased core has a task left
  l : ended_on cs c < tasks p c
  l = s.left c hc (waiting_left (step_of cs c) w)

  -- the eased core
  loose : Core
  loose = record { ended = ended_on cs c; step = Loose }

  -- how core d stands to core j, once the cores below n are gone through
  abbrev seen : ℕ → ℕ → ℕ → Core
  seen = passed c loose (λ d. get_or cs d idle)

  -- the vectors u, once the cores below n are gone through
  record Mid (n : ℕ) (u : Vectors) : Type 0 where
    shape : Shaped u
    alone : (d i : ℕ) → d < p.cores → i < tasks p d → has (ready_of u (nth p d i)) d ≡ false
    silent : (d y : ℕ) → d < p.cores → y < tasks p d → has (notify_of u (nth p d y)) d ≡ false
    beyond : (r j : ℕ) → p.cores ≤ j → j < 8 → has (ready_of u r) j ≡ false
    beyond_told : (r d : ℕ) → p.cores ≤ d → d < 8 → has (notify_of u r) d ≡ false
    pairs : (d j : ℕ) → d < p.cores → j < p.cores → (d ≡ j → ⊥) → Pair p u d j (seen n d j) (ended_on cs j)

  -- before any core is gone through
  mid_none : Mid 0 v
  mid_none = record {
    shape = s.shape;
    alone = s.alone;
    silent = s.silent;
    beyond = s.beyond;
    beyond_told = s.beyond_told;
    pairs = λ d j hd hj n. rw (passed_none c loose (λ d. get_or cs d idle) d j) (s.pairs d j hd hj n);
  }

  -- a change of the pair (c, n) alone: the other pairs stay as they were
  pair_else : (n : ℕ) (u u' : Vectors) → Mid n u → (d j : ℕ) → ((i : ℕ) → has (ready_of u (nth p d i)) j ≡ false → has (ready_of u' (nth p d i)) j ≡ false) →
      d < p.cores → j < p.cores → (d ≡ j → ⊥) → (d ≡ c → j ≡ n → ⊥) → Alike (waits p d j) (bits p u d j) (bits p u' d j) →
      Pair p u' d j (seen (suc n) d j) (ended_on cs j)
  pair_else n u u' m d j off hd hj dj ne a =
      let pr = m.pairs d j hd hj dj in
      rw (passed_else c loose (λ d. get_or cs d idle) n d j ne) record {
        start = pr.start;
        from = from_later (seen n d j).step (seen n d j).ended pr.start _ _ (ended_on cs j) (ended_on cs j) _ _ (omega arith) (off (seen n d j).ended) pr.from;
        kept = alike (waits p d j) (ended_on cs j) pr.start (bits p u d j) (bits p u' d j) a pr.kept;
      }

  module _ (n : ℕ) (hn : n < p.cores) (u : Vectors) (m : Mid n u) where
    -- the pair of the eased core and core n, all its waits in force
    kept_before : (c ≡ n → ⊥) → Kept (waits p c n) (ended_on cs n) (ended_on cs c) (bits p u c n)
    kept_before cn =
        let pr = m.pairs c n hc hn cn in
        let fr = subst (λ r. Starts p u c n r (ended_on cs n) pr.start) (passed_before c loose (λ d. get_or cs d idle) n) pr.from in
        subst (λ x. Kept (waits p c n) (ended_on cs n) x (bits p u c n)) (waiting_from (step_of cs c) (ended_on cs c) pr.start _ _ (ended_on cs n) _ w fr) pr.kept

    -- a wait that is met, or on a data core, stays
    stays_here : (c ≡ n → ⊥) → drops p v c (next p cs c) n ≡ false → Pair p u c n (seen (suc n) c n) (ended_on cs n)
    unfolding loose
    stays_here cn off = rw (passed_after c loose (λ d. get_or cs d idle) n) record {
      start = ended_on cs c;
      kept = kept_before cn;
      from = inl (refl, why (and_cases (not (eqb n c)) _ (sym (easing_each p o cs v s c hc w n hn) ∙ off)));
    }
      where
        D : Bool
        D = has (row p (next p cs c)).inputs n

        M : Bool
        M = met p cs (next p cs c) n

        which : ((not D ≡ false) ⊎ (not M ≡ false)) → (D ≡ true) ⊎ (wait p.rows (row p (next p cs c)) n ≤ ended_on cs n)
        which (inl q) = inl (not-false D q)
        which (inr q) = inr (leb-true (wait p.rows (row p (next p cs c)) n) (ended_on cs n) (not-false M q))

        why : ((not (eqb n c) ≡ false) ⊎ ((not D && not M) ≡ false)) → (D ≡ true) ⊎ (wait p.rows (row p (next p cs c)) n ≤ ended_on cs n)
        why (inl q) = absurd (both_ways (eqb n c) (ne_eqb n c (λ e. cn (sym e))) (not-false (eqb n c) q))
        why (inr q) = which (and_cases (not D) (not M) q)

    stays : drops p v c (next p cs c) n ≡ false → Mid (suc n) u
    stays off = record { shape = m.shape; alone = m.alone; silent = m.silent; beyond = m.beyond; beyond_told = m.beyond_told; pairs = λ d j hd hj dj. go d j hd hj dj (apart d c j n) }
      where
        go : (d j : ℕ) → d < p.cores → j < p.cores → (d ≡ j → ⊥) → (((d ≡ c) × (j ≡ n)) ⊎ (d ≡ c → j ≡ n → ⊥)) → Pair p u d j (seen (suc n) d j) (ended_on cs j)
        go d j hd hj dj (inl q) = rw (q.0, q.1) (stays_here (λ g. dj (q.0 ∙ (g ∙ sym q.1))) off)
        go d j hd hj dj (inr ne) = pair_else n u u m d j (λ i g. g) hd hj dj ne (alike_self (waits p d j) (bits p u d j))

    -- both cores are among the 8
    n8 : n < 8
    n8 = omega (arith, o.few)

    c8 : c < 8
    c8 = omega (arith, o.few)

    -- an unmet wait on a core that is no data core is dropped: t is the eased task, W its wait, x the task that would complete it, y the task after t
    module _ (on : drops p v c (next p cs c) n ≡ true) where
      t : ℕ
      t = nth p c (ended_on cs c)

      W : ℕ
      W = wait p.rows (row p (nth p c (ended_on cs c))) n

      x : ℕ
      x = nth p n (wait p.rows (row p (nth p c (ended_on cs c))) n - 1)

      y : ℕ
      y = nth p c (suc (ended_on cs c))

      -- why it is dropped: another core, without a data bit, and an unmet wait
      why : (not (eqb n c) ≡ true) × ((not (has (row p (next p cs c)).inputs n) && not (met p cs (next p cs c) n)) ≡ true)
      why = and_parts (not (eqb n c)) (not (has (row p (next p cs c)).inputs n) && not (met p cs (next p cs c) n)) (sym (easing_each p o cs v s c hc w n hn) ∙ on)

      cn : c ≡ n → ⊥
      cn e = eqb-false n c (not-true (eqb n c) why.0) (sym e)

      no_data : has (row p (next p cs c)).inputs n ≡ false
      no_data = not-true (has (row p (next p cs c)).inputs n) (and_parts (not (has (row p (next p cs c)).inputs n)) (not (met p cs (next p cs c) n)) why.1).0

      unmet : ended_on cs n < W
      unfolding W
      unmet = leb-false (wait p.rows (row p (next p cs c)) n) (ended_on cs n)
          (not-true (met p cs (next p cs c) n) (and_parts (not (has (row p (next p cs c)).inputs n)) (not (met p cs (next p cs c) n)) why.1).1)

      -- the wait counts tasks of core n, so its last one is there
      x_in : W - 1 < tasks p n
      unfolding W
      x_in = omega (arith, unmet, (waits_rise p o c n).bounded (ended_on cs c) l)

      x_below : x < 384
      unfolding x W
      x_below = omega (arith, nth_within n (W - 1) p.rows x_in, o.short)

      t_below : t < length u.tasks
      unfolding t
      t_below = omega (arith, nth_within c (ended_on cs c) p.rows l, o.short, m.shape.tasks)

      -- there is room in the vectors once the bit is dropped
      dropped_long : length (dropped_of u t n).tasks ≡ 384
      dropped_long = length-set u.tasks t _ ∙ m.shape.tasks

      dropped_room : x < length (dropped_of u t n).tasks
      dropped_room = omega (arith, x_below, dropped_long)

      -- a ready bit that is not there does not come
      gone : (d i j : ℕ) → j < 8 → has (ready_of u (nth p d i)) j ≡ false → has (ready_of (let_go u t x c n) (nth p d i)) j ≡ false
      gone d i j h e = let_go_ready u t x c n (nth p d i) j ∙ unready_keeps u t n (nth p d i) j h e

      -- only place W - 1 of core n is x
      x_only : (j i : ℕ) → i < tasks p j → nth p j i ≡ x → (j ≡ n) × (suc i ≡ W)
      unfolding x W
      x_only j i h e = let q = nth_one p j n i (W - 1) h x_in e in (q.0, omega (arith, q.1, unmet))

      x_is : (i : ℕ) → suc i ≡ W → x ≡ nth p n i
      unfolding x W
      x_is i e = let q : W - 1 ≡ i = omega (arith, e) in ap (nth p n) q

      -- the task after t has none of this wait to take over
      off_here : (suc (ended_on cs c) < tasks p c → has (ready_of u y) n ≡ true) → Pair p (let_go u t x c n) c n (seen (suc n) c n) (ended_on cs n)
      unfolding loose t y W
      off_here last = rw (passed_after c loose (λ d. get_or cs d idle) n) record {
        start = suc (ended_on cs c);
        from = inr (refl, no_data, let_go_ready u t x c n t n ∙ unready_same u t n t_below n8);
        kept = drop_kept_off (waits p c n) (waits_rise p o c n) (ended_on cs n) (ended_on cs c) (bits p u c n) (kept_before cn) l unmet last (bits p (let_go u t x c n) c n)
            (λ i ne hi. let_go_ready u t x c n (nth p c i) n ∙ unready_other u t n (nth p c i) n n8 (λ q g. ne (nth_one p c c i (ended_on cs c) hi l q).1))
            refl
            (λ i ne hi. let_go_notify u t x c n (nth p n i) c c8 (λ q g. ne (x_only n i hi q).1))
            (λ i e. subst (λ z. has (notify_of (let_go u t x c n) z) c ≡ false) (x_is i e) (untold_same (dropped_of u t n) x c dropped_room c8))
            (λ i hi. ap (λ z. get_or z c None) (let_go_target u t x c n (nth p n i)));
      }

      -- and all other pairs stay
      off_all : (suc (ended_on cs c) < tasks p c → has (ready_of u y) n ≡ true) → Mid (suc n) (let_go u t x c n)
      unfolding t
      off_all last = record {
        shape = record { tasks = length-set (dropped_of u t n).tasks x _ ∙ (length-set u.tasks t _ ∙ m.shape.tasks); wide = λ r h. ap length (let_go_target u t x c n r) ∙ m.shape.wide r h; status = m.shape.status };
        alone = λ d i hd hi. gone d i d (omega (arith, o.few)) (m.alone d i hd hi);
        silent = λ d i hd hi. let_go_silent u t x c n (nth p d i) d (omega (arith, o.few)) (m.silent d i hd hi);
        beyond = λ r j a b. let_go_ready u t x c n r j ∙ unready_keeps u t n r j b (m.beyond r j a b);
        beyond_told = λ r d a b. let_go_silent u t x c n r d b (m.beyond_told r d a b);
        pairs = λ d j hd hj dj. go d j hd hj dj (apart d c j n);
      }
        where
          go : (d j : ℕ) → d < p.cores → j < p.cores → (d ≡ j → ⊥) → (((d ≡ c) × (j ≡ n)) ⊎ (d ≡ c → j ≡ n → ⊥)) → Pair p (let_go u t x c n) d j (seen (suc n) d j) (ended_on cs j)
          go d j hd hj dj (inl q) = rw (q.0, q.1) (off_here last)
          go d j hd hj dj (inr ne) = pair_else n u (let_go u t x c n) m d j (λ i. gone d i j (omega (arith, o.few))) hd hj dj ne (record {
            ready = λ i hi. let_go_ready u t x c n (nth p d i) j ∙ unready_other u t n (nth p d i) j (omega (arith, o.few)) (λ q g. ne (nth_one p d c i (ended_on cs c) hi l q).0 g);
            status = refl;
            notify = λ i hi. let_go_notify u t x c n (nth p j i) d (omega (arith, o.few)) (λ q g. ne g (x_only j i hi q).0);
            target = λ i hi. ap (λ z. get_or z d None) (let_go_target u t x c n (nth p j i));
          })

      -- the task after t is another one
      module _ (sl : suc (ended_on cs c) < tasks p c) where
        ty : y ≡ t → ⊥
        unfolding t y
        ty e = let q = nth_one p c c (suc (ended_on cs c)) (ended_on cs c) sl l e in omega (arith, q.1)

        y_below : y < length u.tasks
        unfolding y
        y_below = omega (arith, nth_within c (suc (ended_on cs c)) p.rows sl, o.short, m.shape.tasks)

        -- so its bit is the same after t has dropped its own
        first_y : has (ready_of (dropped_of u t n) y) n ≡ has (ready_of u y) n
        first_y = unready_other u t n y n n8 (λ q g. ty q)

      -- the task after t takes the wait over
      module _ (sl : suc (ended_on cs c) < tasks p c) (clear : has (ready_of u y) n ≡ false) where
        -- what the ready vectors hold then
        ready_y : has (ready_of (handed u t x y c n) y) n ≡ true
        unfolding taken
        ready_y = handed_ready u t x y c n y n ∙ ready_same (dropped_of u t n) y n (omega (arith, y_below sl, m.shape.tasks, dropped_long)) n8

        ready_t : has (ready_of (handed u t x y c n) t) n ≡ false
        unfolding taken
        ready_t = handed_ready u t x y c n t n ∙ (ready_other (dropped_of u t n) y n t n n8 (λ e g. ty sl (sym e)) ∙ unready_same u t n t_below n8)

        ready_else : (r j : ℕ) → j < 8 → (r ≡ t → j ≡ n → ⊥) → (r ≡ y → j ≡ n → ⊥) → has (ready_of (handed u t x y c n) r) j ≡ has (ready_of u r) j
        unfolding taken
        ready_else r j j8 nt ny = handed_ready u t x y c n r j ∙ (ready_other (dropped_of u t n) y n r j j8 ny ∙ unready_other u t n r j j8 nt)

        -- of other pairs it says what it said
        ready_there : (d i j : ℕ) → j < 8 → (d ≡ c → j ≡ n → ⊥) → has (ready_of (handed u t x y c n) (nth p d i)) j ≡ has (ready_of u (nth p d i)) j
        unfolding t y
        ready_there d i j j8 ne = ready_else (nth p d i) j j8 (λ q. ne (nth_only p o d c i (ended_on cs c) l q).0) (λ q. ne (nth_only p o d c i (suc (ended_on cs c)) sl q).0)

        -- there is still room for a target on each core
        wide : (r : ℕ) → r < 384 → length (vectors_at (handed u t x y c n) r).target ≡ 8
        unfolding taken
        wide r h = target_wide (taken u t x y c n) x c y r ∙ (ap length (taken_target u t x y c n r) ∙ m.shape.wide r h)

        taken_long : length (taken u t x y c n).tasks ≡ 384
        unfolding taken
        taken_long = length-set (dropped_of u t n).tasks y _ ∙ dropped_long

        told_y : target_of (handed u t x y c n) x c ≡ Some y
        unfolding taken
        told_y = target_same (taken u t x y c n) x c y (omega (arith, x_below, taken_long)) (omega (arith, c8, ap length (taken_target u t x y c n x), m.shape.wide x x_below))

        -- the pair of the eased core and core n
        on_here : Pair p (handed u t x y c n) c n (seen (suc n) c n) (ended_on cs n)
        unfolding loose t y W
        on_here = rw (passed_after c loose (λ d. get_or cs d idle) n) record {
          start = suc (ended_on cs c);
          from = inr (refl, no_data, ready_t);
          kept = drop_kept_on (waits p c n) (waits_rise p o c n) (ended_on cs n) (ended_on cs c) (bits p u c n) (kept_before cn) sl unmet clear (bits p (handed u t x y c n) c n)
              (λ i ne ne' hi. ready_else (nth p c i) n n8 (λ q g. ne (nth_one p c c i (ended_on cs c) hi l q).1) (λ q g. ne' (nth_one p c c i (suc (ended_on cs c)) hi sl q).1))
              ready_y refl (λ i hi. handed_notify u t x y c n (nth p n i) c)
              (λ i ne hi. handed_target u t x y c n (nth p n i) c (λ q g. ne (x_only n i hi q).1))
              (λ i e hi. subst (λ z. target_of (handed u t x y c n) z c ≡ Some y) (x_is i e) told_y);
        }

        -- and all other pairs
        on_all : Mid (suc n) (handed u t x y c n)
        unfolding t taken
        on_all = record {
          shape = record {
            tasks = length-set (taken u t x y c n).tasks x _ ∙ taken_long;
            wide = wide;
            status = m.shape.status;
          };
          alone = λ d i hd hi. ready_there d i d (omega (arith, o.few)) (λ q g. cn (sym q ∙ g)) ∙ m.alone d i hd hi;
          silent = λ d i hd hi. handed_notify u t x y c n (nth p d i) d ∙ m.silent d i hd hi;
          beyond = λ r j a b. ready_else r j b (λ q g. omega (arith, g, a, hn)) (λ q g. omega (arith, g, a, hn)) ∙ m.beyond r j a b;
          beyond_told = λ r d a b. handed_notify u t x y c n r d ∙ m.beyond_told r d a b;
          pairs = λ d j hd hj dj. go d j hd hj dj (apart d c j n);
        }
          where
            go : (d j : ℕ) → d < p.cores → j < p.cores → (d ≡ j → ⊥) → (((d ≡ c) × (j ≡ n)) ⊎ (d ≡ c → j ≡ n → ⊥)) → Pair p (handed u t x y c n) d j (seen (suc n) d j) (ended_on cs j)
            go d j hd hj dj (inl q) = rw (q.0, q.1) on_here
            go d j hd hj dj (inr ne) = pair_else n u (handed u t x y c n) m d j (λ i g. ready_there d i j (omega (arith, o.few)) ne ∙ g) hd hj dj ne (record {
              ready = λ i hi. ready_there d i j (omega (arith, o.few)) ne;
              status = refl;
              notify = λ i hi. handed_notify u t x y c n (nth p j i) d;
              target = λ i hi. handed_target u t x y c n (nth p j i) d (λ q g. ne g (x_only j i hi q).0);
            })

      -- the bit is dropped, in one of the two ways
      dropped : Mid (suc n) (drop_bit p u c (next p cs c) n)
      unfolding t x y W
      dropped = subst₂ (λ a b. Mid (suc n) (hand_on (dropped_of u t n) a c b n)) (sym (following_is p c (ended_on cs c) l)) (sym (nth_some p o n (W - 1) x_in)) (go (cases_lt (suc (ended_on cs c)) (tasks p c)))
        where
          go : ((suc (ended_on cs c) < tasks p c) ⊎ (tasks p c ≤ suc (ended_on cs c))) → Mid (suc n) (hand_on (dropped_of u t n) (named (nth p c (suc (ended_on cs c)))) c (Some x) n)
          go (inl sl) = subst (λ a. Mid (suc n) (hand_on (dropped_of u t n) a c (Some x) n)) (sym (nth_some p o c (suc (ended_on cs c)) sl))
              (cond_both (has (ready_of (dropped_of u t n) y) n) (let_go u t x c n) (handed u t x y c n) (Mid (suc n)) (λ q. off_all (λ h. sym (first_y sl) ∙ q)) (λ q. on_all sl (sym (first_y sl) ∙ q)))
          go (inr g) = subst (λ a. Mid (suc n) (hand_on (dropped_of u t n) a c (Some x) n)) (sym (nth_past p o c (suc (ended_on cs c)) g)) (off_all (λ h. absurd (omega (arith, g, h))))

  -- once the cores below n are gone through
  mid_all : (n : ℕ) → n ≤ p.cores → Mid n (ease_vectors n p v c (next p cs c))
  mid_all zero h = mid_none
  mid_all (suc n) h =
      let u = ease_vectors n p v c (next p cs c) in
      let m = mid_all n (omega arith) in
      cond_both (drops p v c (next p cs c) n) (drop_bit p u c (next p cs c) n) u (Mid (suc n)) (dropped n (omega arith) u m) (stays n (omega arith) u m)

  -- the eased core is loose, the others are as they were
  seen_all : (d j : ℕ) → j < p.cores → seen p.cores d j ≡ get_or (stepped cs c Loose) d idle
  unfolding loose
  seen_all d j h = passed_all c loose (λ d. get_or cs d idle) (λ d. get_or (stepped cs c Loose) d idle) (stepped_here cs c Loose (omega (arith, s.long))) (stepped_there cs c Loose (omega (arith, s.long))) p.cores d j h

  -- what the easing of a waiting task leaves
  eases : Agree p (stepped cs c Loose) (ease_vectors p.cores p v c (next p cs c))
  eases = record {
    long = length-set cs c _ ∙ s.long;
    shape = m.shape;
    left = λ d hd. stepped_left cs c Loose hl p d (s.left d hd) (waiting_left (step_of cs c) w);
    alone = m.alone;
    silent = m.silent;
    beyond = m.beyond;
    beyond_told = m.beyond_told;
    pairs = λ d j hd hj n. subst₂ (λ r E. Pair p (ease_vectors p.cores p v c (next p cs c)) d j r E) (seen_all d j hj) (sym (stepped_ended cs c Loose hl j)) (m.pairs d j hd hj n);
  }
    where
      hl : c < length cs
      hl = omega (arith, s.long)

      m : Mid p.cores (ease_vectors p.cores p v c (next p cs c))
      m = mid_all p.cores (omega arith)

-- an easing does to the progress what the meaning says
pub progress_eased : (p : Plan) → Ordered p → (b : Standing) → Agree p b.progress b.vectors → (k : ℕ) → (board_eased p b k).progress ≡ eased p b.progress k
progress_eased p o b s k = either_progress (vectors_easable p b k) b _ ∙ ap (λ x. cond x (stepped b.progress k Loose) b.progress) (easable_right p o b s k)

-- an easing keeps the agreement
pub agree_eased : (p : Plan) → Ordered p → (b : Standing) → Agree p b.progress b.vectors → (k : ℕ) → Agree p (board_eased p b k).progress (board_eased p b k).vectors
agree_eased p o b s k = cond_both (vectors_easable p b k) _ b (λ (z : Standing). Agree p z.progress z.vectors) easing (λ e. s)
  where
    t : ℕ
    t = next p b.progress k

    easing : vectors_easable p b k ≡ true → Agree p (stepped b.progress k Loose) (ease_vectors 8 p b.vectors k (next p b.progress k))
    easing e =
        let q = and_parts (ltb k p.cores) _ e in
        let r = and_parts (is_waiting (step_of b.progress k)) _ q.1 in
        let all : ease_vectors 8 p b.vectors k t ≡ ease_vectors p.cores p b.vectors k t =
        fewer (λ n. ease_vectors n p b.vectors k t) p.cores 8 o.few (λ j a l. cond-false (drops p b.vectors k t j) _ _ (and_left (has (ready_of b.vectors t) j) _ (s.beyond t j a l))) in
        subst (Agree p (stepped b.progress k Loose)) (sym all) (eases p o b.progress b.vectors s k (ltb-true k p.cores q.0) r.0)
