-- An end keeps the vectors in agreement with the progress.
use Rattle.std.proofs.Common.{◌≡◌, ℕ, zero, suc, ◌<◌, ◌≤◌, Bool, true, false, cond, ltb, ◌⊎◌, List, length, get_or, set, Some, None, sym, refl, ap, ◌∙◌, subst, inl, inr, ⊎_elim, arith}
use Rattle.std.proofs.lemmas.Bool.{ltb-true, cases_eq, cases_lt, true≢false, both_ways, cond_both, cond-true, cond-false}
use Rattle.std.proofs.lemmas.List.{get_or-set_same, get_or-set_other, length-set, get_or_past}
use Rattle.table.specs.Sets.{has, with}
use Rattle.table.specs.Rows.{Plan}
use Rattle.table.proofs.Tables.{nth_within}
use Rattle.board.specs.Steps.{is_running, is_over}
use Rattle.board.specs.Meaning.{idle, ended_on, step_of, next, rested, ended_one, finished}
use Rattle.board.specs.declared.cores.Core.{Core}
use Rattle.board.specs.declared.cores.Step.{Step}
use Rattle.board.specs.declared.cores.Step.TheVariants.{Waiting, Loose, Running, Over}
use Rattle.board.specs.Keeping.{running_left}
use Rattle.vectors.specs.Phases.{Standing, ready_of, notify_of, status_of, set_status, unready, notice, end_vectors, board_finished}
use Rattle.vectors.specs.declared.state.Vectors.{Vectors}
use Rattle.vectors.proofs.Pair.{Kept, Told, Alike, alike, alike_self, end_kept_quiet, end_kept_set, end_kept_clear}
use Rattle.vectors.proofs.Entries.{unready_same, unready_other, unready_keeps, status_same, status_other, notify-set_ready, target-set_ready}
use Rattle.table.proofs.Ordered.{Ordered}
use Rattle.vectors.proofs.Passing.{passed, passed_before, passed_after, passed_else, passed_none, passed_all, fewer}
use Rattle.vectors.proofs.Places.{nth, tasks, nth_one}
use Rattle.vectors.proofs.Agree.{Shaped, From, Starts, Pair, Agree, waits, bits, waits_rise}

-- a status bit of core c set
abbrev marked : Vectors → ℕ → ℕ → Vectors
marked v c k = set_status v c (with (status_of v c) k)

-- both pairs are one, or not
pub apart : (a b c d : ℕ) → ((a ≡ b) × (c ≡ d)) ⊎ (a ≡ b → c ≡ d → ⊥)
apart a b c d = go (cases_eq a b) (cases_eq c d)
  where
    go : ((a ≡ b) ⊎ (a ≡ b → ⊥)) → ((c ≡ d) ⊎ (c ≡ d → ⊥)) → ((a ≡ b) × (c ≡ d)) ⊎ (a ≡ b → c ≡ d → ⊥)
    go (inl e) (inl g) = inl (e, g)
    go (inl e) (inr g) = inr (λ q. g)
    go (inr e) g = inr (λ q. absurd (e q))

-- a later count of ended tasks, and a bit that went, keep where the waits begin
pub from_later : (st : Step) (e f : ℕ) (d : Bool) (w E E' : ℕ) (b b' : Bool) → E ≤ E' → (b ≡ false → b' ≡ false) → From st e f d w E b → From st e f d w E' b'
from_later Waiting e f d w E E' b b' up off fr = fr
from_later Loose e f d w E E' b b' up off (inl (q, inl g)) = inl (q, inl g)
from_later Loose e f d w E E' b b' up off (inl (q, inr m)) = inl (q, inr (omega arith))
from_later Loose e f d w E E' b b' up off (inr q) = inr (q.0, q.1, off q.2)
from_later Running e f d w E E' b b' up off fr = fr
from_later Over e f d w E E' b b' up off fr = fr

-- where the waits begin at an untouched task, and after one that ran
pub rest_from : (b : Bool) (e f : ℕ) (d : Bool) (w E : ℕ) (bit : Bool) → f ≡ e → From (cond b Waiting Over) e f d w E bit
rest_from true e f d w E bit q = q
rest_from false e f d w E bit q = q

running_from : (st : Step) (e f : ℕ) (d : Bool) (w E : ℕ) (b : Bool) → is_running st ≡ true → From st e f d w E b → f ≡ suc e
running_from Running e f d w E b t fr = fr
running_from Loose e f d w E b t fr = absurd (true≢false (sym t))
running_from Waiting e f d w E b t fr = absurd (true≢false (sym t))
running_from Over e f d w E b t fr = absurd (true≢false (sym t))

-- an untouched task that is not over is there
pub rest_left : (b : Bool) → is_over (cond b Waiting Over) ≡ false → b ≡ true
rest_left true t = refl
rest_left false t = sym t

module _ (p : Plan) (o : Ordered p) (cs : List Core) (v : Vectors) (s : Agree p cs v) (k : ℕ) (hk : k < p.cores) (l : ended_on cs k < tasks p k) where
  -- how many tasks of core j have ended for core c, once the cores below n are told
  abbrev now : ℕ → ℕ → ℕ → ℕ
  now n c j = passed k (suc (ended_on cs k)) (ended_on cs) n j c

  -- the vectors u, once the cores below n are told that task `next k` ended
  record Mid (n : ℕ) (u : Vectors) : Type 0 where
    shape : Shaped u
    notify : (y : ℕ) → notify_of u y ≡ notify_of v y
    alone : (c i : ℕ) → c < p.cores → i < tasks p c → has (ready_of u (nth p c i)) c ≡ false
    beyond : (t j : ℕ) → p.cores ≤ j → j < 8 → has (ready_of u t) j ≡ false
    pairs : (c j : ℕ) → c < p.cores → j < p.cores → (c ≡ j → ⊥) → Pair p u c j (get_or cs c idle) (now n c j)

  -- before any core is told
  mid_none : Mid 0 v
  mid_none = record {
    shape = s.shape;
    notify = λ y. refl;
    alone = s.alone;
    beyond = s.beyond;
    pairs = λ c j hc hj n. rw (passed_none k (suc (ended_on cs k)) (ended_on cs) j c) (s.pairs c j hc hj n);
  }

  -- a change of the pair (n, k) alone: the other pairs stay as they were
  pair_else : (n : ℕ) (u u' : Vectors) → Mid n u → ((c i j : ℕ) → j < p.cores → has (ready_of u (nth p c i)) j ≡ false → has (ready_of u' (nth p c i)) j ≡ false) →
      (c j : ℕ) → c < p.cores → j < p.cores → (c ≡ j → ⊥) → (c ≡ n → j ≡ k → ⊥) → Alike (waits p c j) (bits p u c j) (bits p u' c j) →
      Pair p u' c j (get_or cs c idle) (now (suc n) c j)
  pair_else n u u' m off c j hc hj cj ne a =
      let pr = m.pairs c j hc hj cj in
      rw (passed_else k (suc (ended_on cs k)) (ended_on cs) n j c (λ e q. ne q e)) record {
        start = pr.start;
        from = from_later (step_of cs c) (ended_on cs c) pr.start _ _ (now n c j) (now n c j) _ _ (omega arith) (off c (ended_on cs c) j hj) pr.from;
        kept = alike (waits p c j) (now n c j) pr.start (bits p u c j) (bits p u' c j) a pr.kept;
      }

  module _ (n : ℕ) (hn : n < p.cores) (u : Vectors) (m : Mid n u) where
    -- core n has nothing to be told
    quiet_here : has (notify_of v (next p cs k)) n ≡ false → (n ≡ k → ⊥) → Pair p u n k (get_or cs n idle) (now (suc n) n k)
    quiet_here off nk =
        let pr = m.pairs n k hn hk nk in
        let kept = subst (λ E. Kept (waits p n k) E pr.start (bits p u n k)) (passed_before k (suc (ended_on cs k)) (ended_on cs) n) pr.kept in
        rw (passed_after k (suc (ended_on cs k)) (ended_on cs) n) record {
          start = pr.start;
          from = from_later (step_of cs n) (ended_on cs n) pr.start _ _ (now n n k) (suc (ended_on cs k)) _ _ (omega (arith, passed_before k (suc (ended_on cs k)) (ended_on cs) n)) (λ q. q) pr.from;
          kept = end_kept_quiet (waits p n k) (waits_rise p o n k) (ended_on cs k) pr.start (bits p u n k) kept l (ap (λ z. has z n) (m.notify (next p cs k)) ∙ off);
        }

    quiet : has (notify_of v (next p cs k)) n ≡ false → Mid (suc n) u
    quiet off = record {
      shape = m.shape;
      notify = m.notify;
      alone = m.alone;
      beyond = m.beyond;
      pairs = λ c j hc hj cj. go c j hc hj cj (apart c n j k);
    }
      where
        go : (c j : ℕ) → c < p.cores → j < p.cores → (c ≡ j → ⊥) → (((c ≡ n) × (j ≡ k)) ⊎ (c ≡ n → j ≡ k → ⊥)) → Pair p u c j (get_or cs c idle) (now (suc n) c j)
        go c j hc hj cj (inl q) = rw (q.0, q.1) (quiet_here off (λ g. cj (q.0 ∙ (g ∙ sym q.1))))
        go c j hc hj cj (inr ne) = pair_else n u u m (λ c i j hj g. g) c j hc hj cj ne (alike_self (waits p c j) (bits p u c j))

    -- core n is told: its task at t's place waits for this end
    module _ (f : ℕ) (from : Starts p u n k (get_or cs n idle) (now n n k) f) (kept : Kept (waits p n k) (ended_on cs k) f (bits p u n k))
        (t : Told (waits p n k) f (bits p u n k) (ended_on cs k)) where
      x : ℕ
      x = nth p n t.place

      x_below : x < length u.tasks
      unfolding x
      x_below = omega (arith, nth_within n t.place p.rows t.within, m.shape.tasks, o.short)

      -- the notice clears the target's ready bit
      clear_here : has (status_of u n) k ≡ true → Pair p (unready u (Some x) k) n k (get_or cs n idle) (now (suc n) n k)
      unfolding x
      clear_here σ = rw (passed_after k (suc (ended_on cs k)) (ended_on cs) n) record {
        start = f;
        from = from_later (step_of cs n) (ended_on cs n) f _ _ (now n n k) (suc (ended_on cs k)) _ _ (omega (arith, passed_before k (suc (ended_on cs k)) (ended_on cs) n)) (unready_keeps u x k (nth p n (ended_on cs n)) k (omega (arith, o.few))) from;
        kept = end_kept_clear (waits p n k) (waits_rise p o n k) (ended_on cs k) f (bits p u n k) kept t l σ (bits p (unready u (Some x) k) n k)
            (λ i ne hi. unready_other u x k (nth p n i) k (omega (arith, o.few)) (λ e q. ne (nth_one p n n i t.place hi t.within e).1))
            (unready_same u x k x_below (omega (arith, o.few)))
            σ (λ y. ap (λ z. has z n) (notify-set_ready u x _ (nth p k y))) (λ y. ap (λ z. get_or z n None) (target-set_ready u x _ (nth p k y)));
      }

      clear_told : has (status_of u n) k ≡ true → Mid (suc n) (unready u (Some x) k)
      unfolding x
      clear_told σ = record {
        shape = record { tasks = length-set u.tasks x _ ∙ m.shape.tasks; wide = λ r h. ap length (target-set_ready u x _ r) ∙ m.shape.wide r h; status = m.shape.status };
        notify = λ y. notify-set_ready u x _ y ∙ m.notify y;
        alone = λ c i hc hi. unready_keeps u x k (nth p c i) c (omega (arith, o.few)) (m.alone c i hc hi);
        beyond = λ y j a b. unready_keeps u x k y j b (m.beyond y j a b);
        pairs = λ c j hc hj cj. go c j hc hj cj (apart c n j k);
      }
        where
          go : (c j : ℕ) → c < p.cores → j < p.cores → (c ≡ j → ⊥) → (((c ≡ n) × (j ≡ k)) ⊎ (c ≡ n → j ≡ k → ⊥)) → Pair p (unready u (Some x) k) c j (get_or cs c idle) (now (suc n) c j)
          go c j hc hj cj (inl q) = rw (q.0, q.1) (clear_here σ)
          go c j hc hj cj (inr ne) = pair_else n u (unready u (Some x) k) m (λ c i j hj. unready_keeps u x k (nth p c i) j (omega (arith, o.few))) c j hc hj cj ne (record {
            ready = λ i hi. unready_other u x k (nth p c i) j (omega (arith, o.few)) (λ e q. ne (nth_one p c n i t.place hi t.within e).0 q);
            status = refl;
            notify = λ y h. ap (λ z. has z c) (notify-set_ready u x _ (nth p j y));
            target = λ y h. ap (λ z. get_or z c None) (target-set_ready u x _ (nth p j y));
          })

      -- the notice sets the status bit
      mark_here : has (status_of u n) k ≡ false → Pair p (marked u n k) n k (get_or cs n idle) (now (suc n) n k)
      mark_here σ = rw (passed_after k (suc (ended_on cs k)) (ended_on cs) n) record {
        start = f;
        from = from_later (step_of cs n) (ended_on cs n) f _ _ (now n n k) (suc (ended_on cs k)) _ _ (omega (arith, passed_before k (suc (ended_on cs k)) (ended_on cs) n)) (λ q. q) from;
        kept = end_kept_set (waits p n k) (waits_rise p o n k) (ended_on cs k) f (bits p u n k) kept t l σ (bits p (marked u n k) n k)
            (λ i. refl) (status_same u n k (omega (arith, m.shape.status, o.few)) (omega (arith, o.few))) (λ y. refl) (λ y. refl);
      }

      mark_told : has (status_of u n) k ≡ false → Mid (suc n) (marked u n k)
      mark_told σ = record {
        shape = record { tasks = m.shape.tasks; wide = m.shape.wide; status = length-set u.status n _ ∙ m.shape.status };
        notify = m.notify;
        alone = m.alone;
        beyond = m.beyond;
        pairs = λ c j hc hj cj. go c j hc hj cj (apart c n j k);
      }
        where
          go : (c j : ℕ) → c < p.cores → j < p.cores → (c ≡ j → ⊥) → (((c ≡ n) × (j ≡ k)) ⊎ (c ≡ n → j ≡ k → ⊥)) → Pair p (marked u n k) c j (get_or cs c idle) (now (suc n) c j)
          go c j hc hj cj (inl q) = rw (q.0, q.1) (mark_here σ)
          go c j hc hj cj (inr ne) = pair_else n u (marked u n k) m (λ c i j hj g. g) c j hc hj cj ne (record {
            ready = λ i hi. refl;
            status = status_other u n k c j (omega (arith, o.few)) ne;
            notify = λ y h. refl;
            target = λ y h. refl;
          })

    -- core n is told, by one of the two
    told : has (notify_of v (next p cs k)) n ≡ true → Mid (suc n) (notice u k (next p cs k) n)
    unfolding x
    told on = subst (λ z. Mid (suc n) (cond (has (status_of u n) k) (unready u z k) (marked u n k))) (sym t.task)
        (cond_both (has (status_of u n) k) _ _ (Mid (suc n)) (clear_told pr.start pr.from kept t) (mark_told pr.start pr.from kept t))
      where
        nk : n ≡ k → ⊥
        nk e = both_ways (has (notify_of v (next p cs k)) n) (rw e (s.silent k (ended_on cs k) hk l)) on

        pr : Pair p u n k (get_or cs n idle) (now n n k)
        pr = m.pairs n k hn hk nk

        kept : Kept (waits p n k) (ended_on cs k) pr.start (bits p u n k)
        kept = subst (λ E. Kept (waits p n k) E pr.start (bits p u n k)) (passed_before k (suc (ended_on cs k)) (ended_on cs) n) pr.kept

        t : Told (waits p n k) pr.start (bits p u n k) (ended_on cs k)
        t = kept.told (ended_on cs k) (omega arith) l (ap (λ z. has z n) (m.notify (next p cs k)) ∙ on)

  -- once the cores below n are told
  mid_all : (n : ℕ) → n ≤ p.cores → Mid n (end_vectors n v k (next p cs k))
  mid_all zero h = mid_none
  mid_all (suc n) h =
      let u = end_vectors n v k (next p cs k) in
      let m = mid_all n (omega arith) in
      cond_both (has (notify_of v (next p cs k)) n) (notice u k (next p cs k) n) u (Mid (suc n)) (told n (omega arith) u m) (quiet n (omega arith) u m)

  -- core k once its task has ended
  gone : Core
  gone = rested p k (suc (ended_on cs k))

  gone_here : get_or (set cs k gone) k idle ≡ gone
  gone_here = get_or-set_same cs k gone idle (omega (arith, s.long))

  gone_there : (d : ℕ) → (d ≡ k → ⊥) → get_or (set cs k gone) d idle ≡ get_or cs d idle
  gone_there d n = get_or-set_other cs k d gone idle n

  -- what every core has then been told is the new progress
  now_all : (c j : ℕ) → c < p.cores → now p.cores c j ≡ ended_on (set cs k gone) j
  unfolding gone
  now_all c j h = passed_all k (suc (ended_on cs k)) (ended_on cs) (ended_on (set cs k gone)) (ap (λ (r : Core). r.ended) gone_here) (λ d n. ap (λ (r : Core). r.ended) (gone_there d n)) p.cores j c h

  module _ (run : is_running (step_of cs k) ≡ true) where
    -- the waits of the core whose task ended
    pair_gone : (u : Vectors) (j E : ℕ) → Pair p u k j (get_or cs k idle) E → Pair p u k j gone E
    unfolding gone
    pair_gone u j E pr = record {
      start = pr.start;
      kept = pr.kept;
      from = rest_from (ltb (suc (ended_on cs k)) (tasks p k)) (suc (ended_on cs k)) pr.start _ _ E _ (running_from (step_of cs k) (ended_on cs k) pr.start _ _ E _ run pr.from);
    }

    -- what the end of a running task leaves
    ends : Agree p (ended_one p cs k) (end_vectors p.cores v k (next p cs k))
    unfolding gone
    ends = record {
      long = length-set cs k gone ∙ s.long;
      shape = m.shape;
      left = λ d hd t. left' d hd t (cases_eq d k);
      alone = m.alone;
      silent = λ c y hc hy. ap (λ z. has z c) (m.notify (nth p c y)) ∙ s.silent c y hc hy;
      beyond = m.beyond;
      beyond_told = λ y c a b. ap (λ z. has z c) (m.notify y) ∙ s.beyond_told y c a b;
      pairs = λ d j hd hj n. rw (← (now_all d j hd)) (go d j (m.pairs d j hd hj n) (cases_eq d k));
    }
      where
        u : Vectors
        u = end_vectors p.cores v k (next p cs k)

        m : Mid p.cores u
        m = mid_all p.cores (omega arith)

        left' : (d : ℕ) → d < p.cores → is_over (step_of (set cs k gone) d) ≡ false → ((d ≡ k) ⊎ (d ≡ k → ⊥)) → ended_on (set cs k gone) d < tasks p d
        left' d hd t (inl e) =
            let here : get_or (set cs k gone) d idle ≡ gone = rw e gone_here in
            let more = ltb-true (suc (ended_on cs k)) (tasks p k) (rest_left (ltb (suc (ended_on cs k)) (tasks p k)) (sym (ap (λ (r : Core). is_over r.step) here) ∙ t)) in
            subst (λ (r : Core). r.ended < tasks p d) (sym here) (rw e more)
        left' d hd t (inr n) = subst (λ (r : Core). r.ended < tasks p d) (sym (gone_there d n)) (s.left d hd (sym (ap (λ (r : Core). is_over r.step) (gone_there d n)) ∙ t))

        go : (d j : ℕ) → Pair p u d j (get_or cs d idle) (now p.cores d j) → ((d ≡ k) ⊎ (d ≡ k → ⊥)) → Pair p u d j (get_or (set cs k gone) d idle) (now p.cores d j)
        go d j pr (inl e) = subst (λ z. Pair p u z j (get_or (set cs k gone) z idle) (now p.cores z j)) (sym e)
            (subst (λ r. Pair p u k j r (now p.cores k j)) (sym gone_here) (pair_gone u j (now p.cores k j) (subst (λ z. Pair p u z j (get_or cs z idle) (now p.cores z j)) e pr)))
        go d j pr (inr n) = subst (λ r. Pair p u d j r (now p.cores d j)) (sym (gone_there d n)) pr

-- a core that runs is one of the table's
running_core : (cs : List Core) (k : ℕ) → is_running (step_of cs k) ≡ true → k < length cs
running_core cs k t = ⊎_elim (λ h. h) (λ h. absurd (true≢false (sym t ∙ ap (λ (r : Core). is_running r.step) (get_or_past cs k idle h)))) (cases_lt k (length cs))

-- an end does to the progress what the meaning says
pub progress_finished : (p : Plan) (b : Standing) (k : ℕ) → (board_finished p b k).progress ≡ finished p b.progress k
progress_finished p b k = cond_both (is_running (step_of b.progress k)) _ b (λ (z : Standing). z.progress ≡ finished p b.progress k)
    (λ e. refl) (λ e. sym (cond-false (is_running (step_of b.progress k)) (ended_one p b.progress k) b.progress e))

-- an end keeps the agreement
pub agree_finished : (p : Plan) → Ordered p → (b : Standing) → Agree p b.progress b.vectors → (k : ℕ) → Agree p (board_finished p b k).progress (board_finished p b k).vectors
agree_finished p o b s k = cond_both (is_running (step_of b.progress k)) _ b (λ (z : Standing). Agree p z.progress z.vectors) run (λ e. s)
  where
    x : ℕ
    x = next p b.progress k

    run : is_running (step_of b.progress k) ≡ true → Agree p (finished p b.progress k) (end_vectors 8 b.vectors k (next p b.progress k))
    run t =
        let hk : k < p.cores = omega (arith, running_core b.progress k t, s.long) in
        let all : end_vectors 8 b.vectors k x ≡ end_vectors p.cores b.vectors k x =
        fewer (λ n. end_vectors n b.vectors k x) p.cores 8 o.few (λ c a l. cond-false (has (notify_of b.vectors x) c) _ _ (s.beyond_told x c a l)) in
        subst (λ z. Agree p z (end_vectors 8 b.vectors k x)) (sym (cond-true (is_running (step_of b.progress k)) (ended_one p b.progress k) b.progress t))
        (subst (Agree p (ended_one p b.progress k)) (sym all) (ends p o b.progress b.vectors s k hk (s.left k hk (running_left (step_of b.progress k) t)) t))
