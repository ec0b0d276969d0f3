-- A start keeps the vectors in agreement with the progress.
use Rattle.std.proofs.Common.{◌≡◌, ℕ, suc, ◌<◌, Bool, true, false, cond, not, ◌&&◌, ◌||◌, ltb, ◌⊎◌, List, length, get_or, sym, refl, ap, ◌∙◌, subst, inl, inr, arith}
use Rattle.std.proofs.Math.Bool.{and-true}
use Rattle.std.proofs.lemmas.Bool.{ltb-true, cases_eq, and_parts, true≢false, cond_both}
use Rattle.std.proofs.lemmas.List.{get_or-set_same, get_or-set_other, length-set}
use Rattle.table.specs.Sets.{has, none, less}
use Rattle.table.specs.Rows.{Plan, row, wait}
use Rattle.table.proofs.Below.{all_at}
use Rattle.table.proofs.Sets.{less_at}
use Rattle.board.specs.Steps.{is_pending, is_over}
use Rattle.board.specs.Meaning.{idle, ended_on, step_of, next, stepped, started}
use Rattle.board.specs.declared.cores.Core.{Core}
use Rattle.board.specs.declared.cores.Step.{Step}
use Rattle.board.specs.declared.cores.Step.TheVariants.{Waiting, Loose, Running, Over}
use Rattle.board.specs.Keeping.{pending_left}
use Rattle.vectors.specs.Phases.{Standing, ready_of, status_of, noticed, start_vectors, vectors_clear, board_started}
use Rattle.vectors.specs.declared.state.Vectors.{Vectors}
use Rattle.vectors.proofs.Pair.{Kept, alike, start_kept}
use Rattle.table.proofs.Ordered.{Ordered}
use Rattle.vectors.proofs.Places.{tasks}
use Rattle.vectors.proofs.Agree.{From, Pair, Agree, waits, bits, waits_rise, clear_right}

-- a step leaves each core's ended tasks, and the other cores, as they were
module _ (cs : List Core) (c : ℕ) (st : Step) (h : c < length cs) where
  pub stepped_here : get_or (stepped cs c st) c idle ≡ record { ended = ended_on cs c; step = st }
  stepped_here = get_or-set_same cs c (record { ended = ended_on cs c; step = st }) idle h

  pub stepped_there : (d : ℕ) → (d ≡ c → ⊥) → get_or (stepped cs c st) d idle ≡ get_or cs d idle
  stepped_there d n = get_or-set_other cs c d (record { ended = ended_on cs c; step = st }) idle n

  pub stepped_ended : (d : ℕ) → ended_on (stepped cs c st) d ≡ ended_on cs d
  stepped_ended d = go (cases_eq d c)
    where
      go : ((d ≡ c) ⊎ (d ≡ c → ⊥)) → ended_on (stepped cs c st) d ≡ ended_on cs d
      go (inl e) = rw e (ap (λ (r : Core). r.ended) stepped_here)
      go (inr n) = ap (λ (r : Core). r.ended) (stepped_there d n)

  -- a core that is not over has a task left
  pub stepped_left : (p : Plan) (d : ℕ) → (is_over (step_of cs d) ≡ false → ended_on cs d < tasks p d) → is_over (step_of cs c) ≡ false →
      is_over (step_of (stepped cs c st) d) ≡ false → ended_on (stepped cs c st) d < tasks p d
  stepped_left p d left going t = go (cases_eq d c)
    where
      go : ((d ≡ c) ⊎ (d ≡ c → ⊥)) → ended_on (stepped cs c st) d < tasks p d
      go (inl e) = rw (stepped_ended d) (left (rw e going))
      go (inr n) = rw (stepped_ended d) (left (sym (ap (λ (r : Core). is_over r.step) (stepped_there d n)) ∙ t))

-- a bit that is needed is there; a bit that is not needed stays
so : (b σ : Bool) → (not b || σ) ≡ true → b ≡ true → σ ≡ true
so true σ h e = h
so false σ h e = absurd (true≢false (sym e))

module _ (p : Plan) (o : Ordered p) (cs : List Core) (v : Vectors) (s : Agree p cs v) (c : ℕ) (hc : c < p.cores)
    (t : is_pending (step_of cs c) ≡ true) (there : noticed v c (next p cs c) ≡ true) where
  v' : Vectors
  v' = start_vectors v c (next p cs c)

  -- the status vector of the core that starts
  status_here : (k : ℕ) → k < p.cores → has (status_of v' c) k ≡ (has (status_of v c) k && not (has (ready_of v (next p cs c)) k))
  unfolding v'
  status_here k hk = ap (λ z. has z k) (get_or-set_same v.status c (less (status_of v c) (ready_of v (next p cs c))) none (omega (arith, s.shape.status, o.few)))
      ∙ less_at (status_of v c) (ready_of v (next p cs c)) k (omega (arith, o.few))

  -- the core has a task left
  l : ended_on cs c < tasks p c
  l = s.left c hc (pending_left (step_of cs c) t)

  -- the core that starts
  module _ (k : ℕ) (hk : k < p.cores) where
    -- a task whose wait is in force starts
    all_waits : (f : ℕ) → f ≡ ended_on cs c → Kept (waits p c k) (ended_on cs k) f (bits p v c k) → Kept (waits p c k) (ended_on cs k) (suc (ended_on cs c)) (bits p v' c k)
    unfolding v'
    all_waits f e kept = start_kept (waits p c k) (waits_rise p o c k) (ended_on cs k) (ended_on cs c) (bits p v c k)
        (subst (λ x. Kept (waits p c k) (ended_on cs k) x (bits p v c k)) e kept) l
        (so (has (ready_of v (next p cs c)) k) (has (status_of v c) k) (all_at 8 (λ j. not (has (ready_of v (next p cs c)) j) || has (status_of v c) j) there k (omega (arith, o.few))))
        (bits p v' c k) (λ i. refl) (λ y. refl) (λ y. refl) (status_here k hk)

    -- a task that has dropped this wait starts
    passed : (f : ℕ) → f ≡ suc (ended_on cs c) → has (ready_of v (next p cs c)) k ≡ false →
        Kept (waits p c k) (ended_on cs k) f (bits p v c k) → Kept (waits p c k) (ended_on cs k) (suc (ended_on cs c)) (bits p v' c k)
    unfolding v'
    passed f e off kept = alike (waits p c k) (ended_on cs k) (suc (ended_on cs c)) (bits p v c k) (bits p v' c k)
        (record {
          ready = λ i h. refl;
          notify = λ y h. refl;
          target = λ y h. refl;
          status = status_here k hk ∙ (ap (λ b. has (status_of v c) k && not b) off ∙ and-true (has (status_of v c) k));
        })
        (subst (λ x. Kept (waits p c k) (ended_on cs k) x (bits p v c k)) e kept)

    -- a task starts, whichever it is
    kept_here : (st : Step) (f : ℕ) → is_pending st ≡ true →
        From st (ended_on cs c) f (has (row p (next p cs c)).inputs k) (wait p.rows (row p (next p cs c)) k) (ended_on cs k) (has (ready_of v (next p cs c)) k) →
        Kept (waits p c k) (ended_on cs k) f (bits p v c k) → Kept (waits p c k) (ended_on cs k) (suc (ended_on cs c)) (bits p v' c k)
    kept_here Waiting f u fr kept = all_waits f fr kept
    kept_here Loose f u (inl q) kept = all_waits f q.0 kept
    kept_here Loose f u (inr q) kept = passed f q.0 q.2 kept
    kept_here Running f u fr kept = absurd (true≢false (sym u))
    kept_here Over f u fr kept = absurd (true≢false (sym u))

    -- so the waits of the core that starts are kept
    pair_here : (c ≡ k → ⊥) → Pair p v' c k (record { ended = ended_on cs c; step = Running }) (ended_on cs k)
    pair_here n = let pr = s.pairs c k hc hk n in record { start = suc (ended_on cs c); from = refl; kept = kept_here (step_of cs c) pr.start t pr.from pr.kept }

  -- the other cores
  pair_there : (d k : ℕ) → (d ≡ c → ⊥) → d < p.cores → k < p.cores → (d ≡ k → ⊥) → Pair p v' d k (get_or cs d idle) (ended_on cs k)
  unfolding v'
  pair_there d k dc hd hk n = let pr = s.pairs d k hd hk n in record {
    start = pr.start;
    from = pr.from;
    kept = alike (waits p d k) (ended_on cs k) pr.start (bits p v d k) (bits p v' d k)
        (record {
          ready = λ i h. refl;
          notify = λ y h. refl;
          target = λ y h. refl;
          status = ap (λ x. has x k) (get_or-set_other v.status c d (less (status_of v c) (ready_of v (next p cs c))) none dc);
        }) pr.kept;
  }

  -- what a clear core's start leaves
  starts : Agree p (stepped cs c Running) (start_vectors v c (next p cs c))
  unfolding v'
  starts = record {
    long = length-set cs c _ ∙ s.long;
    shape = record {
      tasks = s.shape.tasks;
      wide = s.shape.wide;
      status = length-set v.status c _ ∙ s.shape.status;
    };
    left = λ d hd. stepped_left cs c Running hl p d (s.left d hd) (pending_left (step_of cs c) t);
    alone = s.alone;
    silent = s.silent;
    beyond = s.beyond;
    beyond_told = s.beyond_told;
    pairs = λ d k hd hk n. go d k hd hk n (cases_eq d c);
  }
    where
      hl : c < length cs
      hl = omega (arith, s.long)

      go : (d k : ℕ) → d < p.cores → k < p.cores → (d ≡ k → ⊥) → ((d ≡ c) ⊎ (d ≡ c → ⊥)) → Pair p v' d k (get_or (stepped cs c Running) d idle) (ended_on (stepped cs c Running) k)
      go d k hd hk n (inl e) = rw (e, stepped_here cs c Running hl, stepped_ended cs c Running hl k) (pair_here k hk (λ q. n (e ∙ q)))
      go d k hd hk n (inr dc) = rw (stepped_there cs c Running hl d dc, stepped_ended cs c Running hl k) (pair_there d k dc hd hk n)

-- the progress of a board that is one of two
pub either_progress : (x : Bool) (b b' : Standing) → (cond x b' b).progress ≡ cond x b'.progress b.progress
either_progress true b b' = refl
either_progress false b b' = refl

-- a start does to the progress what the meaning says
pub progress_started : (p : Plan) → Ordered p → (b : Standing) → Agree p b.progress b.vectors → (k : ℕ) → (board_started p b k).progress ≡ started p b.progress k
progress_started p o b s k = either_progress (vectors_clear p b k) b _ ∙ ap (λ x. cond x (stepped b.progress k Running) b.progress) (clear_right p o b s k)

-- a start keeps the agreement
pub agree_started : (p : Plan) → Ordered p → (b : Standing) → Agree p b.progress b.vectors → (k : ℕ) → Agree p (board_started p b k).progress (board_started p b k).vectors
agree_started p o b s k = cond_both (vectors_clear p b k) _ b (λ (z : Standing). Agree p z.progress z.vectors) clear (λ e. s)
  where
    clear : vectors_clear p b k ≡ true → Agree p (stepped b.progress k Running) (start_vectors b.vectors k (next p b.progress k))
    clear e =
        let q = and_parts (ltb k p.cores) _ e in
        let r = and_parts (is_pending (step_of b.progress k)) _ q.1 in
        starts p o b.progress b.vectors s k (ltb-true k p.cores q.0) r.0 r.1
