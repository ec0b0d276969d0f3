-- The waits of one core's tasks on one other core: the invariant of their bits, and what each step does to it.
use Rattle.std.proofs.Common.{◌≡◌, ℕ, zero, suc, ◌<◌, ◌≤◌, Bool, true, false, not, ◌&&◌, ltb, ◌⊎◌, Some, Option, sym, refl, ◌∙◌, inl, inr, arith}
use Rattle.std.proofs.lemmas.Bool.{ltb-true, ltb-false, lt-ltb, cases_lt, cases_eq, true≢false, and_parts, and_cases, not-true, not-false, both_ways}

-- how many tasks the waiting core and the other core have, the wait of each place, and the task there
pub record Waits : Type 0 where
  pub many : ℕ
  pub others : ℕ
  pub wait : ℕ → ℕ
  pub task : ℕ → ℕ

-- waits rise along the waiting core, and never exceed what the other core has
pub record Rises (w : Waits) : Type 0 where
  pub rises : (i j : ℕ) → i ≤ j → j < w.many → w.wait i ≤ w.wait j
  pub bounded : (i : ℕ) → i < w.many → w.wait i ≤ w.others

-- the bits of the pair: ready by place of the waiting core, notify and target by place of the other
pub record Bits : Type 0 where
  pub ready : ℕ → Bool
  pub status : Bool
  pub notify : ℕ → Bool
  pub target : ℕ → Option ℕ

-- the place, from f on, whose met ready bit the status bit stands for
pub record Holder (w : Waits) (E f : ℕ) (s : Bits) : Type 0 where
  pub place : ℕ
  pub above : f ≤ place
  pub within : place < w.many
  pub met : w.wait place ≤ E
  pub bit : s.ready place ≡ true
  pub only : (j : ℕ) → f ≤ j → j < w.many → w.wait j ≤ E → s.ready j ≡ true → j ≡ place

-- the place, from f on, that the end of the other core's task y is told to
pub record Told (w : Waits) (f : ℕ) (s : Bits) (y : ℕ) : Type 0 where
  pub place : ℕ
  pub above : f ≤ place
  pub within : place < w.many
  pub waits : w.wait place ≡ suc y
  pub bit : s.ready place ≡ true
  pub task : s.target y ≡ Some (w.task place)

-- a told place stays one where its bits are the same
told_by : (w : Waits) (f g : ℕ) (s s' : Bits) (y : ℕ) → (t : Told w f s y) → g ≤ t.place → s'.ready t.place ≡ s.ready t.place → s'.target y ≡ s.target y → Told w g s' y
told_by w f g s s' y t above ready target = record { place = t.place; above = above; within = t.within; waits = t.waits; bit = ready ∙ t.bit; task = target ∙ t.task }

-- E tasks of the other core have ended; the waits from place f on are in force
pub record Kept (w : Waits) (E f : ℕ) (s : Bits) : Type 0 where
  pub first : f < w.many → E < w.wait f → s.ready f ≡ true
  pub later : (i : ℕ) → f ≤ i → suc i < w.many → E < w.wait (suc i) → s.ready (suc i) ≡ ltb (w.wait i) (w.wait (suc i))
  pub held : s.status ≡ true → Holder w E f s
  pub free : s.status ≡ false → (i : ℕ) → f ≤ i → i < w.many → w.wait i ≤ E → s.ready i ≡ true → ⊥
  pub told : (y : ℕ) → E ≤ y → y < w.others → s.notify y ≡ true → Told w f s y
  pub untold : (y : ℕ) → E ≤ y → y < w.others → s.notify y ≡ false → (i : ℕ) → f ≤ i → i < w.many → w.wait i ≡ suc y → ⊥

-- the same bits wherever there is a task
pub record Alike (w : Waits) (s s' : Bits) : Type 0 where
  pub ready : (i : ℕ) → i < w.many → s'.ready i ≡ s.ready i
  pub status : s'.status ≡ s.status
  pub notify : (y : ℕ) → y < w.others → s'.notify y ≡ s.notify y
  pub target : (y : ℕ) → y < w.others → s'.target y ≡ s.target y

-- bits are the same as themselves
pub alike_self : (w : Waits) (s : Bits) → Alike w s s
alike_self w s = record { ready = λ i h. refl; status = refl; notify = λ y h. refl; target = λ y h. refl }

-- what is kept by bits is kept by the same bits
pub alike : (w : Waits) (E f : ℕ) (s s' : Bits) → Alike w s s' → Kept w E f s → Kept w E f s'
alike w E f s s' a k = record {
  first = λ h u. a.ready f h ∙ k.first h u;
  later = λ i h l u. a.ready (suc i) l ∙ k.later i h l u;
  held = λ e. let h = k.held (sym a.status ∙ e) in record {
    place = h.place;
    above = h.above;
    within = h.within;
    met = h.met;
    bit = a.ready h.place h.within ∙ h.bit;
    only = λ j u l m b. h.only j u l m (sym (a.ready j l) ∙ b);
  };
  free = λ e i h l m b. k.free (sym a.status ∙ e) i h l m (sym (a.ready i l) ∙ b);
  told = λ y h l e. let t = k.told y h l (sym (a.notify y l) ∙ e) in told_by w f f s s' y t t.above (a.ready t.place t.within) (a.target y l);
  untold = λ y h l e. k.untold y h l (sym (a.notify y l) ∙ e);
}

module _ (w : Waits) (r : Rises w) (E f : ℕ) (s : Bits) (k : Kept w E f s) where
  -- an unmet wait at the first place: its ready bit is set, the status bit is not
  pub unmet_ready : f < w.many → E < w.wait f → s.ready f ≡ true
  unmet_ready l u = k.first l u

  pub unmet_status : f < w.many → E < w.wait f → s.status ≡ false
  unmet_status l u = go s.status refl
    where
      go : (b : Bool) → s.status ≡ b → s.status ≡ false
      go true e = let h = k.held e in absurd (omega (arith, r.rises f h.place h.above h.within, h.met))
      go false e = e

  -- a met wait at the first place whose ready bit is set has its notice
  pub met_status : f < w.many → w.wait f ≤ E → s.ready f ≡ true → s.status ≡ true
  met_status l m b = go s.status refl
    where
      go : (b : Bool) → s.status ≡ b → s.status ≡ true
      go true e = e
      go false e = absurd (k.free e f (omega arith) l m b)

  -- a notice that came says that the first wait is met
  held_met : f < w.many → s.status ≡ true → w.wait f ≤ E
  held_met l e = let h = k.held e in omega (arith, r.rises f h.place h.above h.within, h.met)

  -- of two places with one unmet wait only the first has a ready bit
  one_each : (i j : ℕ) → f ≤ i → i < j → j < w.many → E < w.wait i → w.wait i ≡ w.wait j → s.ready j ≡ true → ⊥
  one_each i (suc j) fi ij jn u e b =
      let up = ltb-true (w.wait j) (w.wait (suc j)) (sym (k.later j (omega arith) jn (omega arith)) ∙ b) in
      omega (arith, r.rises i j (omega arith) (omega arith))
  one_each i zero fi ij jn u e b = absurd (omega arith)

  -- so a place is known by its unmet wait and its ready bit
  same_place : (i j : ℕ) → f ≤ i → f ≤ j → i < w.many → j < w.many → E < w.wait i → w.wait i ≡ w.wait j → s.ready i ≡ true → s.ready j ≡ true → i ≡ j
  same_place i j fi fj il jl u e bi bj = go (cases_lt i j) (cases_lt j i)
    where
      go : ((i < j) ⊎ (j ≤ i)) → ((j < i) ⊎ (i ≤ j)) → i ≡ j
      go (inl h) d = absurd (one_each i j fi h jl u e bj)
      go (inr h) (inl g) = absurd (one_each j i fj g il (omega arith) (sym e) bi)
      go (inr h) (inr g) = omega arith

  -- the task at f starts: its ready bit leaves the status vector
  pub start_kept : f < w.many → (s.ready f ≡ true → s.status ≡ true) → (s' : Bits) →
      ((i : ℕ) → s'.ready i ≡ s.ready i) → ((y : ℕ) → s'.notify y ≡ s.notify y) → ((y : ℕ) → s'.target y ≡ s.target y) →
      s'.status ≡ (s.status && not (s.ready f)) → Kept w E (suc f) s'
  start_kept l ok s' er en et es = with_status held' free'
    where
      met_f : (b : Bool) → s.ready f ≡ b → w.wait f ≤ E
      met_f true e = held_met l (ok e)
      met_f false e = by_order (cases_lt E (w.wait f))
        where
          by_order : ((E < w.wait f) ⊎ (w.wait f ≤ E)) → w.wait f ≤ E
          by_order (inl u) = absurd (true≢false (sym (k.first l u) ∙ e))
          by_order (inr m) = m

      apart : (y i : ℕ) → E ≤ y → f ≤ i → w.wait i ≡ suc y → suc f ≤ i
      apart y i h a e = go' (cases_eq i f)
        where
          go' : ((i ≡ f) ⊎ (i ≡ f → ⊥)) → suc f ≤ i
          go' (inl q) = let m : w.wait i ≤ E = rw q (met_f (s.ready f) refl) in absurd (omega arith)
          go' (inr q) = omega arith

      with_status : ((s'.status ≡ true) → Holder w E (suc f) s') → (s'.status ≡ false → (i : ℕ) → suc f ≤ i → i < w.many → w.wait i ≤ E → s'.ready i ≡ true → ⊥) → Kept w E (suc f) s'
      with_status held free = record {
        first = λ h u. er (suc f) ∙ (k.later f (omega arith) h u ∙ lt-ltb (w.wait f) (w.wait (suc f)) (omega (arith, met_f (s.ready f) refl)));
        later = λ i h l u. er (suc i) ∙ k.later i (omega arith) l u;
        held = held;
        free = free;
        told = λ y h l e. let t = k.told y h l (sym (en y) ∙ e) in told_by w f (suc f) s s' y t (apart y t.place h t.above t.waits) (er t.place) (et y);
        untold = λ y h l e i a. k.untold y h l (sym (en y) ∙ e) i (omega arith);
      }

      held' : s'.status ≡ true → Holder w E (suc f) s'
      held' e =
          let both = and_parts s.status (not (s.ready f)) (sym es ∙ e) in
          let h = k.held both.0 in
          let away : h.place ≡ f → ⊥ = λ q. both_ways (s.ready f) (not-true (s.ready f) both.1) (rw q at h.bit) in
          record {
            place = h.place;
            above = omega (arith, h.above);
            within = h.within;
            met = h.met;
            bit = er h.place ∙ h.bit;
            only = λ j u l m b. h.only j (omega arith) l m (sym (er j) ∙ b);
          }

      free' : s'.status ≡ false → (i : ℕ) → suc f ≤ i → i < w.many → w.wait i ≤ E → s'.ready i ≡ true → ⊥
      free' e i a n m b = go (and_cases s.status (not (s.ready f)) (sym es ∙ e))
        where
          go : ((s.status ≡ false) ⊎ (not (s.ready f) ≡ false)) → ⊥
          go (inl q) = k.free q i (omega arith) n m (sym (er i) ∙ b)
          go (inr q) =
              let bf = not-false (s.ready f) q in
              let h = k.held (ok bf) in
              omega (arith, h.only i (omega arith) n m (sym (er i) ∙ b), h.only f (omega arith) l (met_f true bf) bf)

  -- the task at f drops its unmet wait, and the next place has none or begins one of its own: the notice is withdrawn
  pub drop_kept_off : f < w.many → E < w.wait f → ((suc f < w.many) → s.ready (suc f) ≡ true) → (s' : Bits) →
      ((i : ℕ) → (i ≡ f → ⊥) → i < w.many → s'.ready i ≡ s.ready i) → s'.status ≡ s.status →
      ((y : ℕ) → (suc y ≡ w.wait f → ⊥) → y < w.others → s'.notify y ≡ s.notify y) → ((y : ℕ) → suc y ≡ w.wait f → s'.notify y ≡ false) →
      ((y : ℕ) → y < w.others → s'.target y ≡ s.target y) → Kept w E (suc f) s'
  drop_kept_off l u last s' er es en off et = record {
    first = λ h v. er (suc f) (omega arith) h ∙ last h;
    later = λ i h n v. er (suc i) (omega arith) n ∙ k.later i (omega arith) n v;
    held = λ e. absurd (true≢false (sym e ∙ (es ∙ unmet_status l u)));
    free = λ e i h n m b. omega (arith, r.rises f i (omega arith) n);
    told = λ y h n e.
        let ne : suc y ≡ w.wait f → ⊥ = λ q. both_ways (s'.notify y) (off y q) e in
        let t = k.told y h n (sym (en y ne n) ∙ e) in
        let away : t.place ≡ f → ⊥ = λ q. ne (sym (rw q at t.waits)) in
        told_by w f (suc f) s s' y t (omega (arith, t.above)) (er t.place away t.within) (et y n);
    untold = λ y h n e i a il q. go y h n e i a il q (cases_eq (suc y) (w.wait f));
  }
    where
      go : (y : ℕ) → E ≤ y → y < w.others → s'.notify y ≡ false → (i : ℕ) → suc f ≤ i → i < w.many → w.wait i ≡ suc y → ((suc y ≡ w.wait f) ⊎ (suc y ≡ w.wait f → ⊥)) → ⊥
      go y h n e i a il q (inl g) =
          let sl : suc f < w.many = omega arith in
          let up = ltb-true (w.wait f) (w.wait (suc f)) (sym (k.later f (omega arith) sl (omega (arith, r.rises f (suc f) (omega arith) sl))) ∙ last sl) in
          omega (arith, r.rises (suc f) i a il)
      go y h n e i a il q (inr g) = k.untold y h n (sym (en y g n) ∙ e) i (omega arith) il q

  -- the task at f drops its unmet wait, and the next place takes it over
  pub drop_kept_on : suc f < w.many → E < w.wait f → s.ready (suc f) ≡ false → (s' : Bits) →
      ((i : ℕ) → (i ≡ f → ⊥) → (i ≡ suc f → ⊥) → i < w.many → s'.ready i ≡ s.ready i) → s'.ready (suc f) ≡ true → s'.status ≡ s.status →
      ((y : ℕ) → y < w.others → s'.notify y ≡ s.notify y) →
      ((y : ℕ) → (suc y ≡ w.wait f → ⊥) → y < w.others → s'.target y ≡ s.target y) →
      ((y : ℕ) → suc y ≡ w.wait f → y < w.others → s'.target y ≡ Some (w.task (suc f))) → Kept w E (suc f) s'
  drop_kept_on l u none s' er on es en et ta = record {
    first = λ h v. on;
    later = λ i h n v. er (suc i) (omega arith) (omega arith) n ∙ k.later i (omega arith) n v;
    held = λ e. absurd (true≢false (sym e ∙ (es ∙ unmet_status (omega arith) u)));
    free = λ e i h n m b. omega (arith, r.rises f i (omega arith) n);
    told = λ y h n e. told' y h n e (cases_eq (suc y) (w.wait f));
    untold = λ y h n e i a il q. k.untold y h n (sym (en y n) ∙ e) i (omega arith) il q;
  }
    where
      same : w.wait f ≡ w.wait (suc f)
      same = let up = r.rises f (suc f) (omega arith) l in
          let down = ltb-false (w.wait f) (w.wait (suc f)) (sym (k.later f (omega arith) l (omega arith)) ∙ none) in omega arith

      told' : (y : ℕ) → E ≤ y → y < w.others → s'.notify y ≡ true → ((suc y ≡ w.wait f) ⊎ (suc y ≡ w.wait f → ⊥)) → Told w (suc f) s' y
      told' y h n e (inl q) = record { place = suc f; above = omega arith; within = l; waits = omega (arith, same); bit = on; task = ta y q n }
      told' y h n e (inr q) = let t = k.told y h n (sym (en y n) ∙ e) in
          let away : t.place ≡ f → ⊥ = λ g. q (sym (rw g at t.waits)) in
          let away' : t.place ≡ suc f → ⊥ = λ g. q (sym (same ∙ rw g at t.waits)) in
          told_by w f (suc f) s s' y t (omega (arith, t.above)) (er t.place away away' t.within) (et y q n)

  -- the other core's task E ends, and nobody is to be told
  pub end_kept_quiet : E < w.others → s.notify E ≡ false → Kept w (suc E) f s
  end_kept_quiet o off = record {
    first = λ h u. k.first h (omega arith);
    later = λ i h n u. k.later i h n (omega arith);
    held = λ e. let h = k.held e in record {
      place = h.place;
      above = h.above;
      within = h.within;
      met = omega (arith, h.met);
      bit = h.bit;
      only = λ j a n m b. h.only j a n (still j a n m) b;
    };
    free = λ e i h n m b. k.free e i h n (still i h n m) b;
    told = λ y h n e. k.told y (omega arith) n e;
    untold = λ y h n e. k.untold y (omega arith) n e;
  }
    where
      still : (i : ℕ) → f ≤ i → i < w.many → w.wait i ≤ suc E → w.wait i ≤ E
      still i a n m = let no : w.wait i ≡ suc E → ⊥ = k.untold E (omega arith) o off i a n in omega arith

  -- the notice sets the status bit
  pub end_kept_set : (t : Told w f s E) → E < w.others → s.status ≡ false → (s' : Bits) →
      ((i : ℕ) → s'.ready i ≡ s.ready i) → s'.status ≡ true → ((y : ℕ) → s'.notify y ≡ s.notify y) → ((y : ℕ) → s'.target y ≡ s.target y) → Kept w (suc E) f s'
  end_kept_set t o σ s' er es en et = record {
    first = λ h u. er f ∙ k.first h (omega arith);
    later = λ i h n u. er (suc i) ∙ k.later i h n (omega arith);
    held = λ e. record {
      place = t.place;
      above = t.above;
      within = t.within;
      met = omega (arith, t.waits);
      bit = er t.place ∙ t.bit;
      only = λ j a n m b. the_one j a n m (sym (er j) ∙ b) (cases_eq (w.wait j) (suc E));
    };
    free = λ e. absurd (true≢false (sym es ∙ e));
    told = λ y h n e. let q = k.told y (omega arith) n (sym (en y) ∙ e) in told_by w f f s s' y q q.above (er q.place) (et y);
    untold = λ y h n e. k.untold y (omega arith) n (sym (en y) ∙ e);
  }
    where
      the_one : (j : ℕ) → f ≤ j → j < w.many → w.wait j ≤ suc E → s.ready j ≡ true → ((w.wait j ≡ suc E) ⊎ (w.wait j ≡ suc E → ⊥)) → j ≡ t.place
      the_one j a n m b (inl q) = same_place j t.place a t.above n t.within (omega arith) (q ∙ sym t.waits) b t.bit
      the_one j a n m b (inr q) = absurd (k.free σ j a n (omega arith) b)

  -- the notice finds the status bit set, and clears the target's ready bit
  pub end_kept_clear : (t : Told w f s E) → E < w.others → s.status ≡ true → (s' : Bits) →
      ((i : ℕ) → (i ≡ t.place → ⊥) → i < w.many → s'.ready i ≡ s.ready i) → s'.ready t.place ≡ false → s'.status ≡ true →
      ((y : ℕ) → s'.notify y ≡ s.notify y) → ((y : ℕ) → s'.target y ≡ s.target y) → Kept w (suc E) f s'
  end_kept_clear t o σ s' er off es en et = record {
    first = λ h u. er f (away f (omega arith)) h ∙ k.first h (omega arith);
    later = λ i h n u. er (suc i) (away (suc i) (omega arith)) n ∙ k.later i h n (omega arith);
    held = λ e. let h = k.held σ in
        let apart : h.place ≡ t.place → ⊥ = λ q. let m = rw q at h.met in omega (arith, t.waits) in record {
          place = h.place;
          above = h.above;
          within = h.within;
          met = omega (arith, h.met);
          bit = er h.place apart h.within ∙ h.bit;
          only = λ j a n m b.
              let no : j ≡ t.place → ⊥ = λ q. both_ways (s'.ready t.place) off (rw q at b) in
              let bj = sym (er j no n) ∙ b in
              let ne : w.wait j ≡ suc E → ⊥ = λ q. no (same_place j t.place a t.above n t.within (omega arith) (q ∙ sym t.waits) bj t.bit) in
              h.only j a n (omega arith) bj;
        };
    free = λ e. absurd (true≢false (sym es ∙ e));
    told = λ y h n e. let q = k.told y (omega arith) n (sym (en y) ∙ e) in told_by w f f s s' y q q.above (er q.place (away q.place (omega (arith, q.waits))) q.within) (et y);
    untold = λ y h n e. k.untold y (omega arith) n (sym (en y) ∙ e);
  }
    where
      away : (i : ℕ) → suc E < w.wait i → i ≡ t.place → ⊥
      away i u q = let m = rw q at u in omega (arith, t.waits)
