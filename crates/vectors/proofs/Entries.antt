-- One entry of a list after a write, by one of its parts; and so the vectors of a task, and the status vector of a core, after a change.
use Rattle.std.proofs.Common.{◌≡◌, ℕ, ◌<◌, ◌≤◌, true, false, ◌⊎◌, List, length, get_or, set, Some, None, sym, refl, ap, ◌∙◌, subst, inl, inr}
use Rattle.std.proofs.lemmas.Bool.{cases_eq, cases_lt}
use Rattle.std.proofs.lemmas.List.{get_or-set_same, get_or-set_other, length-set, set_past}
use Rattle.table.specs.Sets.{has, none, with, without}
use Rattle.table.specs.declared.rows.CoreSet.{CoreSet}
use Rattle.table.proofs.Sets.{with_same, with_other, without_same, without_other}
use Rattle.vectors.specs.Phases.{no_vectors, vectors_at, ready_of, notify_of, target_of, status_of, set_ready, set_notify, set_target, set_status}
use Rattle.vectors.specs.declared.state.TaskVectors.{TaskVectors}
use Rattle.vectors.specs.declared.state.Vectors.{Vectors}

-- a write that leaves a part g of its entry as it was leaves that part of all entries
keeps : {X A : Type 0} (g : X → A) (l : List X) (t : ℕ) (x d : X) (u : ℕ) → (u ≡ t → g x ≡ g (get_or l t d)) → g (get_or (set l t x) u d) ≡ g (get_or l u d)
keeps {X} {A} g l t x d u same = go (cases_eq u t) (cases_lt t (length l))
  where
    go : ((u ≡ t) ⊎ (u ≡ t → ⊥)) → ((t < length l) ⊎ (length l ≤ t)) → g (get_or (set l t x) u d) ≡ g (get_or l u d)
    go (inr n) h = ap g (get_or-set_other l t u x d n)
    go (inl e) (inl h) = subst (λ z. g (get_or (set l t x) z d) ≡ g (get_or l z d)) (sym e) (ap g (get_or-set_same l t x d h) ∙ same e)
    go (inl e) (inr h) = ap (λ y. g (get_or y u d)) (set_past l t x h)

-- the part is a set of cores: a core taken from it is not in it, one put into it is, and the others stay as they were
module _ {X : Type 0} (g : X → CoreSet) (l : List X) (t k : ℕ) (x d : X) where
  pub off_same : g x ≡ without (g (get_or l t d)) k → t < length l → k < 8 → has (g (get_or (set l t x) t d)) k ≡ false
  off_same e h m = ap (λ y. has (g y) k) (get_or-set_same l t x d h) ∙ (ap (λ s. has s k) e ∙ without_same (g (get_or l t d)) k m)

  pub on_same : g x ≡ with (g (get_or l t d)) k → t < length l → k < 8 → has (g (get_or (set l t x) t d)) k ≡ true
  on_same e h m = ap (λ y. has (g y) k) (get_or-set_same l t x d h) ∙ (ap (λ s. has s k) e ∙ with_same (g (get_or l t d)) k m)

  pub off_other : (u j : ℕ) → g x ≡ without (g (get_or l t d)) k → j < 8 → (u ≡ t → j ≡ k → ⊥) → has (g (get_or (set l t x) u d)) j ≡ has (g (get_or l u d)) j
  off_other u j e m n = keeps (λ y. has (g y) j) l t x d u (λ q. ap (λ s. has s j) e ∙ without_other (g (get_or l t d)) k j m (n q))

  pub on_other : (u j : ℕ) → g x ≡ with (g (get_or l t d)) k → j < 8 → (u ≡ t → j ≡ k → ⊥) → has (g (get_or (set l t x) u d)) j ≡ has (g (get_or l u d)) j
  on_other u j e m n = keeps (λ y. has (g y) j) l t x d u (λ q. ap (λ s. has s j) e ∙ with_other (g (get_or l t d)) k j m (n q))

  -- a core that is not in it does not come in when one is taken out
  pub off_keeps : (u j : ℕ) → g x ≡ without (g (get_or l t d)) k → j < 8 → has (g (get_or l u d)) j ≡ false → has (g (get_or (set l t x) u d)) j ≡ false
  off_keeps u j e m h = go (cases_eq u t) (cases_eq j k)
    where
      go : ((u ≡ t) ⊎ (u ≡ t → ⊥)) → ((j ≡ k) ⊎ (j ≡ k → ⊥)) → has (g (get_or (set l t x) u d)) j ≡ false
      go (inl q) (inl r) = keeps (λ y. has (g y) j) l t x d u
          (λ i. ap (λ s. has s j) e ∙ (subst (λ z. has (without (g (get_or l t d)) z) j ≡ false) r (without_same (g (get_or l t d)) j m) ∙ sym (subst (λ z. has (g (get_or l z d)) j ≡ false) i h))) ∙ h
      go (inl q) (inr n) = off_other u j e m (λ i. n) ∙ h
      go (inr n) r = off_other u j e m (λ i. absurd (n i)) ∙ h

-- the ready vector of a task without a core
module _ (v : Vectors) (t k : ℕ) where
  pub unready_same : t < length v.tasks → k < 8 → has (ready_of (set_ready v t (without (ready_of v t) k)) t) k ≡ false
  unready_same = off_same (λ (r : TaskVectors). r.ready) v.tasks t k _ no_vectors refl

  pub unready_other : (u j : ℕ) → j < 8 → (u ≡ t → j ≡ k → ⊥) → has (ready_of (set_ready v t (without (ready_of v t) k)) u) j ≡ has (ready_of v u) j
  unready_other u j = off_other (λ (r : TaskVectors). r.ready) v.tasks t k _ no_vectors u j refl

  pub unready_keeps : (u j : ℕ) → j < 8 → has (ready_of v u) j ≡ false → has (ready_of (set_ready v t (without (ready_of v t) k)) u) j ≡ false
  unready_keeps u j = off_keeps (λ (r : TaskVectors). r.ready) v.tasks t k _ no_vectors u j refl

  -- and with one
  pub ready_same : t < length v.tasks → k < 8 → has (ready_of (set_ready v t (with (ready_of v t) k)) t) k ≡ true
  ready_same = on_same (λ (r : TaskVectors). r.ready) v.tasks t k _ no_vectors refl

  pub ready_other : (u j : ℕ) → j < 8 → (u ≡ t → j ≡ k → ⊥) → has (ready_of (set_ready v t (with (ready_of v t) k)) u) j ≡ has (ready_of v u) j
  ready_other u j = on_other (λ (r : TaskVectors). r.ready) v.tasks t k _ no_vectors u j refl

  -- the notification vector of a task without a core
  pub untold_same : t < length v.tasks → k < 8 → has (notify_of (set_notify v t (without (notify_of v t) k)) t) k ≡ false
  untold_same = off_same (λ (r : TaskVectors). r.notify) v.tasks t k _ no_vectors refl

  pub untold_other : (u j : ℕ) → j < 8 → (u ≡ t → j ≡ k → ⊥) → has (notify_of (set_notify v t (without (notify_of v t) k)) u) j ≡ has (notify_of v u) j
  untold_other u j = off_other (λ (r : TaskVectors). r.notify) v.tasks t k _ no_vectors u j refl

  pub untold_keeps : (u j : ℕ) → j < 8 → has (notify_of v u) j ≡ false → has (notify_of (set_notify v t (without (notify_of v t) k)) u) j ≡ false
  untold_keeps u j = off_keeps (λ (r : TaskVectors). r.notify) v.tasks t k _ no_vectors u j refl

  -- the status vector of core t with a core
  pub status_same : t < length v.status → k < 8 → has (status_of (set_status v t (with (status_of v t) k)) t) k ≡ true
  status_same = on_same (λ (s : CoreSet). s) v.status t k _ none refl

  pub status_other : (u j : ℕ) → j < 8 → (u ≡ t → j ≡ k → ⊥) → has (status_of (set_status v t (with (status_of v t) k)) u) j ≡ has (status_of v u) j
  status_other u j = on_other (λ (s : CoreSet). s) v.status t k _ none u j refl

-- a change of one part of a task's vectors leaves the others
module _ (v : Vectors) (t : ℕ) (s : CoreSet) (u : ℕ) where
  pub notify-set_ready : notify_of (set_ready v t s) u ≡ notify_of v u
  notify-set_ready = keeps (λ (r : TaskVectors). r.notify) v.tasks t _ no_vectors u (λ q. refl)

  pub target-set_ready : (vectors_at (set_ready v t s) u).target ≡ (vectors_at v u).target
  target-set_ready = keeps (λ (r : TaskVectors). r.target) v.tasks t _ no_vectors u (λ q. refl)

  pub ready-set_notify : ready_of (set_notify v t s) u ≡ ready_of v u
  ready-set_notify = keeps (λ (r : TaskVectors). r.ready) v.tasks t _ no_vectors u (λ q. refl)

  pub target-set_notify : (vectors_at (set_notify v t s) u).target ≡ (vectors_at v u).target
  target-set_notify = keeps (λ (r : TaskVectors). r.target) v.tasks t _ no_vectors u (λ q. refl)

-- another target of a task on a core
module _ (v : Vectors) (x c y : ℕ) where
  pub target_same : x < length v.tasks → c < length (vectors_at v x).target → target_of (set_target v x c y) x c ≡ Some y
  target_same h g = ap (λ (r : TaskVectors). get_or r.target c None) (get_or-set_same v.tasks x _ no_vectors h) ∙ get_or-set_same (vectors_at v x).target c (Some y) None g

  pub target_other : (u k : ℕ) → (u ≡ x → k ≡ c → ⊥) → target_of (set_target v x c y) u k ≡ target_of v u k
  target_other u k n = keeps (λ (r : TaskVectors). get_or r.target k None) v.tasks x _ no_vectors u (λ q. get_or-set_other (vectors_at v x).target c k (Some y) None (n q))

  pub target_wide : (u : ℕ) → length (vectors_at (set_target v x c y) u).target ≡ length (vectors_at v u).target
  target_wide u = keeps (λ (r : TaskVectors). length r.target) v.tasks x _ no_vectors u (λ q. length-set (vectors_at v x).target c (Some y))

  pub ready-set_target : (u : ℕ) → ready_of (set_target v x c y) u ≡ ready_of v u
  ready-set_target u = keeps (λ (r : TaskVectors). r.ready) v.tasks x _ no_vectors u (λ q. refl)

  pub notify-set_target : (u : ℕ) → notify_of (set_target v x c y) u ≡ notify_of v u
  notify-set_target u = keeps (λ (r : TaskVectors). r.notify) v.tasks x _ no_vectors u (λ q. refl)
