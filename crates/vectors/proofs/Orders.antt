-- What an order leaves of a vector board: the state that it defines, which is again one that orders lead to.
use Rattle.std.proofs.Common.{◌≡◌, ℕ, ◌<◌, Bool, true, false, cond, ltb, List, Some, None, sym, refl, ap, ◌∙◌, subst, arith}
use mathlib.Core.Logic.{∥∥₁_map}
use Rattle.std.proofs.lemmas.Bool.{and_parts, cond-true, cond-false}
use Rattle.table.specs.Rows.{Plan, row}
use Rattle.table.specs.declared.rows.CoreSet.{CoreSet}
use Rattle.table.proofs.Tables.{few_rows, nth_within}
use Rattle.board.specs.Steps.{is_waiting, is_pending, is_running, is_over}
use Rattle.board.specs.Standing.{plan_at, progress_at, loosened, launched}
use Rattle.board.specs.Meaning.{clear, easable, eased, started, finished, step_of, next, opened, stepped}
use Rattle.board.specs.declared.cores.Core.{Core}
use Rattle.board.specs.declared.cores.Step.TheVariants.{Loose, Running}
use Rattle.board.specs.declared.progress.Progress.{Progress}
use Rattle.board.specs.Keeping.{left_at, waiting_left}
use Rattle.vectors.specs.Links.{links_of}
use Rattle.vectors.specs.Phases.{Standing, first_vectors, start_vectors, end_vectors, ease_vectors, vectors_clear, vectors_easable, board_eased, board_started, board_finished}
use Rattle.vectors.specs.Linked.{dropped, ease_linked}
use Rattle.vectors.specs.Reached.{Reached, at_opening, standing, first_standing}
use Rattle.vectors.specs.View.{plan_on, standing_of, task_if}
use Rattle.vectors.specs.declared.vector_board.VectorBoard.{VectorBoard}
use Rattle.vectors.specs.declared.state.Links.{Links}
use Rattle.vectors.specs.declared.state.Vectors.{Vectors}
use Rattle.vectors.proofs.Stands.{clear_means, easable_means, ease_is}
use Rattle.vectors.proofs.Started.{either_progress}
use Rattle.vectors.proofs.Finished.{progress_finished}

-- a task was named: the answer was yes, and it is the next one; none was named: the answer was no
pub some_task : (y : Bool) (p : Plan) (s : Standing) (k t : ℕ) → Some t ≡ task_if y p s k → (y ≡ true) × (t ≡ next p s.progress k)
some_task true p s k t h = (refl, cc)
some_task false p s k t h = let z : ◌≡◌ {A = ℕ} 0 1 = cc in absurd (omega arith)

pub none_task : (y : Bool) (p : Plan) (s : Standing) (k : ℕ) → None ≡ task_if y p s k → y ≡ false
none_task true p s k h = let z : ◌≡◌ {A = ℕ} 0 1 = cc in absurd (omega arith)
none_task false p s k h = refl

-- the next task of a core that is not over is one of the table
next_small : (b : VectorBoard) (k : ℕ) → is_over (step_of (progress_at b.progress) k) ≡ false → next (plan_on b) (progress_at b.progress) k < 384
next_small b k h = omega (arith, nth_within k _ (plan_on b).rows (left_at b.progress k h).left, few_rows b.progress.table)

module _ (b : VectorBoard) (k : ℕ) where
  -- what the orders leave of the progress is what they mean
  pub started_means : (board_started (plan_on b) (standing_of b) k).progress ≡ started (plan_on b) (standing_of b).progress k
  started_means = either_progress (vectors_clear (plan_on b) (standing_of b) k) (standing_of b) _ ∙ ap (λ y. cond y (stepped (standing_of b).progress k Running) (standing_of b).progress) (clear_means b k)

  pub eased_means : (board_eased (plan_on b) (standing_of b) k).progress ≡ eased (plan_on b) (standing_of b).progress k
  eased_means = either_progress (vectors_easable (plan_on b) (standing_of b) k) (standing_of b) _ ∙ ap (λ y. cond y (stepped (standing_of b).progress k Loose) (standing_of b).progress) (easable_means b k)

  pub finished_means : (board_finished (plan_on b) (standing_of b) k).progress ≡ finished (plan_on b) (standing_of b).progress k
  finished_means = progress_finished (plan_on b) (standing_of b) k

-- an order that moves the cores to cs and the vectors to w: the vectors answer it with y, the board means m
module _ (b : VectorBoard) (k : ℕ) (y m : Bool) (cs : List Core) (w : Vectors) where
  -- answered with r, leaving the cores ds and the vectors v, it does what it means
  pub record Done (r : Bool) (ds : List Core) (v : Vectors) : Type 0 where
    pub answer : r ≡ m
    pub progress : ds ≡ cond m cs (standing_of b).progress
    pub standing : ◌≡◌ {A = Standing} (record { progress = ds; vectors = v }) (cond y (record { progress = cs; vectors = w }) (standing_of b))

  -- no task was named: the answer is no, and nothing is changed
  pub refused : y ≡ m → None ≡ task_if y (plan_on b) (standing_of b) k → Done false (standing_of b).progress b.vectors
  refused e h =
      let off = none_task y (plan_on b) (standing_of b) k h in
      record { answer = sym off ∙ e; progress = sym (cond-false m _ _ (sym e ∙ off)); standing = sym (cond-false y _ _ off) }

  -- a task was named: the answer is yes, and all is moved
  obeyed : y ≡ m → y ≡ true → (r : Bool) (ds : List Core) (v : Vectors) → r ≡ true → ds ≡ cs → v ≡ w → Done r ds v
  obeyed e on r ds v a f g =
      record { answer = a ∙ (sym on ∙ e); progress = f ∙ sym (cond-true m _ _ (sym e ∙ on)); standing = ap (λ z. standing z v) f ∙ (ap (standing cs) g ∙ sym (cond-true y _ _ on)) }

module _ (b : VectorBoard) (k t : ℕ) where
  -- the step that a named task shows
  pub clear_pending : Some t ≡ task_if (vectors_clear (plan_on b) (standing_of b) k) (plan_on b) (standing_of b) k → is_pending (step_of (standing_of b).progress k) ≡ true
  clear_pending some = (and_parts (is_pending (step_of (standing_of b).progress k)) _ (and_parts (ltb k (plan_on b).cores) _ (some_task _ (plan_on b) (standing_of b) k t some).0).1).0

  pub easable_waiting : Some t ≡ task_if (vectors_easable (plan_on b) (standing_of b) k) (plan_on b) (standing_of b) k → is_waiting (step_of (standing_of b).progress k) ≡ true
  easable_waiting some = (and_parts (is_waiting (step_of (standing_of b).progress k)) _ (and_parts (ltb k (plan_on b).cores) _ (some_task _ (plan_on b) (standing_of b) k t some).0).1).0

  -- the state after each order that was answered yes
  module _ (x : Progress) (v : Vectors) where
    pub started_done : Some t ≡ task_if (vectors_clear (plan_on b) (standing_of b) k) (plan_on b) (standing_of b) k → (r : Bool) → r ≡ true → progress_at x ≡ launched (standing_of b).progress k → v ≡ start_vectors b.vectors k t →
        Done b k (vectors_clear (plan_on b) (standing_of b) k) (clear (plan_on b) (standing_of b).progress k) (stepped (standing_of b).progress k Running) (start_vectors b.vectors k (next (plan_on b) (standing_of b).progress k)) r (progress_at x) v
    started_done some r a e f =
        let h = some_task _ (plan_on b) (standing_of b) k t some in
        obeyed b k _ _ _ _ (clear_means b k) h.0 r _ v a (e ∙ cond-true _ _ _ (clear_pending some)) (f ∙ ap (start_vectors b.vectors k) h.1)

    pub eased_done : Some t ≡ task_if (vectors_easable (plan_on b) (standing_of b) k) (plan_on b) (standing_of b) k → (r : Bool) → r ≡ true → progress_at x ≡ loosened (standing_of b).progress k →
        (inputs : CoreSet) → inputs ≡ (row (plan_on b) t).inputs → v ≡ ease_linked 8 b.links (dropped b.vectors k t inputs) b.vectors k t →
        Done b k (vectors_easable (plan_on b) (standing_of b) k) (easable (plan_on b) (standing_of b).progress k) (stepped (standing_of b).progress k Loose) (ease_vectors 8 (plan_on b) b.vectors k (next (plan_on b) (standing_of b).progress k)) r (progress_at x) v
    eased_done some r a e inputs i f =
        let h = some_task _ (plan_on b) (standing_of b) k t some in
        let small : t < 384 = omega (arith, h.1, next_small b k (waiting_left _ (easable_waiting some))) in
        let linked = ap (λ (l : Links). ease_linked 8 l (dropped b.vectors k t inputs) b.vectors k t) b.linked in
        let rowed = ap (λ (s : CoreSet). ease_linked 8 (links_of (plan_on b)) (dropped b.vectors k t s) b.vectors k t) i in
        obeyed b k _ _ _ _ (easable_means b k) h.0 r _ v a (e ∙ cond-true _ _ _ (easable_waiting some)) (f ∙ (linked ∙ (rowed ∙ (ease_is (plan_on b) b.vectors k t 8 small (omega arith) ∙ ap (ease_vectors 8 (plan_on b) b.vectors k) h.1))))

    pub ended_standing : Some t ≡ task_if (is_running (step_of (standing_of b).progress k)) (plan_on b) (standing_of b) k → progress_at x ≡ finished (plan_on b) (standing_of b).progress k → v ≡ end_vectors 8 b.vectors k t →
        standing (progress_at x) v ≡ board_finished (plan_on b) (standing_of b) k
    ended_standing some e f =
        let h = some_task (is_running (step_of (standing_of b).progress k)) (plan_on b) (standing_of b) k t some in
        ap (λ cs. standing cs v) e
        ∙ (ap (standing (finished (plan_on b) (standing_of b).progress k)) (f ∙ ap (end_vectors 8 b.vectors k) h.1)
        ∙ sym (cond-true (is_running (step_of (standing_of b).progress k)) _ _ h.0))

-- a state that an order leads to is again one that orders lead to, and the links stay those of the plan
pub reached_on : (b : VectorBoard) (x : Progress) (v : Vectors) (s : Standing) → plan_at x ≡ plan_on b → standing (progress_at x) v ≡ s → (Reached (plan_on b) (standing_of b) → Reached (plan_on b) s) → ∥ Reached (plan_at x) (standing (progress_at x) v) ∥₁
reached_on b x v s e f g = subst (λ (q : Plan). ∥ Reached q (standing (progress_at x) v) ∥₁) (sym e) (∥∥₁_map b.reached (λ r. subst (Reached (plan_on b)) (sym f) (g r)))

pub linked_on : (b : VectorBoard) (x : Progress) → plan_at x ≡ plan_on b → b.links ≡ links_of (plan_at x)
linked_on b x e = b.linked ∙ ap links_of (sym e)

pub reached_first : (p : Plan) (x : Progress) (v : Vectors) → plan_at x ≡ p → progress_at x ≡ opened p → v ≡ first_vectors p → ∥ Reached (plan_at x) (standing (progress_at x) v) ∥₁
reached_first p x v e f g =
    let same : standing (progress_at x) v ≡ first_standing p = ap (λ cs. standing cs v) f ∙ ap (standing (opened p)) g in
    subst (λ (q : Plan). ∥ Reached q (standing (progress_at x) v) ∥₁) (sym e) ∣ subst (Reached p) (sym same) at_opening ∣₁
