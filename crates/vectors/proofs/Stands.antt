-- What holds of every vector board, since its state is one that orders lead to.
use Rattle.std.proofs.Common.{◌≡◌, ℕ, zero, suc, ◌<◌, ◌≤◌, Bool, true, false, cond, not, ◌&&◌, ltb, get_or, is_some, Some, None, Option, sym, refl, ap, ◌∙◌, arith}
use mathlib.Core.Bool.{Bool-set}
use mathlib.Core.Logic.{∥∥₁_elim}
use Rattle.std.proofs.Math.Bool.{not-not, and_assoc}
use Rattle.std.specs.Bool.{then_some}
use Rattle.std.specs.Option.{MatchOption}
use Rattle.std.proofs.lemmas.List.FromFn.{get_or-map-range_with_len}
use Rattle.table.specs.Sets.{has, without, less}
use Rattle.table.specs.Rows.{Plan, row}
use Rattle.table.specs.Below.{any_below}
use Rattle.table.proofs.Below.{any_same}
use Rattle.table.proofs.Sets.{less_at}
use Rattle.table.proofs.Tables.{named_some, task_at}
use Rattle.board.specs.Steps.{is_over, is_running}
use Rattle.board.specs.Standing.{progress_at}
use Rattle.board.specs.declared.cores.Step.{Step}
use Rattle.board.specs.declared.cores.Core.{Core}
use Rattle.board.proofs.Steps.{over_not}
use Rattle.board.proofs.Asking.{asked_with, none_over}
use Rattle.board.specs.Meaning.{clear, easable, idle, ended_on, next, next_task, step_of}
use Rattle.board.specs.Keeping.{progress_lawful, running_left, left_at}
use Rattle.vectors.specs.Links.{completer, following, task_links, links_of, no_links, links_at, completer_of, following_of}
use Rattle.vectors.specs.Phases.{Standing, ready_of, status_of, set_ready, hand_on, drops, drop_bit, ease_vectors, vectors_clear, vectors_easable}
use Rattle.vectors.specs.Linked.{dropped, drop_linked, ease_linked}
use Rattle.vectors.specs.Reached.{Reached, at_opening, by_easing, by_start, by_end}
use Rattle.vectors.specs.View.{plan_on, standing_of, task_if}
use Rattle.vectors.specs.declared.vector_board.VectorBoard.{VectorBoard}
use Rattle.vectors.specs.declared.state.TaskLinks.{TaskLinks}
use Rattle.vectors.specs.declared.state.Vectors.{Vectors}
use Rattle.table.proofs.Ordered.{Ordered, ordered}
use Rattle.vectors.proofs.Agree.{Agree, clear_right, easable_right}
use Rattle.vectors.proofs.Opened.{agree_opened}
use Rattle.vectors.proofs.Eased.{agree_eased}
use Rattle.vectors.proofs.Started.{agree_started}
use Rattle.vectors.proofs.Finished.{agree_finished}

-- wherever orders lead, the vectors say what the progress says
pub agree_reached : (p : Plan) → Ordered p → (b : Standing) → Reached p b → Agree p b.progress b.vectors
agree_reached p o b at_opening = agree_opened p o
agree_reached p o b (by_easing a k r) = agree_eased p o a (agree_reached p o a r) k
agree_reached p o b (by_start a k r) = agree_started p o a (agree_reached p o a r) k
agree_reached p o b (by_end a k r) = agree_finished p o a (agree_reached p o a r) k

board_ordered : (b : VectorBoard) → Ordered (plan_on b)
board_ordered b = ordered (plan_on b) (progress_lawful b.progress)

-- the answers by vectors are the board's meaning
pub clear_means : (b : VectorBoard) (k : ℕ) → vectors_clear (plan_on b) (standing_of b) k ≡ clear (plan_on b) (standing_of b).progress k
clear_means b k = ∥∥₁_elim b.reached (Bool-set _ _) (λ r. clear_right (plan_on b) (board_ordered b) (standing_of b) (agree_reached (plan_on b) (board_ordered b) (standing_of b) r) k)

pub easable_means : (b : VectorBoard) (k : ℕ) → vectors_easable (plan_on b) (standing_of b) k ≡ easable (plan_on b) (standing_of b).progress k
easable_means b k = ∥∥₁_elim b.reached (Bool-set _ _) (λ r. easable_right (plan_on b) (board_ordered b) (standing_of b) (agree_reached (plan_on b) (board_ordered b) (standing_of b) r) k)

-- what a board looks up of its table
links_of_at : (p : Plan) (t : ℕ) → t < 384 → links_at (links_of p) t ≡ task_links p t
links_of_at p t l = get_or-map-range_with_len (task_links p) 0 384 t t no_links l (omega arith)

pub completer_at : (p : Plan) (t k : ℕ) → t < 384 → k < 8 → completer_of (links_of p) t k ≡ completer p t k
completer_at p t k l m = ap (λ (x : TaskLinks). get_or x.completers k None) (links_of_at p t l) ∙ get_or-map-range_with_len (completer p t) 0 8 k k None m (omega arith)

following_at : (p : Plan) (t : ℕ) → t < 384 → following_of (links_of p) t ≡ following p t
following_at p t l = ap (λ (x : TaskLinks). x.following) (links_of_at p t l)

pub dropped_at : (p : Plan) (v : Vectors) (k t j : ℕ) → j < 8 → has (dropped v k t (row p t).inputs) j ≡ drops p v k t j
dropped_at p v k t j l =
    less_at (less (ready_of v t) (status_of v k)) (row p t).inputs j l
    ∙ (ap (λ b. b && not (has (row p t).inputs j)) (less_at (ready_of v t) (status_of v k) j l)
    ∙ and_assoc (has (ready_of v t) j) (not (has (status_of v k) j)) (not (has (row p t).inputs j)))

-- easing by what is looked up is easing as defined
pub ease_is : (p : Plan) (v : Vectors) (k t n : ℕ) → t < 384 → n ≤ 8 → ease_linked n (links_of p) (dropped v k t (row p t).inputs) v k t ≡ ease_vectors n p v k t
ease_is p v k t zero l m = refl
ease_is p v k t (suc j) l m =
    let d = dropped v k t (row p t).inputs in
    let ih = ease_is p v k t j l (omega arith) in
    ap (λ b. cond b (drop_linked (links_of p) (ease_linked j (links_of p) d v k t) k t j) (ease_linked j (links_of p) d v k t)) (dropped_at p v k t j (omega arith))
    ∙ (ap (λ u. cond (drops p v k t j) (drop_linked (links_of p) u k t j) u) ih
    ∙ ap (λ u. cond (drops p v k t j) u (ease_vectors j p v k t)) (one (ease_vectors j p v k t)))
  where
    one : (u : Vectors) → drop_linked (links_of p) u k t j ≡ drop_bit p u k t j
    one u =
        let w : Vectors = set_ready u t (without (ready_of u t) j) in
        ap (λ (f : Option ℕ). hand_on w f k (completer_of (links_of p) t j) j) (following_at p t l) ∙ ap (λ (x : Option ℕ). hand_on w (following p t) k x j) (completer_at p t j l (omega arith))

-- some bit is dropped, as the code asks it
pub some_dropped : (p : Plan) (v : Vectors) (k t : ℕ) → not (not (any_below 8 (has (dropped v k t (row p t).inputs)))) ≡ any_below 8 (drops p v k t)
some_dropped p v k t = let d = dropped v k t (row p t).inputs in not-not (any_below 8 (has d)) ∙ any_same 8 (has d) (drops p v k t) (dropped_at p v k t)

-- a core that is not over has its next task at hand
pub going_task : (b : VectorBoard) (k : ℕ) → is_over (step_of (progress_at b.progress) k) ≡ false → next_task (plan_on b) (progress_at b.progress) k ≡ Some (next (plan_on b) (progress_at b.progress) k)
going_task b k h = task_at b.progress.table k (ended_on (progress_at b.progress) k) (left_at b.progress k h).left

-- the next task if it passes a test is the next task if the answer is yes
pub tested : (b : VectorBoard) (k : ℕ) (z : Bool) (o r : Option ℕ) → o ≡ next_task (plan_on b) (progress_at b.progress) k → (P : ℕ → Bool → Type 0) →
    (None ≡ next_task (plan_on b) (progress_at b.progress) k → false ≡ z) → ((t : ℕ) (y : Bool) → Some t ≡ next_task (plan_on b) (progress_at b.progress) k → P t y → y ≡ z) →
    MatchOption o (r ≡ None) (λ t. (y : Bool) × P t y × (r ≡ then_some y t)) → r ≡ task_if z (plan_on b) (standing_of b) k
tested b k z None r d P off on h = h ∙ ap (λ y. task_if y (plan_on b) (standing_of b) k) (off d)
tested b k z (Some t) r d P off on (y, q, e) = e ∙ (ap (λ x. then_some x t) (on t y d q) ∙ named z)
  where
    named : (z : Bool) → then_some z t ≡ task_if z (plan_on b) (standing_of b) k
    named true = ap Some (sym (named_some _ t (sym d)))
    named false = refl

-- the same where the test is one of the step and one of the task
pub asked : (b : VectorBoard) (k : ℕ) (g : Step → Bool) (f : Step → ℕ → Bool) → ((s : Step) → g s ≡ true → is_over s ≡ false) → (c : Core) (o r : Option ℕ) →
    c ≡ get_or (progress_at b.progress) k idle → o ≡ next_task (plan_on b) (progress_at b.progress) k → (P : ℕ → Bool → Type 0) → ((t : ℕ) (y : Bool) → P t y → y ≡ (g c.step && f c.step t)) →
    MatchOption o (r ≡ None) (λ t. (y : Bool) × P t y × (r ≡ then_some y t)) →
    r ≡ task_if (ltb k (plan_on b).cores && (g (step_of (progress_at b.progress) k) && f (step_of (progress_at b.progress) k) (next (plan_on b) (progress_at b.progress) k))) (plan_on b) (standing_of b) k
asked b k g f left c o r e d P m = tested b k _ o r d P
    (λ n. asked_with b.progress k g f left c None false e n (λ t. P t false) (λ t. m t false) refl)
    (λ t y n. asked_with b.progress k g f left c (Some t) y e n (λ t. P t y) (λ t. m t y))

-- whether a task was named
pub some_if : (y : Bool) (b : VectorBoard) (k : ℕ) → is_some (task_if y (plan_on b) (standing_of b) k) ≡ y
some_if true b k = refl
some_if false b k = refl

-- a core with no next task runs none
pub none_running : (b : VectorBoard) (k : ℕ) → None ≡ next_task (plan_on b) (progress_at b.progress) k → false ≡ is_running (step_of (progress_at b.progress) k)
none_running b k h = sym (over_not is_running running_left (step_of (progress_at b.progress) k) (none_over b.progress k h))
