-- The plant, which runs the tasks: time passes in ticks between the calls, and in a tick a running task works or is held up.
use Rattle.std.specs.Prelude.{◌≡◌, ℕ, suc, ◌-◌, ◌<◌, Bool, true, false, cond, not, ◌&&◌, List, [], ◌∷◌, ◌++◌, ◌==◌}
use Rattle.table.specs.Rows.{Plan, row}
use Rattle.board.specs.Meaning.{clear}
use Rattle.runs.specs.Log.{call_time, starts, loosens, let_loose, runs, progress_by}
use Rattle.runs.specs.declared.Event.{Event}

-- a tick in which every running task works; one in which the running tasks of a set are held up, the others work, and one task pays for it
pub data Tick : Type 0 where
  working : Tick
  holding : (ℕ → Bool) → ℕ → Tick

-- a step of the plant: a call with its reply, or a tick
pub data Move : Type 0 where
  call : Event → Move
  tick : Tick → Move

-- task t is held up in a tick; pays for it
abbrev pub held_up : Tick → ℕ → Bool
held_up working t = false
held_up (holding held payer) t = held t

abbrev pub pays : Tick → ℕ → Bool
pays working t = false
pays (holding held payer) t = t == payer

-- the plant's time after its moves, of which the newest comes first
abbrev pub time : List Move → ℕ
time [] = 0
time (call e ∷ ms) = time ms
time (tick i ∷ ms) = suc (time ms)

-- the log of its calls, the oldest first
abbrev pub log_of : List Move → List Event
log_of [] = []
log_of (call e ∷ ms) = log_of ms ++ (e ∷ [])
log_of (tick i ∷ ms) = log_of ms

-- the work that task t has left, in ticks: its span when it starts, and one less for each tick in which it runs and is not held up
abbrev pub left : Plan → ℕ → List Move → ℕ
left p t [] = 0
left p t (call e ∷ ms) = cond (starts t e) ((row p t).end - (row p t).start) (left p t ms)
left p t (tick i ∷ ms) = cond (runs (log_of ms) t && not (held_up i t)) (left p t ms - 1) (left p t ms)

-- the purse of task t: its claim when it is let loose, and one less for each tick that it pays for
abbrev pub purse : Plan → ℕ → List Move → ℕ
purse p t [] = 0
purse p t (call e ∷ ms) = cond (loosens t e && not (let_loose (log_of ms) t)) (row p t).claim (purse p t ms)
purse p t (tick i ∷ ms) = cond (pays i t && runs (log_of ms) t) (purse p t ms - 1) (purse p t ms)

-- task t runs and is in the set
pub record HeldUp (held : ℕ → Bool) (log : List Event) : Type 0 where
  pub task : ℕ
  pub running : runs log task ≡ true
  pub is_held : held task ≡ true

-- the payer runs, was let loose, and has something in its purse
pub record CanPay (p : Plan) (payer : ℕ) (ms : List Move) : Type 0 where
  pub running : runs (log_of ms) payer ≡ true
  pub loose : let_loose (log_of ms) payer ≡ true
  pub purse_left : 0 < purse p payer ms

-- whoever is held up is paid for
abbrev pub PaidFor : Plan → Tick → List Move → Type 0
PaidFor p working ms = Unit {0}
PaidFor p (holding held payer) ms = HeldUp held (log_of ms) × CanPay p payer ms

-- a tick is allowed: every running task has work left, no core is clear, and whoever is held up is paid for
pub record Allowed (p : Plan) (i : Tick) (ms : List Move) : Type 0 where
  pub work : (t : ℕ) → runs (log_of ms) t ≡ true → 0 < left p t ms
  pub blocked : (k : ℕ) → clear p (progress_by p (log_of ms)) k ≡ false
  pub paid : PaidFor p i ms

-- the plant keeps its terms: each call carries its time, and each tick is allowed
pub data Kept (p : Plan) : List Move → Type 0 where
  begun : Kept p []
  called : {e : Event} {ms : List Move} → Kept p ms → call_time e.call ≡ time ms → Kept p (call e ∷ ms)
  ticked : {i : Tick} {ms : List Move} → Kept p ms → Allowed p i ms → Kept p (tick i ∷ ms)
