-- Which tables are lawful, in the subject's own words, and what is promised of load.
use Rattle.std.specs.Prelude.{◌≡◌, ℕ, ◌+◌, ◌*◌, ◌^◌, ◌<◌, ◌≤◌, true, ◌⊎◌, List, length, Ok, slice_index_or}
use Rattle.std.specs.List.{AllByRecursion}
use Rattle.table.specs.Sets.{has}
use Rattle.table.specs.Rows.{Plan, nothing, row}
use Rattle.table.specs.Layout.{cores_of, tasks_of, ticks_of, row_at}
use Rattle.table.specs.Questions.{loaded}
use Rattle.table.specs.declared.rows.Row.{Row}

-- some row of core k ends by the time
pub record EndsBy (p : Plan) (k time : ℕ) : Type 0 where
  pub task : ℕ
  pub within : task < length p.rows
  pub core : (row p task).core ≡ k
  pub ended : (row p task).end ≤ time

-- core k may write what row r reads: it is another core of the table, and some row of it ends by r's start
pub record Writes (p : Plan) (r : Row) (k : ℕ) : Type 0 where
  pub other : k ≡ r.core → ⊥
  pub there : k < p.cores
  pub done : EndsBy p k r.start

-- each core is in range, each span lies inside the frame, the rows of one core stand in order, and every data bit names a core that may write
pub record Lawful (p : Plan) : Type 0 where
  pub on_a_core : (t : ℕ) → t < length p.rows → (row p t).core < p.cores
  pub forward : (t : ℕ) → t < length p.rows → (row p t).start < (row p t).end
  pub in_frame : (t : ℕ) → t < length p.rows → (row p t).end ≤ p.ticks
  pub in_order : (a b : ℕ) → a < b → b < length p.rows → (row p a).core ≡ (row p b).core → (row p a).end ≤ (row p b).start
  pub written : (t k : ℕ) → t < length p.rows → has (row p t).inputs k ≡ true → Writes p (row p t) k

-- a row's fields are within their widths
pub record RowFits (r : Row) : Type 0 where
  pub core : r.core < 2 ^ 3
  pub start : r.start < 2 ^ 28
  pub end : r.end < 2 ^ 28
  pub claim : r.claim < 2 ^ 21
  pub inputs : r.inputs.bits < 2 ^ 8

-- all fields are within their widths: 1 to 8 cores, 1 to 384 rows
pub record Fits (p : Plan) : Type 0 where
  pub some_core : 1 ≤ p.cores
  pub few_cores : p.cores ≤ 8
  pub some_task : 1 ≤ length p.rows
  pub few_tasks : length p.rows ≤ 384
  pub ticks : p.ticks < 2 ^ 28
  pub each : (t : ℕ) → t < length p.rows → RowFits (row p t)

-- the bytes are those of this plan: the mark, the header, and 1 to 384 rows, with nothing behind them
pub record Describes (bytes : List ℕ) (p : Plan) : Type 0 where
  pub mark : slice_index_or bytes 0 0 ≡ 87
  pub size : length bytes ≡ 6 + 11 * length p.rows
  pub some_task : 1 ≤ length p.rows
  pub few_tasks : length p.rows ≤ 384
  pub cores : p.cores ≡ cores_of bytes
  pub tasks : length p.rows ≡ tasks_of bytes
  pub ticks : p.ticks ≡ ticks_of bytes
  pub each : (t : ℕ) → t < length p.rows → row p t ≡ row_at bytes t

-- load accepts the bytes of a lawful table, and no others
abbrev pub AcceptsExactlyTheLawful : List ℕ → Type 0
AcceptsExactlyTheLawful bytes = (p : Plan) → (loaded bytes ≡ Ok p → Describes bytes p × Lawful p) × (Describes bytes p × Lawful p → loaded bytes ≡ Ok p)

-- for every lawful table whose fields fit there are bytes that load accepts and that give exactly this table
abbrev pub AcceptsEveryLawfulTable : Type 0
AcceptsEveryLawfulTable = (p : Plan) → Fits p → Lawful p → (bytes : List ℕ) × AllByRecursion (λ b. b < 256) bytes × (loaded bytes ≡ Ok p)

-- what every table value is: empty, or lawful with its fields within their widths
abbrev pub EmptyOrLawful : Plan → Type 0
EmptyOrLawful p = (p ≡ nothing) ⊎ (Fits p × Lawful p)
