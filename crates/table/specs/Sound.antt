-- The test that the fields of every table value pass: they are those of an empty table or of a lawful one.
use Rattle.std.specs.Prelude.{ℕ, ◌^◌, Bool, true, not, ◌&&◌, ◌||◌, List, [], ◌∷◌, length, take, is_some, ◌==◌, nat_le, nat_lt}
use Rattle.table.specs.Rows.{Plan}
use Rattle.table.specs.Questions.{rows_fault}
use Rattle.table.specs.declared.rows.Row.{Row}

-- the fields of a row, of all rows, are within their widths
abbrev pub row_fits : Row → Bool
row_fits r = nat_lt r.core (2 ^ 3) && (nat_lt r.start (2 ^ 28) && (nat_lt r.end (2 ^ 28) && (nat_lt r.claim (2 ^ 21) && nat_lt r.inputs.bits (2 ^ 8))))

abbrev pub rows_fit : List Row → Bool
rows_fit [] = true
rows_fit (r ∷ rs) = row_fits r && rows_fit rs

abbrev pub plan_fits : Plan → Bool
plan_fits p = nat_le 1 p.cores && (nat_le p.cores 8 && (nat_le 1 (length p.rows) && (nat_le (length p.rows) 384 && (nat_lt p.ticks (2 ^ 28) && rows_fit p.rows))))

-- no fault is found, and all fields are within their widths
abbrev pub is_lawful : Plan → Bool
is_lawful p = plan_fits p && not (is_some (rows_fault p))

-- no core, no task, no tick
abbrev pub is_nothing : ℕ → ℕ → ℕ → Bool
is_nothing cores tasks ticks = cores == 0 && (tasks == 0 && ticks == 0)

-- the plan of a table's fields: the first `tasks` rows are its rows
abbrev pub plan_from : ℕ → ℕ → ℕ → List Row → Plan
plan_from cores tasks ticks rows = record { cores = cores; ticks = ticks; rows = take tasks rows }

unfoldable pub sound : ℕ → ℕ → ℕ → List Row → Bool
sound cores tasks ticks rows = nat_le tasks (length rows) && (is_nothing cores tasks ticks || is_lawful (plan_from cores tasks ticks rows))
