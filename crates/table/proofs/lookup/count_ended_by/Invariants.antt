use Rattle.std.proofs.Common.{◌≡◌, ◌≤◌, length, take, count_by}
use Rattle.table.specs.Rows.{ends_by}
use Rattle.table.proofs.lookup.count_ended_by.Given as goal

abbrev pub invariant-loop-row : goal.invariant-loop-row
invariant-loop-row l = (length l.rows ≤ 384) × (l.count ≤ l.row-index) × (l.count ≡ count_by (ends_by l.core l.time) (take l.row-index l.rows))
