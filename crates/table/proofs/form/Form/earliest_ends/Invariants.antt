use Rattle.std.proofs.Common.{◌≡◌, ℕ, ◌<◌, None, length, get_or}
use Rattle.table.specs.Layout.{rows_of}
use Rattle.table.specs.Reading.{earliest_end}
use Rattle.table.proofs.form.Form.earliest_ends.Given as goal

abbrev pub invariant-loop-task : goal.invariant-loop-task
invariant-loop-task l = record {
  room : length l.ends ≡ 8;
  each : (k : ℕ) → k < 8 → get_or l.ends k None ≡ earliest_end k (rows_of l.self.bytes.now l.task);
}
