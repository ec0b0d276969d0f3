use Rattle.std.proofs.Common.{◌≡◌, ℕ, ◌-◌, ◌<◌, length, get_or}
use Rattle.table.specs.Rows.{last_end}
use Rattle.table.specs.Layout.{described, rows_of}
use Rattle.table.specs.Questions.{place_fault, first_fault}
use Rattle.table.proofs.form.Form.check_places.Given as goal

abbrev pub invariant-loop-task : goal.invariant-loop-task
invariant-loop-task l = record {
  room : length l.last_ends ≡ 8;
  ends : (k : ℕ) → k < 8 → get_or l.last_ends k 0 ≡ last_end k (rows_of l.self.bytes.now l.task);
  asked : first_fault (place_fault (described l.self.bytes.now)) 0 l.self.header.tasks ≡ first_fault (place_fault (described l.self.bytes.now)) l.task (l.self.header.tasks - l.task);
}
