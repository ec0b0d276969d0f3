use Rattle.table.specs.View.{plan_of}
use Rattle.table.proofs.Tables.{few_cores}
use Rattle.board.proofs.progress.Progress.at_start.Goals as goal
use Rattle.board.proofs.Changes.{opens, opens_kept}

pub invariant_of-result : goal.invariant_of-result
invariant_of-result c = record { ok = opens_kept (plan_of c.args.table.now) c.at_start.result.rows (few_cores c.args.table.now) c.at_start.ensures }

pub returns-clause-progress : goal.returns-clause-progress
returns-clause-progress c = opens (plan_of c.args.table.now) c.at_start.result.rows (few_cores c.args.table.now) c.at_start.ensures
