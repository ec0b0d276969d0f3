use Rattle.std.proofs.Common.{arith}
use Rattle.table.proofs.Tables.{few_tasks}
use Rattle.table.proofs.lawful.Table.rows.Goals as goal

pub shared_ref_as_front-result : goal.shared_ref_as_front-result
shared_ref_as_front-result c = omega (arith, c.from.ensures, few_tasks c.args.self.now)
