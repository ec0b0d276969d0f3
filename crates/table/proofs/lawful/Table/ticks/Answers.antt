use Rattle.std.proofs.Common.{arith}
use Rattle.table.proofs.Tables.{few_ticks}
use Rattle.table.proofs.lawful.Table.ticks.Goals as goal

pub returns-clause-small : goal.returns-clause-small
returns-clause-small c = omega (arith, few_ticks c.args.self.now)
