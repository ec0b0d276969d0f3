use Rattle.std.proofs.Common.{arith}
use Rattle.table.proofs.Tables.{small, soon}
use Rattle.table.proofs.lawful.Table.row.Goals as goal

pub returns-clause-soon : goal.returns-clause-soon
returns-clause-soon c = grind (arith, soon c.args.self.now c.args.task)

pub returns-clause-small : goal.returns-clause-small
returns-clause-small c = grind (arith, small c.args.self.now c.args.task)
