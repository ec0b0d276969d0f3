use Rattle.std.proofs.Common.{arith}
use Rattle.table.proofs.Tables.{few_cores, table_sound}
use Rattle.table.proofs.lawful.Table.cores.Goals as goal

pub returns-clause-few : goal.returns-clause-few
returns-clause-few c = omega (arith, few_cores c.args.self.now)

pub returns-clause-lawful : goal.returns-clause-lawful
returns-clause-lawful c = table_sound c.args.self.now
