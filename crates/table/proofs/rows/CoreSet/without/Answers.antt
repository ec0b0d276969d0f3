use Rattle.std.proofs.Common.{arith}
use Rattle.table.proofs.Masks.{without_mask, without_far}
use Rattle.table.proofs.rows.CoreSet.without.Goals as goal

pub returns-then-core-lt8 : goal.returns-then-core-lt8
returns-then-core-lt8 c = without_mask c.args.self (omega arith) c.args.core c.if-core-lt8.true

pub returns-else-core-lt8 : goal.returns-else-core-lt8
returns-else-core-lt8 c = without_far c.args.self (omega arith) c.args.core c.if-core-lt8.false
