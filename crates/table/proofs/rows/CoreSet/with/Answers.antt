use Rattle.std.proofs.Common.{arith}
use Rattle.table.proofs.Masks.{with_mask, with_far}
use Rattle.table.proofs.rows.CoreSet.with.Goals as goal

pub returns-then-core-lt8 : goal.returns-then-core-lt8
returns-then-core-lt8 c = with_mask c.args.self (omega arith) c.args.core c.if-core-lt8.true

pub returns-else-core-lt8 : goal.returns-else-core-lt8
returns-else-core-lt8 c = with_far c.args.self (omega arith) c.args.core c.if-core-lt8.false
