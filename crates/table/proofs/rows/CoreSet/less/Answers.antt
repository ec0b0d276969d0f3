use Rattle.std.proofs.Common.{arith}
use Rattle.table.proofs.Masks.{less_mask}
use Rattle.table.proofs.rows.CoreSet.less.Goals as goal

pub returns : goal.returns
returns c = less_mask c.args.self (omega arith) c.args.other (omega arith)
