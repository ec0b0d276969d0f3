use Rattle.std.proofs.Common.{arith}
use Rattle.table.proofs.Masks.{includes_mask}
use Rattle.table.proofs.rows.CoreSet.includes.Goals as goal

pub returns : goal.returns
returns c = includes_mask c.args.self (omega arith) c.args.other (omega arith)
