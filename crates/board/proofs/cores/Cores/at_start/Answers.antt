use Rattle.std.proofs.Common.{rules}
use borrow.Author.Tests.{tests}
use Rattle.table.specs.View.{plan_of}
use Rattle.board.specs.Standing.{row_at_start}
use Rattle.table.proofs.FromFn.{from_fn_is}
use Rattle.board.proofs.cores.Cores.at_start.Goals as goal

pub returns : goal.returns
returns c = from_fn_is (row_at_start (plan_of c.args.table.now)) c.from_fn.result c.from_fn.ensures.items (λ i r q h. search (rules, tests))
