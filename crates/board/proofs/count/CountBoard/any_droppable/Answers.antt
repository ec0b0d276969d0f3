use Rattle.std.proofs.Common.{ap, rules, ◌∙◌}
use borrow.Author.Tests.{tests}
use Rattle.std.proofs.lemmas.Iterator.Search.{any_from_yields_List}
use Rattle.table.proofs.Ranges.{numbers_below, any_of_range}
use Rattle.table.specs.Below.{any_below}
use Rattle.board.specs.Meaning.{droppable}
use Rattle.board.specs.Standing.{plan_at, progress_at}
use Rattle.board.proofs.count.CountBoard.any_droppable.Goals as goal

pub returns : goal.returns
returns c =
    let x = c.args.self.now.progress in
    let f = droppable (plan_at x) (progress_at x) c.args.core c.args.task in
    any_from_yields_List f _ _ _ c.any.ensures.ran (numbers_below c.cores.result) (λ y b q k. search (rules, tests))
    ∙ (any_of_range f c.cores.result ∙ ap (λ n. any_below n f) c.cores.ensures)
