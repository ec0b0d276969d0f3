use Rattle.std.proofs.Common.{ap, rules, ◌∙◌}
use borrow.Author.Tests.{tests}
use Rattle.std.proofs.lemmas.Iterator.Search.{all_from_yields_List}
use Rattle.table.proofs.Ranges.{numbers_below, all_of_range}
use Rattle.table.specs.Below.{all_below}
use Rattle.board.specs.Meaning.{free_of}
use Rattle.board.specs.Standing.{plan_at, progress_at}
use Rattle.board.proofs.count.CountBoard.all_free.Goals as goal

pub returns : goal.returns
returns c =
    let x = c.args.self.now.progress in
    let f = free_of (plan_at x) (progress_at x) c.args.step c.args.task in
    all_from_yields_List f _ _ _ c.all.ensures.ran (numbers_below c.cores.result) (λ y b q k. search (rules, tests))
    ∙ (all_of_range f c.cores.result ∙ ap (λ n. all_below n f) c.cores.ensures)
