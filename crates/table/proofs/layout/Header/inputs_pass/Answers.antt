use Rattle.std.proofs.Common.{rules, ◌∙◌}
use borrow.Author.Tests.{tests}
use Rattle.std.proofs.lemmas.Iterator.Search.{all_from_yields_List}
use Rattle.table.specs.Reading.{passes_by}
use Rattle.table.proofs.Ranges.{all_of_range, numbers_below}
use Rattle.table.proofs.layout.Header.inputs_pass.Goals as goal

pub returns : goal.returns
returns c =
    let test = passes_by c.args.self.cores c.args.row c.args.earliest.now in
    all_from_yields_List test _ _ _ c.all.ensures.ran (numbers_below 8) (λ x b q k. search (rules, tests)) ∙ all_of_range test 8
