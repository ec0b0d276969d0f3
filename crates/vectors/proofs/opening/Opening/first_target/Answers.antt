use Rattle.std.proofs.Common.{rules, ◌∙◌, sym, ap, arith}
use Rattle.std.proofs.lemmas.Iterator.{serves_from_Range}
use Rattle.std.proofs.lemmas.Iterator.Search.{find_from_yields_List}
use Rattle.std.proofs.lemmas.Iterator.Adapters.{option_map_id}
use Rattle.table.specs.Below.{first_from}
use Rattle.table.specs.View.{plan_of}
use Rattle.vectors.specs.Links.{aims}
use Rattle.table.proofs.Ranges.{numbers_below, first_of_range}
use Rattle.vectors.proofs.opening.Opening.first_target.Goals as goal

pub find-requires-clause-callable : goal.find-requires-clause-callable
find-requires-clause-callable c = serves_from_Range (λ x q h. search rules) (λ x a b. omega arith)

pub returns : goal.returns
returns c =
    let p = plan_of c.args.self.now.table.now in
    let f = aims p c.args.task c.args.core in
    sym (option_map_id c.find.result)
    ∙ (find_from_yields_List f _ _ c.find.result c.find.ensures.ran (numbers_below c.tasks.result) (λ x b q k. (search rules, cc))
    ∙ (first_of_range f 0 c.tasks.result ∙ ap (first_from f 0) c.tasks.ensures.is))
