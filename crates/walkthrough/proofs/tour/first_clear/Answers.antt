use Rattle.std.proofs.Common.{◌≡◌, sym, ap, ◌∙◌, rules, tests}
use Rattle.std.proofs.lemmas.Iterator.Adapters.{option_map_id}
use Rattle.std.proofs.lemmas.Iterator.Search.{find_from_yields_List}
use Rattle.table.specs.Below.{first_from}
use Rattle.table.specs.Rows.{Plan}
use Rattle.board.specs.Meaning.{clear}
use Rattle.table.proofs.Ranges.{numbers_below, first_of_range}
use Rattle.walkthrough.proofs.tour.first_clear.Goals as goal

pub returns : goal.returns
returns g c =
    let p = g.B.Board.plan c.args.board.now in
    let f = clear p (g.B.Board.progress c.args.board.now) in
    let n = c.from.result in
    let cores : n ≡ p.cores = c.from.ensures ∙ (c.cores.ensures.is ∙ ap (λ (q : Plan). q.cores) c.table.ensures) in
    sym (option_map_id c.find.result)
    ∙ find_from_yields_List f _ _ c.find.result c.find.ensures.ran (numbers_below n) (λ x b q k. search (rules, tests))
    ∙ first_of_range f 0 n
    ∙ ap (first_from f 0) cores
