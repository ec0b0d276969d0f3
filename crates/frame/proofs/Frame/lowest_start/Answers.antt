use Rattle.std.proofs.Common.{cond, Some, None, sym, ◌∙◌, arith, rules}
use borrow.Author.Tests.{tests}
use Rattle.std.proofs.lemmas.Iterator.{YieldsList-from_range}
use Rattle.std.proofs.lemmas.Iterator.Adapters.{option_map_id}
use Rattle.std.proofs.lemmas.Iterator.Consumers.{YieldsList-at, YieldsList-from_filter_map, min_from_yields_List}
use Rattle.runs.specs.Calls.{not_over, next_row}
use Rattle.frame.specs.View.{state_of}
use Rattle.frame.proofs.Adding.{lowest_as_least}
use Rattle.frame.proofs.Frame.lowest_start.Goals as goal

pub returns-clause-is : goal.returns-clause-is
returns-clause-is g c =
    let s = state_of g.B.Board c.args.self.now in
    let n = s.plan.cores in
    sym (option_map_id c.min.result)
    ∙ (min_from_yields_List c.filter_map.result c.min.result c.min.ensures.ran (YieldsList-from_filter_map _ (λ k. cond (not_over s.progress k) (Some (next_row s k).start) None) (YieldsList-at c.filter_map.ensures.source (YieldsList-from_range 0 n n (cc) (omega arith))) c.filter_map.ensures.closure (λ x r q k. search (rules, tests)))
    ∙ sym (lowest_as_least (not_over s.progress) (λ k. (next_row s k).start) n))
