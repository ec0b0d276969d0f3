use Rattle.std.proofs.Common.{ℕ, Bool, rules, length, drop, sym, ap, ◌∙◌, arith, length-drop}
use borrow.Author.Tests.{tests}
use Rattle.std.proofs.iter.Serving.{serving}
use Rattle.std.proofs.lemmas.Iterator.{YieldsList-from_range}
use Rattle.std.proofs.lemmas.Iterator.Adapters.{option_map_id}
use Rattle.std.proofs.lemmas.Iterator.Consumers.{nth_from_yields_List, YieldsList-from_filter}
use Rattle.std.specs.List.{slice_get, filter, range_with_len}
use Rattle.table.specs.Rows.{blank, on, row}
use Rattle.table.specs.View.{plan_of}
use Rattle.table.proofs.Tables.{few_rows, count_rows, nth_named}
use Rattle.std.proofs.lemmas.List.{get_or-drop}
use Rattle.table.proofs.lawful.Table.nth_from.Goals as goal

pub nth-requires : goal.nth-requires
nth-requires c =
    let count = count_rows c.args.self.now in
    grind (serving, count, c.rows-rows.ensures.is, c.rows-rows.ensures.few)

pub returns : goal.returns
returns c =
    let t = c.args.self.now in
    let p = plan_of t in
    let rest = drop c.args.from p.rows in
    let test : ℕ → Bool = λ u. on c.args.core (row p u) in
    sym (option_map_id c.nth.result)
    ∙ (nth_from_yields_List c.nth.result _ c.from.result c.nth.ensures.ran
    (YieldsList-from_filter _ test (YieldsList-from_range c.args.from t.header.tasks (length rest) (cc) (omega (arith, length-drop c.args.from p.rows, count_rows t))) c.filter.ensures.closure (λ x b q k. search (rules, tests)))
    ∙ (ap (slice_get (filter test (range_with_len c.args.from (length rest)))) c.from.ensures
    ∙ nth_named c.args.core c.args.nth c.args.from rest test (λ a l. ap (on c.args.core) (sym (get_or-drop c.args.from p.rows a blank))) (λ a l. omega (arith, l, length-drop c.args.from p.rows, few_rows t))))
