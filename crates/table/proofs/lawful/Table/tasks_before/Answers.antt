use Rattle.std.proofs.Common.{◌≡◌, ◌^◌, ◌≤◌, min, length, take, sym, ap, ◌∙◌, arith, rules}
use borrow.Author.Tests.{tests}
use Rattle.std.proofs.iter.Serving.{serving}
use Rattle.std.proofs.lemmas.List.{length-take, take_min}
use Rattle.std.proofs.lemmas.List.FromFn.{length-range_with_len}
use Rattle.std.proofs.lemmas.List.Sums.{count_by-le-length}
use Rattle.std.proofs.lemmas.Iterator.{YieldsList-from_range, YieldsList-from_map}
use Rattle.std.proofs.lemmas.Iterator.Consumers.{YieldsList-at, sum_by_from_yields_List}
use Rattle.std.proofs.lemmas.Iterator.Adapters.{fits_from_length, at_most_from_yields_List}
use Rattle.std.specs.List.{range_with_len}
use Rattle.table.specs.Rows.{on, tasks_on}
use Rattle.table.specs.View.{plan_of}
use Rattle.table.proofs.Counts.{one_on, counted}
use Rattle.table.proofs.Tables.{count_rows, few_rows}
use Rattle.table.proofs.lawful.Table.tasks_before.Goals as goal

pub sum-requires-clause-can : goal.sum-requires-clause-can
sum-requires-clause-can c =
    let count = count_rows c.args.self.now in
    grind (serving, count, c.rows-rows.ensures.is, c.rows-rows.ensures.few, c.min.ensures)

pub sum-requires-clause-fits : goal.sum-requires-clause-fits
sum-requires-clause-fits c =
    let n = c.min.result in
    let few : length (range_with_len 0 n) ≤ 384 = omega (arith, length-range_with_len 0 n, c.min.ensures, count_rows c.args.self.now, few_rows c.args.self.now) in
    fits_from_length _ _ 384 (2 ^ 16) (at_most_from_yields_List (YieldsList-at c.map.ensures.source (YieldsList-from_range 0 n n (cc) (omega arith))) few) c.map.ensures.closure (omega arith) (λ x r q k. search (rules, tests))

pub returns-clause-is : goal.returns-clause-is
returns-clause-is c =
    let rows = (plan_of c.args.self.now).rows in
    let k = c.args.core in
    let n = c.min.result in
    let cut : n ≡ min c.args.end (length rows) = c.min.ensures ∙ ap (min c.args.end) (sym (count_rows c.args.self.now)) in
    sum_by_from_yields_List (one_on k rows) (range_with_len 0 n) c.map.result c.sum.result c.sum.ensures.ran
    (YieldsList-from_map _ (one_on k rows) (YieldsList-at c.map.ensures.source (YieldsList-from_range 0 n n (cc) (omega arith))) c.map.ensures.closure (λ x r q k. search (rules, tests)))
    ∙ (counted k n rows (omega (arith, cut)) ∙ (ap (λ m. tasks_on (take m rows) k) cut ∙ ap (λ xs. tasks_on xs k) (take_min c.args.end rows)))

pub returns-clause-few : goal.returns-clause-few
returns-clause-few c =
    let before = take c.args.end (plan_of c.args.self.now).rows in
    omega (arith, returns-clause-is c, few_rows c.args.self.now, length-take c.args.end (plan_of c.args.self.now).rows, count_by-le-length (on c.args.core) before)
