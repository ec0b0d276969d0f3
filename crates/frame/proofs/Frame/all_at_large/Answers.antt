use Rattle.std.proofs.Common.{ℕ, ◌+◌, ◌<◌, ◌≤◌, not, length, filter, refl, ap, ◌∙◌, subst, arith, rules}
use borrow.Author.Tests.{tests}
use Rattle.std.specs.List.{range_with_len, sum_by}
use Rattle.std.proofs.lemmas.List.Filters.{length-filter_both}
use Rattle.std.proofs.lemmas.List.FromFn.{length-range_with_len}
use Rattle.std.proofs.lemmas.Iterator.{YieldsList-from_range}
use Rattle.std.proofs.lemmas.Iterator.Consumers.{YieldsList-at, YieldsList-from_filter, fold_from_yields_List}
use Rattle.table.specs.Rows.{Plan, row}
use Rattle.table.proofs.Tables.{small}
use Rattle.runs.specs.Calls.{at_large, next_of, next_row, reserve, loose_count}
use Rattle.frame.specs.View.{state_of}
use Rattle.frame.proofs.Adding.{total_as_count, total_as_sum, counted, counted_all, pair_same}
use Rattle.frame.proofs.Frame.all_at_large.Goals as goal

pub returns : goal.returns
returns g c =
    let s = state_of g.B.Board c.args.self.now in
    let n = s.plan.cores in
    let claim : ℕ → ℕ = λ k. (next_row s k).claim in
    let few : (k : ℕ) → claim k < 2097152 = λ k. subst (λ (p : Plan). (row p (next_of s k)).claim < 2097152) c.table.ensures (small c.table.result.now (next_of s k)) in
    let ks = filter (at_large s) (range_with_len 0 n) in
    let short : length ks ≤ 8 = omega (arith, length-filter_both (at_large s) (λ k. not (at_large s k)) (λ k. refl) (range_with_len 0 n), length-range_with_len 0 n, c.cores.ensures.is, c.cores.ensures.few, ap (λ (p : Plan). p.cores) c.table.ensures) in
    fold_from_yields_List _ (counted claim) (0, 0) _ c.fold.ensures.ran (YieldsList-from_filter _ (at_large s) (YieldsList-at c.filter.ensures.source (YieldsList-from_range 0 n n (cc) (omega arith))) c.filter.ensures.closure (λ x r q k. search (rules, tests))) (λ a x b q k. search rules)
    ∙ counted_all claim few ks 0 0 (omega (arith, short)) (omega (arith, short))
    ∙ pair_same (0 + sum_by claim ks) (reserve s) (0 + length ks) (loose_count s) (omega (arith, total_as_sum (at_large s) claim n)) (omega (arith, total_as_count (at_large s) n))
