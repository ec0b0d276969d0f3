use Rattle.std.proofs.Common.{ℕ, cond, ltb, take, rules, ◌∙◌, arith}
use borrow.Author.Tests.{tests}
use Rattle.std.proofs.lemmas.Bool.{cond-true, lt-ltb}
use Rattle.std.proofs.lemmas.List.{length-take-le, get_or-take}
use Rattle.std.proofs.lemmas.List.FromFn.{fill_by_all}
use Rattle.table.specs.Layout.{row_at}
use Rattle.table.specs.Rows.{blank}
use Rattle.table.specs.declared.rows.Row.{Row}
use Rattle.table.proofs.FromFn.{made_at}
use Rattle.table.proofs.form.Form.rows.Goals as goal

pub returns-clause-is : goal.returns-clause-is
returns-clause-is c =
    let form = c.args.self.now in
    let n = form.header.tasks in
    let rows = c.from_fn.result in
    let made : ℕ → Row = λ t. cond (ltb t n) (row_at form.bytes.now t) blank in
    fill_by_all (row_at form.bytes.now) (take n rows) n blank (length-take-le n rows (omega (arith, c.from_fn.ensures.items.long, form.heads.few_tasks)))
    (λ t l. get_or-take n rows t blank l ∙ (made_at _ _ made blank (λ i x q k. search (rules, tests)) rows 384 c.from_fn.ensures.items t (omega (arith, form.heads.few_tasks)) ∙ cond-true _ _ _ (lt-ltb t n l)))
