use Rattle.std.proofs.Common.{◌≡◌, Ok, sym, subst}
use Rattle.table.specs.Layout.{described}
use Rattle.table.specs.Questions.{loaded}
use Rattle.table.proofs.Fills.{filled_sound}
use Rattle.table.proofs.Accepts.{exactly_the_lawful, every_lawful_table}
use Rattle.table.proofs.loading.read_table.Goals as goal

pub returns-in_err-form-clause-exactly : goal.returns-in_err-form-clause-exactly
returns-in_err-form-clause-exactly c = exactly_the_lawful c.args.bytes.now

pub returns-in_err-form-clause-every : goal.returns-in_err-form-clause-every
returns-in_err-form-clause-every c = every_lawful_table

pub invariant_of-result : goal.invariant_of-result
invariant_of-result c =
    let form = c.in_ok-form.form in
    let done = c.in_ok-form.ensures in
    record { ok = filled_sound form.bytes.now form.header c.rows.result form.heads (subst (λ bs. loaded bs ≡ Ok (described bs)) (sym done.2) done.0) c.rows.ensures.is c.rows.ensures.room }

pub returns-clause-exactly : goal.returns-clause-exactly
returns-clause-exactly c = exactly_the_lawful c.args.bytes.now

pub returns-clause-every : goal.returns-clause-every
returns-clause-every c = every_lawful_table
