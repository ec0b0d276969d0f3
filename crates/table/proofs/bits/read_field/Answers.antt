use Rattle.std.proofs.Common.{rules, ◌+◌, refl, ◌∙◌, arith}
use Rattle.std.proofs.lemmas.Iterator.{YieldsList-from_range}
use Rattle.std.proofs.lemmas.Iterator.Consumers.{fold_from_yields_List}
use Rattle.table.proofs.Accepts.{field_lt}
use Rattle.table.proofs.Folds.{next_bit, folded}
use Rattle.table.proofs.bits.read_field.Goals as goal

pub returns-clause-is : goal.returns-clause-is
returns-clause-is c =
    fold_from_yields_List _ (next_bit c.args.bytes.now) 0 _ c.fold.ensures.ran (YieldsList-from_range c.args.at (c.args.at + c.args.width) c.args.width refl (omega arith)) (λ a x b q k. search rules)
    ∙ folded c.args.bytes.now c.args.at c.args.width c.requires.narrow

pub returns-clause-fits : goal.returns-clause-fits
returns-clause-fits c = omega (arith, field_lt c.args.bytes.now c.args.at c.args.width, returns-clause-is c)
