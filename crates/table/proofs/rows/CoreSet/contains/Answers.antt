use Rattle.std.proofs.Common.{sym, ◌∙◌, arith}
use Rattle.std.proofs.lemmas.Bool.{le-ltb}
use Rattle.table.proofs.Sets.{has_past}
use Rattle.table.proofs.rows.CoreSet.contains.Goals as goal

pub returns-else-core-lt8 : goal.returns-else-core-lt8
returns-else-core-lt8 c = le-ltb c.args.core 8 c.if-core-lt8.false ∙ sym (has_past c.args.self c.args.core (omega arith) c.if-core-lt8.false)
