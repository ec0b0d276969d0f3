-- What the table check tells C.
use Rattle.std.specs.Prelude.{length, ℤ, pos, neg_ℤ, Ok, Err, Result}
use Rattle.table.specs.Rows.{Plan}
use Rattle.table.specs.Faults.{number_of}
use Rattle.table.specs.declared.faults.Fault.{Fault}

-- the number of tasks, or the number of the refusal, negated
abbrev pub told : Result Plan Fault → ℤ
told (Ok p) = pos (length p.rows)
told (Err f) = neg_ℤ (pos (number_of f))
