use Rattle.std.proofs.Common.{◌≡◌, ℕ, List, ◌++◌, None, codes, decimal, ap, subst}
use Rattle.std.specs.Fmt.{HasWritten}
use Rattle.table.specs.Faults.{number_of, row_of, offset_of, reason_of, line_with, line_of}
use Rattle.table.specs.declared.faults.Fault.{Fault}
use Rattle.table.proofs.faults.FaultDisplay.fmt.Goals as goal

-- the line of a fault without a row, from its parts
line : (f : Fault) (n o : ℕ) (why : List ℕ) → n ≡ number_of f → o ≡ offset_of f → why ≡ reason_of f → None ≡ row_of f →
    codes "question " ++ (decimal n ++ (codes ", no row, bit " ++ (decimal o ++ (codes ": " ++ why)))) ≡ line_of f
line f n o why a b c d = rw (a, b, c) (ap (λ r. line_with r f) d)

pub returns-in-None-clause-writes : goal.returns-in-None-clause-writes
returns-in-None-clause-writes g c = λ plain ok.
    subst (λ bs. HasWritten g.W.Write.write_str_gives c.args.f.now bs c.write-in-None.new.self)
    (line c.args.self.now _ _ _ c.number-number.ensures c.offset-offset.ensures c.reason-reason.ensures c.in-None.ensures)
    (c.write-in-None.ensures.writes plain ok)
