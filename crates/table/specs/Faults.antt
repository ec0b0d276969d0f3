-- The number, the row and the place of each fault.
use Rattle.std.specs.Prelude.{ℕ, List, ◌++◌, Some, None, codes, decimal, Option}
use Rattle.table.specs.Layout.{core_bit, start_bit, inputs_bit}
use Rattle.table.specs.declared.faults.Fault.{Fault}
use Rattle.table.specs.declared.faults.Fault.TheVariants.{NotATable, TaskCount, WrongLength, NoSuchCore, BadSpan, OutOfOrder, BadInputs}

-- the number of the question that was answered no
abbrev pub number_of : Fault → ℕ
number_of NotATable = 1
number_of TaskCount = 2
number_of WrongLength = 3
number_of (NoSuchCore r) = 4
number_of (BadSpan r) = 5
number_of (OutOfOrder r) = 6
number_of (BadInputs r) = 7

-- the row at fault, if it is one
abbrev pub row_of : Fault → Option ℕ
row_of NotATable = None
row_of TaskCount = None
row_of WrongLength = None
row_of (NoSuchCore r) = Some r
row_of (BadSpan r) = Some r
row_of (OutOfOrder r) = Some r
row_of (BadInputs r) = Some r

-- the bit at which the field at fault begins
abbrev pub offset_of : Fault → ℕ
offset_of NotATable = 0
offset_of TaskCount = 11
offset_of WrongLength = 48
offset_of (NoSuchCore r) = core_bit r
offset_of (BadSpan r) = start_bit r
offset_of (OutOfOrder r) = start_bit r
offset_of (BadInputs r) = inputs_bit r

-- what is wrong, in words
abbrev pub reason_of : Fault → List ℕ
reason_of NotATable = codes "there are not 6 bytes that begin with the mark 87"
reason_of TaskCount = codes "the number of tasks is not from 1 to 384"
reason_of WrongLength = codes "the length is not 6 + 11 bytes for each task"
reason_of (NoSuchCore r) = codes "the core is not one of the table's"
reason_of (BadSpan r) = codes "the start is not before the end, or the end is past the frame"
reason_of (OutOfOrder r) = codes "the start is before the end of the row before it on its core"
reason_of (BadInputs r) = codes "a data bit names no other core on which a row ends by the start"

-- the line that tells a fault: its number, its row, its place and the reason
abbrev pub line_with : Option ℕ → Fault → List ℕ
line_with None f = codes "question " ++ (decimal (number_of f) ++ (codes ", no row, bit " ++ (decimal (offset_of f) ++ (codes ": " ++ reason_of f))))
line_with (Some r) f = codes "question " ++ (decimal (number_of f) ++ (codes ", row " ++ (decimal r ++ (codes ", bit " ++ (decimal (offset_of f) ++ (codes ": " ++ reason_of f))))))

abbrev pub line_of : Fault → List ℕ
line_of f = line_with (row_of f) f
