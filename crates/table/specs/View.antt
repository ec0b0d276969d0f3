-- What a table value stands for, and what was found of bytes.
use Rattle.std.specs.Prelude.{◌≡◌, ℕ, List, Ok, Err, Result}
use Rattle.table.specs.Layout.{described}
use Rattle.table.specs.Questions.{loaded, answered}
use Rattle.table.specs.Rows.{Plan}
use Rattle.table.specs.Sound.{plan_from}
use Rattle.table.specs.declared.faults.Fault.{Fault}
use Rattle.table.specs.declared.form.Form.{Form}
use Rattle.table.specs.declared.lawful.Table.{Table}

abbrev pub plan_of : Table → Plan
plan_of t = plan_from t.header.cores t.header.tasks t.header.ticks t.rows

-- all questions were asked: the bytes with their header, or the fault
abbrev pub Checked : List ℕ → Result Form Fault → Type 0
Checked bytes (Ok f) = (loaded bytes ≡ Ok (described bytes)) × (Ok f.header.tasks ≡ answered (loaded bytes)) × (f.bytes.now ≡ bytes)
Checked bytes (Err f) = loaded bytes ≡ Err f

-- the bytes were read: the table that they hold, or the fault
abbrev pub Read : List ℕ → Result Table Fault → Type 0
Read bytes (Ok t) = (loaded bytes ≡ Ok (plan_of t)) × (Ok t.header.tasks ≡ answered (loaded bytes))
Read bytes (Err f) = loaded bytes ≡ Err f
