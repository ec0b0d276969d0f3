use Rattle.std.proofs.Common.{◌<◌, length, get_or, take, sym, ap, ◌∙◌, arith}
use Rattle.std.proofs.lemmas.List.{get_or-take}
use Rattle.table.proofs.Ordered.{ordered}
use Rattle.board.specs.Meaning.{next}
use Rattle.runs.specs.Records.{fresh, went_loose}
use Rattle.runs.specs.declared.Record.{Record}
use Rattle.frame.proofs.Frame.runs_loose.Goals as goal
use Rattle.frame.proofs.Parts.{named_next, unnamed_next, no_record}

pub bounds-self-from : goal.bounds-self-from
bounds-self-from g c =
    let x = c.args.self.now.board in
    let p = g.B.Board.plan x in
    let cs = g.B.Board.progress x in
    let law = g.met.B.Board.lawful x in
    omega (arith, c.from.ensures, (ordered p law).short, (named_next p law cs c.args.core c.in-Some.task c.in-Some.ensures).1)

pub returns : goal.returns
returns g c =
    let x = c.args.self.now.board in
    let p = g.B.Board.plan x in
    let cs = g.B.Board.progress x in
    let rs = c.args.self.now.records in
    let n = length p.rows in
    let q = named_next p (g.met.B.Board.lawful x) cs c.args.core c.in-Some.task c.in-Some.ensures in
    let l : c.from.result < n = omega (arith, c.from.ensures, q.1) in
    c.is_loose.ensures
    ∙ (ap (λ (r : Record). went_loose r.manner) (sym (get_or-take n rs c.from.result fresh l))
    ∙ ap (λ t. went_loose (get_or (take n rs) t fresh).manner) (c.from.ensures ∙ q.0))

pub returns-in_default : goal.returns-in_default
returns-in_default g c =
    let x = c.args.self.now.board in
    let p = g.B.Board.plan x in
    let cs = g.B.Board.progress x in
    ap (λ (r : Record). went_loose r.manner)
    (sym (no_record (length p.rows) c.args.self.now.records (next p cs c.args.core) (unnamed_next p (g.met.B.Board.lawful x) cs c.args.core c.in_default.ensures)))
