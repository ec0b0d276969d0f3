use Rattle.std.proofs.Common.{◌≡◌, None, refl, ap, ◌∙◌}
use Rattle.std.proofs.lemmas.Result.{err_from_is_err_and}
use Rattle.table.specs.Layout.{described}
use Rattle.table.specs.Questions.{input_fault, first_fault, header_fault, rows_fault, or_else}
use Rattle.table.proofs.Fills.{loaded_whole, loaded_fault, answer_whole}
use Rattle.table.proofs.Scans.{all_asked, fault_of, no_fault_of}
use Rattle.table.proofs.questions.checked.Goals as goal

pub returns-in_err-check_places : goal.returns-in_err-check_places
returns-in_err-check_places c =
    let bytes = c.args.bytes.now in
    let h = c.in_ok-header.header in
    let head = c.in_ok-header.ensures in
    let f = c.in_err-check_places.field-0.0 in
    let p = err_from_is_err_and c.from_residual-in_err-check_places.result c.from_residual-in_err-check_places.ensures.1 in
    rw (p.1, p.2) (loaded_fault bytes f (all_asked bytes h head.0 head.1 ∙ ap (λ o. or_else o (first_fault (input_fault (described bytes)) 0 h.tasks)) (fault_of _ f c.in_err-check_places.ensures)))

pub returns-in_err-check_inputs : goal.returns-in_err-check_inputs
returns-in_err-check_inputs c =
    let bytes = c.args.bytes.now in
    let h = c.in_ok-header.header in
    let head = c.in_ok-header.ensures in
    let f = c.in_err-check_inputs.field-0.0 in
    let p = err_from_is_err_and c.from_residual-in_err-check_inputs.result c.from_residual-in_err-check_inputs.ensures.1 in
    rw (p.1, p.2) (loaded_fault bytes f (all_asked bytes h head.0 head.1 ∙ (ap (λ o. or_else o (first_fault (input_fault (described bytes)) 0 h.tasks)) (no_fault_of _ c.in_ok-check_places.ensures) ∙ fault_of _ f c.in_err-check_inputs.ensures)))

pub returns : goal.returns
returns c =
    let bytes = c.args.bytes.now in
    let h = c.in_ok-header.header in
    let head = c.in_ok-header.ensures in
    let none : or_else (header_fault bytes) (rows_fault (described bytes)) ≡ None =
    all_asked bytes h head.0 head.1 ∙ (ap (λ o. or_else o (first_fault (input_fault (described bytes)) 0 h.tasks)) (no_fault_of _ c.in_ok-check_places.ensures) ∙ no_fault_of _ c.in_ok-check_inputs.ensures) in
    (loaded_whole bytes none, answer_whole bytes h head.1 none, refl)
