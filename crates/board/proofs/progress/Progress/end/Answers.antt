use Rattle.std.proofs.Common.{◌≡◌, true, sym, refl, ap, ◌∙◌, arith}
use Rattle.std.proofs.lemmas.Bool.{cond-true}
use Rattle.board.specs.Steps.{is_running}
use Rattle.board.specs.Meaning.{ended_one, step_of}
use Rattle.board.specs.Standing.{plan_at, progress_at, untouched}
use Rattle.board.specs.declared.cores.Core.{Core}
use Rattle.board.specs.declared.cores.CoreRow.{CoreRow}
use Rattle.board.proofs.progress.Progress.end.Goals as goal
use Rattle.board.proofs.Changes.{runs_left, row_read, ends, ends_kept}

pub end_one-requires : goal.end_one-requires
end_one-requires c =
    let l = runs_left c.args.self.now c.args.core c.core.result c.is_running.result c.core.ensures c.is_running.ensures c.if-not-is_running.false in
    omega (arith, l.left, l.few, ap (λ (r : Core). r.ended) (row_read c.args.self.now c.args.core l.there))

pub invariant_of-self : goal.invariant_of-self
invariant_of-self c =
    let l = runs_left c.args.self.now c.args.core c.core.result c.is_running.result c.core.ensures c.is_running.ensures c.if-not-is_running.false in
    let after = c.after_next-after.result in
    record { ok = ends_kept c.args.self.now c.args.core after (untouched after) c.end_one.new.self l c.after_next-after.ensures refl (ap (λ (r : CoreRow). r.core) c.end_one.ensures) (ap (λ (r : CoreRow). r.next) c.end_one.ensures) }

pub returns-clause-progress : goal.returns-clause-progress
returns-clause-progress c =
    let x = c.args.self.now in
    let l = runs_left x c.args.core c.core.result c.is_running.result c.core.ensures c.is_running.ensures c.if-not-is_running.false in
    let runs : is_running (step_of (progress_at x) c.args.core) ≡ true = ap (λ (r : Core). is_running r.step) (sym c.core.ensures) ∙ (sym c.is_running.ensures ∙ c.if-not-is_running.false) in
    let after = c.after_next-after.result in
    ends x c.args.core after (untouched after) c.end_one.new.self l c.after_next-after.ensures refl (ap (λ (r : CoreRow). r.core) c.end_one.ensures)
    ∙ sym (cond-true (is_running (step_of (progress_at x) c.args.core)) (ended_one (plan_at x) (progress_at x) c.args.core) (progress_at x) runs)
