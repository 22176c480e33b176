use Rattle.std.proofs.Common.{◌∙◌, ◌≤◌, ◌+◌, ◌*◌, subst, ap, List, length, take, arith, w64}
use Rattle.std.specs.Prelude.{min}
use Rattle.std.proofs.lemmas.Int.{to_z-of_z}
use Rattle.std.proofs.lemmas.List.{length-take}
use Rattle.smil_model.specs.declared.diary.Entry.{Entry}
use Rattle.smil_model.specs.declared.diary.LogEntry.{LogEntry}
use Rattle.smil_model.specs.document.Document.{elements}
use Rattle.smil_audit.specs.Steps.{replayed}
use Rattle.smil_audit.proofs.StepCounts.{from_begin}
use Rattle.smil_audit.proofs.VerdictsExact.{audited, within}
use Rattle.smil_audit.proofs.audit.check.Goals as goal

pub wrong_after-requires : goal.wrong_after-requires
wrong_after-requires g c =
    let entries = c.slice-entries.result.now in
    let agreement = c.in_ok-agreement.agreement in
    let few = within (replayed c.in_ok-replay.replay) (take c.placed_len.result entries) agreement.same agreement.ended c.in_ok-agreement.ensures.agrees in
    let cut = length-take c.placed_len.result entries in
    let whole = ap length c.slice-entries.ensures in
    omega (arith, few, cut, whole, c.requires.few)

pub returns-clause-verdict : goal.returns-clause-verdict
returns-clause-verdict g c =
    let agreement = c.in_ok-agreement.agreement in
    c.wrong_after.ensures
    ∙ audited c.args.doc.now c.args.log.now c.cut_back.new.self c.args.diary.now c.slice-entries.result.now c.args.now _ c.placed_len.result c.logged.result c.min.result
    (replayed c.in_ok-replay.replay) agreement.same agreement.ended
    c.slice-entries.ensures (to_z-of_z w64 c.args.now c.ranges.now) c.requires.from c.placed_len.ensures.placed c.logged.ensures
    (c.min.ensures ∙ ap (min c.logged.result) (c.len.ensures ∙ ap length c.in_ok-part.ensures))
    (c.cut_back.ensures ∙ ap (λ (l : List LogEntry). take c.min.result l) c.in_ok-part.ensures)
    c.in_ok-replay.ensures.begun c.in_ok-agreement.ensures.agrees

pub returns-in_err-agreement-clause-most : goal.returns-in_err-agreement-clause-most
returns-in_err-agreement-clause-most g c =
    subst (λ (entries : List Entry). c.agreed.new.steps ≤ c.args.steps.now + (length entries + 1) * length (elements c.args.doc.now.nodes)) c.slice-entries.ensures
    (from_begin (replayed c.in_ok-replay.replay) c.args.doc.now c.cut_back.new.self _ c.slice-entries.result.now c.placed_len.result c.args.steps.now c.agreed.new.steps c.in_ok-replay.ensures.begun c.in_err-agreement.ensures.most)

pub returns-clause-most : goal.returns-clause-most
returns-clause-most g c =
    subst (λ (entries : List Entry). c.agreed.new.steps ≤ c.args.steps.now + (length entries + 1) * length (elements c.args.doc.now.nodes)) c.slice-entries.ensures
    (from_begin (replayed c.in_ok-replay.replay) c.args.doc.now c.cut_back.new.self _ c.slice-entries.result.now c.placed_len.result c.args.steps.now c.agreed.new.steps c.in_ok-replay.ensures.begun c.in_ok-agreement.ensures.most)
