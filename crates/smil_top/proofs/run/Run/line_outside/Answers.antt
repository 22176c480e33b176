use Rattle.std.proofs.Common.{◌≡◌, ◌<◌, ℕ, List, [], ◌∷◌, ◌++◌, length, Some, None, Err, false, true, refl, ap, sym, subst, ◌∙◌, arith}
use Rattle.std.proofs.KnownBytes.{Appends-nil}
use Rattle.smil_model.specs.declared.limits.TheConstants.{LINE_BYTES}
use Rattle.smil_model.specs.declared.order.Refusal.TheVariants.{LongLine}
use Rattle.smil_grammar.specs.Scripts.{is_blank, opens_load}
use Rattle.smil_top.specs.declared.fault.Fault.{Fault}
use Rattle.smil_top.specs.declared.run.Run.{Run}
use Rattle.smil_top.specs.Cut.{OrderLines, NumberedLine, LoadLines, single, with_line}
use Rattle.smil_top.specs.Evaluations.{number_of}
use Rattle.smil_top.specs.Running.{AnswersOrders, IsRead}
use Rattle.smil_top.proofs.CutLines.{cut-blank, cut-long, cut-opens, cut-single}
use Rattle.smil_top.proofs.EvaluationCounts.{counted-fault, evaluated-cut, evaluated-more}
use Rattle.smil_top.proofs.TranscriptStep.{Shows, shown-line, long-made, nothing-told, told-order, running-order, running-load, tells-on}
use Rattle.smil_top.proofs.run.Run.line_outside.Goals as goal

pub returns-in-None-clause-answers : goal.returns-in-None-clause-answers
returns-in-None-clause-answers g c checks cut told line out tells number shows =
    let run : Run = c.args.self.now in
    let count : ℕ = c.args.next.now.number in
    let long : LINE_BYTES < length line = subst (λ o. Shows o line) c.in-None.is shows in
    let fault : Fault = record { line = count; refusal = LongLine } in
    let order : OrderLines = single (record { number = count; text = line }) in
    running-order (cut-long cut count line number out long) (c.tell.ensures.load ∙ c.requires.outside)
    (told-order run.session order (Err fault) run.answer tells (long-made checks run.answer run.session told.session count line long tells.keeps) c.tell.ensures.session refl c.tell.ensures.counts c.tell.ensures.writes c.tell.ensures.answer)

pub returns-in-Some-clause-answers : goal.returns-in-Some-clause-answers
returns-in-Some-clause-answers g c checks cut told line out tells number shows =
    let run : Run = c.args.self.now in
    let count : ℕ = c.args.next.now.number in
    let is = shown-line c.in-Some.is shows in
    let opened : opens_load line ≡ true = ap opens_load is.0 ∙ sym c.opens_load.ensures ∙ c.if-opens_load.true in
    let this : NumberedLine = record { number = count; text = line } in
    let lines : LoadLines = record { head = this; nodes = [] } in
    let read : IsRead c.open.result told.session.wanted lines =
    subst (λ w. IsRead c.open.result w lines) (sym tells.keeps.wanted)
    (subst (λ zs. IsRead c.open.result run.session.preferences (record { head = record { number = count; text = zs }; nodes = [] })) (sym is.0) c.open.ensures)
    in
    let new : Run = record run { load = Some c.open.result } in
    running-load (cut-opens cut count line number out is.1 opened) refl read (tells-on checks run new cut.whole told refl refl tells) c.requires.empty (Appends-nil (g.K.Sink.taken c.args.sink.now), omega arith)

pub returns-in-Some-2-clause-answers : goal.returns-in-Some-2-clause-answers
returns-in-Some-2-clause-answers g c checks cut told line out tells number shows =
    let is = shown-line c.in-Some.is shows in
    let opened : opens_load line ≡ false = ap opens_load is.0 ∙ sym c.opens_load.ensures ∙ c.if-opens_load.false in
    let blank : is_blank line ≡ true = ap is_blank (shown-line c.in-Some-2.is shows).0 ∙ sym c.is_blank.ensures ∙ c.if-is_blank.true in
    running-order (cut-blank cut c.args.next.now.number line number out is.1 opened blank) c.requires.outside (nothing-told tells c.requires.empty (Appends-nil (g.K.Sink.taken c.args.sink.now), omega arith))

pub returns-in-Some-3-clause-answers : goal.returns-in-Some-3-clause-answers
returns-in-Some-3-clause-answers g c checks cut told line out tells number shows =
    let count : ℕ = c.args.next.now.number in
    let is = shown-line c.in-Some.is shows in
    let opened : opens_load line ≡ false = ap opens_load is.0 ∙ sym c.opens_load.ensures ∙ c.if-opens_load.false in
    let this = shown-line c.in-Some-3.is shows in
    let blank : is_blank line ≡ false = ap is_blank (shown-line c.in-Some-2.is shows).0 ∙ sym c.is_blank.ensures ∙ c.if-is_blank.false in
    let answered = subst
    (λ (zs : List ℕ). AnswersOrders checks c.answer_single.result c.answer_single.new.self (cut.whole ++ single (record { number = count; text = zs }) ∷ []) told (g.K.Sink.taken c.args.sink.now) (g.K.Sink.taken c.answer_single.new.sink) (g.K.Sink.sure_room c.args.sink.now) (g.K.Sink.sure_room c.answer_single.new.sink))
    (sym this.0)
    (c.answer_single.ensures.answers checks cut.whole told tells)
    in
    running-order (cut-single cut count line number out is.1 opened blank) (c.answer_single.ensures.load ∙ c.requires.outside) answered

pub returns-in-None-clause-evaluated : goal.returns-in-None-clause-evaluated
returns-in-None-clause-evaluated g c cut told line out tells number shows =
    let run : Run = c.args.self.now in
    let count : ℕ = c.args.next.now.number in
    let steps : ℕ = c.args.steps.now in
    let long : LINE_BYTES < length line = subst (λ o. Shows o line) c.in-None.is shows in
    let fault : Fault = record { line = count; refusal = LongLine } in
    let order : OrderLines = single (record { number = count; text = line }) in
    let made = long-made false run.answer run.session told.session count line long tells.keeps in
    let on = evaluated-more order (Err fault) run.answer run.session steps steps tells made (counted-fault fault (λ bound. number_of bound told.session order) steps) (omega arith) c.tell.ensures.counts in
    evaluated-cut run.counts c.tell.new.self.counts cut.whole (cut.whole ++ order ∷ []) (with_line cut line) count None steps steps (cut-long cut count line number out long) on
