use Rattle.std.proofs.Common.{◌++◌, Option, None, Err, false, refl, arith, sym, subst, ◌∙◌}
use Rattle.std.proofs.KnownBytes.{Appends-nil}
use Rattle.smil_model.specs.declared.order.Refusal.TheVariants.{UnfinishedLoad}
use Rattle.smil_top.specs.declared.fault.Fault.{Fault}
use Rattle.smil_top.specs.Cut.{LoadLines, load as load_order, unended}
use Rattle.smil_top.specs.Evaluations.{number_of}
use Rattle.smil_top.specs.Running.{AnswersOrders, EvaluatesOn}
use Rattle.smil_top.proofs.EvaluationCounts.{counted-fault, evaluated-ended, evaluated-more}
use Rattle.smil_top.proofs.TranscriptStep.{ended-nothing, load-of, no_load-of, nothing-told, tells-on, unfinished-made, told-order}
use Rattle.smil_top.proofs.run.Run.end.Goals as goal

pub returns-in-Some-clause-answers : goal.returns-in-Some-clause-answers
returns-in-Some-clause-answers g c checks cut told running =
    let run = c.args.self.now in
    let load = c.in-Some.load in
    let found = load-of load told.session.wanted run.load cut.«open» running.load (sym c.take.ensures.value ∙ c.in-Some.is) in
    let fault : Fault = record { line = load.line; refusal = UnfinishedLoad } in
    subst
    (λ (o : Option LoadLines). AnswersOrders checks c.tell.result c.tell.new.self (cut.whole ++ unended o) told (g.K.Sink.taken c.args.sink.now) (g.K.Sink.taken c.tell.new.sink) (g.K.Sink.sure_room c.args.sink.now) (g.K.Sink.sure_room c.tell.new.sink))
    (sym found.1)
    (told-order run.session (load_order found.0 None) (Err fault) run.answer running.tells
    (unfinished-made checks run.answer run.session told.session found.0 load.line found.2.line running.tells.keeps)
    c.tell.ensures.session refl c.tell.ensures.counts c.tell.ensures.writes c.tell.ensures.answer)

pub returns-in-Some-clause-evaluated : goal.returns-in-Some-clause-evaluated
returns-in-Some-clause-evaluated g c cut told steps running =
    let run = c.args.self.now in
    let load = c.in-Some.load in
    let found = load-of load told.session.wanted run.load cut.«open» running.load (sym c.take.ensures.value ∙ c.in-Some.is) in
    let fault : Fault = record { line = load.line; refusal = UnfinishedLoad } in
    let order = load_order found.0 None in
    subst (λ (o : Option LoadLines). EvaluatesOn run.counts c.tell.new.self.counts cut.whole (cut.whole ++ unended o) steps steps) (sym found.1)
    (evaluated-more order (Err fault) run.answer run.session steps steps running.tells
    (unfinished-made false run.answer run.session told.session found.0 load.line found.2.line running.tells.keeps)
    (counted-fault fault (λ bound. number_of bound told.session order) steps) (omega arith) c.tell.ensures.counts)

pub returns-in-None-clause-answers : goal.returns-in-None-clause-answers
returns-in-None-clause-answers g c checks cut told running =
    let run = c.args.self.now in
    let out = no_load-of told.session.wanted run.load cut.«open» running.load (sym c.take.ensures.value ∙ c.in-None.is) in
    ended-nothing cut out (nothing-told (tells-on checks run _ cut.whole told refl refl running.tells) c.clear.ensures (Appends-nil (g.K.Sink.taken c.args.sink.now), omega arith))

pub returns-in-None-clause-evaluated : goal.returns-in-None-clause-evaluated
returns-in-None-clause-evaluated g c cut told steps running =
    let run = c.args.self.now in
    let out = no_load-of told.session.wanted run.load cut.«open» running.load (sym c.take.ensures.value ∙ c.in-None.is) in
    evaluated-ended run.counts run.counts cut.whole cut.«open» steps out refl
