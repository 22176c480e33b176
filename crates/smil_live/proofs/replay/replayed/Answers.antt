use Rattle.std.proofs.Common.{refl, ap, subst, length, List}
use Rattle.smil_model.specs.declared.diary.Entry.{Entry}
use Rattle.smil_model.specs.document.Document.{Document, elements}
use Rattle.smil_model.specs.shown.Orders.{Presentation}
use Rattle.smil_tree.proofs.ResultClauses.{on_err}
use Rattle.smil_live.specs.Moves.{IsTooFull, replay_of}
use Rattle.smil_live.proofs.RebuiltCells.{made_of, new_way}
use Rattle.smil_live.proofs.RebuiltCounts.{least_anew, most_rebuilt}
use Rattle.smil_live.proofs.replay.replayed.Goals as goal

pub replay_on-requires-clause-way : goal.replay_on-requires-clause-way
replay_on-requires-clause-way g c =
    new_way c.args.doc c.args.replay.log.now c.args.replay.to c.in_ok-cells.cells c.requires.state c.in_ok-cells.ensures.state c.in_ok-cells.ensures.sound c.in_ok-cells.ensures.unmarked

pub returns-clause-most : goal.returns-clause-most
returns-clause-most g c =
    let p = replay_of c.args.doc c.args.replay.log.now c.args.replay.to in
    most_rebuilt g.T.Table.counts p c.in_ok-cells.cells c.replay_on.new.cells 0 (length (elements c.args.doc.nodes)) c.args.steps.now c.new.new.steps c.replay_on.new.steps (made_of c.args.doc c.args.replay.log.now c.args.replay.to c.in_ok-cells.cells c.replay_on.new.cells c.in_ok-cells.ensures.state c.in_ok-replay_on.ensures.ok)
    (ap (λ (q : Presentation). q.document) c.in_ok-cells.ensures.state) (ap (λ (l : List Entry). length l) c.in_ok-cells.ensures.diary) refl c.new.ensures.counted c.replay_on.ensures.counted c.new.ensures.most c.in_ok-replay_on.ensures.most

pub returns-clause-least : goal.returns-clause-least
returns-clause-least g c =
    let p = replay_of c.args.doc c.args.replay.log.now c.args.replay.to in
    least_anew g.T.Table.counts p c.args.doc c.in_ok-cells.cells c.replay_on.new.cells c.args.steps.now c.new.new.steps c.replay_on.new.steps (made_of c.args.doc c.args.replay.log.now c.args.replay.to c.in_ok-cells.cells c.replay_on.new.cells c.in_ok-cells.ensures.state c.in_ok-replay_on.ensures.ok)
    (ap (λ (q : Presentation). q.document) c.in_ok-cells.ensures.state) refl c.new.ensures.counted c.replay_on.ensures.counted c.in_ok-cells.ensures.least c.in_ok-replay_on.ensures.least

pub returns-in_err-replay_on-clause-refused : goal.returns-in_err-replay_on-clause-refused
returns-in_err-replay_on-clause-refused g c =
    let given = c.in_err-replay_on.field-0.0 in
    on_err (IsTooFull (replay_of c.args.doc c.args.replay.log.now c.args.replay.to)) c.from_residual-in_err-replay_on.result given c.from_residual-in_err-replay_on.ensures.1
    (subst (λ (d : Document). IsTooFull (replay_of d c.args.replay.log.now c.args.replay.to) given) (ap (λ (q : Presentation). q.document) c.in_ok-cells.ensures.state) c.in_err-replay_on.ensures.refused)
