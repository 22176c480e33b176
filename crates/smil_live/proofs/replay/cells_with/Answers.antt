use Rattle.std.proofs.Common.{◌≡◌, ◌≤ℤ◌, ◌∙◌, refl, ap, sym, subst, pos, ℤ, List, length, to_z, of_z, w64}
use Rattle.std.proofs.lemmas.List.{length-take-le}
use Rattle.smil_model.specs.declared.diary.Entry.{Entry}
use Rattle.smil_model.specs.document.Document.{elements}
use Rattle.smil_model.specs.shown.Orders.{IsState, Presentation}
use Rattle.smil_graph.specs.Graph.{document_of}
use Rattle.smil_tree.proofs.ResultClauses.{on_err}
use Rattle.smil_shown.proofs.PresentMoments.{from_zero}
use Rattle.smil_live.specs.Moves.{IsReplayed, IsTooFull, IsUnderWay, edited_to, replay_of}
use Rattle.smil_live.proofs.RebuiltCells.{moment_kept, replay_is}
use Rattle.smil_live.proofs.RebuiltCounts.{least_anew, most_rebuilt}
use Rattle.smil_live.proofs.replay.cells_with.Given.{Over}
use Rattle.smil_live.proofs.replay.cells_with.Goals as goal
use Rattle.smil_live.proofs.replay.cells_with.Goals.{In_ok-rebuilt}

module _ (g : Over) (c : In_ok-rebuilt g) where
  -- the present moment as it is computed
  now : to_z w64 (of_z w64 c.moment.result) ≡ pos c.args.cells.now.presentation.now
  now = moment_kept (edited_to c.args.cells.now.presentation (document_of c.args.revised.graph)) c.moment.result c.requires.state c.moment.ensures

  -- what is heard again is the log of the edited presentation
  again : replay_of c.in_ok-rebuilt.rebuilt.presentation.document c.slice.result.now (to_z w64 (of_z w64 c.moment.result)) ≡ edited_to c.args.cells.now.presentation (document_of c.args.revised.graph)
  again =
      replay_is c.args.cells.now.presentation c.in_ok-rebuilt.rebuilt.presentation.document (document_of c.args.revised.graph) c.slice.result.now (to_z w64 (of_z w64 c.moment.result))
      c.in_ok-rebuilt.ensures.rebuilt.document_is (c.slice.ensures ∙ c.log.ensures) now

pub replay_on-requires-clause-way : goal.replay_on-requires-clause-way
replay_on-requires-clause-way g c =
    let t = c.in_ok-rebuilt.rebuilt in
    subst (λ (q : Presentation). IsUnderWay q (length t.presentation.log) t) (sym (again g (goal.at.replay_on-requires-clause-way g c).In_ok-rebuilt)) (c.requires.way t c.in_ok-rebuilt.ensures.rebuilt)

pub replay_on-requires-clause-state : goal.replay_on-requires-clause-state
replay_on-requires-clause-state g c = subst IsState (sym (again g (goal.at.replay_on-requires-clause-state g c).In_ok-rebuilt)) c.requires.state

pub replay_on-requires-clause-from : goal.replay_on-requires-clause-from
replay_on-requires-clause-from g c = subst (λ (z : ℤ). pos 0 ≤ℤ z) (sym (now g (goal.at.replay_on-requires-clause-from g c).In_ok-rebuilt)) (from_zero c.args.cells.now.presentation.now)

pub returns-clause-ok : goal.returns-clause-ok
returns-clause-ok g c = subst (λ (q : Presentation). IsReplayed q c.replay_on.new.cells) (again g (goal.at.returns-clause-ok g c).In_ok-rebuilt) c.in_ok-replay_on.ensures.ok

pub returns-in_err-replay_on-clause-refused : goal.returns-in_err-replay_on-clause-refused
returns-in_err-replay_on-clause-refused g c =
    let given = c.in_err-replay_on.field-0.0 in
    on_err (IsTooFull (edited_to c.args.cells.now.presentation (document_of c.args.revised.graph))) c.from_residual-in_err-replay_on.result given c.from_residual-in_err-replay_on.ensures.1
    (subst (λ (q : Presentation). IsTooFull q given) (again g (goal.at.returns-in_err-replay_on-clause-refused g c).In_ok-rebuilt) c.in_err-replay_on.ensures.refused)

pub returns-clause-most : goal.returns-clause-most
returns-clause-most g c =
    let doc = document_of c.args.revised.graph in
    most_rebuilt g.T.Table.counts (edited_to c.args.cells.now.presentation doc) c.in_ok-rebuilt.rebuilt c.replay_on.new.cells c.args.len (length (elements doc.nodes)) c.args.steps.now c.rebuilt_over.new.steps c.replay_on.new.steps (returns-clause-ok g c)
    c.in_ok-rebuilt.ensures.rebuilt.document_is
    (ap (λ (l : List Entry). length l) c.in_ok-rebuilt.ensures.rebuilt.diary_is ∙ length-take-le c.args.len c.args.cells.now.diary c.requires.rebuild.within) refl c.rebuilt_over.ensures.counted c.replay_on.ensures.counted c.rebuilt_over.ensures.most c.in_ok-replay_on.ensures.most

pub returns-clause-least : goal.returns-clause-least
returns-clause-least g c =
    let doc = document_of c.args.revised.graph in
    least_anew g.T.Table.counts (edited_to c.args.cells.now.presentation doc) doc c.in_ok-rebuilt.rebuilt c.replay_on.new.cells c.args.steps.now c.rebuilt_over.new.steps c.replay_on.new.steps (returns-clause-ok g c)
    c.in_ok-rebuilt.ensures.rebuilt.document_is refl c.rebuilt_over.ensures.counted c.replay_on.ensures.counted c.in_ok-rebuilt.ensures.least c.in_ok-replay_on.ensures.least
