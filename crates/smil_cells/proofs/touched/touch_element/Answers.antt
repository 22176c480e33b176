use Rattle.std.proofs.Common.{◌≡◌, ◌∙◌, refl, sym, ap, subst, None, Some, true, false}
use Rattle.std.proofs.lemmas.Result.{on_ok_weaker}
use Rattle.std.specs.Prelude.{is_some}
use Rattle.smil_model.specs.document.Document.{Document, elements, is_within, node_at, serial_of, time_children}
use Rattle.smil_graph.specs.Tables.{takes_turns}
use Rattle.smil_past.specs.Past.{history_of}
use Rattle.smil_past.proofs.KnownNodes.{known_at_place}
use Rattle.smil_cells.specs.Shown.{ArePutWhere, any_rests, displaced_in, shows_in}
use Rattle.smil_cells.proofs.ElementsShown.{no_place, no_node_shows}
use Rattle.smil_cells.proofs.ElementsPut.{put_none, put_same, put_then, shows_alone, shows_beside}
use Rattle.smil_cells.proofs.touched.touch_element.Goals as goal

pub touch_within-requires : goal.touch_within-requires
touch_within-requires c = known_at_place c.tree-tree.result.now.nodes c.args.who (ap (λ o. is_some o) (sym c.position.ensures) ∙ c.if-is_none.ensures)

pub displaced-requires : goal.displaced-requires
displaced-requires c = known_at_place c.tree-tree.result.now.nodes c.args.who (ap (λ o. is_some o) (sym c.position.ensures) ∙ c.if-is_none.ensures)

pub touch_resting-requires : goal.touch_resting-requires
touch_resting-requires c =
    subst (λ (d : Document). takes_turns (node_at (elements d.nodes) c.in-Some.parent) ≡ true) c.tree-tree.ensures (c.in-Some.ensures.known c.in-Some.parent refl)

pub returns-then-is_none : goal.returns-then-is_none
returns-then-is_none c =
    let h = history_of c.args.past.now in
    let nowhere = no_place c.tree-tree.result.now.nodes c.args.who (ap (λ o. is_some o) (sym c.position.ensures) ∙ c.if-is_none.ensures) in
    put_none h.nodes (shows_in h c.args.step c.args.who) c.args.touched.now
    (λ s. no_node_shows h c.args.step c.args.who s (subst (λ (d : Document). is_some (node_at d.nodes c.args.who) ≡ false) c.tree-tree.ensures nowhere))

pub returns-in-None : goal.returns-in-None
returns-in-None c =
    let h = history_of c.args.past.now in
    let old = c.args.touched.now in
    let new = c.touch_within.new.touched in
    put_same h.nodes (is_within h.nodes c.args.who) (shows_in h c.args.step c.args.who) old new
    (λ s. shows_alone h c.args.step c.args.who s (subst (λ (d : Document). None ≡ serial_of (displaced_in d.nodes c.args.step c.args.who)) c.tree-tree.ensures c.in-None.ensures.value))
    (subst (λ (d : Document). ArePutWhere d.nodes (is_within d.nodes c.args.who) old new) c.tree-tree.ensures c.in_ok-touch_within.ensures)

pub returns-in-Some : goal.returns-in-Some
returns-in-Some c =
    let h = history_of c.args.past.now in
    let old = c.args.touched.now in
    let mid = c.touch_within.new.touched in
    let new = c.touch_resting.new.touched in
    let rests = any_rests h (time_children h.nodes c.in-Some.parent) in
    on_ok_weaker {Q = ArePutWhere h.nodes (shows_in h c.args.step c.args.who) old new} c.touch_resting.result
    (λ (resting : ArePutWhere h.nodes rests mid new).
    put_then h.nodes (is_within h.nodes c.args.who) rests (shows_in h c.args.step c.args.who) old mid new
    (λ s. shows_beside h c.args.step c.args.who c.in-Some.parent s (subst (λ (d : Document). Some c.in-Some.parent ≡ serial_of (displaced_in d.nodes c.args.step c.args.who)) c.tree-tree.ensures c.in-Some.ensures.value))
    (subst (λ (d : Document). ArePutWhere d.nodes (is_within d.nodes c.args.who) old mid) c.tree-tree.ensures c.in_ok-touch_within.ensures)
    resting)
    c.touch_resting.ensures
