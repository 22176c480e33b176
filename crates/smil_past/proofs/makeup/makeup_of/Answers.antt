use Rattle.std.proofs.Common.{◌≡◌, ◌∙◌, sym, ap}
use Rattle.smil_model.specs.declared.document.Attrs.{Attrs}
use Rattle.smil_model.specs.document.Defaults.{fill_by}
use Rattle.smil_model.specs.document.Edits.{place_in}
use Rattle.smil_model.specs.interval.Current.{end_list_of}
use Rattle.smil_model.specs.interval.Durations.{bounds_of}
use Rattle.smil_past.specs.Makeups.{parent_index, stated_simple}
use Rattle.smil_past.proofs.ElementMakeup.{fill_is, kind_is, makeup_is, restart_is}
use Rattle.smil_past.proofs.ItemReferences.{attrs_are, stands}
use Rattle.smil_past.proofs.makeup.makeup_of.Goals as goal

pub returns : goal.returns
returns c = λ e here.
    let nodes = c.args.tree.now.nodes in
    let who = c.args.who in
    let attrs : c.attrs-attrs.result.now ≡ e.attrs = sym (attrs_are nodes who e c.attrs-attrs.result.now c.attrs-attrs.ensures here) in
    let serial : who ≡ e.serial = sym (stands nodes who e here).serial in
    makeup_is nodes e _ _ _ _ _ _ _ _ _
    (c.stated_simple.ensures ∙ ap stated_simple attrs)
    (c.of_attrs.ensures ∙ ap bounds_of attrs)
    (c.end_list.ensures ∙ ap (λ (a : Attrs). end_list_of a.«end») attrs)
    (restart_is nodes who e c.restart_of.result here c.restart_of.ensures.restart)
    (c.fill_by.ensures ∙ ap (λ (a : Attrs). fill_by a c.fill_of.result) attrs ∙ ap (fill_by e.attrs) (fill_is nodes who e c.fill_of.result here c.fill_of.ensures.fill))
    (c.keeps_children.ensures e here)
    (kind_is nodes who e c.kind.result here c.kind.ensures)
    (c.node_place.ensures ∙ ap (place_in nodes) serial)
    (c.parent_index.ensures ∙ ap (parent_index nodes) serial)
