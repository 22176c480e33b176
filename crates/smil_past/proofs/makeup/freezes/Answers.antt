use Rattle.std.proofs.Common.{◌≡◌, ◌∙◌, sym, ap}
use Rattle.smil_model.specs.declared.document.Attrs.{Attrs}
use Rattle.smil_model.specs.document.Defaults.{fill_by}
use Rattle.smil_past.specs.Makeups.{is_freeze}
use Rattle.smil_past.proofs.ElementMakeup.{fill_is}
use Rattle.smil_past.proofs.ItemReferences.{attrs_are}
use Rattle.smil_past.proofs.makeup.freezes.Goals as goal

pub returns : goal.returns
returns c = λ e here.
    let nodes = c.args.tree.now.nodes in
    let who = c.args.who in
    let attrs : c.attrs.result.now ≡ e.attrs = sym (attrs_are nodes who e c.attrs.result.now c.attrs.ensures here) in
    c.is_freeze.ensures
    ∙ ap is_freeze
    (c.fill_by.ensures
    ∙ ap (λ (a : Attrs). fill_by a c.fill_of.result) attrs
    ∙ ap (fill_by e.attrs) (fill_is nodes who e c.fill_of.result here c.fill_of.ensures.fill))
