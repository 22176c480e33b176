use Rattle.std.proofs.Common.{◌≡◌, ◌∙◌, ap, sym, refl, Bool, true, false}
use Rattle.std.specs.Prelude.{◌&&◌}
use Rattle.smil_model.specs.declared.document.Attrs.{Attrs}
use Rattle.smil_model.specs.document.Defaults.{takes_implicit}
use Rattle.smil_model.specs.document.Dependencies.{has_implicit_duration}
use Rattle.smil_model.specs.document.Values.{has_endsync}
use Rattle.smil_element.proofs.KnownElements.{kind_is, known_node}
use Rattle.smil_element.proofs.ElementReadings.{tree_attrs, tree_node}
use Rattle.smil_nodes.proofs.endings.is_summed.Goals as goal

pub kind-requires : goal.kind-requires
kind-requires c = tree_node c.args.tree.now c.args.tree.now c.args.who refl c.requires

pub attrs-requires : goal.attrs-requires
attrs-requires c = tree_node c.args.tree.now c.args.tree.now c.args.who refl c.requires

pub returns-then-has_endsync : goal.returns-then-has_endsync
returns-then-has_endsync c = λ e here.
    let document = c.args.tree.now in
    let known = known_node document c.valid.ensures.numbered c.args.who e here in
    let kind : has_endsync e.kind ≡ true = ap has_endsync (sym (kind_is document.nodes c.args.who e c.kind.result c.kind.ensures known)) ∙ sym c.has_endsync.ensures ∙ c.if-has_endsync.true in
    let attrs = tree_attrs document document c.args.who e c.attrs.result.now c.valid.ensures.numbered.distinct refl here c.attrs.ensures in
    c.takes_implicit.ensures
    ∙ ap (λ (a : Attrs). takes_implicit a a.dur) attrs
    ∙ ap (λ (t : Bool). t && has_implicit_duration e) (sym kind)

pub returns-else-has_endsync : goal.returns-else-has_endsync
returns-else-has_endsync c = λ e here.
    let document = c.args.tree.now in
    let known = known_node document c.valid.ensures.numbered c.args.who e here in
    let kind : has_endsync e.kind ≡ false = ap has_endsync (sym (kind_is document.nodes c.args.who e c.kind.result c.kind.ensures known)) ∙ sym c.has_endsync.ensures ∙ c.if-has_endsync.false in
    c.if-has_endsync.false ∙ ap (λ (t : Bool). t && has_implicit_duration e) (sym kind)
