use Rattle.std.proofs.Common.{◌≡◌, ◌∙◌, ap, sym, arith, rules, SFits, w64}
use Rattle.std.specs.Prelude.{Some, slice_get}
use Rattle.std.proofs.lemmas.Int.{to_z-of_z}
use Rattle.std.proofs.lemmas.Option.{same_Some}
use Rattle.smil_model.specs.document.Document.{Document, elements, node_at}
use Rattle.smil_model.specs.document.Defaults.{endsync_of}
use Rattle.smil_model.specs.interval.Durations.{container_duration}
use Rattle.smil_element.proofs.KnownElements.{kind_is, known_node}
use Rattle.smil_element.proofs.ElementReadings.{tree_attrs, tree_node}
use Rattle.smil_rounds.proofs.RowEvaluated.{IsFound, found}
use Rattle.smil_nodes.proofs.sources.SourcesContainers.implicit.Goals as goal

pub implicit-requires : goal.implicit-requires
implicit-requires c =
    let at : IsFound c.args.container.now.past.now.document.nodes c.args.self.now.schedule.now c.args.container.now.who c.args.self.now.index =
    found _ _ _ c.possible.ensures.valid.numbered.distinct (c.requires.known.known).of_elements c.requires.element c.args.self.now.index (sym c.requires.known.here) in
    omega (arith, (c.requires.known.known).as_many, at.within)

pub kind-kind-requires : goal.kind-kind-requires
kind-kind-requires c = tree_node c.args.container.now.past.now.document c.tree-tree.result.now c.args.container.now.who c.tree-tree.ensures c.requires.element

pub attrs-attrs-requires : goal.attrs-attrs-requires
attrs-attrs-requires c = tree_node c.args.container.now.past.now.document c.tree-tree.result.now c.args.container.now.who c.tree-tree.ensures c.requires.element

pub returns : goal.returns
returns c = λ e here.
    let document = c.args.container.now.past.now.document in
    let nodes = document.nodes in
    let distinct = c.possible.ensures.valid.numbered.distinct in
    let index = c.args.self.now.index in
    let at : IsFound c.args.container.now.past.now.document.nodes c.args.self.now.schedule.now c.args.container.now.who c.args.self.now.index =
    found _ _ _ c.possible.ensures.valid.numbered.distinct (c.requires.known.known).of_elements c.requires.element c.args.self.now.index (sym c.requires.known.here) in
    let one : at.element ≡ e = same_Some _ _ (sym at.node ∙ here) in
    let stands : slice_get (elements nodes) index ≡ Some e = at.here ∙ ap Some one in
    let known : node_at c.tree-tree.result.now.nodes c.args.container.now.who ≡ Some e = ap (λ (d : Document). node_at d.nodes c.args.container.now.who) c.tree-tree.ensures ∙ known_node document c.possible.ensures.valid.numbered c.args.container.now.who e here in
    let kind : c.kind-kind.result ≡ e.kind = kind_is c.tree-tree.result.now.nodes c.args.container.now.who e c.kind-kind.result c.kind-kind.ensures known in
    let attrs : c.attrs-attrs.result.now ≡ e.attrs = tree_attrs document c.tree-tree.result.now c.args.container.now.who e c.attrs-attrs.result.now distinct c.tree-tree.ensures here c.attrs-attrs.ensures in
    let ends = (c.requires.known.known).ends_are index e stands (ap (λ n. n.serial) (sym one) ∙ at.is_who) in
    let fits : SFits w64 c.args.container.now.start = search rules in
    c.implicit.ensures ∙ (λ i. container_duration (kind i) (endsync_of (attrs i)) (to_z-of_z w64 c.args.container.now.start fits i) (ends i))
