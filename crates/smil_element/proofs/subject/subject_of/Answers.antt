use Rattle.std.proofs.Common.{◌∙◌, sym, ap}
use Rattle.std.specs.Prelude.{is_some, slice_get}
use Rattle.smil_model.specs.document.Document.{elements}
use Rattle.smil_instances.proofs.IdTargets.{element_of}
use Rattle.smil_past.proofs.ElementPlaces.{place_told, stands_at}
use Rattle.smil_element.proofs.subject.subject_of.Goals as goal

pub unwrap-index-requires : goal.unwrap-index-requires
unwrap-index-requires c =
    let nodes = c.args.present.now.past.now.document.nodes in
    let who = c.args.present.now.who in
    let found = element_of nodes who c.requires.element in
    ap is_some (c.index_of.ensures ∙ (stands_at (elements nodes) who found.0 found.1).is)

pub subject_at-requires-clause-index : goal.subject_at-requires-clause-index
subject_at-requires-clause-index c =
    let nodes = c.args.present.now.past.now.document.nodes in
    let who = c.args.present.now.who in
    let found = element_of nodes who c.requires.element in
    ap (slice_get (elements nodes)) (place_told (elements nodes) who c.unwrap-index.result (sym c.unwrap-index.ensures ∙ c.index_of.ensures))
    ∙ (stands_at (elements nodes) who found.0 found.1).at
    ∙ sym found.1
