use Rattle.std.proofs.Common.{rules, ◌≡◌, sym, subst, ap, ◌∙◌, List, ℕ}
use Rattle.std.specs.FinMap.{get}
use Rattle.smil_model.specs.document.Document.{Document, elements, serials}
use Rattle.smil_instances.specs.Spread.{IsIndex}
use Rattle.smil_past.proofs.past.Past.places_of.Goals as goal

pub returns-in_ok-places : goal.returns-in_ok-places
returns-in_ok-places c =
    let doc = c.args.self.now.document in
    let kept : c.places.result.now.value ≡ c.in_ok-places.places.value = search rules in
    let alike : serials (elements doc.nodes) ≡ serials (elements c.args.after.now.nodes) =
    ap (λ (d : Document). serials (elements d.nodes)) (sym c.tree.ensures) ∙ c.have_same_elements.ensures c.if-have_same_elements.true in
    subst (λ table. IsIndex (serials (elements c.args.after.now.nodes)) (get table)) kept
    (subst (λ (whos : List ℕ). IsIndex whos (get c.places.result.now.value)) alike (c.places.ensures doc.nodes c.syncs.ensures))
