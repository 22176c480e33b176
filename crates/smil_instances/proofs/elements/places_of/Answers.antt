use Rattle.std.proofs.Common.{◌≡◌, sym, subst, ap, ◌∙◌, ℕ, List}
use Rattle.std.specs.Prelude.{◌==◌, slice_get}
use Rattle.std.specs.FinMap.{get}
use Rattle.std.specs.List.{position}
use Rattle.std.proofs.lemmas.Result.{IfOk-weaker}
use Rattle.smil_model.specs.document.Document.{elements}
use Rattle.smil_model.specs.reach.Reach.{is_option}
use Rattle.smil_model.specs.FirstPlaces.{AreFirstPlaces}
use Rattle.smil_instances.specs.Spread.{IsIndex}
use Rattle.smil_instances.proofs.SiblingBefore.{distinct_elements, first_told}
use Rattle.smil_instances.proofs.elements.places_of.Goals as goal

pub returns : goal.returns
returns c =
    let nodes = c.args.tree.now.nodes in
    IfOk-weaker c.first_places.result
    (λ places. AreFirstPlaces (λ (s : ℕ). s) (get places) c.args.whos.now)
    (λ places. IsIndex c.args.whos.now (get places))
    (λ places are. λ row who.
    ap (is_option row) (are who)
    ∙ subst (λ (whos : List ℕ). is_option row (position (λ s. s == who) whos) ≡ is_option who (slice_get whos row)) (sym c.requires)
    (first_told (elements nodes) (distinct_elements nodes c.valid.ensures.numbered.distinct) row who))
    c.first_places.ensures
