use Rattle.std.proofs.Common.{sym, subst, List, ℕ}
use Rattle.std.specs.FinMap.{get}
use Rattle.smil_model.specs.document.Document.{elements, serials}
use Rattle.smil_instances.specs.Spread.{IsIndex}
use Rattle.smil_past.proofs.places.shared_places.Goals as goal

pub returns : goal.returns
returns c =
    subst (λ table. IsIndex (serials (elements c.args.tree.now.nodes)) (get table)) (sym c.in_ok-new.ensures.ok)
    (subst (λ (whos : List ℕ). IsIndex whos (get c.in_ok-places.places)) c.elements.ensures c.in_ok-places.ensures)
