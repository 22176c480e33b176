use Rattle.std.proofs.Common.{◌∙◌, ℕ}
use Rattle.std.proofs.lemmas.List.Elements.{same_from_all_zip}
use Rattle.std.specs.declared.alloc.Global.{Global}
use Rattle.std.specs.declared.vec.Vec.{Vec}
use Rattle.smil_tree.proofs.Clones.{same_mapped}
use Rattle.smil_tree.proofs.ids.IdsDuplicate.copy.Goals as goal

pub returns : goal.returns
returns c =
    same_mapped _ (λ (e : Vec ℕ Global × ℕ). (e.0.items, e.1)) (λ x y alike i. (same_from_all_zip _ x.0.items y.0.items alike.0.0 (λ a b is. is) i, alike.1 i)) c.self.inside.serials.entries c.in_ok-clone.field-0.entries c.in_ok-clone.ensures.cases
    ∙ c.self.view_is
