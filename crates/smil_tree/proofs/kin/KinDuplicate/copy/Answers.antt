use Rattle.std.proofs.Common.{◌≡◌, ◌∙◌, ℕ}
use Rattle.std.proofs.lemmas.List.Elements.{same_from_all_zip}
use Rattle.std.specs.declared.alloc.Global.{Global}
use Rattle.std.specs.declared.vec.Vec.{Vec}
use Rattle.smil_model.specs.ListTables.{rows}
use Rattle.smil_tree.proofs.Clones.{same_mapped}
use Rattle.smil_tree.proofs.kin.KinDuplicate.copy.Goals as goal

pub returns : goal.returns
returns c =
    let children : rows c.in_ok-clone.field-0.entries ≡ rows c.self.inside.children.entries =
    same_mapped _ (λ (e : ℕ × Vec ℕ Global). (e.0, e.1.items)) (λ x y alike i. (alike.0 i, same_from_all_zip _ x.1.items y.1.items alike.1.0 (λ a b is. is) i)) c.self.inside.children.entries c.in_ok-clone.field-0.entries c.in_ok-clone.ensures.cases in
    let time_children : rows c.in_ok-clone-2.field-0.entries ≡ rows c.self.inside.time_children.entries =
    same_mapped _ (λ (e : ℕ × Vec ℕ Global). (e.0, e.1.items)) (λ x y alike i. (alike.0 i, same_from_all_zip _ x.1.items y.1.items alike.1.0 (λ a b is. is) i)) c.self.inside.time_children.entries c.in_ok-clone-2.field-0.entries c.in_ok-clone-2.ensures.cases in
    (λ i. record { children = children i; time_children = time_children i }) ∙ c.self.view_is
