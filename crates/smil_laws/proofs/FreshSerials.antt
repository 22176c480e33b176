-- A document differs from itself only below a serial that nothing in it has.
use Rattle.std.proofs.Common.{◌≡◌, refl, sym, ◌∙◌, ap, ℕ, List, Bool, true, false}
use Rattle.std.specs.Prelude.{reverse, ◌||◌, ◌==◌}
use Rattle.std.specs.List.{AllByRecursion}
use Rattle.smil_model.specs.declared.document.Node.{Node}
use Rattle.smil_model.specs.document.Document.{is_element, elements}
use Rattle.smil_laws.specs.Locality.{ParentsBefore}
use Rattle.smil_laws.specs.Agreement.{IsPlaced, IsAside, DifferBelow}
use Rattle.smil_laws.proofs.AsideDocuments.{find_each}
use Rattle.smil_laws.proofs.Lists.{each_weaker, each_kept}

-- no node has this serial, and none has it for its parent's
abbrev pub IsFresh : ℕ → List Node → Type 0
IsFresh fresh nodes = AllByRecursion (λ (x : Node). (x.serial == fresh ≡ false) × (x.parent == fresh ≡ false)) nodes

abbrev pub is_fresh : ℕ → ℕ → Bool
is_fresh fresh s = s == fresh

pub fresh_aside : (nodes : List Node) → ParentsBefore (reverse nodes) → (fresh : ℕ) → IsFresh fresh nodes → IsAside (is_fresh fresh) fresh nodes
fresh_aside nodes first fresh unused = record {
  first = first;
  placed =
      each_weaker (λ (x : Node). (x.serial == fresh ≡ false) × (x.parent == fresh ≡ false)) (IsPlaced (is_fresh fresh) fresh) nodes unused
      (λ x u. (u.0 ∙ sym (ap (λ t. t || t) u.1), λ t. let never : false ≡ true = sym u.0 ∙ t in cc));
  under = λ e here a.
      let free : e.serial == fresh ≡ false =
      find_each (λ (x : Node). x.serial == fresh ≡ false) (λ (x : Node). x.serial == e.serial) (elements nodes) e
      (each_kept (λ (x : Node). x.serial == fresh ≡ false) is_element nodes
      (each_weaker (λ (x : Node). (x.serial == fresh ≡ false) × (x.parent == fresh ≡ false)) (λ (x : Node). x.serial == fresh ≡ false) nodes unused (λ x u. u.0))) here in
      let never : false ≡ true = sym free ∙ a in cc;
}

pub fresh_differ : (nodes : List Node) → ParentsBefore (reverse nodes) → (fresh : ℕ) → IsFresh fresh nodes → DifferBelow (is_fresh fresh) fresh nodes nodes
fresh_differ nodes first fresh unused =
    let aside = fresh_aside nodes first fresh unused in
    record { same = refl; in_old = aside; in_new = aside; ids = λ id. refl; loops = λ e x here a t. refl }
