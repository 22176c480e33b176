-- A node put in at a place, and taken out again.
use Rattle.std.proofs.Common.{◌≡◌, refl, sym, ◌∙◌, ap, subst, ℕ, suc, ◌+◌, ◌<◌, ◌≤◌, List, [], ◌∷◌, Some, None, false, cond, length, insert, arith, add-one}
use Rattle.std.specs.Prelude.{◌==◌, slice_get}
use Rattle.std.specs.List.{AllByRecursion}
use Rattle.std.proofs.lemmas.Bool.{ne_eqb}
use Rattle.smil_model.specs.declared.document.Node.{Node}
use Rattle.smil_model.specs.document.Document.{node_at}
use Rattle.smil_model.specs.document.Valid.{IsValid, IsNumberedTree, references, references_among, references_of}
use Rattle.smil_model.specs.document.Edits.{children}
use Rattle.smil_laws.proofs.NumberedTrees.{all_low}
use Rattle.smil_laws.proofs.Lists.{each_weaker}
use Rattle.smil_tree.specs.Places.{cut}
use Rattle.smil_tree.specs.TreeFields.{IsTableOf, Keeps}
use Rattle.smil_tree.specs.Kin.{Families, IsKinOf}
use Rattle.smil_tree.proofs.ListCuts.{get_inserted, sum_inserted}
use Rattle.smil_tree.proofs.KinCallers.{next_leaf, cut-insert}

none_at : (s : ℕ) (ns : List Node) → AllByRecursion (λ (n : Node). n.serial == s ≡ false) ns → node_at ns s ≡ None
none_at s [] each = refl
none_at s (n ∷ ns) each = ap (λ b. cond b (Some n) (node_at ns s)) each.0 ∙ none_at s ns each.1

-- no node has the next serial
pub next_fresh : (nodes : List Node) (next s : ℕ) → IsNumberedTree (record { nodes = nodes; next = next }) → s ≡ next → node_at nodes s ≡ None
next_fresh nodes next s numbered is =
    ap (node_at nodes) is
    ∙ none_at next nodes
    (each_weaker (λ (n : Node). (n.serial < next) × (n.parent < next)) (λ (n : Node). n.serial == next ≡ false) nodes (all_low (record { nodes = nodes; next = next }) numbered)
    (λ n low. ne_eqb n.serial next (λ e. absurd (omega (arith, e, low.0)))))

module _ (nodes new : List Node) (next i : ℕ) (m : Node) (within : i ≤ length nodes) (is : new ≡ insert nodes i m) where
  pub back : cut i (i + 1) new ≡ nodes
  back = ap (cut i (i + 1)) is ∙ cut-insert nodes i m within

  pub leaf : IsNumberedTree (record { nodes = nodes; next = next }) → m.serial ≡ next → (n : Node) → slice_get new i ≡ Some n → children (cut i (i + 1) new) n.serial ≡ []
  leaf numbered serial n at =
      let both : Some m ≡ Some n = sym (get_inserted nodes i m within) ∙ ap (λ ns. slice_get ns i) (sym is) ∙ at in
      let one : m ≡ n = cc in
      ap (λ ns. children ns n.serial) back
      ∙ ap (λ (x : Node). children nodes x.serial) (sym one)
      ∙ ap (children nodes) serial
      ∙ next_leaf (record { nodes = nodes; next = next }) numbered

  -- the tree as before
  pub keeps_back : (removed : List Node) (table after : List (List ℕ × ℕ)) (total : ℕ) (families kin : Families) → Keeps nodes next table total families → removed ≡ cut i (i + 1) new → IsTableOf after (cut i (i + 1) new) → IsKinOf kin (cut i (i + 1) new) → Keeps removed next after total kin
  keeps_back removed table after total families kin keeps gone tabled kins =
      rw (gone ∙ back) (record {
        valid = keeps.valid;
        ids = subst (IsTableOf after) back tabled;
        total_is = keeps.total_is;
        kin = subst (IsKinOf kin) back kins;
      })

  -- the tree with the node
  pub keeps_put : (table after : List (List ℕ × ℕ)) (total count : ℕ) (families kin : Families) → Keeps nodes next table total families → IsValid (record { nodes = insert nodes i m; next = suc next }) → IsTableOf after new → IsKinOf kin new → count ≡ references_among m.attrs → Keeps new (next + 1) after (total + count) kin
  keeps_put table after total count families kin keeps valid tabled kins counts =
      let sum : references (insert nodes i m) ≡ references nodes + references_of m = sum_inserted references_of nodes i m in
      let own : references_of m ≡ references_among m.attrs = refl in
      rw add-one (record {
        valid = rw is valid;
        ids = tabled;
        total_is = omega (arith, keeps.total_is, counts, sum, own, ap references is);
        kin = kins;
      })
