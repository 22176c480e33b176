-- Documents that are alike in what a graph reads of them have the same references.
use Rattle.std.proofs.Common.{◌≡◌, refl, ◌∙◌, ap, ℕ, List, [], ◌∷◌, Option, Some, None, Bool, true, false}
use Rattle.std.specs.Prelude.{◌||◌, ◌&&◌, ◌==◌, map, option_map, not, is_some}
use Rattle.std.specs.List.{list_all}
use Rattle.smil_model.specs.declared.document.Item.{Item}
use Rattle.smil_model.specs.declared.document.Node.{Node}
use Rattle.smil_model.specs.document.Dependencies.{all_items, is_looped}
use Rattle.smil_model.specs.document.Document.{element_named, elements, node_at, serial_of}
use Rattle.smil_graph.specs.Reduced.{all_reduced, reduced, reduced_items}
use Rattle.smil_graph.proofs.AlikeDocuments.{all_items_reduced, element_at_reduced, looped_reduced, named_reduced, serial_of_reduced}
use Rattle.smil_graph.proofs.AlikeTables.{across}
use Rattle.smil_revision.specs.References.{are_same_marks, keeps_loops, keeps_loops_of, keeps_references, loops, serial_named}
use Rattle.smil_revision.proofs.AlikeIds.{keeps_all}

loops_reduced : (ns : List Node) (o : Option Node) → loops (all_reduced ns) (option_map reduced o) ≡ loops ns o
loops_reduced ns None = refl
loops_reduced ns (Some e) = ap (map (is_looped (all_reduced ns) e.serial)) (all_items_reduced ns e) ∙ along (all_items ns e)
  where
    along : (items : List Item) → map (is_looped (all_reduced ns) e.serial) (reduced_items items) ≡ map (is_looped ns e.serial) items
    along [] = refl
    along (i ∷ is) =
        ap (λ (b : Bool). b ∷ map (is_looped (all_reduced ns) e.serial) (reduced_items is)) (looped_reduced ns e.serial i)
        ∙ ap (λ (l : List Bool). is_looped ns e.serial i ∷ l) (along is)

same_marks : (marks : List Bool) → are_same_marks marks marks ≡ true
same_marks [] = refl
same_marks (true ∷ marks) = same_marks marks
same_marks (false ∷ marks) = same_marks marks

last_holds : (t u v : Bool) → v ≡ true → (t || u || v) ≡ true
last_holds true u v e = refl
last_holds false true v e = refl
last_holds false false v e = e

module _ (old new : List Node) (alike : all_reduced old ≡ all_reduced new) where
  same_named : (id : List ℕ) → serial_named old id ≡ serial_named new id
  same_named id = across (λ (ns : List Node). serial_named ns id) (λ ns. ap serial_of (named_reduced ns id) ∙ serial_of_reduced (element_named ns id)) old new alike

  same_loops : (s : ℕ) → loops old (node_at (elements old) s) ≡ loops new (node_at (elements new) s)
  same_loops s = across (λ (ns : List Node). loops ns (node_at (elements ns) s)) (λ ns. ap (loops (all_reduced ns)) (element_at_reduced ns s) ∙ loops_reduced ns (node_at (elements ns) s)) old new alike

  keeps_loops_each : (edited : ℕ) (es : List Node) → list_all (λ (e : Node). keeps_loops_of edited old new e.serial) es ≡ true
  keeps_loops_each edited [] = refl
  keeps_loops_each edited (e ∷ es) =
      let marks : are_same_marks (loops old (node_at (elements old) e.serial)) (loops new (node_at (elements new) e.serial)) ≡ true =
      ap (λ (l : List Bool). are_same_marks l (loops new (node_at (elements new) e.serial))) (same_loops e.serial) ∙ same_marks (loops new (node_at (elements new) e.serial)) in
      ap (λ (t : Bool). t && list_all (λ (x : Node). keeps_loops_of edited old new x.serial) es) (last_holds (e.serial == edited) (not (is_some (node_at (elements new) e.serial))) (are_same_marks (loops old (node_at (elements old) e.serial)) (loops new (node_at (elements new) e.serial))) marks)
      ∙ keeps_loops_each edited es

  pub alike_keeps : (edited : ℕ) → keeps_references edited old new ≡ true
  alike_keeps edited = ap (λ (t : Bool). t && keeps_loops edited old new) (keeps_all old new same_named) ∙ keeps_loops_each edited (elements old)
