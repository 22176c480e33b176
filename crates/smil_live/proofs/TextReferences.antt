-- References of documents that differ in plain texts alone: a graph reads the same of both, and an
-- edit keeps those of both or of neither.
use Rattle.std.proofs.Common.{◌≡◌, refl, sym, ◌∙◌, ap, ℕ, List, [], ◌∷◌, map, Bool, Option, Some, None}
use Rattle.std.specs.Prelude.{is_some, not, option_map, ◌&&◌, ◌||◌, ◌==◌}
use Rattle.std.specs.List.{list_all}
use Rattle.std.proofs.lemmas.List.Folds.{list_all-append}
use Rattle.smil_model.specs.declared.document.Item.{Item}
use Rattle.smil_model.specs.declared.document.Item.TheVariants.{Sync}
use Rattle.smil_model.specs.declared.document.Node.{Node}
use Rattle.smil_model.specs.document.Dependencies.{is_looped, is_looped_to}
use Rattle.smil_model.specs.document.Document.{element_named, elements, node_at, serial_of}
use Rattle.smil_graph.specs.Reduced.{all_reduced, reduced}
use Rattle.smil_revision.specs.References.{are_same_marks, is_same_serial, keeps_id, keeps_ids, keeps_loops, keeps_loops_of, keeps_references, loops, serial_named}
use Rattle.smil_text_laws.specs.PlainTexts.{DifferInTexts, bare, without_texts}
use Rattle.smil_text_laws.proofs.BareDocuments.{elements_bare, items_same, leads_same, named_bare, node_bare, read_same, serial_of_same}
use Rattle.smil_text_laws.proofs.BareLists.{map_mapped}
use Rattle.smil_text_laws.proofs.BareSame.{same_of}

pub reduced_same : (old new : List Node) → DifferInTexts old new → all_reduced old ≡ all_reduced new
reduced_same old new differ = same_of all_reduced (λ ns. map_mapped without_texts reduced reduced (λ n. refl) ns) old new differ

all_mapped : {A B : Type 0} (f : A → B) (p : B → Bool) (q : A → Bool) → ((x : A) → p (f x) ≡ q x) → (xs : List A) → list_all p (map f xs) ≡ list_all q xs
all_mapped f p q same [] = refl
all_mapped f p q same (x ∷ xs) = λ i. same x i && all_mapped f p q same xs i

module _ (new ns : List Node) where
  -- ---- ids

  id_same : (own : Option (List ℕ)) → keeps_id (bare ns) new own ≡ keeps_id ns new own
  id_same None = refl
  id_same (Some id) = ap (λ (o : Option ℕ). is_same_serial o (serial_named new id)) (ap serial_of (named_bare ns id) ∙ serial_of_same (element_named ns id))

  ids_same : keeps_ids (bare ns) new ≡ keeps_ids ns new
  ids_same =
      list_all-append (λ (n : Node). keeps_id (bare ns) new n.attrs.id) (bare ns) new
      ∙ ((λ i. all_mapped without_texts (λ (n : Node). keeps_id (bare ns) new n.attrs.id) (λ (n : Node). keeps_id ns new n.attrs.id) (λ n. id_same n.attrs.id) ns i && list_all (λ (n : Node). id_same n.attrs.id i) new)
      ∙ sym (list_all-append (λ (n : Node). keeps_id ns new n.attrs.id) ns new))

  -- ---- loops

  looped_same : (e : ℕ) (item : Item) → is_looped (bare ns) e item ≡ is_looped ns e item
  looped_same e (Sync who edge offset) = ap (is_looped_to (bare ns) e) (named_bare ns who) ∙ read_same (is_looped_to (bare ns) e) (is_looped_to ns e) refl (λ x. leads_same ns e x.serial) (element_named ns who)
  looped_same e _ = refl

  loops_read : (o : Option Node) → loops (bare ns) (option_map without_texts o) ≡ loops ns o
  loops_read None = refl
  loops_read (Some e) = λ i. map (λ (item : Item). looped_same e.serial item i) (items_same ns e i)

  loops_same : (s : ℕ) → loops (bare ns) (node_at (elements (bare ns)) s) ≡ loops ns (node_at (elements ns) s)
  loops_same s = ap (loops (bare ns)) (ap (λ (es : List Node). node_at es s) (elements_bare ns) ∙ node_bare (elements ns) s) ∙ loops_read (node_at (elements ns) s)

  kept_same : (edited : ℕ) → keeps_loops edited (bare ns) new ≡ keeps_loops edited ns new
  kept_same edited =
      ap (list_all (λ (e : Node). keeps_loops_of edited (bare ns) new e.serial)) (elements_bare ns)
      ∙ all_mapped without_texts (λ (e : Node). keeps_loops_of edited (bare ns) new e.serial) (λ (e : Node). keeps_loops_of edited ns new e.serial)
      (λ e. ap (λ (marks : List Bool). (e.serial == edited) || not (is_some (node_at (elements new) e.serial)) || are_same_marks marks (loops new (node_at (elements new) e.serial))) (loops_same e.serial)) (elements ns)

  both_same : (edited : ℕ) → keeps_references edited (bare ns) new ≡ keeps_references edited ns new
  both_same edited = λ i. ids_same i && kept_same edited i

pub references_same : (old now new : List Node) (edited : ℕ) → DifferInTexts old now → keeps_references edited old new ≡ keeps_references edited now new
references_same old now new edited differ = same_of (λ ns. keeps_references edited ns new) (λ ns. both_same new ns edited) old now differ
