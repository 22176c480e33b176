-- A tree with an attribute of a node changed.
use Rattle.std.proofs.Common.{◌≡◌, refl, sym, ◌∙◌, ap, ℕ, suc, ◌≤◌, List, [], ◌∷◌, Option, Some, None, Bool, true, false, cond, length, map, filter, drop, arith, inl}
use Rattle.std.specs.Prelude.{◌==◌, ◌&&◌, find, count_by, IsSome}
use Rattle.std.specs.List.{list_all}
use Rattle.smil_model.specs.declared.limits.TheConstants.{REFERENCES}
use Rattle.smil_model.specs.declared.document.Node.{Node}
use Rattle.smil_model.specs.declared.document.Attrs.{Attrs}
use Rattle.smil_model.specs.declared.document.Attr.{Attr}
use Rattle.smil_model.specs.declared.document.AttrName.{AttrName}
use Rattle.smil_model.specs.document.Document.{Document, node_at, lineage, time_parent, has_serial, is_element, is_time_child, serials}
use Rattle.smil_model.specs.document.Values.{fit_kind}
use Rattle.smil_model.specs.document.Valid.{IsValid, kind_of, has_fitting_attrs, references}
use Rattle.smil_model.specs.document.Edits.{changed_at, with_attr, without_attr}
use Rattle.smil_laws.proofs.AsideDocuments.{find_each}
use Rattle.smil_tree.specs.TreeFields.{bears, IsTableOf, Keeps}
use Rattle.smil_tree.specs.Kin.{Families, IsKinOf}
use Rattle.smil_tree.specs.Outcomes.{passes, may_take}
use Rattle.smil_tree.proofs.AttributesChanged.{numbered_stays, once_stays, some_node, fewer_ids, fewer_references, references_change}
use Rattle.smil_tree.proofs.AttributesFit.{fit_without}
use Rattle.smil_tree.proofs.TreeMade.{once_of}
use Rattle.smil_tree.proofs.NodesStand.{edit, serial_same, parent_same, lineage_edited, placed_edited, fitting_edited, none_taken, each_of_all}

module _ (change : Attrs → Attrs) (s : ℕ) where
  long : (ns : List Node) → length (changed_at change s ns) ≡ length ns
  long [] = refl
  long (n ∷ ns) = ap suc (long ns)

  -- ---- children

  pub same_serials : (t u : Node → Bool) (ns : List Node) → ((n : Node) → u (edit change s n) ≡ t n) → serials (filter u (changed_at change s ns)) ≡ serials (filter t ns)
  same_serials t u [] same = refl
  same_serials t u (n ∷ ns) same =
      ap (λ b. serials (cond b (edit change s n ∷ filter u (changed_at change s ns)) (filter u (changed_at change s ns)))) (same n) ∙ step (t n) (same_serials t u ns same)
    where
      step : (b : Bool) → serials (filter u (changed_at change s ns)) ≡ serials (filter t ns) → serials (cond b (edit change s n ∷ filter u (changed_at change s ns)) (filter u (changed_at change s ns))) ≡ serials (cond b (n ∷ filter t ns) (filter t ns))
      step true rest = ap (λ x. x ∷ serials (filter u (changed_at change s ns))) (serial_same change s n) ∙ ap (λ xs. n.serial ∷ xs) rest
      step false rest = rest

  pub element_same : (n : Node) → is_element (edit change s n) ≡ is_element n
  element_same n = by_test (n.serial == s)
    where
      by_test : (t : Bool) → is_element (cond t (record n { attrs = change n.attrs }) n) ≡ is_element n
      by_test true = refl
      by_test false = refl

  found_same : (x : ℕ) (ns : List Node) → has_serial x (find is_element (map (edit change s) ns)) ≡ has_serial x (find is_element ns)
  found_same x [] = refl
  found_same x (n ∷ ns) = ap (λ b. has_serial x (cond b (Some (edit change s n)) (find is_element (map (edit change s) ns)))) (element_same n) ∙ step (is_element n) (found_same x ns)
    where
      step : (b : Bool) → has_serial x (find is_element (map (edit change s) ns)) ≡ has_serial x (find is_element ns) → has_serial x (cond b (Some (edit change s n)) (find is_element (map (edit change s) ns))) ≡ has_serial x (cond b (Some n) (find is_element ns))
      step true rest = ap (λ y. y == x) (serial_same change s n)
      step false rest = rest

  pub rest_same : (ns : List Node) → drop 1 (map (edit change s) ns) ≡ map (edit change s) (drop 1 ns)
  rest_same [] = refl
  rest_same (n ∷ ns) = refl

  parent_found : (x y : ℕ) (nodes : List Node) → has_serial x (time_parent (changed_at change s nodes) y) ≡ has_serial x (time_parent nodes y)
  parent_found x y nodes =
      ap (λ c. has_serial x (find is_element (drop 1 c))) (lineage_edited change s nodes y)
      ∙ ap (λ c. has_serial x (find is_element c)) (rest_same (lineage nodes y))
      ∙ found_same x (drop 1 (lineage nodes y))

  pub time_child_same : (nodes : List Node) (x : ℕ) (n : Node) → is_time_child (changed_at change s nodes) x (edit change s n) ≡ is_time_child nodes x n
  time_child_same nodes x n =
      ap (λ b. b && has_serial x (time_parent (changed_at change s nodes) (edit change s n).serial)) (element_same n)
      ∙ ap (λ y. is_element n && has_serial x (time_parent (changed_at change s nodes) y)) (serial_same change s n)
      ∙ ap (λ b. is_element n && b) (parent_found x n.serial nodes)

  kin_stays : (families : Families) (nodes : List Node) → IsKinOf families nodes → IsKinOf families (changed_at change s nodes)
  kin_stays families nodes kin = record {
    children = λ x. kin.children x ∙ sym (same_serials (λ (n : Node). n.parent == x) (λ (n : Node). n.parent == x) nodes (λ n. ap (λ y. y == x) (parent_same change s n)));
    time_children = λ x. kin.time_children x ∙ sym (same_serials (is_time_child nodes x) (is_time_child (changed_at change s nodes) x) nodes (time_child_same nodes x));
  }

  -- ---- what a tree keeps

  pub keeps_changed : (nodes new : List Node) (next : ℕ) (table after : List (List ℕ × ℕ)) (total count : ℕ) (families : Families) (old : Node) → Keeps nodes next table total families → new ≡ changed_at change s nodes → node_at nodes s ≡ Some old → fit_kind old.kind (kind_of (node_at nodes old.parent)) (change old.attrs) ≡ true → ((q : List ℕ) → count_by (bears q) (changed_at change s nodes) ≤ 1) → IsTableOf after (changed_at change s nodes) → count ≡ references (changed_at change s nodes) → count ≤ REFERENCES → Keeps new next after count families
  keeps_changed nodes new next table after total count families old keeps is at fits once tabled counts few =
      rw is (record {
        valid = record {
          numbered = numbered_stays change s nodes next keeps.valid.numbered;
          placed = placed_edited change s nodes old keeps.valid.numbered.distinct at keeps.valid.placed;
          fitting = fitting_edited change s nodes old keeps.valid.numbered.distinct at keeps.valid.fitting fits;
          ids = none_taken (changed_at change s nodes) once;
          nodes = omega (arith, long nodes, keeps.valid.nodes);
          references = omega (arith, counts, few);
        };
        ids = tabled;
        total_is = counts;
        kin = kin_stays families nodes keeps.kin;
      })

-- the attributes of a node fit
pub fits_at : (nodes : List Node) (s : ℕ) (old : Node) → list_all (has_fitting_attrs nodes) nodes ≡ true → node_at nodes s ≡ Some old → fit_kind old.kind (kind_of (node_at nodes old.parent)) old.attrs ≡ true
fits_at nodes s old all at = find_each (λ (n : Node). has_fitting_attrs nodes n ≡ true) (λ (n : Node). n.serial == s) nodes old (each_of_all (has_fitting_attrs nodes) nodes all) at

pub keeps_set : (nodes new : List Node) (s next : ℕ) (given : Attr) (table after : List (List ℕ × ℕ)) (total count : ℕ) (families : Families) → Keeps nodes next table total families → may_take nodes s given ≡ true → new ≡ changed_at (λ attrs. with_attr attrs given) s nodes → ((q : List ℕ) → count_by (bears q) (changed_at (λ attrs. with_attr attrs given) s nodes) ≤ 1) → IsTableOf after (changed_at (λ attrs. with_attr attrs given) s nodes) → count ≡ references (changed_at (λ attrs. with_attr attrs given) s nodes) → count ≤ REFERENCES → Keeps new next after count families
keeps_set nodes new s next given table after total count families keeps takes is once tabled counts few = by_node (node_at nodes s) refl takes
  where
    by_node : (o : Option Node) → node_at nodes s ≡ o → passes (λ (n : Node). fit_kind n.kind (kind_of (node_at nodes n.parent)) (with_attr n.attrs given)) o ≡ true → Keeps new next after count families
    by_node None at h = cc
    by_node (Some old) at h = keeps_changed (λ attrs. with_attr attrs given) s nodes new next table after total count families old keeps is at h once tabled counts few

pub keeps_unset : (nodes new : List Node) (s next : ℕ) (given : AttrName) (table after : List (List ℕ × ℕ)) (total count : ℕ) (families : Families) → Keeps nodes next table total families → IsSome (node_at nodes s) → new ≡ changed_at (λ attrs. without_attr attrs given) s nodes → IsTableOf after (changed_at (λ attrs. without_attr attrs given) s nodes) → count ≡ references (changed_at (λ attrs. without_attr attrs given) s nodes) → Keeps new next after count families
keeps_unset nodes new s next given table after total count families keeps known is tabled counts =
    let n = some_node (node_at nodes s) known in
    let d = keeps.valid.numbered.distinct in
    keeps_changed (λ attrs. without_attr attrs given) s nodes new next table after total count families n.0 keeps is n.1
    (fit_without n.0.attrs n.0.kind (kind_of (node_at nodes n.0.parent)) given (fits_at nodes s n.0 keeps.valid.fitting n.1))
    (once_stays (λ attrs. without_attr attrs given) s nodes n.0 d n.1 (once_of (record { nodes = nodes; next = next }) keeps.valid) (λ q h. inl (fewer_ids n.0 given q h)))
    tabled counts
    (omega (arith, counts, keeps.valid.references, references_change (λ attrs. without_attr attrs given) s nodes n.0 d n.1, fewer_references n.0.attrs given))

pub keeps_made : (d : Document) (nodes : List Node) (next : ℕ) (table : List (List ℕ × ℕ)) (total : ℕ) (families : Families) → IsValid d → nodes ≡ d.nodes → next ≡ d.next → IsTableOf table d.nodes → total ≡ references d.nodes → IsKinOf families d.nodes → Keeps nodes next table total families
keeps_made d nodes next table total families valid nodes_are next_is tabled counts kin = rw (nodes_are, next_is) (record { valid = valid; ids = tabled; total_is = counts; kin = kin })
