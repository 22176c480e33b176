-- The views of all elements, in document order.
use Rattle.std.proofs.Common.{◌≡◌, refl, sym, ◌∙◌, ap, subst, ℕ, suc, ◌<◌, List, [], ◌∷◌, Option, Some, None, Bool, true, false, length, get_or, eq-eqb}
use Rattle.std.specs.Prelude.{IsSome, cond, map, ◌==◌, ◌||◌, option_map, slice_get}
use Rattle.std.specs.List.{list_any, position}
use Rattle.std.proofs.lemmas.Bool.{or_parts}
use Rattle.std.proofs.lemmas.List.Elements.{All-from_recursion}
use Rattle.std.proofs.lemmas.Option.{slice_get-get_or}
use Rattle.smil_model.specs.declared.document.Node.{Node}
use Rattle.smil_model.specs.declared.view.View.{View}
use Rattle.smil_model.specs.document.Document.{Document, elements, node_at, serials}
use Rattle.smil_model.specs.document.Valid.{IsDistinct}
use Rattle.smil_model.proofs.FirstPlaces.{position_cons}
use Rattle.smil_tree.proofs.NodeFamilies.{node_of_place}
use Rattle.smil_tree.proofs.ChildSpans.{serial_at}
use Rattle.smil_model.specs.reach.Reach.{is_option}
use Rattle.smil_graph.proofs.GraphTables.{place_is}
use Rattle.smil_instances.specs.Spread.{IsIndex}
use Rattle.smil_instances.proofs.SiblingBefore.{distinct_elements, first_told}
use Rattle.smil_cells.specs.CellsState.{CellsState}
use Rattle.smil_shown.specs.Sets.{AreOfElements}
use Rattle.smil_shown.specs.ShownViews.{views_at}
use Rattle.smil_shown.specs.ViewTable.{AreAt, AreOf, AreOne, has_view, owners, view_now}
use Rattle.smil_shown.proofs.LayersApart.{views_known}

-- an element that stands at a place among all, with this serial
pub record IsElementAt (nodes : List Node) (i s : ℕ) : Type 0 where
  pub element : Node
  pub at : slice_get (elements nodes) i ≡ Some element
  pub found : node_at (elements nodes) s ≡ Some element

pub element_at : (nodes : List Node) (whos : List ℕ) (i : ℕ) → IsDistinct nodes → whos ≡ serials (elements nodes) → i < length whos → IsElementAt nodes i (get_or whos i 0)
element_at nodes whos i distinct all l =
    let e = serial_at (elements nodes) i (get_or whos i 0) (ap (λ (ss : List ℕ). slice_get ss i) (sym all) ∙ slice_get-get_or whos i 0 l) in
    record {
      element = e.0;
      at = e.1;
      found = ap (node_at (elements nodes)) (sym e.2) ∙ node_of_place (elements nodes) i e.0 (distinct_elements nodes distinct) e.1;
    }

-- ---- places

same_option : (a b : Option ℕ) → ((k : ℕ) → is_option k a ≡ is_option k b) → a ≡ b
same_option None None q = refl
same_option None (Some k) q = let never : false ≡ true = q k ∙ eq-eqb k k refl in cc
same_option (Some k) b q = sym (place_is k b (sym (q k) ∙ eq-eqb k k refl))

-- an index of the elements leads to the first place of each
first_is : (es : List Node) (index : ℕ → Option ℕ) → IsDistinct es → IsIndex (serials es) index → (s : ℕ) → index s ≡ position (λ (n : ℕ). n == s) (serials es)
first_is es index distinct is s =
    same_option (index s) (position (λ (n : ℕ). n == s) (serials es)) (λ row. is row s ∙ sym (first_told es distinct row s))

module _ (f : Node → View) (own : (n : Node) → (f n).serial ≡ n.serial) where
  -- the view of an element has its place
  place_of_view : (es : List Node) (s : ℕ) → position (λ (n : ℕ). n == s) (serials es) ≡ position (λ (v : View). v.serial == s) (map f es)
  place_of_view [] s = refl
  place_of_view (e ∷ es) s =
      position_cons (λ (n : ℕ). n == s) e.serial (serials es)
      ∙ ap (λ o. cond (e.serial == s) (Some 0) (option_map suc o)) (place_of_view es s)
      ∙ ap (λ (n : ℕ). cond (n == s) (Some 0) (option_map suc (position (λ (v : View). v.serial == s) (map f es)))) (sym (own e))
      ∙ sym (position_cons (λ (v : View). v.serial == s) (f e) (map f es))

  -- an index of the elements leads to the places of their views
  pub view_places : (nodes : List Node) (index : ℕ → Option ℕ) → IsDistinct nodes → IsIndex (serials (elements nodes)) index → (s : ℕ) → index s ≡ position (λ (v : View). v.serial == s) (map f (elements nodes))
  view_places nodes index distinct is s =
      first_is (elements nodes) index (distinct_elements nodes distinct) is s ∙ place_of_view (elements nodes) s

  -- none has a serial that no node has
  pub none_of : (ns : List Node) (s : ℕ) → list_any (λ (m : Node). m.serial == s) ns ≡ false → has_view (map f ns) s ≡ false
  none_of [] s q = refl
  none_of (n ∷ ns) s q =
      let apart = or_parts (n.serial == s) (list_any (λ (m : Node). m.serial == s) ns) q in
      ap (λ (k : ℕ). k == s || has_view (map f ns) s) (own n) ∙ ap (λ (b : Bool). b || has_view (map f ns) s) apart.0 ∙ none_of ns s apart.1

  -- nor have two the same
  pub one_each : (ns : List Node) → IsDistinct ns → AreOne (map f ns)
  one_each [] d = tt
  one_each (n ∷ ns) d = (subst (λ (k : ℕ). has_view (map f ns) k ≡ false) (sym (own n)) (none_of ns n.serial d.0), one_each ns d.1)

  -- the serials are those of the nodes
  serials_of_views : (ns : List Node) → map (λ (v : View). v.serial) (map f ns) ≡ serials ns
  serials_of_views [] = refl
  serials_of_views (n ∷ ns) = ap (λ (s : ℕ). s ∷ map (λ (v : View). v.serial) (map f ns)) (own n) ∙ ap (λ (ss : List ℕ). n.serial ∷ ss) (serials_of_views ns)

-- the views of all elements are of elements, and so of nodes
pub of_elements : (s : CellsState) (d : Document) (vs : List View) → d ≡ s.presentation.document → vs ≡ views_at s → AreOfElements d.nodes vs
of_elements s d vs same is =
    let P : List View → Type 0 = λ ws. AreOfElements s.presentation.document.nodes ws in
    let Q : Document → Type 0 = λ x. AreOfElements x.nodes vs in
    subst Q (sym same) (subst P (sym is) (serials_of_views (view_now s) (λ n. refl) (elements s.presentation.document.nodes)))

pub of_nodes : (s : CellsState) (d : Document) (vs : List View) → d ≡ s.presentation.document → vs ≡ views_at s → AreOf d.nodes vs
of_nodes s d vs same is = All-from_recursion (λ (v : View). IsSome (node_at d.nodes v.serial)) vs (views_known d.nodes vs (of_elements s d vs same is))

-- ---- views put in anew

owner_places : (vs : List View) (s : ℕ) → position (λ (v : View). v.serial == s) vs ≡ position (λ (n : ℕ). n == s) (owners vs)
owner_places [] s = refl
owner_places (v ∷ vs) s =
    position_cons (λ (w : View). w.serial == s) v vs
    ∙ ap (λ o. cond (v.serial == s) (Some 0) (option_map suc o)) (owner_places vs s)
    ∙ sym (position_cons (λ (n : ℕ). n == s) v.serial (owners vs))

-- the places of one view for each element are those of any others
pub places_renewed : (s : CellsState) (places : ℕ → Option ℕ) (old : List View) → IsDistinct s.presentation.document.nodes → AreOfElements s.presentation.document.nodes old → AreAt places old → AreAt places (views_at s)
places_renewed s places old distinct all at =
    let es = elements s.presentation.document.nodes in
    record {
      place = λ k. at.place k ∙ owner_places old k ∙ ap (position (λ (n : ℕ). n == k)) all ∙ place_of_view (view_now s) (λ n. refl) es k;
      one = one_each (view_now s) (λ n. refl) es (distinct_elements s.presentation.document.nodes distinct);
    }
