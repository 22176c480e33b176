-- An edit after which ids name the same elements, and references are looped as before, keeps the
-- references.
use Rattle.std.proofs.Common.{◌≡◌, refl, sym, ◌∙◌, ap, subst, ℕ, List, [], ◌∷◌, ◌++◌, Option, Some, None, Bool, true, false, inl, inr}
use Rattle.std.specs.Prelude.{cond, find, map, not, option_map, is_some, pos, ◌&&◌, ◌||◌, ◌==◌, ◌⊎◌}
use Rattle.std.specs.Bool.{beq}
use Rattle.std.specs.List.{list_all, list_any}
use Rattle.std.specs.Str.{bytes_eq}
use Rattle.std.proofs.lemmas.Bool.{and_parts, eqb-true, or_cases}
use Rattle.std.proofs.lemmas.Slice.Eq.{bytes_eq-Decides}
use Rattle.smil_model.specs.declared.document.Item.{Item}
use Rattle.smil_model.specs.declared.document.Item.TheVariants.{Offset, Indefinite, Sync, Event, Repeat, Key}
use Rattle.smil_model.specs.declared.document.Node.{Node}
use Rattle.smil_model.specs.document.Defaults.{end_list, items_or}
use Rattle.smil_model.specs.document.Dependencies.{all_items, is_looped, is_looped_to, is_sync_with, leads_to}
use Rattle.smil_model.specs.document.Document.{element_named, elements, has_id, has_serial, is_element, is_in_excl, node_at}
use Rattle.smil_laws.specs.Edited.{KeepsReferences}
use Rattle.smil_outline.proofs.OutlineRoundTrip.{all_front}
use Rattle.smil_revision.specs.References.{are_same_marks, is_same_serial, keeps_id, keeps_ids, keeps_loops, keeps_loops_of, keeps_references, loops, serial_named}

-- ---- lists

all_right : (p : Node → Bool) (xs ys : List Node) → list_all p (xs ++ ys) ≡ true → list_all p ys ≡ true
all_right p [] ys q = q
all_right p (x ∷ xs) ys q = all_right p xs ys (and_parts (p x) (list_all p (xs ++ ys)) q).1

-- what holds of all holds of the one that is found, which passes
found_of : (p t : Node → Bool) (xs : List Node) (n : Node) → list_all p xs ≡ true → find t xs ≡ Some n → (p n ≡ true) × (t n ≡ true)
found_of p t [] n all e = cc
found_of p t (x ∷ xs) n all e =
    let parts = and_parts (p x) (list_all p xs) all in
    by_test (t x) refl e parts.0 (found_of p t xs n parts.1)
  where
    by_test : (u : Bool) → t x ≡ u → cond u (Some x) (find t xs) ≡ Some n → p x ≡ true → (find t xs ≡ Some n → (p n ≡ true) × (t n ≡ true)) → (p n ≡ true) × (t n ≡ true)
    by_test true here e first rest = let one : x ≡ n = cc in subst (λ (m : Node). (p m ≡ true) × (t m ≡ true)) one (first, here)
    by_test false here e first rest = rest e

-- ---- ids

pub bytes_same : (xs ys : List ℕ) → bytes_eq xs ys ≡ true → xs ≡ ys
bytes_same xs ys q = (bytes_eq-Decides xs ys).0 q

same_serials : (a b : Option ℕ) → is_same_serial a b ≡ true → a ≡ b
same_serials None None q = refl
same_serials (Some x) (Some y) q = ap Some (eqb-true x y q)
same_serials None (Some y) q = cc
same_serials (Some x) None q = cc

-- an id that a node has means the same in both
by_own : (old new : List Node) (id : List ℕ) (own : Option (List ℕ)) → has_id id own ≡ true → keeps_id old new own ≡ true → serial_named old id ≡ serial_named new id
by_own old new id None has keeps = cc
by_own old new id (Some own) has keeps =
    subst (λ (q : List ℕ). serial_named old q ≡ serial_named new q) (bytes_same own id has) (same_serials (serial_named old own) (serial_named new own) keeps)

by_named : (old new : List Node) (id : List ℕ) → keeps_ids old new ≡ true → serial_named old id ≡ serial_named new id
by_named old new id keeps = by_old (element_named old id) refl
  where
    test : Node → Bool
    test n = is_element n && has_id id n.attrs.id

    by_new : (o : Option Node) → element_named new id ≡ o → element_named old id ≡ None → serial_named old id ≡ serial_named new id
    by_new None new_is old_is = ap (option_map (λ (n : Node). n.serial)) (old_is ∙ sym new_is)
    by_new (Some n) new_is old_is =
        let both = found_of (λ (m : Node). keeps_id old new m.attrs.id) (λ (m : Node). is_element m && has_id id m.attrs.id) new n (all_right (λ (m : Node). keeps_id old new m.attrs.id) old new keeps) new_is in
        by_own old new id n.attrs.id (and_parts (is_element n) (has_id id n.attrs.id) both.1).1 both.0

    by_old : (o : Option Node) → element_named old id ≡ o → serial_named old id ≡ serial_named new id
    by_old None old_is = by_new (element_named new id) refl old_is
    by_old (Some n) old_is =
        let both = found_of (λ (m : Node). keeps_id old new m.attrs.id) (λ (m : Node). is_element m && has_id id m.attrs.id) old n (all_front (λ (m : Node). keeps_id old new m.attrs.id) old new keeps) old_is in
        by_own old new id n.attrs.id (and_parts (is_element n) (has_id id n.attrs.id) both.1).1 both.0

-- ---- loops

same_marks : (s t : Bool) → beq s t ≡ true → s ≡ t
same_marks true true q = refl
same_marks false false q = refl
same_marks true false q = cc
same_marks false true q = cc

module _ (old new : List Node) (ids : (id : List ℕ) → serial_named old id ≡ serial_named new id) (s x : ℕ) where
  -- a reference to x, with the same mark
  by_element : (a b : Option Node) → option_map (λ (n : Node). n.serial) a ≡ option_map (λ (n : Node). n.serial) b → has_serial x a ≡ true → is_looped_to old s a ≡ is_looped_to new s b → leads_to old s x ≡ leads_to new s x
  by_element None b same has mark = cc
  by_element (Some n) None same has mark = cc
  by_element (Some n) (Some m) same has mark =
      let to : n.serial ≡ x = eqb-true n.serial x has in
      let one : n.serial ≡ m.serial = cc in
      ap (leads_to old s) (sym to) ∙ (mark ∙ ap (leads_to new s) (sym one ∙ to))

  by_item : (item : Item) → is_sync_with old x item ≡ true → is_looped old s item ≡ is_looped new s item → leads_to old s x ≡ leads_to new s x
  by_item (Sync who edge offset) has mark = by_element (element_named old who) (element_named new who) (ids who) has mark
  by_item (Offset offset) has mark = cc
  by_item Indefinite has mark = cc
  by_item (Event who name offset) has mark = cc
  by_item (Repeat who n offset) has mark = cc
  by_item (Key key offset) has mark = cc

  along : (items : List Item) → are_same_marks (map (is_looped old s) items) (map (is_looped new s) items) ≡ true → list_any (is_sync_with old x) items ≡ true → leads_to old s x ≡ leads_to new s x
  along [] marks any = cc
  along (i ∷ is) marks any =
      let parts = and_parts (beq (is_looped old s i) (is_looped new s i)) (are_same_marks (map (is_looped old s) is) (map (is_looped new s) is)) marks in
      by_case (or_cases (is_sync_with old x i) (list_any (is_sync_with old x) is) any) (same_marks (is_looped old s i) (is_looped new s i) parts.0) (along is parts.1)
    where
      by_case : (is_sync_with old x i ≡ true) ⊎ (list_any (is_sync_with old x) is ≡ true) → is_looped old s i ≡ is_looped new s i → (list_any (is_sync_with old x) is ≡ true → leads_to old s x ≡ leads_to new s x) → leads_to old s x ≡ leads_to new s x
      by_case (inl here) mark rest = by_item i here mark
      by_case (inr later) mark rest = rest later

  -- without a begin list the one item that stands for it is no reference
  by_begin : (begins : Option (List Item)) (ends : List Item) (t u : Bool)
      → are_same_marks (map (is_looped old s) (items_or (cond t (Indefinite ∷ []) (Offset (pos 0) ∷ [])) begins ++ ends)) (map (is_looped new s) (items_or (cond u (Indefinite ∷ []) (Offset (pos 0) ∷ [])) begins ++ ends)) ≡ true
      → list_any (is_sync_with old x) (items_or (cond t (Indefinite ∷ []) (Offset (pos 0) ∷ [])) begins ++ ends) ≡ true → leads_to old s x ≡ leads_to new s x
  by_begin (Some items) ends t u marks any = along (items ++ ends) marks any
  by_begin None ends true true marks any = along ends marks any
  by_begin None ends true false marks any = along ends marks any
  by_begin None ends false true marks any = along ends marks any
  by_begin None ends false false marks any = along ends marks any

-- ---- references

module _ (edited : ℕ) (old new : List Node) (keeps : keeps_references edited old new ≡ true) where
  parts : (keeps_ids old new ≡ true) × (keeps_loops edited old new ≡ true)
  parts = and_parts (keeps_ids old new) (keeps_loops edited old new) keeps

  loops_kept : (e : Node) (x : ℕ) → node_at (elements old) e.serial ≡ Some e → node_at (elements new) e.serial ≡ Some e → e.serial == edited ≡ false → list_any (is_sync_with old x) (all_items old e) ≡ true → leads_to old e.serial x ≡ leads_to new e.serial x
  loops_kept e x in_old in_new other any =
      let one = (found_of (λ (n : Node). keeps_loops_of edited old new n.serial) (λ (n : Node). n.serial == e.serial) (elements old) e parts.1 in_old).0 in
      let marks : are_same_marks (loops old (Some e)) (loops new (Some e)) ≡ true =
      marks_of (e.serial == edited) (node_at (elements old) e.serial) (node_at (elements new) e.serial) other in_old in_new one in
      by_begin old new (λ id. by_named old new id parts.0) e.serial x e.attrs.begin (end_list e) (is_in_excl old e.serial) (is_in_excl new e.serial) marks any
    where
      marks_of : (t : Bool) (a b : Option Node) → t ≡ false → a ≡ Some e → b ≡ Some e → (t || not (is_some b) || are_same_marks (loops old a) (loops new b)) ≡ true → are_same_marks (loops old (Some e)) (loops new (Some e)) ≡ true
      marks_of true a b t p q h = cc
      marks_of false None b t p q h = cc
      marks_of false (Some n) None t p q h = cc
      marks_of false (Some n) (Some m) t p q h =
          let n_is : n ≡ e = cc in
          let m_is : m ≡ e = cc in
          ap (λ (k : Node). are_same_marks (loops old (Some k)) (loops new (Some e))) (sym n_is)
          ∙ (ap (λ (k : Node). are_same_marks (loops old (Some n)) (loops new (Some k))) (sym m_is) ∙ h)

  pub references_kept : KeepsReferences edited old new
  references_kept = record { ids = λ id. by_named old new id parts.0; loops = loops_kept }
