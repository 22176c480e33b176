-- In documents whose nodes are alike each id names the same element.
use Rattle.std.proofs.Common.{◌≡◌, refl, ◌∙◌, ap, subst, ℕ, List, [], ◌∷◌, ◌++◌, Option, Some, None, Bool, true, false}
use Rattle.std.specs.Prelude.{cond, ◌&&◌, ◌==◌}
use Rattle.std.specs.Bool.{beq}
use Rattle.std.specs.Cmp.{booleans_Decides}
use Rattle.std.specs.Cmp.Lexicographic.{pointwise}
use Rattle.std.specs.List.{find, list_all}
use Rattle.std.proofs.lemmas.Bool.{and_parts, eq-eqb, eqb-true}
use Rattle.std.proofs.lemmas.Slice.Eq.{bytes_eq-Decides}
use Rattle.smil_model.specs.declared.document.Node.{Node}
use Rattle.smil_model.specs.document.Document.{has_id, is_element, serial_of}
use Rattle.smil_revision.specs.References.{is_alike, is_same_id, is_same_serial, keeps_id, keeps_ids, serial_named}

same_ids : (one other : Option (List ℕ)) → is_same_id one other ≡ true → one ≡ other
same_ids None None e = refl
same_ids (Some x) (Some y) e = ap Some ((bytes_eq-Decides x y).0 e)
same_ids None (Some y) e = cc
same_ids (Some x) None e = cc

record AreAlike (n m : Node) : Type 0 where
  serial : n.serial ≡ m.serial
  element : is_element n ≡ is_element m
  id : n.attrs.id ≡ m.attrs.id

alike : (n m : Node) → is_alike n m ≡ true → AreAlike n m
alike n m e =
    let same_id = and_parts ((n.serial == m.serial) && beq (is_element n) (is_element m)) (is_same_id n.attrs.id m.attrs.id) e in
    let both = and_parts (n.serial == m.serial) (beq (is_element n) (is_element m)) same_id.0 in
    record {
      serial = eqb-true n.serial m.serial both.0;
      element = (booleans_Decides (is_element n) (is_element m)).0 both.1;
      id = same_ids n.attrs.id m.attrs.id same_id.1;
    }

-- an id names the same element
same_named : (ns ms : List Node) → pointwise is_alike ns ms ≡ true → (id : List ℕ) → serial_named ns id ≡ serial_named ms id
same_named [] [] e id = refl
same_named [] (m ∷ ms) e id = cc
same_named (n ∷ ns) [] e id = cc
same_named (n ∷ ns) (m ∷ ms) e id =
    let parts = and_parts (is_alike n m) (pointwise is_alike ns ms) e in
    let are = alike n m parts.0 in
    by_test (names n) (names m) (ap (λ (t : Bool). t && has_id id n.attrs.id) are.element ∙ ap (λ (o : Option (List ℕ)). is_element m && has_id id o) are.id) (ap Some are.serial) (same_named ns ms parts.1 id)
  where
    names : Node → Bool
    names x = is_element x && has_id id x.attrs.id

    by_test : (t u : Bool) → t ≡ u → ◌≡◌ {A = Option ℕ} (Some n.serial) (Some m.serial) → serial_of (find (λ (x : Node). is_element x && has_id id x.attrs.id) ns) ≡ serial_of (find (λ (x : Node). is_element x && has_id id x.attrs.id) ms)
        → serial_of (cond t (Some n) (find (λ (x : Node). is_element x && has_id id x.attrs.id) ns)) ≡ serial_of (cond u (Some m) (find (λ (x : Node). is_element x && has_id id x.attrs.id) ms))
    by_test true true same first rest = first
    by_test false false same first rest = rest
    by_test true false same first rest = cc
    by_test false true same first rest = cc

itself : (o : Option ℕ) → is_same_serial o o ≡ true
itself None = refl
itself (Some s) = eq-eqb s s refl

-- where each id names the same element, ids are kept
pub keeps_all : (ns ms : List Node) → ((id : List ℕ) → serial_named ns id ≡ serial_named ms id) → keeps_ids ns ms ≡ true
keeps_all ns ms same = each (ns ++ ms)
  where
    keeps : (id : Option (List ℕ)) → keeps_id ns ms id ≡ true
    keeps None = refl
    keeps (Some id) = subst (λ (o : Option ℕ). is_same_serial (serial_named ns id) o ≡ true) (same id) (itself (serial_named ns id))

    each : (xs : List Node) → list_all (λ (n : Node). keeps_id ns ms n.attrs.id) xs ≡ true
    each [] = refl
    each (x ∷ xs) = ap (λ (t : Bool). t && list_all (λ (n : Node). keeps_id ns ms n.attrs.id) xs) (keeps x.attrs.id) ∙ each xs

pub keeps_each : (ns ms : List Node) → pointwise is_alike ns ms ≡ true → keeps_ids ns ms ≡ true
keeps_each ns ms e = keeps_all ns ms (same_named ns ms e)
