-- The elements that items name are elements of the document.
use Rattle.std.proofs.Common.{◌≡◌, refl, ap, subst, ◌∙◌, ℕ, List, [], ◌∷◌, Option, Some, None, Bool, true, false, arith}
use Rattle.std.specs.Prelude.{cond, get_or, All, find, ◌&&◌, ◌==◌, is_some}
use Rattle.std.specs.Option.{option_map}
use Rattle.std.proofs.lemmas.Bool.{and_parts}
use Rattle.std.proofs.lemmas.List.Elements.{All-cons, All-filter, All-head, All-tail, filter_passes}
use Rattle.smil_model.specs.declared.document.Node.{Node}
use Rattle.smil_model.specs.declared.document.Edge.{Edge}
use Rattle.smil_model.specs.declared.document.Edge.TheVariants.{End}
use Rattle.smil_model.specs.declared.document.Item.{Item}
use Rattle.smil_model.specs.declared.document.Item.TheVariants.{Offset, Sync, Event, Repeat}
use Rattle.smil_model.specs.document.Document.{elements, element_named, has_id, is_element, is_in_seq, is_time_child, just_before, node_at, previous_child, previous_in_seq, target, time_children, time_parent, has_serial}
use Rattle.smil_instances.specs.declared.source.Source.{Source}
use Rattle.smil_instances.specs.declared.source.Source.TheVariants as source
use Rattle.smil_instances.specs.Sources.{base_of, eventbase, source_of, syncbase_or}

-- an element of the document has this serial
abbrev IsThere : List Node → ℕ → Type 0
IsThere nodes x = is_some (node_at (elements nodes) x) ≡ true

-- each of these that is an element is found among the elements by its serial
abbrev AllThere : List Node → List Node → Type 0
AllThere nodes some = All (λ (n : Node). is_element n ≡ true → IsThere nodes n.serial) some

more : (n : Node) (ns : List Node) (x : ℕ) → IsThere ns x → IsThere (n ∷ ns) x
more n ns x there = by_test (is_element n)
  where
    found : (t : Bool) → is_some (cond t (Some n) (node_at (elements ns) x)) ≡ true
    found true = refl
    found false = there

    by_test : (t : Bool) → is_some (node_at (cond t (n ∷ elements ns) (elements ns)) x) ≡ true
    by_test true = found (n.serial == x)
    by_test false = there

here : (n : Node) (ns : List Node) → is_element n ≡ true → IsThere (n ∷ ns) n.serial
here n ns q =
    ap (λ t. is_some (node_at (cond t (n ∷ elements ns) (elements ns)) n.serial)) q
    ∙ ap (λ t. is_some (cond t (Some n) (node_at (elements ns) n.serial))) own
  where
    own : n.serial == n.serial ≡ true
    own = grind arith

all_there : (nodes : List Node) → AllThere nodes nodes
all_there [] = λ j d below. absurd (omega (arith, below))
all_there (n ∷ ns) =
    All-cons (λ (m : Node). is_element m ≡ true → IsThere (n ∷ ns) m.serial) n ns (here n ns)
    (λ j d below q. more n ns (get_or ns j d).serial (all_there ns j d below q))

named_among : (nodes some : List Node) (test : Node → Bool) (b : Node) → AllThere nodes some → find (λ (n : Node). is_element n && test n) some ≡ Some b → IsThere nodes b.serial
named_among nodes [] test b all q = cc
named_among nodes (n ∷ ns) test b all q =
    by_test (is_element n && test n) refl (named_among nodes ns test b (All-tail (λ (m : Node). is_element m ≡ true → IsThere nodes m.serial) n ns all)) q
  where
    by_test : (t : Bool) → (is_element n && test n) ≡ t → (find (λ (m : Node). is_element m && test m) ns ≡ Some b → IsThere nodes b.serial) → cond t (Some n) (find (λ (m : Node). is_element m && test m) ns) ≡ Some b → IsThere nodes b.serial
    by_test true r rest is =
        let one : n ≡ b = cc in
        subst (λ (m : Node). IsThere nodes m.serial) one (All-head (λ (m : Node). is_element m ≡ true → IsThere nodes m.serial) n ns all (and_parts (is_element n) (test n) r).0)
    by_test false r rest is = rest is

before_among : (nodes some : List Node) (s : ℕ) (before : Option Node) (b : Node) → All (λ (n : Node). IsThere nodes n.serial) some → (before ≡ Some b → IsThere nodes b.serial) → just_before s before some ≡ Some b → IsThere nodes b.serial
before_among nodes [] s before b all first q = cc
before_among nodes (n ∷ ns) s before b all first q =
    by_test (n.serial == s) (before_among nodes ns s (Some n) b (All-tail (λ (m : Node). IsThere nodes m.serial) n ns all) at_this) q
  where
    at_this : Some n ≡ Some b → IsThere nodes b.serial
    at_this is = let one : n ≡ b = cc in subst (λ (m : Node). IsThere nodes m.serial) one (All-head (λ (m : Node). IsThere nodes m.serial) n ns all)

    by_test : (t : Bool) → (just_before s (Some n) ns ≡ Some b → IsThere nodes b.serial) → cond t before (just_before s (Some n) ns) ≡ Some b → IsThere nodes b.serial
    by_test true rest is = first is
    by_test false rest is = rest is

module _ (nodes : List Node) where
  children_there : (p : ℕ) → All (λ (n : Node). IsThere nodes n.serial) (time_children nodes p)
  children_there p =
      λ j d below.
      All-filter (is_time_child nodes p) (λ (n : Node). is_element n ≡ true → IsThere nodes n.serial) nodes (all_there nodes) j d below
      (and_parts (is_element (get_or (time_children nodes p) j d)) (has_serial p (time_parent nodes (get_or (time_children nodes p) j d).serial)) (filter_passes (is_time_child nodes p) nodes j d below)).0

  previous_there : (e : ℕ) (b : Node) → previous_in_seq nodes e ≡ Some b → IsThere nodes b.serial
  previous_there e b q = by_test (is_in_seq nodes e) q
    where
      by_parent : (o : Option Node) → previous_child nodes o e ≡ Some b → IsThere nodes b.serial
      by_parent None is = cc
      by_parent (Some p) is = before_among nodes (time_children nodes p.serial) e None b (children_there p.serial) (λ none. cc) is

      by_test : (t : Bool) → cond t (previous_child nodes (time_parent nodes e) e) None ≡ Some b → IsThere nodes b.serial
      by_test true is = by_parent (time_parent nodes e) is
      by_test false is = cc

  named_there : (id : List ℕ) (b : Node) → element_named nodes id ≡ Some b → IsThere nodes b.serial
  named_there id b q = named_among nodes nodes (λ (n : Node). has_id id n.attrs.id) b (all_there nodes) q

  module _ (e x : ℕ) where
    by_node : (without : Source) (edge : Edge) (o : Option Node) → ((b : Node) → o ≡ Some b → IsThere nodes b.serial) → base_of without ≡ None → base_of (syncbase_or without edge o) ≡ Some x → IsThere nodes x
    by_node without edge None there none q = cc
    by_node without edge (Some b) there none q = let one : b.serial ≡ x = cc in subst (IsThere nodes) one (there b refl)

    by_target : (who : Option (List ℕ)) → IsThere nodes e → base_of (eventbase (target nodes e who)) ≡ Some x → IsThere nodes x
    by_target None there q = let one : e ≡ x = cc in subst (IsThere nodes) one there
    by_target (Some id) there q = by_found (element_named nodes id) (named_there id) q
      where
        by_found : (o : Option Node) → ((b : Node) → o ≡ Some b → IsThere nodes b.serial) → base_of (eventbase (option_map (λ (n : Node). n.serial) o)) ≡ Some x → IsThere nodes x
        by_found None found q = cc
        by_found (Some b) found q = let one : b.serial ≡ x = cc in subst (IsThere nodes) one (found b refl)

    base_there : (item : Item) → IsThere nodes e → base_of (source_of nodes e item) ≡ Some x → IsThere nodes x
    base_there (Offset offset) there q = by_node source.Start End (previous_in_seq nodes e) (previous_there e) refl q
    base_there (Sync who edge offset) there q = by_node source.Nothing edge (element_named nodes who) (named_there who) refl q
    base_there (Event who name offset) there q = by_target who there q
    base_there (Repeat who n offset) there q = by_target who there q
    base_there _ there q = cc

  pub is_element_of : (e : Node) (item : Item) (x : ℕ) → node_at (elements nodes) e.serial ≡ Some e → base_of (source_of nodes e.serial item) ≡ Some x → is_some (node_at (elements nodes) x) ≡ true
  is_element_of e item x here' q = base_there e.serial x item (ap is_some here') q
