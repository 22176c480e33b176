-- The layers of sets, taken in one after another.
use Rattle.std.proofs.Common.{◌≡◌, refl, sym, ◌∙◌, ap, subst, zero, suc, ℕ, ◌+◌, ◌<◌, ◌≤◌, List, [], ◌∷◌, ◌++◌, length, get_or, take, map, append-nil, cond, Bool, true, false, Option, Some, None, arith}
use Rattle.std.specs.Prelude.{◌==◌, if◌then◌else◌, IsSome, filter, fold, nat_eq, option_to_list, slice_get, unwrap_or}
use Rattle.std.specs.List.{AllByRecursion, cons_option}
use Rattle.std.specs.declared.vec.Vec.{Vec}
use Rattle.std.proofs.lemmas.Map.Made.{lookup-map_values}
use Rattle.std.proofs.lemmas.List.{length-map, map-append, take_more}
use Rattle.std.proofs.lemmas.List.Elements.{filter-append, filter_map-append}
use Rattle.std.proofs.lemmas.List.Sums.{fold-append}
use Rattle.smil_model.specs.declared.document.Node.{Node}
use Rattle.smil_model.specs.declared.view.Layer.{Layer}
use Rattle.smil_model.specs.declared.view.View.{View}
use Rattle.smil_model.specs.document.Document.{elements, node_at}
use Rattle.smil_model.specs.document.Valid.{IsDistinct}
use Rattle.smil_model.specs.shown.Sandwich.{is_above, layer_in, layers, layers_on, names_on, put_layer, put_name, stack_of}
use Rattle.smil_model.specs.ListTables.{list_in, list_of, rows}
use Rattle.smil_sandwich.specs.Stacks.{AreApart, all_applied, applied}
use Rattle.smil_sandwich.proofs.LayersSorted.{all_put}
use Rattle.smil_rounds.proofs.RowEvaluated.{elements_few}
use Rattle.smil_shown.proofs.LayersApart.{Different, elements_different, front_different, layers_apart, layers_known}
use Rattle.smil_shown.specs.Sets.{AreOfElements, AreSetsAmong, AreSetsOf, AreSettersOf, LayerTable, and_layer}
use Rattle.smil_laws.proofs.Lists.{each_kept, filter_shorter}

abbrev Row : Type 0
Row = ℕ × Layer

applied_push : (before xs : List Row) (l : Row) → all_applied before (xs ++ l ∷ []) ≡ applied l.0 (Some l.1) (all_applied before xs)
applied_push before [] l = refl
applied_push before (x ∷ xs) l = applied_push (applied x.0 (Some x.1) before) xs l

names_push : (all : List Row) (l : Row) (t : ℕ) → names_on (all ++ l ∷ []) t ≡ (if (l.1).target == t then put_name (names_on all t) (l.1).attr else names_on all t)
names_push all l t = ap (λ ls. fold put_name [] (map attr ls)) (filter-append on all (l ∷ [])) ∙ by (on l) refl
  where
    attr : Row → List ℕ
    attr = λ (r : Row). (r.1).attr

    on : Row → Bool
    on = λ (r : Row). (r.1).target == t

    by : (b : Bool) → on l ≡ b → fold put_name [] (map attr (filter on all ++ cond b (l ∷ []) [])) ≡ (if b then put_name (names_on all t) (l.1).attr else names_on all t)
    by true e = ap (fold put_name []) (map-append attr (filter on all) (l ∷ [])) ∙ fold-append put_name [] (map attr (filter on all)) ((l.1).attr ∷ [])
    by false e = ap (λ ls. fold put_name [] (map attr ls)) (append-nil (filter on all))

-- what a table has of a target, by its rows
pub rows_are : {Z : Type 0} (table : List (ℕ × Vec (List ℕ) Z)) (t : ℕ) → list_in (rows table) t ≡ list_of table t
rows_are {Z} table t = ap (λ (o : Option (List (List ℕ))). unwrap_or o []) (lookup-map_values (λ (v : Vec (List ℕ) Z). v.items) (nat_eq t) table)

-- one more name is noted
pub rows_noted : {Z : Type 0} (before after : List (ℕ × Vec (List ℕ) Z)) (target : ℕ) (name : List ℕ)
    → ((t : ℕ) → list_of after t ≡ (if target == t then put_name (list_of before t) name else list_of before t))
    → (t : ℕ) → list_in (rows after) t ≡ (if target == t then put_name (list_in (rows before) t) name else list_in (rows before) t)
rows_noted before after target name noted t =
    rows_are after t ∙ noted t ∙ ap (λ (ns : List (List ℕ)). if target == t then put_name ns name else ns) (sym (rows_are before t))

-- one more layer is taken in
pub taken : (sets new : LayerTable) (before : List Row) (l : Row) → AreSetsOf sets before → AreApart (before ++ l ∷ []) → new.layers ≡ applied l.0 (Some l.1) sets.layers
    → ((t : ℕ) → list_in new.names t ≡ (if (l.1).target == t then put_name (list_in sets.names t) (l.1).attr else list_in sets.names t))
    → AreSetsOf new (before ++ l ∷ [])
taken sets new before l had apart kept names = record {
  apart = apart;
  kept = kept ∙ ap (applied l.0 (Some l.1)) had.kept ∙ sym (applied_push [] before l);
  names = λ t. names t ∙ ap (λ (ns : List (List ℕ)). if (l.1).target == t then put_name ns (l.1).attr else ns) (had.names t) ∙ sym (names_push before l t);
}

-- ---- one view after another

option_row : (o : Option Row) → cons_option o [] ≡ option_to_list o
option_row None = refl
option_row (Some r) = refl

pub layers_more : (nodes : List Node) (vs : List View) (i : ℕ) (d : View) → i < length vs → layers nodes (take (i + 1) vs) ≡ and_layer (layers nodes (take i vs)) (layer_in nodes (get_or vs i d))
layers_more nodes vs i d l =
    ap (layers nodes) (take_more vs i d l)
    ∙ filter_map-append (layer_in nodes) (take i vs) (get_or vs i d ∷ [])
    ∙ ap (λ ls. layers nodes (take i vs) ++ ls) (option_row (layer_in nodes (get_or vs i d)))

-- a set that is taken in is another than those before, and stands elsewhere
pub next_apart : (nodes : List Node) (vs : List View) (i : ℕ) (d : View) → IsDistinct nodes → AreOfElements nodes vs → i < length vs
    → AreApart (and_layer (layers nodes (take i vs)) (layer_in nodes (get_or vs i d)))
next_apart nodes vs i d distinct of l =
    let different : Different (map (λ (v : View). v.serial) vs) = subst Different (sym of) (elements_different nodes distinct) in
    subst AreApart (layers_more nodes vs i d l) (layers_apart nodes (take (i + 1) vs) (front_different (i + 1) vs different))

-- ---- the members of a stack

fold_known : (P : Row → Type 0) (ls xs : List Row) → AllByRecursion P ls → AllByRecursion P xs → AllByRecursion P (fold put_layer ls xs)
fold_known P ls [] h g = h
fold_known P ls (x ∷ xs) h g = fold_known P (put_layer ls x) xs (all_put P x ls g.0 h) g.1

at_known : (P : ℕ → Type 0) (ls : List Row) (k s : ℕ) → AllByRecursion (λ (l : Row). P l.0) ls → slice_get (map (λ (l : Row). l.0) ls) k ≡ Some s → P s
at_known P [] k s h q = cc
at_known P (l ∷ ls) zero s h q = let is : l.0 ≡ s = cc in subst P is h.0
at_known P (l ∷ ls) (suc k) s h q = at_known P ls k s h.1 q

-- each of a stack is a node
pub stack_known : (nodes : List Node) (all : List Row) (target : ℕ) (name : List ℕ) (k s : ℕ) → AreSettersOf nodes all → slice_get (stack_of all target name) k ≡ Some s → IsSome (node_at nodes s)
stack_known nodes all target name k s known q =
    at_known (λ x. IsSome (node_at nodes x)) (fold put_layer [] (layers_on all target name)) k s
    (fold_known (λ (l : Row). IsSome (node_at nodes l.0)) [] (layers_on all target name) tt (each_kept (λ (l : Row). IsSome (node_at nodes l.0)) _ all known)) q

-- ---- how long a stack is

put_length : (l : Row) (ls : List Row) → length (put_layer ls l) ≡ suc (length ls)
put_length l [] = refl
put_length l (o ∷ ls) = by (is_above l.1 o.1) (put_length l ls)
  where
    by : (t : Bool) → length (put_layer ls l) ≡ suc (length ls) → length (if t then l ∷ o ∷ ls else o ∷ put_layer ls l) ≡ suc (suc (length ls))
    by true rest = refl
    by false rest = ap suc rest

fold_length : (ls xs : List Row) → length (fold put_layer ls xs) ≡ length ls + length xs
fold_length ls [] = omega arith
fold_length ls (x ∷ xs) = let rest = fold_length (put_layer ls x) xs in let one = put_length x ls in omega (arith, rest, one)

pub stack_few : (all : List Row) (target : ℕ) (name : List ℕ) → length (stack_of all target name) ≤ length all
stack_few all target name =
    let map_same = length-map (fold put_layer [] (layers_on all target name)) (λ (l : Row). l.0) in
    let folded = fold_length [] (layers_on all target name) in
    let few : length (layers_on all target name) ≤ length all = filter_shorter _ all in
    omega (arith, map_same, folded, few)

pub layers_few : (nodes : List Node) (vs : List View) → length (layers nodes vs) ≤ length vs
layers_few nodes [] = omega arith
layers_few nodes (v ∷ vs) = by (layer_in nodes v) (layers_few nodes vs)
  where
    by : (o : Option Row) → length (layers nodes vs) ≤ length vs → length (cons_option o (layers nodes vs)) ≤ suc (length vs)
    by None rest = omega (arith, rest)
    by (Some r) rest = omega (arith, rest)

-- the layers of the views of all elements
pub among : (nodes : List Node) (sets : LayerTable) (vs : List View) → AreOfElements nodes vs → AreSetsOf sets (layers nodes vs) → AreSetsAmong nodes sets (layers nodes vs)
among nodes sets vs of are = record {
  are = are;
  known = layers_known nodes vs;
  few =
      let one = layers_few nodes vs in
      let two : length vs ≡ length (elements nodes) = sym (length-map vs (λ (v : View). v.serial)) ∙ ap length of ∙ length-map (elements nodes) (λ (n : Node). n.serial) in
      let three : length (elements nodes) ≤ length nodes = elements_few nodes in
      omega (arith, one, two, three);
}
