-- Tables of lists, with one list changed.
use Rattle.std.proofs.Common.{length, ◌≡◌, refl, sym, ◌∙◌, ap, ℕ, ◌≤◌, List, [], ◌∷◌, ◌++◌, Option, Some, None, Result, Ok, Err, Bool, true, false, cond, insert, filter, append-nil}
use Rattle.std.specs.Prelude.{◌==◌, nat_eq, OnErr, ◌||◌, option_map, unwrap_or, slice_range}
use Rattle.std.specs.List.{list_any}
use Rattle.std.specs.Map.{lookup}
use Rattle.std.specs.declared.vec.Vec.{Vec}
use Rattle.std.proofs.lemmas.Bool.{eqb-true}
use Rattle.smil_model.specs.declared.document.Node.{Node}
use Rattle.smil_model.specs.document.Document.{is_time_child, serials}
use Rattle.smil_model.specs.reach.Reach.{is_option}
use Rattle.smil_model.specs.ListTables.{list_in, list_of, rows}
use Rattle.smil_laws.proofs.LineageParents.{same_eqb}
use Rattle.smil_tree.specs.Places.{cut}
use Rattle.smil_tree.specs.Kin.{AreListsOf, Families, IsKinOf, Separates}
use Rattle.smil_tree.proofs.KinLists.{before, passing-append, passing-between, passing-cut, passing-rest}

abbrev pub is_child : ℕ → Node → Bool
is_child s n = n.parent == s

pub in_err : {A E : Type 0} {P : Type 0} (r : Result A E) → P → OnErr r P
in_err (Ok x) holds = tt
in_err (Err e) holds = holds

module _ {Z : Type 0} where
  lookup-rows : (table : List (ℕ × Vec ℕ Z)) (s : ℕ) → lookup (nat_eq s) (rows table) ≡ option_map (λ (v : Vec ℕ Z). v.items) (lookup (nat_eq s) table)
  lookup-rows [] s = refl
  lookup-rows (e ∷ es) s = step (nat_eq s e.0) (lookup-rows es s)
    where
      step : (t : Bool) → lookup (nat_eq s) (rows es) ≡ option_map (λ (v : Vec ℕ Z). v.items) (lookup (nat_eq s) es) → cond t (Some e.1.items) (lookup (nat_eq s) (rows es)) ≡ option_map (λ (v : Vec ℕ Z). v.items) (cond t (Some e.1) (lookup (nat_eq s) es))
      step true rest = refl
      step false rest = rest

  pub list-rows : (table : List (ℕ × Vec ℕ Z)) (s : ℕ) → list_in (rows table) s ≡ list_of table s
  list-rows table s = ap (λ o. unwrap_or o []) (lookup-rows table s)

  -- a node put in between
  pub joined : (old new : List (ℕ × Vec ℕ Z)) (owner index : ℕ) (fs : List Node) (n : Node) (bs : List Node) (t : ℕ → Node → Bool)
      → AreListsOf t old (fs ++ bs)
      → ((s : ℕ) → t s n ≡ owner == s)
      → index ≡ length (filter (t owner) fs)
      → ((s : ℕ) → list_of new s ≡ cond (owner == s) (insert (list_of old s) index n.serial) (list_of old s))
      → AreListsOf t new (fs ++ n ∷ bs)
  joined old new owner index fs n bs t lists own is_index are s =
      are s ∙ step (owner == s) refl
      ∙ sym (passing-between (t s) fs n bs ∙ ap (λ b. cond b (insert (serials (filter (t s) (fs ++ bs))) (length (filter (t s) fs)) n.serial) (serials (filter (t s) (fs ++ bs)))) (own s))
    where
      step : (b : Bool) → owner == s ≡ b → cond b (insert (list_of old s) index n.serial) (list_of old s) ≡ cond b (insert (serials (filter (t s) (fs ++ bs))) (length (filter (t s) fs)) n.serial) (serials (filter (t s) (fs ++ bs)))
      step true e =
          ap (λ xs. insert xs index n.serial) (lists s)
          ∙ ap (λ i. insert (serials (filter (t s) (fs ++ bs))) i n.serial) (is_index ∙ ap (λ o. length (filter (t o) fs)) (eqb-true owner s e))
      step false e = lists s

  pub joined_none : (table : List (ℕ × Vec ℕ Z)) (fs : List Node) (n : Node) (bs : List Node) (t : ℕ → Node → Bool) → AreListsOf t table (fs ++ bs) → ((s : ℕ) → t s n ≡ false) → AreListsOf t table (fs ++ n ∷ bs)
  joined_none table fs n bs t lists own s =
      lists s
      ∙ sym (passing-between (t s) fs n bs ∙ ap (λ b. cond b (insert (serials (filter (t s) (fs ++ bs))) (length (filter (t s) fs)) n.serial) (serials (filter (t s) (fs ++ bs)))) (own s))

  -- a node put behind the others
  pub appended : (old new : List (ℕ × Vec ℕ Z)) (owner : Option ℕ) (past : List Node) (n : Node) (t : ℕ → Node → Bool)
      → AreListsOf t old past
      → ((s : ℕ) → t s n ≡ is_option s owner)
      → ((s : ℕ) → list_of new s ≡ cond (is_option s owner) (list_of old s ++ n.serial ∷ []) (list_of old s))
      → AreListsOf t new (past ++ n ∷ [])
  appended old new owner past n t lists own are s =
      are s ∙ ap (λ xs. cond (is_option s owner) (xs ++ n.serial ∷ []) xs) (lists s)
      ∙ by (is_option s owner)
      ∙ ap (λ b. serials (filter (t s) past) ++ serials (cond b (n ∷ []) [])) (sym (own s))
      ∙ sym (passing-append (t s) past (n ∷ []))
    where
      by : (b : Bool) → cond b (serials (filter (t s) past) ++ n.serial ∷ []) (serials (filter (t s) past)) ≡ serials (filter (t s) past) ++ serials (cond b (n ∷ []) [])
      by true = refl
      by false = sym (append-nil (serials (filter (t s) past)))

  -- a part taken out of the list of the owner
  abbrev pub IsTakenOut : (ℕ → Node → Bool) → Option ℕ → ℕ → ℕ → List Node → List (ℕ × Vec ℕ Z) → List (ℕ × Vec ℕ Z) → Type 0
  IsTakenOut t owner start past nodes old new =
      (s : ℕ) → list_of new s ≡ cond (is_option s owner) (serials (filter (t s) (cut start past nodes))) (list_of old s)

  pub taken_out : (old new : List (ℕ × Vec ℕ Z)) (owner first last start past : ℕ) (nodes : List Node) (t : ℕ → Node → Bool)
      → AreListsOf t old nodes
      → first ≡ before (t owner) start nodes
      → last ≡ before (t owner) past nodes
      → ((s : ℕ) → list_of new s ≡ cond (owner == s) (cut first last (list_of old s)) (list_of old s))
      → IsTakenOut t (Some owner) start past nodes old new
  taken_out old new owner first last start past nodes t lists is_first is_last are s =
      are s ∙ step (owner == s) refl
      ∙ ap (λ b. cond b (serials (filter (t s) (cut start past nodes))) (list_of old s)) (same_eqb owner s)
    where
      step : (b : Bool) → owner == s ≡ b → cond b (cut first last (list_of old s)) (list_of old s) ≡ cond b (serials (filter (t s) (cut start past nodes))) (list_of old s)
      step true e =
          ap (cut first last) (lists s)
          ∙ ap (λ i. cut i last (serials (filter (t s) nodes))) (is_first ∙ ap (λ o. before (t o) start nodes) (eqb-true owner s e))
          ∙ ap (λ i. cut (before (t s) start nodes) i (serials (filter (t s) nodes))) (is_last ∙ ap (λ o. before (t o) past nodes) (eqb-true owner s e))
          ∙ sym (passing-cut (t s) start past nodes)
      step false e = refl

  -- and the lists of its own nodes dropped
  pub separated : (old mid new : List (ℕ × Vec ℕ Z)) (owner : Option ℕ) (start past : ℕ) (nodes : List Node) (t : ℕ → Node → Bool)
      → start ≤ past
      → AreListsOf t old nodes
      → IsTakenOut t owner start past nodes old mid
      → Separates t owner start past nodes
      → ((s : ℕ) → list_of new s ≡ cond (list_any (λ (n : Node). n.serial == s) (slice_range nodes start past)) [] (list_of mid s))
      → AreListsOf t new (cut start past nodes)
  separated old mid new owner start past nodes t le lists out apart are s =
      are s ∙ step (list_any (λ (n : Node). n.serial == s) (slice_range nodes start past)) refl
    where
      other : (u : Bool) → is_option s owner ≡ u → list_any (λ (n : Node). n.serial == s) (slice_range nodes start past) ≡ false → cond u (serials (filter (t s) (cut start past nodes))) (list_of old s) ≡ serials (filter (t s) (cut start past nodes))
      other true q e = refl
      other false q e = lists s ∙ ap serials (sym (passing-rest (t s) start past nodes le (apart.inside s e q)))

      step : (b : Bool) → list_any (λ (n : Node). n.serial == s) (slice_range nodes start past) ≡ b → cond b [] (list_of mid s) ≡ serials (filter (t s) (cut start past nodes))
      step true e = ap serials (sym (apart.outside s e))
      step false e = out s ∙ other (is_option s owner) refl e

  -- one more list dropped, of a part of which these nodes are left
  pub dropped_more : (mid new : List (ℕ × Vec ℕ Z)) (left rest : List Node) (n : Node) (s : ℕ)
      → left ≡ n ∷ rest
      → ((k : ℕ) → lookup (nat_eq k) new ≡ cond (nat_eq n.serial k) None (lookup (nat_eq k) mid))
      → cond (list_any (λ (m : Node). m.serial == s) rest) [] (list_of new s) ≡ cond (list_any (λ (m : Node). m.serial == s) left) [] (list_of mid s)
  dropped_more mid new left rest n s at removed =
      ap (cond (list_any (λ (m : Node). m.serial == s) rest) []) (ap (λ o. unwrap_or (option_map (λ (v : Vec ℕ Z). v.items) o) []) (removed s) ∙ by_test (n.serial == s))
      ∙ both (n.serial == s) (list_any (λ (m : Node). m.serial == s) rest)
      ∙ ap (λ ms. cond (list_any (λ (m : Node). m.serial == s) ms) [] (list_of mid s)) (sym at)
    where
      by_test : (t : Bool) → unwrap_or (option_map (λ (v : Vec ℕ Z). v.items) (cond t None (lookup (nat_eq s) mid))) [] ≡ cond t [] (list_of mid s)
      by_test true = refl
      by_test false = refl

      both : (t u : Bool) → cond u [] (cond t [] (list_of mid s)) ≡ cond (t || u) [] (list_of mid s)
      both true true = refl
      both true false = refl
      both false true = refl
      both false false = refl

  -- ---- the whole kin

  pub same_lists : (old new : List (ℕ × Vec ℕ Z)) (nodes : List Node) (t : ℕ → Node → Bool) → AreListsOf t old nodes → ((s : ℕ) → list_of new s ≡ list_of old s) → AreListsOf t new nodes
  same_lists old new nodes t lists same s = same s ∙ lists s

  abbrev pub families : List (ℕ × Vec ℕ Z) → List (ℕ × Vec ℕ Z) → Families
  families children time_children = record { children = rows children; time_children = rows time_children }

  pub kin_of : (first second : List (ℕ × Vec ℕ Z)) (nodes : List Node) → AreListsOf is_child first nodes → AreListsOf (is_time_child nodes) second nodes → IsKinOf (families first second) nodes
  kin_of first second nodes a b = record {
    children = λ s. list-rows first s ∙ a s;
    time_children = λ s. list-rows second s ∙ b s;
  }

  pub lists_of : (first second : List (ℕ × Vec ℕ Z)) (kin : Families) (nodes : List Node) → families first second ≡ kin → IsKinOf kin nodes → AreListsOf is_child first nodes × AreListsOf (is_time_child nodes) second nodes
  lists_of first second kin nodes view is =
      ((λ s. sym (list-rows first s) ∙ ap (λ f. list_in f.children s) view ∙ is.children s), (λ s. sym (list-rows second s) ∙ ap (λ f. list_in f.time_children s) view ∙ is.time_children s))
