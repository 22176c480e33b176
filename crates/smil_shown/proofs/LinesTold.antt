-- Lines that are told one after another.
use Rattle.std.proofs.Common.{◌≡◌, refl, sym, ◌∙◌, ap, ℕ, zero, suc, ◌+◌, ◌<◌, List, [], ◌∷◌, ◌++◌, Option, Some, None, Bool, true, false, length, drop, get_or, arith, append-nil}
use Rattle.std.specs.Prelude.{cond, not, ◌==◌, ℤ, IsSome, is_some, filter, flat_map, nat_lt, slice_get, option_map}
use Rattle.std.specs.Option.{option_map_or}
use Rattle.std.specs.List.{position, position_or_len}
use Rattle.std.proofs.Math.Seq.{drop-cons}
use Rattle.std.proofs.lemmas.Bool.{eqb-true, ltb-true, ltb-false}
use Rattle.std.proofs.lemmas.Option.{same_Some, slice_get_past}
use Rattle.std.proofs.lemmas.Grind.{flat_map-append}
use Rattle.std.proofs.lemmas.List.{append_assoc}
use Rattle.std.proofs.lemmas.List.Elements.{filter-append}
use Rattle.std.proofs.lemmas.List.Folds.{find_at}
use Rattle.smil_model.specs.declared.document.Attrs.{Attrs}
use Rattle.smil_model.specs.declared.document.Kind.{Kind}
use Rattle.smil_model.specs.declared.document.Node.{Node}
use Rattle.smil_model.specs.declared.order.Who.TheVariants.{Serial}
use Rattle.smil_model.specs.declared.view.View.{View}
use Rattle.smil_model.specs.document.Document.{elements, is_class_kind, is_element, node_at}
use Rattle.smil_model.specs.document.Valid.{kind_of}
use Rattle.smil_model.specs.shown.Answers.{name_in}
use Rattle.smil_model.specs.shown.Lines.{name_by, name_of}
use Rattle.smil_model.specs.shown.Orders.{changed, gone_from, view_before, view_eq}
use Rattle.smil_laws.proofs.AsideDocuments.{find_true}
use Rattle.smil_report.specs.Tellings.{Telling, change_told}
use Rattle.smil_shown.specs.Told.{told_between, told_gone, views_told}

-- the name of a node that is there
pub name_there : (nodes : List Node) (s : ℕ) (attrs : Attrs) → IsSome (node_at nodes s) → Some attrs ≡ option_map (λ (n : Node). n.attrs) (node_at nodes s) → name_in nodes s ≡ name_by s attrs.id
name_there nodes s attrs there is = by_node (node_at nodes s) refl there is
  where
    by_node : (o : Option Node) → node_at nodes s ≡ o → IsSome o → Some attrs ≡ option_map (λ (n : Node). n.attrs) o → option_map_or name_of o (Serial s) ≡ name_by s attrs.id
    by_node None e t q = cc
    by_node (Some n) e t q =
        ap (λ k. name_by k n.attrs.id) (eqb-true n.serial s (find_true (λ (m : Node). m.serial == s) nodes n e))
        ∙ ap (λ (a : Attrs). name_by s a.id) (sym (same_Some attrs n.attrs q))

-- what is told of the rest follows what was told
one_told : {I : Type 0} (all before now one rest whole : List I) → now ≡ before ++ one → before ++ whole ≡ all → whole ≡ one ++ rest → now ++ rest ≡ all
one_told all before now one rest whole made so_far is =
    ap (λ l. l ++ rest) made ∙ (append_assoc before one rest ∙ (ap (λ l. before ++ l) (sym is) ∙ so_far))

-- ---- views

pub next_view : (views : List View) (i : ℕ) (d : View) → i < length views → drop i views ≡ get_or views i d ∷ drop (i + 1) views
next_view views i d l = drop-cons views i d l ∙ ap (λ n. get_or views i d ∷ drop n views) (one_on i)
  where
    one_on : (n : ℕ) → suc n ≡ n + 1
    one_on n = omega arith

module _ {I : Type 0} (t : Telling I) where
  line_next : (nodes : List Node) (m : ℕ) (v : View) (vs : List View) → views_told t nodes m (v ∷ vs) ≡ views_told t nodes m (v ∷ []) ++ views_told t nodes m vs
  line_next nodes m v vs = ap (λ l. l ++ views_told t nodes m vs) (sym (append-nil (change_told t nodes (m, v))))

  between_next : (nodes : List Node) (m : ℕ) (before : List View) (v : View) (vs : List View) → told_between t nodes m before (v ∷ vs) ≡ told_between t nodes m before (v ∷ []) ++ told_between t nodes m before vs
  between_next nodes m before v vs = by_test (not (view_eq v (view_before before v)))
    where
      by_test : (is : Bool) → views_told t nodes m (cond is (v ∷ changed before vs) (changed before vs)) ≡ views_told t nodes m (cond is (v ∷ []) []) ++ told_between t nodes m before vs
      by_test true = line_next nodes m v (changed before vs)
      by_test false = refl

  pub difference_on : (nodes : List Node) (m : ℕ) (before views : List View) (i : ℕ) (d : View) (all old new : List I) → i < length views
      → old ++ told_between t nodes m before (drop i views) ≡ all
      → new ≡ old ++ told_between t nodes m before (get_or views i d ∷ [])
      → new ++ told_between t nodes m before (drop (i + 1) views) ≡ all
  difference_on nodes m before views i d all old new l so_far made =
      one_told all old new (told_between t nodes m before (get_or views i d ∷ [])) (told_between t nodes m before (drop (i + 1) views)) (told_between t nodes m before (drop i views)) made so_far
      (ap (told_between t nodes m before) (next_view views i d l) ∙ between_next nodes m before (get_or views i d) (drop (i + 1) views))

  -- ---- nodes that are gone

  -- one node more is told
  pub gone_more : (after : List Node) (moment : ℤ) (past : List Node) (n : Node) (start out new : List I) → out ≡ start ++ told_gone t after moment past
      → new ≡ out ++ told_gone t after moment (n ∷ []) → new ≡ start ++ told_gone t after moment (past ++ n ∷ [])
  gone_more after moment past n start out new so_far made =
      made ∙ ap (λ l. l ++ told_gone t after moment (n ∷ [])) so_far
      ∙ append_assoc start (told_gone t after moment past) (told_gone t after moment (n ∷ []))
      ∙ ap (λ l. start ++ l) (sym both)
    where
      line : Node → List I
      line m = t.gone moment (name_of m) m.serial

      is_gone : Node → Bool
      is_gone m = not (is_some (node_at after m.serial))

      both : told_gone t after moment (past ++ n ∷ []) ≡ told_gone t after moment past ++ told_gone t after moment (n ∷ [])
      both =
          ap (λ (ns : List Node). flat_map line (filter is_gone ns)) (filter-append is_element past (n ∷ []))
          ∙ ap (flat_map line) (filter-append is_gone (elements past) (elements (n ∷ [])))
          ∙ flat_map-append line (gone_from after past) (gone_from after (n ∷ []))

is_there : (ns : List Node) (s : ℕ) → is_some (position (λ (n : Node). n.serial == s) ns) ≡ is_some (node_at ns s)
is_there ns s =
    by_test (position_or_len (λ (n : Node). n.serial == s) ns) (nat_lt (position_or_len (λ (n : Node). n.serial == s) ns) (length ns)) refl
    ∙ ap is_some (sym (find_at (λ (n : Node). n.serial == s) ns))
  where
    inside : (ms : List Node) (i : ℕ) → i < length ms → is_some (slice_get ms i) ≡ true
    inside [] i l = absurd (omega (arith, l))
    inside (m ∷ ms) zero l = refl
    inside (m ∷ ms) (suc i) l = inside ms i (omega (arith, l))

    by_test : (k : ℕ) (is : Bool) → nat_lt k (length ns) ≡ is → is_some (cond {A = Option ℕ} is (Some k) None) ≡ is_some (slice_get ns k)
    by_test k true e = sym (inside ns k (ltb-true k (length ns) e))
    by_test k false e = sym (ap is_some (slice_get_past ns k (ltb-false k (length ns) e)))

module _ {I : Type 0} (t : Telling I) where
  -- what is told of one node of this kind, which is an element or not, and has a place in the other
  -- document or not
  pub gone_one : (before after : List Node) (moment : ℤ) (s : ℕ) (kind : Kind) (n : Node) → node_at before s ≡ Some n → Some kind ≡ kind_of (node_at before s)
      → not (is_class_kind kind) ≡ true → is_some (position (λ (m : Node). m.serial == s) after) ≡ false → told_gone t after moment (n ∷ []) ≡ t.gone moment (name_in before s) s
  gone_one before after moment s kind n at of_kind element none =
      let kinds : kind ≡ n.kind = same_Some kind n.kind (of_kind ∙ ap kind_of at) in
      let serial : n.serial ≡ s = eqb-true n.serial s (find_true (λ (m : Node). m.serial == s) before n at) in
      let absent : is_some (node_at after n.serial) ≡ false = ap (λ k. is_some (node_at after k)) serial ∙ (sym (is_there after s) ∙ none) in
      ap (λ (is : Bool). flat_map (λ (m : Node). t.gone moment (name_of m) m.serial) (filter (λ (m : Node). not (is_some (node_at after m.serial))) (cond is (n ∷ []) []))) (ap (λ (k : Kind). not (is_class_kind k)) (sym kinds) ∙ element)
      ∙ (ap (λ (is : Bool). flat_map (λ (m : Node). t.gone moment (name_of m) m.serial) (cond (not is) (n ∷ []) [])) absent
      ∙ (append-nil (t.gone moment (name_of n) n.serial)
      ∙ (ap (λ k. t.gone moment (name_of n) k) serial
      ∙ ap (λ o. t.gone moment (option_map_or name_of o (Serial s)) s) (sym at))))

  pub not_gone : (before after : List Node) (moment : ℤ) (s : ℕ) (kind : Kind) (n : Node) → node_at before s ≡ Some n → Some kind ≡ kind_of (node_at before s)
      → not (is_class_kind kind) ≡ false → told_gone t after moment (n ∷ []) ≡ []
  not_gone before after moment s kind n at of_kind class =
      let kinds : kind ≡ n.kind = same_Some kind n.kind (of_kind ∙ ap kind_of at) in
      ap (λ (is : Bool). flat_map (λ (m : Node). t.gone moment (name_of m) m.serial) (filter (λ (m : Node). not (is_some (node_at after m.serial))) (cond is (n ∷ []) []))) (ap (λ (k : Kind). not (is_class_kind k)) (sym kinds) ∙ class)

  pub still_there : (before after : List Node) (moment : ℤ) (s : ℕ) (n : Node) → node_at before s ≡ Some n → is_some (position (λ (m : Node). m.serial == s) after) ≡ true → told_gone t after moment (n ∷ []) ≡ []
  still_there before after moment s n at there = by_element (not (is_class_kind n.kind))
    where
      here : is_some (node_at after n.serial) ≡ true
      here =
          ap (λ k. is_some (node_at after k)) (eqb-true n.serial s (find_true (λ (m : Node). m.serial == s) before n at))
          ∙ (sym (is_there after s) ∙ there)

      by_element : (is : Bool) → flat_map (λ (m : Node). t.gone moment (name_of m) m.serial) (filter (λ (m : Node). not (is_some (node_at after m.serial))) (cond is (n ∷ []) [])) ≡ []
      by_element true = ap (λ (is : Bool). flat_map (λ (m : Node). t.gone moment (name_of m) m.serial) (cond (not is) (n ∷ []) [])) here
      by_element false = refl
