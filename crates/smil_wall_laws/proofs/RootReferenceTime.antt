-- A reference to the begin of a root that begins by itself gives its offset.
use Rattle.std.proofs.Common.{◌≡◌, refl, sym, ◌∙◌, ap, subst, ℕ, List, [], ◌∷◌, Option, Some, None, ℤ, Bool, true, false, arith, inl, inr}
use Rattle.std.specs.Prelude.{cond, pos, neg_ℤ, not, ◌==◌, ◌&&◌, ◌⊎◌, ◌+ℤ◌, ◌-ℤ◌, int_le, int_lt, drop, find, flat_map, filter_map, min, is_some, slice_get}
use Rattle.std.specs.List.{AllByRecursion, Contains, list_all}
use Rattle.std.specs.Str.{bytes_eq}
use Rattle.std.proofs.lemmas.Bool.{and_parts, and_from, or_cases, eq-eqb, eqb-true, not-true}
use Rattle.std.proofs.lemmas.Int.{ints}
use Rattle.smil_model.specs.declared.times.TheConstants.{HORIZON}
use Rattle.smil_model.specs.declared.times.Time.{Time}
use Rattle.smil_model.specs.declared.times.Time.TheVariants.{At, Indefinite}
use Rattle.smil_model.specs.declared.diary.Entry.{Entry}
use Rattle.smil_model.specs.declared.diary.LogEntry.{LogEntry}
use Rattle.smil_model.specs.declared.diary.Step.{Step}
use Rattle.smil_model.specs.declared.diary.Step.TheVariants.{Began}
use Rattle.smil_model.specs.declared.diary.StepKind.TheVariants as kind
use Rattle.smil_model.specs.declared.interval.Interval.{Interval}
use Rattle.smil_model.specs.declared.document.Node.{Node}
use Rattle.smil_model.specs.declared.document.Kind.{Kind}
use Rattle.smil_model.specs.declared.document.Kind.TheVariants as node_kind
use Rattle.smil_model.specs.declared.document.Edge.{Edge}
use Rattle.smil_model.specs.declared.document.Edge.TheVariants.{Begin, End}
use Rattle.smil_model.specs.declared.document.Item.{Item}
use Rattle.smil_model.specs.declared.document.Item.TheVariants.{Sync, Offset}
use Rattle.smil_model.specs.declared.document.Item.TheVariants as item
use Rattle.smil_model.specs.declared.document.Attrs.{Attrs}
use Rattle.smil_model.specs.Times.{within_horizon, numbers, time_le}
use Rattle.smil_model.specs.document.Limits.{Limits}
use Rattle.smil_model.specs.document.Document.{Document, elements, node_at, is_element, is_class_kind, is_container_kind, is_in_excl, time_parent, has_id, element_named}
use Rattle.smil_model.specs.document.Defaults.{items_or, begin_list, end_list, items_of}
use Rattle.smil_model.specs.document.Values.{absent_or, has_class_attrs, is_offset, is_item, is_list, is_begin, are_element_values, fits_text, is_seq_parent}
use Rattle.smil_model.specs.document.Texts.{text_names}
use Rattle.smil_model.specs.document.Words.{is_id}
use Rattle.smil_model.specs.document.Valid.{IsValidWithin, IsNumberedTree, is_well_placed, may_stand, kind_of, has_fitting_attrs}
use Rattle.smil_model.specs.diary.Diary.{History, birth, birth_under, is_active, lives_under, is_step}
use Rattle.smil_model.specs.diary.Clocks.{outer, outer_under, between}
use Rattle.smil_model.specs.interval.Instances.{edge_time, happened_times, named_times, item_times, begin_times, end_times}
use Rattle.smil_model.specs.reach.Bounds.{has_begun}
use Rattle.smil_laws.specs.Resolved.{history_after}
use Rattle.smil_laws.proofs.AsideDocuments.{inactive, find_each, each_filter}
use Rattle.smil_laws.proofs.Lists.{each_kept}
use Rattle.smil_laws.proofs.NumberedTrees.{ordered}
use Rattle.smil_laws.proofs.ResolvedSteps.{resolved_live}
use Rattle.smil_wall_laws.specs.References.{IsAnchor, RanSinceStart, IsInstance, GivesOffset}
use Rattle.smil_wall_laws.proofs.OneRoot.{split, root_parent, none_zero, root_alone, climbs_from, has_time_parent}
use Rattle.smil_wall_laws.proofs.RootBeginZero.{AtStart, AllAtStart, all_at_start}
use Rattle.smil_wall_laws.proofs.UnpausedAncestors.{outer_all}
use Rattle.smil_wall_laws.proofs.ListMembers.{Has, has_contained, contains_had, has_left, has_flat, has_mapped, has_number, has_poured, all_pass}

-- ---- numbers

near_offset : (v : ℤ) → is_offset v ≡ true → within_horizon v ≡ At v
near_offset v q = go (int_lt HORIZON v) (int_lt v (neg_ℤ HORIZON)) refl refl
  where
    parts : (int_le (neg_ℤ HORIZON) v ≡ true) × (int_le v HORIZON ≡ true)
    parts = and_parts (int_le (neg_ℤ HORIZON) v) (int_le v HORIZON) q

    go : (a b : Bool) → int_lt HORIZON v ≡ a → int_lt v (neg_ℤ HORIZON) ≡ b → cond a Indefinite (cond b (At (neg_ℤ HORIZON)) (At v)) ≡ At v
    go false false p r = refl
    go true b p r = absurd (grind (arith, ints))
    go false true p r = absurd (grind (arith, ints))

from_zero : (m offset : ℤ) → (m +ℤ (pos 0 -ℤ m)) +ℤ offset ≡ offset
from_zero m offset = omega (arith, ints)

same_text : (id : List ℕ) → bytes_eq id id ≡ true
same_text [] = refl
same_text (b ∷ bs) = and_from (b == b) (bytes_eq bs bs) (eq-eqb b b refl) (same_text bs)

-- ---- items of valid documents

ands_left : (x y : Bool) → (x && y) ≡ true → x ≡ true
ands_left x y q = (and_parts x y q).0

record Lists (in_seq : Bool) (attrs : Attrs) : Type 0 where
  begins : absent_or (is_begin in_seq) attrs.begin ≡ true
  ends : absent_or is_list attrs.«end» ≡ true

lists_in : (in_seq : Bool) (attrs : Attrs) → are_element_values in_seq attrs ≡ true → Lists in_seq attrs
lists_in in_seq attrs h =
    let three = ands_left _ _ (ands_left _ _ (ands_left _ _ (ands_left _ _ (ands_left _ _ h)))) in
    let last = and_parts (absent_or (is_begin in_seq) attrs.begin && _) (absent_or is_list attrs.«end») three in
    record { begins = ands_left _ _ last.0; ends = last.1 }

-- a reference among the items of a side has an offset that is near
offset_listed : (items : Option (List Item)) (test : List Item → Bool) (without : List Item) (id : List ℕ) (edge : Edge) (offset : ℤ) → ((is : List Item) → test is ≡ true → is_list is ≡ true) → (Has without (Sync id edge offset) → ⊥) → absent_or test items ≡ true → Has (items_or without items) (Sync id edge offset) → is_offset offset ≡ true
offset_listed None test without id edge offset lists none q h = absurd (none h)
offset_listed (Some is) test without id edge offset lists none q h =
    let parts = and_parts _ (list_all is_item is) (lists is q) in
    (and_parts _ (is_offset offset) (all_pass is_item is (Sync id edge offset) parts.1 h)).1

none_default : (t : Bool) (id : List ℕ) (edge : Edge) (offset : ℤ) → Has (cond t (item.Indefinite ∷ []) (Offset (pos 0) ∷ [])) (Sync id edge offset) → ⊥
none_default true id edge offset (inl e) = cc
none_default true id edge offset (inr h) = h
none_default false id edge offset (inl e) = cc
none_default false id edge offset (inr h) = h

offset_of : (nodes : List Node) (e : Node) (in_seq : Bool) (side : Edge) (id : List ℕ) (offset : ℤ) → Lists in_seq e.attrs → Has (items_of nodes side e) (Sync id Begin offset) → is_offset offset ≡ true
offset_of nodes e in_seq Begin id offset lists h =
    offset_listed e.attrs.begin (is_begin in_seq) (cond (is_in_excl nodes e.serial) (item.Indefinite ∷ []) (Offset (pos 0) ∷ [])) id Begin offset (λ is q. ands_left _ _ q)
    (none_default (is_in_excl nodes e.serial) id Begin offset) lists.begins h
offset_of nodes e in_seq End id offset lists h = offset_listed e.attrs.«end» is_list [] id Begin offset (λ is q. q) (λ n. n) lists.ends h

else_part : (t a b : Bool) → t ≡ false → cond t a b ≡ true → b ≡ true
else_part true a b e q = cc
else_part false a b e q = q

-- the lists of an element of a valid document
lists_of : (nodes : List Node) (e : Node) → is_element e ≡ true → has_fitting_attrs nodes e ≡ true → Lists (is_seq_parent (kind_of (node_at nodes e.parent))) e.attrs
lists_of nodes e element fit =
    let fitting = else_part (is_class_kind e.kind) _ _ (not-true (is_class_kind e.kind) element) (and_parts (absent_or is_id e.attrs.id && list_all (fits_text e.kind e.attrs.texts) text_names) _ fit).1 in
    lists_in (is_seq_parent (kind_of (node_at nodes e.parent))) e.attrs (and_parts (not (has_class_attrs e.attrs)) _ (ands_left _ _ fitting)).1

each_pass : (p : Node → Bool) (ns : List Node) → list_all p ns ≡ true → AllByRecursion (λ (n : Node). p n ≡ true) ns
each_pass p [] q = tt
each_pass p (n ∷ ns) q = let parts = and_parts (p n) (list_all p ns) q in (parts.0, each_pass p ns parts.1)

container_element : (k : Kind) → is_container_kind k ≡ true → not (is_class_kind k) ≡ true
container_element node_kind.PriorityClass q = cc
container_element _ q = refl

not_found : (s : ℕ) (ns : List Node) → AllByRecursion (λ (n : Node). n.serial == s ≡ false) ns → node_at ns s ≡ None
not_found s [] each = refl
not_found s (n ∷ ns) each = ap (λ t. cond t (Some n) (node_at ns s)) each.0 ∙ not_found s ns each.1

-- ---- the root's begin

record Began0 (ds : List Entry) (root : ℕ) : Type 0 where
  entry : Entry
  there : Has ds entry
  step : entry.step ≡ Began root (pos 0)

begin_found : (document : Document) (numbered : IsNumberedTree document) (root : Node) (first : slice_get document.nodes 0 ≡ Some root) (element : is_element root ≡ true) (plain : root.attrs.begin ≡ None) (ds : List Entry) → has_begun ds root.serial ≡ true → AllAtStart document numbered root first element plain ds → Began0 ds root.serial
begin_found document numbered root first element plain [] q each = cc
begin_found document numbered root first element plain (x ∷ xs) q each = by_case (or_cases (is_step kind.Began root.serial x.step) (has_begun xs root.serial) q) (begin_found document numbered root first element plain xs)
  where
    here : (step : Step) → x.step ≡ step → AtStart document numbered root first element plain step → is_step kind.Began root.serial step ≡ true → Began0 (x ∷ xs) root.serial
    here (Began who begin) e start t = record { entry = x; there = inl refl; step = e ∙ ap (λ s. Began s begin) (eqb-true who root.serial t) ∙ ap (Began root.serial) (start t) }
    here _ e start t = cc

    by_case : (is_step kind.Began root.serial x.step ≡ true) ⊎ (has_begun xs root.serial ≡ true) → (has_begun xs root.serial ≡ true → AllAtStart document numbered root first element plain xs → Began0 xs root.serial) → Began0 (x ∷ xs) root.serial
    by_case (inl t) later = here x.step refl each.0 t
    by_case (inr t) later = let rest = later t each.1 in record { entry = rest.entry; there = inr rest.there; step = rest.step }

begun_if_active : (ds : List Entry) (s : ℕ) → is_active ds s ≡ true → has_begun ds s ≡ true
begun_if_active ds s active = by_test (has_begun ds s) refl
  where
    by_test : (t : Bool) → has_begun ds s ≡ t → has_begun ds s ≡ true
    by_test true q = q
    by_test false q = let never : false ≡ true = sym (inactive ds s q) ∙ active in cc

-- ---- the law

module _ (allowed : Limits) (document : Document) (valid : IsValidWithin allowed document) (root : Node) (id : List ℕ) (anchor : IsAnchor root id document.nodes) where
  abbrev ns : List Node
  ns = document.nodes

  element : is_element root ≡ true
  element = container_element root.kind (ap (λ o. may_stand (kind_of o) root.kind) (sym nothing) ∙ stands)
    where
      placed : is_well_placed ns root ≡ true
      placed = (subst (λ xs. AllByRecursion (λ (n : Node). is_well_placed ns n ≡ true) xs) (split document valid.numbered root anchor.first) (each_pass (is_well_placed ns) ns valid.placed)).0

      stands : may_stand (kind_of (node_at ns root.parent)) root.kind ≡ true
      stands = (and_parts _ (may_stand (kind_of (node_at ns root.parent)) root.kind) (ands_left _ _ placed)).1

      nothing : node_at ns root.parent ≡ None
      nothing = ap (node_at ns) (root_parent document valid.numbered root anchor.first) ∙ not_found 0 ns (none_zero document valid.numbered root anchor.first)

  named : element_named ns id ≡ Some root
  named =
      ap (find test) (split document valid.numbered root anchor.first)
      ∙ ap (λ t. cond t (Some root) (find test (drop 1 ns))) (and_from (is_element root) (has_id id root.attrs.id) element (ap (has_id id) anchor.named ∙ same_text id))
    where
      test : Node → Bool
      test = λ (n : Node). is_element n && has_id id n.attrs.id

  module _ (log : List LogEntry) (last steps : ℕ) where
    abbrev h : History
    h = history_after document log last steps

    module _ (e : Node) (ran : RanSinceStart h root e) where
      began : Began0 h.diary root.serial
      began = begin_found document valid.numbered root anchor.first element anchor.plain h.diary (begun_if_active h.diary root.serial active) (all_at_start document valid.numbered root anchor.first element anchor.plain log last steps)
        where
          active : is_active h.diary root.serial ≡ true
          active = by_parent (time_parent ns e.serial) refl
            where
              by_parent : (o : Option Node) → time_parent ns e.serial ≡ o → is_active h.diary root.serial ≡ true
              by_parent None q = let never : false ≡ true = sym (ap is_some q) ∙ has_time_parent document valid.numbered root anchor.first element e ran.here ran.other in cc
              by_parent (Some p) q =
                  climbs_from document valid.numbered root anchor.first element h.diary (λ s a. resolved_live document log last steps s valid.numbered a) e.serial p q
                  (sym (ap (λ o. lives_under o h.diary) q) ∙ ran.alive)

      given : (intervals : ℕ → Option Interval) (now : ℤ) (side : Edge) (offset : ℤ) → is_offset offset ≡ true → Has (item_times h intervals now e side (Sync id Begin offset)) (At offset)
      given intervals now side offset near =
          subst (λ o. Has (named_times h intervals now e.serial offset Begin o) (At offset)) (sym named)
          (has_left (happened_times h e.serial root.serial offset Begin) _ (At offset) happened)
        where
          read : Entry → Option Time
          read y = edge_time h e.serial root.serial offset y.moment Begin y.step

          number : (m : ℤ) → between h root.serial e.serial (pos 0) m +ℤ offset ≡ offset
          number m =
              ap (λ a. (a +ℤ (pos 0 -ℤ outer h root.serial m)) +ℤ offset) (outer_all h (ordered document valid.numbered).first e.serial ran.unpaused m)
              ∙ ap (λ o. (m +ℤ (pos 0 -ℤ outer_under h o m)) +ℤ offset) (root_alone document valid.numbered root anchor.first)
              ∙ from_zero m offset

          gives : read began.entry ≡ Some (At offset)
          gives =
              ap (edge_time h e.serial root.serial offset began.entry.moment Begin) began.step
              ∙ ap (λ t. cond t (Some (within_horizon (between h root.serial e.serial (pos 0) began.entry.moment +ℤ offset))) None) (eq-eqb root.serial root.serial refl)
              ∙ ap (λ v. Some (within_horizon v)) (number began.entry.moment)
              ∙ ap (λ t. Some t) (near_offset offset near)

          whole : min (birth h e.serial) (birth h root.serial) ≡ 0
          whole = ap (λ o. min (birth h e.serial) (birth_under o h.diary)) (root_alone document valid.numbered root anchor.first) ∙ least (birth h e.serial)
            where
              least : (b : ℕ) → min b 0 ≡ 0
              least b = omega arith

          happened : Has (happened_times h e.serial root.serial offset Begin) (At offset)
          happened =
              subst (λ k. Has (filter_map read (drop k h.diary)) (At offset)) (sym whole)
              (has_mapped read h.diary began.entry (At offset) began.there gives)

      listed : (intervals : ℕ → Option Interval) (now : ℤ) (side : Edge) (offset : ℤ) → is_offset offset ≡ true → Has (items_of ns side e) (Sync id Begin offset) → IsInstance h intervals now e side offset
      listed intervals now Begin offset near there =
          contains_had (begin_times h intervals now e) offset
          (has_poured int_le (numbers (flat_map (item_times h intervals now e Begin) (begin_list ns e))) offset
          (has_number (flat_map (item_times h intervals now e Begin) (begin_list ns e)) offset
          (has_flat (item_times h intervals now e Begin) (begin_list ns e) (Sync id Begin offset) (At offset) there (given intervals now Begin offset near))))
      listed intervals now End offset near there =
          contains_had (end_times h intervals now e) (At offset)
          (has_poured time_le (flat_map (item_times h intervals now e End) (end_list e)) (At offset)
          (has_flat (item_times h intervals now e End) (end_list e) (Sync id Begin offset) (At offset) there (given intervals now End offset near)))

      pub gives : (intervals : ℕ → Option Interval) (now : ℤ) (side : Edge) (offset : ℤ) → Contains (items_of ns side e) (Sync id Begin offset) → GivesOffset h intervals now e side offset
      gives intervals now side offset there = record { instance = listed intervals now side offset (offset_of ns e _ side id offset lists had) had; clock = outer_all h (ordered document valid.numbered).first e.serial ran.unpaused }
        where
          had : Has (items_of ns side e) (Sync id Begin offset)
          had = has_contained (items_of ns side e) (Sync id Begin offset) there

          is : is_element e ≡ true
          is = find_each (λ (n : Node). is_element n ≡ true) (λ (n : Node). n.serial == e.serial) (elements ns) e (each_filter (λ (n : Node). is_element n ≡ true) is_element ns (λ n t. t)) ran.here

          lists : Lists (is_seq_parent (kind_of (node_at ns e.parent))) e.attrs
          lists =
              lists_of ns e is
              (find_each (λ (n : Node). has_fitting_attrs ns n ≡ true) (λ (n : Node). n.serial == e.serial) (elements ns) e
              (each_kept (λ (n : Node). has_fitting_attrs ns n ≡ true) is_element ns (each_pass (has_fitting_attrs ns) ns valid.fitting)) ran.here)
