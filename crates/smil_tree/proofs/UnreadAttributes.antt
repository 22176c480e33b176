-- A change of attributes that the rows are not read from leaves the outline.
use Rattle.std.proofs.Common.{◌≡◌, refl, sym, ◌∙◌, ap, subst, ℕ, zero, suc, ◌+◌, List, [], ◌∷◌, Option, Some, None, Bool, true, false, cond, length, take, drop, filter, arith}
use Rattle.std.specs.Prelude.{◌==◌, find, map, option_and_then, option_map, slice_get, sum_by, unwrap_or}
use Rattle.std.specs.List.{list_any, position}
use Rattle.std.proofs.lemmas.List.{length-map}
use Rattle.std.proofs.lemmas.List.Sums.{sum_by-cons}
use Rattle.smil_model.specs.declared.document.Attr.{Attr}
use Rattle.smil_model.specs.declared.document.Attr.TheVariants as attr
use Rattle.smil_model.specs.declared.document.AttrName.{AttrName}
use Rattle.smil_model.specs.declared.document.AttrName.TheVariants as name
use Rattle.smil_model.specs.declared.document.Attrs.{Attrs}
use Rattle.smil_model.specs.declared.document.Node.{Node}
use Rattle.smil_model.specs.declared.document.Restart.TheVariants.{Always}
use Rattle.smil_model.specs.declared.document.Fill.TheVariants.{Auto}
use Rattle.smil_model.specs.document.Document.{elements, is_element, is_time_child, is_within, lineage, serials, time_children, time_parent}
use Rattle.smil_model.specs.document.Defaults.{default_fill, default_restart, fill_or, fill_stated, first_stated, inherited, restart_or, restart_stated}
use Rattle.smil_model.specs.document.Edits.{changed_at, child_place, place_in, with_attr, without_attr}
use Rattle.smil_tree.specs.Outline.{HasChildren, HasRoomFor, IsOutlineOf, IsRowOf, KeepsRows, children_before, placed, reads, reads_name}
use Rattle.smil_tree.specs.Places.{with_attrs}
use Rattle.smil_tree.specs.declared.outline.Outline.{Outline}
use Rattle.smil_tree.specs.declared.outline.OutlineRow.{OutlineRow}
use Rattle.smil_tree.specs.declared.outline.Placed.{Placed}
use Rattle.smil_tree.proofs.AttributesChanged.{any_stays}
use Rattle.smil_tree.proofs.AttributeEdits.{element_same, rest_same, same_serials, time_child_same}
use Rattle.smil_tree.proofs.Listed.{long_changed, place_changed}
use Rattle.smil_tree.proofs.NodesStand.{edit, kind_same, lineage_edited, serial_same}

-- the same in what the rows are read from
record IsReadAlike (m n : Node) : Type 0 where
  restart : m.attrs.restart ≡ n.attrs.restart
  fill : m.attrs.fill ≡ n.attrs.fill
  restart_default : m.attrs.restart_default ≡ n.attrs.restart_default
  fill_default : m.attrs.fill_default ≡ n.attrs.fill_default

module _ (change : Attrs → Attrs) (s : ℕ) (keeps : KeepsRows change) (nodes : List Node) where
  abbrev new : List Node
  new = changed_at change s nodes

  abbrev other : Node → Node
  other = edit change s

  read_alike : (n : Node) → IsReadAlike (edit change s n) n
  read_alike n = by_test (n.serial == s)
    where
      by_test : (t : Bool) → IsReadAlike (cond t (with_attrs change n) n) n
      by_test true = record { restart = keeps.restart n.attrs; fill = keeps.fill n.attrs; restart_default = keeps.restart_default n.attrs; fill_default = keeps.fill_default n.attrs }
      by_test false = record { restart = refl; fill = refl; restart_default = refl; fill_default = refl }

  -- ---- defaults

  stated_same : {A : Type 0} (stated : Node → Option A) (without : A) → ((n : Node) → stated (edit change s n) ≡ stated n) → (ns : List Node) → first_stated stated without (filter is_element (map (edit change s) ns)) ≡ first_stated stated without (filter is_element ns)
  stated_same stated without same [] = refl
  stated_same stated without same (n ∷ ns) =
      ap (λ b. first_stated stated without (cond b (edit change s n ∷ filter is_element (map (edit change s) ns)) (filter is_element (map (edit change s) ns)))) (element_same change s n) ∙ step (is_element n) (stated_same stated without same ns)
    where
      step : (b : Bool) → first_stated stated without (filter is_element (map (edit change s) ns)) ≡ first_stated stated without (filter is_element ns)
          → first_stated stated without (cond b (edit change s n ∷ filter is_element (map (edit change s) ns)) (filter is_element (map (edit change s) ns))) ≡ first_stated stated without (cond b (n ∷ filter is_element ns) (filter is_element ns))
      step true rest = ap (λ o. unwrap_or o (first_stated stated without (filter is_element (map (edit change s) ns)))) (same n) ∙ ap (unwrap_or (stated n)) rest
      step false rest = rest

  inherited_same : {A : Type 0} (stated : Node → Option A) (without : A) → ((n : Node) → stated (edit change s n) ≡ stated n) → (x : ℕ) → inherited (changed_at change s nodes) stated without x ≡ inherited nodes stated without x
  inherited_same stated without same x = ap (λ l. first_stated stated without (filter is_element l)) (lineage_edited change s nodes x) ∙ stated_same stated without same (lineage nodes x)

  restart_default_same : (n : Node) → default_restart new (other n).serial ≡ default_restart nodes n.serial
  restart_default_same n =
      ap (default_restart new) (serial_same change s n)
      ∙ inherited_same (λ (m : Node). option_and_then restart_stated m.attrs.restart_default) Always (λ m. ap (option_and_then restart_stated) (read_alike m).restart_default) n.serial

  fill_default_same : (n : Node) → default_fill new (other n).serial ≡ default_fill nodes n.serial
  fill_default_same n =
      ap (default_fill new) (serial_same change s n)
      ∙ inherited_same (λ (m : Node). option_and_then fill_stated m.attrs.fill_default) Auto (λ m. ap (option_and_then fill_stated) (read_alike m).fill_default) n.serial

  -- ---- places

  place_same : (x : ℕ) → place_in new x ≡ place_in nodes x
  place_same x =
      ap (λ o. unwrap_or o (length new)) (place_changed change s x nodes)
      ∙ ap (unwrap_or (position (λ (n : Node). n.serial == x) nodes)) (long_changed change s nodes)

  found_edited : (ns : List Node) → find is_element (map (edit change s) ns) ≡ option_map (edit change s) (find is_element ns)
  found_edited [] = refl
  found_edited (n ∷ ns) = ap (λ b. cond b (Some (edit change s n)) (find is_element (map (edit change s) ns))) (element_same change s n) ∙ step (is_element n) (found_edited ns)
    where
      step : (b : Bool) → find is_element (map (edit change s) ns) ≡ option_map (edit change s) (find is_element ns)
          → cond b (Some (edit change s n)) (find is_element (map (edit change s) ns)) ≡ option_map (edit change s) (cond b (Some n) (find is_element ns))
      step true rest = refl
      step false rest = rest

  parent_edited : (x : ℕ) → time_parent new x ≡ option_map (edit change s) (time_parent nodes x)
  parent_edited x =
      ap (λ c. find is_element (drop 1 c)) (lineage_edited change s nodes x)
      ∙ ap (find is_element) (rest_same change s (lineage nodes x))
      ∙ found_edited (drop 1 (lineage nodes x))

  placed_same : (o : Option Node) → placed new (option_map (edit change s) o) ≡ placed nodes o
  placed_same None = refl
  placed_same (Some n) =
      let at : ℕ → ℕ → Option Placed = λ place serial. Some (record { place = place; serial = serial }) in
      ap (λ x. at (place_in new x) x) (serial_same change s n) ∙ ap (λ p. at p n.serial) (place_same n.serial)

  many : (t u : Node → Bool) (ns : List Node) → ((n : Node) → u (edit change s n) ≡ t n) → length (filter u (changed_at change s ns)) ≡ length (filter t ns)
  many t u ns same =
      sym (length-map (filter u (changed_at change s ns)) (λ (n : Node). n.serial))
      ∙ ap length (same_serials change s t u ns same)
      ∙ length-map (filter t ns) (λ (n : Node). n.serial)

  within_same : (x : ℕ) (n : Node) → is_within new x (other n).serial ≡ is_within nodes x n.serial
  within_same x n =
      ap (is_within new x) (serial_same change s n)
      ∙ ap (list_any (λ (a : Node). a.serial == x)) (lineage_edited change s nodes n.serial)
      ∙ any_stays change s x (lineage nodes n.serial)

  past_same : (x : ℕ) → child_place new x None ≡ child_place nodes x None
  past_same x =
      ap (λ p. p + length (filter (λ (n : Node). is_within new x n.serial) new)) (place_same x)
      ∙ ap (λ k. place_in nodes x + k) (many (λ (n : Node). is_within nodes x n.serial) (λ (n : Node). is_within new x n.serial) nodes (within_same x))

  taken : (k : ℕ) (ns : List Node) → take k (changed_at change s ns) ≡ changed_at change s (take k ns)
  taken zero ns = refl
  taken (suc k) [] = refl
  taken (suc k) (n ∷ ns) = ap (λ ms. edit change s n ∷ ms) (taken k ns)

  index_same : (k : ℕ) → length (elements (take k new)) ≡ length (elements (take k nodes))
  index_same k = ap (λ ns. length (elements ns)) (taken k nodes) ∙ many is_element is_element (take k nodes) (element_same change s)

  elements_same : (k : ℕ) → serials (elements (take k new)) ≡ serials (elements (take k nodes))
  elements_same k = ap (λ ns. serials (elements ns)) (taken k nodes) ∙ same_serials change s is_element is_element (take k nodes) (element_same change s)

  -- ---- time children

  children_same : (n : Node) → serials (time_children new (other n).serial) ≡ serials (time_children nodes n.serial)
  children_same n =
      ap (λ x. serials (time_children new x)) (serial_same change s n)
      ∙ same_serials change s (is_time_child nodes n.serial) (is_time_child new n.serial) nodes (time_child_same change s nodes n.serial)

  many_children : (n : Node) → length (time_children new (other n).serial) ≡ length (time_children nodes n.serial)
  many_children n =
      ap (λ x. length (time_children new x)) (serial_same change s n)
      ∙ many (is_time_child nodes n.serial) (is_time_child new n.serial) nodes (time_child_same change s nodes n.serial)

  sums : (ns : List Node) → sum_by (λ (n : Node). length (time_children new n.serial)) (changed_at change s ns) ≡ sum_by (λ (n : Node). length (time_children nodes n.serial)) ns
  sums [] = refl
  sums (n ∷ ns) =
      omega (
        arith,
        sum_by-cons (λ (m : Node). length (time_children new m.serial)) (other n) (changed_at change s ns),
        sum_by-cons (λ (m : Node). length (time_children nodes m.serial)) n ns,
        sums ns,
        many_children n,
      )

  before_same : (k : ℕ) → children_before new k ≡ children_before nodes k
  before_same k = ap (sum_by (λ (n : Node). length (time_children new n.serial))) (taken k nodes) ∙ sums (take k nodes)

  -- ---- rows

  at_edited : (ns : List Node) (k : ℕ) (m : Node) → slice_get (changed_at change s ns) k ≡ Some m → (n : Node) × (slice_get ns k ≡ Some n) × (edit change s n ≡ m)
  at_edited [] k m at = cc
  at_edited (n ∷ ns) zero m at = let one : edit change s n ≡ m = cc in (n, refl, one)
  at_edited (n ∷ ns) (suc k) m at = at_edited ns k m at

  row_stays : (k : ℕ) (n : Node) (row : OutlineRow) → IsRowOf nodes k n row → IsRowOf new k (other n) row
  row_stays k n row is = record {
    kind = is.kind ∙ sym (kind_same change s n);
    parent = is.parent ∙ sym (ap (placed new) (ap (time_parent new) (serial_same change s n) ∙ parent_edited n.serial) ∙ placed_same (time_parent nodes n.serial));
    past = is.past ∙ sym (ap (λ x. child_place new x None) (serial_same change s n) ∙ past_same n.serial);
    index = is.index ∙ sym (index_same k);
    restart = is.restart ∙ sym (ap (λ d. restart_or d (other n).attrs.restart) (restart_default_same n) ∙ ap (restart_or (default_restart nodes n.serial)) (read_alike n).restart);
    fill = is.fill ∙ sym (ap (λ d. fill_or d (other n).attrs.fill) (fill_default_same n) ∙ ap (fill_or (default_fill nodes n.serial)) (read_alike n).fill);
    default_restart = is.default_restart ∙ sym (restart_default_same n);
    default_fill = is.default_fill ∙ sym (fill_default_same n);
  }

  has_still : (children : List ℕ) (n : Node) (row : OutlineRow) → HasChildren nodes children n row → HasChildren new children (other n) row
  has_still children n row has = record { in_order = has.in_order; within = has.within; listed = has.listed ∙ sym (children_same n) }

  pub outline_stays : (outline : Outline) → IsOutlineOf nodes outline → IsOutlineOf new outline
  outline_stays outline is =
      let long = long_changed change s nodes in
      record {
        count = is.count ∙ sym long;
        rows = λ k m row at read.
            let n = at_edited nodes k m at in
            let both = is.rows k n.0 row n.1 read in
            (subst (λ (x : Node). IsRowOf new k x row) n.2 (row_stays k n.0 row both.0), subst (λ (x : Node). HasChildren new outline.children.items x row) n.2 (has_still outline.children.items n.0 row both.1));
        children = is.children ∙ sym (ap (children_before new) long ∙ before_same (length nodes));
        elements = is.elements ∙ sym (ap (λ k. serials (elements (take k new))) long ∙ elements_same (length nodes));
        room = subst (HasRoomFor outline) (sym long) is.room;
      }

-- ---- which attributes leave the rows

pub keeps_with : (given : Attr) → reads given ≡ false → KeepsRows (λ attrs. with_attr attrs given)
keeps_with (attr.Id v) e = record { restart = λ a. refl; fill = λ a. refl; restart_default = λ a. refl; fill_default = λ a. refl }
keeps_with (attr.Begin v) e = record { restart = λ a. refl; fill = λ a. refl; restart_default = λ a. refl; fill_default = λ a. refl }
keeps_with (attr.Dur v) e = record { restart = λ a. refl; fill = λ a. refl; restart_default = λ a. refl; fill_default = λ a. refl }
keeps_with (attr.End v) e = record { restart = λ a. refl; fill = λ a. refl; restart_default = λ a. refl; fill_default = λ a. refl }
keeps_with (attr.Min v) e = record { restart = λ a. refl; fill = λ a. refl; restart_default = λ a. refl; fill_default = λ a. refl }
keeps_with (attr.Max v) e = record { restart = λ a. refl; fill = λ a. refl; restart_default = λ a. refl; fill_default = λ a. refl }
keeps_with (attr.RepeatCount v) e = record { restart = λ a. refl; fill = λ a. refl; restart_default = λ a. refl; fill_default = λ a. refl }
keeps_with (attr.RepeatDur v) e = record { restart = λ a. refl; fill = λ a. refl; restart_default = λ a. refl; fill_default = λ a. refl }
keeps_with (attr.Restart v) e = cc
keeps_with (attr.Fill v) e = cc
keeps_with (attr.RestartDefault v) e = cc
keeps_with (attr.FillDefault v) e = cc
keeps_with (attr.Endsync v) e = record { restart = λ a. refl; fill = λ a. refl; restart_default = λ a. refl; fill_default = λ a. refl }
keeps_with (attr.Peers v) e = record { restart = λ a. refl; fill = λ a. refl; restart_default = λ a. refl; fill_default = λ a. refl }
keeps_with (attr.Higher v) e = record { restart = λ a. refl; fill = λ a. refl; restart_default = λ a. refl; fill_default = λ a. refl }
keeps_with (attr.Lower v) e = record { restart = λ a. refl; fill = λ a. refl; restart_default = λ a. refl; fill_default = λ a. refl }
keeps_with (attr.Text n v) e = record { restart = λ a. refl; fill = λ a. refl; restart_default = λ a. refl; fill_default = λ a. refl }

pub keeps_without : (given : AttrName) → reads_name given ≡ false → KeepsRows (λ attrs. without_attr attrs given)
keeps_without name.Id e = record { restart = λ a. refl; fill = λ a. refl; restart_default = λ a. refl; fill_default = λ a. refl }
keeps_without name.Begin e = record { restart = λ a. refl; fill = λ a. refl; restart_default = λ a. refl; fill_default = λ a. refl }
keeps_without name.Dur e = record { restart = λ a. refl; fill = λ a. refl; restart_default = λ a. refl; fill_default = λ a. refl }
keeps_without name.End e = record { restart = λ a. refl; fill = λ a. refl; restart_default = λ a. refl; fill_default = λ a. refl }
keeps_without name.Min e = record { restart = λ a. refl; fill = λ a. refl; restart_default = λ a. refl; fill_default = λ a. refl }
keeps_without name.Max e = record { restart = λ a. refl; fill = λ a. refl; restart_default = λ a. refl; fill_default = λ a. refl }
keeps_without name.RepeatCount e = record { restart = λ a. refl; fill = λ a. refl; restart_default = λ a. refl; fill_default = λ a. refl }
keeps_without name.RepeatDur e = record { restart = λ a. refl; fill = λ a. refl; restart_default = λ a. refl; fill_default = λ a. refl }
keeps_without name.Restart e = cc
keeps_without name.Fill e = cc
keeps_without name.RestartDefault e = cc
keeps_without name.FillDefault e = cc
keeps_without name.Endsync e = record { restart = λ a. refl; fill = λ a. refl; restart_default = λ a. refl; fill_default = λ a. refl }
keeps_without name.Peers e = record { restart = λ a. refl; fill = λ a. refl; restart_default = λ a. refl; fill_default = λ a. refl }
keeps_without name.Higher e = record { restart = λ a. refl; fill = λ a. refl; restart_default = λ a. refl; fill_default = λ a. refl }
keeps_without name.Lower e = record { restart = λ a. refl; fill = λ a. refl; restart_default = λ a. refl; fill_default = λ a. refl }
keeps_without (name.Text n) e = record { restart = λ a. refl; fill = λ a. refl; restart_default = λ a. refl; fill_default = λ a. refl }
