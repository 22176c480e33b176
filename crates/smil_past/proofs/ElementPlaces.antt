-- Where elements and their time parents stand.
use Rattle.std.proofs.Common.{◌≡◌, refl, sym, ◌∙◌, ap, subst, ℕ, ◌<◌, List, Option, Some, None, Bool, true, false, length, arith}
use Rattle.std.specs.Prelude.{cond, ◌==◌, nat_lt, option_and_then, option_map, is_some, slice_get, unwrap_or}
use Rattle.std.specs.List.{position}
use Rattle.std.proofs.lemmas.Bool.{lt-ltb, ltb-true}
use Rattle.std.proofs.lemmas.List.Folds.{find_at}
use Rattle.std.proofs.lemmas.Option.{slice_get_within}
use Rattle.smil_model.specs.declared.document.Node.{Node}
use Rattle.smil_model.specs.document.Document.{Document, ancestors, elements, is_element, node_at, serial_of, time_parent}
use Rattle.smil_model.specs.document.Edits.{place_in}
use Rattle.smil_model.specs.document.Valid.{IsDistinct, IsNumberedTree}
use Rattle.smil_laws.proofs.AsideDocuments.{find_true}
use Rattle.smil_stretch.proofs.NodePlaces.{place}
use Rattle.smil_instances.proofs.EmptyRows.{element_known}
use Rattle.smil_past.specs.declared.makeup.ParentIndex.{ParentIndex}
use Rattle.smil_past.specs.Makeups.{TellsPlaces, parent_index}
use Rattle.smil_past.proofs.ItemReferences.{kept_known}
use Rattle.smil_past.proofs.TimeParents.{parent_node, up}
use Rattle.smil_past.proofs.KnownNodes.{known_place}

-- a node that is found stands at its place
pub record StandsAt (ns : List Node) (s : ℕ) (n : Node) : Type 0 where
  pub at : slice_get ns (place_in ns s) ≡ Some n
  pub is : position (λ (m : Node). m.serial == s) ns ≡ Some (place_in ns s)
  pub within : place_in ns s < length ns

pub stands_at : (ns : List Node) (s : ℕ) (n : Node) → node_at ns s ≡ Some n → StandsAt ns s n
stands_at ns s n found =
    let at : slice_get ns (place s ns) ≡ Some n = sym (find_at (λ (m : Node). m.serial == s) ns) ∙ found in
    let within : place s ns < length ns = slice_get_within ns (place s ns) n at in
    let is : position (λ (m : Node). m.serial == s) ns ≡ Some (place s ns) = ap (λ t. cond t (Some (place s ns)) None) (lt-ltb (place s ns) (length ns) within) in
    let same : place s ns ≡ place_in ns s = sym (ap (λ o. unwrap_or o (length ns)) is) in
    record {
      at = ap (slice_get ns) (sym same) ∙ at;
      is = is ∙ ap Some same;
      within = subst (λ k. k < length ns) same within;
    }

-- a place that is found is that of the serial
pub place_told : (ns : List Node) (s k : ℕ) → Some k ≡ position (λ (m : Node). m.serial == s) ns → k ≡ place_in ns s
place_told ns s k q = ap (λ o. unwrap_or o (length ns)) q

pub place_within : (ns : List Node) (s k : ℕ) → Some k ≡ position (λ (m : Node). m.serial == s) ns → k < length ns
place_within ns s k q = by (nat_lt (place s ns) (length ns)) refl q
  where
    by : (t : Bool) → nat_lt (place s ns) (length ns) ≡ t → Some k ≡ cond t (Some (place s ns)) None → k < length ns
    by true e r =
        let same : k ≡ place s ns = cc in
        let less = ltb-true (place s ns) (length ns) e in
        omega (arith, less, same)
    by false e r = cc

-- a time parent is found among the elements
pub parent_found : (nodes : List Node) (who : ℕ) (p : Node) → IsDistinct nodes → is_some (node_at nodes who) ≡ true → time_parent nodes who ≡ Some p → node_at (elements nodes) p.serial ≡ Some p
parent_found nodes who p distinct known under =
    kept_known nodes p.serial p (parent_node nodes who p distinct known under) (find_true is_element (ancestors nodes who) p under)

abbrev indexed : List Node → Node → ParentIndex
indexed nodes p = record { serial = p.serial; index = place_in (elements nodes) p.serial }

by_parent : (nodes : List Node) (who : ℕ) (o : Option Node) → IsDistinct nodes → is_some (node_at nodes who) ≡ true → time_parent nodes who ≡ o → option_and_then (λ (p : ParentIndex). slice_get (elements nodes) p.index) (option_map (indexed nodes) o) ≡ o
by_parent nodes who None distinct known under = refl
by_parent nodes who (Some p) distinct known under = (stands_at (elements nodes) p.serial p (parent_found nodes who p distinct known under)).at

by_serial : (nodes : List Node) (o : Option Node) → option_map (λ (p : ParentIndex). p.serial) (option_map (indexed nodes) o) ≡ serial_of o
by_serial nodes None = refl
by_serial nodes (Some p) = refl

-- no time parent
pub no_parent : (nodes : List Node) (who : ℕ) → None ≡ serial_of (time_parent nodes who) → None ≡ parent_index nodes who
no_parent nodes who q = by (time_parent nodes who) q
  where
    by : (o : Option Node) → None ≡ serial_of o → None ≡ option_map (indexed nodes) o
    by None r = refl
    by (Some p) r = cc

-- a time parent and its index
pub parent_is : (nodes : List Node) (who serial index : ℕ) → Some serial ≡ serial_of (time_parent nodes who) → index ≡ place_in (elements nodes) serial → Some (record { serial = serial; index = index }) ≡ parent_index nodes who
parent_is nodes who serial index q at = by (time_parent nodes who) q
  where
    by : (o : Option Node) → Some serial ≡ serial_of o → Some (record { serial = serial; index = index }) ≡ option_map (indexed nodes) o
    by None r = cc
    by (Some p) r =
        let same : serial ≡ p.serial = cc in
        ap (λ k. Some (record { serial = serial; index = k })) at ∙ ap (λ s. Some (record { serial = s; index = place_in (elements nodes) s })) same

-- the time parent has an index
pub parent_known : (nodes : List Node) (who serial : ℕ) → IsDistinct nodes → is_some (node_at nodes who) ≡ true → Some serial ≡ serial_of (time_parent nodes who) → is_some (position (λ (n : Node). n.serial == serial) (elements nodes)) ≡ true
parent_known nodes who serial distinct known q =
    let above = up nodes who serial distinct known q in
    known_place (elements nodes) serial
    (ap (λ s. is_some (node_at (elements nodes) s)) (sym above.serial) ∙ ap is_some (parent_found nodes who above.node distinct known above.under))

pub tells_places : (document : Document) (e : Node) → IsNumberedTree document → node_at (elements document.nodes) e.serial ≡ Some e → TellsPlaces document.nodes e
tells_places document e numbered found =
    let nodes = document.nodes in
    let there = stands_at (elements nodes) e.serial e found in
    let known : node_at nodes e.serial ≡ Some e = element_known document numbered (place_in (elements nodes) e.serial) e there.at in
    record {
      own = (stands_at nodes e.serial e known).at;
      parent = by_parent nodes e.serial (time_parent nodes e.serial) numbered.distinct (ap is_some known) refl;
      serial = by_serial nodes (time_parent nodes e.serial);
    }
