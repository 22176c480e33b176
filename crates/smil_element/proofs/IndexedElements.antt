-- An element by its index among the elements, and its time parent by that in its makeup.
use Rattle.std.proofs.Common.{◌≡◌, refl, sym, ◌∙◌, ap, ℕ, ◌<◌, List, length, Option, Some, None, true, arith}
use Rattle.std.specs.Prelude.{map, option_and_then, option_map, slice_get}
use Rattle.std.proofs.lemmas.List.{length-map}
use Rattle.std.proofs.lemmas.Option.{slice_get_within}
use Rattle.smil_model.specs.declared.document.Node.{Node}
use Rattle.smil_model.specs.document.Document.{Document, elements, node_at, serial_of, time_parent}
use Rattle.smil_model.specs.document.Valid.{IsNumberedTree}
use Rattle.smil_model.specs.diary.Diary.{History}
use Rattle.smil_model.specs.diary.Lawful.{has_element}
use Rattle.smil_instance_rows.specs.Rows.{ElementTimes}
use Rattle.smil_instances.specs.SettledTimes.{row_of, settled_rows}
use Rattle.smil_instances.proofs.IdTargets.{element_of}
use Rattle.smil_instances.proofs.SensitiveItems.{serial_is}
use Rattle.smil_past.specs.declared.makeup.ParentIndex.{ParentIndex}
use Rattle.smil_past.specs.declared.plays.facts.PlayFacts.{PlayFacts}
use Rattle.smil_past.specs.declared.makeup.Makeup.{Makeup}
use Rattle.smil_past.specs.Makeups.{MakeupsTellPlaces, TellsPlaces, makeup_of}
use Rattle.smil_past.specs.Played.{all_played, played}
use Rattle.smil_past.specs.Syncs.{SyncRow, all_syncs, sync_row}

-- the element with this serial stands at this index
pub record IsHere (nodes : List Node) (index who : ℕ) : Type 0 where
  pub node : Node
  pub at : slice_get (elements nodes) index ≡ Some node
  pub known : node_at (elements nodes) who ≡ Some node
  pub own : node_at (elements nodes) node.serial ≡ Some node
  pub serial : node.serial ≡ who
  pub within : index < length (elements nodes)

pub element_here : (nodes : List Node) (index who : ℕ) → has_element nodes who ≡ true → slice_get (elements nodes) index ≡ node_at (elements nodes) who → IsHere nodes index who
element_here nodes index who known here =
    let found = element_of nodes who known in
    let serial = serial_is nodes who found.0 found.1 in
    record {
      node = found.0;
      at = here ∙ found.1;
      known = found.1;
      own = ap (node_at (elements nodes)) serial ∙ found.1;
      serial = serial;
      within = slice_get_within (elements nodes) index found.0 (here ∙ found.1);
    }

-- ---- what is kept of all elements reaches as far as they do

within_all : {A : Type 0} (f : Node → A) (nodes : List Node) (rows : List A) (k : ℕ) → rows ≡ map f (elements nodes) → k < length (elements nodes) → k < length rows
within_all f nodes rows k is inside =
    let count : length rows ≡ length (elements nodes) = ap length is ∙ length-map (elements nodes) f in
    omega (arith, count, inside)

pub plays_within : (h : History) (rows : List (ℕ × PlayFacts)) (k : ℕ) → rows ≡ all_played h → k < length (elements h.nodes) → k < length rows
plays_within h rows k is inside = within_all (λ (e : Node). (e.serial, played h e.serial)) h.nodes rows k is inside

pub syncs_within : (nodes : List Node) (rows : List SyncRow) (k : ℕ) → rows ≡ all_syncs nodes → k < length (elements nodes) → k < length rows
syncs_within nodes rows k is inside = within_all (sync_row nodes) nodes rows k is inside

pub times_within : (h : History) (rows : List ElementTimes) (k : ℕ) → rows ≡ settled_rows h → k < length (elements h.nodes) → k < length rows
times_within h rows k is inside = within_all (row_of h) h.nodes rows k is inside

-- ---- the makeup, and the time parent

-- the time parent of an element stands at this index
pub record IsUnder (nodes : List Node) (who index : ℕ) : Type 0 where
  pub node : Node
  pub at : slice_get (elements nodes) index ≡ Some node
  pub is : time_parent nodes who ≡ Some node
  pub within : index < length (elements nodes)

abbrev at_parent : List Node → ParentIndex → Option Node
at_parent nodes p = slice_get (elements nodes) p.index

module _ (document : Document) (numbered : IsNumberedTree document) (tell : MakeupsTellPlaces) (index who : ℕ) (here : IsHere document.nodes index who) where
  tells : TellsPlaces document.nodes here.node
  tells = tell document here.node numbered here.own

  pub makeup_is : (rows : List SyncRow) (row : SyncRow) (makeup : Makeup) → rows ≡ all_syncs document.nodes → ((nodes : List Node) (e : Node) → rows ≡ all_syncs nodes → slice_get (elements nodes) index ≡ Some e → row ≡ sync_row nodes e) → makeup ≡ row.makeup → makeup ≡ makeup_of document.nodes here.node
  makeup_is rows row makeup all told is = is ∙ ap (λ (r : SyncRow). r.makeup) (told document.nodes here.node all here.at)

  module _ (makeup : Makeup) (is : makeup ≡ makeup_of document.nodes here.node) where
    pub own_place : slice_get document.nodes makeup.node ≡ Some here.node
    own_place = ap (λ (m : Makeup). slice_get document.nodes m.node) is ∙ tells.own

    pub parent_serial : option_map (λ (p : ParentIndex). p.serial) makeup.parent ≡ serial_of (time_parent document.nodes who)
    parent_serial =
        ap (λ (m : Makeup). option_map (λ (p : ParentIndex). p.serial) m.parent) is ∙ tells.serial
        ∙ ap (λ s. serial_of (time_parent document.nodes s)) here.serial

    parent_at : option_and_then (at_parent document.nodes) makeup.parent ≡ time_parent document.nodes who
    parent_at =
        ap (λ (m : Makeup). option_and_then (at_parent document.nodes) m.parent) is ∙ tells.parent ∙ ap (time_parent document.nodes) here.serial

    pub no_parent : makeup.parent ≡ None → time_parent document.nodes who ≡ None
    no_parent none = sym parent_at ∙ ap (option_and_then (at_parent document.nodes)) none

    pub parent_here : (p : ParentIndex) → makeup.parent ≡ Some p → IsUnder document.nodes who p.index
    parent_here p some = by (time_parent document.nodes who) refl
      where
        by : (t : Option Node) → time_parent document.nodes who ≡ t → IsUnder document.nodes who p.index
        by None none =
            let never : Some p.serial ≡ None = sym (ap (option_map (λ (q : ParentIndex). q.serial)) some) ∙ parent_serial ∙ ap serial_of none in
            absurd (cc)
        by (Some n) there =
            let at : slice_get (elements document.nodes) p.index ≡ Some n = sym (ap (option_and_then (at_parent document.nodes)) some) ∙ parent_at ∙ there in
            record {
              node = n;
              at = at;
              is = there;
              within = slice_get_within (elements document.nodes) p.index n at;
            }
