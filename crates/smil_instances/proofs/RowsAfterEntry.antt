-- The rows after an entry, once what it gives was added and what is no longer kept was taken out.
use Rattle.std.proofs.Common.{◌≡◌, refl, sym, ◌∙◌, ap, subst, inl, inr, ℕ, suc, zero, ◌+◌, ◌≤◌, ◌<◌, List, [], ◌∷◌, ◌++◌, length, Option, Some, None, Bool, true, false, arith}
use Rattle.std.specs.Prelude.{cond, fold, map, get_or, slice_get, ◌&&◌, is_some, count_by, option_to_list, ◌⊎◌, nat_le, ℤ}
use Rattle.std.specs.List.{cons_option}
use Rattle.std.proofs.lemmas.List.Elements.{All-cons}
use Rattle.smil_model.specs.declared.times.Time.{Time}
use Rattle.smil_model.specs.declared.diary.Entry.{Entry}
use Rattle.smil_model.specs.declared.diary.LogEntry.{LogEntry}
use Rattle.smil_model.specs.declared.diary.Step.{Step}
use Rattle.smil_model.specs.declared.document.Edge.{Edge}
use Rattle.smil_model.specs.declared.document.Edge.TheVariants.{End}
use Rattle.smil_model.specs.declared.document.Item.{Item}
use Rattle.smil_model.specs.declared.document.Item.TheVariants.{Offset, Sync, Event, Repeat, Key, Indefinite}
use Rattle.smil_model.specs.declared.document.Node.{Node}
use Rattle.smil_model.specs.document.Document.{elements, element_named, previous_in_seq, target}
use Rattle.smil_model.specs.diary.Diary.{History, with_past}
use Rattle.smil_model.specs.diary.Lawful.{IsLawful}
use Rattle.smil_model.specs.document.Valid.{IsDistinct}
use Rattle.smil_model.specs.diary.Clocks.{parent_start}
use Rattle.smil_model.specs.interval.Instances.{edge_time}
use Rattle.smil_model.specs.reach.Reach.{key_of, subject_of}
use Rattle.smil_instance_rows.specs.declared.item_times.InstanceTime.{InstanceTime}
use Rattle.smil_instance_rows.specs.declared.cell.Cell.{Cell}
use Rattle.smil_instances.specs.Laws.{IsUpTo}
use Rattle.smil_instance_rows.specs.Places.{IsNotAfter}
use Rattle.smil_instances.specs.Contribution.{given_edge, given_by, given_at, offset_given}
use Rattle.smil_instance_rows.specs.Rows.{ElementTimes, at_place, from_place, instance_at}
use Rattle.smil_instances.specs.SettledTimes.{all_edges, all_heard, heard_time, at_start, instances_of, offset_instances, named_instances, event_instances, repeat_instances, settled_rows, occurs_event, occurs_key, occurs_repeat}
use Rattle.smil_instances.specs.Sources.{is_concerned, is_keyed, item_under, source_at, source_by, source_of, AreThose, is_cell}
use Rattle.smil_model.specs.document.Defaults.{items_of}
use Rattle.smil_laws.specs.Resolved.{is_opening}
use Rattle.smil_diary.proofs.PlaceLists.{past-length}
use Rattle.smil_instance_rows.specs.Changes.{HasCell, cell_of, with_adds, Fits}
use Rattle.smil_instances.specs.Updates.{BearsNone, EntriesAreTakenIn, OnlyConcernedChange, concerned_by, remaining}
use Rattle.smil_instances.proofs.PlacedLists.{placed}
use Rattle.smil_instances.specs.Intake.{shape_of, adds_to, given_item, given_to, given_under, is_concerned_cell, concerned_under, remaining_at, remaining_under, with_remainder, with_remainders, HasItem, HaveItems, AreRowsOf}
use Rattle.smil_instances.proofs.RowShapes.{same_rows, cell_itself, has_too, item_cell, kept_in, kept_item, kept_under, settled_cell, settled_shape}
use Rattle.smil_instances.proofs.KeptGifts.{kept_with_gift}
use Rattle.smil_instances.proofs.CellUpdates.{count_first, all_other, all_own, all_shape, each_add, fit, gifts, trims, with_given, and_given, IsReady}
use Rattle.smil_instances.proofs.ConcernedCells.{element_alone, source_here}

-- ---- concerned cells have items

concerned_item : (nodes : List Node) (birth : Bool) (on key : Option ℕ) (cell : Cell) → is_concerned_cell nodes birth on key cell ≡ true → HasItem nodes cell
concerned_item nodes birth on key cell q = by (slice_get (elements nodes) cell.row) refl q
  where
    nothing : (b : Bool) → (b && false) ≡ true → ⊥
    nothing true r = cc
    nothing false r = cc

    by_item : (e : Node) (x : ℕ) (o : Option Item) → is_concerned nodes birth x e.serial (source_by nodes e.serial o) ≡ true → is_some o ≡ true
    by_item e x None r = absurd (nothing birth r)
    by_item e x (Some item) r = refl

    by_key : (e : ℕ) (k : Option ℕ) (o : Option Item) → is_keyed k (source_by nodes e o) ≡ true → is_some o ≡ true
    by_key e None None r = cc
    by_key e (Some k) None r = cc
    by_key e k (Some item) r = refl

    by_entry : (e : Node) → slice_get (elements nodes) cell.row ≡ Some e → (o : Option ℕ) → concerned_by nodes birth o key e.serial (source_at nodes cell) ≡ true → is_some (slice_get (items_of nodes cell.side e) cell.item) ≡ true
    by_entry e here None r = by_key e.serial key (slice_get (items_of nodes cell.side e) cell.item) (ap (is_keyed key) (sym (source_here nodes cell e here)) ∙ r)
    by_entry e here (Some x) r = by_item e x (slice_get (items_of nodes cell.side e) cell.item) (ap (is_concerned nodes birth x e.serial) (sym (source_here nodes cell e here)) ∙ r)

    by : (o : Option Node) → slice_get (elements nodes) cell.row ≡ o → concerned_under nodes birth on key cell o ≡ true → is_some (item_under nodes cell (slice_get (elements nodes) cell.row)) ≡ true
    by None here r = cc
    by (Some e) here r = ap (λ o. is_some (item_under nodes cell o)) here ∙ by_entry e here on r

counted_at : (cells : List Cell) (j : ℕ) (d : Cell) → j < length cells → 1 ≤ count_by (is_cell (get_or cells j d)) cells
counted_at [] j d below = absurd (omega (arith, below))
counted_at (c ∷ cs) zero d below = omega (arith, count_first (is_cell c) c cs, ap {B = ℕ} (λ t. cond t 1 0) (cell_itself c))
counted_at (c ∷ cs) (suc j) d below = omega (arith, counted_at cs j d (omega (arith, below)), count_first (is_cell (get_or cs j d)) c cs)

-- each of some cells that an entry concerns has an item
have_items : (nodes : List Node) (birth : Bool) (on key : Option ℕ) (cells : List Cell) → ((c : Cell) → is_concerned_cell nodes birth on key c ≡ false → count_by (is_cell c) cells ≡ 0) → HaveItems nodes cells
have_items nodes birth on key cells only = λ j d below. by (get_or cells j d) (is_concerned_cell nodes birth on key (get_or cells j d)) refl (counted_at cells j d below)
  where
    by : (c : Cell) (t : Bool) → is_concerned_cell nodes birth on key c ≡ t → 1 ≤ count_by (is_cell c) cells → HasItem nodes c
    by c true q some = concerned_item nodes birth on key c q
    by c false q some = let none = only c q in absurd (omega (arith, some, none))

-- and so has each of all of them
pub those_have_items : (nodes : List Node) (birth : Bool) (on key : Option ℕ) (cells : List Cell) → AreThose (is_concerned_cell nodes birth on key) cells → HaveItems nodes cells
those_have_items nodes birth on key cells those = have_items nodes birth on key cells (λ c q. those c ∙ ap (λ t. cond t 1 0) q)

-- ---- places

placed_below : {A : Type 0} (f : A → Option Time) (j k : ℕ) (xs : List A) → k + length xs ≤ j → IsNotAfter j (placed f k xs)
placed_below f j k [] up = λ i d below. absurd (omega (arith, below))
placed_below f j k (x ∷ xs) up = step (f x) (placed_below f j (suc k) xs (omega (arith, up)))
  where
    step : (o : Option Time) → IsNotAfter j (placed f (suc k) xs) → IsNotAfter j (cons_option (at_place k o) (placed f (suc k) xs))
    step None rest = rest
    step (Some t) rest = All-cons (λ (q : InstanceTime). q.place ≤ j) (instance_at k t) (placed f (suc k) xs) (omega (arith, up)) rest

from_below : (p j : ℕ) (ks : List InstanceTime) → IsNotAfter j ks → IsNotAfter j (from_place p ks)
from_below p j [] all = all
from_below p j (k ∷ ks) all = step (nat_le p k.place) (from_below p j ks (λ i d below. all (suc i) d (omega (arith, below))))
  where
    step : (t : Bool) → IsNotAfter j (from_place p ks) → IsNotAfter j (cond t (k ∷ from_place p ks) (from_place p ks))
    step true rest = All-cons (λ (q : InstanceTime). q.place ≤ j) k (from_place p ks) (all 0 k (omega arith)) rest
    step false rest = rest

empty_below : (j : ℕ) → IsNotAfter j []
empty_below j = λ i d below. absurd (omega (arith, below))

at_length : (n : ℕ) (o : Option Time) (kept : InstanceTime) → at_place n o ≡ Some kept → n ≡ kept.place
at_length n None kept q = cc
at_length n (Some t) kept q = let one : instance_at n t ≡ kept = cc in ap (λ (k : InstanceTime). k.place) one

module _ (h : History) (y : Entry) (e : Node) (side : Edge) where
  edges_below : (m x : ℕ) (offset : ℤ) (edge : Edge) (n : ℕ) → length h.diary ≡ n → IsNotAfter n (from_place m (all_edges h e.serial x offset edge))
  edges_below m x offset edge n q =
      from_below m n (all_edges h e.serial x offset edge)
      (placed_below (λ (z : Entry). edge_time h e.serial x offset z.moment edge z.step) n 0 h.diary (omega (arith, q)))

  heard_below : (m : ℕ) (item : Item) (offset : ℤ) (occurs : History → Step → Bool) (n : ℕ) → length h.diary ≡ n → IsNotAfter n (from_place m (all_heard h e side item offset occurs))
  heard_below m item offset occurs n q =
      from_below m n (all_heard h e side item offset occurs)
      (placed_below (λ (w : List Entry × Entry). heard_time h e side item offset occurs w.0 w.1) n 0 (with_past [] h.diary) (omega (arith, q, past-length [] h.diary)))

  -- what is kept is of no later place than what is given
  pub not_after : (item : Item) (kept : InstanceTime) → given_at h y e side item ≡ Some kept → IsNotAfter kept.place (instances_of h e side item)
  not_after (Offset offset) kept q = by (previous_in_seq h.nodes e.serial) q
    where
      by : (o : Option Node) → offset_given h y e.serial offset o ≡ Some kept → IsNotAfter kept.place (offset_instances h e.serial offset o)
      by None r = λ i d below. at_zero i d below
        where
          at_zero : (i : ℕ) (d : InstanceTime) → i < 1 → (get_or (at_start offset (parent_start h e.serial)) i d).place ≤ kept.place
          at_zero zero d below = omega arith
          at_zero (suc i) d below = absurd (omega (arith, below))
      by (Some b) r = edges_below _ b.serial offset End kept.place (at_length (length h.diary) (given_edge h y e.serial offset End (Some b)) kept r)
  not_after (Sync who edge offset) kept q = by (element_named h.nodes who) (at_length (length h.diary) (given_by h y e side (Sync who edge offset)) kept q)
    where
      by : (o : Option Node) → length h.diary ≡ kept.place → IsNotAfter kept.place (named_instances h e.serial offset edge o)
      by None r = empty_below kept.place
      by (Some x) r = edges_below _ x.serial offset edge kept.place r
  not_after (Event who name offset) kept q = by (target h.nodes e.serial who) (at_length (length h.diary) (given_by h y e side (Event who name offset)) kept q)
    where
      by : (o : Option ℕ) → length h.diary ≡ kept.place → IsNotAfter kept.place (event_instances h e side (Event who name offset) offset name o)
      by None r = empty_below kept.place
      by (Some x) r = heard_below _ (Event who name offset) offset (occurs_event x name) kept.place r
  not_after (Repeat who n offset) kept q = by (target h.nodes e.serial who) (at_length (length h.diary) (given_by h y e side (Repeat who n offset)) kept q)
    where
      by : (o : Option ℕ) → length h.diary ≡ kept.place → IsNotAfter kept.place (repeat_instances h e side (Repeat who n offset) offset n o)
      by None r = empty_below kept.place
      by (Some x) r = heard_below _ (Repeat who n offset) offset (occurs_repeat x n) kept.place r
  not_after (Key key offset) kept q =
      heard_below _ (Key key offset) offset (occurs_key key) kept.place (at_length (length h.diary) (given_by h y e side (Key key offset)) kept q)
  not_after Indefinite kept q = cc

-- ---- the item of a cell

record IsItemOf (nodes : List Node) (cell : Cell) : Type 0 where
  element : Node
  item : Item
  here : slice_get (elements nodes) cell.row ≡ Some element
  at : slice_get (items_of nodes cell.side element) cell.item ≡ Some item

item_of : (nodes : List Node) (cell : Cell) → HasItem nodes cell → IsItemOf nodes cell
item_of nodes cell has = by (slice_get (elements nodes) cell.row) refl has
  where
    by_item : (e : Node) → slice_get (elements nodes) cell.row ≡ Some e → (o : Option Item) → slice_get (items_of nodes cell.side e) cell.item ≡ o → is_some o ≡ true → IsItemOf nodes cell
    by_item e here None q r = cc
    by_item e here (Some i) q r = record { element = e; item = i; here = here; at = q }

    by : (o : Option Node) → slice_get (elements nodes) cell.row ≡ o → is_some (item_under nodes cell o) ≡ true → IsItemOf nodes cell
    by None q r = cc
    by (Some e) q r = by_item e q (slice_get (items_of nodes cell.side e) cell.item) refl r

-- ---- one entry more

module _ (nodes : List Node) (log : List LogEntry) (before : List Entry) (y : Entry) where
  abbrev past : History
  past = record { nodes = nodes; log = log; diary = before }

  abbrev now : History
  now = record { nodes = nodes; log = log; diary = before ++ y ∷ [] }

  abbrev test : Cell → Bool
  test cell = is_concerned_cell nodes (is_opening y.step) (subject_of log y.step) (key_of log y.step) cell

  abbrev changed : Cell → List InstanceTime
  changed cell = remaining_at now cell (kept_in past cell ++ option_to_list (given_to past y cell))

  module _ (cell : Cell) (e : Node) (item : Item) (here : slice_get (elements nodes) cell.row ≡ Some e) (at : slice_get (items_of nodes cell.side e) cell.item ≡ Some item) where
    source_is : source_at nodes cell ≡ source_of nodes e.serial item
    source_is = source_here nodes cell e here ∙ ap (source_by nodes e.serial) at

    kept_past : kept_in past cell ≡ instances_of past e cell.side item
    kept_past = ap (kept_under past cell.side cell.item) here ∙ ap (kept_item past e cell.side) at

    kept_now : kept_in now cell ≡ instances_of now e cell.side item
    kept_now = ap (kept_under now cell.side cell.item) here ∙ ap (kept_item now e cell.side) at

    given_here : given_to past y cell ≡ given_at past y e cell.side item
    given_here = ap (given_under past y cell) here ∙ ap (given_item past y e cell.side) at

    trimmed_there : (kept : List InstanceTime) → remaining_at now cell kept ≡ remaining now e.serial (source_of nodes e.serial item) kept
    trimmed_there kept = ap (λ o. remaining_under now cell o kept) here ∙ ap (λ s. remaining now e.serial s kept) source_is

    taken : EntriesAreTakenIn → IsUpTo y.moment before → kept_in now cell ≡ changed cell
    taken law timely =
        kept_now
        ∙ law past y e cell.side item timely
        ∙ ap (λ ks. remaining now e.serial (source_of nodes e.serial item) (ks ++ option_to_list (given_at past y e cell.side item))) (sym kept_past)
        ∙ ap (λ o. remaining now e.serial (source_of nodes e.serial item) (kept_in past cell ++ option_to_list o)) (sym given_here)
        ∙ sym (trimmed_there (kept_in past cell ++ option_to_list (given_to past y cell)))

    grown : IsDistinct nodes → IsLawful now → BearsNone nodes y.step → IsUpTo y.moment before → kept_in now cell ≡ kept_in past cell ++ option_to_list (given_to past y cell)
    grown distinct lawful bears timely =
        kept_now
        ∙ kept_with_gift past y lawful bears e cell.side (element_alone nodes cell.row e distinct here) item timely
        ∙ ap (λ ks. ks ++ option_to_list (given_at past y e cell.side item)) (sym kept_past)
        ∙ ap (λ o. kept_in past cell ++ option_to_list o) (sym given_here)

    left : OnlyConcernedChange → IsUpTo y.moment before → test cell ≡ false → kept_in now cell ≡ kept_in past cell
    left law timely q =
        kept_now
        ∙ law past y e cell.side item timely
        (ap (concerned_by nodes (is_opening y.step) (subject_of log y.step) (key_of log y.step) e.serial) (sym source_is)
        ∙ sym (ap (concerned_under nodes (is_opening y.step) (subject_of log y.step) (key_of log y.step) cell) here) ∙ q)
        ∙ sym kept_past

    ready_order : (rows : List ElementTimes) → rows ≡ settled_rows past → (kept : InstanceTime) → given_to past y cell ≡ Some kept → IsNotAfter kept.place (cell_of rows cell)
    ready_order rows are kept q =
        subst (IsNotAfter kept.place) (sym (ap (λ rs. cell_of rs cell) are ∙ settled_cell past cell ∙ kept_past))
        (not_after past y e cell.side item kept (sym given_here ∙ q))

  unconcerned_left : OnlyConcernedChange → IsUpTo y.moment before → (cell : Cell) → test cell ≡ false → kept_in now cell ≡ kept_in past cell
  unconcerned_left law timely cell q = by (slice_get (elements nodes) cell.row) refl
    where
      by_item : (e : Node) → slice_get (elements nodes) cell.row ≡ Some e → (o : Option Item) → slice_get (items_of nodes cell.side e) cell.item ≡ o → kept_in now cell ≡ kept_in past cell
      by_item e here None at =
          ap (kept_under now cell.side cell.item) here ∙ ap (kept_item now e cell.side) at
          ∙ sym (ap (kept_under past cell.side cell.item) here ∙ ap (kept_item past e cell.side) at)
      by_item e here (Some item) at = left cell e item here at law timely q

      by : (o : Option Node) → slice_get (elements nodes) cell.row ≡ o → kept_in now cell ≡ kept_in past cell
      by None here = ap (kept_under now cell.side cell.item) here ∙ sym (ap (kept_under past cell.side cell.item) here)
      by (Some e) here = by_item e here (slice_get (items_of nodes cell.side e) cell.item) refl

  module _ (cells : List Cell) (those : AreThose test cells) (rows : List ElementTimes) (are : rows ≡ settled_rows past) where
    rows_of : AreRowsOf nodes rows
    rows_of = ap (map shape_of) are ∙ settled_shape past

    -- the adds fit the rows
    pub adds_fit : Fits rows (adds_to past y cells)
    adds_fit = fit (given_to past y) rows cells (λ d. by d (test d) refl)
      where
        ready : (d : Cell) → test d ≡ true → IsReady (given_to past y) rows d
        ready d q =
            let is = item_of nodes d (concerned_item nodes (is_opening y.step) (subject_of log y.step) (key_of log y.step) d q) in
            record {
              has = item_cell nodes rows d is.element is.item rows_of is.here is.at;
              order = ready_order d is.element is.item is.here is.at rows are;
            }

        by : (d : Cell) (t : Bool) → test d ≡ t → (count_by (is_cell d) cells ≡ 0) ⊎ ((count_by (is_cell d) cells ≡ 1) × IsReady (given_to past y) rows d)
        by d true q = inr (those d ∙ ap (λ t. cond t 1 0) q, ready d q)
        by d false q = inl (those d ∙ ap (λ t. cond t 1 0) q)

    -- a cell is trimmed once, or what is kept for it stays, with what it is given
    abbrev IsDone : List Cell → Cell → Type 0
    IsDone trimmed d = (count_by (is_cell d) trimmed ≡ 1) ⊎ ((count_by (is_cell d) trimmed ≡ 0) × (kept_in now d ≡ kept_in past d ++ option_to_list (given_to past y d)))

    -- the rows are then those of the diary with the entry
    done_in : (trimmed : List Cell) → ((d : Cell) → test d ≡ true → IsDone trimmed d) → ((d : Cell) → test d ≡ false → count_by (is_cell d) trimmed ≡ 0) → EntriesAreTakenIn → OnlyConcernedChange → IsUpTo y.moment before → with_remainders now (with_adds rows (adds_to past y cells)) trimmed ≡ settled_rows now
    done_in trimmed done off entries only timely =
        same_rows (with_remainders now (with_adds rows (adds_to past y cells)) trimmed) (settled_rows now)
        (all_shape (with_remainder now) (remaining_at now) (trims now) (with_adds rows (adds_to past y cells)) trimmed ∙ added_shape ∙ rows_of ∙ sym (settled_shape now))
        (λ d. by d (test d) refl)
      where
        added_is : (with_adds rows (adds_to past y cells)) ≡ fold (with_given (given_to past y)) rows cells
        added_is = each_add (given_to past y) rows cells

        added_shape : map shape_of (with_adds rows (adds_to past y cells)) ≡ map shape_of rows
        added_shape = ap (map shape_of) added_is ∙ all_shape (with_given (given_to past y)) (and_given (given_to past y)) (gifts (given_to past y)) rows cells

        old_cell : (d : Cell) → cell_of rows d ≡ kept_in past d
        old_cell d = ap (λ rs. cell_of rs d) are ∙ settled_cell past d

        own : (d : Cell) → test d ≡ true → count_by (is_cell d) cells ≡ 1 → IsDone trimmed d → cell_of (with_remainders now (with_adds rows (adds_to past y cells)) trimmed) d ≡ cell_of (settled_rows now) d
        own d q once (inl first) =
            let is = item_of nodes d (concerned_item nodes (is_opening y.step) (subject_of log y.step) (key_of log y.step) d q) in
            let has : HasCell rows d = item_cell nodes rows d is.element is.item rows_of is.here is.at in
            all_own (with_remainder now) (remaining_at now) (trims now) (with_adds rows (adds_to past y cells)) d trimmed (has_too rows (with_adds rows (adds_to past y cells)) d (sym added_shape) has) first
            ∙ ap (λ rs. remaining_at now d (cell_of rs d)) added_is
            ∙ ap (remaining_at now d) (all_own (with_given (given_to past y)) (and_given (given_to past y)) (gifts (given_to past y)) rows d cells has once)
            ∙ ap (λ ks. remaining_at now d (ks ++ option_to_list (given_to past y d))) (old_cell d)
            ∙ sym (taken d is.element is.item is.here is.at entries timely)
            ∙ sym (settled_cell now d)
        own d q once (inr p) =
            let is = item_of nodes d (concerned_item nodes (is_opening y.step) (subject_of log y.step) (key_of log y.step) d q) in
            let has : HasCell rows d = item_cell nodes rows d is.element is.item rows_of is.here is.at in
            all_other (with_remainder now) (remaining_at now) (trims now) (with_adds rows (adds_to past y cells)) d trimmed p.0
            ∙ ap (λ rs. cell_of rs d) added_is
            ∙ all_own (with_given (given_to past y)) (and_given (given_to past y)) (gifts (given_to past y)) rows d cells has once
            ∙ ap (λ ks. ks ++ option_to_list (given_to past y d)) (old_cell d)
            ∙ sym p.1
            ∙ sym (settled_cell now d)

        other : (d : Cell) → test d ≡ false → count_by (is_cell d) cells ≡ 0 → cell_of (with_remainders now (with_adds rows (adds_to past y cells)) trimmed) d ≡ cell_of (settled_rows now) d
        other d q none =
            all_other (with_remainder now) (remaining_at now) (trims now) (with_adds rows (adds_to past y cells)) d trimmed (off d q)
            ∙ ap (λ rs. cell_of rs d) added_is
            ∙ all_other (with_given (given_to past y)) (and_given (given_to past y)) (gifts (given_to past y)) rows d cells none
            ∙ old_cell d
            ∙ sym (unconcerned_left only timely d q)
            ∙ sym (settled_cell now d)

        by : (d : Cell) (t : Bool) → test d ≡ t → cell_of (with_remainders now (with_adds rows (adds_to past y cells)) trimmed) d ≡ cell_of (settled_rows now) d
        by d true q = own d q (those d ∙ ap (λ t. cond t 1 0) q) (done d q)
        by d false q = other d q (those d ∙ ap (λ t. cond t 1 0) q)

    -- where all the cells are trimmed
    pub taken_in : EntriesAreTakenIn → OnlyConcernedChange → IsUpTo y.moment before → with_remainders now (with_adds rows (adds_to past y cells)) cells ≡ settled_rows now
    taken_in =
        done_in cells (λ d q. inl (those d ∙ ap (λ t. cond t 1 0) q)) (λ d q. those d ∙ ap (λ t. cond t 1 0) q)

    -- where the entry is no birth, and none are trimmed
    pub taken_in_unborn : IsDistinct nodes → IsLawful now → BearsNone nodes y.step → EntriesAreTakenIn → OnlyConcernedChange → IsUpTo y.moment before → with_adds rows (adds_to past y cells) ≡ settled_rows now
    taken_in_unborn distinct lawful bears entries only timely = done_in [] stays (λ d q. refl) entries only timely
      where
        stays : (d : Cell) → test d ≡ true → IsDone [] d
        stays d q =
            let is = item_of nodes d (concerned_item nodes (is_opening y.step) (subject_of log y.step) (key_of log y.step) d q) in
            inr (refl, grown d is.element is.item is.here is.at distinct lawful bears timely)
