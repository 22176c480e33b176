-- An entry changes only what is kept for the items that it concerns.
use Rattle.std.proofs.Common.{◌≡◌, refl, sym, ◌∙◌, ap, ℕ, suc, List, [], length, Option, Some, None, ℤ, Bool, false, arith, inl, inr}
use Rattle.std.specs.Prelude.{cond, min, ◌+ℤ◌, ◌&&◌, ◌||◌, ◌==◌, slice_get}
use Rattle.std.specs.Str.{bytes_eq}
use Rattle.std.proofs.lemmas.Bool.{or_parts}
use Rattle.smil_instance_rows.specs.declared.item_times.InstanceTime.{InstanceTime}
use Rattle.smil_model.specs.declared.times.Time.{Time}
use Rattle.smil_model.specs.declared.diary.Entry.{Entry}
use Rattle.smil_model.specs.declared.diary.LogEntry.{LogEntry}
use Rattle.smil_model.specs.declared.diary.Happening.{Happening}
use Rattle.smil_model.specs.declared.diary.Happening.TheVariants as happening
use Rattle.smil_model.specs.declared.diary.Step.{Step}
use Rattle.smil_model.specs.declared.diary.Step.TheVariants.{Began, Repeated, Ended, Cut, Logged}
use Rattle.smil_model.specs.declared.document.Node.{Node}
use Rattle.smil_model.specs.declared.document.Edge.{Edge}
use Rattle.smil_model.specs.declared.document.Edge.TheVariants.{Begin, End}
use Rattle.smil_model.specs.declared.document.Item.{Item}
use Rattle.smil_model.specs.declared.document.Item.TheVariants.{Offset, Sync, Event, Repeat, Key, Indefinite}
use Rattle.smil_model.specs.Times.{within_horizon}
use Rattle.smil_model.specs.document.Document.{time_parent, previous_in_seq, element_named, target}
use Rattle.smil_model.specs.diary.Diary.{History, iteration, with_entry, birth, with_past, up_to}
use Rattle.smil_model.specs.diary.Clocks.{outer}
use Rattle.smil_model.specs.diary.Plays.{is_birth_under}
use Rattle.smil_model.specs.interval.Instances.{edge_time, hears, is_event, is_named, is_log_event, is_press, is_repeat}
use Rattle.smil_model.specs.reach.Reach.{subject, subject_of, logged_subject, is_option}
use Rattle.smil_diary.proofs.PlaceLists.{past-length}
use Rattle.smil_instances.specs.Laws.{IsUpTo}
use Rattle.smil_instances.specs.Contribution.{is_edge}
use Rattle.smil_instances.proofs.ChangingSteps.{is_reset_by, concerns_edges, concerns_offset, concerns_named, concerns_heard, may_change}
use Rattle.smil_instance_rows.specs.Rows.{from_place}
use Rattle.smil_instances.specs.SettledTimes.{edge_instances, heard_time, heard_instances, offset_instances, named_instances, event_instances, repeat_instances, instances_of, occurs_event, occurs_repeat, occurs_key}
use Rattle.smil_instances.proofs.NextItemTimes.{with_time, next_edges, next_heard, next_offset, next_start, next_of, next_named, next_event, next_repeat}
use Rattle.smil_instances.proofs.PlacedLists.{placed, beyond, from_twice}
use Rattle.smil_instances.proofs.ResetPlaces.{Stays, birth-stays, min-stays}
use Rattle.smil_instances.proofs.NotedEntry.{kept-next}

pub other_edge : (h : History) (e x : ℕ) (offset m : ℤ) (edge : Edge) (step : Step) → is_edge edge x step ≡ false → edge_time h e x offset m edge step ≡ None
other_edge h e x offset m Begin (Began who begin) q = rw q
other_edge h e x offset m End (Ended who end') q = rw q
other_edge h e x offset m End (Cut who) q = rw q
other_edge h e x offset m _ _ q = refl

-- a further cut at a place that stays takes nothing out
same_cut : {A : Type 0} (f : A → Option Time) (xs : List A) (k' k : ℕ) → Stays (length xs) k' k → from_place k' (from_place k (placed f 0 xs)) ≡ from_place k (placed f 0 xs)
same_cut f xs k' k (inl p) = ap (λ j. from_place j (from_place k (placed f 0 xs))) p.0 ∙ from_twice k k (placed f 0 xs) (omega arith)
same_cut f xs k' k (inr p) =
    let none : from_place k (placed f 0 xs) ≡ [] = beyond f k 0 xs (omega (arith, p.1)) in
    ap (from_place k') none ∙ sym none

-- what does not occur is not heard
pub unheard : (h : History) (y : Entry) (e : Node) (side : Edge) (item : Item) (offset : ℤ) (occurs : History → Step → Bool) → occurs (up_to h h.diary) y.step ≡ false → heard_time h e side item offset occurs h.diary y ≡ None
unheard h y e side item offset occurs not_now =
    ap (λ b. cond (b && hears (up_to h h.diary) e side item) (Some (within_horizon (outer h e.serial y.moment +ℤ offset))) None) not_now

pub event_other : (log : List LogEntry) (t : ℕ) (name : List ℕ) (step : Step) → is_option t (subject_of log step) ≡ false → is_event log t name step ≡ false
event_other log t name (Logged place) q = by_entry (slice_get log place) q
  where
    by_what : (w : Happening) → is_option t (subject w) ≡ false → is_named t name w ≡ false
    by_what (happening.Event who own) r = ap (λ b. b && bytes_eq own name) (swapped who r)
      where
        swapped : (w : ℕ) → t == w ≡ false → w == t ≡ false
        swapped w r = grind (arith, r)
    by_what _ r = refl

    by_entry : (o : Option LogEntry) → is_option t (logged_subject o) ≡ false → is_log_event t name o ≡ false
    by_entry None r = refl
    by_entry (Some entry) r = by_what entry.what r
event_other log t name (Began who begin) q = let r : who == t ≡ false = grind (arith, q) in rw r
event_other log t name (Ended who end') q = let r : who == t ≡ false = grind (arith, q) in rw r
event_other log t name (Cut who) q = let r : who == t ≡ false = grind (arith, q) in rw r
event_other log t name (Repeated who start) q = let r : who == t ≡ false = grind (arith, q) in rw r
event_other log t name _ q = refl

pub repeat_other : (log : List LogEntry) (past : History) (t n : ℕ) (step : Step) → is_option t (subject_of log step) ≡ false → is_repeat past t n step ≡ false
repeat_other log past t n (Repeated who start) q = let r : who == t ≡ false = grind (arith, q) in ap (λ b. b && (suc (iteration past t) == n)) r
repeat_other log past t n _ q = refl

module _ (h : History) (y : Entry) where
  -- where it gives no time and no birth
  pub edges_left : (e x : ℕ) (offset : ℤ) (edge : Edge) → edge_time h e x offset y.moment edge y.step ≡ None → is_reset_by h.nodes e y.step ≡ false → is_reset_by h.nodes x y.step ≡ false → next_edges h y e x offset edge (edge_instances h e x offset edge) ≡ edge_instances h e x offset edge
  edges_left e x offset edge none own other =
      ap (λ o. from_place (min (birth (with_entry h y) e) (birth (with_entry h y) x)) (with_time (length h.diary) o (edge_instances h e x offset edge))) none
      ∙ same_cut (λ (z : Entry). edge_time h e x offset z.moment edge z.step) h.diary (min (birth (with_entry h y) e) (birth (with_entry h y) x)) (min (birth h e) (birth h x))
      (min-stays (length h.diary) (birth (with_entry h y) e) (birth h e) (birth (with_entry h y) x) (birth h x) (birth-stays h y e own) (birth-stays h y x other))

  pub heard_left : (e : Node) (side : Edge) (item : Item) (offset : ℤ) (occurs : History → Step → Bool) → heard_time h e side item offset occurs h.diary y ≡ None → is_reset_by h.nodes e.serial y.step ≡ false → next_heard h y e side item offset occurs (heard_instances h e side item offset occurs) ≡ heard_instances h e side item offset occurs
  heard_left e side item offset occurs none q =
      ap (λ o. from_place (birth (with_entry h y) e.serial) (with_time (length h.diary) o (heard_instances h e side item offset occurs))) none
      ∙ same_cut (λ (p : List Entry × Entry). heard_time h e side item offset occurs p.0 p.1) (with_past [] h.diary) (birth (with_entry h y) e.serial) (birth h e.serial)
      (moved (past-length [] h.diary) (birth-stays h y e.serial q))
    where
      moved : {n m k' k : ℕ} → m ≡ n → Stays n k' k → Stays m k' k
      moved same (inl p) = inl (p.0, omega (arith, p.1, same))
      moved same (inr p) = inr (omega (arith, p.0, same), omega (arith, p.1, same))

  pub start_left : (o : Option Node) (offset : ℤ) (kept : List InstanceTime) → is_birth_under o y.step ≡ false → next_start h y o offset kept ≡ kept
  start_left None offset kept r = refl
  start_left (Some p) offset kept r = rw r

  edges_stay : (e x : ℕ) (offset : ℤ) (edge : Edge) → concerns_edges h.nodes y.step e x edge ≡ false → next_edges h y e x offset edge (edge_instances h e x offset edge) ≡ edge_instances h e x offset edge
  edges_stay e x offset edge q =
      let a = or_parts (is_edge edge x y.step) (is_reset_by h.nodes e y.step || is_reset_by h.nodes x y.step) q in
      let b = or_parts (is_reset_by h.nodes e y.step) (is_reset_by h.nodes x y.step) a.1 in
      edges_left e x offset edge (other_edge h e x offset y.moment edge y.step a.0) b.0 b.1

  heard_stays : (e : Node) (side : Edge) (item : Item) (offset : ℤ) (occurs : History → Step → Bool) → occurs (up_to h h.diary) y.step ≡ false → is_reset_by h.nodes e.serial y.step ≡ false → next_heard h y e side item offset occurs (heard_instances h e side item offset occurs) ≡ heard_instances h e side item offset occurs
  heard_stays e side item offset occurs not_now q =
      heard_left e side item offset occurs (unheard h y e side item offset occurs not_now) q

  offset_stays : (e : ℕ) (offset : ℤ) (o : Option Node) → concerns_offset h.nodes y.step e o ≡ false → next_offset h y e offset o (offset_instances h e offset o) ≡ offset_instances h e offset o
  offset_stays e offset (Some before) q = edges_stay e before.serial offset End q
  offset_stays e offset None q = start_left (time_parent h.nodes e) offset (offset_instances h e offset None) q

  item_stays : (e : Node) (side : Edge) (item : Item) → may_change h.nodes h.log y.step e.serial item ≡ false → next_of h y e side item (instances_of h e side item) ≡ instances_of h e side item
  item_stays e side (Offset offset) q = offset_stays e.serial offset (previous_in_seq h.nodes e.serial) q
  item_stays e side (Sync who edge offset) q = by_node (element_named h.nodes who) q
    where
      by_node : (o : Option Node) → concerns_named h.nodes y.step e.serial edge o ≡ false → next_named h y e.serial offset edge o (named_instances h e.serial offset edge o) ≡ named_instances h e.serial offset edge o
      by_node None r = refl
      by_node (Some x) r = edges_stay e.serial x.serial offset edge r
  item_stays e side (Event who name offset) q = by_target (target h.nodes e.serial who) q
    where
      by_target : (o : Option ℕ) → concerns_heard h.nodes h.log y.step e.serial o ≡ false → next_event h y e side (Event who name offset) offset name o (event_instances h e side (Event who name offset) offset name o) ≡ event_instances h e side (Event who name offset) offset name o
      by_target None r = refl
      by_target (Some t) r =
          let a = or_parts (is_option t (subject_of h.log y.step)) (is_reset_by h.nodes e.serial y.step) r in
          heard_stays e side (Event who name offset) offset (occurs_event t name) (event_other h.log t name y.step a.0) a.1
  item_stays e side (Repeat who n offset) q = by_target (target h.nodes e.serial who) q
    where
      by_target : (o : Option ℕ) → concerns_heard h.nodes h.log y.step e.serial o ≡ false → next_repeat h y e side (Repeat who n offset) offset n o (repeat_instances h e side (Repeat who n offset) offset n o) ≡ repeat_instances h e side (Repeat who n offset) offset n o
      by_target None r = refl
      by_target (Some t) r =
          let a = or_parts (is_option t (subject_of h.log y.step)) (is_reset_by h.nodes e.serial y.step) r in
          heard_stays e side (Repeat who n offset) offset (occurs_repeat t n) (repeat_other h.log (up_to h h.diary) t n y.step a.0) a.1
  item_stays e side (Key key offset) q =
      let a = or_parts (is_press h.log key y.step) (is_reset_by h.nodes e.serial y.step) q in
      heard_stays e side (Key key offset) offset (occurs_key key) a.0 a.1
  item_stays e side Indefinite q = refl

  pub kept_stays : (e : Node) (side : Edge) (item : Item) → IsUpTo y.moment h.diary → may_change h.nodes h.log y.step e.serial item ≡ false → instances_of (with_entry h y) e side item ≡ instances_of h e side item
  kept_stays e side item timely q = kept-next h y timely e side item ∙ item_stays e side item q
