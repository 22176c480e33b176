-- What an entry gives to an item, by the item's source.
use Rattle.std.proofs.Common.{◌≡◌, refl, sym, ◌∙◌, ap, ℕ, ℤ, List, Option, Some, None, true, false}
use Rattle.std.specs.Prelude.{cond, length, ◌+ℤ◌, ◌&&◌}
use Rattle.smil_model.specs.declared.times.Time.{Time}
use Rattle.smil_model.specs.declared.diary.Entry.{Entry}
use Rattle.smil_model.specs.declared.document.Node.{Node}
use Rattle.smil_model.specs.declared.document.Edge.{Edge}
use Rattle.smil_model.specs.declared.document.Edge.TheVariants.{End}
use Rattle.smil_model.specs.declared.document.Item.{Item}
use Rattle.smil_model.specs.declared.document.Item.TheVariants.{Offset, Sync, Event, Repeat, Key, Indefinite}
use Rattle.smil_model.specs.Times.{within_horizon}
use Rattle.smil_model.specs.document.Document.{element_named, previous_in_seq, target, time_parent}
use Rattle.smil_model.specs.diary.Diary.{History}
use Rattle.smil_model.specs.diary.Clocks.{outer}
use Rattle.smil_model.specs.interval.Instances.{edge_time, hears}
use Rattle.smil_instances.specs.declared.source.Source.TheVariants as source
use Rattle.smil_instances.specs.Contribution.{given_edge, given_event, given_repeat, given_at, offset_given, start_time, given_heard, offset_of}
use Rattle.smil_instance_rows.specs.Rows.{at_place, instance_at}
use Rattle.smil_instances.specs.Sources.{eventbase, source_of, syncbase_or}
use Rattle.smil_instances.specs.Occurrence.{occurs_in, target_of}

-- ---- what a source tells

is_eventbase : (o : Option ℕ) (x : ℕ) → eventbase o ≡ source.Eventbase x → o ≡ Some x
is_eventbase None x q = cc
is_eventbase (Some z) x q = let one : z ≡ x = cc in ap Some one

pub means : (nodes : List Node) (e : ℕ) (item : Item) (x : ℕ) → source_of nodes e item ≡ source.Eventbase x → target_of nodes e item ≡ Some x
means nodes e (Offset offset) x q = by (previous_in_seq nodes e) q
  where
    by : (o : Option Node) → syncbase_or source.Start End o ≡ source.Eventbase x → target_of nodes e (Offset offset) ≡ Some x
    by None r = cc
    by (Some b) r = cc
means nodes e (Sync who edge offset) x q = by (element_named nodes who) q
  where
    by : (o : Option Node) → syncbase_or source.Nothing edge o ≡ source.Eventbase x → target_of nodes e (Sync who edge offset) ≡ Some x
    by None r = cc
    by (Some b) r = cc
means nodes e (Event who name offset) x q = is_eventbase (target nodes e who) x q
means nodes e (Repeat who n offset) x q = is_eventbase (target nodes e who) x q
means nodes e _ x q = cc

-- an item whose source is a key means no element
pub key_means : (nodes : List Node) (e : ℕ) (item : Item) (k : ℕ) → source_of nodes e item ≡ source.Key k → None ≡ target_of nodes e item
key_means nodes e (Offset offset) k q = refl
key_means nodes e (Sync who edge offset) k q = refl
key_means nodes e (Event who name offset) k q = by (target nodes e who) q
  where
    by : (o : Option ℕ) → eventbase o ≡ source.Key k → None ≡ o
    by None r = refl
    by (Some b) r = cc
key_means nodes e (Repeat who n offset) k q = by (target nodes e who) q
  where
    by : (o : Option ℕ) → eventbase o ≡ source.Key k → None ≡ o
    by None r = refl
    by (Some b) r = cc
key_means nodes e _ k q = refl

-- ---- what is given

module _ (h : History) (y : Entry) (e : Node) (side : Edge) where
  pub start_given : (item : Item) → source_of h.nodes e.serial item ≡ source.Start → given_at h y e side item ≡ start_time h y (offset_of item) (time_parent h.nodes e.serial)
  start_given (Offset offset) q = by (previous_in_seq h.nodes e.serial) q
    where
      by : (o : Option Node) → syncbase_or source.Start End o ≡ source.Start → offset_given h y e.serial offset o ≡ start_time h y offset (time_parent h.nodes e.serial)
      by None r = refl
      by (Some b) r = cc
  start_given (Sync who edge offset) q = by (element_named h.nodes who) q
    where
      by : (o : Option Node) → syncbase_or source.Nothing edge o ≡ source.Start → at_place (length h.diary) (given_edge h y e.serial offset edge o) ≡ start_time h y offset (time_parent h.nodes e.serial)
      by None r = cc
      by (Some b) r = cc
  start_given (Event who name offset) q = by (target h.nodes e.serial who) q
    where
      by : (o : Option ℕ) → eventbase o ≡ source.Start → at_place (length h.diary) (given_event h y e side (Event who name offset) offset name o) ≡ start_time h y offset (time_parent h.nodes e.serial)
      by None r = cc
      by (Some b) r = cc
  start_given (Repeat who n offset) q = by (target h.nodes e.serial who) q
    where
      by : (o : Option ℕ) → eventbase o ≡ source.Start → at_place (length h.diary) (given_repeat h y e side (Repeat who n offset) offset n o) ≡ start_time h y offset (time_parent h.nodes e.serial)
      by None r = cc
      by (Some b) r = cc
  start_given _ q = cc

  pub edge_given : (item : Item) (x : ℕ) (edge : Edge) → source_of h.nodes e.serial item ≡ source.Syncbase x edge → given_at h y e side item ≡ at_place (length h.diary) (edge_time h e.serial x (offset_of item) y.moment edge y.step)
  edge_given (Offset offset) x edge q = by (previous_in_seq h.nodes e.serial) q
    where
      by : (o : Option Node) → syncbase_or source.Start End o ≡ source.Syncbase x edge → offset_given h y e.serial offset o ≡ at_place (length h.diary) (edge_time h e.serial x offset y.moment edge y.step)
      by None r = cc
      by (Some b) r =
          let one : b.serial ≡ x = cc in
          let side' : End ≡ edge = cc in
          ap (λ s. at_place (length h.diary) (edge_time h e.serial s offset y.moment End y.step)) one
          ∙ ap (λ d. at_place (length h.diary) (edge_time h e.serial x offset y.moment d y.step)) side'
  edge_given (Sync who named offset) x edge q = by (element_named h.nodes who) q
    where
      by : (o : Option Node) → syncbase_or source.Nothing named o ≡ source.Syncbase x edge → at_place (length h.diary) (given_edge h y e.serial offset named o) ≡ at_place (length h.diary) (edge_time h e.serial x offset y.moment edge y.step)
      by None r = cc
      by (Some b) r =
          let one : b.serial ≡ x = cc in
          let side' : named ≡ edge = cc in
          ap (λ s. at_place (length h.diary) (edge_time h e.serial s offset y.moment named y.step)) one
          ∙ ap (λ d. at_place (length h.diary) (edge_time h e.serial x offset y.moment d y.step)) side'
  edge_given (Event who name offset) x edge q = by (target h.nodes e.serial who) q
    where
      by : (o : Option ℕ) → eventbase o ≡ source.Syncbase x edge → at_place (length h.diary) (given_event h y e side (Event who name offset) offset name o) ≡ at_place (length h.diary) (edge_time h e.serial x offset y.moment edge y.step)
      by None r = cc
      by (Some b) r = cc
  edge_given (Repeat who n offset) x edge q = by (target h.nodes e.serial who) q
    where
      by : (o : Option ℕ) → eventbase o ≡ source.Syncbase x edge → at_place (length h.diary) (given_repeat h y e side (Repeat who n offset) offset n o) ≡ at_place (length h.diary) (edge_time h e.serial x offset y.moment edge y.step)
      by None r = cc
      by (Some b) r = cc
  edge_given _ x edge q = cc

  pub event_given : (item : Item) (x : ℕ) → source_of h.nodes e.serial item ≡ source.Eventbase x → given_at h y e side item ≡ given_heard h y e side item (Some x)
  event_given (Event who name offset) x q =
      let one : target h.nodes e.serial who ≡ Some x = is_eventbase (target h.nodes e.serial who) x q in
      ap (λ o. at_place (length h.diary) (given_event h y e side (Event who name offset) offset name o)) one
  event_given (Repeat who n offset) x q =
      let one : target h.nodes e.serial who ≡ Some x = is_eventbase (target h.nodes e.serial who) x q in
      ap (λ o. at_place (length h.diary) (given_repeat h y e side (Repeat who n offset) offset n o)) one
  event_given (Offset offset) x q = let never : None ≡ Some x = means h.nodes e.serial (Offset offset) x q in cc
  event_given (Sync who edge offset) x q = let never : None ≡ Some x = means h.nodes e.serial (Sync who edge offset) x q in cc
  event_given _ x q = cc

  pub key_given : (item : Item) (k : ℕ) → source_of h.nodes e.serial item ≡ source.Key k → given_at h y e side item ≡ given_heard h y e side item None
  key_given (Key key offset) k q = refl
  key_given (Offset offset) k q = by (previous_in_seq h.nodes e.serial) q
    where
      by : (o : Option Node) → syncbase_or source.Start End o ≡ source.Key k → given_at h y e side (Offset offset) ≡ given_heard h y e side (Offset offset) None
      by None r = cc
      by (Some b) r = cc
  key_given (Sync who edge offset) k q = by (element_named h.nodes who) q
    where
      by : (o : Option Node) → syncbase_or source.Nothing edge o ≡ source.Key k → given_at h y e side (Sync who edge offset) ≡ given_heard h y e side (Sync who edge offset) None
      by None r = cc
      by (Some b) r = cc
  key_given (Event who name offset) k q = by (target h.nodes e.serial who) q
    where
      by : (o : Option ℕ) → eventbase o ≡ source.Key k → given_at h y e side (Event who name offset) ≡ given_heard h y e side (Event who name offset) None
      by None r = cc
      by (Some b) r = cc
  key_given (Repeat who n offset) k q = by (target h.nodes e.serial who) q
    where
      by : (o : Option ℕ) → eventbase o ≡ source.Key k → given_at h y e side (Repeat who n offset) ≡ given_heard h y e side (Repeat who n offset) None
      by None r = cc
      by (Some b) r = cc
  key_given Indefinite k q = cc

  pub unheard : (of : Option ℕ) (item : Item) → (occurs_in h y of item && hears h e side item) ≡ false → None ≡ given_heard h y e side item of
  unheard of item not =
      sym (ap (λ t. at_place (length h.diary) (cond t (Some (within_horizon (outer h e.serial y.moment +ℤ offset_of item))) None)) not)

  -- ---- by what is at hand

  module _ (who : ℕ) (own : e.serial ≡ who) (z : Entry) (same : z ≡ y) where
    pub start_read : (nodes : List Node) (off off' : ℤ) → h.nodes ≡ nodes → off ≡ off' → start_time h z off (time_parent nodes who) ≡ start_time h y off' (time_parent h.nodes e.serial)
    start_read nodes off off' is at =
        ap (λ (x : Entry). start_time h x off (time_parent nodes who)) same
        ∙ ap (λ o. start_time h y o (time_parent nodes who)) at
        ∙ ap (λ ns. start_time h y off' (time_parent ns who)) (sym is)
        ∙ ap (λ s. start_time h y off' (time_parent h.nodes s)) (sym own)

    pub edge_read : (x : ℕ) (edge : Edge) (off off' : ℤ) (place : ℕ) (t : Option Time) → t ≡ edge_time h who x off z.moment edge z.step → off ≡ off' → place ≡ length h.diary → at_place place t ≡ at_place (length h.diary) (edge_time h e.serial x off' y.moment edge y.step)
    edge_read x edge off off' place t told at is =
        ap (λ p. at_place p t) is
        ∙ ap (at_place (length h.diary))
        (told ∙ ap (λ (w : Entry). edge_time h who x off w.moment edge w.step) same
        ∙ ap (λ o. edge_time h who x o y.moment edge y.step) at
        ∙ ap (λ s. edge_time h s x off' y.moment edge y.step) (sym own))

    pub heard : (of : Option ℕ) (item : Item) (place : ℕ) (t : Time) → (occurs_in h y of item && hears h e side item) ≡ true → t ≡ within_horizon (outer h who z.moment +ℤ offset_of item) → place ≡ length h.diary → Some (instance_at place t) ≡ given_heard h y e side item of
    heard of item place t hears-it told is =
        ap (λ p. Some (instance_at p t)) is
        ∙ ap (λ u. Some (instance_at (length h.diary) u))
        (told ∙ ap (λ (w : Entry). within_horizon (outer h who w.moment +ℤ offset_of item)) same
        ∙ ap (λ s. within_horizon (outer h s y.moment +ℤ offset_of item)) (sym own))
        ∙ sym (ap (λ u. at_place (length h.diary) (cond u (Some (within_horizon (outer h e.serial y.moment +ℤ offset_of item))) None)) hears-it)
