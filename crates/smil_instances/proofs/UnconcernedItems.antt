-- An entry concerns those items alone whose source, or whose births, it is of.
use Rattle.std.proofs.Common.{◌≡◌, refl, ap, ◌∙◌, ℕ, List, Option, Some, None, Bool, true, false, arith}
use Rattle.std.specs.Prelude.{◌&&◌, ◌||◌, ◌==◌, slice_get}
use Rattle.std.proofs.lemmas.Bool.{or_from, or_parts}
use Rattle.smil_model.specs.declared.diary.Entry.{Entry}
use Rattle.smil_model.specs.declared.diary.LogEntry.{LogEntry}
use Rattle.smil_model.specs.declared.diary.Happening.{Happening}
use Rattle.smil_model.specs.declared.diary.Happening.TheVariants as happening
use Rattle.smil_model.specs.declared.diary.Step.{Step}
use Rattle.smil_model.specs.declared.diary.Step.TheVariants.{Began, Repeated, Ended, Cut, Logged}
use Rattle.smil_model.specs.declared.document.Node.{Node}
use Rattle.smil_model.specs.declared.document.Edge.{Edge}
use Rattle.smil_model.specs.declared.document.Edge.TheVariants.{Begin, End}
use Rattle.smil_model.specs.declared.document.Item.{Item}
use Rattle.smil_model.specs.declared.document.Item.TheVariants.{Offset, Sync, Event, Repeat}
use Rattle.smil_model.specs.document.Document.{element_named, has_serial, previous_in_seq, time_parent, target}
use Rattle.smil_model.specs.diary.Diary.{History, with_entry}
use Rattle.smil_model.specs.diary.Plays.{is_birth_under}
use Rattle.smil_model.specs.reach.Reach.{subject_of, key_of, logged_key, pressed, is_option, subject, logged_subject}
use Rattle.smil_instances.specs.declared.source.Source.{Source}
use Rattle.smil_instances.specs.declared.source.Source.TheVariants as source
use Rattle.smil_instances.specs.Contribution.{is_edge}
use Rattle.smil_instances.proofs.ChangingSteps.{may_change, concerns_edges, concerns_heard, concerns_key, concerns_named, concerns_offset, is_reset_by}
use Rattle.smil_instances.specs.Laws.{IsUpTo}
use Rattle.smil_instances.specs.SettledTimes.{instances_of}
use Rattle.smil_instances.specs.Sources.{eventbase, is_concerned, is_keyed, source_of, syncbase_or}
use Rattle.smil_instances.specs.Updates.{concerned_by}
use Rattle.smil_instances.proofs.UntouchedItems.{kept_stays}
use Rattle.smil_model.specs.interval.Instances.{is_press}
use Rattle.smil_model.specs.happening.Queue.{is_child_of}
use Rattle.smil_laws.proofs.LineageParents.{swap_eqb}
use Rattle.smil_laws.specs.Resolved.{is_opening}

-- whether a step can change what is kept for an item of e with this source
abbrev reaches : List Node → List LogEntry → Step → ℕ → Source → Bool
reaches nodes log step e source.Start = is_reset_by nodes e step
reaches nodes log step e (source.Syncbase t edge) = concerns_edges nodes step e t edge
reaches nodes log step e (source.Eventbase t) = concerns_heard nodes log step e (Some t)
reaches nodes log step e (source.Key key) = concerns_key nodes log step e key
reaches nodes log step e source.Nothing = false

by_target : (nodes : List Node) (log : List LogEntry) (step : Step) (e : ℕ) (o : Option ℕ) → concerns_heard nodes log step e o ≡ reaches nodes log step e (eventbase o)
by_target nodes log step e None = refl
by_target nodes log step e (Some x) = refl

by_source : (nodes : List Node) (log : List LogEntry) (step : Step) (e : ℕ) (item : Item) → may_change nodes log step e item ≡ reaches nodes log step e (source_of nodes e item)
by_source nodes log step e (Offset offset) = by_before (previous_in_seq nodes e)
  where
    by_before : (o : Option Node) → concerns_offset nodes step e o ≡ reaches nodes log step e (syncbase_or source.Start End o)
    by_before None = refl
    by_before (Some before) = refl
by_source nodes log step e (Sync who edge offset) = by_node (element_named nodes who)
  where
    by_node : (o : Option Node) → concerns_named nodes step e edge o ≡ reaches nodes log step e (syncbase_or source.Nothing edge o)
    by_node None = refl
    by_node (Some x) = refl
by_source nodes log step e (Event who name offset) = by_target nodes log step e (target nodes e who)
by_source nodes log step e (Repeat who n offset) = by_target nodes log step e (target nodes e who)
by_source nodes log step e _ = refl

-- ---- a step that is on no element: a log entry that there is not

lone_birth : (log : List LogEntry) (step : Step) (o : Option Node) → subject_of log step ≡ None → is_birth_under o step ≡ false
lone_birth log step None on = refl
lone_birth log (Began who begin) (Some p) on = cc
lone_birth log (Repeated who start) (Some p) on = cc
lone_birth log _ (Some p) on = refl

lone_edge : (log : List LogEntry) (edge : Edge) (x : ℕ) (step : Step) → subject_of log step ≡ None → is_edge edge x step ≡ false
lone_edge log Begin x (Began who begin) on = cc
lone_edge log End x (Ended who end') on = cc
lone_edge log End x (Cut who) on = cc
lone_edge log _ x _ on = refl

-- ---- a step on an element

-- a step on an element is no press
pub no_press : (log : List LogEntry) (step : Step) (x key : ℕ) → subject_of log step ≡ Some x → is_press log key step ≡ false
no_press log (Logged place) x key q = by_entry (slice_get log place) q
  where
    by_what : (w : Happening) → subject w ≡ Some x → is_option key (pressed w) ≡ false
    by_what (happening.Event who name) r = refl
    by_what (happening.Media who len) r = refl
    by_what (happening.Key own) r = cc

    by_entry : (o : Option LogEntry) → logged_subject o ≡ Some x → is_option key (logged_key o) ≡ false
    by_entry None r = refl
    by_entry (Some entry) r = by_what entry.what r
no_press log _ x key q = refl

module _ (log : List LogEntry) (step : Step) (x : ℕ) (on : subject_of log step ≡ Some x) where
  no_birth : (o : Option Node) → is_opening step && has_serial x o ≡ false → is_birth_under o step ≡ false
  no_birth o q = by_step step o on q
    where
      by_step : (s : Step) (o : Option Node) → subject_of log s ≡ Some x → is_opening s && has_serial x o ≡ false → is_birth_under o s ≡ false
      by_step s None same r = refl
      by_step (Began who begin) (Some p) same r = let one : who ≡ x = cc in grind (arith, one, r)
      by_step (Repeated who start) (Some p) same r = let one : who ≡ x = cc in grind (arith, one, r)
      by_step _ (Some p) same r = refl

  no_edge : (edge : Edge) (t : ℕ) → x == t ≡ false → is_edge edge t step ≡ false
  no_edge edge t q = by_step edge step on
    where
      by_step : (edge : Edge) (s : Step) → subject_of log s ≡ Some x → is_edge edge t s ≡ false
      by_step Begin (Began who begin) same = let one : who ≡ x = cc in grind (arith, one, q)
      by_step End (Ended who end') same = let one : who ≡ x = cc in grind (arith, one, q)
      by_step End (Cut who) same = let one : who ≡ x = cc in grind (arith, one, q)
      by_step _ _ same = refl

  neither : (b u v : Bool) → b && (u || v) ≡ false → (b && u ≡ false) × (b && v ≡ false)
  neither true u v q = or_parts u v q
  neither false u v q = (refl, refl)

  spared : (nodes : List Node) (e : ℕ) (s : Source) → is_concerned nodes (is_opening step) x e s ≡ false → reaches nodes log step e s ≡ false
  spared nodes e source.Start q = no_birth (time_parent nodes e) q
  spared nodes e (source.Syncbase t edge) q =
      let a = or_parts (x == t) (is_opening step && (is_child_of nodes x e || is_child_of nodes x t)) q in
      let b = neither (is_opening step) (is_child_of nodes x e) (is_child_of nodes x t) a.1 in
      or_from (is_edge edge t step) (is_reset_by nodes e step || is_reset_by nodes t step) (no_edge edge t a.0)
      (or_from (is_reset_by nodes e step) (is_reset_by nodes t step) (no_birth (time_parent nodes e) b.0) (no_birth (time_parent nodes t) b.1))
  spared nodes e (source.Eventbase t) q =
      let a = or_parts (x == t) (is_opening step && is_child_of nodes x e) q in
      or_from (is_option t (subject_of log step)) (is_reset_by nodes e step) (ap (is_option t) on ∙ swap_eqb x t a.0) (no_birth (time_parent nodes e) a.1)
  spared nodes e (source.Key key) q =
      or_from (is_press log key step) (is_reset_by nodes e step) (no_press log step x key on) (no_birth (time_parent nodes e) q)
  spared nodes e source.Nothing q = refl

-- a step that presses no key of the source
lone_press : (log : List LogEntry) (step : Step) (key : ℕ) → is_keyed (key_of log step) (source.Key key) ≡ false → is_press log key step ≡ false
lone_press log step key q = by_key (key_of log step) q
  where
    by_key : (o : Option ℕ) → is_keyed o (source.Key key) ≡ false → is_option key o ≡ false
    by_key None r = refl
    by_key (Some own) r = r

lone_spared : (nodes : List Node) (log : List LogEntry) (step : Step) (e : ℕ) (s : Source) → subject_of log step ≡ None → is_keyed (key_of log step) s ≡ false → reaches nodes log step e s ≡ false
lone_spared nodes log step e source.Start on q = lone_birth log step (time_parent nodes e) on
lone_spared nodes log step e (source.Syncbase t edge) on q =
    or_from (is_edge edge t step) (is_reset_by nodes e step || is_reset_by nodes t step) (lone_edge log edge t step on)
    (or_from (is_reset_by nodes e step) (is_reset_by nodes t step) (lone_birth log step (time_parent nodes e) on) (lone_birth log step (time_parent nodes t) on))
lone_spared nodes log step e (source.Eventbase t) on q =
    or_from (is_option t (subject_of log step)) (is_reset_by nodes e step) (ap (is_option t) on) (lone_birth log step (time_parent nodes e) on)
lone_spared nodes log step e (source.Key key) on q =
    or_from (is_press log key step) (is_reset_by nodes e step) (lone_press log step key q) (lone_birth log step (time_parent nodes e) on)
lone_spared nodes log step e source.Nothing on q = refl

unreached : (nodes : List Node) (log : List LogEntry) (step : Step) (e : ℕ) (s : Source) (o : Option ℕ) → subject_of log step ≡ o → concerned_by nodes (is_opening step) o (key_of log step) e s ≡ false → reaches nodes log step e s ≡ false
unreached nodes log step e s None on q = lone_spared nodes log step e s on q
unreached nodes log step e s (Some x) on q = spared log step x on nodes e s q

pub unconcerned : (h : History) (y : Entry) (e : Node) (side : Edge) (item : Item) → IsUpTo y.moment h.diary → concerned_by h.nodes (is_opening y.step) (subject_of h.log y.step) (key_of h.log y.step) e.serial (source_of h.nodes e.serial item) ≡ false → instances_of (with_entry h y) e side item ≡ instances_of h e side item
unconcerned h y e side item timely q =
    kept_stays h y e side item timely
    (by_source h.nodes h.log y.step e.serial item ∙ unreached h.nodes h.log y.step e.serial (source_of h.nodes e.serial item) (subject_of h.log y.step) refl q)
