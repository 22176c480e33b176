-- A step on an element leaves all that is read by an element that it doesn't concern.
use Rattle.std.proofs.Common.{◌≡◌, refl, sym, ◌∙◌, ap, subst, ℕ, suc, List, [], ◌∷◌, ◌++◌, Option, Some, None, ℤ, Bool, true, false, inl, inr}
use Rattle.std.specs.Prelude.{◌==◌, ◌||◌, ◌&&◌, ◌⊎◌, fold, reverse, unwrap_or}
use Rattle.std.specs.List.{list_any}
use Rattle.std.proofs.lemmas.Bool.{or_left, or_right, or_parts, and_from, eqb-true, eq-eqb, false_from_ne_true}
use Rattle.std.proofs.lemmas.List.Sums.{fold_push}
use Rattle.smil_model.specs.declared.times.Time.{Time}
use Rattle.smil_model.specs.declared.times.Time.TheVariants.{Unresolved}
use Rattle.smil_model.specs.declared.diary.Entry.{Entry}
use Rattle.smil_model.specs.declared.diary.LogEntry.{LogEntry}
use Rattle.smil_model.specs.declared.diary.Step.{Step}
use Rattle.smil_model.specs.declared.diary.Step.TheVariants.{Began, Repeated, Ended, Cut, Logged}
use Rattle.smil_model.specs.declared.document.Edge.{Edge}
use Rattle.smil_model.specs.declared.document.Edge.TheVariants.{Begin, End}
use Rattle.smil_model.specs.declared.document.Item.{Item}
use Rattle.smil_model.specs.declared.document.Item.TheVariants as item
use Rattle.smil_model.specs.declared.document.Node.{Node}
use Rattle.smil_model.specs.declared.interval.Interval.{Interval}
use Rattle.smil_model.specs.document.Document.{elements, serials, node_at, is_within, is_below, has_serial, previous_in_seq, element_named, target}
use Rattle.smil_model.specs.document.Dependencies.{is_sync_with, all_items}
use Rattle.smil_model.specs.document.Closure.{has}
use Rattle.smil_model.specs.diary.Diary.{History, up_to, is_active, active_after, iteration}
use Rattle.smil_model.specs.interval.Instances.{edge_time, interval_edge, is_event, is_repeat}
use Rattle.smil_model.specs.interval.Current.{length_after}
use Rattle.smil_model.specs.reach.Reach.{is_option, is_event_of, reads, reads_node, key_of}
use Rattle.smil_laws.specs.Locality.{ParentsBefore}
use Rattle.smil_laws.proofs.LineageParents.{swap_eqb}
use Rattle.smil_laws.proofs.ForeignEntries.{Apart, is_about}
use Rattle.smil_laws.proofs.ReachClosed.{found_any, before_is_all, sync_is_all, own_is_all}
use Rattle.smil_laws.proofs.ReachLaw.{IsOutside}
use Rattle.smil_laws.proofs.UnreachedIntervals.{no_press, outside_all}
use Rattle.smil_concern_laws.specs.Concerned.{moves, is_moved, follows, is_concerned_by_step, is_concerned}
use Rattle.smil_concern_laws.proofs.Lineages.{any_serial, apart_other, apart_free}
use Rattle.smil_concern_laws.proofs.Readings.{AroundSame}
use Rattle.smil_concern_laws.proofs.ReadingsStay.{readings_apart, around_itself}
use Rattle.smil_concern_laws.proofs.GivenStays.{Member, EdgeStays, ItemStays, AllStays}

-- ---- steps

abbrev pub is_logged : Step → Bool
is_logged (Logged place) = true
is_logged _ = false

acted_concerns : (nodes : List Node) (log : List LogEntry) (x s : ℕ) (step : Step) → is_logged step ≡ false → is_concerned nodes log x step s ≡ is_concerned_by_step nodes x step s
acted_concerns nodes log x s (Logged place) q = cc
acted_concerns nodes log x s _ q = refl

acted_length : (log : List LogEntry) (s : ℕ) (b : Option Time) (step : Step) → is_logged step ≡ false → length_after log s b step ≡ b
acted_length log s b (Logged place) q = cc
acted_length log s b _ q = refl

pub acted_key : (log : List LogEntry) (step : Step) → is_logged step ≡ false → key_of log step ≡ None
acted_key log (Logged place) q = cc
acted_key log _ q = refl

event_other : (log : List LogEntry) (t : ℕ) (name : List ℕ) (step : Step) → is_logged step ≡ false → is_about log t step ≡ false → is_event log t name step ≡ false
event_other log t name (Logged place) a q = cc
event_other log t name (Began who begin) a q = rw q
event_other log t name (Ended who end') a q = rw q
event_other log t name (Cut who) a q = rw q
event_other log t name (Repeated who start) a q = rw q
event_other log t name _ a q = refl

repeat_other : (h : History) (t n : ℕ) (step : Step) → is_about h.log t step ≡ false → is_repeat h t n step ≡ false
repeat_other h t n (Repeated who start) q = ap (λ b. b && (suc (iteration h t) == n)) q
repeat_other h t n _ q = refl

nothing_other : (log : List LogEntry) (k : History) (e b : ℕ) (offset m : ℤ) (edge : Edge) (step : Step) → is_about log b step ≡ false → edge_time k e b offset m edge step ≡ None
nothing_other log k e b offset m Begin (Began who begin) q = rw q
nothing_other log k e b offset m End (Ended who end') q = rw q
nothing_other log k e b offset m End (Cut who) q = rw q
nothing_other log k e b offset m Begin _ q = refl
nothing_other log k e b offset m End _ q = refl

-- a step that doesn't move an edge tells nothing of it
pub nothing_still : (k : History) (e b : ℕ) (offset m : ℤ) (edge : Edge) (step : Step) → moves edge step ≡ false → edge_time k e b offset m edge step ≡ None
nothing_still k e b offset m Begin (Began who begin) q = cc
nothing_still k e b offset m End (Ended who end') q = cc
nothing_still k e b offset m End (Cut who) q = cc
nothing_still k e b offset m Begin _ q = refl
nothing_still k e b offset m End _ q = refl

active_still : (s : ℕ) (b : Bool) (step : Step) → moves Begin step ≡ false → active_after s b step ≡ b
active_still s b (Began who begin) q = cc
active_still s b (Ended who end') q = cc
active_still s b (Cut who) q = cc
active_still s b _ q = refl

expects_still : (diary : List Entry) (y : Entry) (s : ℕ) (edge : Edge) (o : Option Interval) → moves edge y.step ≡ false → interval_edge edge (is_active (diary ++ y ∷ []) s) o ≡ interval_edge edge (is_active diary s) o
expects_still diary y s Begin o q =
    ap (λ t. interval_edge Begin t o)
    (fold_push (λ before (z : Entry). active_after s before z.step) false diary y ∙ active_still s (is_active diary s) y.step q)
expects_still diary y s End None q = refl
expects_still diary y s End (Some i) q = refl

pub and_rest : (a b : Bool) → (a && b) ≡ false → a ≡ true → b ≡ false
and_rest true b q t = q
and_rest false b q t = cc

-- ---- an element that is apart from x, and reads nothing of x that the step changes

-- x itself, with an edge that the step leaves, or one that is apart from x
abbrev Near : List Node → ℕ → Step → ℕ → Edge → Type 0
Near nodes x step b edge = Apart nodes x b ⊎ ((b ≡ x) × (moves edge step ≡ false))

abbrev ItemFar : List Node → ℕ → Step → Node → Item → Type 0
ItemFar nodes x step e (item.Offset offset) = (b : Node) → previous_in_seq nodes e.serial ≡ Some b → Near nodes x step b.serial End
ItemFar nodes x step e (item.Sync who edge offset) = (b : Node) → element_named nodes who ≡ Some b → Near nodes x step b.serial edge
ItemFar nodes x step e (item.Event who name offset) = (t : ℕ) → target nodes e.serial who ≡ Some t → t == x ≡ false
ItemFar nodes x step e (item.Repeat who n offset) = (t : ℕ) → target nodes e.serial who ≡ Some t → t == x ≡ false
ItemFar nodes x step e (item.Key key offset) = Unit {0}
ItemFar nodes x step e item.Indefinite = Unit {0}

module _ (h : History) (first : ParentsBefore (reverse h.nodes)) (y : Entry) (acted : is_logged y.step ≡ false) (x : ℕ) (only : (s : ℕ) → s == x ≡ false → is_about h.log s y.step ≡ false) where
  abbrev then : History
  then = up_to h (h.diary ++ y ∷ [])

  edge_stays : (b : ℕ) (edge : Edge) → Near h.nodes x y.step b edge → EdgeStays h y b edge
  edge_stays b edge (inl apart) = record {
    around = (readings_apart h first y x only b apart).around;
    nothing = λ e offset. nothing_other h.log then e b offset y.moment edge y.step (only b apart.self);
    expects = λ o. ap (λ t. interval_edge edge t o) ((readings_apart h first y x only b apart).active);
  }
  edge_stays b edge (inr p) = record {
    around = subst (λ (s : ℕ). AroundSame h then s) (sym p.0) (around_itself h first y x only);
    nothing = λ e offset. nothing_still then e b offset y.moment edge y.step p.1;
    expects = λ o. expects_still h.diary y b edge o p.1;
  }

  item_stays : (e : Node) (i : Item) → ItemFar h.nodes x y.step e i → ItemStays h y e i
  item_stays e (item.Offset offset) far = λ b q. edge_stays b.serial End (far b q)
  item_stays e (item.Sync who edge offset) far = λ b q. edge_stays b.serial edge (far b q)
  item_stays e (item.Event who name offset) far = λ t q. event_other h.log t name y.step acted (only t (far t q))
  item_stays e (item.Repeat who n offset) far = λ t q. repeat_other h t n y.step (only t (far t q))
  item_stays e (item.Key key offset) far = no_press h.log y.step key (acted_key h.log y.step acted)
  item_stays e item.Indefinite far = tt

  far_stays : (e : Node) → Apart h.nodes x e.serial → ((i : Item) → Member i (all_items h.nodes e) → ItemFar h.nodes x y.step e i) → AllStays h y e
  far_stays e apart far = record {
    readings = readings_apart h first y x only e.serial apart;
    media =
        ap (λ o. unwrap_or o Unresolved)
        (fold_push (λ before (z : Entry). length_after h.log e.serial before z.step) None h.diary y
        ∙ acted_length h.log e.serial (fold (λ before (z : Entry). length_after h.log e.serial before z.step) None h.diary) y.step acted);
    items = λ i m. item_stays e i (far i m);
  }

  module _ (e : Node) (here : node_at (elements h.nodes) e.serial ≡ Some e) where
    -- where the document lacks x
    pub absent_stays : list_any (λ (n : Node). n.serial == x) (elements h.nodes) ≡ false → AllStays h y e
    absent_stays absent = far_stays e o.apart far
      where
        o : IsOutside h.nodes x (λ _. true) e
        o = outside_all h.nodes x absent e here

        far : (i : Item) → Member i (all_items h.nodes e) → ItemFar h.nodes x y.step e i
        far (item.Offset offset) m = λ b q. inl ((o.before b q).1)
        far (item.Sync who edge offset) m = λ b q. inl ((o.named b.serial (m (is_sync_with h.nodes b.serial) (ap (has_serial b.serial) q ∙ eq-eqb b.serial b.serial refl))).1)
        far (item.Event who name offset) m = λ t q. o.heard t (m (is_event_of h.nodes e.serial t) (ap (is_option t) q ∙ eq-eqb t t refl))
        far (item.Repeat who n offset) m = λ t q. o.heard t (m (is_event_of h.nodes e.serial t) (ap (is_option t) q ∙ eq-eqb t t refl))
        far (item.Key key offset) m = tt
        far item.Indefinite m = tt

    -- where the step doesn't concern the element
    pub free_stays : is_concerned h.nodes h.log x y.step e.serial ≡ false → AllStays h y e
    free_stays free = far_stays e (apart_free h.nodes x e.serial own near_parts.0) far
      where
        own : has (serials (elements h.nodes)) e.serial ≡ true
        own = own_is_all h.nodes x e here

        parts : ((is_within h.nodes x e.serial || list_any (λ (b : Node). is_below h.nodes x b.serial && reads h.nodes b.serial e.serial) (elements h.nodes)) ≡ false) × (list_any (λ (n : Node). (n.serial == e.serial) && follows h.nodes x y.step n) (elements h.nodes) ≡ false)
        parts = or_parts _ _ (sym (acted_concerns h.nodes h.log x e.serial y.step acted) ∙ free)

        near_parts : (is_within h.nodes x e.serial ≡ false) × (list_any (λ (b : Node). is_below h.nodes x b.serial && reads h.nodes b.serial e.serial) (elements h.nodes) ≡ false)
        near_parts = or_parts _ _ parts.0

        unmoved : (i : Item) → Member i (all_items h.nodes e) → is_moved h.nodes e.serial x y.step i ≡ false
        unmoved i m =
            false_from_ne_true (is_moved h.nodes e.serial x y.step i)
            (λ t. let is_it : list_any (λ (n : Node). (n.serial == e.serial) && follows h.nodes x y.step n) (elements h.nodes) ≡ true = found_any e.serial (follows h.nodes x y.step) (elements h.nodes) e here (m (is_moved h.nodes e.serial x y.step) t) in
            let never : false ≡ true = sym parts.1 ∙ is_it in cc)

        shallow : (b : ℕ) → has (serials (elements h.nodes)) b ≡ true → reads_node h.nodes b e ≡ true → is_below h.nodes x b ≡ false
        shallow b i r =
            false_from_ne_true (is_below h.nodes x b)
            (λ w. let is_read : list_any (λ (n : Node). is_below h.nodes x n.serial && reads h.nodes n.serial e.serial) (elements h.nodes) ≡ true = any_serial (λ s. is_below h.nodes x s && reads h.nodes s e.serial) (elements h.nodes) b i (and_from _ _ w (found_any e.serial (reads_node h.nodes b) (elements h.nodes) e here r)) in
            let never : false ≡ true = sym near_parts.1 ∙ is_read in cc)

        near : (b : ℕ) (edge : Edge) → has (serials (elements h.nodes)) b ≡ true → reads_node h.nodes b e ≡ true → (b == x ≡ true → moves edge y.step ≡ false) → Near h.nodes x y.step b edge
        near b edge i r still = by_same (b == x) refl
          where
            by_same : (t : Bool) → b == x ≡ t → Near h.nodes x y.step b edge
            by_same true t = inr (eqb-true b x t, still t)
            by_same false t = inl (apart_other h.nodes x b t (shallow b i r))

        far : (i : Item) → Member i (all_items h.nodes e) → ItemFar h.nodes x y.step e i
        far (item.Offset offset) m = λ b q.
            near b.serial End (before_is_all h.nodes x e.serial b q) (or_left _ _ (or_left _ _ (or_right _ _ (ap (has_serial b.serial) q ∙ eq-eqb b.serial b.serial refl))))
            (λ t. and_rest (has_serial x (previous_in_seq h.nodes e.serial)) (moves End y.step) (unmoved (item.Offset offset) m) (ap (has_serial x) q ∙ t))
        far (item.Sync who edge offset) m = λ b q.
            let named : list_any (is_sync_with h.nodes b.serial) (all_items h.nodes e) ≡ true = m (is_sync_with h.nodes b.serial) (ap (has_serial b.serial) q ∙ eq-eqb b.serial b.serial refl) in
            near b.serial edge (sync_is_all h.nodes x b.serial (all_items h.nodes e) named) (or_left _ _ (or_right _ _ named))
            (λ t. and_rest (has_serial x (element_named h.nodes who)) (moves edge y.step) (unmoved (item.Sync who edge offset) m) (ap (has_serial x) q ∙ t))
        far (item.Event who name offset) m = λ t q. swap_eqb x t (sym (ap (is_option x) q) ∙ unmoved (item.Event who name offset) m)
        far (item.Repeat who n offset) m = λ t q. swap_eqb x t (sym (ap (is_option x) q) ∙ unmoved (item.Repeat who n offset) m)
        far (item.Key key offset) m = tt
        far item.Indefinite m = tt
