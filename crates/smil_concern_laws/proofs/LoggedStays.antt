-- A logged entry leaves all that is read by an element that it doesn't concern; so does each entry.
use Rattle.std.proofs.Common.{◌≡◌, refl, sym, ◌∙◌, ap, ℕ, List, [], ◌∷◌, ◌++◌, Option, Some, None, Bool, true, false}
use Rattle.std.specs.Prelude.{◌==◌, ◌&&◌, cond, fold, reverse, unwrap_or, is_some, slice_get}
use Rattle.std.specs.List.{list_any}
use Rattle.std.specs.Str.{bytes_eq}
use Rattle.std.proofs.lemmas.Bool.{eqb-true, eq-eqb, false_from_ne_true, true_from_ne_false}
use Rattle.std.proofs.lemmas.List.Sums.{fold_push}
use Rattle.smil_model.specs.declared.times.Time.{Time}
use Rattle.smil_model.specs.declared.times.Time.TheVariants.{At, Unresolved}
use Rattle.smil_model.specs.declared.diary.Entry.{Entry}
use Rattle.smil_model.specs.declared.diary.LogEntry.{LogEntry}
use Rattle.smil_model.specs.declared.diary.Happening.{Happening}
use Rattle.smil_model.specs.declared.diary.Happening.TheVariants as happening
use Rattle.smil_model.specs.declared.diary.Step.{Step}
use Rattle.smil_model.specs.declared.diary.Step.TheVariants.{Logged}
use Rattle.smil_model.specs.declared.document.Edge.{Edge}
use Rattle.smil_model.specs.declared.document.Edge.TheVariants.{Begin, End}
use Rattle.smil_model.specs.declared.document.Item.{Item}
use Rattle.smil_model.specs.declared.document.Item.TheVariants as item
use Rattle.smil_model.specs.declared.document.Node.{Node}
use Rattle.smil_model.specs.document.Document.{elements, serials, node_at, has_serial}
use Rattle.smil_model.specs.document.Dependencies.{is_sync_with, all_items}
use Rattle.smil_model.specs.document.Closure.{has}
use Rattle.smil_model.specs.diary.Diary.{History, up_to}
use Rattle.smil_model.specs.interval.Instances.{interval_edge, is_event, is_log_event, is_named, is_repeat}
use Rattle.smil_model.specs.interval.Current.{length_after, length_of, logged_length}
use Rattle.smil_model.specs.reach.Reach.{is_option, is_event_of, is_key_item, waiters, subject_of, logged_subject, key_of, logged_key}
use Rattle.smil_laws.specs.Locality.{ParentsBefore}
use Rattle.smil_laws.proofs.ForeignEntries.{Apart}
use Rattle.smil_laws.proofs.ReachClosed.{found_any, from_serials, event_is_all, own_is_all}
use Rattle.smil_laws.proofs.ReachLaw.{IsOutside, IsMute}
use Rattle.smil_laws.proofs.TouchedStay.{mute}
use Rattle.smil_laws.proofs.UnreachedIntervals.{about_none, about_no_one, absent, fresh, found_here, no_press, outside_all}
use Rattle.smil_concern_laws.specs.Concerned.{moves, is_hearer, is_concerned, is_concerned_from, is_concerned_through, is_concerned_by_logged}
use Rattle.smil_concern_laws.proofs.ReadingsStay.{readings_logged}
use Rattle.smil_concern_laws.proofs.GivenStays.{Member, EdgeStays, ItemStays, AllStays}
use Rattle.smil_concern_laws.proofs.ActedStays.{is_logged, acted_key, and_rest, nothing_still, absent_stays, free_stays}

-- an element of the document is found
found_there : (nodes : List Node) (x : ℕ) → has (serials (elements nodes)) x ≡ true → is_some (node_at (elements nodes) x) ≡ true
found_there nodes x i =
    true_from_ne_false (is_some (node_at (elements nodes) x))
    (λ q. let never : false ≡ true = sym (found_here x (elements nodes) q) ∙ from_serials x (elements nodes) i in cc)

still_logged : (edge : Edge) (place : ℕ) → moves edge (Logged place) ≡ false
still_logged Begin place = refl
still_logged End place = refl

-- ---- whom a happening concerns, by its kind

abbrev is_told : List Node → Happening → ℕ → Bool
is_told nodes (happening.Event who name) s = is_some (node_at (elements nodes) who) && is_hearer nodes who s
is_told nodes (happening.Media who length) s = is_some (node_at (elements nodes) who) && (who == s)
is_told nodes (happening.Key key) s = has (waiters nodes key) s

abbrev is_told_by : List Node → Option LogEntry → ℕ → Bool
is_told_by nodes None s = false
is_told_by nodes (Some entry) s = is_told nodes entry.what s

abbrev concerned_at : List Node → Option LogEntry → Option ℕ → Option ℕ → ℕ → Bool
concerned_at nodes l (Some key) on s = has (waiters nodes key) s
concerned_at nodes l None None s = false
concerned_at nodes l None (Some x) s = is_some (node_at (elements nodes) x) && is_concerned_by_logged nodes x l s

at_entry : (nodes : List Node) (log : List LogEntry) (place : ℕ) (key on : Option ℕ) (s : ℕ) → is_concerned_through nodes log key on (Logged place) s ≡ concerned_at nodes (slice_get log place) key on s
at_entry nodes log place (Some key) on s = refl
at_entry nodes log place None None s = refl
at_entry nodes log place None (Some x) s = refl

concerned_told : (nodes : List Node) (l : Option LogEntry) (s : ℕ) → concerned_at nodes l (logged_key l) (logged_subject l) s ≡ is_told_by nodes l s
concerned_told nodes None s = refl
concerned_told nodes (Some entry) s = by_what entry.what
  where
    by_what : (w : Happening) → concerned_at nodes (Some (record entry { what = w })) (logged_key (Some (record entry { what = w }))) (logged_subject (Some (record entry { what = w }))) s ≡ is_told nodes w s
    by_what (happening.Event who name) = refl
    by_what (happening.Media who length) = refl
    by_what (happening.Key key) = refl

-- ---- a logged entry that the element doesn't hear

module _ (h : History) (first : ParentsBefore (reverse h.nodes)) (y : Entry) (place : ℕ) (logged : y.step ≡ Logged place) (e : Node) (here : node_at (elements h.nodes) e.serial ≡ Some e) where
  abbrev then : History
  then = up_to h (h.diary ++ y ∷ [])

  abbrev aloof : ℕ
  aloof = fresh h first y

  o : IsOutside h.nodes aloof (λ _. true) e
  o = outside_all h.nodes aloof (absent h first y) e here

  edge_stays : (b : ℕ) (edge : Edge) → Apart h.nodes aloof b → EdgeStays h y b edge
  edge_stays b edge apart = record {
    around = (readings_logged h first y place logged aloof b apart).around;
    nothing = λ s offset. nothing_still then s b offset y.moment edge y.step (ap (moves edge) logged ∙ still_logged edge place);
    expects = λ i. ap (λ t. interval_edge edge t i) ((readings_logged h first y place logged aloof b apart).active);
  }

  quiet_stays : IsMute h.nodes h.log y.step e → ((t : ℕ) (name : List ℕ) → list_any (is_event_of h.nodes e.serial t) (all_items h.nodes e) ≡ true → is_event h.log t name (Logged place) ≡ false) → ((b : Option Time) → length_after h.log e.serial b (Logged place) ≡ b) → AllStays h y e
  quiet_stays silent unheard length_same = record {
    readings = readings_logged h first y place logged aloof e.serial o.apart;
    media =
        ap (λ p. unwrap_or p Unresolved)
        (fold_push (λ before (z : Entry). length_after h.log e.serial before z.step) None h.diary y
        ∙ ap (length_after h.log e.serial (fold (λ before (z : Entry). length_after h.log e.serial before z.step) None h.diary)) logged
        ∙ length_same (fold (λ before (z : Entry). length_after h.log e.serial before z.step) None h.diary));
    items = each_item;
  }
    where
      each_item : (i : Item) → Member i (all_items h.nodes e) → ItemStays h y e i
      each_item (item.Offset offset) m = λ b q. edge_stays b.serial End ((o.before b q).1)
      each_item (item.Sync who edge offset) m = λ b q. edge_stays b.serial edge ((o.named b.serial (m (is_sync_with h.nodes b.serial) (ap (has_serial b.serial) q ∙ eq-eqb b.serial b.serial refl))).1)
      each_item (item.Event who name offset) m = λ t q. ap (is_event h.log t name) logged ∙ unheard t name (m (is_event_of h.nodes e.serial t) (ap (is_option t) q ∙ eq-eqb t t refl))
      each_item (item.Repeat who n offset) m = λ t q. ap (is_repeat h t n) logged
      each_item (item.Key key offset) m = silent key (m (is_key_item key) (eq-eqb key key refl))
      each_item item.Indefinite m = tt

  told_stays : IsMute h.nodes h.log y.step e → (l : Option LogEntry) → slice_get h.log place ≡ l → is_told_by h.nodes l e.serial ≡ false → AllStays h y e
  told_stays silent None found free =
      quiet_stays silent (λ t name i. ap (is_log_event t name) found) (λ b. ap (λ l. length_of e.serial l b) found)
  told_stays silent (Some entry) found free =
      quiet_stays silent
      (λ t name i. ap (is_log_event t name) found ∙ unheard t name i entry.what free)
      (λ b. ap (λ l. length_of e.serial l b) found ∙ length_same b entry.what free)
    where
      own : has (serials (elements h.nodes)) e.serial ≡ true
      own = own_is_all h.nodes e.serial e here

      unheard : (t : ℕ) (name : List ℕ) → list_any (is_event_of h.nodes e.serial t) (all_items h.nodes e) ≡ true → (w : Happening) → is_told h.nodes w e.serial ≡ false → is_named t name w ≡ false
      unheard t name i (happening.Event who given) f =
          ap (λ b. b && bytes_eq given name)
          (false_from_ne_true (who == t)
          (λ d. let hears : list_any (is_event_of h.nodes e.serial who) (all_items h.nodes e) ≡ true = ap (λ v. list_any (is_event_of h.nodes e.serial v) (all_items h.nodes e)) (eqb-true who t d) ∙ i in
          let there : is_some (node_at (elements h.nodes) who) ≡ true = found_there h.nodes who (event_is_all h.nodes who e.serial who (all_items h.nodes e) own hears) in
          let is_it : is_hearer h.nodes who e.serial ≡ true = found_any e.serial (λ (n : Node). list_any (is_event_of h.nodes n.serial who) (all_items h.nodes n)) (elements h.nodes) e here hears in
          let never : true ≡ false = sym is_it ∙ and_rest (is_some (node_at (elements h.nodes) who)) (is_hearer h.nodes who e.serial) f there in cc))
      unheard t name i (happening.Media who length) f = refl
      unheard t name i (happening.Key key) f = refl

      length_same : (b : Option Time) (w : Happening) → is_told h.nodes w e.serial ≡ false → logged_length e.serial w b ≡ b
      length_same b (happening.Event who given) f = refl
      length_same b (happening.Media who length) f =
          ap (λ t. cond t (Some (At length)) b)
          (false_from_ne_true (who == e.serial)
          (λ d. let there : is_some (node_at (elements h.nodes) who) ≡ true = ap (λ v. is_some (node_at (elements h.nodes) v)) (eqb-true who e.serial d) ∙ ap is_some here in
          let never : true ≡ false = sym d ∙ and_rest (is_some (node_at (elements h.nodes) who)) (who == e.serial) f there in cc))
      length_same b (happening.Key key) f = refl

-- ---- each entry

abbrev place_of : Step → ℕ
place_of (Logged place) = place
place_of _ = 0

at_place : (step : Step) → is_logged step ≡ true → step ≡ Logged (place_of step)
at_place (Logged place) q = refl
at_place _ q = cc

mute_free : (nodes : List Node) (log : List LogEntry) (step : Step) (e : Node) → node_at (elements nodes) e.serial ≡ Some e → (o : Option ℕ) → key_of log step ≡ o → is_concerned_through nodes log o (subject_of log step) step e.serial ≡ false → IsMute nodes log step e
mute_free nodes log step e here None on free k i = no_press log step k on
mute_free nodes log step e here (Some key) on free k i = mute nodes log step e here (Some key) on free k i

-- an entry leaves all that is read by an element that it doesn't concern
pub all_stays : (h : History) → ParentsBefore (reverse h.nodes) → (y : Entry) (e : Node) → node_at (elements h.nodes) e.serial ≡ Some e → is_concerned_through h.nodes h.log (key_of h.log y.step) (subject_of h.log y.step) y.step e.serial ≡ false → AllStays h y e
all_stays h first y e here free = by_kind (is_logged y.step) refl
  where
    by_subject : is_logged y.step ≡ false → (o : Option ℕ) → subject_of h.log y.step ≡ o → is_concerned_from h.nodes h.log o y.step e.serial ≡ false → AllStays h y e
    by_subject acted None on f =
        absent_stays h first y acted (fresh h first y) (λ s d. about_no_one h.log y.step s on) e here (absent h first y)
    by_subject acted (Some x) on f = by_found (is_some (node_at (elements h.nodes) x)) refl f
      where
        by_found : (b : Bool) → is_some (node_at (elements h.nodes) x) ≡ b → (b && is_concerned h.nodes h.log x y.step e.serial) ≡ false → AllStays h y e
        by_found true q r = free_stays h first y acted x (λ s d. about_none h.log y.step x s on d) e here r
        by_found false q r = absent_stays h first y acted x (λ s d. about_none h.log y.step x s on d) e here (found_here x (elements h.nodes) q)

    by_kind : (t : Bool) → is_logged y.step ≡ t → AllStays h y e
    by_kind false t =
        by_subject t (subject_of h.log y.step) refl
        (sym (ap (λ o. is_concerned_through h.nodes h.log o (subject_of h.log y.step) y.step e.serial) (acted_key h.log y.step t)) ∙ free)
    by_kind true t =
        told_stays h first y (place_of y.step) (at_place y.step t) e here
        (mute_free h.nodes h.log y.step e here (key_of h.log y.step) refl free)
        (slice_get h.log (place_of y.step)) refl
        (sym (concerned_told h.nodes (slice_get h.log (place_of y.step)) e.serial)
        ∙ sym (at_entry h.nodes h.log (place_of y.step) (logged_key (slice_get h.log (place_of y.step))) (logged_subject (slice_get h.log (place_of y.step))) e.serial)
        ∙ sym (ap (λ step. is_concerned_through h.nodes h.log (key_of h.log step) (subject_of h.log step) step e.serial) (at_place y.step t)) ∙ free)
