-- Entries leave each element that they do not touch with the interval, and with what comes of it, that it had.
use Rattle.std.proofs.Common.{◌≡◌, refl, sym, ◌∙◌, ap, ℕ, List, [], ◌∷◌, ◌++◌, Option, Some, None, ℤ, Bool, true, false, append_assoc, inl, inr}
use Rattle.std.specs.Prelude.{cond, not, ◌==◌, ◌||◌, ◌&&◌, ◌⊎◌, is_some, reverse}
use Rattle.std.specs.List.{list_any}
use Rattle.std.proofs.lemmas.Bool.{or_left, or_right, or_cases, or_parts, eqb-true, and_from, eq-eqb, false_from_ne_true}
use Rattle.std.proofs.lemmas.List.{append-nil}
use Rattle.smil_model.specs.declared.times.Time.{Time}
use Rattle.smil_model.specs.declared.times.Time.TheVariants.{At, Indefinite, Unresolved}
use Rattle.smil_model.specs.declared.diary.Entry.{Entry}
use Rattle.smil_model.specs.declared.diary.LogEntry.{LogEntry}
use Rattle.smil_model.specs.declared.diary.Step.{Step}
use Rattle.smil_model.specs.declared.interval.Interval.{Interval}
use Rattle.smil_model.specs.declared.document.Node.{Node}
use Rattle.smil_model.specs.Times.{later_time}
use Rattle.smil_model.specs.document.Document.{elements, node_at, is_within, is_element, lineage, has_serial, serials}
use Rattle.smil_model.specs.document.Dependencies.{all_items}
use Rattle.smil_model.specs.document.Closure.{has}
use Rattle.smil_model.specs.diary.Diary.{History, up_to, is_active}
use Rattle.smil_model.specs.diary.Clocks.{outer_stands, stands, iteration_start}
use Rattle.smil_model.specs.interval.Instances.{is_press}
use Rattle.smil_model.specs.interval.Current.{interval_given, simple_of}
use Rattle.smil_model.specs.happening.Keys.{coming_of, coming_begin, coming_end, coming_end_at, coming_repeat, coming_repeat_at}
use Rattle.smil_model.specs.reach.Reach.{reads, reads_node, is_key_item, waiters, key_of, subject_of}
use Rattle.smil_laws.proofs.LineageParents.{ParentsBefore}
use Rattle.smil_laws.proofs.ForeignEntries.{is_about, Apart, ReadsApart, active-then, own-then, parent-then, own_held-then, parent_held-then, play_start-then, iteration_start-then, iteration-then, simple-then, interval-then}
use Rattle.smil_laws.proofs.ReachLaw.{IsOutside, IsMute}
use Rattle.smil_laws.proofs.ReachClosed.{any_kept, found_any, any_reverse, chain_begins, no_element_above, from_serials, child_is_all, before_is_all, sync_is_all, event_is_all, own_is_all}
use Rattle.smil_laws.proofs.UnreachedIntervals.{fresh, absent, about_none, about_no_one, no_press, lone_press, one_press, is_waiter, found_here, outside_all}
use Rattle.smil_laws.specs.Touched.{is_touched, is_touched_from, is_touched_through, is_touched_by, GivesSame}

-- ---- one entry on an element of which the element reads nothing

module _ (h : History) (first : ParentsBefore (reverse h.nodes)) (y : Entry) (x : ℕ) (only : (s : ℕ) → s == x ≡ false → is_about h.log s y.step ≡ false) (J : ℕ → Option Interval) (now : ℤ) (e : Node) (far : ReadsApart h first y x only e) where
  abbrev then : History
  then = up_to h (h.diary ++ y ∷ [])

  begin-then : (place : ℕ) (o : Option Interval) → coming_begin then now place e o ≡ coming_begin h now place e o
  begin-then place None = refl
  begin-then place (Some i) = rw (parent-then h first y x only e.serial now far.apart) refl

  end_at-then : (place : ℕ) (begin : ℤ) (t : Time) → coming_end_at then now place e begin t ≡ coming_end_at h now place e begin t
  end_at-then place begin (At v) = rw (parent-then h first y x only e.serial now far.apart) refl
  end_at-then place begin Indefinite = refl
  end_at-then place begin Unresolved = refl

  end-then : (place : ℕ) (o : Option Interval) → coming_end then now place e o ≡ coming_end h now place e o
  end-then place None = refl
  end-then place (Some i) = end_at-then place i.begin i.«end»

  repeat_at-then : (place : ℕ) (simple t : Time) → coming_repeat_at then now place e simple t ≡ coming_repeat_at h now place e simple t
  repeat_at-then place simple (At over) =
      rw (play_start-then h first y x only e.serial far.apart, iteration_start-then h first y x only e.serial far.apart, iteration-then h first y x only e.serial far.apart, own-then h first y x only e.serial now far.apart.above) refl
  repeat_at-then place simple Indefinite = refl
  repeat_at-then place simple Unresolved = refl

  abbrev asks : Bool
  asks = is_some e.attrs.repeat_count || is_some e.attrs.repeat_dur

  repeat-then : (place : ℕ) → coming_repeat then (simple_of then J e) now place e ≡ coming_repeat h (simple_of h J e) now place e
  repeat-then place =
      ap (λ t. cond (asks && not t) (coming_repeat_at then now place e (simple_of then J e) (later_time (simple_of then J e) (iteration_start then e.serial))) []) (own_held-then h first y x only e.serial far.apart)
      ∙ ap (λ s. cond (asks && not (stands h e.serial)) (coming_repeat_at then now place e s (later_time s (iteration_start then e.serial))) []) (simple-then h first y x only J now e far)
      ∙ ap (λ i. cond (asks && not (stands h e.serial)) (coming_repeat_at then now place e (simple_of h J e) (later_time (simple_of h J e) i)) []) (iteration_start-then h first y x only e.serial far.apart)
      ∙ ap (λ cs. cond (asks && not (stands h e.serial)) cs []) (repeat_at-then place (simple_of h J e) (later_time (simple_of h J e) (iteration_start h e.serial)))

  coming-then : (place : ℕ) → coming_of then J now place e ≡ coming_of h J now place e
  coming-then place =
      ap (λ t. cond t (cond (outer_stands then e.serial) [] (coming_end then now place e (J e.serial)) ++ coming_repeat then (simple_of then J e) now place e) (cond (outer_stands then e.serial) [] (coming_begin then now place e (J e.serial)))) (active-then h first y x only h.diary e.serial far.apart.self)
      ∙ ap (λ t. cond (is_active h.diary e.serial) (cond t [] (coming_end then now place e (J e.serial)) ++ coming_repeat then (simple_of then J e) now place e) (cond t [] (coming_begin then now place e (J e.serial)))) (parent_held-then h first y x only e.serial far.apart)
      ∙ ap (λ cs. cond (is_active h.diary e.serial) (cond (outer_stands h e.serial) [] cs ++ coming_repeat then (simple_of then J e) now place e) (cond (outer_stands h e.serial) [] (coming_begin then now place e (J e.serial)))) (end-then place (J e.serial))
      ∙ ap (λ cs. cond (is_active h.diary e.serial) (cond (outer_stands h e.serial) [] (coming_end h now place e (J e.serial)) ++ cs) (cond (outer_stands h e.serial) [] (coming_begin then now place e (J e.serial)))) (repeat-then place)
      ∙ ap (λ cs. cond (is_active h.diary e.serial) (cond (outer_stands h e.serial) [] (coming_end h now place e (J e.serial)) ++ coming_repeat h (simple_of h J e) now place e) (cond (outer_stands h e.serial) [] cs)) (begin-then place (J e.serial))

  pub same-then : GivesSame h then J now e
  same-then = record { interval = interval-then h first y x only J now e far; coming = coming-then }

-- ---- what is not touched reads nothing of the entry's element

-- an element that is not x and not below it is apart from x
apart_free : (nodes : List Node) (x s : ℕ) → has (serials (elements nodes)) s ≡ true → is_within nodes x s ≡ false → Apart nodes x s
apart_free nodes x s i free = record {
  self = chain_begins (reverse nodes) s x (any_reverse (λ (n : Node). n.serial == s) nodes in_nodes) free;
  above = no_element_above x (lineage nodes s) free;
}
  where
    in_nodes : list_any (λ (n : Node). n.serial == s) nodes ≡ true
    in_nodes = any_kept is_element (λ (n : Node). n.serial == s) (λ (n : Node). n.serial == s) nodes (λ n p q. q) (from_serials s (elements nodes) i)

-- one of these that passes
any_serial : (t : ℕ → Bool) (ns : List Node) (s : ℕ) → has (serials ns) s ≡ true → t s ≡ true → list_any (λ (n : Node). t n.serial) ns ≡ true
any_serial t [] s i q = cc
any_serial t (n ∷ ns) s i q = by_case (or_cases (n.serial == s) (has (serials ns) s) i) (λ r. any_serial t ns s r q)
  where
    by_case : (n.serial == s ≡ true) ⊎ (has (serials ns) s ≡ true) → (has (serials ns) s ≡ true → list_any (λ (m : Node). t m.serial) ns ≡ true) → list_any (λ (m : Node). t m.serial) (n ∷ ns) ≡ true
    by_case (inl d) later = or_left _ _ (ap t (eqb-true n.serial s d) ∙ q)
    by_case (inr r) later = or_right _ _ (later r)

module _ (h : History) (first : ParentsBefore (reverse h.nodes)) (y : Entry) (x : ℕ) (only : (s : ℕ) → s == x ≡ false → is_about h.log s y.step ≡ false) (e : Node) (here : node_at (elements h.nodes) e.serial ≡ Some e) (silent : IsMute h.nodes h.log y.step e) where
  -- of an element that the document lacks nothing is read
  pub far_absent : list_any (λ (n : Node). n.serial == x) (elements h.nodes) ≡ false → ReadsApart h first y x only e
  far_absent absent = record {
    apart = o.apart;
    children = λ s i q. (o.children s i q).1;
    before = λ b q. (o.before b q).1;
    named = λ b q. (o.named b q).1;
    heard = o.heard;
    keys = silent;
  }
    where
      o : IsOutside h.nodes x (λ _. true) e
      o = outside_all h.nodes x absent e here

  pub far_untouched : is_touched h.nodes x e.serial ≡ false → ReadsApart h first y x only e
  far_untouched free = record {
    apart = apart_free h.nodes x e.serial own parts.0;
    children = λ s i q. away s (child_is_all h.nodes x e.serial s q) (or_left _ _ (or_left _ _ (or_left _ _ (and_from _ _ i q))));
    before = λ b q. away b.serial (before_is_all h.nodes x e.serial b q) (or_left _ _ (or_left _ _ (or_right _ _ (ap (has_serial b.serial) q ∙ eq-eqb b.serial b.serial refl))));
    named = λ b q. away b (sync_is_all h.nodes x b (all_items h.nodes e) q) (or_left _ _ (or_right _ _ q));
    heard = λ u q. (away u (event_is_all h.nodes x e.serial u (all_items h.nodes e) own q) (or_right _ _ q)).self;
    keys = silent;
  }
    where
      own : has (serials (elements h.nodes)) e.serial ≡ true
      own = own_is_all h.nodes x e here

      parts : (is_within h.nodes x e.serial ≡ false) × (list_any (λ (b : Node). is_within h.nodes x b.serial && reads h.nodes b.serial e.serial) (elements h.nodes) ≡ false)
      parts = or_parts _ _ free

      away : (s : ℕ) → has (serials (elements h.nodes)) s ≡ true → reads_node h.nodes s e ≡ true → Apart h.nodes x s
      away s i r =
          apart_free h.nodes x s i
          (false_from_ne_true (is_within h.nodes x s)
          (λ w. let is_read : list_any (λ (b : Node). is_within h.nodes x b.serial && reads h.nodes b.serial e.serial) (elements h.nodes) ≡ true = any_serial (λ b. is_within h.nodes x b && reads h.nodes b e.serial) (elements h.nodes) s i (and_from _ _ w (found_any e.serial (reads_node h.nodes s) (elements h.nodes) e here r)) in
          let never : false ≡ true = sym parts.1 ∙ is_read in cc))

-- ---- keys

-- a press reaches no element that does not wait for its key
pub mute : (nodes : List Node) (log : List LogEntry) (step : Step) (e : Node) → node_at (elements nodes) e.serial ≡ Some e → (o : Option ℕ) → key_of log step ≡ o → is_touched_through nodes o (subject_of log step) e.serial ≡ false → IsMute nodes log step e
mute nodes log step e here None on free k i = no_press log step k on
mute nodes log step e here (Some key) on free k i =
    false_from_ne_true (is_press log k step)
    (λ u. let one : k ≡ key = one_press log step key k on u in
    let is_in : has (waiters nodes key) e.serial ≡ true = is_waiter nodes key e here (sym (ap (λ z. list_any (is_key_item z) (all_items nodes e)) one) ∙ i) in
    let never : false ≡ true = sym free ∙ is_in in cc)

-- ---- the entries one by one

module _ (J : ℕ → Option Interval) (now : ℤ) (e : Node) where
  -- an entry on no element
  aloof_stays : (h : History) → ParentsBefore (reverse h.nodes) → (y : Entry) → node_at (elements h.nodes) e.serial ≡ Some e → subject_of h.log y.step ≡ None → IsMute h.nodes h.log y.step e → GivesSame h (up_to h (h.diary ++ y ∷ [])) J now e
  aloof_stays h first y here on silent =
      let x = fresh h first y in
      let only = λ (s : ℕ) (d : s == x ≡ false). about_no_one h.log y.step s on in
      same-then h first y x only J now e (far_absent h first y x only e here silent (absent h first y))

  from_stays : (h : History) → ParentsBefore (reverse h.nodes) → (y : Entry) → node_at (elements h.nodes) e.serial ≡ Some e → IsMute h.nodes h.log y.step e → (o : Option ℕ) → subject_of h.log y.step ≡ o → is_touched_from h.nodes o e.serial ≡ false → GivesSame h (up_to h (h.diary ++ y ∷ [])) J now e
  from_stays h first y here silent None on free = aloof_stays h first y here on silent
  from_stays h first y here silent (Some x) on free = by_found (is_some (node_at (elements h.nodes) x)) refl free
    where
      only : (s : ℕ) → s == x ≡ false → is_about h.log s y.step ≡ false
      only s d = about_none h.log y.step x s on d

      by_found : (b : Bool) → is_some (node_at (elements h.nodes) x) ≡ b → (b && is_touched h.nodes x e.serial) ≡ false → GivesSame h (up_to h (h.diary ++ y ∷ [])) J now e
      by_found true q r = same-then h first y x only J now e (far_untouched h first y x only e here silent r)
      by_found false q r = same-then h first y x only J now e (far_absent h first y x only e here silent (found_here x (elements h.nodes) q))

  one_stays : (h : History) → ParentsBefore (reverse h.nodes) → (y : Entry) → node_at (elements h.nodes) e.serial ≡ Some e → (k : Option ℕ) → key_of h.log y.step ≡ k → is_touched_through h.nodes k (subject_of h.log y.step) e.serial ≡ false → GivesSame h (up_to h (h.diary ++ y ∷ [])) J now e
  one_stays h first y here None on free =
      from_stays h first y here (mute h.nodes h.log y.step e here None on free) (subject_of h.log y.step) refl free
  one_stays h first y here (Some key) on free =
      aloof_stays h first y here (lone_press h.log y.step key on) (mute h.nodes h.log y.step e here (Some key) on free)

  stays : (h : History) (ys : List Entry) → ParentsBefore (reverse h.nodes) → node_at (elements h.nodes) e.serial ≡ Some e → is_touched_by h.nodes h.log ys e.serial ≡ false → GivesSame h (up_to h (h.diary ++ ys)) J now e
  stays h [] first here free = record {
    interval = ap (λ d. interval_given (up_to h d) J now e) (append-nil h.diary);
    coming = λ place. ap (λ d. coming_of (up_to h d) J now place e) (append-nil h.diary);
  }
  stays h (y ∷ ys) first here free =
      let parts = or_parts _ _ free in
      let now_same = one_stays h first y here (key_of h.log y.step) refl parts.0 in
      let later_same = stays (up_to h (h.diary ++ y ∷ [])) ys first here parts.1 in
      record {
        interval =
            ap (λ d. interval_given (up_to h d) J now e) (sym (append_assoc h.diary (y ∷ []) ys))
            ∙ later_same.interval ∙ now_same.interval;
        coming = λ place.
            ap (λ d. coming_of (up_to h d) J now place e) (sym (append_assoc h.diary (y ∷ []) ys))
            ∙ later_same.coming place ∙ now_same.coming place;
      }

pub leaves_untouched : (h : History) (entries : List Entry) (intervals : ℕ → Option Interval) (now : ℤ) (e : Node) → ParentsBefore (reverse h.nodes) → node_at (elements h.nodes) e.serial ≡ Some e → is_touched_by h.nodes h.log entries e.serial ≡ false → GivesSame h (up_to h (h.diary ++ entries)) intervals now e
leaves_untouched h entries intervals now e first here free = stays intervals now e h entries first here free
