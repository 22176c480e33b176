-- The law over the definitions: an entry leaves the current interval of each element outside its reach as it was.
use Rattle.std.proofs.Common.{◌≡◌, refl, sym, ◌∙◌, ap, ℕ, suc, ◌+◌, ◌<◌, List, [], ◌∷◌, ◌++◌, Option, Some, None, ℤ, Bool, true, false, inl, inr, arith}
use Rattle.std.specs.Prelude.{◌==◌, ◌||◌, ◌&&◌, ◌⊎◌, cond, filter, find, is_some, not, reverse, slice_get}
use Rattle.std.specs.List.{list_any}
use Rattle.std.proofs.lemmas.List.{reverse-append}
use Rattle.std.proofs.lemmas.List.Folds.{list_any-append}
use Rattle.smil_model.specs.declared.document.Node.{Node}
use Rattle.smil_model.specs.document.Document.{is_element, elements, node_at, upwards, has_serial, serials}
use Rattle.smil_model.specs.document.Dependencies.{all_items}
use Rattle.std.proofs.lemmas.Bool.{not_from_false, not-true, or_left, or_right, or_parts, or_from, or_cases, and_parts, and_from, eqb-true, eq-eqb, false_from_ne_true}
use Rattle.smil_model.specs.declared.diary.Entry.{Entry}
use Rattle.smil_model.specs.declared.diary.LogEntry.{LogEntry}
use Rattle.smil_model.specs.declared.diary.Happening.{Happening}
use Rattle.smil_model.specs.declared.diary.Happening.TheVariants as happening
use Rattle.smil_model.specs.declared.diary.Step.{Step}
use Rattle.smil_model.specs.declared.diary.Step.TheVariants.{Began, Repeated, Ended, Cut, Paused, Resumed, Deferred, Passed, Logged}
use Rattle.smil_model.specs.diary.Diary.{History, up_to}
use Rattle.smil_model.specs.interval.Instances.{is_press}
use Rattle.smil_model.specs.interval.Current.{current_interval}
use Rattle.smil_model.specs.document.Closure.{has, closure}
use Rattle.smil_model.specs.reach.Reach.{is_option, subject, subject_of, logged_subject, down, down_from, is_key_item, waiters, down_key, pressed, logged_key, key_of, reads, reads_node, reach_by, reach}
use Rattle.smil_laws.proofs.LineageParents.{ParentsBefore, swap_eqb}
use Rattle.smil_laws.proofs.ForeignEntries.{is_about, logged_about, happens_to, Apart}
use Rattle.smil_laws.proofs.ReachClosed.{found_any, any_filter, has_serials, is_out, out_before, outside_reach, child_is_all, before_is_all, sync_is_all, event_is_all, own_is_all, from_serials}
use Rattle.smil_laws.proofs.ReachLaw.{IsOutside, IsMute, unreached}
use Rattle.smil_laws.proofs.ClosureExact.{has_set}

-- a step is on its subject alone
pub about_none : (log : List LogEntry) (step : Step) (x s : ℕ) → subject_of log step ≡ Some x → s == x ≡ false → is_about log s step ≡ false
about_none log (Began who begin) x s q d = let one : who ≡ x = cc in rw one (swap_eqb s x d)
about_none log (Repeated who start) x s q d = let one : who ≡ x = cc in rw one (swap_eqb s x d)
about_none log (Ended who end') x s q d = let one : who ≡ x = cc in rw one (swap_eqb s x d)
about_none log (Cut who) x s q d = let one : who ≡ x = cc in rw one (swap_eqb s x d)
about_none log (Paused who) x s q d = let one : who ≡ x = cc in rw one (swap_eqb s x d)
about_none log (Resumed who) x s q d = let one : who ≡ x = cc in rw one (swap_eqb s x d)
about_none log (Deferred who begin) x s q d = let one : who ≡ x = cc in rw one (swap_eqb s x d)
about_none log (Passed who begin) x s q d = let one : who ≡ x = cc in rw one (swap_eqb s x d)
about_none log (Logged place) x s q d = by_entry (slice_get log place) q
  where
    by_entry : (o : Option LogEntry) → logged_subject o ≡ Some x → logged_about s o ≡ false
    by_entry None r = cc
    by_entry (Some entry) r = by_what entry.what r
      where
        by_what : (w : Happening) → subject w ≡ Some x → happens_to s w ≡ false
        by_what (happening.Event who name) g = let one : who ≡ x = cc in rw one (swap_eqb s x d)
        by_what (happening.Media who length) g = let one : who ≡ x = cc in rw one (swap_eqb s x d)
        by_what (happening.Key key) g = refl

-- a step without a subject is on no element
pub about_no_one : (log : List LogEntry) (step : Step) (s : ℕ) → subject_of log step ≡ None → is_about log s step ≡ false
about_no_one log (Began who begin) s q = cc
about_no_one log (Repeated who start) s q = cc
about_no_one log (Ended who end') s q = cc
about_no_one log (Cut who) s q = cc
about_no_one log (Paused who) s q = cc
about_no_one log (Resumed who) s q = cc
about_no_one log (Deferred who begin) s q = cc
about_no_one log (Passed who begin) s q = cc
about_no_one log (Logged place) s q = by_entry (slice_get log place) q
  where
    by_entry : (o : Option LogEntry) → logged_subject o ≡ None → logged_about s o ≡ false
    by_entry None r = refl
    by_entry (Some entry) r = by_what entry.what r
      where
        by_what : (w : Happening) → subject w ≡ None → happens_to s w ≡ false
        by_what (happening.Event who name) g = cc
        by_what (happening.Media who length) g = cc
        by_what (happening.Key key) g = refl

-- a step that presses no key is no press, and one that presses a key has no subject and is a press of no other
pub no_press : (log : List LogEntry) (step : Step) (k : ℕ) → key_of log step ≡ None → is_press log k step ≡ false
no_press log step k q = ap (is_option k) q

pub lone_press : (log : List LogEntry) (step : Step) (key : ℕ) → key_of log step ≡ Some key → subject_of log step ≡ None
lone_press log (Logged place) key q = by_entry (slice_get log place) q
  where
    by_entry : (o : Option LogEntry) → logged_key o ≡ Some key → logged_subject o ≡ None
    by_entry None r = cc
    by_entry (Some entry) r = by_what entry.what r
      where
        by_what : (w : Happening) → pressed w ≡ Some key → subject w ≡ None
        by_what (happening.Event who name) g = cc
        by_what (happening.Media who length) g = cc
        by_what (happening.Key own) g = refl
lone_press log _ key q = cc

pub one_press : (log : List LogEntry) (step : Step) (key k : ℕ) → key_of log step ≡ Some key → is_press log k step ≡ true → k ≡ key
one_press log step key k q t = eqb-true k key (sym (ap (is_option k) q) ∙ t)

module _ (h : History) (first : ParentsBefore (reverse h.nodes)) (y : Entry) (x : ℕ) (on : subject_of h.log y.step ≡ Some x) (plain : key_of h.log y.step ≡ None) where
  leaves_unreached : (now : ℤ) (s : ℕ) → has (down h.nodes x) s ≡ false → current_interval (up_to h (h.diary ++ y ∷ [])) now s ≡ current_interval h now s
  leaves_unreached now s out =
      unreached h first y x (λ t d. about_none h.log y.step x t on d) (is_out h.nodes x) (outside_reach h.nodes x)
      (λ e here t k i. no_press h.log y.step k plain) now s (not_from_false _ out)

-- ---- an entry on no node of the document

pub absent_up : (test : Node → Bool) (rs : List Node) (s : ℕ) → list_any test rs ≡ false → list_any test (upwards rs s) ≡ false
absent_up test [] s q = refl
absent_up test (n ∷ before) s q =
    let parts = or_parts (test n) (list_any test before) q in
    step (n.serial == s) parts.0 (absent_up test before n.parent parts.1) (absent_up test before s parts.1)
  where
    step : (t : Bool) → test n ≡ false → list_any test (upwards before n.parent) ≡ false → list_any test (upwards before s) ≡ false → list_any test (cond t (n ∷ upwards before (cond t n.parent s)) (upwards before (cond t n.parent s))) ≡ false
    step true here l r = or_from _ _ here l
    step false here l r = r

pub absent_reverse : (test : Node → Bool) (ns : List Node) → list_any test ns ≡ false → list_any test (reverse ns) ≡ false
absent_reverse test [] q = q
absent_reverse test (n ∷ ns) q =
    let parts = or_parts (test n) (list_any test ns) q in
    ap (list_any test) (reverse-append (n ∷ []) ns) ∙ list_any-append test (reverse ns) (n ∷ [])
    ∙ or_from _ _ (absent_reverse test ns parts.1) (or_from _ _ parts.0 refl)

absent_serial : (x s : ℕ) (ns : List Node) → list_any (λ (n : Node). n.serial == x) ns ≡ false → list_any (λ (n : Node). n.serial == s) ns ≡ true → s == x ≡ false
absent_serial x s [] q t = cc
absent_serial x s (n ∷ ns) q t =
    let parts = or_parts (n.serial == x) (list_any (λ (n : Node). n.serial == x) ns) q in
    by_case parts.0 (or_cases (n.serial == s) (list_any (λ (n : Node). n.serial == s) ns) t) (absent_serial x s ns parts.1)
  where
    by_case : n.serial == x ≡ false → (n.serial == s ≡ true) ⊎ (list_any (λ (n : Node). n.serial == s) ns ≡ true) → (list_any (λ (n : Node). n.serial == s) ns ≡ true → s == x ≡ false) → s == x ≡ false
    by_case here (inl e) later = rw (← eqb-true n.serial s e) here
    by_case here (inr r) later = later r

-- no element among nodes
no_element : (x : ℕ) (ns : List Node) → list_any (λ (n : Node). n.serial == x) (elements ns) ≡ false → list_any (λ (n : Node). is_element n && (n.serial == x)) ns ≡ false
no_element x [] q = refl
no_element x (n ∷ ns) q = step (is_element n) q (no_element x ns)
  where
    step : (t : Bool) → list_any (λ (n : Node). n.serial == x) (cond t (n ∷ elements ns) (elements ns)) ≡ false → (list_any (λ (n : Node). n.serial == x) (elements ns) ≡ false → list_any (λ (n : Node). is_element n && (n.serial == x)) ns ≡ false) → ((t && (n.serial == x)) || list_any (λ (n : Node). is_element n && (n.serial == x)) ns) ≡ false
    step true r later = let parts = or_parts (n.serial == x) (list_any (λ (n : Node). n.serial == x) (elements ns)) r in or_from _ _ parts.0 (later parts.1)
    step false r later = later r

module _ (nodes : List Node) (x : ℕ) (absent : list_any (λ (n : Node). n.serial == x) (elements nodes) ≡ false) where
  apart_absent : (s : ℕ) → has (serials (elements nodes)) s ≡ true → Apart nodes x s
  apart_absent s i = record {
    self = absent_serial x s (elements nodes) absent (from_serials s (elements nodes) i);
    above = absent_up (λ (n : Node). is_element n && (n.serial == x)) (reverse nodes) s (absent_reverse (λ (n : Node). is_element n && (n.serial == x)) nodes (no_element x nodes absent));
  }

  pub outside_all : (e : Node) → node_at (elements nodes) e.serial ≡ Some e → IsOutside nodes x (λ _. true) e
  outside_all e here = record {
    apart = apart_absent e.serial own;
    children = λ s i q. (refl, apart_absent s (child_is_all nodes x e.serial s q));
    before = λ b q. (refl, apart_absent b.serial (before_is_all nodes x e.serial b q));
    named = λ b q. (refl, apart_absent b (sync_is_all nodes x b (all_items nodes e) q));
    heard = λ u q. (apart_absent u (event_is_all nodes x e.serial u (all_items nodes e) own q)).self;
  }
    where
      own : has (serials (elements nodes)) e.serial ≡ true
      own = own_is_all nodes x e here

  -- outside a closed set
  outside_closed : (set : List ℕ) (e : Node) → node_at (elements nodes) e.serial ≡ Some e → not (has (closure (reads nodes) (serials (elements nodes)) set) e.serial) ≡ true → IsOutside nodes x (λ s. not (has (closure (reads nodes) (serials (elements nodes)) set) s)) e
  outside_closed set e here t = record {
    apart = apart_absent e.serial own;
    children = λ s i q. away s (child_is_all nodes x e.serial s q) (or_left _ _ (or_left _ _ (or_left _ _ (and_from _ _ i q))));
    before = λ b q. away b.serial (before_is_all nodes x e.serial b q) (or_left _ _ (or_left _ _ (or_right _ _ (ap (has_serial b.serial) q ∙ eq-eqb b.serial b.serial refl))));
    named = λ b q. away b (sync_is_all nodes x b (all_items nodes e) q) (or_left _ _ (or_right _ _ q));
    heard = λ u q. (apart_absent u (event_is_all nodes x e.serial u (all_items nodes e) own q)).self;
  }
    where
      own : has (serials (elements nodes)) e.serial ≡ true
      own = own_is_all nodes x e here

      away : (s : ℕ) → has (serials (elements nodes)) s ≡ true → reads_node nodes s e ≡ true → (not (has (closure (reads nodes) (serials (elements nodes)) set) s) ≡ true) × Apart nodes x s
      away s i r = (not_from_false _ (out_before nodes x set s e here (not-true _ t) r), apart_absent s i)

pub found_here : (x : ℕ) (ns : List Node) → is_some (find (λ (n : Node). n.serial == x) ns) ≡ false → list_any (λ (n : Node). n.serial == x) ns ≡ false
found_here x [] q = refl
found_here x (n ∷ ns) q = step (n.serial == x) q (found_here x ns)
  where
    step : (t : Bool) → is_some (cond t (Some n) (find (λ (n : Node). n.serial == x) ns)) ≡ false → (is_some (find (λ (n : Node). n.serial == x) ns) ≡ false → list_any (λ (n : Node). n.serial == x) ns ≡ false) → (t || list_any (λ (n : Node). n.serial == x) ns) ≡ false
    step true q later = cc
    step false q later = later q

-- an element with an item for the key waits for it
pub is_waiter : (nodes : List Node) (key : ℕ) (e : Node) → node_at (elements nodes) e.serial ≡ Some e → list_any (is_key_item key) (all_items nodes e) ≡ true → has (waiters nodes key) e.serial ≡ true
is_waiter nodes key e here t =
    has_serials e.serial (filter waiting (elements nodes))
    (any_filter waiting (λ (n : Node). n.serial == e.serial) (λ (n : Node). (n.serial == e.serial) && waiting n) (elements nodes)
    (λ n u. (and_parts _ _ u).1) (λ n u. (and_parts _ _ u).0)
    (found_any e.serial waiting (elements nodes) e here t))
  where
    waiting : Node → Bool
    waiting = λ (n : Node). list_any (is_key_item key) (all_items nodes n)

-- the law for an entry on a node
module _ (h : History) (first : ParentsBefore (reverse h.nodes)) (y : Entry) where
  leaves_on : (x : ℕ) → subject_of h.log y.step ≡ Some x → key_of h.log y.step ≡ None → (now : ℤ) (s : ℕ) → has (down_from h.nodes (Some x)) s ≡ false → current_interval (up_to h (h.diary ++ y ∷ [])) now s ≡ current_interval h now s
  leaves_on x on plain now s out = by_node (is_some (node_at (elements h.nodes) x)) refl out
    where
      by_node : (t : Bool) → is_some (node_at (elements h.nodes) x) ≡ t → has (cond t (down h.nodes x) []) s ≡ false → current_interval (up_to h (h.diary ++ y ∷ [])) now s ≡ current_interval h now s
      by_node true q free = leaves_unreached h first y x on plain now s free
      by_node false q free =
          unreached h first y x (λ t d. about_none h.log y.step x t on d) (λ _. true)
          (λ e here t. outside_all h.nodes x (found_here x (elements h.nodes) q) e here)
          (λ e here t k i. no_press h.log y.step k plain) now s refl

  -- ---- an entry on no node: a serial that no node has stands for its subject

  abbrev total : List Node → ℕ
  total [] = 0
  total (n ∷ ns) = n.serial + total ns

  pub fresh : ℕ
  fresh = suc (total (elements h.nodes))

  unused : (ns : List Node) → total ns < fresh → list_any (λ (n : Node). n.serial == fresh) ns ≡ false
  unused [] l = refl
  unused (n ∷ ns) l =
      let sum : n.serial + total ns < fresh = l in
      or_from (n.serial == fresh) (list_any (λ (n : Node). n.serial == fresh) ns)
      (false_from_ne_true (n.serial == fresh) (λ t. let same = eqb-true n.serial fresh t in absurd (omega (arith, same, sum))))
      (unused ns (omega (arith, sum)))

  pub absent : list_any (λ (n : Node). n.serial == fresh) (elements h.nodes) ≡ false
  absent = unfold fresh in unused (elements h.nodes) (omega arith)

  leaves_all : subject_of h.log y.step ≡ None → key_of h.log y.step ≡ None → (now : ℤ) (s : ℕ) → current_interval (up_to h (h.diary ++ y ∷ [])) now s ≡ current_interval h now s
  leaves_all on plain now s =
      unreached h first y fresh (λ t d. about_no_one h.log y.step t on) (λ _. true)
      (λ e here t. outside_all h.nodes fresh absent e here)
      (λ e here t k i. no_press h.log y.step k plain) now s refl

  -- an element with an item for the key is in its reach
  waits : (key : ℕ) (e : Node) → node_at (elements h.nodes) e.serial ≡ Some e → list_any (is_key_item key) (all_items h.nodes e) ≡ true → has (down_key h.nodes key) e.serial ≡ true
  waits key e here t =
      has_set (reads h.nodes) (serials (elements h.nodes)) (waiters h.nodes key) e.serial (own_is_all h.nodes fresh e here)
      (is_waiter h.nodes key e here t)

  leaves_mute : (key : ℕ) → key_of h.log y.step ≡ Some key → (now : ℤ) (s : ℕ) → has (down_key h.nodes key) s ≡ false → current_interval (up_to h (h.diary ++ y ∷ [])) now s ≡ current_interval h now s
  leaves_mute key on now s out =
      unreached h first y fresh (λ t d. about_no_one h.log y.step t (lone_press h.log y.step key on)) (λ z. not (has (down_key h.nodes key) z))
      (outside_closed h.nodes fresh absent (waiters h.nodes key)) mute now s (not_from_false _ out)
    where
      mute : (e : Node) → node_at (elements h.nodes) e.serial ≡ Some e → not (has (down_key h.nodes key) e.serial) ≡ true → IsMute h.nodes h.log y.step e
      mute e here t k i =
          false_from_ne_true (is_press h.log k y.step)
          (λ u. let one : k ≡ key = one_press h.log y.step key k on u in
          let is_in : has (down_key h.nodes key) e.serial ≡ true = waits key e here (sym (ap (λ z. list_any (is_key_item z) (all_items h.nodes e)) one) ∙ i) in
          let never : false ≡ true = sym (not-true _ t) ∙ is_in in cc)

  -- the law for the reach of an entry
  pub leaves_beyond_reach : (now : ℤ) (s : ℕ) → has (reach h.nodes h.log y) s ≡ false → current_interval (up_to h (h.diary ++ y ∷ [])) now s ≡ current_interval h now s
  leaves_beyond_reach now s out = by_key (key_of h.log y.step) refl out
    where
      by_subject : key_of h.log y.step ≡ None → (o : Option ℕ) → subject_of h.log y.step ≡ o → has (down_from h.nodes o) s ≡ false → current_interval (up_to h (h.diary ++ y ∷ [])) now s ≡ current_interval h now s
      by_subject plain None q free = leaves_all q plain now s
      by_subject plain (Some x) q free = leaves_on x q plain now s free

      by_key : (o : Option ℕ) → key_of h.log y.step ≡ o → has (reach_by h.nodes o (subject_of h.log y.step)) s ≡ false → current_interval (up_to h (h.diary ++ y ∷ [])) now s ≡ current_interval h now s
      by_key None q free = by_subject q (subject_of h.log y.step) refl free
      by_key (Some key) q free = leaves_mute key q now s free
