-- An entry on x leaves the readings and clocks of each element that is neither x nor a descendant of it.
use Rattle.std.proofs.Common.{◌≡◌, refl, sym, ◌∙◌, ap, ℕ, suc, zero, ◌≤◌, ◌+◌, List, [], ◌∷◌, ◌++◌, length, Option, Some, None, ℤ, Bool, true, false, arith, length-append, append_assoc, inl, inr}
use Rattle.std.specs.Prelude.{pos, negsuc, cond, ◌==◌, ◌||◌, ◌&&◌, reverse, drop, fold, filter, min, slice_get, int_le, option_map, ◌+ℤ◌, ◌-ℤ◌, ◌⊎◌, filter_map, flat_map, map, unwrap_or}
use Rattle.std.specs.List.{cons_option, list_any}
use Rattle.std.proofs.lemmas.List.Elements.{filter_map-append, filter-append}
use Rattle.smil_model.specs.declared.interval.Interval.{Interval}
use Rattle.smil_model.specs.declared.document.Edge.{Edge}
use Rattle.smil_model.specs.declared.document.Edge.TheVariants.{Begin, End}
use Rattle.std.specs.Option.{option_map_or}
use Rattle.std.proofs.lemmas.Bool.{or_parts, or_left, or_right, and_from, eq-eqb}
use Rattle.std.proofs.lemmas.List.{drop-append-le, append-nil}
use Rattle.std.proofs.lemmas.List.Sums.{fold_push}
use Rattle.smil_model.specs.declared.diary.Entry.{Entry}
use Rattle.smil_model.specs.declared.diary.LogEntry.{LogEntry}
use Rattle.smil_model.specs.declared.diary.Happening.{Happening}
use Rattle.smil_model.specs.declared.diary.Step.{Step}
use Rattle.smil_model.specs.declared.diary.Step.TheVariants.{Began, Repeated, Ended, Cut, Paused, Resumed, Deferred, Passed, Logged}
use Rattle.smil_model.specs.declared.document.Node.{Node}
use Rattle.smil_model.specs.document.Document.{is_element, lineage, time_parent, previous_in_seq, element_named, has_serial, is_time_child, target}
use Rattle.smil_model.specs.document.Defaults.{begin_list, end_list}
use Rattle.smil_model.specs.diary.Diary.{History, last_place, later_place, gives_birth, birth_under, birth, since_birth, active_after, is_active, paused_after, is_paused, lives_under, is_alive, deferral_after, deferral, iteration_after, iteration, up_to, with_past}
use Rattle.smil_model.specs.diary.Clocks.{until, stands_by, elapsed, run, outer_under, outer, stands, stands_under, outer_stands, play_start_after, play_start, iteration_start_after, iteration_start, start_under, parent_start}
use Rattle.smil_model.specs.diary.Plays.{Plays, play_after, is_birth_under, plays, passed_after, passed}
use Rattle.smil_model.specs.interval.Instances.{is_press, edge_time, happened_times, expected_times, sync_times, is_event, is_named, is_log_event, is_repeat, hears, heard_times, offset_times, named_times, event_times, repeat_times, item_times, begin_times, end_times}
use Rattle.smil_model.specs.declared.diary.Happening.TheVariants as happening
use Rattle.smil_model.specs.declared.times.Time.{Time}
use Rattle.smil_model.specs.declared.document.Item.{Item}
use Rattle.smil_model.specs.declared.document.Item.TheVariants.{Offset, Sync, Event, Repeat, Key, Indefinite}
use Rattle.smil_model.specs.Times.{rising_times, within_horizon, rising, numbers}
use Rattle.smil_model.specs.document.Dependencies.{leads_to, is_sync_with, all_items, has_implicit_duration}
use Rattle.std.specs.Str.{bytes_eq}
use Rattle.smil_model.specs.declared.times.Time.TheVariants as time
use Rattle.smil_model.specs.declared.document.Kind.{Kind}
use Rattle.smil_model.specs.declared.document.Kind.TheVariants as kind
use Rattle.smil_model.specs.interval.Durations.{stated_duration}
use Rattle.smil_model.specs.interval.Intervals.{interval_of}
use Rattle.smil_model.specs.interval.Current.{logged_length, length_of, length_after, media_length, child_end, container_implicit, implicit_of, implicit_duration, simple_of, present_play, facts_of, interval_given}
use Rattle.std.proofs.lemmas.List.Folds.{list_any-append}
use Rattle.smil_model.specs.reach.Reach.{is_option, is_event_of, is_key_item}
use Rattle.smil_laws.proofs.LineageParents.{ParentsBefore, is_above, above_parent, not_parent}

-- whether a step is on the element with this serial
abbrev pub happens_to : ℕ → Happening → Bool
happens_to s (happening.Event who name) = who == s
happens_to s (happening.Media who length) = who == s
happens_to s (happening.Key key) = false

abbrev pub logged_about : ℕ → Option LogEntry → Bool
logged_about s None = false
logged_about s (Some entry) = happens_to s entry.what

abbrev pub is_about : List LogEntry → ℕ → Step → Bool
is_about log s (Began who begin) = who == s
is_about log s (Repeated who start) = who == s
is_about log s (Ended who end') = who == s
is_about log s (Cut who) = who == s
is_about log s (Paused who) = who == s
is_about log s (Resumed who) = who == s
is_about log s (Deferred who begin) = who == s
is_about log s (Passed who begin) = who == s
is_about log s (Logged place) = logged_about s (slice_get log place)

-- ---- a step on another element changes nothing

module _ (log : List LogEntry) (s : ℕ) where
  active-other : (b : Bool) (step : Step) → is_about log s step ≡ false → active_after s b step ≡ b
  active-other b (Began who begin) q = ap (λ t. t || b) q
  active-other b (Ended who end') q = ap (λ t. cond t false b) q
  active-other b (Cut who) q = ap (λ t. cond t false b) q
  active-other b _ q = refl

  paused-other : (b : Bool) (step : Step) → is_about log s step ≡ false → paused_after s b step ≡ b
  paused-other b (Began who begin) q = ap (λ t. cond t false b) q
  paused-other b (Paused who) q = ap (λ t. t || b) q
  paused-other b (Resumed who) q = ap (λ t. cond t false b) q
  paused-other b _ q = refl

  reset-other : (step : Step) → is_about log s step ≡ false → gives_birth s step ≡ false
  reset-other (Began who begin) q = q
  reset-other (Repeated who start) q = q
  reset-other _ q = refl

  deferral-other : (x : Entry) (b : Option Entry) (step : Step) → is_about log s step ≡ false → deferral_after s x b step ≡ b
  deferral-other x b (Began who begin) q = ap (λ t. cond t None b) q
  deferral-other x b (Ended who end') q = ap (λ t. cond t None b) q
  deferral-other x b (Cut who) q = ap (λ t. cond t None b) q
  deferral-other x b (Deferred who begin) q = ap (λ t. cond t (Some x) b) q
  deferral-other x b (Passed who begin) q = ap (λ t. cond t None b) q
  deferral-other x b _ q = refl

  iteration-other : (b : Option ℕ) (step : Step) → is_about log s step ≡ false → iteration_after s b step ≡ b
  iteration-other b (Began who begin) q = ap (λ t. cond t (Some 0) b) q
  iteration-other b (Repeated who start) q = ap (λ t. cond t (option_map suc b) b) q
  iteration-other b _ q = refl

  passed-other : (b : Option ℤ) (step : Step) → is_about log s step ≡ false → passed_after s b step ≡ b
  passed-other b (Passed who begin) q = rw q
  passed-other b _ q = refl

  play-other : (h : History) (m : ℤ) (b : Plays) (step : Step) → is_about log s step ≡ false → play_after h s m b step ≡ b
  play-other h m b (Began who begin) q = rw q
  play-other h m b (Ended who end') q = rw q
  play-other h m b (Cut who) q = rw q
  play-other h m b _ q = refl

  play_start-other : (h : History) (m : ℤ) (b : ℤ) (step : Step) → is_about log s step ≡ false → play_start_after h s m b step ≡ b
  play_start-other h m b (Began who begin) q = rw q
  play_start-other h m b _ q = refl

  iteration_start-other : (h : History) (m : ℤ) (b : ℤ) (step : Step) → is_about log s step ≡ false → iteration_start_after h s m b step ≡ b
  iteration_start-other h m b (Began who begin) q = rw q
  iteration_start-other h m b (Repeated who start) q = rw q
  iteration_start-other h m b _ q = refl

-- ---- lists

pub fold_same : {A B : Type 0} (f g : B → A → B) (b : B) (xs : List A) → ((z : B) (x : A) → f z x ≡ g z x) → fold f b xs ≡ fold g b xs
fold_same f g b [] same = refl
fold_same f g b (x ∷ xs) same = ap (λ z. fold f z xs) (same b x) ∙ fold_same f g (g b x) xs same

pub filter_map_each : {A B : Type 0} (f g : A → Option B) (zs : List A) → ((z : A) → f z ≡ g z) → filter_map f zs ≡ filter_map g zs
filter_map_each f g [] each = refl
filter_map_each f g (z ∷ zs) each = ap (λ o. cons_option o (filter_map f zs)) (each z) ∙ ap (λ r. cons_option (g z) r) (filter_map_each f g zs each)

pub last_place-push : {A : Type 0} (test : A → Bool) (xs : List A) (y : A) → test y ≡ false → last_place test (xs ++ y ∷ []) ≡ last_place test xs
last_place-push test [] y q = ap (λ t. later_place t None) q
last_place-push test (x ∷ xs) y q = ap (λ o. later_place (test x) o) (last_place-push test xs y q)

pub last_place-below : {A : Type 0} (test : A → Bool) (xs : List A) (k : ℕ) → last_place test xs ≡ Some k → suc k ≤ length xs
last_place-below test [] k q = cc
last_place-below test (x ∷ xs) k q = step (test x) (last_place test xs) refl q (last_place-below test xs)
  where
    step : (t : Bool) (o : Option ℕ) → last_place test xs ≡ o → later_place t o ≡ Some k → ((j : ℕ) → last_place test xs ≡ Some j → suc j ≤ length xs) → suc k ≤ suc (length xs)
    step t (Some j) e q below = let one : suc j ≡ k = cc in omega (arith, below j e, one)
    step true None e q below = let one : 0 ≡ k = cc in omega (arith, one)
    step false None e q below = cc

drop_all : {A : Type 0} (xs : List A) → drop (length xs) xs ≡ []
drop_all [] = refl
drop_all (x ∷ xs) = drop_all xs

-- ---- after an entry on x

-- x is neither the element nor above it
pub record Apart (nodes : List Node) (x s : ℕ) : Type 0 where
  pub self : s == x ≡ false
  pub above : is_above nodes x s ≡ false

any_same : (p q : Node → Bool) (x : ℕ) (ns : List Node) → ((n : Node) → n.serial == x ≡ false → p n ≡ q n) → list_any (λ (n : Node). is_element n && (n.serial == x)) ns ≡ false → list_any (λ (n : Node). is_element n && p n) ns ≡ list_any (λ (n : Node). is_element n && q n) ns
any_same p q x [] same free = refl
any_same p q x (n ∷ ns) same free =
    let parts = or_parts _ _ free in
    ap (λ t. t || list_any (λ (n : Node). is_element n && p n) ns) (here (is_element n) parts.0) ∙ ap (λ t. (is_element n && q n) || t) (any_same p q x ns same parts.1)
  where
    here : (t : Bool) → (t && (n.serial == x)) ≡ false → (t && p n) ≡ (t && q n)
    here true e = same n e
    here false e = refl

module _ (h : History) (first : ParentsBefore (reverse h.nodes)) (y : Entry) (x : ℕ) (only : (s : ℕ) → s == x ≡ false → is_about h.log s y.step ≡ false) where
  abbrev pub then_diary : List Entry
  then_diary = h.diary ++ y ∷ []

  abbrev pub then : History
  then = up_to h then_diary

  apart_parent : (s : ℕ) (p : Node) → Apart h.nodes x s → time_parent h.nodes s ≡ Some p → Apart h.nodes x p.serial
  apart_parent s p apart found = record {
    self = not_parent h.nodes first x s p apart.above found;
    above = above_parent h.nodes first x s p apart.above found;
  }

  pub active-then : (ds : List Entry) (s : ℕ) → s == x ≡ false → is_active (ds ++ y ∷ []) s ≡ is_active ds s
  active-then ds s other =
      fold_push (λ before (z : Entry). active_after s before z.step) false ds y
      ∙ active-other h.log s (is_active ds s) y.step (only s other)

  pub paused-then : (ds : List Entry) (s : ℕ) → s == x ≡ false → is_paused (ds ++ y ∷ []) s ≡ is_paused ds s
  paused-then ds s other =
      ap (λ t. t && fold (λ before (z : Entry). paused_after s before z.step) false (ds ++ y ∷ [])) (active-then ds s other)
      ∙ ap (λ t. is_active ds s && t)
      (fold_push (λ before (z : Entry). paused_after s before z.step) false ds y
      ∙ paused-other h.log s (fold (λ before (z : Entry). paused_after s before z.step) false ds) y.step (only s other))

  -- ---- clocks

  held-then : (ds : List Entry) (s : ℕ) → is_above h.nodes x s ≡ false → stands_by h.nodes (ds ++ y ∷ []) s ≡ stands_by h.nodes ds s
  held-then ds s free =
      any_same (λ (n : Node). is_paused (ds ++ y ∷ []) n.serial) (λ (n : Node). is_paused ds n.serial) x (lineage h.nodes s)
      (λ n other. paused-then ds n.serial other) free

  held-until : (k : ℤ) (s : ℕ) → is_above h.nodes x s ≡ false → stands_by h.nodes (until k then_diary) s ≡ stands_by h.nodes (until k h.diary) s
  held-until k s free =
      ap (λ ds. stands_by h.nodes ds s) (filter-append (λ (z : Entry). int_le z.moment k) h.diary (y ∷ []))
      ∙ by_moment (int_le y.moment k)
    where
      by_moment : (t : Bool) → stands_by h.nodes (until k h.diary ++ cond t (y ∷ []) []) s ≡ stands_by h.nodes (until k h.diary) s
      by_moment true = held-then (until k h.diary) s free
      by_moment false = ap (λ ds. stands_by h.nodes ds s) (append-nil (until k h.diary))

  elapsed-then : (s m : ℕ) → is_above h.nodes x s ≡ false → elapsed then s m ≡ elapsed h s m
  elapsed-then s zero free = refl
  elapsed-then s (suc m) free =
      ap (λ n. n + cond (stands_by h.nodes (until (pos m) then_diary) s) 0 1) (elapsed-then s m free)
      ∙ ap (λ t. elapsed h s m + cond t 0 1) (held-until (pos m) s free)

  pub own-then : (s : ℕ) (m : ℤ) → is_above h.nodes x s ≡ false → run then s m ≡ run h s m
  own-then s (pos m) free = ap pos (elapsed-then s m free)
  own-then s (negsuc m) free = refl

  pub parent-then : (s : ℕ) (m : ℤ) → Apart h.nodes x s → outer then s m ≡ outer h s m
  parent-then s m apart = under (time_parent h.nodes s) (λ p. apart_parent s p apart)
    where
      under : (o : Option Node) → ((p : Node) → o ≡ Some p → Apart h.nodes x p.serial) → outer_under then o m ≡ outer_under h o m
      under None far = refl
      under (Some p) far = own-then p.serial m ((far p refl).above)

  pub own_held-then : (s : ℕ) → Apart h.nodes x s → stands then s ≡ stands h s
  own_held-then s apart = held-then h.diary s apart.above

  pub parent_held-then : (s : ℕ) → Apart h.nodes x s → outer_stands then s ≡ outer_stands h s
  parent_held-then s apart = under (time_parent h.nodes s) (λ p. apart_parent s p apart)
    where
      under : (o : Option Node) → ((p : Node) → o ≡ Some p → Apart h.nodes x p.serial) → stands_under then o ≡ stands_under h o
      under None far = refl
      under (Some p) far = own_held-then p.serial (far p refl)

  alive-then : (s : ℕ) → Apart h.nodes x s → is_alive then s ≡ is_alive h s
  alive-then s apart = under (time_parent h.nodes s) (λ p. apart_parent s p apart)
    where
      under : (o : Option Node) → ((p : Node) → o ≡ Some p → Apart h.nodes x p.serial) → lives_under o then_diary ≡ lives_under o h.diary
      under None far = refl
      under (Some p) far = active-then h.diary p.serial ((far p refl).self)

  -- ---- folds over the whole diary

  pub play_start-then : (s : ℕ) → Apart h.nodes x s → play_start then s ≡ play_start h s
  play_start-then s apart =
      fold_push (λ before (z : Entry). play_start_after then s z.moment before z.step) (pos 0) h.diary y
      ∙ play_start-other h.log s then y.moment (fold (λ before (z : Entry). play_start_after then s z.moment before z.step) (pos 0) h.diary) y.step (only s apart.self)
      ∙ fold_same (λ before (z : Entry). play_start_after then s z.moment before z.step) (λ before (z : Entry). play_start_after h s z.moment before z.step) (pos 0) h.diary (λ b z. each z.moment b z.step)
    where
      each : (m : ℤ) (b : ℤ) (step : Step) → play_start_after then s m b step ≡ play_start_after h s m b step
      each m b (Began who begin) =
          ap (λ o. cond (who == s) (o +ℤ (begin -ℤ outer then s m)) b) (own-then s m apart.above)
          ∙ ap (λ q. cond (who == s) (run h s m +ℤ (begin -ℤ q)) b) (parent-then s m apart)
      each m b _ = refl

  pub iteration_start-then : (s : ℕ) → Apart h.nodes x s → iteration_start then s ≡ iteration_start h s
  iteration_start-then s apart =
      fold_push (λ before (z : Entry). iteration_start_after then s z.moment before z.step) (pos 0) h.diary y
      ∙ iteration_start-other h.log s then y.moment (fold (λ before (z : Entry). iteration_start_after then s z.moment before z.step) (pos 0) h.diary) y.step (only s apart.self)
      ∙ fold_same (λ before (z : Entry). iteration_start_after then s z.moment before z.step) (λ before (z : Entry). iteration_start_after h s z.moment before z.step) (pos 0) h.diary (λ b z. each z.moment b z.step)
    where
      each : (m : ℤ) (b : ℤ) (step : Step) → iteration_start_after then s m b step ≡ iteration_start_after h s m b step
      each m b (Began who begin) =
          ap (λ o. cond (who == s) (o +ℤ (begin -ℤ outer then s m)) b) (own-then s m apart.above)
          ∙ ap (λ q. cond (who == s) (run h s m +ℤ (begin -ℤ q)) b) (parent-then s m apart)
      each m b _ = refl

  parent_start-then : (s : ℕ) → Apart h.nodes x s → parent_start then s ≡ parent_start h s
  parent_start-then s apart = under (time_parent h.nodes s) (λ p. apart_parent s p apart)
    where
      under : (o : Option Node) → ((p : Node) → o ≡ Some p → Apart h.nodes x p.serial) → start_under then o ≡ start_under h o
      under None far = refl
      under (Some p) far = iteration_start-then p.serial (far p refl)

  resets-other : (s : ℕ) → Apart h.nodes x s → is_birth_under (time_parent h.nodes s) y.step ≡ false
  resets-other s apart = under (time_parent h.nodes s) (λ p. apart_parent s p apart)
    where
      under : (o : Option Node) → ((p : Node) → o ≡ Some p → Apart h.nodes x p.serial) → is_birth_under o y.step ≡ false
      under None far = refl
      under (Some p) far = reset-other h.log p.serial y.step (only p.serial ((far p refl).self))

  pub plays-then : (s : ℕ) → Apart h.nodes x s → plays then s ≡ plays h s
  plays-then s apart =
      fold_push (follow then) none h.diary y
      ∙ last_one (fold (follow then) none h.diary)
      ∙ fold_same (follow then) (follow h) none h.diary (λ b z. ap (λ r. cond (is_birth_under (time_parent h.nodes s) z.step) (record { present = b.present; finished = [] }) r) (each z.moment b z.step))
    where
      none : Plays
      none = record { present = None; finished = [] }

      follow : History → Plays → Entry → Plays
      follow k = λ so_far z. cond (is_birth_under (time_parent h.nodes s) z.step) (record { present = so_far.present; finished = [] }) (play_after k s z.moment so_far z.step)

      last_one : (b : Plays) → follow then b y ≡ b
      last_one b =
          ap (λ t. cond t (record { present = b.present; finished = [] }) (play_after then s y.moment b y.step)) (resets-other s apart)
          ∙ play-other h.log s then y.moment b y.step (only s apart.self)

      each : (m : ℤ) (b : Plays) (step : Step) → play_after then s m b step ≡ play_after h s m b step
      each m b (Cut who) = rw (parent-then s m apart)
      each m b _ = refl

  -- ---- the entries since the reset

  -- a place that is kept, or that stands at the end of the diary before and after
  abbrev pub Moves : ℕ → ℕ → Type 0
  Moves k' k = ((k' ≡ k) × (k ≤ length h.diary)) ⊎ ((k' ≡ suc (length h.diary)) × (k ≡ length h.diary))

  pub reset-then : (s : ℕ) → Apart h.nodes x s → Moves (birth then s) (birth h s)
  reset-then s apart = under (time_parent h.nodes s) (λ p. apart_parent s p apart)
    where
      by_place : (o : Option ℕ) → ((k : ℕ) → o ≡ Some k → suc k ≤ length h.diary) → Moves (option_map_or suc o (length then_diary)) (option_map_or suc o (length h.diary))
      by_place (Some k) below = inl (refl, below k refl)
      by_place None below = inr (omega (arith, length-append h.diary (y ∷ [])), refl)

      under : (o : Option Node) → ((p : Node) → o ≡ Some p → Apart h.nodes x p.serial) → Moves (birth_under o then_diary) (birth_under o h.diary)
      under None far = inl (refl, omega arith)
      under (Some p) far =
          rw (last_place-push (λ (z : Entry). gives_birth p.serial z.step) h.diary y (reset-other h.log p.serial y.step (only p.serial ((far p refl).self))))
          (by_place (last_place (λ (z : Entry). gives_birth p.serial z.step) h.diary) (last_place-below (λ (z : Entry). gives_birth p.serial z.step) h.diary))

  min-then : (a' a b' b : ℕ) → Moves a' a → Moves b' b → Moves (min a' b') (min a b)
  min-then a' a b' b (inl p) (inl q) = inl (omega arith, omega arith)
  min-then a' a b' b (inl p) (inr q) = inl (omega arith, omega arith)
  min-then a' a b' b (inr p) (inl q) = inl (omega arith, omega arith)
  min-then a' a b' b (inr p) (inr q) = inr (omega arith, omega arith)

  -- what is read of the tail of a list to which one more is appended that gives nothing
  pub tail-then : {A B : Type 0} (read : List A → B) (zs : List A) (w : A) (k' k : ℕ) → length zs ≡ length h.diary → ((ws : List A) → read (ws ++ w ∷ []) ≡ read ws) → Moves k' k → read (drop k' (zs ++ w ∷ [])) ≡ read (drop k zs)
  tail-then read zs w k' k same ignores (inl p) =
      ap (λ j. read (drop j (zs ++ w ∷ []))) p.0 ∙ ap read (drop-append-le k zs (w ∷ []) (omega (arith, p.1, same))) ∙ ignores (drop k zs)
  tail-then read zs w k' k same ignores (inr p) =
      let all : length (zs ++ w ∷ []) ≡ k' = omega (arith, length-append zs (w ∷ []), same, p.0) in
      let before : length zs ≡ k = omega (arith, same, p.1) in
      ap (λ j. read (drop j (zs ++ w ∷ []))) (sym all) ∙ ap read (drop_all (zs ++ w ∷ [])) ∙ sym (ap read (drop_all zs)) ∙ ap (λ j. read (drop j zs)) before

  fold-since : {B : Type 0} (f : B → Entry → B) (b : B) (s : ℕ) → Apart h.nodes x s → ((z : B) → f z y ≡ z) → fold f b (since_birth then s) ≡ fold f b (since_birth h s)
  fold-since f b s apart other =
      tail-then (fold f b) h.diary y (birth then s) (birth h s) refl (λ ws. fold_push f b ws y ∙ other (fold f b ws)) (reset-then s apart)

  pub deferral-then : (s : ℕ) → Apart h.nodes x s → deferral then s ≡ deferral h s
  deferral-then s apart =
      ap (λ t. cond t (fold (λ before (z : Entry). deferral_after s z before z.step) None (since_birth then s)) None) (alive-then s apart)
      ∙ ap (λ o. cond (is_alive h s) o None) (fold-since (λ before (z : Entry). deferral_after s z before z.step) None s apart (λ b. deferral-other h.log s y b y.step (only s apart.self)))

  pub iteration-then : (s : ℕ) → Apart h.nodes x s → iteration then s ≡ iteration h s
  iteration-then s apart = ap (λ o. unwrap_or o 0) (fold-since (λ before (z : Entry). iteration_after s before z.step) None s apart (λ b. iteration-other h.log s b y.step (only s apart.self)))

  passed-then : (s : ℕ) → Apart h.nodes x s → passed then s ≡ passed h s
  passed-then s apart = fold-since (λ before (z : Entry). passed_after s before z.step) None s apart (λ b. passed-other h.log s b y.step (only s apart.self))

  -- ---- instance times

  filter_map-ignores : {A B : Type 0} (f : A → Option B) (w : A) → f w ≡ None → (ws : List A) → filter_map f (ws ++ w ∷ []) ≡ filter_map f ws
  filter_map-ignores f w none ws = filter_map-append f ws (w ∷ []) ∙ ap (λ o. filter_map f ws ++ cons_option o []) none ∙ append-nil (filter_map f ws)

  edge-other : (k : History) (e b : ℕ) (offset m : ℤ) (edge : Edge) (step : Step) → is_about h.log b step ≡ false → edge_time k e b offset m edge step ≡ None
  edge-other k e b offset m Begin (Began who begin) q = rw q
  edge-other k e b offset m End (Ended who end') q = rw q
  edge-other k e b offset m End (Cut who) q = rw q
  edge-other k e b offset m Begin _ q = refl
  edge-other k e b offset m End _ q = refl

  edge-then : (e b : ℕ) (offset m : ℤ) (edge : Edge) (step : Step) → Apart h.nodes x e → Apart h.nodes x b → edge_time then e b offset m edge step ≡ edge_time h e b offset m edge step
  edge-then e b offset m Begin (Began who begin) p q = rw (parent-then e m p, parent-then b m q)
  edge-then e b offset m End (Ended who end') p q = rw (parent-then e m p, parent-then b m q)
  edge-then e b offset m End (Cut who) p q = rw (parent-then e m p)
  edge-then e b offset m Begin _ p q = refl
  edge-then e b offset m End _ p q = refl

  happened-then : (e b : ℕ) (offset : ℤ) (edge : Edge) → Apart h.nodes x e → Apart h.nodes x b → happened_times then e b offset edge ≡ happened_times h e b offset edge
  happened-then e b offset edge p q =
      tail-then (filter_map (λ (z : Entry). edge_time then e b offset z.moment edge z.step)) h.diary y (min (birth then e) (birth then b)) (min (birth h e) (birth h b)) refl
      (filter_map-ignores (λ (z : Entry). edge_time then e b offset z.moment edge z.step) y (edge-other then e b offset y.moment edge y.step (only b q.self)))
      (min-then (birth then e) (birth h e) (birth then b) (birth h b) (reset-then e p) (reset-then b q))
      ∙ filter_map_each (λ (z : Entry). edge_time then e b offset z.moment edge z.step) (λ (z : Entry). edge_time h e b offset z.moment edge z.step) (drop (min (birth h e) (birth h b)) h.diary)
      (λ z. edge-then e b offset z.moment edge z.step p q)

  expected-then : (J : ℕ → Option Interval) (now : ℤ) (e b : ℕ) (offset : ℤ) (edge : Edge) → Apart h.nodes x e → Apart h.nodes x b → expected_times then J now e b offset edge ≡ expected_times h J now e b offset edge
  expected-then J now e b offset edge p q =
      rw (parent_held-then e p, parent_held-then b q, active-then h.diary b q.self, parent-then e now p, parent-then b now q)

  sync-then : (J : ℕ → Option Interval) (now : ℤ) (e b : ℕ) (offset : ℤ) (edge : Edge) (cyclic : Bool) → Apart h.nodes x e → Apart h.nodes x b → sync_times then J now e b offset edge cyclic ≡ sync_times h J now e b offset edge cyclic
  sync-then J now e b offset edge cyclic p q =
      ap (λ ts. ts ++ cond cyclic [] (expected_times then J now e b offset edge)) (happened-then e b offset edge p q)
      ∙ ap (λ ts. happened_times h e b offset edge ++ cond cyclic [] ts) (expected-then J now e b offset edge p q)

  -- ---- events

  event-other : (t : ℕ) (name : List ℕ) (step : Step) → is_about h.log t step ≡ false → is_event h.log t name step ≡ false
  event-other t name (Logged place) q = by_entry (slice_get h.log place) q
    where
      by_what : (w : Happening) → happens_to t w ≡ false → is_named t name w ≡ false
      by_what (happening.Event who own) r = ap (λ b. b && bytes_eq own name) r
      by_what (happening.Media who len) r = refl
      by_what (happening.Key key) r = refl

      by_entry : (o : Option LogEntry) → logged_about t o ≡ false → is_log_event t name o ≡ false
      by_entry None r = refl
      by_entry (Some entry) r = by_what entry.what r
  event-other t name (Began who begin) q = rw q
  event-other t name (Ended who end') q = rw q
  event-other t name (Cut who) q = rw q
  event-other t name (Repeated who start) q = rw q
  event-other t name _ q = refl

  repeat-other : (past : History) (t n : ℕ) (step : Step) → is_about h.log t step ≡ false → is_repeat past t n step ≡ false
  repeat-other past t n (Repeated who start) q = ap (λ b. b && (suc (iteration past t) == n)) q
  repeat-other past t n _ q = refl

  with_past-push : (before ds : List Entry) → with_past before (ds ++ y ∷ []) ≡ with_past before ds ++ (before ++ ds, y) ∷ []
  with_past-push before [] = ap (λ b. (b, y) ∷ []) (sym (append-nil before))
  with_past-push before (z ∷ zs) =
      ap (λ ws. (before, z) ∷ ws) (with_past-push (before ++ z ∷ []) zs)
      ∙ ap (λ b. (before, z) ∷ (with_past (before ++ z ∷ []) zs ++ (b, y) ∷ [])) (append_assoc before (z ∷ []) zs)

  with_past-length : (before ds : List Entry) → length (with_past before ds) ≡ length ds
  with_past-length before [] = refl
  with_past-length before (z ∷ zs) = ap suc (with_past-length (before ++ z ∷ []) zs)

  heard-then : (e : Node) (side : Edge) (item : Item) (offset : ℤ) (occurs : History → Step → Bool) → Apart h.nodes x e.serial → occurs h y.step ≡ false → heard_times then e side item offset occurs ≡ heard_times h e side item offset occurs
  heard-then e side item offset occurs p not_now =
      ap (λ ws. filter_map (hear then) (drop (birth then e.serial) ws)) (with_past-push [] h.diary)
      ∙ tail-then (filter_map (hear then)) (with_past [] h.diary) (h.diary, y) (birth then e.serial) (birth h e.serial) (with_past-length [] h.diary)
      (filter_map-ignores (hear then) (h.diary, y) (ap (λ t. cond (t && hears h e side item) (Some (within_horizon (outer then e.serial y.moment +ℤ offset))) None) not_now))
      (reset-then e.serial p)
      ∙ filter_map_each (hear then) (hear h) (drop (birth h e.serial) (with_past [] h.diary))
      (λ w. ap (λ m. cond (occurs (up_to h w.0) (w.1).step && hears (up_to h w.0) e side item) (Some (within_horizon (m +ℤ offset))) None) (parent-then e.serial (w.1).moment p))
    where
      hear : History → List Entry × Entry → Option Time
      hear k = λ (w : List Entry × Entry). cond (occurs (up_to k w.0) (w.1).step && hears (up_to k w.0) e side item) (Some (within_horizon (outer k e.serial (w.1).moment +ℤ offset))) None

  -- ---- the instance times of an element that is apart, as are all that it reads

  module _ (J : ℕ → Option Interval) (now : ℤ) (e : Node) (apart : Apart h.nodes x e.serial) where
    offset-then : (offset : ℤ) (o : Option Node) → ((b : Node) → o ≡ Some b → Apart h.nodes x b.serial) → offset_times then J now e.serial offset o ≡ offset_times h J now e.serial offset o
    offset-then offset None far = rw (parent_start-then e.serial apart)
    offset-then offset (Some b) far = sync-then J now e.serial b.serial offset End false apart (far b refl)

    named-then : (offset : ℤ) (edge : Edge) (o : Option Node) → ((b : Node) → o ≡ Some b → Apart h.nodes x b.serial) → named_times then J now e.serial offset edge o ≡ named_times h J now e.serial offset edge o
    named-then offset edge None far = refl
    named-then offset edge (Some b) far = sync-then J now e.serial b.serial offset edge (leads_to h.nodes e.serial b.serial) apart (far b refl)

    event_times-then : (side : Edge) (item : Item) (offset : ℤ) (name : List ℕ) (o : Option ℕ) → ((t : ℕ) → o ≡ Some t → t == x ≡ false) → event_times then e side item offset name o ≡ event_times h e side item offset name o
    event_times-then side item offset name None far = refl
    event_times-then side item offset name (Some t) far =
        heard-then e side item offset (λ past step. is_event past.log t name step) apart (event-other t name y.step (only t (far t refl)))

    repeat_times-then : (side : Edge) (item : Item) (offset : ℤ) (n : ℕ) (o : Option ℕ) → ((t : ℕ) → o ≡ Some t → t == x ≡ false) → repeat_times then e side item offset n o ≡ repeat_times h e side item offset n o
    repeat_times-then side item offset n None far = refl
    repeat_times-then side item offset n (Some t) far =
        heard-then e side item offset (λ past step. is_repeat past t n step) apart (repeat-other h t n y.step (only t (far t refl)))

    item-then : (side : Edge) (i : Item) → ((b : Node) → previous_in_seq h.nodes e.serial ≡ Some b → Apart h.nodes x b.serial) → ((b : ℕ) → is_sync_with h.nodes b i ≡ true → Apart h.nodes x b) → ((t : ℕ) → is_event_of h.nodes e.serial t i ≡ true → t == x ≡ false) → ((key : ℕ) → is_key_item key i ≡ true → is_press h.log key y.step ≡ false) → item_times then J now e side i ≡ item_times h J now e side i
    item-then side (Offset offset) before named heard keys = offset-then offset (previous_in_seq h.nodes e.serial) before
    item-then side (Sync who edge offset) before named heard keys =
        named-then offset edge (element_named h.nodes who) (λ b q. named b.serial (ap (has_serial b.serial) q ∙ eq-eqb b.serial b.serial refl))
    item-then side (Event who name offset) before named heard keys =
        event_times-then side (Event who name offset) offset name (target h.nodes e.serial who) (λ t q. heard t (ap (is_option t) q ∙ eq-eqb t t refl))
    item-then side (Repeat who n offset) before named heard keys =
        repeat_times-then side (Repeat who n offset) offset n (target h.nodes e.serial who) (λ t q. heard t (ap (is_option t) q ∙ eq-eqb t t refl))
    item-then side (Key key offset) before named heard keys =
        heard-then e side (Key key offset) offset (λ past step. is_press past.log key step) apart (keys key (eq-eqb key key refl))
    item-then Begin Indefinite before named heard keys = refl
    item-then End Indefinite before named heard keys = refl

    items-then : (side : Edge) (is : List Item) → ((b : Node) → previous_in_seq h.nodes e.serial ≡ Some b → Apart h.nodes x b.serial) → ((b : ℕ) → list_any (is_sync_with h.nodes b) is ≡ true → Apart h.nodes x b) → ((t : ℕ) → list_any (is_event_of h.nodes e.serial t) is ≡ true → t == x ≡ false) → ((key : ℕ) → list_any (is_key_item key) is ≡ true → is_press h.log key y.step ≡ false) → flat_map (item_times then J now e side) is ≡ flat_map (item_times h J now e side) is
    items-then side [] before named heard keys = refl
    items-then side (i ∷ is) before named heard keys =
        let here = item-then side i before (λ b t. named b (or_left _ _ t)) (λ b t. heard b (or_left _ _ t)) (λ b t. keys b (or_left _ _ t)) in
        let rest = items-then side is before (λ b t. named b (or_right _ _ t)) (λ b t. heard b (or_right _ _ t)) (λ b t. keys b (or_right _ _ t)) in
        ap (λ ts. ts ++ flat_map (item_times then J now e side) is) here ∙ ap (λ ts. item_times h J now e side i ++ ts) rest

  -- ---- the implicit duration

  length-other : (s : ℕ) (b : Option Time) (step : Step) → is_about h.log s step ≡ false → length_after h.log s b step ≡ b
  length-other s b (Logged place) q = by_entry (slice_get h.log place) q
    where
      by_what : (w : Happening) → happens_to s w ≡ false → logged_length s w b ≡ b
      by_what (happening.Event who own) r = refl
      by_what (happening.Media who len) r = rw r
      by_what (happening.Key key) r = refl

      by_entry : (o : Option LogEntry) → logged_about s o ≡ false → length_of s o b ≡ b
      by_entry None r = refl
      by_entry (Some entry) r = by_what entry.what r
  length-other s b _ q = refl

  media-then : (s : ℕ) → s == x ≡ false → media_length then s ≡ media_length h s
  media-then s other =
      ap (λ o. unwrap_or o time.Unresolved)
      (fold_push (λ before (z : Entry). length_after h.log s before z.step) None h.diary y
      ∙ length-other s (fold (λ before (z : Entry). length_after h.log s before z.step) None h.diary) y.step (only s other))

  child-then : (J : ℕ → Option Interval) (e c : Node) → Apart h.nodes x c.serial → child_end then J e c ≡ child_end h J e c
  child-then J e c apart = rw (plays-then c.serial apart, deferral-then c.serial apart)

  children-then : (J : ℕ → Option Interval) (e : Node) (test : Node → Bool) (ns : List Node) → ((s : ℕ) → list_any (λ (c : Node). (c.serial == s) && test c) ns ≡ true → Apart h.nodes x s) → map (child_end then J e) (filter test ns) ≡ map (child_end h J e) (filter test ns)
  children-then J e test [] far = refl
  children-then J e test (n ∷ ns) far = step (test n) (λ t. far n.serial (or_left _ _ (and_from _ _ (eq-eqb n.serial n.serial refl) t))) (children-then J e test ns (λ s t. far s (or_right _ _ t)))
    where
      step : (t : Bool) → (t ≡ true → Apart h.nodes x n.serial) → map (child_end then J e) (filter test ns) ≡ map (child_end h J e) (filter test ns) → map (child_end then J e) (cond t (n ∷ filter test ns) (filter test ns)) ≡ map (child_end h J e) (cond t (n ∷ filter test ns) (filter test ns))
      step true f q = ap (λ z. z ∷ map (child_end then J e) (filter test ns)) (child-then J e n (f refl)) ∙ ap (λ zs. child_end h J e n ∷ zs) q
      step false f q = q

  container-then : (J : ℕ → Option Interval) (e : Node) → Apart h.nodes x e.serial → ((s : ℕ) → list_any (λ (c : Node). (c.serial == s) && is_time_child h.nodes e.serial c) h.nodes ≡ true → Apart h.nodes x s) → container_implicit then J e ≡ container_implicit h J e
  container-then J e apart far =
      rw (active-then h.diary e.serial apart.self, iteration_start-then e.serial apart, children-then J e (is_time_child h.nodes e.serial) h.nodes far)

  implicit-then : (J : ℕ → Option Interval) (e : Node) (k : Kind) → Apart h.nodes x e.serial → ((s : ℕ) → list_any (λ (c : Node). (c.serial == s) && is_time_child h.nodes e.serial c) h.nodes ≡ true → Apart h.nodes x s) → implicit_of then J e k ≡ implicit_of h J e k
  implicit-then J e kind.Par apart far = container-then J e apart far
  implicit-then J e kind.Seq apart far = container-then J e apart far
  implicit-then J e kind.Excl apart far = container-then J e apart far
  implicit-then J e kind.Img apart far = refl
  implicit-then J e kind.Text apart far = refl
  implicit-then J e kind.Brush apart far = refl
  implicit-then J e kind.Set apart far = refl
  implicit-then J e _ apart far = media-then e.serial apart.self

  -- all that an element reads is apart from x
  pub record ReadsApart (e : Node) : Type 0 where
    pub apart : Apart h.nodes x e.serial
    pub children : (s : ℕ) → has_implicit_duration e ≡ true → list_any (λ (c : Node). (c.serial == s) && is_time_child h.nodes e.serial c) h.nodes ≡ true → Apart h.nodes x s
    pub before : (b : Node) → previous_in_seq h.nodes e.serial ≡ Some b → Apart h.nodes x b.serial
    pub named : (b : ℕ) → list_any (is_sync_with h.nodes b) (all_items h.nodes e) ≡ true → Apart h.nodes x b
    pub heard : (t : ℕ) → list_any (is_event_of h.nodes e.serial t) (all_items h.nodes e) ≡ true → t == x ≡ false
    pub keys : (key : ℕ) → list_any (is_key_item key) (all_items h.nodes e) ≡ true → is_press h.log key y.step ≡ false

  module _ (J : ℕ → Option Interval) (now : ℤ) (e : Node) (far : ReadsApart e) where
    pub simple-then : simple_of then J e ≡ simple_of h J e
    simple-then = step (has_implicit_duration e) (λ t. implicit-then J e e.kind far.apart (λ c q. far.children c t q))
      where
        step : (t : Bool) → (t ≡ true → implicit_duration then J e ≡ implicit_duration h J e) → cond t (implicit_duration then J e) (stated_duration e.attrs.dur) ≡ cond t (implicit_duration h J e) (stated_duration e.attrs.dur)
        step true f = f refl
        step false f = refl

    play-then : present_play then now e ≡ present_play h now e
    play-then =
        rw (paused-then h.diary e.serial far.apart.self, active-then h.diary e.serial far.apart.self, plays-then e.serial far.apart, play_start-then e.serial far.apart, iteration_start-then e.serial far.apart, iteration-then e.serial far.apart, parent-then e.serial now far.apart, own-then e.serial now far.apart.above)

    facts-then : facts_of then J now e ≡ facts_of h J now e
    facts-then =
        rw (deferral-then e.serial far.apart, alive-then e.serial far.apart, play-then, parent_start-then e.serial far.apart, plays-then e.serial far.apart, passed-then e.serial far.apart, simple-then)

    begins-then : begin_times then J now e ≡ begin_times h J now e
    begins-then =
        ap (λ ts. rising (numbers ts))
        (items-then J now e far.apart Begin (begin_list h.nodes e) far.before
        (λ b t. far.named b (list_any-append (is_sync_with h.nodes b) (begin_list h.nodes e) (end_list e) ∙ or_left _ _ t))
        (λ u t. far.heard u (list_any-append (is_event_of h.nodes e.serial u) (begin_list h.nodes e) (end_list e) ∙ or_left _ _ t))
        (λ u t. far.keys u (list_any-append (is_key_item u) (begin_list h.nodes e) (end_list e) ∙ or_left _ _ t)))

    ends-then : end_times then J now e ≡ end_times h J now e
    ends-then =
        ap rising_times
        (items-then J now e far.apart End (end_list e) far.before
        (λ b t. far.named b (list_any-append (is_sync_with h.nodes b) (begin_list h.nodes e) (end_list e) ∙ or_right _ _ t))
        (λ u t. far.heard u (list_any-append (is_event_of h.nodes e.serial u) (begin_list h.nodes e) (end_list e) ∙ or_right _ _ t))
        (λ u t. far.keys u (list_any-append (is_key_item u) (begin_list h.nodes e) (end_list e) ∙ or_right _ _ t)))

    -- an entry on x leaves the interval of each element that reads nothing of x, given the same intervals of the others
    pub interval-then : interval_given then J now e ≡ interval_given h J now e
    interval-then =
        ap (λ f. interval_of f (begin_times then J now e) (end_times then J now e)) facts-then
        ∙ ap (λ bs. interval_of (facts_of h J now e) bs (end_times then J now e)) begins-then
        ∙ ap (λ es. interval_of (facts_of h J now e) (begin_times h J now e) es) ends-then
