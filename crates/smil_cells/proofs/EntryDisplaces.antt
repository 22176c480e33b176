-- An entry leaves the view of each element that is not within its own, unless it displaces the element while that may rest.
use Rattle.std.proofs.Common.{◌≡◌, refl, sym, ◌∙◌, ap, ℕ, suc, ◌≤◌, List, [], ◌∷◌, ◌++◌, length, Option, Some, None, ℤ, Bool, true, false, arith, length-append, inl, inr}
use Rattle.std.specs.Prelude.{◌⊎◌, pos, cond, ◌==◌, ◌||◌, ◌&&◌, not, reverse, is_some, option_map, option_and_then, ◌+ℤ◌, ◌-ℤ◌}
use Rattle.std.specs.List.{AllByRecursion, list_any}
use Rattle.std.specs.Option.{option_map_or}
use Rattle.std.proofs.lemmas.Bool.{or_parts}
use Rattle.std.proofs.lemmas.List.Folds.{list_any-append}
use Rattle.smil_model.specs.declared.times.Time.{Time}
use Rattle.smil_model.specs.declared.times.Time.TheVariants as time
use Rattle.smil_model.specs.declared.interval.Interval.{Interval}
use Rattle.smil_model.specs.declared.diary.Entry.{Entry}
use Rattle.smil_model.specs.declared.diary.Step.{Step}
use Rattle.smil_model.specs.declared.diary.Step.TheVariants.{Ended, Cut, Deferred}
use Rattle.smil_model.specs.declared.document.Fill.{Fill}
use Rattle.smil_model.specs.declared.document.Fill.TheVariants.{Freeze}
use Rattle.smil_model.specs.declared.document.Node.{Node}
use Rattle.smil_model.specs.declared.view.State.{State}
use Rattle.smil_model.specs.declared.view.State.TheVariants as state
use Rattle.smil_model.specs.declared.view.ViewFacts.{ViewFacts}
use Rattle.smil_model.specs.document.Document.{is_in_seq, is_in_excl}
use Rattle.smil_model.specs.document.Defaults.{effective_fill}
use Rattle.smil_model.specs.diary.Diary.{History, last_place, since_birth, birth, is_active, is_paused, is_deferred, deferral, iteration}
use Rattle.smil_model.specs.diary.Clocks.{outer, to_document, outer_stands}
use Rattle.smil_model.specs.diary.Plays.{Plays, plays, last_finished}
use Rattle.smil_model.specs.shown.Views.{keeps, is_finish, since_finish, sets_off_sibling, begins_next, is_displaced, document_value, deferred_begin, finished_values, was_cut, present_begin, view_facts, resting_state, state_by, shown_time, shown_or, shown_begin, shown_end, is_frozen_by, is_frozen_under, shows_under, is_frozen_in, view_by}
use Rattle.smil_laws.specs.Locality.{ParentsBefore}
use Rattle.smil_laws.proofs.ForeignEntries.{Apart, is_about, Moves, then, last_place-push, last_place-below, active-then, paused-then, parent-then, parent_held-then, plays-then, deferral-then, iteration-then, tail-then, reset-then}
use Rattle.smil_past.specs.Makeups.{is_freeze}
use Rattle.smil_cells.specs.Shown.{may_rest}

map_same : {A B : Type 0} (f g : A → B) (o : Option A) → ((a : A) → f a ≡ g a) → option_map f o ≡ option_map g o
map_same f g None same = refl
map_same f g (Some a) same = ap Some (same a)

then_same : {A B : Type 0} (f g : A → Option B) (o : Option A) → ((a : A) → f a ≡ g a) → option_and_then f o ≡ option_and_then g o
then_same f g None same = refl
then_same f g (Some a) same = same a

pub some_mapped : {A B : Type 0} (f : A → B) (o : Option A) → is_some (option_map f o) ≡ is_some o
some_mapped f None = refl
some_mapped f (Some a) = refl

any_pushed : (test : Entry → Bool) (y : Entry) → test y ≡ false → (ws : List Entry) → list_any test (ws ++ y ∷ []) ≡ list_any test ws
any_pushed test y q ws = list_any-append test ws (y ∷ []) ∙ last (list_any test ws) (test y) q
  where
    last : (a b : Bool) → b ≡ false → (a || (b || false)) ≡ a
    last true b q = refl
    last false b q = ap (λ t. t || false) q

both_and : (a b c : Bool) → (a ≡ true → b ≡ c) → (a && b) ≡ (a && c)
both_and true b c f = f refl
both_and false b c f = refl

-- ---- views that differ by what displaces alone

module _ (f : ViewFacts) (d : Bool) where
  abbrev g : ViewFacts
  g = record f { displaced = d }

  time_same : (t : Time) → shown_time g t ≡ shown_time f t
  time_same (time.At v) = refl
  time_same time.Indefinite = refl
  time_same time.Unresolved = refl

  end_same : (o : Option Interval) → shown_or (λ (i : Interval). shown_time g i.«end») o ≡ shown_or (λ (i : Interval). shown_time f i.«end») o
  end_same None = refl
  end_same (Some i) = time_same i.«end»

  begin_of : (s : State) → shown_begin g s ≡ shown_begin f s
  begin_of state.Idle = refl
  begin_of state.Waiting = refl
  begin_of state.Active = refl
  begin_of state.Paused = refl
  begin_of state.Deferred = refl
  begin_of state.Frozen = refl
  begin_of state.Done = refl

  end_of : (s : State) → shown_end g s ≡ shown_end f s
  end_of state.Idle = refl
  end_of state.Waiting = end_same f.interval
  end_of state.Active = end_same f.interval
  end_of state.Paused = end_same f.interval
  end_of state.Deferred = refl
  end_of state.Frozen = refl
  end_of state.Done = refl

  -- a view is the same where the element is as frozen
  same_view : is_frozen_by g ≡ is_frozen_by f → view_by g ≡ view_by f
  same_view q =
      let of_state : state_by g ≡ state_by f = ap (λ b. cond f.active (cond f.paused state.Paused state.Active) (cond (is_some f.deferred) state.Deferred (resting_state b (is_some f.interval) (is_some f.last)))) q in
      let begin : shown_begin g (state_by g) ≡ shown_begin f (state_by f) = begin_of (state_by g) ∙ ap (shown_begin f) of_state in
      let finish : shown_end g (state_by g) ≡ shown_end f (state_by f) = end_of (state_by g) ∙ ap (shown_end f) of_state in
      cc

  by_fill : (k : Fill) (last shows cut : Bool) → (is_freeze k && last) ≡ false → (last && ((keeps k d && shows) || cut)) ≡ (last && ((keeps k f.displaced && shows) || cut))
  by_fill Freeze true shows cut q = cc
  by_fill Freeze false shows cut q = refl
  by_fill _ last shows cut q = refl

  -- what displaces is of no account without a finished interval and a fill that freezes
  no_account : (is_freeze f.fill && is_some f.last) ≡ false → is_frozen_by g ≡ is_frozen_by f
  no_account q = by_fill f.fill (is_some f.last) f.parent_shows (f.cut && f.parent_frozen) q

-- whether a step displaces an element, where that has finished
abbrev pub is_set_off : List Node → ℕ → Step → Bool
is_set_off nodes s step =
    ((is_in_seq nodes s || is_in_excl nodes s) && sets_off_sibling nodes s step)
    || begins_next nodes s step

module _ (h : History) (first : ParentsBefore (reverse h.nodes)) (y : Entry) (x : ℕ) (only : (s : ℕ) → s == x ≡ false → is_about h.log s y.step ≡ false) where
  abbrev next : History
  next = then h first y x only

  -- ---- what displaces

  no_finish : (s : ℕ) (step : Step) → is_about h.log s step ≡ false → is_finish s step ≡ false
  no_finish s (Ended who finish) q = q
  no_finish s (Cut who) q = q
  no_finish s _ q = refl

  finish_moves : (s : ℕ) → is_finish s y.step ≡ false → Moves h first y x only (option_map_or suc (last_place (λ (z : Entry). is_finish s z.step) (h.diary ++ y ∷ [])) (length (h.diary ++ y ∷ []))) (option_map_or suc (last_place (λ (z : Entry). is_finish s z.step) h.diary) (length h.diary))
  finish_moves s q =
      rw (last_place-push (λ (z : Entry). is_finish s z.step) h.diary y q)
      (by_place (last_place (λ (z : Entry). is_finish s z.step) h.diary) (last_place-below (λ (z : Entry). is_finish s z.step) h.diary))
    where
      by_place : (o : Option ℕ) → ((k : ℕ) → o ≡ Some k → suc k ≤ length h.diary) → Moves h first y x only (option_map_or suc o (length (h.diary ++ y ∷ []))) (option_map_or suc o (length h.diary))
      by_place (Some k) below = inl (refl, below k refl)
      by_place None below = inr (omega (arith, length-append h.diary (y ∷ [])), refl)

  set_off-then : (s : ℕ) → Apart h.nodes x s → sets_off_sibling h.nodes s y.step ≡ false → list_any (λ (z : Entry). sets_off_sibling h.nodes s z.step) (since_finish (h.diary ++ y ∷ []) s) ≡ list_any (λ (z : Entry). sets_off_sibling h.nodes s z.step) (since_finish h.diary s)
  set_off-then s apart q =
      tail-then h first y x only (list_any (λ (z : Entry). sets_off_sibling h.nodes s z.step)) h.diary y
      (option_map_or suc (last_place (λ (z : Entry). is_finish s z.step) (h.diary ++ y ∷ [])) (length (h.diary ++ y ∷ [])))
      (option_map_or suc (last_place (λ (z : Entry). is_finish s z.step) h.diary) (length h.diary))
      refl
      (any_pushed (λ (z : Entry). sets_off_sibling h.nodes s z.step) y q)
      (finish_moves s (no_finish s y.step (only s apart.self)))

  begun-then : (s : ℕ) → Apart h.nodes x s → begins_next h.nodes s y.step ≡ false → list_any (λ (z : Entry). begins_next h.nodes s z.step) (since_birth next s) ≡ list_any (λ (z : Entry). begins_next h.nodes s z.step) (since_birth h s)
  begun-then s apart q =
      tail-then h first y x only (list_any (λ (z : Entry). begins_next h.nodes s z.step)) h.diary y (birth next s) (birth h s) refl
      (any_pushed (λ (z : Entry). begins_next h.nodes s z.step) y q)
      (reset-then h first y x only s apart)

  displaced-then : (s : ℕ) → Apart h.nodes x s → is_set_off h.nodes s y.step ≡ false → is_displaced next s ≡ is_displaced h s
  displaced-then s apart free =
      let parts = or_parts ((is_in_seq h.nodes s || is_in_excl h.nodes s) && sets_off_sibling h.nodes s y.step) (begins_next h.nodes s y.step) free in
      ap (λ t. t || (is_in_seq h.nodes s && list_any (λ (z : Entry). begins_next h.nodes s z.step) (since_birth next s)))
      (both_and (is_in_seq h.nodes s || is_in_excl h.nodes s) _ _ (λ k. set_off-then s apart (ap (λ t. t && sets_off_sibling h.nodes s y.step) (sym k) ∙ parts.0)))
      ∙ ap (λ t. ((is_in_seq h.nodes s || is_in_excl h.nodes s) && list_any (λ (z : Entry). sets_off_sibling h.nodes s z.step) (since_finish h.diary s)) || (is_in_seq h.nodes s && t))
      (begun-then s apart parts.1)

  -- ---- the facts

  document-then : (s : ℕ) → Apart h.nodes x s → (v m : ℤ) → to_document next s v m ≡ to_document h s v m
  document-then s apart v m = ap (λ o. m +ℤ (v -ℤ o)) (parent-then h first y x only s m apart)

  deferred-then : (s : ℕ) → Apart h.nodes x s → option_and_then (λ (z : Entry). deferred_begin next s z.moment z.step) (deferral next s) ≡ option_and_then (λ (z : Entry). deferred_begin h s z.moment z.step) (deferral h s)
  deferred-then s apart =
      ap (option_and_then (λ (z : Entry). deferred_begin next s z.moment z.step)) (deferral-then h first y x only s apart)
      ∙ then_same (λ (z : Entry). deferred_begin next s z.moment z.step) (λ (z : Entry). deferred_begin h s z.moment z.step) (deferral h s) (λ z. by_step z.moment z.step)
    where
      by_step : (m : ℤ) (step : Step) → deferred_begin next s m step ≡ deferred_begin h s m step
      by_step m (Deferred who begin) = ap Some (document-then s apart begin m)
      by_step m _ = refl

  begin-then : (s : ℕ) → Apart h.nodes x s → present_begin next s ≡ present_begin h s
  begin-then s apart =
      ap (λ t. cond t (option_map (document_value next s) (plays next s).present) None) (active-then h first y x only h.diary s apart.self)
      ∙ ap (λ (p : Plays). cond (is_active h.diary s) (option_map (document_value next s) p.present) None) (plays-then h first y x only s apart)
      ∙ ap (λ o. cond (is_active h.diary s) o None)
      (map_same (document_value next s) (document_value h s) (plays h s).present (λ mark. document-then s apart mark.value mark.moment))

  last-then : (s : ℕ) → Apart h.nodes x s → last_finished next s ≡ last_finished h s
  last-then s apart = rw (plays-then h first y x only s apart)

  values-then : (s : ℕ) → Apart h.nodes x s → option_map (finished_values next s) (last_finished next s) ≡ option_map (finished_values h s) (last_finished h s)
  values-then s apart =
      ap (option_map (finished_values next s)) (last-then s apart)
      ∙ map_same (finished_values next s) (finished_values h s) (last_finished h s)
      (λ f.
      ap (λ a. (a, document_value next s f.finish)) (document-then s apart f.begin.value f.begin.moment)
      ∙ ap (λ b. (document_value h s f.begin, b)) (document-then s apart f.finish.value f.finish.moment))

  -- all but what displaces stays
  facts-then : (now : ℤ) (i : Option Interval) (shows frozen : Bool) (e : Node) → Apart h.nodes x e.serial → view_facts next now i shows frozen e ≡ record (view_facts h now i shows frozen e) { displaced = is_displaced next e.serial }
  facts-then now i shows frozen e apart =
      let s = e.serial in
      let active : is_active (h.diary ++ y ∷ []) s ≡ is_active h.diary s = active-then h first y x only h.diary s apart.self in
      let paused : is_paused (h.diary ++ y ∷ []) s ≡ is_paused h.diary s = paused-then h first y x only h.diary s apart.self in
      let deferred = deferred-then s apart in
      let begun = begin-then s apart in
      let last = values-then s apart in
      let cut : was_cut (last_finished next s) ≡ was_cut (last_finished h s) = ap was_cut (last-then s apart) in
      let standing : outer_stands next s ≡ outer_stands h s = parent_held-then h first y x only s apart in
      let shift : now -ℤ outer next s now ≡ now -ℤ outer h s now = ap (λ o. now -ℤ o) (parent-then h first y x only s now apart) in
      let iteration' : iteration next s ≡ iteration h s = iteration-then h first y x only s apart in
      let finished : length (plays next s).finished ≡ length (plays h s).finished = ap (λ (p : Plays). length p.finished) (plays-then h first y x only s apart) in
      cc

  pub rest-then : (n : Node) → Apart h.nodes x n.serial → may_rest next n ≡ may_rest h n
  rest-then n apart = ap (λ o. is_freeze (effective_fill h.nodes n) && is_some o) (last-then n.serial apart)

  -- ---- an element that stays

  -- the entry is not on the element or above it, and does not displace it while it may rest
  pub record Unmoved (e : Node) : Type 0 where
    pub apart : Apart h.nodes x e.serial
    pub still : (is_set_off h.nodes e.serial y.step ≡ false) ⊎ (may_rest h e ≡ false)

  frozen-still : (now : ℤ) (i : Option Interval) (shows frozen : Bool) (e : Node) → Apart h.nodes x e.serial → (is_set_off h.nodes e.serial y.step ≡ false) ⊎ (may_rest h e ≡ false) → is_frozen_by (record (view_facts h now i shows frozen e) { displaced = is_displaced next e.serial }) ≡ is_frozen_by (view_facts h now i shows frozen e)
  frozen-still now i shows frozen e apart (inl q) =
      ap (λ d. is_frozen_by (record (view_facts h now i shows frozen e) { displaced = d })) (displaced-then e.serial apart q)
  frozen-still now i shows frozen e apart (inr q) =
      no_account (view_facts h now i shows frozen e) (is_displaced next e.serial)
      (ap (λ b. is_freeze (effective_fill h.nodes e) && b) (some_mapped (finished_values h e.serial) (last_finished h e.serial)) ∙ q)

  frozen-one : (now : ℤ) (i : Option Interval) (shows frozen : Bool) (e : Node) → Unmoved e → is_frozen_by (view_facts next now i shows frozen e) ≡ is_frozen_by (view_facts h now i shows frozen e)
  frozen-one now i shows frozen e unmoved =
      ap is_frozen_by (facts-then now i shows frozen e unmoved.apart) ∙ frozen-still now i shows frozen e unmoved.apart unmoved.still

  view-one : (now : ℤ) (i : Option Interval) (shows frozen : Bool) (e : Node) → Unmoved e → view_by (view_facts next now i shows frozen e) ≡ view_by (view_facts h now i shows frozen e)
  view-one now i shows frozen e unmoved =
      ap view_by (facts-then now i shows frozen e unmoved.apart)
      ∙ same_view (view_facts h now i shows frozen e) (is_displaced next e.serial) (frozen-still now i shows frozen e unmoved.apart unmoved.still)

  -- ---- what is frozen above

  frozen_under-then : (shows frozen : Bool) (e : Node) → Unmoved e → is_frozen_under next shows frozen e ≡ is_frozen_under h shows frozen e
  frozen_under-then shows frozen e unmoved =
      ap (λ t. not t && not (is_deferred next e.serial) && is_frozen_by (view_facts next (pos 0) None shows frozen e)) (active-then h first y x only h.diary e.serial unmoved.apart.self)
      ∙ ap (λ o. not (is_active h.diary e.serial) && not (is_some o) && is_frozen_by (view_facts next (pos 0) None shows frozen e)) (deferral-then h first y x only e.serial unmoved.apart)
      ∙ ap (λ b. not (is_active h.diary e.serial) && not (is_deferred h e.serial) && b) (frozen-one (pos 0) None shows frozen e unmoved)

  shows_under-then : (frozen : Bool) (ps : List Node) → AllByRecursion Unmoved ps → shows_under next frozen ps ≡ shows_under h frozen ps
  shows_under-then frozen [] each = refl
  shows_under-then frozen (p ∷ ps) each = ap (λ t. t || frozen) (active-then h first y x only h.diary p.serial each.0.apart.self)

  frozen-then : (ps : List Node) → AllByRecursion Unmoved ps → is_frozen_in next ps ≡ is_frozen_in h ps
  frozen-then [] each = refl
  frozen-then (p ∷ ps) each =
      ap (λ above. is_frozen_under next (shows_under next above ps) above p) (frozen-then ps each.1)
      ∙ ap (λ shows. is_frozen_under next shows (is_frozen_in h ps) p) (shows_under-then (is_frozen_in h ps) ps each.1)
      ∙ frozen_under-then (shows_under h (is_frozen_in h ps) ps) (is_frozen_in h ps) p each.0

  -- ---- the view

  pub view-then : (now : ℤ) (i : Option Interval) (e : Node) (ps : List Node) → Unmoved e → AllByRecursion Unmoved ps → view_by (view_facts next now i (shows_under next (is_frozen_in next ps) ps) (is_frozen_in next ps) e) ≡ view_by (view_facts h now i (shows_under h (is_frozen_in h ps) ps) (is_frozen_in h ps) e)
  view-then now i e ps unmoved each =
      ap (λ frozen. view_by (view_facts next now i (shows_under next frozen ps) frozen e)) (frozen-then ps each)
      ∙ ap (λ shows. view_by (view_facts next now i shows (is_frozen_in h ps) e)) (shows_under-then (is_frozen_in h ps) ps each)
      ∙ view-one now i (shows_under h (is_frozen_in h ps) ps) (is_frozen_in h ps) e unmoved
