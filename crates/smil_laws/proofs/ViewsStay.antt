-- An entry leaves the view of each element in which it does not show, given the same interval.
use Rattle.std.proofs.Common.{◌≡◌, refl, ◌∙◌, ap, ℕ, suc, ◌≤◌, List, [], ◌∷◌, ◌++◌, length, Option, Some, None, ℤ, Bool, true, false, arith, length-append, inl, inr}
use Rattle.std.specs.Prelude.{pos, cond, ◌==◌, ◌||◌, ◌&&◌, not, reverse, is_some, option_map, option_and_then, ◌+ℤ◌, ◌-ℤ◌}
use Rattle.std.specs.List.{AllByRecursion, list_any}
use Rattle.std.specs.Option.{option_map_or}
use Rattle.std.proofs.lemmas.List.Folds.{list_any-append}
use Rattle.smil_model.specs.declared.interval.Interval.{Interval}
use Rattle.smil_model.specs.declared.diary.Entry.{Entry}
use Rattle.smil_model.specs.declared.diary.Step.{Step}
use Rattle.smil_model.specs.declared.diary.Step.TheVariants.{Ended, Cut, Deferred}
use Rattle.smil_model.specs.declared.document.Node.{Node}
use Rattle.smil_model.specs.document.Document.{is_in_seq, is_in_excl}
use Rattle.smil_model.specs.diary.Diary.{History, last_place, since_birth, birth, is_active, is_paused, is_deferred, deferral, iteration}
use Rattle.smil_model.specs.diary.Clocks.{outer, to_document, outer_stands}
use Rattle.smil_model.specs.diary.Plays.{Plays, plays, last_finished}
use Rattle.smil_model.specs.shown.Views.{is_finish, since_finish, sets_off_sibling, begins_next, is_displaced, document_value, deferred_begin, finished_values, was_cut, present_begin, view_facts, is_frozen_by, is_frozen_under, shows_under, is_frozen_in, view_by}
use Rattle.smil_laws.specs.Locality.{ParentsBefore}
use Rattle.smil_laws.proofs.ForeignEntries.{is_about, Moves, then, last_place-push, last_place-below, active-then, paused-then, parent-then, parent_held-then, plays-then, deferral-then, iteration-then, tail-then, reset-then}
use Rattle.smil_laws.proofs.ViewsAbove.{Unseen, no_set_off, no_begin_next}

map_same : {A B : Type 0} (f g : A → B) (o : Option A) → ((a : A) → f a ≡ g a) → option_map f o ≡ option_map g o
map_same f g None same = refl
map_same f g (Some a) same = ap Some (same a)

then_same : {A B : Type 0} (f g : A → Option B) (o : Option A) → ((a : A) → f a ≡ g a) → option_and_then f o ≡ option_and_then g o
then_same f g None same = refl
then_same f g (Some a) same = same a

any_pushed : (test : Entry → Bool) (y : Entry) → test y ≡ false → (ws : List Entry) → list_any test (ws ++ y ∷ []) ≡ list_any test ws
any_pushed test y q ws = list_any-append test ws (y ∷ []) ∙ last (list_any test ws) (test y) q
  where
    last : (a b : Bool) → b ≡ false → (a || (b || false)) ≡ a
    last true b q = refl
    last false b q = ap (λ t. t || false) q

both_and : (a b c : Bool) → (a ≡ true → b ≡ c) → (a && b) ≡ (a && c)
both_and true b c f = f refl
both_and false b c f = refl

module _ (h : History) (first : ParentsBefore (reverse h.nodes)) (y : Entry) (x : ℕ) (only : (s : ℕ) → s == x ≡ false → is_about h.log s y.step ≡ false) where
  abbrev next : History
  next = then h first y x only

  abbrev Unshown : ℕ → Type 0
  Unshown s = Unseen h.nodes first y.step x s

  -- ---- what displaces

  no_finish : (s : ℕ) (step : Step) → is_about h.log s step ≡ false → is_finish s step ≡ false
  no_finish s (Ended who finish) q = q
  no_finish s (Cut who) q = q
  no_finish s _ q = refl

  finish_moves : (s : ℕ) → is_finish s y.step ≡ false → Moves h first y x only (option_map_or suc (last_place (λ (z : Entry). is_finish s z.step) (h.diary ++ y ∷ [])) (length (h.diary ++ y ∷ []))) (option_map_or suc (last_place (λ (z : Entry). is_finish s z.step) h.diary) (length h.diary))
  finish_moves s q =
      rw (last_place-push (λ (z : Entry). is_finish s z.step) h.diary y q)
      (by_place (last_place (λ (z : Entry). is_finish s z.step) h.diary) (last_place-below (λ (z : Entry). is_finish s z.step) h.diary))
    where
      by_place : (o : Option ℕ) → ((k : ℕ) → o ≡ Some k → suc k ≤ length h.diary) → Moves h first y x only (option_map_or suc o (length (h.diary ++ y ∷ []))) (option_map_or suc o (length h.diary))
      by_place (Some k) below = inl (refl, below k refl)
      by_place None below = inr (omega (arith, length-append h.diary (y ∷ [])), refl)

  set_off-then : (s : ℕ) → Unshown s → (is_in_seq h.nodes s || is_in_excl h.nodes s) ≡ true → list_any (λ (z : Entry). sets_off_sibling h.nodes s z.step) (since_finish (h.diary ++ y ∷ []) s) ≡ list_any (λ (z : Entry). sets_off_sibling h.nodes s z.step) (since_finish h.diary s)
  set_off-then s unseen kind =
      tail-then h first y x only (list_any (λ (z : Entry). sets_off_sibling h.nodes s z.step)) h.diary y
      (option_map_or suc (last_place (λ (z : Entry). is_finish s z.step) (h.diary ++ y ∷ [])) (length (h.diary ++ y ∷ [])))
      (option_map_or suc (last_place (λ (z : Entry). is_finish s z.step) h.diary) (length h.diary))
      refl
      (any_pushed (λ (z : Entry). sets_off_sibling h.nodes s z.step) y (no_set_off h.nodes first h.log x s y.step only unseen kind))
      (finish_moves s (no_finish s y.step (only s unseen.apart.self)))

  begun-then : (s : ℕ) → Unshown s → list_any (λ (z : Entry). begins_next h.nodes s z.step) (since_birth next s) ≡ list_any (λ (z : Entry). begins_next h.nodes s z.step) (since_birth h s)
  begun-then s unseen =
      tail-then h first y x only (list_any (λ (z : Entry). begins_next h.nodes s z.step)) h.diary y (birth next s) (birth h s) refl
      (any_pushed (λ (z : Entry). begins_next h.nodes s z.step) y (no_begin_next h.nodes first h.log x s y.step only unseen))
      (reset-then h first y x only s unseen.apart)

  displaced-then : (s : ℕ) → Unshown s → is_displaced next s ≡ is_displaced h s
  displaced-then s unseen =
      ap (λ t. t || (is_in_seq h.nodes s && list_any (λ (z : Entry). begins_next h.nodes s z.step) (since_birth next s)))
      (both_and (is_in_seq h.nodes s || is_in_excl h.nodes s) _ _ (set_off-then s unseen))
      ∙ ap (λ t. ((is_in_seq h.nodes s || is_in_excl h.nodes s) && list_any (λ (z : Entry). sets_off_sibling h.nodes s z.step) (since_finish h.diary s)) || (is_in_seq h.nodes s && t))
      (begun-then s unseen)

  -- ---- the facts

  document-then : (s : ℕ) → Unshown s → (v m : ℤ) → to_document next s v m ≡ to_document h s v m
  document-then s unseen v m = ap (λ o. m +ℤ (v -ℤ o)) (parent-then h first y x only s m unseen.apart)

  deferred-then : (s : ℕ) → Unshown s → option_and_then (λ (z : Entry). deferred_begin next s z.moment z.step) (deferral next s) ≡ option_and_then (λ (z : Entry). deferred_begin h s z.moment z.step) (deferral h s)
  deferred-then s unseen =
      ap (option_and_then (λ (z : Entry). deferred_begin next s z.moment z.step)) (deferral-then h first y x only s unseen.apart)
      ∙ then_same (λ (z : Entry). deferred_begin next s z.moment z.step) (λ (z : Entry). deferred_begin h s z.moment z.step) (deferral h s) (λ z. by_step z.moment z.step)
    where
      by_step : (m : ℤ) (step : Step) → deferred_begin next s m step ≡ deferred_begin h s m step
      by_step m (Deferred who begin) = ap Some (document-then s unseen begin m)
      by_step m _ = refl

  begin-then : (s : ℕ) → Unshown s → present_begin next s ≡ present_begin h s
  begin-then s unseen =
      ap (λ t. cond t (option_map (document_value next s) (plays next s).present) None) (active-then h first y x only h.diary s unseen.apart.self)
      ∙ ap (λ (p : Plays). cond (is_active h.diary s) (option_map (document_value next s) p.present) None) (plays-then h first y x only s unseen.apart)
      ∙ ap (λ o. cond (is_active h.diary s) o None)
      (map_same (document_value next s) (document_value h s) (plays h s).present (λ mark. document-then s unseen mark.value mark.moment))

  last-then : (s : ℕ) → Unshown s → last_finished next s ≡ last_finished h s
  last-then s unseen = rw (plays-then h first y x only s unseen.apart)

  values-then : (s : ℕ) → Unshown s → option_map (finished_values next s) (last_finished next s) ≡ option_map (finished_values h s) (last_finished h s)
  values-then s unseen =
      ap (option_map (finished_values next s)) (last-then s unseen)
      ∙ map_same (finished_values next s) (finished_values h s) (last_finished h s)
      (λ f.
      ap (λ a. (a, document_value next s f.finish)) (document-then s unseen f.begin.value f.begin.moment)
      ∙ ap (λ b. (document_value h s f.begin, b)) (document-then s unseen f.finish.value f.finish.moment))

  pub facts-then : (now : ℤ) (i : Option Interval) (shows frozen : Bool) (e : Node) → Unshown e.serial → view_facts next now i shows frozen e ≡ view_facts h now i shows frozen e
  facts-then now i shows frozen e unseen =
      let s = e.serial in
      let active : is_active (h.diary ++ y ∷ []) s ≡ is_active h.diary s = active-then h first y x only h.diary s unseen.apart.self in
      let paused : is_paused (h.diary ++ y ∷ []) s ≡ is_paused h.diary s = paused-then h first y x only h.diary s unseen.apart.self in
      let deferred = deferred-then s unseen in
      let begun = begin-then s unseen in
      let last = values-then s unseen in
      let cut : was_cut (last_finished next s) ≡ was_cut (last_finished h s) = ap was_cut (last-then s unseen) in
      let displaced = displaced-then s unseen in
      let standing : outer_stands next s ≡ outer_stands h s = parent_held-then h first y x only s unseen.apart in
      let shift : now -ℤ outer next s now ≡ now -ℤ outer h s now = ap (λ o. now -ℤ o) (parent-then h first y x only s now unseen.apart) in
      let iteration' : iteration next s ≡ iteration h s = iteration-then h first y x only s unseen.apart in
      let finished : length (plays next s).finished ≡ length (plays h s).finished = ap (λ (p : Plays). length p.finished) (plays-then h first y x only s unseen.apart) in
      cc

  -- ---- what is frozen above

  frozen_under-then : (shows frozen : Bool) (e : Node) → Unshown e.serial → is_frozen_under next shows frozen e ≡ is_frozen_under h shows frozen e
  frozen_under-then shows frozen e unseen =
      ap (λ t. not t && not (is_deferred next e.serial) && is_frozen_by (view_facts next (pos 0) None shows frozen e)) (active-then h first y x only h.diary e.serial unseen.apart.self)
      ∙ ap (λ o. not (is_active h.diary e.serial) && not (is_some o) && is_frozen_by (view_facts next (pos 0) None shows frozen e)) (deferral-then h first y x only e.serial unseen.apart)
      ∙ ap (λ f. not (is_active h.diary e.serial) && not (is_deferred h e.serial) && is_frozen_by f) (facts-then (pos 0) None shows frozen e unseen)

  shows_under-then : (frozen : Bool) (ps : List Node) → AllByRecursion (λ (p : Node). Unshown p.serial) ps → shows_under next frozen ps ≡ shows_under h frozen ps
  shows_under-then frozen [] each = refl
  shows_under-then frozen (p ∷ ps) each = ap (λ t. t || frozen) (active-then h first y x only h.diary p.serial each.0.apart.self)

  frozen-then : (ps : List Node) → AllByRecursion (λ (p : Node). Unshown p.serial) ps → is_frozen_in next ps ≡ is_frozen_in h ps
  frozen-then [] each = refl
  frozen-then (p ∷ ps) each =
      ap (λ above. is_frozen_under next (shows_under next above ps) above p) (frozen-then ps each.1)
      ∙ ap (λ shows. is_frozen_under next shows (is_frozen_in h ps) p) (shows_under-then (is_frozen_in h ps) ps each.1)
      ∙ frozen_under-then (shows_under h (is_frozen_in h ps) ps) (is_frozen_in h ps) p each.0

  -- ---- the view

  pub view-then : (now : ℤ) (i : Option Interval) (e : Node) (ps : List Node) → Unshown e.serial → AllByRecursion (λ (p : Node). Unshown p.serial) ps → view_by (view_facts next now i (shows_under next (is_frozen_in next ps) ps) (is_frozen_in next ps) e) ≡ view_by (view_facts h now i (shows_under h (is_frozen_in h ps) ps) (is_frozen_in h ps) e)
  view-then now i e ps unseen each =
      ap (λ frozen. view_by (view_facts next now i (shows_under next frozen ps) frozen e)) (frozen-then ps each)
      ∙ ap (λ shows. view_by (view_facts next now i shows (is_frozen_in h ps) e)) (shows_under-then (is_frozen_in h ps) ps each)
      ∙ ap view_by (facts-then now i (shows_under h (is_frozen_in h ps) ps) (is_frozen_in h ps) e unseen)
