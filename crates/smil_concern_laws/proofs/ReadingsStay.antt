-- An entry leaves the readings of each element that is apart from its own, and a logged one those of all.
use Rattle.std.proofs.Common.{◌≡◌, refl, sym, ◌∙◌, ap, ℕ, suc, zero, ◌≤◌, List, [], ◌∷◌, ◌++◌, length, Option, Some, None, ℤ, false, arith, length-append, inl, inr}
use Rattle.std.specs.Prelude.{◌==◌, drop, fold, reverse, slice_get}
use Rattle.std.specs.Option.{option_map_or}
use Rattle.std.proofs.lemmas.List.{drop-append-le}
use Rattle.std.proofs.lemmas.List.Sums.{fold_push}
use Rattle.smil_model.specs.declared.diary.Entry.{Entry}
use Rattle.smil_model.specs.declared.diary.LogEntry.{LogEntry}
use Rattle.smil_model.specs.declared.diary.Step.{Step}
use Rattle.smil_model.specs.declared.diary.Step.TheVariants.{Began, Repeated, Passed, Logged}
use Rattle.smil_model.specs.declared.document.Node.{Node}
use Rattle.smil_model.specs.document.Document.{time_parent}
use Rattle.smil_model.specs.diary.Diary.{History, up_to, gives_birth, last_place, birth, birth_under, lives_under}
use Rattle.smil_model.specs.diary.Clocks.{outer_under, stands_under, start_under}
use Rattle.smil_model.specs.diary.Plays.{passed, passed_after}
use Rattle.smil_laws.specs.Locality.{ParentsBefore}
use Rattle.smil_laws.proofs.ForeignEntries.{Apart, is_about, logged_about, last_place-push, last_place-below, active-then, paused-then, own-then, own_held-then, play_start-then, iteration_start-then, plays-then, deferral-then, iteration-then}
use Rattle.smil_concern_laws.proofs.Lineages.{parent_apart, own_parent_apart}
use Rattle.smil_concern_laws.proofs.Readings.{Shifts, AroundSame, ReadingsSame, without_log, with_logs}

-- ---- a list that grew by one

drop_all : {A : Type 0} (zs : List A) → drop (length zs) zs ≡ []
drop_all [] = refl
drop_all (z ∷ zs) = drop_all zs

-- what is read of its tail, where the last one gives nothing
pub tail_same : {A B : Type 0} (read : List A → B) (n : ℕ) (zs : List A) (w : A) (after before : ℕ) → length zs ≡ n → ((ws : List A) → read (ws ++ w ∷ []) ≡ read ws) → Shifts n after before → read (drop after (zs ++ w ∷ [])) ≡ read (drop before zs)
tail_same read n zs w after before same ignores (inl p) =
    ap (λ j. read (drop j (zs ++ w ∷ []))) p.0 ∙ ap read (drop-append-le before zs (w ∷ []) (omega (arith, p.1, same))) ∙ ignores (drop before zs)
tail_same read n zs w after before same ignores (inr p) =
    let all : length (zs ++ w ∷ []) ≡ after = omega (arith, length-append zs (w ∷ []), same, p.0) in
    let whole : length zs ≡ before = omega (arith, same, p.1) in
    ap (λ j. read (drop j (zs ++ w ∷ []))) (sym all) ∙ ap read (drop_all (zs ++ w ∷ [])) ∙ sym (ap read (drop_all zs)) ∙ ap (λ j. read (drop j zs)) whole

-- ---- an entry on x

births_other : (log : List LogEntry) (s : ℕ) (step : Step) → is_about log s step ≡ false → gives_birth s step ≡ false
births_other log s (Began who begin) q = q
births_other log s (Repeated who start) q = q
births_other log s _ q = refl

passed_other : (log : List LogEntry) (s : ℕ) (b : Option ℤ) (step : Step) → is_about log s step ≡ false → passed_after s b step ≡ b
passed_other log s b (Passed who begin) q = rw q
passed_other log s b _ q = refl

module _ (h : History) (first : ParentsBefore (reverse h.nodes)) (y : Entry) (x : ℕ) (only : (s : ℕ) → s == x ≡ false → is_about h.log s y.step ≡ false) where
  abbrev then : History
  then = up_to h (h.diary ++ y ∷ [])

  abbrev ParentApart : Option Node → Type 0
  ParentApart o = (p : Node) → o ≡ Some p → Apart h.nodes x p.serial

  births_under : (o : Option Node) → ParentApart o → Shifts (length h.diary) (birth_under o (h.diary ++ y ∷ [])) (birth_under o h.diary)
  births_under None far = inl (refl, omega arith)
  births_under (Some p) far =
      rw (last_place-push (λ (z : Entry). gives_birth p.serial z.step) h.diary y (births_other h.log p.serial y.step (only p.serial ((far p refl).self))))
      (by_place (last_place (λ (z : Entry). gives_birth p.serial z.step) h.diary) (last_place-below (λ (z : Entry). gives_birth p.serial z.step) h.diary))
    where
      by_place : (o : Option ℕ) → ((k : ℕ) → o ≡ Some k → suc k ≤ length h.diary) → Shifts (length h.diary) (option_map_or suc o (length (h.diary ++ y ∷ []))) (option_map_or suc o (length h.diary))
      by_place (Some k) below = inl (refl, below k refl)
      by_place None below = inr (omega (arith, length-append h.diary (y ∷ [])), refl)

  -- what is around an element whose time parent is apart from x
  around_then : (s : ℕ) → ParentApart (time_parent h.nodes s) → AroundSame h then s
  around_then s far = record {
    outer_same = λ m. outer_under_then m (time_parent h.nodes s) far;
    outer_held = stands_under_then (time_parent h.nodes s) far;
    birth_shifts = births_under (time_parent h.nodes s) far;
  }
    where
      outer_under_then : (m : ℤ) (o : Option Node) → ParentApart o → outer_under then o m ≡ outer_under h o m
      outer_under_then m None f = refl
      outer_under_then m (Some p) f = own-then h first y x only p.serial m ((f p refl).above)

      stands_under_then : (o : Option Node) → ParentApart o → stands_under then o ≡ stands_under h o
      stands_under_then None f = refl
      stands_under_then (Some p) f = own_held-then h first y x only p.serial (f p refl)

  alive_then : (o : Option Node) → ParentApart o → lives_under o (h.diary ++ y ∷ []) ≡ lives_under o h.diary
  alive_then None far = refl
  alive_then (Some p) far = active-then h first y x only h.diary p.serial ((far p refl).self)

  parent_start_then : (o : Option Node) → ParentApart o → start_under then o ≡ start_under h o
  parent_start_then None far = refl
  parent_start_then (Some p) far = iteration_start-then h first y x only p.serial (far p refl)

  passed_then : (s : ℕ) → Apart h.nodes x s → passed then s ≡ passed h s
  passed_then s apart =
      tail_same (fold (λ before (z : Entry). passed_after s before z.step) None) (length h.diary) h.diary y (birth then s) (birth h s) refl
      (λ ws. fold_push (λ before (z : Entry). passed_after s before z.step) None ws y ∙ passed_other h.log s (fold (λ before (z : Entry). passed_after s before z.step) None ws) y.step (only s apart.self))
      (births_under (time_parent h.nodes s) (parent_apart h.nodes first x s apart))

  pub readings_apart : (s : ℕ) → Apart h.nodes x s → ReadingsSame h then s
  readings_apart s apart = record {
    around = around_then s (parent_apart h.nodes first x s apart);
    active = active-then h first y x only h.diary s apart.self;
    paused = paused-then h first y x only h.diary s apart.self;
    alive = alive_then (time_parent h.nodes s) (parent_apart h.nodes first x s apart);
    own = λ m. own-then h first y x only s m apart.above;
    own_held = own_held-then h first y x only s apart;
    play_starts = play_start-then h first y x only s apart;
    iteration_starts = iteration_start-then h first y x only s apart;
    parent_starts = parent_start_then (time_parent h.nodes s) (parent_apart h.nodes first x s apart);
    plays_same = plays-then h first y x only s apart;
    deferral_same = deferral-then h first y x only s apart;
    iteration_same = iteration-then h first y x only s apart;
    passed_same = passed_then s apart;
  }

  -- what is around x itself
  pub around_itself : AroundSame h then x
  around_itself = around_then x (own_parent_apart h.nodes first x)

-- ---- a logged entry: without the log it is on no element

unheard : (s place : ℕ) → logged_about s (slice_get [] place) ≡ false
unheard s zero = refl
unheard s (suc place) = refl

pub readings_logged : (h : History) → ParentsBefore (reverse h.nodes) → (y : Entry) (place : ℕ) → y.step ≡ Logged place → (x s : ℕ) → Apart h.nodes x s → ReadingsSame h (up_to h (h.diary ++ y ∷ [])) s
readings_logged h first y place logged x s apart =
    with_logs h (up_to h (h.diary ++ y ∷ [])) s
    (readings_apart (without_log h) first y x (λ t d. ap (is_about [] t) logged ∙ unheard t place) s apart)
