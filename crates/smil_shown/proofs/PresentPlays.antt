-- The present play of an element, and how its end is shown.
use Rattle.std.proofs.Common.{◌≡◌, refl, sym, ◌∙◌, ap, ℕ, ℤ, List, [], ◌++◌, append-nil, append_assoc, map, Bool, true, false, Option, Some, None, to_z, of_z, arith}
use Rattle.std.specs.Prelude.{◌+ℤ◌, ◌-ℤ◌, if◌then◌else◌, flat_map, option_map, option_to_list}
use mir.Syntax.{w64}
use Rattle.std.proofs.lemmas.Int.{ints, to_z-of_z}
use Rattle.std.proofs.lemmas.Grind.{flat_map-append}
use Rattle.smil_model.specs.declared.document.Node.{Node}
use Rattle.smil_model.specs.declared.order.Who.{Who}
use Rattle.smil_model.specs.declared.times.Time.{Time}
use Rattle.smil_model.specs.declared.times.Time.TheVariants as time
use Rattle.smil_model.specs.declared.view.Shown.TheVariants as shown
use Rattle.smil_model.specs.document.Document.{Document}
use Rattle.smil_model.specs.diary.Clocks.{outer, outer_stands}
use Rattle.smil_model.specs.diary.Diary.{History, up_to}
use Rattle.smil_model.specs.diary.Plays.{PlayEdge}
use Rattle.smil_model.specs.shown.Histories.{all_plays, intervals_of, told_finished, told_present}
use Rattle.smil_model.specs.shown.Views.{document_value, shown_time, view_facts}
use Rattle.smil_model.specs.Times.{IsMoment, IsNear}
use Rattle.smil_model.specs.shown.Answers.{told_line}
use Rattle.smil_stretch.specs.Clocks.{AreClocksOf, IsHistoryOf}
use Rattle.smil_shown.specs.declared.interval_teller.IntervalTeller.{IntervalTeller}
use Rattle.smil_shown.specs.Histories.{IsTold, end_at, finished_text, present_line, told_begin}

-- ---- the text of all intervals

pub intervals_text : (h : History) (now : ℤ) (e : Node) (name : Who) → flat_map (told_line name) (intervals_of h now e) ≡ finished_text h e.serial name ++ present_line name (told_begin h e.serial) (end_at h now e)
intervals_text h now e name =
    flat_map-append (told_line name) (map (told_finished h e.serial) (all_plays h e.serial).finished) (option_to_list (option_map (told_present h now e) (all_plays h e.serial).present))
    ∙ ap (λ t. finished_text h e.serial name ++ t) (by (all_plays h e.serial).present)
  where
    by : (o : Option PlayEdge) → flat_map (told_line name) (option_to_list (option_map (told_present h now e) o)) ≡ present_line name (option_map (document_value h e.serial) o) (end_at h now e)
    by None = refl
    by (Some b) = append-nil (told_line name (told_present h now e b))

-- ---- the end of the present play

pub standing_shown : (h : History) (now : ℤ) (e : Node) (who : ℕ) (v : ℤ) (stands : Bool) (finish : Time) → e.serial ≡ who → stands ≡ outer_stands h who → stands ≡ true → finish ≡ time.At v
    → shown.Standing ≡ shown_time (view_facts h now None true false e) finish
standing_shown h now e who v stands finish own is true_is at =
    let t : outer_stands h e.serial ≡ true = ap (outer_stands h) own ∙ sym is ∙ true_is in
    ap (λ (b : Bool). if b then shown.Standing else shown.At (v +ℤ (now -ℤ outer h e.serial now))) (sym t)
    ∙ ap (shown_time (view_facts h now None true false e)) (sym at)

pub running_shown : (h : History) (now : ℤ) (e : Node) (who : ℕ) (v value : ℤ) (stands : Bool) (finish : Time) → e.serial ≡ who → stands ≡ outer_stands h who → stands ≡ false → finish ≡ time.At v
    → value ≡ v +ℤ (now -ℤ outer h who now) → shown.At value ≡ shown_time (view_facts h now None true false e) finish
running_shown h now e who v value stands finish own is false_is at sum =
    let t : outer_stands h e.serial ≡ false = ap (outer_stands h) own ∙ sym is ∙ false_is in
    ap shown.At (sum ∙ ap (λ (s : ℕ). v +ℤ (now -ℤ outer h s now)) (sym own))
    ∙ ap (λ (b : Bool). if b then shown.Standing else shown.At (v +ℤ (now -ℤ outer h e.serial now))) (sym t)
    ∙ ap (shown_time (view_facts h now None true false e)) (sym at)

-- the sum as it is computed, in which no number is far from 0
pub sum_shown : (e m o now : ℤ) → IsNear e → IsMoment m → IsNear o → to_z w64 (of_z w64 m) ≡ now
    → to_z w64 (of_z w64 (to_z w64 (of_z w64 e) +ℤ to_z w64 (of_z w64 (to_z w64 (of_z w64 m) -ℤ to_z w64 (of_z w64 o))))) ≡ e +ℤ (now -ℤ o)
sum_shown e m o now near moment other at =
    let own : to_z w64 (of_z w64 e) ≡ e = to_z-of_z w64 e (omega (arith, ints)) in
    let there : to_z w64 (of_z w64 o) ≡ o = to_z-of_z w64 o (omega (arith, ints)) in
    let same : to_z w64 (of_z w64 m) ≡ m = to_z-of_z w64 m (omega (arith, ints)) in
    let less : to_z w64 (of_z w64 (m -ℤ o)) ≡ m -ℤ o = to_z-of_z w64 (m -ℤ o) (omega (arith, ints)) in
    let more : to_z w64 (of_z w64 (e +ℤ (m -ℤ o))) ≡ e +ℤ (m -ℤ o) = to_z-of_z w64 (e +ℤ (m -ℤ o)) (omega (arith, ints)) in
    rw (own, there, same, less, more) (ap (λ (n : ℤ). e +ℤ (n -ℤ o)) (sym same ∙ at))

-- ---- before the first entry

pub nothing_told : (h : History) (name : Who) (start : List ℕ) (told : IntervalTeller) → AreClocksOf told.clocks (up_to h []) → told.present ≡ None → IsTold (up_to h []) name start told start
nothing_told h name start told known none = record { clocks_are = known; present_is = none; text_is = sym (append-nil start) }

pub first_history : (h : History) (document : Document) → h.nodes ≡ document.nodes → IsHistoryOf (up_to h []) document []
first_history h document same = record { same_nodes = same; same_diary = refl; lawful = record { moments = refl; steps = tt } }

-- ---- the whole text

pub told_all : (h : History) (now : ℤ) (e : Node) (name : Who) (start : List ℕ) (told : IntervalTeller) (text new : List ℕ) → IsTold h name start told text → told.who ≡ e.serial
    → new ≡ text ++ present_line name told.present (end_at h now e) → new ≡ start ++ flat_map (told_line name) (intervals_of h now e)
told_all h now e name start told text new is own appended =
    let present : told.present ≡ told_begin h e.serial = is.present_is ∙ ap (told_begin h) own in
    let finished : text ≡ start ++ finished_text h e.serial name = is.text_is ∙ ap (λ (w : ℕ). start ++ finished_text h w name) own in
    appended ∙ ap (λ (t : List ℕ). t ++ present_line name told.present (end_at h now e)) finished
    ∙ ap (λ (b : Option ℤ). start ++ finished_text h e.serial name ++ present_line name b (end_at h now e)) present
    ∙ append_assoc start (finished_text h e.serial name) (present_line name (told_begin h e.serial) (end_at h now e))
    ∙ ap (λ (t : List ℕ). start ++ t) (sym (intervals_text h now e name))
