-- Entries that leave clocks as they were.
use Rattle.std.proofs.Common.{◌≡◌, refl, sym, ◌∙◌, ap, ℕ, ℤ, List, [], ◌∷◌, ◌++◌, Bool, true, false, inl, inr}
use Rattle.std.specs.Prelude.{◌&&◌, ◌||◌, ◌⊎◌, map}
use Rattle.std.specs.List.{list_any}
use Rattle.std.proofs.lemmas.Bool.{eqb-true, eq-eqb}
use Rattle.smil_model.specs.declared.diary.Step.{Step}
use Rattle.smil_model.specs.declared.diary.Step.TheVariants.{Paused, Resumed, Ended, Cut}
use Rattle.smil_model.specs.declared.document.Node.{Node}
use Rattle.smil_model.specs.document.Document.{is_element, lineage}
use Rattle.smil_model.specs.diary.Diary.{History, is_paused, with_entry, last_moment}
use Rattle.smil_model.specs.diary.Clocks.{run, stands}
use Rattle.smil_stretch.specs.declared.clock.NodeClock.{NodeClock}
use Rattle.smil_stretch.specs.Clocks.{shown, clock_by, clock_of, node_clock, ends_pause}
use Rattle.smil_stretch.specs.Laws.{changes_clocks, OtherEntriesLeaveClocks}
use Rattle.smil_stretch.proofs.ClockAtMoment.{clock_with, clock_same}
use Rattle.smil_stretch.proofs.LawfulDiaries.{lawful_last, stays}

any_same : (p q : Node → Bool) (ns : List Node) → ((n : Node) → p n ≡ q n) → list_any (λ (n : Node). is_element n && p n) ns ≡ list_any (λ (n : Node). is_element n && q n) ns
any_same p q [] same = refl
any_same p q (n ∷ ns) same =
    ap (λ t. (is_element n && t) || list_any (λ (m : Node). is_element m && p m) ns) (same n)
    ∙ ap (λ t. (is_element n && q n) || t) (any_same p q ns same)

pub map_same : (f g : Node → NodeClock) (ns : List Node) → ((n : Node) → f n ≡ g n) → map f ns ≡ map g ns
map_same f g [] same = refl
map_same f g (n ∷ ns) same = ap (λ c. c ∷ map f ns) (same n) ∙ ap (λ cs. g n ∷ cs) (map_same f g ns same)

pub others_leave : OtherEntriesLeaveClocks
others_leave clocks h y are lawful changes = record {
  next = are.next;
  document = are.document;
  lawful = lawful;
  value = are.value ∙ map_same (node_clock h) (node_clock (with_entry h y)) h.nodes same;
}
  where
    paused_same : (s : ℕ) → is_paused (h.diary ++ y ∷ []) s ≡ is_paused h.diary s
    paused_same s = stays h y s (lawful_last h y lawful) changes

    stands_same : (s : ℕ) → stands (with_entry h y) s ≡ stands h s
    stands_same s =
        any_same (λ (n : Node). is_paused (h.diary ++ y ∷ []) n.serial) (λ (n : Node). is_paused h.diary n.serial) (lineage h.nodes s)
        (λ n. paused_same n.serial)

    clock_stays : (s : ℕ) → clock_of (with_entry h y) s ≡ clock_of h s
    clock_stays s =
        clock_with h y s are.lawful lawful
        ∙ ap (λ t. clock_by t (shown (clock_of h s) y.moment) y.moment) (stands_same s)
        ∙ clock_same (stands h s) (run h s (last_moment h.diary)) (last_moment h.diary) y.moment

    same : (n : Node) → node_clock h n ≡ node_clock (with_entry h y) n
    same n =
        ap (λ t. record (node_clock h n) { paused = is_element n && t }) (sym (paused_same n.serial))
        ∙ ap (λ c. record (node_clock (with_entry h y) n) { clock = c }) (sym (clock_stays n.serial))

-- ---- which entries these are

pub plain : (h : History) (step : Step) → ((who : ℕ) (end' : ℤ) → step ≡ Ended who end' → ⊥) → ((who : ℕ) → step ≡ Cut who → ⊥) → ((who : ℕ) → step ≡ Paused who → ⊥) → ((who : ℕ) → step ≡ Resumed who → ⊥) → changes_clocks h step ≡ false
plain h (Ended who end') no-end no-cut no-pause no-resume = absurd (no-end who end' refl)
plain h (Cut who) no-end no-cut no-pause no-resume = absurd (no-cut who refl)
plain h (Paused who) no-end no-cut no-pause no-resume = absurd (no-pause who refl)
plain h (Resumed who) no-end no-cut no-pause no-resume = absurd (no-resume who refl)
plain h _ no-end no-cut no-pause no-resume = refl

-- an end of a pause, of an element that is not paused
pub not_paused : (h : History) (who : ℕ) (step : Step) → ends_pause who step ≡ true → is_paused h.diary who ≡ false → changes_clocks h step ≡ false
not_paused h who (Resumed other) e q = ap (is_paused h.diary) (eqb-true other who e) ∙ q
not_paused h who (Ended other end') e q = ap (is_paused h.diary) (eqb-true other who e) ∙ q
not_paused h who (Cut other) e q = ap (is_paused h.diary) (eqb-true other who e) ∙ q
not_paused h who _ e q = cc

pub ending : (who : ℕ) (step : Step) → (step ≡ Resumed who) ⊎ (((x : ℤ) × (step ≡ Ended who x)) ⊎ (step ≡ Cut who)) → ends_pause who step ≡ true
ending who step (inl q) = ap (ends_pause who) q ∙ eq-eqb who who refl
ending who step (inr (inl w)) = ap (ends_pause who) w.1 ∙ eq-eqb who who refl
ending who step (inr (inr q)) = ap (ends_pause who) q ∙ eq-eqb who who refl
