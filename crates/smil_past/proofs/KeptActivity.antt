-- What is kept of an element tells whether it is active, and whether it is deferred.
use Rattle.std.proofs.Common.{◌≡◌, refl, sym, ◌∙◌, ap, ℕ, ℤ, List, [], ◌∷◌, ◌++◌, Bool, true, false, Option, Some, None}
use Rattle.std.specs.Prelude.{cond, ◌==◌, fold, option_map, is_some}
use Rattle.std.specs.Option.{option_and_then}
use Rattle.smil_model.specs.declared.diary.Entry.{Entry}
use Rattle.smil_model.specs.declared.diary.Step.{Step}
use Rattle.smil_model.specs.declared.diary.Step.TheVariants.{Began, Repeated, Ended, Cut, Paused, Resumed, Deferred, Passed, Logged}
use Rattle.smil_model.specs.declared.document.Node.{Node}
use Rattle.smil_model.specs.document.Document.{Document, elements, node_at, time_parent}
use Rattle.smil_model.specs.document.Valid.{IsNumberedTree}
use Rattle.smil_model.specs.diary.Diary.{History, deferral_after, is_active, is_alive, is_deferred, since_birth, with_past}
use Rattle.smil_model.specs.diary.Lawful.{AllLawful, IsLawful, has_element}
use Rattle.smil_model.specs.diary.Plays.{PlayEdge, plays}
use Rattle.smil_model.specs.shown.Views.{deferred_begin}
use Rattle.smil_laws.proofs.DescendantOrder.{below_none, parent_apart}
use Rattle.smil_laws.proofs.LawfulSteps.{Follow, known_all}
use Rattle.smil_laws.proofs.NumberedTrees.{ordered}
use Rattle.smil_past.specs.declared.plays.facts.PlayFacts.{PlayFacts}
use Rattle.smil_past.specs.Played.{played, played_at}
use Rattle.smil_past.proofs.ItemReferences.{stands}
use Rattle.smil_past.proofs.PlaysAfterEntry.{active_is}

-- ---- what is active is an element

pub follow : (h : History) (before xs : List Entry) → AllLawful h (with_past before xs) → Follow h.nodes h.log before xs
follow h before [] all = tt
follow h before (x ∷ xs) all = (all.0, follow h (before ++ x ∷ []) xs all.1)

active_known : (h : History) (s : ℕ) → IsLawful h → is_active h.diary s ≡ true → has_element h.nodes s ≡ true
active_known h s lawful active = known_all h.nodes h.log h.diary (follow h [] h.diary lawful.steps) s active

-- ---- the begin of the present play is there while the element is active

module _ (h : History) (next : ℕ) (document : IsNumberedTree (record { nodes = h.nodes; next = next })) (s : ℕ) where
  abbrev tree : Document
  tree = record { nodes = h.nodes; next = next }

  apart : (p : Node) → time_parent h.nodes s ≡ Some p → p.serial == s ≡ false
  apart p q = (parent_apart h.nodes (ordered tree document) s s p (below_none h.nodes (ordered tree document) s) q).0

  pub begun_is : is_some (played h s).begun ≡ is_active h.diary s
  begun_is = by (plays h s).present ∙ active_is h s apart
    where
      by : (o : Option PlayEdge) → is_some (option_map (λ (m : PlayEdge). m.value) o) ≡ is_some o
      by None = refl
      by (Some m) = refl

  pub active_some : (r : PlayFacts) → Some r ≡ played_at h s → is_some r.begun ≡ is_active h.diary s
  active_some r is = by (node_at (elements h.nodes) s) refl is
    where
      by : (o : Option Node) → node_at (elements h.nodes) s ≡ o → Some r ≡ option_map (λ (e : Node). played h e.serial) o → is_some r.begun ≡ is_active h.diary s
      by None none q = absurd (cc)
      by (Some e) there q =
          let one : r ≡ played h e.serial = cc in
          let same : e.serial ≡ s = (stands (elements h.nodes) s e there).serial in
          ap (λ (k : PlayFacts). is_some k.begun) (one ∙ ap (played h) same) ∙ begun_is

  pub active_none : IsLawful h → None ≡ played_at h s → false ≡ is_active h.diary s
  active_none lawful is = by (node_at (elements h.nodes) s) refl is (is_active h.diary s) refl
    where
      by : (o : Option Node) → node_at (elements h.nodes) s ≡ o → None ≡ option_map (λ (e : Node). played h e.serial) o → (t : Bool) → is_active h.diary s ≡ t → false ≡ t
      by None none q true active =
          let known : true ≡ false = sym (active_known h s lawful active) ∙ ap is_some none in
          absurd (cc)
      by None none q false active = refl
      by (Some e) there q t active = absurd (cc)

-- ---- the begin that is deferred is there while the element is deferred

module _ (h : History) (s : ℕ) where
  abbrev begin_by : Entry → Option ℤ
  begin_by x = deferred_begin h s x.moment x.step

  abbrev Tells : Option Entry → Type 0
  Tells None = Unit {0}
  Tells (Some x) = is_some (begin_by x) ≡ true

  dropped : (t : Bool) (before : Option Entry) → Tells before → Tells (cond t None before)
  dropped true before tells = tt
  dropped false before tells = tells

  deferral_tells : (x : Entry) (before : Option Entry) (step : Step) → x.step ≡ step → Tells before → Tells (deferral_after s x before step)
  deferral_tells x before (Began who begin) is tells = dropped (who == s) before tells
  deferral_tells x before (Ended who end') is tells = dropped (who == s) before tells
  deferral_tells x before (Cut who) is tells = dropped (who == s) before tells
  deferral_tells x before (Deferred who begin) is tells = by (who == s)
    where
      by : (t : Bool) → Tells (cond t (Some x) before)
      by true = ap (λ (step : Step). is_some (deferred_begin h s x.moment step)) is
      by false = tells
  deferral_tells x before (Passed who begin) is tells = dropped (who == s) before tells
  deferral_tells x before (Repeated who start) is tells = tells
  deferral_tells x before (Paused who) is tells = tells
  deferral_tells x before (Resumed who) is tells = tells
  deferral_tells x before (Logged place) is tells = tells

  all_tell : (ds : List Entry) (before : Option Entry) → Tells before → Tells (fold (λ before (x : Entry). deferral_after s x before x.step) before ds)
  all_tell [] before tells = tells
  all_tell (x ∷ xs) before tells = all_tell xs _ (deferral_tells x before x.step refl tells)

  pub deferred_is : is_some (played h s).shown_deferred ≡ is_deferred h s
  deferred_is = by (is_alive h s) (fold (λ before (x : Entry). deferral_after s x before x.step) None (since_birth h s)) (all_tell (since_birth h s) None tt)
    where
      by : (t : Bool) (o : Option Entry) → Tells o → is_some (option_and_then begin_by (cond t o None)) ≡ is_some (cond t o None)
      by true None tells = refl
      by true (Some x) tells = tells
      by false o tells = refl
