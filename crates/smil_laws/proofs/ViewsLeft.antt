-- Entries leave the view of each element in which none of them shows and whose current interval stays.
use Rattle.std.proofs.Common.{◌≡◌, refl, sym, ◌∙◌, ap, ℕ, suc, ◌+◌, ◌<◌, List, [], ◌∷◌, ◌++◌, Option, Some, None, ℤ, Bool, true, false, arith, append_assoc, subst}
use Rattle.std.specs.Prelude.{◌==◌, ◌||◌, ◌&&◌, reverse, drop, filter, is_some}
use Rattle.std.specs.List.{AllByRecursion}
use Rattle.std.proofs.lemmas.Bool.{or_parts, or_from, ne_eqb}
use Rattle.std.proofs.lemmas.List.{append-nil}
use Rattle.smil_model.specs.declared.interval.Interval.{Interval}
use Rattle.smil_model.specs.declared.diary.Entry.{Entry}
use Rattle.smil_model.specs.declared.diary.LogEntry.{LogEntry}
use Rattle.smil_model.specs.declared.diary.Step.{Step}
use Rattle.smil_model.specs.declared.diary.Step.TheVariants.{Began, Resumed}
use Rattle.smil_model.specs.declared.document.Node.{Node}
use Rattle.smil_model.specs.declared.view.View.{View}
use Rattle.smil_model.specs.document.Document.{is_element, elements, node_at, lineage, is_within, time_parent, is_in_seq, is_in_excl}
use Rattle.smil_model.specs.diary.Diary.{History, up_to}
use Rattle.smil_model.specs.interval.Current.{current_interval}
use Rattle.smil_model.specs.reach.Reach.{shares_parent, subject_of}
use Rattle.smil_model.specs.shown.Views.{view_facts, shows_under, is_frozen_in, view_by, time_ancestors}
use Rattle.smil_laws.specs.Locality.{ParentsBefore}
use Rattle.smil_laws.proofs.LineageParents.{upwards-head}
use Rattle.smil_laws.proofs.AsideDocuments.{each_drop}
use Rattle.smil_laws.proofs.DescendantChains.{no_chain}
use Rattle.smil_laws.proofs.ForeignEntries.{is_about}
use Rattle.smil_laws.proofs.ListMembers.{holds, held_reverse, found_held}
use Rattle.smil_laws.proofs.UnreachedIntervals.{about_none, about_no_one, absent_up, absent_reverse}
use Rattle.smil_laws.specs.Seen.{starts, shows_from, any_shows, LeavesViews}
use Rattle.smil_laws.proofs.ViewsAbove.{Unseen, all_unseen}
use Rattle.smil_laws.proofs.ViewsStay.{view-then}
use Rattle.smil_laws.proofs.Lists.{each_kept}

-- ---- an entry on no element

total : List Node → ℕ
total [] = 0
total (n ∷ ns) = n.serial + total ns

-- a serial above all
absent_above : (x : ℕ) (ns : List Node) → total ns < x → holds x ns ≡ false
unfolding total
absent_above x [] l = refl
absent_above x (n ∷ ns) l = or_from _ _ (ne_eqb n.serial x (λ e. absurd (omega (arith, e, l)))) (absent_above x ns (omega (arith, l)))

starts_nobody : (log : List LogEntry) (step : Step) (a b : Bool) → subject_of log step ≡ None → (starts step && a && b) ≡ false
starts_nobody log (Began who begin) a b q = cc
starts_nobody log (Resumed who) a b q = cc
starts_nobody log _ a b q = refl

-- ---- one entry

abbrev view_given : History → ℤ → Option Interval → Node → View
view_given h now i e =
    view_by (view_facts h now i (shows_under h (is_frozen_in h (time_ancestors h.nodes e.serial)) (time_ancestors h.nodes e.serial)) (is_frozen_in h (time_ancestors h.nodes e.serial)) e)

module _ (h : History) (first : ParentsBefore (reverse h.nodes)) (y : Entry) (now : ℤ) (i : Option Interval) (e : Node) (here : node_at (elements h.nodes) e.serial ≡ Some e) where
  view-apart : (x : ℕ) → ((s : ℕ) → s == x ≡ false → is_about h.log s y.step ≡ false) → is_within h.nodes x e.serial ≡ false → (starts y.step && (is_in_seq h.nodes x || is_in_excl h.nodes x) && shares_parent h.nodes (time_parent h.nodes x) e.serial) ≡ false → view_given (up_to h (h.diary ++ y ∷ [])) now i e ≡ view_given h now i e
  view-apart x only within beside = by_chain (lineage h.nodes e.serial) refl
    where
      by_each : (m : Node) (rest : List Node) → lineage h.nodes e.serial ≡ m ∷ rest → AllByRecursion (λ (p : Node). Unseen h.nodes first y.step x p.serial) (m ∷ rest) → view_given (up_to h (h.diary ++ y ∷ [])) now i e ≡ view_given h now i e
      by_each m rest q each =
          let above : AllByRecursion (λ (p : Node). Unseen h.nodes first y.step x p.serial) (drop 1 (filter is_element (m ∷ rest))) =
          each_drop (λ (p : Node). Unseen h.nodes first y.step x p.serial) 1 (filter is_element (m ∷ rest)) (each_kept (λ (p : Node). Unseen h.nodes first y.step x p.serial) is_element (m ∷ rest) each) in
          view-then h first y x only now i e (time_ancestors h.nodes e.serial)
          (subst (Unseen h.nodes first y.step x) (upwards-head (reverse h.nodes) e.serial m rest q) each.0)
          (subst (λ c. AllByRecursion (λ (p : Node). Unseen h.nodes first y.step x p.serial) (drop 1 (filter is_element c))) (sym q) above)

      by_chain : (chain : List Node) → lineage h.nodes e.serial ≡ chain → view_given (up_to h (h.diary ++ y ∷ [])) now i e ≡ view_given h now i e
      by_chain [] q =
          let never : false ≡ true = sym (no_chain (reverse h.nodes) e.serial q) ∙ held_reverse e.serial h.nodes ∙ found_held is_element e.serial h.nodes (ap is_some here) in
          cc
      by_chain (m ∷ rest) q = by_each m rest q (all_unseen h.nodes first y.step x e.serial (m ∷ rest) q within beside)

  view-one : (o : Option ℕ) → subject_of h.log y.step ≡ o → shows_from h.nodes y.step o e.serial ≡ false → view_given (up_to h (h.diary ++ y ∷ [])) now i e ≡ view_given h now i e
  unfolding total
  view-one (Some x) on free =
      let parts = or_parts _ _ free in
      view-apart x (λ s other. about_none h.log y.step x s on other) parts.0 parts.1
  view-one None on free =
      view-apart (suc (total h.nodes)) (λ s other. about_no_one h.log y.step s on)
      (absent_up (λ (n : Node). n.serial == suc (total h.nodes)) (reverse h.nodes) e.serial
      (absent_reverse (λ (n : Node). n.serial == suc (total h.nodes)) h.nodes (absent_above (suc (total h.nodes)) h.nodes (omega arith))))
      (starts_nobody h.log y.step (is_in_seq h.nodes (suc (total h.nodes)) || is_in_excl h.nodes (suc (total h.nodes))) (shares_parent h.nodes (time_parent h.nodes (suc (total h.nodes))) e.serial) on)

-- ---- all entries

view-all : (entries : List Entry) (h : History) → ParentsBefore (reverse h.nodes) → (now : ℤ) (i : Option Interval) (e : Node) → node_at (elements h.nodes) e.serial ≡ Some e → any_shows h.nodes h.log entries e.serial ≡ false → view_given (up_to h (h.diary ++ entries)) now i e ≡ view_given h now i e
view-all [] h first now i e here free = ap (λ ds. view_given (up_to h ds) now i e) (append-nil h.diary)
view-all (y ∷ ys) h first now i e here free =
    let parts = or_parts (shows_from h.nodes y.step (subject_of h.log y.step) e.serial) (any_shows h.nodes h.log ys e.serial) free in
    ap (λ ds. view_given (up_to h ds) now i e) (sym (append_assoc h.diary (y ∷ []) ys))
    ∙ view-all ys (up_to h (h.diary ++ y ∷ [])) first now i e here parts.1
    ∙ view-one h first y now i e here (subject_of h.log y.step) refl parts.0

pub leaves_views : LeavesViews
leaves_views h entries now e first here free same =
    ap (λ i. view_given (up_to h (h.diary ++ entries)) now i e) same
    ∙ view-all entries h first now (current_interval h now e.serial) e here free
