-- The part of a diary that stays by an edit.
use Rattle.std.proofs.Common.{◌≡◌, refl, sym, ◌∙◌, ap, subst, ℕ, suc, ◌+◌, ◌≤◌, List, Option, Some, None, Bool, true, false, arith, length, take}
use Rattle.smil_model.specs.declared.diary.Entry.{Entry}
use Rattle.smil_model.specs.declared.document.Node.{Node}
use Rattle.smil_model.specs.declared.limits.TheConstants.{DIARY_ENTRIES}
use Rattle.smil_model.specs.diary.Logs.{is_log}
use Rattle.smil_model.specs.document.Document.{Document, serial_of, time_parent}
use Rattle.smil_model.specs.document.Valid.{IsNumberedTree}
use Rattle.smil_model.specs.happening.Resolution.{Progress, diary_of}
use Rattle.smil_model.specs.reach.Bounds.{through_begin}
use Rattle.smil_model.specs.shown.Orders.{Presentation, course_of}
use Rattle.smil_laws.specs.Agreement.{course_on}
use Rattle.smil_laws.specs.Edited.{IsQuietEdit, KeepsReferences, edited, edited_node}
use Rattle.smil_laws.proofs.QuietEdits.{edit_agrees}
use Rattle.smil_live.specs.Counts.{agreed_under, diary_at}
use Rattle.smil_revision.specs.References.{keeps_references}
use Rattle.smil_live.specs.Sites.{IsMade, site_nodes, site_serial, staying}
use Rattle.smil_live.specs.declared.edits.Site.{Site}
use Rattle.smil_live.proofs.AgreedReferences.{references_kept}
use Rattle.smil_shown.proofs.SettledDiaries.{comes_within, diary_is}
use Rattle.smil_live.proofs.RebuiltParts.{IsPart, no_part, part_of, through_first, through_within}

module _ (p : Presentation) (d : Document) (at : Site) (diary : List Entry) (old : IsNumberedTree p.document) (new : IsNumberedTree d) (log : is_log p.log ≡ true)
    (made : IsMade p.document at d) (settled : diary_of (course_of p) ≡ Some diary) where
  whole : diary_at p ≡ diary
  whole = diary_is (course_of p) diary settled

  quiet : (parent : Node) → keeps_references (site_serial p.document at) p.document.nodes d.nodes ≡ true → time_parent (site_nodes p.document d at) (site_serial p.document at) ≡ Some parent → IsQuietEdit p.document made.edit parent
  quiet parent keeps under = record {
    old = old;
    new = subst (λ (e : Document). IsNumberedTree e) (sym made.document_is) new;
    under = ap (λ (ns : List Node). time_parent ns (edited_node p.document made.edit)) made.nodes_are ∙ (ap (time_parent (site_nodes p.document d at)) made.serial_is ∙ under);
    references =
        subst (λ (e : Document). KeepsReferences (edited_node p.document made.edit) p.document.nodes e.nodes) (sym made.document_is)
        (subst (λ (s : ℕ). KeepsReferences s p.document.nodes d.nodes) (sym made.serial_is) (references_kept (site_serial p.document at) p.document.nodes d.nodes keeps));
  }

  through_part : (parent : Node) → IsQuietEdit p.document made.edit parent → IsPart d.nodes p.log (take (length (through_begin parent.serial (diary_at p))) diary) p.now
  through_part parent edit =
      let c = course_on (edited p.document made.edit).nodes p.log p.now in
      let agrees = edit_agrees p.document made.edit parent p.log p.now (suc (DIARY_ENTRIES + p.now)) edit in
      let part = take (length (through_begin parent.serial (diary_at p))) diary in
      let same : agrees.0.diary ≡ part = agrees.2 ∙ (ap (through_begin parent.serial) whole ∙ (sym (through_first parent.serial diary) ∙ ap (λ (l : List Entry). take (length (through_begin parent.serial l)) diary) (sym whole))) in
      let before : agrees.0.moment ≤ p.now = subst (λ (q : Progress). q.moment ≤ p.now) agrees.1.1 (comes_within c agrees.1.0) in
      subst (λ (e : Document). IsPart e.nodes p.log part p.now) made.document_is
      (part_of (edited p.document made.edit) p.log p.now p.now agrees.0 part edit.new log agrees.1 before same)

  pub staying_part : IsPart d.nodes p.log (take (staying p d at) diary) p.now
  staying_part = by_cases (keeps_references (site_serial p.document at) p.document.nodes d.nodes) (time_parent (site_nodes p.document d at) (site_serial p.document at)) refl refl
    where
      by_cases : (b : Bool) (o : Option Node) → keeps_references (site_serial p.document at) p.document.nodes d.nodes ≡ b → time_parent (site_nodes p.document d at) (site_serial p.document at) ≡ o → IsPart d.nodes p.log (take (agreed_under b o (diary_at p)) diary) p.now
      by_cases true (Some parent) keeps under = through_part parent (quiet parent keeps under)
      by_cases true None keeps under = no_part d p.log p.now new log
      by_cases false (Some parent) keeps under = no_part d p.log p.now new log
      by_cases false None keeps under = no_part d p.log p.now new log

  pub staying_within : staying p d at ≤ length diary
  staying_within = by_cases (keeps_references (site_serial p.document at) p.document.nodes d.nodes) (time_parent (site_nodes p.document d at) (site_serial p.document at))
    where
      by_cases : (b : Bool) (o : Option Node) → agreed_under b o (diary_at p) ≤ length diary
      by_cases true (Some parent) = subst (λ (l : List Entry). length (through_begin parent.serial (diary_at p)) ≤ length l) whole (through_within parent.serial (diary_at p))
      by_cases true None = omega arith
      by_cases false (Some parent) = omega arith
      by_cases false None = omega arith

-- ---- how many entries stay, case by case

pub none_stay : (b : Bool) (o : Option Node) (d : List Entry) → serial_of o ≡ None → 0 ≡ agreed_under b o d
none_stay true None d e = refl
none_stay false None d e = refl
none_stay b (Some n) d e = cc

pub all_go : (b : Bool) (o : Option Node) (d : List Entry) → b ≡ false → 0 ≡ agreed_under b o d
all_go true o d e = cc
all_go false None d e = refl
all_go false (Some n) d e = refl

pub those_stay : (b : Bool) (o : Option Node) (d : List Entry) (parent len : ℕ) → b ≡ true → serial_of o ≡ Some parent → len ≡ length (through_begin parent d) → len ≡ agreed_under b o d
those_stay true (Some n) d parent len e f g = let one : n.serial ≡ parent = cc in g ∙ ap (λ (s : ℕ). length (through_begin s d)) (sym one)
those_stay true None d parent len e f g = cc
those_stay false o d parent len e f g = cc
