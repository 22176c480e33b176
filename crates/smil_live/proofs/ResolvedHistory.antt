-- The history and the views of a presentation whose diary is known.
use Rattle.std.proofs.Common.{◌≡◌, sym, ap, subst, ◌∙◌, List, Some, Ok, Err, inl, inr, pos}
use Rattle.std.specs.Prelude.{◌⊎◌}
use Rattle.smil_model.specs.declared.diary.Entry.{Entry}
use Rattle.smil_model.specs.declared.order.Refusal.{Refusal}
use Rattle.smil_model.specs.declared.order.Refusal.TheVariants as refusal
use Rattle.smil_model.specs.document.Limits.{limits}
use Rattle.smil_model.specs.diary.Diary.{History}
use Rattle.smil_model.specs.happening.Resolution.{diary_of}
use Rattle.smil_model.specs.shown.Orders.{Presentation, course_of, kept_where, resolved_history, unless_too_full, views_of}
use Rattle.smil_model.specs.shown.Views.{views}
use Rattle.smil_live.specs.Moves.{IsTooFull}
use Rattle.smil_shown.proofs.SettledDiaries.{diary_is}

-- one with a diary has room, and one without has none
pub has_room : (p q : Presentation) (d : List Entry) → q ≡ p → diary_of (course_of q) ≡ Some d → unless_too_full limits p ≡ Ok q
has_room p q d is settled = ap (kept_where p) (subst (λ (r : Presentation). diary_of (course_of r) ≡ Some d) is settled) ∙ ap Ok (sym is)

pub no_room : (p : Presentation) (e : Refusal) → IsTooFull p e → (e ≡ refusal.Memory) ⊎ (unless_too_full limits p ≡ Err e)
no_room p e (inl memory) = inl memory
no_room p e (inr full) = inr (ap (kept_where p) full.1 ∙ ap Err (sym full.0))

-- a presentation with a diary
abbrev pub history_with : Presentation → List Entry → History
history_with p d = record { nodes = p.document.nodes; log = p.log; diary = d }

pub resolved_is : (p : Presentation) (d : List Entry) → diary_of (course_of p) ≡ Some d → resolved_history p ≡ history_with p d
resolved_is p d e = ap (history_with p) (diary_is (course_of p) d e)

pub views_are : (p : Presentation) (d : List Entry) → diary_of (course_of p) ≡ Some d → views_of p ≡ views (history_with p d) (pos p.now)
views_are p d e = ap (λ (h : History). views h (pos p.now)) (resolved_is p d e)
