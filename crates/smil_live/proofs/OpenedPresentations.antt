-- What is opened, and what is told of it.
use Rattle.std.proofs.Common.{◌≡◌, refl, ℕ, List, [], ◌++◌, Some, Ok, Err, sym, ap, ◌∙◌, subst}
use Rattle.std.specs.Prelude.{◌⊎◌}
use Rattle.smil_model.specs.declared.order.Refusal.{Refusal}
use Rattle.smil_model.specs.declared.order.Refusal.TheVariants as refusal
use Rattle.smil_model.specs.declared.view.View.{View}
use Rattle.smil_model.specs.document.Document.{Document}
use Rattle.smil_model.specs.document.Valid.{IsValid}
use Rattle.smil_model.specs.happening.Resolution.{diary_of}
use Rattle.smil_report.specs.Tellings.{Telling, load_told}
use Rattle.smil_model.specs.shown.Orders.{IsState, Presentation, course_of, opened, views_of}
use Rattle.smil_cells.specs.CellsState.{IsSettled, CellsState}
use Rattle.smil_shown.specs.ShownViews.{views_at}
use Rattle.smil_live.specs.Moves.{IsReplayed, IsTooFull}
use Rattle.smil_shown.specs.Told.{told_between}
use Rattle.smil_live.proofs.ResolvedHistory.{has_room, no_room}
use Rattle.smil_live.proofs.SettledCells.{views_settled}

-- what is told of what is shown first
pub told_load : {I : Type 0} (tell : Telling I) (s : CellsState) (d : Document) (before after : List View) (m : ℕ) (old new : List I) → IsSettled s → d ≡ s.presentation.document → before ≡ [] → after ≡ views_at s → m ≡ s.presentation.now → new ≡ old ++ told_between tell d.nodes m before after → new ≡ old ++ load_told tell s.presentation
told_load tell s d before after m old new settled same none seen moment told =
    told
    ∙ ap (λ (e : Document). old ++ told_between tell e.nodes m before after) same
    ∙ ap (λ (vs : List View). old ++ told_between tell s.presentation.document.nodes m vs after) none
    ∙ ap (λ (vs : List View). old ++ told_between tell s.presentation.document.nodes m [] vs) (seen ∙ views_settled s settled)
    ∙ ap (λ (t : ℕ). old ++ told_between tell s.presentation.document.nodes t [] (views_of s.presentation)) moment

-- a document at moment 0, with an empty log
abbrev pub first_of : Document → Presentation
first_of d = record { document = d; log = []; now = 0 }

pub first_state : (d : Document) → IsValid d → IsState (first_of d)
first_state d valid = record { document = valid; log = refl; logged = refl; now = refl }

pub opens : (d : Document) (q : Presentation) (s : CellsState) → q ≡ s.presentation → IsReplayed (first_of d) s → opened d ≡ Ok q
opens d q s same is = has_room (first_of d) q s.diary (same ∙ is.presentation_is) (subst (λ (r : Presentation). diary_of (course_of r) ≡ Some s.diary) (sym same) is.settled)

pub not_opened : (d : Document) (e : Refusal) → IsTooFull (first_of d) e → (e ≡ refusal.Memory) ⊎ (opened d ≡ Err e)
not_opened d e full = no_room (first_of d) e full
