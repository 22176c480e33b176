-- An advance to a moment before the next one at which something comes changes nothing.
use Rattle.std.proofs.Common.{◌≡◌, ◌∙◌, ℕ, suc, ◌+◌, List, Option, ℤ, ap, sym, subst, arith}
use Rattle.std.specs.Prelude.{pos, ◌<ℤ◌, ◌≤ℤ◌, IfSome, option_map}
use Rattle.std.proofs.lemmas.Int.{ints}
use Rattle.smil_model.specs.declared.diary.Entry.{Entry}
use Rattle.smil_model.specs.declared.view.View.{View}
use Rattle.smil_model.specs.happening.Keys.{DueChange, coming, first_coming}
use Rattle.smil_model.specs.shown.Orders.{Presentation}
use Rattle.smil_house.specs.Next.{NothingChangesBefore, next_of}
use Rattle.smil_cells.specs.CellsState.{CellsState, history_of}
use Rattle.smil_shown.specs.ShownViews.{IsPlaying}
use Rattle.smil_live.proofs.QuietViews.{HasDiary, IsQuiet}
use Rattle.smil_live.proofs.ResolvedHistory.{history_with, resolved_is}
use Rattle.smil_live.proofs.AdvanceChanges.{none_on_the_way}

-- the moment of the first of what comes
abbrev moment_of : Option DueChange → Option ℤ
moment_of o = option_map (λ (c : DueChange). c.key.value) o

-- what comes next by a diary
abbrev next_by : Presentation → List Entry → Option ℤ
next_by p d = moment_of (first_coming (coming (history_with p d) (pos p.now)))

past_next : (m k : ℕ) (x : ℤ) → pos (m + k) <ℤ x → pos (m + suc k) ≤ℤ x
past_next m k x less = omega (arith, ints, less)

nothing_before : (p : Presentation) (d : List Entry) → HasDiary p d → NothingChangesBefore (next_by p d) p
nothing_before p d has by past = none_on_the_way p d has (suc by) by (omega arith) quiet
  where
    quiet : IsQuiet p d (pos (p.now + suc by))
    quiet c first = past_next p.now by c.key.value (subst (λ (o : Option DueChange). IfSome (moment_of o) (λ moment. pos (p.now + by) <ℤ moment)) first past)

-- what cells tell is what comes next in the presentation that they play, and nothing changes before it
module _ (s : CellsState) (shown : List View) (p : Presentation) {told : Option ℤ} (playing : IsPlaying s shown) (same : s.presentation ≡ p) (is : told ≡ moment_of (first_coming (coming (history_of s) (pos s.presentation.now)))) where
  pub next_told : told ≡ next_of p
  next_told =
      is
      ∙ ap (λ h. moment_of (first_coming (coming h (pos s.presentation.now)))) (sym (resolved_is s.presentation s.diary playing.shown_is.settled))
      ∙ ap next_of same

  pub quiet_told : NothingChangesBefore told p
  quiet_told =
      let state = playing.shown_is.state in
      let has : HasDiary s.presentation s.diary = record { numbered = state.document.numbered; logged = state.logged; settled = playing.shown_is.settled } in
      subst (NothingChangesBefore told) same (subst (λ (o : Option ℤ). NothingChangesBefore o s.presentation) (sym is) (nothing_before s.presentation s.diary has))
