use Rattle.std.proofs.Common.{◌≡◌, ◌∙◌, ap, sym}
use Rattle.std.specs.Prelude.{not, ◌&&◌, ◌||◌, pos, None, is_some}
use Rattle.smil_model.specs.document.Document.{time_parent}
use Rattle.smil_model.specs.document.Defaults.{effective_fill}
use Rattle.smil_model.specs.diary.Diary.{lives_under}
use Rattle.smil_model.specs.shown.Views.{is_displaced, is_frozen_by, keeps, view_facts}
use Rattle.smil_past.specs.declared.plays.facts.PlayFacts.{PlayFacts}
use Rattle.smil_instances.proofs.SensitiveItems.{serial_is}
use Rattle.smil_past.specs.Past.{history_of}
use Rattle.smil_past.proofs.KeptActivity.{deferred_is}
use Rattle.smil_element.specs.Shown.{is_cut}
use Rattle.smil_element.proofs.FrozenAncestors.{frozen_by_row}
use Rattle.smil_element.proofs.frozen.rests_frozen.Goals as goal
use Rattle.smil_element.proofs.frozen.rests_frozen.Goals.{then-is_some-2, else-is_some-2}

pub returns-then-is_some : goal.returns-then-is_some
returns-then-is_some c = λ e at.
    let past = c.args.past.now in
    let h = history_of past in
    let told = c.is_some.ensures ∙ ap (λ (r : PlayFacts). is_some r.shown_deferred) c.played_of-played.ensures ∙ deferred_is h c.args.who in
    ap (λ b. not b && is_frozen_by (view_facts h (pos 0) None (lives_under (time_parent past.document.nodes c.args.who) past.diary || c.args.above) c.args.above e)) (sym c.if-is_some.true ∙ told)

pub returns : goal.returns
returns c = λ e at.
    let past = c.args.past.now in
    let h = history_of past in
    let told = c.is_some.ensures ∙ ap (λ (r : PlayFacts). is_some r.shown_deferred) c.played_of-played.ensures ∙ deferred_is h c.args.who in
    let shows_is = c.shows.ensures (time_parent past.document.nodes c.args.who) (sym c.parent_of-parent.ensures.parent) in
    let last = c.played_of-played.result.now.last_finished in
    let kept_is : c.if-is_some-2.kept ≡ (is_some last && keeps (effective_fill past.document.nodes e) (is_displaced h c.args.who)) =
    elim c.if-is_some-2.branch [
      | then-is_some-2 w ↦
          w.kept-is ∙ w.is_kept-kept.ensures e at
          ∙ ap (λ b. b && keeps (effective_fill past.document.nodes e) (is_displaced h c.args.who)) (sym w.if-is_some-2.true ∙ c.is_some-2.ensures)
      | else-is_some-2 w ↦
          w.kept-is ∙ w.if-is_some-2.false
          ∙ ap (λ b. b && keeps (effective_fill past.document.nodes e) (is_displaced h c.args.who)) (sym w.if-is_some-2.false ∙ c.is_some-2.ensures)
    ] in
    c.freezes.ensures ∙ ap (λ b. is_some last && ((c.if-is_some-2.kept && b) || (is_cut last && c.args.above))) shows_is
    ∙ frozen_by_row h c.args.who e last c.if-is_some-2.kept (lives_under (time_parent past.document.nodes c.args.who) past.diary || c.args.above) c.args.above
    (serial_is past.document.nodes c.args.who e at) (ap (λ (r : PlayFacts). r.last_finished) c.played_of-played.ensures) kept_is
    ∙ ap (λ b. not b && is_frozen_by (view_facts h (pos 0) None (lives_under (time_parent past.document.nodes c.args.who) past.diary || c.args.above) c.args.above e)) (sym c.if-is_some.false ∙ told)
