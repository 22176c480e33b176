use Rattle.std.proofs.Common.{◌≡◌, ◌∙◌, ap, subst, ℤ, ℕ, w64, false}
use Rattle.std.proofs.lemmas.Int.{to_z-of_z}
use Rattle.std.specs.Prelude.{OnOk}
use Rattle.smil_model.specs.document.Closure.{has}
use Rattle.smil_model.specs.interval.Current.{current_interval}
use Rattle.smil_past.specs.Past.{front, history_of}
use Rattle.smil_element.proofs.PresentMoment.{present_fits}
use Rattle.smil_rounds.specs.Current.{IsCurrent, interval_in}
use Rattle.smil_cells.specs.Evaluated.{AreChanged}
use Rattle.smil_plain.proofs.ElementsTold.{told_current}
use Rattle.smil_rounds.specs.Round.{StayUnchanged}
use Rattle.smil_rounds.proofs.RowsBesideElements.{serials_in}
use Rattle.smil_rounds.proofs.CurrentRowsExact.{current_elements, others_stay, where_both}
use Rattle.smil_plain.proofs.plain.PlainTableTable.refresh.Goals as goal

pub take_all-requires-clause-of_elements : goal.take_all-requires-clause-of_elements
take_all-requires-clause-of_elements g c =
    ap serials_in c.in_ok-note.ensures.known
    ∙ current_elements (front c.args.since.now.past.now c.args.since.now.from) _ c.args.self.now.known c.args.self.now.due c.requires.before

pub returns-clause-changed : goal.returns-clause-changed
returns-clause-changed g c =
    let h = history_of c.args.since.now.past.now in
    let before = front c.args.since.now.past.now c.args.since.now.from in
    let after = c.take_all.new.self in
    let told = c.take_all.new.changed in
    where_both c.take_all.result
    (IsCurrent after.known after.due h c.args.since.now.moment)
    (StayUnchanged c.args.changed.now told c.note.new.self.known after.known)
    ((s : ℕ) → has told s ≡ false → current_interval h c.args.since.now.moment s ≡ current_interval before c.args.since.now.moment s)
    (subst (λ (m : ℤ). OnOk c.take_all.result (IsCurrent after.known after.due h m)) (to_z-of_z w64 c.args.since.now.moment (present_fits c.args.since.now.past.now c.args.since.now.moment c.requires.moment)) c.take_all.ensures.current)
    c.take_all.ensures.changed
    (λ current unchanged.
    others_stay before h c.args.since.now.moment c.args.self.now.known c.args.self.now.due c.note.new.self.known after.known after.due c.args.changed.now told c.requires.before c.in_ok-note.ensures.known current unchanged)

pub returns-clause-told : goal.returns-clause-told
returns-clause-told g c =
    let h = history_of c.args.since.now.past.now in
    let before = front c.args.since.now.past.now c.args.since.now.from in
    let after = c.take_all.new.self in
    let told = c.take_all.new.changed in
    where_both c.take_all.result
    (IsCurrent after.known after.due h c.args.since.now.moment)
    (AreChanged c.args.changed.now told (interval_in c.note.new.self.known) (interval_in after.known))
    (AreChanged c.args.changed.now told (current_interval before c.args.since.now.moment) (current_interval h c.args.since.now.moment))
    (subst (λ (m : ℤ). OnOk c.take_all.result (IsCurrent after.known after.due h m)) (to_z-of_z w64 c.args.since.now.moment (present_fits c.args.since.now.past.now c.args.since.now.moment c.requires.moment)) c.take_all.ensures.current)
    c.take_all.ensures.told
    (λ current tells.
    told_current before h c.args.since.now.moment c.args.self.now.known c.args.self.now.due c.note.new.self.known after.known after.due c.args.changed.now told c.requires.before c.in_ok-note.ensures.known current tells)
