use Rattle.std.proofs.Common.{◌∙◌, ap, subst, sym, ℤ}
use Rattle.std.specs.Prelude.{nat_abs, pos}
use Rattle.std.proofs.lemmas.Int.{to_z-of_z}
use Rattle.std.proofs.Common.{w64}
use Rattle.smil_model.specs.happening.Groups.{group}
use Rattle.smil_past.specs.Past.{IsPresent, history_of}
use Rattle.smil_element.specs.Parts.{coming_meant, meant}
use Rattle.smil_element.proofs.PresentMoment.{present_fits}
use Rattle.smil_rounds.proofs.GroupMayFollow.{of_element}
use Rattle.smil_audit.proofs.ReplayCourses.{group_may, regrouped, with_group}
use Rattle.smil_audit.proofs.replay.Replay.happen.Goals as goal

pub fill_group-requires-clause-element : goal.fill_group-requires-clause-element
fill_group-requires-clause-element c =
    let r = c.args.self.now in
    of_element c.first_is_of_element.ensures (history_of r.past) (pos (nat_abs r.moment)) (coming_meant c.args.coming) c.possible.ensures.valid.numbered.distinct c.requires.first

pub fill_group-requires-clause-moment : goal.fill_group-requires-clause-moment
fill_group-requires-clause-moment c =
    let r = c.args.self.now in
    subst (λ (v : ℤ). IsPresent r.past v) (sym (to_z-of_z w64 r.moment (present_fits r.past r.moment c.requires.sound.present))) c.requires.sound.present

pub go_through-requires-clause-step : goal.go_through-requires-clause-step
go_through-requires-clause-step c =
    let r = c.args.self.now in
    let entries = c.fill_group.new.entries in
    let is = regrouped r c.requires.sound entries in
    group_may (with_group r entries) is c.resolved_is_near.ensures c.reached_is_past.ensures c.possible.ensures.valid.numbered (coming_meant c.args.coming) c.requires.first c.requires.due
    (c.in_ok-fill_group.ensures ∙ ap (λ (v : ℤ). group (history_of r.past) v c.args.coming.key.serial (meant c.args.coming.change)) (to_z-of_z w64 r.moment (present_fits r.past r.moment c.requires.sound.present)))
