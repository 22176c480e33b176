use Rattle.std.proofs.Common.{◌∙◌, ap, subst, ℤ, w64}
use Rattle.std.specs.Prelude.{nat_abs, pos}
use Rattle.std.proofs.lemmas.Int.{to_z-of_z}
use Rattle.smil_past.specs.Past.{history_of}
use Rattle.smil_element.proofs.PresentMoment.{present_fits}
use Rattle.smil_rounds.specs.Current.{IsCurrent}
use Rattle.smil_rounds.specs.Round.{due_in, keys_in}
use Rattle.smil_rounds.proofs.CurrentRowsExact.{current_elements}
use Rattle.smil_audit.proofs.LeastKeys.{first_chosen, first_none}
use Rattle.smil_audit.proofs.ReplayCourses.{whole}
use Rattle.smil_audit.proofs.replay.Replay.first.Goals as goal

pub returns-in-Some-clause-sound : goal.returns-in-Some-clause-sound
returns-in-Some-clause-sound g c =
    let is = c.requires in
    record { present = is.present; from = is.from; within = is.within; horizon = is.horizon; reached = is.reached; of_elements = current_elements (history_of c.args.self.now.past) _ c.evaluate_all.new.known (due_in c.evaluate_all.new.known) c.in_ok-evaluate_all.ensures.current }

pub returns-in-Some-clause-first : goal.returns-in-Some-clause-first
returns-in-Some-clause-first g c =
    let r = c.args.self.now in
    let known = c.evaluate_all.new.known in
    let at = to_z-of_z w64 r.moment (present_fits r.past r.moment c.requires.present) ∙ whole r c.requires in
    first_chosen (history_of r.past) (pos (nat_abs r.moment)) known c.deref.result.now
    (subst (λ (v : ℤ). IsCurrent known (due_in known) (history_of r.past) v) at c.in_ok-evaluate_all.ensures.current)
    (c.deref.ensures.value ∙ c.in_ok-fill_keys.ensures ∙ ap keys_in c.rows.ensures)
    c.in-Some.key c.coming.result c.in-Some.ensures c.coming.ensures

pub returns-in-None-clause-sound : goal.returns-in-None-clause-sound
returns-in-None-clause-sound g c =
    let is = c.requires in
    record { present = is.present; from = is.from; within = is.within; horizon = is.horizon; reached = is.reached; of_elements = current_elements (history_of c.args.self.now.past) _ c.evaluate_all.new.known (due_in c.evaluate_all.new.known) c.in_ok-evaluate_all.ensures.current }

pub returns-in-None-clause-first : goal.returns-in-None-clause-first
returns-in-None-clause-first g c =
    let r = c.args.self.now in
    let known = c.evaluate_all.new.known in
    let at = to_z-of_z w64 r.moment (present_fits r.past r.moment c.requires.present) ∙ whole r c.requires in
    first_none (history_of r.past) (pos (nat_abs r.moment)) known c.deref.result.now
    (subst (λ (v : ℤ). IsCurrent known (due_in known) (history_of r.past) v) at c.in_ok-evaluate_all.ensures.current)
    (c.deref.ensures.value ∙ c.in_ok-fill_keys.ensures ∙ ap keys_in c.rows.ensures)
    c.in-None.ensures
