use Rattle.smil_element.proofs.ViewByFacts.{view_given}
use Rattle.smil_element.proofs.view.view_of.Goals as goal

pub returns-then-is_some : goal.returns-then-is_some
returns-then-is_some c = view_given c.subject_at.result c.args.present.now c.args.interval c.playing_view.result c.subject_at.ensures.same c.playing_view.ensures

pub returns-then-is_unplayed : goal.returns-then-is_unplayed
returns-then-is_unplayed c = view_given c.subject_at-then-is_unplayed.result c.args.present.now c.args.interval c.resting_view.result c.subject_at-then-is_unplayed.ensures.same c.resting_view.ensures
