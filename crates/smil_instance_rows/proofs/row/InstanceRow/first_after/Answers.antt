use Rattle.std.proofs.Common.{◌∙◌, sym, ap, refl, w64, Some}
use Rattle.std.specs.Prelude.{find, int_le, not}
use Rattle.std.specs.Option.{option_map_or, unwrap_or}
use Rattle.std.proofs.lemmas.Int.{to_z-of_z}
use Rattle.smil_model.specs.declared.document.Edge.TheVariants.{Begin, End}
use Rattle.smil_model.specs.declared.times.Time.TheVariants.{At, Unresolved}
use Rattle.smil_model.specs.Times.{time_le}
use Rattle.smil_model.specs.interval.Instances.{number_of}
use Rattle.smil_instance_rows.specs.Rows.{ElementTimes}
use Rattle.smil_instance_rows.specs.Values.{merged}
use Rattle.smil_instance_rows.specs.Readings.{first_after, row_times}
use Rattle.smil_instance_rows.proofs.SideValues.{begin_found, end_found}
use Rattle.smil_instance_rows.proofs.row.InstanceRow.first_after.Goals as goal

pub returns-in-Begin : goal.returns-in-Begin
returns-in-Begin c =
    let v = c.args.value in
    c.at_or_unresolved.ensures
    ∙ ap (λ o. option_map_or At o Unresolved) (c.first_after.ensures ∙ ap (λ v. find (λ x. not (int_le x v)) (merged int_le number_of c.self.inside.begins)) (to_z-of_z w64 v c.ranges.value))
    ∙ begin_found (λ x. not (int_le x v)) (λ t. not (time_le t (At v))) (λ x. refl) c.self.inside.begins
    ∙ ap (λ (r : ElementTimes). first_after v (row_times r Begin)) c.self.view_is
    ∙ ap (λ s. first_after v (row_times c.args.self.now s)) (sym c.in-Begin.is)

pub returns-in-End : goal.returns-in-End
returns-in-End c =
    let v = c.args.value in
    c.unwrap_or.ensures
    ∙ ap (λ o. unwrap_or o Unresolved) (c.first_after-in-End.ensures ∙ ap (λ v. find (λ t. not (time_le t (At v))) (merged time_le Some c.self.inside.ends)) (to_z-of_z w64 v c.ranges.value))
    ∙ end_found (λ t. not (time_le t (At v))) c.self.inside.ends
    ∙ ap (λ (r : ElementTimes). first_after v (row_times r End)) c.self.view_is
    ∙ ap (λ s. first_after v (row_times c.args.self.now s)) (sym c.in-End.is)
