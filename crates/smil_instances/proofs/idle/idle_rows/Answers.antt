use Rattle.std.proofs.Common.{◌∙◌, sym, ap, []}
use Rattle.std.specs.FinMap.{get}
use Rattle.smil_instance_rows.specs.Readings.{index_in}
use Rattle.smil_instances.specs.Intake.{history_of}
use Rattle.smil_instances.proofs.SharedPlaces.{rows_placed}
use Rattle.smil_instances.proofs.idle.idle_rows.Goals as goal

pub of-requires : goal.of-requires
of-requires c = λ who.
    rows_placed (history_of c.args.tree.now [] []) (get c.args.places.value) c.valid.ensures.numbered.distinct c.requires.places who
    ∙ sym (ap (λ rs. index_in rs who) (c.in_ok-rows.ensures []))

pub returns : goal.returns
returns c = λ log. c.of.ensures ∙ c.in_ok-rows.ensures log
