use Rattle.std.specs.Prelude.{flat_map}
use Rattle.smil_model.specs.declared.document.Edge.TheVariants.{Begin}
use Rattle.smil_model.specs.Times.{numbers}
use Rattle.smil_model.specs.document.Defaults.{begin_list}
use Rattle.smil_model.specs.interval.Instances.{item_times}
use Rattle.smil_model.proofs.RisingLists.{rising_rises}
use Rattle.smil_interval.proofs.laws.begin_times_rise.Goals as goal

pub returns : goal.returns
returns c = λ h intervals now e. rising_rises (numbers (flat_map (item_times h intervals now e Begin) (begin_list h.nodes e)))
