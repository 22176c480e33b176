use Rattle.std.specs.Prelude.{flat_map}
use Rattle.smil_model.specs.declared.document.Edge.TheVariants.{End}
use Rattle.smil_model.specs.document.Defaults.{end_list}
use Rattle.smil_model.specs.interval.Instances.{item_times}
use Rattle.smil_model.proofs.RisingLists.{rising_times_rise}
use Rattle.smil_interval.proofs.laws.end_times_rise.Goals as goal

pub returns : goal.returns
returns c = λ h intervals now e. rising_times_rise (flat_map (item_times h intervals now e End) (end_list e))
