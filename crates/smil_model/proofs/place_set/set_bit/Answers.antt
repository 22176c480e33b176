use Rattle.smil_model.proofs.PlaceSets.{bit_set}
use Rattle.smil_model.proofs.place_set.set_bit.Goals as goal

pub returns : goal.returns
returns c = bit_set c.args.words.now c.args.place c.requires
