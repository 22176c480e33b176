use Rattle.smil_model.proofs.PlaceSets.{bit_cleared, lowest_is_in, lowest_is_least}
use Rattle.smil_model.proofs.place_set.take_lowest.Goals as goal

pub returns-clause-member : goal.returns-clause-member
returns-clause-member c = lowest_is_in c.args.words.now c.args.word c.lowest_bit-bit.result c.lowest_bit-bit.ensures.within c.lowest_bit-bit.ensures.set

pub returns-clause-least : goal.returns-clause-least
returns-clause-least c = lowest_is_least c.args.words.now c.args.word c.lowest_bit-bit.result c.lowest_bit-bit.ensures.clear

pub returns-clause-rest : goal.returns-clause-rest
returns-clause-rest c = bit_cleared c.args.words.now c.args.word c.lowest_bit-bit.result c.requires.within c.lowest_bit-bit.ensures.within
