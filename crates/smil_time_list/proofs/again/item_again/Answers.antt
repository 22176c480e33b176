use Rattle.smil_time_list.proofs.PrintableItems.{item_printable, can_write}
use Rattle.smil_time_list.proofs.ItemRoundTrip.{item_read}
use Rattle.smil_time_list.proofs.again.item_again.Goals as goal

pub returns : goal.returns
returns c = record { can_write = λ item h. can_write item (item_printable item h); again = λ item h. item_read item (item_printable item h) }
