use Rattle.smil_time_list.proofs.ListRoundTrip.{list_is, list_read, read_can_write}
use Rattle.smil_time_list.proofs.again.list_again.Goals as goal

pub returns : goal.returns
returns c = record { is_list = list_is; can_write = read_can_write; again = list_read }
