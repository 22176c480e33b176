use Rattle.smil_script.proofs.SerialNumbers.{serial_of_count}
use Rattle.smil_script.proofs.entries.serial.Goals as goal

pub returns-clause-serial : goal.returns-clause-serial
returns-clause-serial c = serial_of_count c.count.result c.in_ok-digits.digits.now c.count.ensures
