-- The words that the program is called with.
use Rattle.std.specs.Prelude.{ℕ, Bool, true, false, List, codes}
use Rattle.smil_top.specs.declared.status.Status.{Status}
use Rattle.smil_top.specs.declared.status.Status.TheVariants as status

-- what faulty words are answered
abbrev pub usage_line : List ℕ
usage_line = codes "usage: smilplay run | smilplay check | smilplay gen N | smilplay audit\n"

-- the number with which the program ends
abbrev pub exit_number_of : Status → ℕ
exit_number_of status.Clean = 0
exit_number_of status.Refused = 1
exit_number_of status.Words = 2
exit_number_of status.ReadFault = 3
exit_number_of status.WriteFault = 4
exit_number_of status.Memory = 5
exit_number_of status.InputTooLong = 6

-- the whole input was answered, and no order was refused since memory ran out
abbrev pub is_told : Status → Bool
is_told status.Clean = true
is_told status.Refused = true
is_told _ = false
