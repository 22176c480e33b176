-- What is on the screen, as C has it.
use Rattle.std.specs.Prelude.{◌≡◌, ◌⊎◌, ℕ, ℤ, pos, negsuc, neg_ℤ, int_le, List, Option, None, Some, option_and_then, option_map, unwrap_or, if◌then◌else◌}
use Rattle.smil_model.specs.declared.order.Who.TheVariants.{Id}
use Rattle.smil_house.specs.declared.screen.OnScreen.{OnScreen}
use Rattle.smil_house.specs.declared.screen.Showing.{Showing}
use Rattle.smil_house.specs.declared.screen.Showing.TheVariants as showing
use Rattle.smil_house.specs.Screen.{serial_in}
use Rattle.smil_top.specs.declared.held.Held.{Held}
use Rattle.smil_top.specs.Recorded.{HasPresentations, element_at}
use Rattle.smil_top.specs.Session.{Session, presentation_of}
use Rattle.tenphsar.specs.declared.screen.ScreenRecord.{ScreenRecord}

-- the serial of a node by its id; 0 where there is none, -1 where memory ran out
abbrev pub FindsBy : ℤ → Option ℕ → Type 0
FindsBy code found = (code ≡ unwrap_or (option_map pos found) (pos 0)) ⊎ (code ≡ negsuc 0)

abbrev pub Finds : ℤ → List ℕ → List ℕ → Held → Type 0
Finds code name id held =
    (session : Session) → HasPresentations held session
    → FindsBy code (option_and_then (serial_in (Id id)) (presentation_of name session))

abbrev pub showing_number : Showing → ℕ
showing_number showing.Off = 0
showing_number showing.Playing = 1
showing_number showing.Standing = 2
showing_number showing.Frozen = 3

-- the nearest number of 64 bits: all that come about are near 0
abbrev pub greatest : ℤ
greatest = pos 9223372036854775807

abbrev pub least : ℤ
least = neg_ℤ (pos 9223372036854775808)

abbrev pub nearest : ℤ → ℤ
nearest n = if int_le n greatest then (if int_le least n then n else least) else greatest

-- a record says what is on the screen
abbrev pub screen_record : OnScreen → ScreenRecord
screen_record one = record {
  position = nearest one.position;
  element = one.serial;
  iteration = one.iteration;
  showing = showing_number one.showing;
  reserved = 0;
}

-- an element's record is written, or there is none
abbrev pub Writes : ℤ → Option OnScreen → ScreenRecord → ScreenRecord → Type 0
Writes code (Some one) old new = (code ≡ pos 1) × (new ≡ screen_record one)
Writes code None old new = (code ≡ pos 0) × (new ≡ old)

abbrev pub TellsScreen : ℤ → List ℕ → ℕ → Held → ScreenRecord → ScreenRecord → Type 0
TellsScreen code name index held old new =
    (session : Session) → HasPresentations held session
    → Writes code (option_and_then (element_at index) (presentation_of name session)) old new
