-- What a session has as it is kept: a house with its presentations, and its preferences.
use Rattle.std.specs.Prelude.{◌≡◌, List, [], ◌∷◌, map, None}
use Rattle.smil_model.specs.shown.Orders.{Presentation}
use Rattle.smil_house.specs.declared.house.NamedPlayer.{NamedPlayer}
use Rattle.smil_house.specs.House.{place_of}
use Rattle.smil_top.specs.declared.session.Session.{Session as SessionSoFar}
use Rattle.smil_top.specs.Session.{NamedPresentation, Session}

-- what a house holds
abbrev pub Presentations : Type 0
Presentations = List (NamedPlayer Presentation)

-- a presentation as a session has it
abbrev pub shown : NamedPlayer Presentation → NamedPresentation
shown held = record { name = held.name; presentation = held.player }

-- no two have the same name
abbrev pub AreApart : Presentations → Type 0
AreApart [] = Unit {0}
AreApart (held ∷ others) = (place_of held.name others ≡ None) × AreApart others

-- they are those of the session
pub record Holds (house : Presentations) (session : Session) : Type 0 where
  pub session_is : session.held ≡ map shown house
  pub apart : AreApart house

-- and what is preferred is what the session prefers
pub record Keeps (so_far : SessionSoFar) (session : Session) : Type 0 where
  pub held : Holds so_far.house session
  pub wanted : session.wanted ≡ so_far.preferences
