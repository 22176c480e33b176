use Rattle.smil_top.proofs.HeldSessions.{held_is_served, served_is_held}
use Rattle.smil_top.proofs.laws.held_sessions_are_served.Goals as goal

pub returns-clause-whole : goal.returns-clause-whole
returns-clause-whole c = λ held given told is closed are within. held_is_served held given told is closed are within

pub returns-clause-same : goal.returns-clause-same
returns-clause-same c = λ held given told is closed are suffices ended text whole enough. served_is_held held given told is closed are suffices ended text whole enough
