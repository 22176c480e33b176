use Rattle.smil_fill.proofs.views.present_end.Goals as goal

-- the end of the current interval is among the numbers
pub present-requires-clause-time : goal.present-requires-clause-time
present-requires-clause-time c = (c.requires.interval c.in-Some.interval c.in-Some.is).1
