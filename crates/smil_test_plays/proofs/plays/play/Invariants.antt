use Rattle.smil_test_plays.proofs.plays.play.Given as goal

-- the ledger is the blank's
abbrev pub ghosts-played : goal.ghosts-played
ghosts-played a = record { name = a.blank.name; parts = a.blank.parts }
