use Rattle.smilplay.proofs.main.Given as goal

-- the ledger is the blank's
abbrev pub ghosts-play : goal.ghosts-play
ghosts-play a = record { name = a.blank.name; parts = a.blank.parts }
