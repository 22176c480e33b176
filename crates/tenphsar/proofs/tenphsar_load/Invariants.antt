use Rattle.tenphsar.proofs.tenphsar_load.Given as goal

-- the ledger is the blank's
abbrev pub ghosts-load : goal.ghosts-load
ghosts-load a = record { name = a.blank.name; parts = a.blank.parts }
