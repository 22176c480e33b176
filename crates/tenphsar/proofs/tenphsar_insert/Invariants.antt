use Rattle.tenphsar.proofs.tenphsar_insert.Given as goal

-- the ledger is the blank's
abbrev pub ghosts-change : goal.ghosts-change
ghosts-change a = record { name = a.blank.name; parts = a.blank.parts }
