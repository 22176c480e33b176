use Rattle.tenphsar.proofs.tenphsar_line.Given as goal

-- the ledger is the blank's
abbrev pub ghosts-take_line : goal.ghosts-take_line
ghosts-take_line a = record { name = a.blank.name; parts = a.blank.parts }
