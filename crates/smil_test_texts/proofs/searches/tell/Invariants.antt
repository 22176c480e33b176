use Rattle.smil_test_texts.proofs.searches.tell.Given as goal

-- the ledger is the blank's
abbrev pub ghosts-evaluated : goal.ghosts-evaluated
ghosts-evaluated a = record { name = a.blank.name; parts = a.blank.parts }
