use Rattle.smil_test_sessions.proofs.serving.status_of.Given as goal

-- the ledger is the blank's
abbrev pub ghosts-counted : goal.ghosts-counted
ghosts-counted g a = record { name = a.blank.name; parts = a.blank.parts }
