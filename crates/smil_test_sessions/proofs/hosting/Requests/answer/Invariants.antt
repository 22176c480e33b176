use Rattle.smil_test_sessions.proofs.hosting.Requests.answer.Given as goal

-- the ledger is the blank's
abbrev pub ghosts-answer_each : goal.ghosts-answer_each
ghosts-answer_each a = record { name = a.blank.name; parts = a.blank.parts }
