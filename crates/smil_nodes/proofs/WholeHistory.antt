-- A front of a history, with the entries behind it, is the whole.
use Rattle.std.proofs.Common.{◌≡◌, ap, ℕ, ◌++◌, drop}
use Rattle.std.proofs.lemmas.List.{take-append-drop}
use Rattle.smil_model.specs.diary.Diary.{up_to}
use Rattle.smil_past.specs.Past.{MarkedHistory, front, history_of}

-- the front of a history with the entries behind it is the whole
pub front_whole : (past : MarkedHistory) (from : ℕ) → up_to (front past from) ((front past from).diary ++ drop from past.diary) ≡ history_of past
front_whole past from = ap (λ d. up_to (history_of past) d) (take-append-drop from past.diary)
