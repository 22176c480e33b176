-- Diaries that a document can have: each step is one that what has happened before it allows.
use Rattle.std.specs.Prelude.{◌≡◌, ℕ, ℤ, pos, int_le, List, [], ◌∷◌, Bool, true, not, ◌&&◌, is_some}
use Rattle.smil_model.specs.declared.diary.Entry.{Entry}
use Rattle.smil_model.specs.declared.diary.Step.{Step}
use Rattle.smil_model.specs.declared.diary.Step.TheVariants.{Began, Repeated, Ended, Cut, Paused, Resumed, Deferred, Passed, Logged}
use Rattle.smil_model.specs.declared.document.Node.{Node}
use Rattle.smil_model.specs.declared.times.TheConstants.{HORIZON}
use Rattle.smil_model.specs.document.Document.{elements, node_at}
use Rattle.smil_model.specs.diary.Diary.{History, is_active, is_alive, is_paused, up_to, with_past}

-- whether an element has this serial
abbrev pub has_element : List Node → ℕ → Bool
has_element nodes serial = is_some (node_at (elements nodes) serial)

-- an alive element that is not active may begin
abbrev pub may_begin : History → ℕ → Bool
may_begin past serial = is_alive past serial && not (is_active past.diary serial)

-- steps but Logged are on elements; by what has happened before, a begin,
-- a deferral or a pass is of an element that may begin, a repeat,
-- an end or a cut is of an active one, a pause of an active one that is not paused,
-- and a resume of a paused one
abbrev pub is_lawful_step : History → Step → Bool
is_lawful_step past (Began who begin) = has_element past.nodes who && may_begin past who
is_lawful_step past (Deferred who begin) = has_element past.nodes who && may_begin past who
is_lawful_step past (Passed who begin) = has_element past.nodes who && may_begin past who
is_lawful_step past (Repeated who start) = has_element past.nodes who && is_active past.diary who
is_lawful_step past (Ended who end') = has_element past.nodes who && is_active past.diary who
is_lawful_step past (Cut who) = has_element past.nodes who && is_active past.diary who
is_lawful_step past (Paused who) =
    has_element past.nodes who && (is_active past.diary who && not (is_paused past.diary who))
is_lawful_step past (Resumed who) = has_element past.nodes who && is_paused past.diary who
is_lawful_step past (Logged place) = true

-- each of these entries is lawful by those before it
abbrev pub AllLawful : History → List (List Entry × Entry) → Type 0
AllLawful h [] = Unit {0}
AllLawful h (w ∷ ws) = (is_lawful_step (up_to h w.0) (w.1).step ≡ true) × AllLawful h ws

-- moments are from the first to the horizon, and do not fall
abbrev pub is_rising_from : ℤ → List Entry → Bool
is_rising_from from [] = true
is_rising_from from (x ∷ xs) =
    int_le from x.moment && int_le x.moment HORIZON && is_rising_from x.moment xs

-- a diary that is lawful for the document
pub record IsLawful (h : History) : Type 0 where
  pub moments : is_rising_from (pos 0) h.diary ≡ true
  pub steps : AllLawful h (with_past [] h.diary)
