-- The element that an event or repeat item means, and what an event,
-- repeat or accesskey item waits for.
use Rattle.std.specs.Prelude.{ℕ, List, Bool, true, false, Option, Some, None}
use Rattle.smil_model.specs.declared.diary.Entry.{Entry}
use Rattle.smil_model.specs.declared.document.Item.{Item}
use Rattle.smil_model.specs.declared.document.Item.TheVariants.{Event, Repeat, Key}
use Rattle.smil_model.specs.declared.document.Node.{Node}
use Rattle.smil_model.specs.declared.document.Restart.{Restart}
use Rattle.smil_model.specs.declared.document.Restart.TheVariants.{Always}
use Rattle.smil_model.specs.document.Document.{target}
use Rattle.smil_model.specs.diary.Diary.{History}
use Rattle.smil_model.specs.interval.Instances.{is_event, is_press, is_repeat}

-- the element that an event or repeat item of e means; other items mean none
abbrev pub target_of : List Node → ℕ → Item → Option ℕ
target_of nodes e (Event who name offset) = target nodes e who
target_of nodes e (Repeat who n offset) = target nodes e who
target_of nodes e _ = None

-- whether the entry is what the item waits for: the named event on the element that it means,
-- the begin of iteration n of that one, or a press of the key
abbrev pub occurs_in : History → Entry → Option ℕ → Item → Bool
occurs_in h y (Some x) (Event who name offset) = is_event h.log x name y.step
occurs_in h y (Some x) (Repeat who n offset) = is_repeat h x n y.step
occurs_in h y of (Key key offset) = is_press h.log key y.step
occurs_in h y of _ = false

-- whether the element may always restart
abbrev pub is_always : Restart → Bool
is_always Always = true
is_always _ = false
