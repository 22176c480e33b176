-- What the view of an element follows from.
use Rattle.std.specs.Prelude.{◌≡◌, ℕ, ℤ, filter, Bool, false, Option, Some, None, is_some}
use Rattle.smil_model.specs.declared.document.Fill.{Fill}
use Rattle.smil_model.specs.declared.document.Fill.TheVariants.{Freeze}
use Rattle.smil_model.specs.declared.document.Node.{Node}
use Rattle.smil_model.specs.declared.interval.Interval.{Interval}
use Rattle.smil_model.specs.declared.view.View.{View}
use Rattle.smil_model.specs.document.Document.{elements, is_element, lineage, node_at}
use Rattle.smil_model.specs.diary.Diary.{History}
use Rattle.smil_model.specs.shown.Views.{is_frozen_in, view_by, view_facts}
use Rattle.smil_past.specs.Past.{history_of}
use Rattle.smil_past.specs.declared.plays.facts.PastInterval.{PastInterval}
use Rattle.smil_element.specs.declared.subject.Subject.{Subject}

-- whether the element with this serial is frozen; false where there is none
abbrev pub frozen_at : History → Option ℕ → Bool
frozen_at h None = false
frozen_at h (Some serial) = is_frozen_in h (filter is_element (lineage h.nodes serial))

-- a finished interval in document time, and whether it was cut
abbrev pub shown_last : PastInterval → ℤ × ℤ
shown_last last = (last.shown_begin, last.shown_finish)

abbrev pub is_cut : Option PastInterval → Bool
is_cut None = false
is_cut (Some last) = last.was_cut

-- whether the view minds what displaces an element: where its fill is freeze and an interval
-- finished
abbrev pub minds : Fill → Option (ℤ × ℤ) → Bool
minds Freeze last = is_some last
minds _ last = false

-- a view is that of the element by its current interval, whatever its time parent does
abbrev pub IsViewOf : Subject → Option Interval → View → Type 0
IsViewOf s interval v =
    (e : Node) (shows above : Bool)
    → node_at (elements s.present.past.now.document.nodes) s.present.who ≡ Some e
    → v ≡ view_by
    (view_facts (history_of s.present.past.now) s.present.moment interval shows above e)
