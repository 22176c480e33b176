-- An element at a moment, with what is found of it.
use Rattle.std.specs.Prelude.{◌≡◌, true, Some, IfSome, slice_get}
use Rattle.smil_model.specs.declared.document.Node.{Node}
use Rattle.smil_model.specs.document.Document.{elements, node_at, serial_of, time_parent}
use Rattle.smil_model.specs.diary.Clocks.{outer, outer_stands, parent_start, run, stands}
use Rattle.smil_model.specs.diary.Diary.{lives_under}
use Rattle.smil_model.specs.diary.Lawful.{has_element}
use Rattle.smil_model.specs.Times.{IsNear}
use Rattle.smil_past.specs.Past.{IsPresent, history_of}
use Rattle.smil_past.specs.Played.{played}
use Rattle.smil_past.specs.Syncs.{sync_row}
use Rattle.smil_element.specs.declared.subject.Subject.{Subject}

-- what is found of an element is right for what has happened
pub record IsFound (s : Subject) : Type 0 where
  pub element : has_element s.present.past.now.document.nodes s.present.who ≡ true
  pub here : slice_get (elements s.present.past.now.document.nodes) s.index
      ≡ node_at (elements s.present.past.now.document.nodes) s.present.who
  pub moment : IsPresent s.present.past.now s.present.moment
  pub played_is : s.played.now ≡ played (history_of s.present.past.now) s.present.who
  pub row_is :
      (e : Node) → node_at (elements s.present.past.now.document.nodes) s.present.who ≡ Some e
      → s.row.now ≡ sync_row s.present.past.now.document.nodes e
  pub parent_is : s.parent ≡ serial_of (time_parent s.present.past.now.document.nodes s.present.who)
  pub parent_known :
      IfSome s.parent (λ p. has_element s.present.past.now.document.nodes p ≡ true)
  pub alive_is : s.alive
      ≡ lives_under (time_parent s.present.past.now.document.nodes s.present.who)
      s.present.past.now.diary
  pub start_is : s.parent_start ≡ parent_start (history_of s.present.past.now) s.present.who
  pub own_is : s.clocks.own ≡ run (history_of s.present.past.now) s.present.who s.present.moment
  pub outer_is :
      s.clocks.outer ≡ outer (history_of s.present.past.now) s.present.who s.present.moment
  pub own_stands_is :
      s.clocks.own_stands ≡ stands (history_of s.present.past.now) s.present.who
  pub outer_stands_is :
      s.clocks.outer_stands ≡ outer_stands (history_of s.present.past.now) s.present.who
  pub own_near : IsNear s.clocks.own
  pub outer_near : IsNear s.clocks.outer
