-- What stays of an element that entries do not concern.
use Rattle.std.specs.Prelude.{◌≡◌, ℕ, ℤ, List, ◌++◌, reverse, true, false, ◌==◌, ◌&&◌, Option, Some}
use Rattle.std.specs.List.{list_any}
use Rattle.smil_model.specs.declared.diary.Entry.{Entry}
use Rattle.smil_model.specs.declared.interval.Interval.{Interval}
use Rattle.smil_model.specs.declared.document.Node.{Node}
use Rattle.smil_model.specs.document.Document.{elements, node_at, is_time_child, previous_in_seq}
use Rattle.smil_model.specs.document.Dependencies.{has_implicit_duration, is_sync_with, all_items, leads_to}
use Rattle.smil_model.specs.diary.Diary.{History, is_deferred, up_to}
use Rattle.smil_model.specs.diary.Plays.{plays}
use Rattle.smil_model.specs.interval.Current.{first_end_of, latest_end_of, interval_given}
use Rattle.smil_model.specs.happening.Keys.{coming_of}
use Rattle.smil_laws.specs.Locality.{ParentsBefore}
use Rattle.smil_laws.specs.Touched.{GivesSame}
use Rattle.smil_concern_laws.specs.Concerned.{is_concerned_by}

-- what has happened to an element is the same by two histories
pub record SameDone (h k : History) (s : ℕ) : Type 0 where
  pub plays_are : plays k s ≡ plays h s
  pub deferred : is_deferred k s ≡ is_deferred h s

-- entries leave each element that they do not concern with the ends that it had
abbrev pub LeavesEnds : Type 0
LeavesEnds =
    (h : History) (entries : List Entry) (c : Node)
    → ParentsBefore (reverse h.nodes)
    → node_at (elements h.nodes) c.serial ≡ Some c
    → is_concerned_by h.nodes h.log entries c.serial ≡ false
    → SameDone h (up_to h (h.diary ++ entries)) c.serial

-- two histories, with an interval each, give an element the same ends
pub record SameEnds
    (h k : History) (before after : Option Interval) (s : ℕ) : Type 0 where
  pub first : first_end_of k after s ≡ first_end_of h before s
  pub latest : latest_end_of k after s ≡ latest_end_of h before s

-- so they do for each time child of an element whose duration is implicit
abbrev pub ChildrenEndSame :
    (h k : History) (before after : ℕ → Option Interval) (e : Node) → Type 0
ChildrenEndSame h k before after e =
    (s : ℕ) → has_implicit_duration e ≡ true
    → list_any (λ (c : Node). (c.serial == s) && is_time_child h.nodes e.serial c) h.nodes ≡ true
    → SameEnds h k (before s) (after s) s

-- entries leave each element that they do not concern with the interval, and with what comes of
-- it, that it had, given the same intervals of the others and the same ends of its time children
abbrev pub LeavesUnconcerned : Type 0
LeavesUnconcerned =
    (h : History) (entries : List Entry) (intervals : ℕ → Option Interval) (now : ℤ) (e : Node)
    → ParentsBefore (reverse h.nodes)
    → node_at (elements h.nodes) e.serial ≡ Some e
    → is_concerned_by h.nodes h.log entries e.serial ≡ false
    → ChildrenEndSame h (up_to h (h.diary ++ entries)) intervals intervals e
    → GivesSame h (up_to h (h.diary ++ entries)) intervals now e

-- two assignments of intervals agree on what feeds the element by a dependency that is not looped,
-- and give its time children the same ends
pub record AgreeByEnds
    (h : History) (before after : ℕ → Option Interval) (e : Node) : Type 0 where
  pub children : ChildrenEndSame h h before after e
  pub previous : (b : Node) → previous_in_seq h.nodes e.serial ≡ Some b
      → after b.serial ≡ before b.serial
  pub named : (x : ℕ) → list_any (is_sync_with h.nodes x) (all_items h.nodes e) ≡ true
      → leads_to h.nodes e.serial x ≡ false
      → after x ≡ before x

-- two assignments give an element the same interval, and, where it has the same, the same to come
pub record GivenSame
    (h : History) (before after : ℕ → Option Interval) (now : ℤ) (e : Node) : Type 0 where
  pub interval : interval_given h after now e ≡ interval_given h before now e
  pub coming : after e.serial ≡ before e.serial → (place : ℕ)
      → coming_of h after now place e ≡ coming_of h before now place e

-- the interval of an element follows, of its time children, from their ends alone
abbrev pub IntervalsFollowFromEnds : Type 0
IntervalsFollowFromEnds =
    (h : History) (before after : ℕ → Option Interval) (now : ℤ) (e : Node)
    → AgreeByEnds h before after e → GivenSame h before after now e
