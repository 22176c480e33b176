-- Locality: an entry changes no current interval outside its reach.
use Rattle.std.specs.Prelude.{◌≡◌, ℕ, ℤ, List, [], ◌∷◌, ◌++◌, false, reverse, ◌==◌}
use Rattle.smil_model.specs.declared.diary.Entry.{Entry}
use Rattle.smil_model.specs.declared.document.Node.{Node}
use Rattle.smil_model.specs.diary.Diary.{History, up_to}
use Rattle.smil_model.specs.interval.Current.{current_interval}
use Rattle.smil_model.specs.document.Closure.{has}
use Rattle.smil_model.specs.reach.Reach.{reach}

-- of nodes from the last to the first: no parent is the node itself or stands after it
abbrev pub NoParent : ℕ → List Node → Type 0
NoParent serial [] = Unit {0}
NoParent serial (n ∷ before) = (n.parent == serial ≡ false) × NoParent serial before

abbrev pub ParentsBefore : List Node → Type 0
ParentsBefore [] = Unit {0}
ParentsBefore (n ∷ before) =
    (n.parent == n.serial ≡ false) × NoParent n.serial before × ParentsBefore before

-- an entry leaves the current interval of each element outside its reach as it was
abbrev pub LeavesUnreached : Type 0
LeavesUnreached =
    (h : History) (y : Entry) (now : ℤ) (s : ℕ) → ParentsBefore (reverse h.nodes)
    → has (reach h.nodes h.log y) s ≡ false
    → current_interval (up_to h (h.diary ++ y ∷ [])) now s ≡ current_interval h now s
