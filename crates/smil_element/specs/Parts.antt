-- What happens to an element, and the parts of a presentation by which its group is told.
use Rattle.std.specs.Prelude.{◌≡◌, ◌≤ℤ◌, ℕ, ℤ, List, [], ◌∷◌, ◌++◌, ◌&&◌, Option, Some, None, if◌then◌else◌}
use Rattle.std.specs.declared.vec.Vec.{Vec}
use Rattle.std.specs.declared.alloc.Global.{Global}
use Rattle.smil_model.specs.declared.diary.Entry.{Entry}
use Rattle.smil_model.specs.declared.diary.Step.{Step}
use Rattle.smil_model.specs.declared.diary.Step.TheVariants.{Began, Cut, Resumed}
use Rattle.smil_model.specs.declared.document.Node.{Node}
use Rattle.smil_model.specs.Times.{IsMoment}
use Rattle.smil_model.specs.document.Document.{descendants, has_serial, is_excl_kind}
use Rattle.smil_model.specs.diary.Diary.{History, is_active, is_paused, last_moment}
use Rattle.smil_model.specs.diary.Clocks.{outer}
use Rattle.smil_model.specs.happening.Keys as model
use Rattle.smil_model.specs.happening.Keys.{begins, ends, repeats}
use Rattle.smil_model.specs.happening.Groups.{at_moment, cut_steps}
use Rattle.smil_model.specs.happening.Queue.{playing_child}
use Rattle.smil_stretch.specs.Clocks.{AreClocksOf}
use Rattle.smil_past.specs.Queues.{AreQueuesOf}
use Rattle.smil_element.specs.declared.happening.change.Change.{Change}
use Rattle.smil_element.specs.declared.happening.change.Change.TheVariants.{Begins, Ends, Repeats}
use Rattle.smil_element.specs.declared.happening.change.DueChange.{DueChange}
use Rattle.smil_element.specs.declared.happening.parts.Parts.{Parts}

-- the change that a value of the program stands for
abbrev pub meant : Change → model.Change
meant (Begins begin) = begins begin
meant (Ends finish) = ends finish
meant (Repeats start) = repeats start

abbrev pub coming_meant : DueChange → model.DueChange
coming_meant c = record { key = c.key; change = meant c.change }

-- the parts are those of a history, at a moment that is not before its last entry
pub record ArePartsOf (parts : Parts) (h : History) : Type 0 where
  pub same_nodes : h.nodes ≡ parts.tree.now.nodes
  pub same_diary : h.diary ≡ parts.book.now
  pub clocks_are : AreClocksOf parts.clocks.now h
  pub queues_are : AreQueuesOf parts.queues.now parts.tree.now h
  pub moment_is : IsMoment parts.moment
  pub late : last_moment h.diary ≤ℤ parts.moment

-- the list has grown by these steps, at the moment of the parts
abbrev pub Appends : Parts → Vec Entry Global → Vec Entry Global → List Step → Type 0
Appends parts old new steps = new.items ≡ old.items ++ at_moment parts.moment steps

-- the list has grown by what the history that the parts are of gives at their moment
abbrev pub AppendsBy : Parts → Vec Entry Global → Vec Entry Global → (History → ℤ → List Step) →
    Type 0
AppendsBy parts old new steps =
    (h : History) → ArePartsOf parts h → Appends parts old new (steps h parts.moment)

-- the cut of a node, where it is active
abbrev pub cut_of : List Entry → ℕ → List Step
cut_of diary serial = if is_active diary serial then Cut serial ∷ [] else []

-- the cuts of the active descendants of a node
abbrev pub cuts_below : Parts → ℕ → List Step
cuts_below parts who = cut_steps parts.book.now (descendants parts.tree.now.nodes who)

-- how the first child of a queue goes on
abbrev pub next_of : History → ℤ → ℕ → Step
next_of h moment first =
    if is_paused h.diary first then Resumed first else Began first (outer h first moment)

-- ---- of the time parent of an element

-- the time parent where it is an excl in which the element plays
abbrev pub left_excl : History → ℕ → Option Node → Option Node
left_excl h who None = None
left_excl h who (Some p) =
    if is_excl_kind p.kind && has_serial who (playing_child h p.serial) then Some p else None

-- the child that plays in the time parent where it is an excl
abbrev pub rival : History → Option Node → Option Node
rival h None = None
rival h (Some p) = if is_excl_kind p.kind then playing_child h p.serial else None
