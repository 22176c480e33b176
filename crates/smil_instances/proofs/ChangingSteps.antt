-- Which steps can change what is kept for an item.
use Rattle.std.specs.Prelude.{ℕ, List, Bool, false, ◌||◌, Option, Some, None}
use Rattle.smil_model.specs.declared.diary.LogEntry.{LogEntry}
use Rattle.smil_model.specs.declared.diary.Step.{Step}
use Rattle.smil_model.specs.declared.document.Node.{Node}
use Rattle.smil_model.specs.declared.document.Edge.{Edge}
use Rattle.smil_model.specs.declared.document.Edge.TheVariants.{End}
use Rattle.smil_model.specs.declared.document.Item.{Item}
use Rattle.smil_model.specs.declared.document.Item.TheVariants.{Offset, Sync, Event, Repeat, Key, Indefinite}
use Rattle.smil_model.specs.document.Document.{element_named, previous_in_seq, time_parent, target}
use Rattle.smil_model.specs.diary.Plays.{is_birth_under}
use Rattle.smil_model.specs.interval.Instances.{is_press}
use Rattle.smil_model.specs.reach.Reach.{subject_of, is_option}
use Rattle.smil_instances.specs.Contribution.{is_edge}

-- whether the step is a birth of the element: the begin or a repeat of its time parent
abbrev pub is_reset_by : List Node → ℕ → Step → Bool
is_reset_by nodes s step = is_birth_under (time_parent nodes s) step

abbrev pub concerns_edges : List Node → Step → ℕ → ℕ → Edge → Bool
concerns_edges nodes step e x edge = is_edge edge x step || (is_reset_by nodes e step || is_reset_by nodes x step)

abbrev pub concerns_offset : List Node → Step → ℕ → Option Node → Bool
concerns_offset nodes step e None = is_reset_by nodes e step
concerns_offset nodes step e (Some before) = concerns_edges nodes step e before.serial End

abbrev pub concerns_named : List Node → Step → ℕ → Edge → Option Node → Bool
concerns_named nodes step e edge None = false
concerns_named nodes step e edge (Some x) = concerns_edges nodes step e x.serial edge

abbrev pub concerns_heard : List Node → List LogEntry → Step → ℕ → Option ℕ → Bool
concerns_heard nodes log step e None = false
concerns_heard nodes log step e (Some x) = is_option x (subject_of log step) || is_reset_by nodes e step

abbrev pub concerns_key : List Node → List LogEntry → Step → ℕ → ℕ → Bool
concerns_key nodes log step e key = is_press log key step || is_reset_by nodes e step

-- whether the step can change what is kept for the item: it is on what the item refers to, or it is a birth of the
-- element or, for a begin or end of another, of that other one
abbrev pub may_change : List Node → List LogEntry → Step → ℕ → Item → Bool
may_change nodes log step e (Offset offset) = concerns_offset nodes step e (previous_in_seq nodes e)
may_change nodes log step e (Sync who edge offset) = concerns_named nodes step e edge (element_named nodes who)
may_change nodes log step e (Event who name offset) = concerns_heard nodes log step e (target nodes e who)
may_change nodes log step e (Repeat who n offset) = concerns_heard nodes log step e (target nodes e who)
may_change nodes log step e (Key key offset) = concerns_key nodes log step e key
may_change nodes log step e Indefinite = false
