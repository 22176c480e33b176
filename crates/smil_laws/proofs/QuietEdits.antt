-- An edit that leaves references as they are: what differs lies below the time parent, and the diaries agree until it begins.
use Rattle.std.proofs.Common.{◌≡◌, ℕ, List, false, arith}
use Rattle.std.specs.Prelude.{◌<◌, ◌-◌, ◌==◌, slice_get}
use Rattle.std.proofs.lemmas.Bool.{ne_eqb}
use Rattle.smil_model.specs.declared.diary.LogEntry.{LogEntry}
use Rattle.smil_model.specs.declared.document.Node.{Node}
use Rattle.smil_model.specs.document.Document.{Document, is_below}
use Rattle.smil_model.specs.document.Edits.{with_attr, without_attr, child_place, children}
use Rattle.smil_model.specs.happening.Resolution.{Progress, outset, after_steps, Reaches, resolved, diary_of}
use Rattle.smil_laws.specs.Agreement.{DifferBelow, course_on}
use Rattle.smil_model.specs.reach.Bounds.{has_begun, through_begin}
use Rattle.smil_laws.specs.Edited.{Edit, sets, unsets, inserts, removes, edited, nodes_with, IsQuietEdit}
use Rattle.smil_laws.proofs.NumberedTrees.{all_low, ordered}
use Rattle.smil_laws.proofs.EditsBelow.{attrs_differ, removal_differs, insertion_differs}
use Rattle.smil_laws.proofs.DiaryThroughBegin.{agrees_through_begin, same_unless_begun}
use Rattle.smil_laws.proofs.Lists.{each_weaker}

below_differs : (a b : ℕ) → a < b → a == b ≡ false
below_differs a b l = ne_eqb a b (λ e. absurd (omega (arith, e, l)))

pub differs : (d : Document) (edit : Edit) (parent : Node) → IsQuietEdit d edit parent → DifferBelow (is_below (nodes_with d edit) parent.serial) parent.serial d.nodes (edited d edit).nodes
differs d (sets serial given) parent q = attrs_differ (λ attrs. with_attr attrs given) serial d.nodes parent (ordered d q.old) q.under q.references
differs d (unsets serial given) parent q = attrs_differ (λ attrs. without_attr attrs given) serial d.nodes parent (ordered d q.old) q.under q.references
differs d (removes serial) parent q = removal_differs d.nodes serial parent (ordered d q.old) q.under q.references
differs d (inserts under place kind attrs) parent q =
    insertion_differs d.nodes (child_place d.nodes under (slice_get (children d.nodes under) (place - 1)))
    (record { serial = d.next; kind = kind; parent = under; attrs = attrs }) parent
    (each_weaker (λ (n : Node). (n.serial < d.next) × (n.parent < d.next)) (λ (n : Node). (n.serial == d.next ≡ false) × (n.parent == d.next ≡ false)) d.nodes (all_low d q.old)
    (λ n l. (below_differs n.serial d.next l.0, below_differs n.parent d.next l.1)))
    (ordered (edited d (inserts under place kind attrs)) q.new) q.under q.references

pub edit_agrees : (d : Document) (edit : Edit) (parent : Node) (log : List LogEntry) (last k : ℕ) → IsQuietEdit d edit parent → (r : Progress) × Reaches (course_on (edited d edit).nodes log last) r × (r.diary ≡ through_begin parent.serial (after_steps (course_on d.nodes log last) k outset).diary)
edit_agrees d edit parent log last k q =
    agrees_through_begin (is_below (nodes_with d edit) parent.serial) parent.serial d.nodes (edited d edit).nodes (differs d edit parent q) log last k

pub edit_keeps : (d : Document) (edit : Edit) (parent : Node) (log : List LogEntry) (last : ℕ) → IsQuietEdit d edit parent → has_begun (resolved (course_on d.nodes log last)).diary parent.serial ≡ false → diary_of (course_on d.nodes log last) ≡ diary_of (course_on (edited d edit).nodes log last)
edit_keeps d edit parent log last q never =
    same_unless_begun (is_below (nodes_with d edit) parent.serial) parent.serial d.nodes (edited d edit).nodes (differs d edit parent q) log last never
