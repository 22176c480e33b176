-- The clocks of two documents to which nothing has happened yet, whose nodes stand alike.
use Rattle.std.proofs.Common.{◌≡◌, refl, sym, ◌∙◌, ap, List, [], ◌∷◌, map, false}
use Rattle.std.specs.Prelude.{pos}
use Rattle.smil_model.specs.declared.diary.LogEntry.{LogEntry}
use Rattle.smil_model.specs.declared.document.Node.{Node}
use Rattle.smil_model.specs.document.Document.{Document}
use Rattle.smil_model.specs.document.Valid.{IsNumberedTree}
use Rattle.smil_tree.specs.Outline.{parent_place}
use Rattle.smil_stretch.specs.declared.clock.Clock.TheVariants.{Runs}
use Rattle.smil_stretch.specs.declared.clock.NodeClock.{NodeClock}
use Rattle.smil_stretch.specs.Clocks.{AreClocksOf, IsHistoryOf}
use Rattle.smil_stretch.specs.NodeClocks.{idle_clock}
use Rattle.smil_stretch.proofs.IdleClocks.{idle_clocks_of}
use Rattle.smil_instances.specs.Intake.{history_of}

-- nothing has happened yet: that is lawful
pub nothing_is : (document : Document) (log : List LogEntry) → IsHistoryOf (history_of document log []) document []
nothing_is document log = record { same_nodes = refl; same_diary = refl; lawful = record { moments = refl; steps = tt } }

-- the clocks that are those of the one are those of the other
pub clocks_alike : (before after : Document) (log : List LogEntry) (clocks : List NodeClock) → IsNumberedTree before → IsNumberedTree after → map (idle_clock before.nodes) before.nodes ≡ map (idle_clock after.nodes) after.nodes → AreClocksOf clocks (history_of before log []) → AreClocksOf clocks (history_of after log [])
clocks_alike before after log clocks numbered numbered_after alike are =
    let idle = idle_clocks_of (map (idle_clock before.nodes) before.nodes) (history_of before log []) before [] numbered (nothing_is before log) refl in
    idle_clocks_of clocks (history_of after log []) after [] numbered_after (nothing_is after log) (are.value ∙ sym idle.value ∙ alike)

-- nodes with the same serial and with time parents in the same place have the same clock
pub same_clock : (before after : List Node) (n m : Node) → n.serial ≡ m.serial → parent_place before n.serial ≡ parent_place after m.serial → idle_clock before n ≡ idle_clock after m
same_clock before after n m serial parent = λ i. record { serial = serial i; parent = parent i; paused = false; clock = Runs (pos 0) }

-- the clocks of one more node
pub alike_on : (before after ns ms rest others : List Node) (n m : Node) → ns ≡ n ∷ rest → ms ≡ m ∷ others → idle_clock before n ≡ idle_clock after m → map (idle_clock before) rest ≡ map (idle_clock after) others → map (idle_clock before) ns ≡ map (idle_clock after) ms
alike_on before after ns ms rest others n m first second same alike =
    ap (map (idle_clock before)) first ∙ (λ i. same i ∷ alike i) ∙ ap (map (idle_clock after)) (sym second)
