-- Queues from which all children are taken out.
use Rattle.std.proofs.Common.{◌≡◌, refl, sym, ◌∙◌, ap, ℕ, List, [], ◌∷◌, length, map, Bool, true, false}
use Rattle.std.specs.Prelude.{cond, filter}
use Rattle.smil_model.specs.declared.document.Node.{Node}
use Rattle.smil_model.specs.document.Document.{is_excl_kind, serials, time_children}
use Rattle.smil_model.specs.diary.Diary.{History, up_to}
use Rattle.smil_model.specs.happening.Queue.{is_playing_by, queue_of}
use Rattle.smil_excl.specs.QueueState.{QueueState, line_in}
use Rattle.smil_past.specs.Queues.{classes_in, emptied, kept_queues, lines, placed, playing_line, playing_lines}
use Rattle.smil_past.proofs.PlayingChildren.{none_line}

emptied_lines : (nodes : List Node) (queue : ℕ → List ℕ) (ns : List Node) → map emptied (map (λ (n : Node). line_in nodes n.serial (queue n.serial)) ns) ≡ map (λ (n : Node). line_in nodes n.serial []) ns
emptied_lines nodes queue [] = refl
emptied_lines nodes queue (n ∷ ns) = ap (λ qs. line_in nodes n.serial [] ∷ qs) (emptied_lines nodes queue ns)

emptied_line : (nodes : List Node) (plays : ℕ → Bool) (n : Node) → emptied (playing_line nodes plays n) ≡ playing_line nodes (λ serial. false) n
emptied_line nodes plays n = by_kind (is_excl_kind n.kind) ∙ none_line nodes n
  where
    full : QueueState
    full = record {
      held = map (placed nodes) (filter plays (serials (time_children nodes n.serial)));
      room = length (time_children nodes n.serial);
    }

    by_kind : (t : Bool) → emptied (cond t full (record { held = []; room = 0 })) ≡ record { held = []; room = cond t (length (time_children nodes n.serial)) 0 }
    by_kind true = refl
    by_kind false = refl

emptied_playing : (nodes : List Node) (plays : ℕ → Bool) (ns : List Node) → map emptied (map (playing_line nodes plays) ns) ≡ map (playing_line nodes (λ serial. false)) ns
emptied_playing nodes plays [] = refl
emptied_playing nodes plays (n ∷ ns) =
    ap (λ q. q ∷ map emptied (map (playing_line nodes plays) ns)) (emptied_line nodes plays n)
    ∙ ap (λ qs. playing_line nodes (λ serial. false) n ∷ qs) (emptied_playing nodes plays ns)

-- they are those of the document to which nothing has happened yet
pub emptied_queues : (h k : History) → k.nodes ≡ h.nodes → record { queues = map emptied (kept_queues h).queues; playing = map emptied (kept_queues h).playing; classes = (kept_queues h).classes } ≡ kept_queues (up_to k [])
emptied_queues h k same =
    ap (λ qs. record { queues = qs; playing = map emptied (kept_queues h).playing; classes = classes_in h.nodes }) (emptied_lines h.nodes (queue_of h) h.nodes)
    ∙ ap (λ ps. record { queues = lines h.nodes (λ serial. []); playing = ps; classes = classes_in h.nodes }) (emptied_playing h.nodes (is_playing_by h.diary) h.nodes)
    ∙ ap (λ (ns : List Node). record { queues = lines ns (λ serial. []); playing = playing_lines ns (λ serial. false); classes = classes_in ns }) (sym same)
