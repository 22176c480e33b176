use Rattle.std.proofs.Common.{sym, ap, ◌∙◌, List}
use Rattle.std.specs.Prelude.{find}
use Rattle.smil_model.specs.declared.document.Node.{Node}
use Rattle.smil_model.specs.document.Document.{serial_of, time_children}
use Rattle.smil_model.specs.happening.Queue.{is_playing, is_playing_by}
use Rattle.smil_past.specs.Queues.{KeptQueues, playing_lines}
use Rattle.smil_past.proofs.PlayingChildren.{first_plays}
use Rattle.smil_past.proofs.queues.Queues.playing.Goals as goal

pub returns : goal.returns
returns c = λ h are.
    let excl = c.args.excl in
    c.first_playing.ensures (is_playing_by h.diary)
    (c.deref.ensures.value ∙ ap (λ (k : KeptQueues). k.playing) (c.self.view_is ∙ are.value) ∙ ap (λ (ns : List Node). playing_lines ns (is_playing_by h.diary)) are.nodes)
    ∙ first_plays h.diary (time_children c.args.tree.now.nodes excl)
    ∙ ap (λ (ns : List Node). serial_of (find (is_playing h.diary) (time_children ns excl))) (sym are.nodes)
