use Rattle.std.proofs.Common.{ap, ◌∙◌, arith, length, List}
use Rattle.std.specs.Prelude.{drop}
use Rattle.std.proofs.lemmas.List.{take_at}
use Rattle.smil_model.specs.declared.document.Node.{Node}
use Rattle.smil_model.specs.happening.Queue.{is_playing_by, queue_of}
use Rattle.smil_stretch.proofs.LawfulDiaries.{lawful_before, lawful_last}
use Rattle.smil_past.specs.Queues.{KeptQueues, MayPlay, MayTakeIn, lines, playing_lines}
use Rattle.smil_past.proofs.PlayingChildren.{kept_same, plays_more}
use Rattle.smil_past.proofs.QueuesAfterStep.{entry_more}
use Rattle.smil_past.proofs.queues.Queues.follow.Goals as goal

pub take_in-requires-clause-may : goal.take_in-requires-clause-may
take_in-requires-clause-may c =
    let h = c.requires.0 in
    let past = c.requires.1 in (
      h,
      record {
        same_nodes = past.known.nodes;
        value = c.deref_mut.ensures.value ∙ ap (λ (k : KeptQueues). k.queues) (c.self.view_is ∙ past.known.value) ∙ ap (λ (ns : List Node). lines ns (queue_of h)) past.known.nodes;
        lawful = lawful_before h c.args.entry past.lawful;
        step_lawful = lawful_last h c.args.entry past.lawful;
        stands = past.stands;
      },
    )

pub play_on-requires : goal.play_on-requires
play_on-requires c =
    let h = c.requires.0 in
    let past = c.requires.1 in (
      h,
      record {
        same_nodes = past.known.nodes;
        value = c.deref_mut-2.ensures.value ∙ ap (λ (k : KeptQueues). k.playing) (c.self.view_is ∙ past.known.value) ∙ ap (λ (ns : List Node). playing_lines ns (is_playing_by h.diary)) past.known.nodes;
        step_lawful = lawful_last h c.args.entry past.lawful;
      },
    )

pub returns : goal.returns
returns c = λ h past.
    let are = past.known in
    let nodes = c.args.tree.now.nodes in
    let y = c.args.entry in
    let may : MayTakeIn c.deref_mut.result.now nodes y.step c.args.waits h = record {
      same_nodes = are.nodes;
      value = c.deref_mut.ensures.value ∙ ap (λ (k : KeptQueues). k.queues) (c.self.view_is ∙ are.value) ∙ ap (λ (ns : List Node). lines ns (queue_of h)) are.nodes;
      lawful = lawful_before h y past.lawful;
      step_lawful = lawful_last h y past.lawful;
      stands = past.stands;
    } in
    let may_play : MayPlay c.deref_mut-2.result.now nodes y.step h = record {
      same_nodes = are.nodes;
      value = c.deref_mut-2.ensures.value ∙ ap (λ (k : KeptQueues). k.playing) (c.self.view_is ∙ are.value) ∙ ap (λ (ns : List Node). playing_lines ns (is_playing_by h.diary)) are.nodes;
      step_lawful = lawful_last h y past.lawful;
    } in
    let queues = take_at c.take_in.new.queues (drop (length c.take_in.new.queues) c.self.inside.queues.items) c.self.inside.queues.len (omega (arith, c.take_in.auto.queues, c.deref_mut.ensures.len)) ∙ c.take_in.ensures h may ∙ entry_more h nodes y are.nodes in
    let playing = take_at c.play_on.new.playing (drop (length c.play_on.new.playing) c.self.inside.playing.items) c.self.inside.playing.len (omega (arith, c.play_on.auto.playing, c.deref_mut-2.ensures.len)) ∙ c.play_on.ensures h may_play ∙ plays_more h nodes y are.nodes (lawful_last h y past.lawful) in
    kept_same _ _ _ _ _ _ queues playing (ap (λ (k : KeptQueues). k.classes) (c.self.view_is ∙ are.value))
