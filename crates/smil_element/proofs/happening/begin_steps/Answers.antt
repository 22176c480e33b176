use Rattle.std.proofs.Common.{◌∷◌, [], ap, ◌∙◌, w64, to_z, of_z}
use Rattle.std.proofs.lemmas.Int.{to_z-of_z}
use Rattle.smil_model.specs.declared.diary.Step.TheVariants.{Began}
use Rattle.smil_model.specs.document.Document.{time_parent}
use Rattle.smil_model.specs.happening.Groups.{begin_under, interruption}
use Rattle.smil_model.specs.happening.Queue.{decision}
use Rattle.smil_element.proofs.LastAppended.{retold, told}
use Rattle.smil_element.proofs.PlayingChild.{rival_known}
use Rattle.smil_element.proofs.EndFollowers.{begins_against, begins_alone}
use Rattle.smil_element.proofs.happening.begin_steps.Goals as goal

pub interrupt-requires-clause-known : goal.interrupt-requires-clause-known
interrupt-requires-clause-known c =
    let h = c.requires.parts.0 in
    let parts = c.requires.parts.1 in
    rival_known h c.args.parts.now.tree.now.nodes c.in-Some.playing (time_parent h.nodes c.args.who) parts.same_nodes (c.in-Some.ensures h parts)

pub returns-in-Some : goal.returns-in-Some
returns-in-Some c =
    let now = c.args.parts.now in
    let who = c.args.who in
    let begin = c.args.begin in
    let playing = c.in-Some.playing in
    retold c.interrupt.result now c.args.entries.now c.interrupt.new.entries (λ h m. interruption h m who (to_z w64 (of_z w64 begin)) playing (decision h.nodes playing who)) (λ h m. begin_under h m who begin (time_parent h.nodes who)) c.interrupt.ensures
    (λ h parts.
    ap (λ v. interruption h now.moment who v playing (decision h.nodes playing who)) (to_z-of_z w64 begin c.ranges.begin)
    ∙ begins_against h now.moment who begin playing (time_parent h.nodes who) (c.in-Some.ensures h parts))

pub returns-in-None : goal.returns-in-None
returns-in-None c =
    let now = c.args.parts.now in
    let who = c.args.who in
    let begin = c.args.begin in
    told c.put.result now c.args.entries.now c.put.new.entries (Began who (to_z w64 (of_z w64 begin)) ∷ []) (λ h m. begin_under h m who begin (time_parent h.nodes who)) c.put.ensures
    (λ h parts.
    ap (λ v. Began who v ∷ []) (to_z-of_z w64 begin c.ranges.begin)
    ∙ begins_alone h now.moment who begin (time_parent h.nodes who) (c.in-None.ensures h parts))
