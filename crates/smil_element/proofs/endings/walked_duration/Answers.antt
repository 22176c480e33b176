use Rattle.std.proofs.Common.{◌≡◌, ◌∙◌, ap, rules, to_z, of_z}
use Rattle.std.proofs.lemmas.Int.{to_z-of_z}
use mir.Syntax.{w64}
use mir.Val.{SFits}
use Rattle.smil_model.specs.document.Defaults.{endsync_of}
use Rattle.smil_model.specs.interval.Durations.{container_duration}
use Rattle.smil_element.proofs.endings.walked_duration.Goals as goal

pub returns : goal.returns
returns g c = λ e here.
    let start = c.args.container.now.start in
    let fits : SFits w64 start = search rules in
    let told : c.by_endsync.result ≡ container_duration c.kind_of-kind.result c.by_endsync.ensures.0.now (to_z w64 (of_z w64 start)) c.as_slice-ends.result.now = search rules in
    told
    ∙ (λ i. container_duration (c.kind_of-kind.ensures e here i) ((c.by_endsync.ensures.2 ∙ ap endsync_of (c.attrs_of.ensures e here)) i) (to_z-of_z w64 start fits i) (c.as_slice-ends.ensures.value i))
    ∙ c.in_ok-deciding_ends.ensures e (endsync_of e.attrs) start here
