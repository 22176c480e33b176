use Rattle.std.proofs.Common.{◌∙◌, ap, sym, Some, rules, refl}
use mir.Syntax.{w64}
use mir.Val.{SFits}
use Rattle.smil_model.specs.diary.Clocks.{outer, run}
use Rattle.smil_instance_rows.specs.Rows.{instance_at}
use Rattle.smil_instances.proofs.BirthGifts.{began_starts, repeated_starts}
use Rattle.smil_instances.proofs.SumsFit.{carried_is, moved_is, read_at}
use Rattle.smil_instances.proofs.starts.start_time_under.Goals as goal

pub returns-in-Began : goal.returns-in-Began
returns-in-Began c = λ h p are is.
    let fits : SFits w64 c.in-Began.begin = search rules in
    let own = read_at h c.args.clocks.now c.args.parent c.args.entry.moment c.run-own.result run c.requires are c.run-own.ensures.value in
    let other = read_at h c.args.clocks.now c.args.parent c.args.entry.moment c.outer-outer.result outer c.requires are c.outer-outer.ensures.value in
    ap (λ t. Some (instance_at 0 t))
    (carried_is c.run-own.result c.outer-outer.result c.in-Began.begin c.args.offset _ _ c.carried-time.result c.carried-time.ensures c.run-own.ensures.near fits c.outer-outer.ensures.near c.ranges.offset
    (own ∙ ap (λ s. run h s c.args.entry.moment) (sym is)) (other ∙ ap (λ s. outer h s c.args.entry.moment) (sym is)))
    ∙ sym (began_starts h c.args.entry c.args.offset p c.in-Began.who c.in-Began.begin c.in-Began.is (c.if-who-parent.true ∙ sym is))

pub returns-in-Repeated : goal.returns-in-Repeated
returns-in-Repeated c = λ h p are is.
    let fits : SFits w64 c.in-Repeated.start = search rules in
    ap (λ t. Some (instance_at 0 t))
    (moved_is c.in-Repeated.start c.args.offset c.in-Repeated.start c.moved-time.result c.moved-time.ensures fits c.ranges.offset refl)
    ∙ sym (repeated_starts h c.args.entry c.args.offset p c.in-Repeated.who c.in-Repeated.start c.in-Repeated.is (c.if-who-parent-2.true ∙ sym is))
