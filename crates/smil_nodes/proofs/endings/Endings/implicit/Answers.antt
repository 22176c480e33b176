use Rattle.std.proofs.Common.{◌≡◌, ◌∙◌, ap, sym, subst, rules, ◌<◌, length, w64, to_z, of_z}
use Rattle.std.specs.Prelude.{slice_index_or, []}
use Rattle.std.proofs.lemmas.Int.{to_z-of_z}
use Rattle.smil_model.specs.interval.Durations.{container_duration}
use Rattle.smil_nodes.specs.Endings.{KeptEnds}
use Rattle.smil_nodes.proofs.EndingPlaces.{row_free}
use Rattle.smil_nodes.proofs.endings.Endings.implicit.Goals as goal

pub returns : goal.returns
returns c =
    let i = c.self.inside in
    let within = subst (λ (kept : KeptEnds). c.args.index < length kept.ends) (sym c.self.view_is) c.requires in
    let row = row_free i.ends.items c.args.index c.index-ends.result.now c.index-ends.ensures within ∙ ap (λ (kept : KeptEnds). slice_index_or kept.ends c.args.index []) c.self.view_is in
    let told : c.by_endsync.result ≡ container_duration c.args.kind c.by_endsync.ensures.0.now (to_z w64 (of_z w64 c.args.start)) c.index-ends.result.now = search rules in
    told ∙ (λ j. container_duration c.args.kind (c.by_endsync.ensures.2 j) (to_z-of_z w64 c.args.start c.ranges.start j) (row j))
