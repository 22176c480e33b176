use Rattle.std.proofs.Common.{◌≡◌, sym, ap, ◌∙◌}
use Rattle.std.specs.Prelude.{filter, is_some, option_map, slice_get}
use Rattle.std.proofs.lemmas.Option.{get_or_from_slice_get}
use Rattle.smil_model.specs.document.Document.{serials, time_children}
use Rattle.smil_excl.specs.declared.queued_child.QueuedChild.{QueuedChild}
use Rattle.smil_excl.specs.QueueState.{QueueState}
use Rattle.smil_past.proofs.PlayingChildren.{excl_kept, excl_line, first_placed, kind_known}
use Rattle.smil_past.proofs.KnownNodes.{known_place}
use Rattle.smil_past.proofs.queues.playing.first_playing.Goals as goal

pub unwrap-place-requires : goal.unwrap-place-requires
unwrap-place-requires c = ap is_some c.position.ensures ∙ known_place c.args.tree.now.nodes c.args.excl (kind_known c.args.tree.now.nodes c.args.excl c.requires)

pub returns : goal.returns
returns c = λ plays is.
    let nodes = c.args.tree.now.nodes in
    let excl = c.args.excl in
    let at = excl_kept nodes plays c.args.playing.now excl c.unwrap-place.result c.valid.ensures.numbered.distinct c.requires (sym c.unwrap-place.ensures ∙ c.position.ensures) is in
    let line : c.in_ok-get.field-0.now ≡ excl_line nodes plays excl = c.in_ok-get.ensures.lookup.1 ∙ get_or_from_slice_get c.args.playing.now c.unwrap-place.result (excl_line nodes plays excl) c.in_ok-get.field-0.now at in
    c.first.ensures
    ∙ ap (λ (l : QueueState). option_map (λ (f : QueuedChild). f.who) (slice_get l.held 0)) line
    ∙ first_placed nodes (filter plays (serials (time_children nodes excl)))
