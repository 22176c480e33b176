use Rattle.std.proofs.Common.{sym, ◌∙◌}
use Rattle.std.specs.Prelude.{bytes_eq}
use Rattle.std.specs.HashMap.{get_by}
use Rattle.smil_graph.proofs.NodesByPlace.{noted_before, noted_now}
use Rattle.smil_graph.proofs.places.note_first.Goals as goal

pub returns-then-contains_key : goal.returns-then-contains_key
returns-then-contains_key c = λ q.
    noted_before (λ id. get_by (λ k. bytes_eq id k.now) c.args.places.now) c.args.id.now q c.args.place (sym c.contains_key.ensures ∙ c.if-contains_key.true)

pub returns : goal.returns
returns c = λ q.
    noted_now (λ id. get_by (λ k. bytes_eq id k.now) c.args.places.now) c.args.id.now q c.args.place _ (sym c.contains_key.ensures ∙ c.if-contains_key.false)
    (c.in_ok-insert.ensures.updates.0 (record { ref_ptr = (0, 0); now = q }))
