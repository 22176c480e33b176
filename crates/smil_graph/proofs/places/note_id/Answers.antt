use Rattle.std.proofs.Common.{◌≡◌, sym, ◌∙◌, ap, true, Some, None, rules}
use Rattle.std.specs.Prelude.{cond, ◌&&◌, bytes_eq}
use Rattle.std.specs.HashMap.{get_by}
use Rattle.std.specs.Option.{option_or}
use Rattle.smil_model.specs.document.Document.{is_element, has_id}
use Rattle.smil_graph.proofs.places.note_id.Goals as goal

pub returns-in_ok-note_first : goal.returns-in_ok-note_first
returns-in_ok-note_first c = λ id.
    let e : is_element c.args.node.now ≡ true = search rules in
    let test : (is_element c.args.node.now && has_id id c.args.node.now.attrs.id) ≡ bytes_eq c.slice.result.now id =
    ap (λ t. t && has_id id c.args.node.now.attrs.id) e ∙ ap (has_id id) c.in-Some.is ∙ ap (λ own. bytes_eq own id) (sym c.slice.ensures) in
    c.in_ok-note_first.ensures id
    ∙ ap (λ t. option_or (get_by (λ k. bytes_eq id k.now) c.args.places.now) (cond t (Some c.args.place) None)) (sym test)
