use Rattle.std.proofs.Common.{◌≡◌, ◌∙◌, ap, sym, []}
use Rattle.std.proofs.lemmas.Option.{same_Some}
use Rattle.std.specs.Option.{option_map}
use Rattle.smil_model.specs.declared.document.Attrs.{Attrs}
use Rattle.smil_model.specs.declared.document.Node.{Node}
use Rattle.smil_instance_rows.specs.Rows.{ElementTimes}
use Rattle.smil_instances.proofs.StartingRows.{row_made}
use Rattle.smil_instances.proofs.idle.idle_row.Goals as goal

pub push_ends-requires : goal.push_ends-requires
push_ends-requires c =
    let el = c.requires.element in
    let attrs : el.element.attrs ≡ c.attrs-attrs.result.now = sym (same_Some _ _ (c.attrs-attrs.ensures ∙ ap (option_map (λ (n : Node). n.attrs)) el.known)) in
    ap (λ (r : ElementTimes). r.ends) (c.in_ok-push_begins.ensures c.args.tree.now [] el.element c.requires.dependents el.here (ap (λ (a : Attrs). a.begin) attrs))
    ∙ ap (λ (r : ElementTimes). r.ends) c.new-row.ensures

pub returns : goal.returns
returns c = λ log e here.
    let el = c.requires.element in
    let attrs : el.element.attrs ≡ c.attrs-attrs.result.now = sym (same_Some _ _ (c.attrs-attrs.ensures ∙ ap (option_map (λ (n : Node). n.attrs)) el.known)) in
    row_made c.args.tree.now log c.args.sources.now.place c.args.serial el.element e c.new-row.result c.push_begins.new.row c.push_ends.new.row el.here here el.same c.new-row.ensures
    (c.in_ok-push_begins.ensures c.args.tree.now log el.element c.requires.dependents el.here (ap (λ (a : Attrs). a.begin) attrs))
    (c.in_ok-push_ends.ensures c.args.tree.now log el.element c.requires.dependents el.here (ap (λ (a : Attrs). a.«end») attrs))
