use Rattle.std.proofs.Common.{◌≡◌, ◌∙◌, sym, ap, subst, ◌<◌, length, [], ◌∷◌, ◌++◌}
use Rattle.std.specs.Prelude.{get_or, set}
use Rattle.smil_instance_rows.specs.Values.{merged, with_idle}
use Rattle.smil_instance_rows.proofs.IdleItems.{get_idle, set_idle}
use Rattle.smil_instance_rows.proofs.MergedValues.{merged_undo, has_last}
use Rattle.smil_model.proofs.RisingLists.{default_free}
use Rattle.smil_instance_rows.proofs.item_lists.ItemLists.undo.Goals as goal

pub invariant_of-self : goal.invariant_of-self
invariant_of-self g c =
    let le = g.T.Instant.at_most in
    let choose = g.T.Instant.choose in
    let items = c.self.inside.items.items in
    let own = c.in-Some.list.now in
    let inside = c.in-Some.ensures.item.3.0 in
    let was : own ≡ get_or c.args.self.now c.args.item [] =
    c.in-Some.ensures.value ∙ default_free items c.args.item own [] inside ∙ sym (get_idle c.self.inside.idle c.args.item items) ∙ ap (λ xs. get_or xs c.args.item []) c.self.view_is in
    let some : 0 < length own = subst (λ xs. 0 < length xs) (sym was) c.requires.some in
    let ends = has_last own some in
    let done = c.undo.ensures ends.0 ends.1 (merged le choose (set items c.args.item ends.0)) ends.2 (c.self.invariant ∙ merged_undo le g.T.Instant.order choose items c.args.item own ends.0 ends.1 inside c.in-Some.ensures.value ends.2) in
    done.1 ∙ ap (λ l. merged le choose (set items c.args.item l)) (sym done.0)

pub returns-in-Some : goal.returns-in-Some
returns-in-Some g c = λ first last q.
    let le = g.T.Instant.at_most in
    let choose = g.T.Instant.choose in
    let items = c.self.inside.items.items in
    let idle = c.self.inside.idle in
    let own = c.in-Some.list.now in
    let inside = c.in-Some.ensures.item.3.0 in
    let is : own ≡ first ++ last ∷ [] =
    c.in-Some.ensures.value ∙ default_free items c.args.item own [] inside ∙ sym (get_idle idle c.args.item items) ∙ ap (λ xs. get_or xs c.args.item []) c.self.view_is ∙ q in
    let done = c.undo.ensures first last (merged le choose (set items c.args.item first)) is (c.self.invariant ∙ merged_undo le g.T.Instant.order choose items c.args.item own first last inside c.in-Some.ensures.value is) in
    sym (set_idle idle c.args.item items c.undo.new.kept inside) ∙ ap (set (with_idle idle items) c.args.item) done.0 ∙ ap (λ xs. set xs c.args.item first) c.self.view_is
