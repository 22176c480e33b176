use Rattle.std.proofs.Common.{◌≡◌, sym, ◌∙◌, ap, subst}
use Rattle.std.specs.FinMap.{get}
use Rattle.smil_shown.proofs.ViewPlaces.{view_read, view_absent, absent}
use Rattle.smil_shown.specs.ViewTable.{view_in}
use Rattle.smil_shown.proofs.view_table.ViewTable.view.Goals as goal

pub returns-in-Some : goal.returns-in-Some
returns-in-Some c =
    let s = c.args.serial in
    let e = c.in-Some.ensures ∙ ap (λ places. get places s) c.deref.ensures ∙ c.self.invariant.place s in
    subst (λ shown. c.index.result.now ≡ view_in shown s) c.self.view_is
    (view_read s c.self.inside.rows.items c.in-Some.place c.index.result.now e c.index.ensures)

pub returns-in-None : goal.returns-in-None
returns-in-None c =
    let s = c.args.serial in
    let e = c.in-None.ensures ∙ ap (λ places. get places s) c.deref.ensures ∙ c.self.invariant.place s in
    subst (λ shown. c.blank.result ≡ view_in shown s) c.self.view_is
    (c.blank.ensures ∙ sym (view_absent s c.self.inside.rows.items (absent s c.self.inside.rows.items e)))
