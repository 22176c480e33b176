use Rattle.std.proofs.Common.{sym, subst, List}
use Rattle.std.specs.FinMap.{get}
use Rattle.smil_model.specs.declared.view.View.{View}
use Rattle.smil_shown.specs.Sets.{AreOfElements}
use Rattle.smil_shown.specs.ViewTable.{AreAt}
use Rattle.smil_shown.proofs.AllViews.{places_renewed}
use Rattle.smil_shown.proofs.view_table.ViewTable.renew.Goals as goal

pub renew_all-requires-clause-all : goal.renew_all-requires-clause-all
renew_all-requires-clause-all g c =
    subst (λ (l : List View). AreOfElements c.args.cells.now.presentation.document.nodes l) (sym c.self.view_is) c.requires.all

pub invariant_of-self : goal.invariant_of-self
invariant_of-self g c =
    subst (λ (l : List View). AreAt (get c.self.inside.places.value) l) (sym c.renew_all.ensures)
    (places_renewed c.args.cells.now (get c.self.inside.places.value) c.self.inside.rows.items c.requires.state.document.numbered.distinct
    (subst (λ (l : List View). AreOfElements c.args.cells.now.presentation.document.nodes l) (sym c.self.view_is) c.requires.all) c.self.invariant)
