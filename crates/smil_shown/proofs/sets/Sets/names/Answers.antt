use Rattle.std.proofs.Common.{◌∙◌, sym, ap, subst, []}
use Rattle.std.specs.Prelude.{option_map, unwrap_or}
use Rattle.smil_shown.specs.Sets.{AreSetsOf}
use Rattle.smil_shown.proofs.SetLayers.{rows_are}
use Rattle.smil_shown.proofs.sets.Sets.names.Goals as goal

pub returns-in-Some : goal.returns-in-Some
returns-in-Some c = λ all are.
    let here = subst (λ sets. AreSetsOf sets all) (sym c.self.view_is) are in
    c.deref.ensures.value
    ∙ (ap (λ o. unwrap_or (option_map (λ v. v.items) o) []) c.in-Some.ensures.value
    ∙ (sym (rows_are c.self.inside.names.entries c.args.target) ∙ here.names c.args.target))

pub returns-in-None : goal.returns-in-None
returns-in-None c = λ all are.
    let here = subst (λ sets. AreSetsOf sets all) (sym c.self.view_is) are in
    ap (λ o. unwrap_or (option_map (λ v. v.items) o) []) c.in-None.ensures.value
    ∙ (sym (rows_are c.self.inside.names.entries c.args.target) ∙ here.names c.args.target)
