use Rattle.std.proofs.Common.{◌≡◌, ◌∙◌, ap, sym, [], ◌∷◌, ◌++◌, List}
use Rattle.std.specs.Prelude.{flat_map, not}
use Rattle.smil_model.specs.declared.times.Time.{Time}
use Rattle.smil_instances.specs.declared.syncbase.Syncbase.{Syncbase}
use Rattle.smil_past.specs.Past.{history_of}
use Rattle.smil_past.specs.Syncs.{expected_by}
use Rattle.smil_element.proofs.ExpectedTimes.{none_given, none_waited, is_not_some}
use Rattle.smil_element.proofs.expected.gives_none.Goals as goal

pub returns : goal.returns
returns g c = λ q now who.
    let h = history_of c.args.past.now in
    let given = g.J.Intervals.given c.args.intervals.now in
    let f = expected_by h given now who in
    let s = c.in-Some.sync.now in
    let rest : c.in-Some.rest.now ≡ [] = none_waited c.in-Some.rest.now (sym c.is_empty.ensures ∙ c.if-not-is_empty.false) in
    ap (flat_map f) (c.in-Some.ensures.cases.0 ∙ ap (λ (ss : List Syncbase). s ∷ ss) rest)
    ∙ ap (λ (ts : List Time). ts ++ []) (sym (none_given h given now who s (is_not_some c.edge_value.result (c.is_none.ensures ∙ ap not q) ∙ c.edge_value.ensures.value)))
