use Rattle.std.proofs.Common.{◌∙◌, ap}
use Rattle.std.specs.Prelude.{◌==◌}
use Rattle.std.proofs.lemmas.List.Folds.{list_any-append}
use Rattle.smil_model.specs.document.Closure.{has}
use Rattle.smil_graph.proofs.row.push_all.Goals as goal

pub returns : goal.returns
returns c = λ i.
    ap (λ r. has r i) c.in_ok-append.ensures.ok ∙ list_any-append (λ j. j == i) c.args.row.now c.args.places.now
