use Rattle.std.proofs.Common.{◌≡◌, ◌∷◌, ◌++◌, [], ◌∙◌, ap, sym}
use Rattle.std.specs.Prelude.{◌||◌}
use Rattle.std.proofs.lemmas.Result.{on_ok_weaker}
use Rattle.smil_model.specs.document.Closure.{has}
use Rattle.smil_model.specs.reach.Reach.{is_option}
use Rattle.smil_graph.proofs.PlaceLists.{has_push}
use Rattle.smil_graph.proofs.row.push_one.Goals as goal

pub returns-in-Some : goal.returns-in-Some
returns-in-Some c =
    on_ok_weaker c.push.result
    (λ (pushed : c.push.new.self ≡ c.args.row.now ++ c.in-Some.place ∷ []) i.
    ap (λ r. has r i) pushed
    ∙ has_push c.args.row.now c.in-Some.place i
    ∙ ap (λ o. has c.args.row.now i || is_option i o) (sym c.in-Some.is))
    c.push.ensures.ok
