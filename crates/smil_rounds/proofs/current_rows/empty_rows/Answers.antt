use Rattle.std.proofs.Common.{sym, ◌∙◌, ap, ◌++◌, ◌∷◌, [], None, get_or, map}
use Rattle.std.proofs.lemmas.List.{take_all}
use Rattle.std.proofs.lemmas.Option.{slice_get-get_or}
use Rattle.smil_instances.proofs.ListsMade.{map_next}
use Rattle.smil_element.specs.Changes.{ChangesDue}
use Rattle.smil_rounds.specs.Rows.{row_without}
use Rattle.smil_rounds.proofs.current_rows.empty_rows.Goals as goal

pub loop-who-preserved : goal.loop-who-preserved
loop-who-preserved c =
    let whos = c.args.whos.now in
    let i = c.loop-who.who-index in
    let who = get_or whos i 0 in
    c.in_ok-push.ensures.items
    ∙ ap (λ (d : ChangesDue). c.loop-who.rows.items ++ record { serial = who; interval = None; comings = d } ∷ []) c.nothing.ensures
    ∙ ap (λ rows. rows ++ row_without who ∷ []) c.loop-who.invariant
    ∙ sym (map_next row_without whos i who (slice_get-get_or whos i 0 c.loop-who-test.true))

pub returns : goal.returns
returns c = c.loop-who.invariant ∙ ap (map row_without) (take_all c.loop-who.who-index c.args.whos.now c.loop-who-test.false)
