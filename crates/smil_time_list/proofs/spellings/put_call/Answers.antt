use Rattle.std.proofs.Common.{◌∷◌, []}
use Rattle.std.specs.Prelude.{codes}
use Rattle.std.proofs.lemmas.Result.{on_ok_weaker}
use Rattle.smil_time_list.proofs.ItemRoundTrip.{in_a_row}
use Rattle.smil_time_list.proofs.spellings.put_call.Goals as goal

pub returns-clause-ok : goal.returns-clause-ok
returns-clause-ok c =
    on_ok_weaker c.append-3.result
    (λ last. in_a_row c.args.out.now c.append.new.self c.append-2.new.self c.append-3.new.self (codes "accesskey(") (c.args.key ∷ []) (codes ")") c.in_ok-append.ensures.ok c.in_ok-append-2.ensures.ok last)
    c.append-3.ensures.ok
