use Rattle.std.proofs.Common.{sym, subst}
use Rattle.smil_instance_rows.specs.Places.{IsUndone}
use Rattle.smil_instance_rows.proofs.TimesByPlace.{undone_last}
use Rattle.smil_instance_rows.proofs.item_times.undo.Goals as goal

pub returns-in-Some : goal.returns-in-Some
returns-in-Some g c =
    let le = g.T.Instant.at_most in
    let choose = g.T.Instant.choose in
    subst (λ xs. IsUndone le choose c.args.kept.now c.pop_last.new.self c.args.sorted.now xs) (sym c.take_out_value.ensures)
    (undone_last le g.T.Instant.order choose c.args.kept.now c.pop_last.new.self c.in-Some.last c.args.sorted.now c.in-Some.ensures.some)
