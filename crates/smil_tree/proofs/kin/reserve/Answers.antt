use Rattle.std.proofs.Common.{sym, ap, ◌∙◌, arith}
use Rattle.std.proofs.lemmas.Result.{on_ok_weaker}
use Rattle.std.specs.Prelude.{is_some}
use Rattle.std.specs.Option.{option_copied_mut}
use Rattle.smil_tree.proofs.kin.reserve.Goals as goal

pub returns-in-Some-clause-ok : goal.returns-in-Some-clause-ok
returns-in-Some-clause-ok c =
    on_ok_weaker c.reserve.result
    (λ room. (
      c.reserve.new.self,
      ((c.get_mut.follows.holds c.reserve.new.self).3 (ap is_some (sym c.get_mut.ensures.value ∙ ap option_copied_mut c.in-Some.is))).1,
      omega (arith, room),
    ))
    c.reserve.ensures.ok

pub returns-clause-ok : goal.returns-clause-ok
returns-clause-ok c =
    (c.in_ok-with_capacity.field-0, c.in_ok-insert.ensures.updates.1, omega (arith, c.in_ok-with_capacity.ensures.len, c.in_ok-with_capacity.ensures.capacity))
