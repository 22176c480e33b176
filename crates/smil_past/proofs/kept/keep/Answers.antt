use Rattle.std.proofs.Common.{sym, subst}
use Rattle.std.proofs.lemmas.List.Elements.{All-push}
use Rattle.smil_past.specs.declared.kept.KeptReadings.{KeptReadings}
use Rattle.smil_past.specs.Kept.{AreKept, IsKept}
use Rattle.smil_past.proofs.KeptFronts.{kept_of}
use Rattle.smil_past.proofs.kept.keep.Goals as goal

pub returns : goal.returns
returns c = λ document log diary lags are.
    let k : KeptReadings = record { len = c.len.result; readings = c.in_ok-copy.field-0 } in
    subst (AreKept document log diary) (sym c.in_ok-push.ensures.items)
    (All-push (IsKept document log diary) c.make_room.new.kept.items k (c.make_room.ensures document log diary are)
    (kept_of document log diary c.args.chronicle.now k c.len.ensures.value c.in_ok-copy.ensures lags))
