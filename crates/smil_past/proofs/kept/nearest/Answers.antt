use Rattle.std.proofs.Common.{◌≡◌, ◌≤◌, ◌∙◌, sym, ap, subst, length, take, List, ◌-◌, arith}
use Rattle.std.proofs.lemmas.List.{length-take, take-take}
use Rattle.std.proofs.lemmas.Result.{IfOk-weaker}
use Rattle.smil_model.specs.declared.diary.Entry.{Entry}
use Rattle.smil_past.specs.declared.kept.KeptReadings.{KeptReadings}
use Rattle.smil_past.specs.Chronicle.{Lags, TellsNothing}
use Rattle.smil_past.specs.Kept.{IsKept}
use Rattle.smil_past.proofs.KeptFronts.{kept_at, lags_of}
use Rattle.smil_past.proofs.Catching.{lags_new}
use Rattle.smil_past.proofs.kept.nearest.Goals as goal

pub returns-in_default : goal.returns-in_default
returns-in_default c = λ log len possible are.
    let document = c.args.document.now in
    let diary = take len c.args.book.now in
    IfOk-weaker c.nothing_yet.result (TellsNothing document log) (Lags document log diary)
    (λ k nothing. lags_new document log diary k possible nothing)
    (c.nothing_yet.ensures log)

pub cut_back-requires : goal.cut_back-requires
cut_back-requires c =
    let kept = c.args.kept.now in
    let k = c.in-Some.last.now in
    let within : k.len ≤ length c.args.book.now = kept_at (λ (k : KeptReadings). k.len ≤ length c.args.book.now) kept (length kept - 1) k (sym c.in-Some.ensures.value) c.requires.within in
    subst (λ (ds : List Entry). k.len ≤ length ds) (sym c.in_ok-book.ensures) within

pub returns : goal.returns
returns c = λ log len possible are.
    let document = c.args.document.now in
    let book = c.args.book.now in
    let kept = c.args.kept.now in
    let k = c.in-Some.last.now in
    let is = kept_at (IsKept document log (take len book)) kept (length kept - 1) k (sym c.in-Some.ensures.value) are in
    let low : k.len ≤ len = omega (arith, is.within, length-take len book) in
    let front : c.cut_back.new.self ≡ take k.len (take len book) = c.cut_back.ensures ∙ ap (λ (ds : List Entry). take k.len ds) c.in_ok-book.ensures ∙ sym (take-take k.len len book low) in
    lags_of document log (take len book) (record { book = c.cut_back.new.self; readings = c.in_ok-copy.field-0 }) k front c.in_ok-copy.ensures is
