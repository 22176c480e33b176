use Rattle.std.proofs.Common.{rules, ◌≡◌, ◌∙◌, sym, ap, subst, take, List, None}
use Rattle.std.proofs.lemmas.Result.{IfOk-at_ok}
use Rattle.smil_model.specs.declared.diary.Entry.{Entry}
use Rattle.smil_model.specs.declared.diary.LogEntry.{LogEntry}
use Rattle.smil_model.specs.document.Document.{Document}
use Rattle.smil_past.specs.declared.kept.KeptReadings.{KeptReadings}
use Rattle.smil_past.specs.Past.{IsPossible, MarkedHistory}
use Rattle.smil_past.specs.Chronicle.{Lags}
use Rattle.smil_past.specs.Readings.{AreReadingsOf}
use Rattle.smil_past.specs.Kept.{AreKept, AreWithin, KeepsPast}
use Rattle.smil_past.proofs.KeptFronts.{keeps_brought, kept_there, kept_within}
use Rattle.smil_past.proofs.past.Past.front.Goals as goal

pub nearest-requires-clause-within : goal.nearest-requires-clause-within
nearest-requires-clause-within c =
    let was = c.self.inside in
    let document = was.document.value in
    let log = take c.args.log was.log in
    let book = was.chronicle.book in
    let left = c.drop_later.new.kept.items in
    let possible = subst (λ (v : MarkedHistory). IsPossible v.document (take c.args.log v.log) (take c.args.diary v.diary)) (sym c.self.view_is) c.requires.possible in
    let before = subst (λ (ks : List KeptReadings). AreKept document was.log book ks) (sym (ap (λ ks. ks.items) c.replace-kept.ensures.value)) c.self.invariant.kept_are in
    let are = kept_there document was.log book c.args.log c.args.diary c.replace-kept.result.items left possible c.drop_later.ensures before in
    subst (AreWithin _) (sym c.deref.ensures.value) (kept_within document log book c.args.diary left are)

pub nearest-requires-clause-present : goal.nearest-requires-clause-present
nearest-requires-clause-present c =
    let was = c.self.inside in (
      was.log,
      was.chronicle.book,
      subst (λ (d : Document). AreReadingsOf was.chronicle.readings d was.log was.chronicle.book) (sym c.as_ref-document.ensures) c.self.invariant.tells.readings_are,
    )

pub catch_up_keeping-requires-clause-lags : goal.catch_up_keeping-requires-clause-lags
catch_up_keeping-requires-clause-lags c =
    let was = c.self.inside in
    let document = was.document.value in
    let log = take c.args.log was.log in
    let book = was.chronicle.book in
    let diary = take c.args.diary book in
    let left = c.drop_later.new.kept.items in
    let found = c.in_ok-chronicle.chronicle in
    let heard : c.cut_back.new.self ≡ log = c.cut_back.ensures ∙ ap (λ (l : List LogEntry). take c.args.log l) c.in_ok-heard.ensures in
    let possible = subst (λ (v : MarkedHistory). IsPossible v.document (take c.args.log v.log) (take c.args.diary v.diary)) (sym c.self.view_is) c.requires.possible in
    let before = subst (λ (ks : List KeptReadings). AreKept document was.log book ks) (sym (ap (λ ks. ks.items) c.replace-kept.ensures.value)) c.self.invariant.kept_are in
    let are = kept_there document was.log book c.args.log c.args.diary c.replace-kept.result.items left possible c.drop_later.ensures before in
    let here = c.as_ref-document.ensures in
    let lags = IfOk-at_ok (Lags c.as_ref-document.result.now log diary) c.in_ok-chronicle.was
    (c.nearest.ensures log c.args.diary (subst (λ (d : Document). IsPossible d log diary) (sym here) possible)
    (subst (λ (ks : List KeptReadings). AreKept c.as_ref-document.result.now log diary ks) (sym c.deref.ensures.value) (subst (λ (d : Document). AreKept d log diary left) (sym here) are))) in
    subst (λ (d : Document). Lags d c.cut_back.new.self (take c.args.diary c.entries.result.now) found) (sym c.tree.ensures)
    (subst (λ (l : List LogEntry). Lags c.as_ref-document.result.now l (take c.args.diary c.entries.result.now) found) (sym heard)
    (subst (λ (ds : List Entry). Lags c.as_ref-document.result.now log (take c.args.diary ds) found) (sym c.entries.ensures) lags))

pub catch_up_keeping-requires-clause-kept : goal.catch_up_keeping-requires-clause-kept
catch_up_keeping-requires-clause-kept c =
    let was = c.self.inside in
    let document = was.document.value in
    let log = take c.args.log was.log in
    let book = was.chronicle.book in
    let left = c.drop_later.new.kept.items in
    let heard : c.cut_back.new.self ≡ log = c.cut_back.ensures ∙ ap (λ (l : List LogEntry). take c.args.log l) c.in_ok-heard.ensures in
    let possible = subst (λ (v : MarkedHistory). IsPossible v.document (take c.args.log v.log) (take c.args.diary v.diary)) (sym c.self.view_is) c.requires.possible in
    let before = subst (λ (ks : List KeptReadings). AreKept document was.log book ks) (sym (ap (λ ks. ks.items) c.replace-kept.ensures.value)) c.self.invariant.kept_are in
    let are = kept_there document was.log book c.args.log c.args.diary c.replace-kept.result.items left possible c.drop_later.ensures before in
    subst (λ (d : Document). AreKept d c.cut_back.new.self (take c.args.diary c.entries.result.now) left) (sym (c.tree.ensures ∙ c.as_ref-document.ensures))
    (subst (λ (l : List LogEntry). AreKept document l (take c.args.diary c.entries.result.now) left) (sym heard)
    (subst (λ (ds : List Entry). AreKept document log (take c.args.diary ds) left) (sym c.entries.ensures) are))

pub invariant_of-result : goal.invariant_of-result
invariant_of-result c =
    let chronicle = c.catch_up_keeping.new.chronicle in
    let kept = c.catch_up_keeping.new.kept.items in
    let same : c.in_ok-clone.field-0.value ≡ c.self.inside.document.value = search rules in
    subst (λ (d : Document). KeepsPast d c.cut_back.new.self chronicle c.in_ok-notes.notes None kept) (c.tree.ensures ∙ c.as_ref-document.ensures ∙ sym same)
    (keeps_brought c.tree.result.now c.cut_back.new.self (take c.args.diary c.entries.result.now) chronicle c.in_ok-notes.notes kept c.in_ok-catch_up_keeping.ensures)
