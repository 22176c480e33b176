-- What has happened in a presentation is lawful for its document, and what an order names may happen.
use Rattle.std.proofs.Common.{◌≡◌, ℕ, List, true, sym, ap, subst, ◌∙◌, length, take}
use Rattle.std.specs.Prelude.{ℤ, not, ◌&&◌}
use Rattle.std.proofs.Math.Seq.{take-length}
use Rattle.std.proofs.lemmas.Bool.{and_parts}
use Rattle.smil_model.specs.declared.diary.Entry.{Entry}
use Rattle.smil_model.specs.declared.diary.LogEntry.{LogEntry}
use Rattle.smil_model.specs.declared.diary.Happening.TheVariants as happening
use Rattle.smil_model.specs.document.Document.{Document}
use Rattle.smil_model.specs.document.Values.{is_clock}
use Rattle.smil_model.specs.document.Words.{is_event_name, is_raised_name}
use Rattle.smil_model.specs.diary.Logs.{is_serial, may_happen}
use Rattle.smil_past.specs.Past.{MarkedHistory, IsPossible}
use Rattle.smil_past.proofs.KeptFronts.{possible_front}
use Rattle.smil_stretch.specs.Clocks.{IsLawfulFor}

pub lawful_for : (past : MarkedHistory) (document : Document) (diary : List Entry) → IsPossible past.document past.log past.diary → document ≡ past.document → diary ≡ past.diary → IsLawfulFor document diary
lawful_for past document diary possible same_document same_diary = record {
  past = record { nodes = past.document.nodes; log = past.log; diary = past.diary };
  history = record {
    same_nodes = sym (ap (λ (d : Document). d.nodes) same_document);
    same_diary = sym same_diary;
    lawful = possible.lawful;
  };
}

-- what had happened by the first entries is possible
pub possible_first : (past : MarkedHistory) (document : Document) (log : List LogEntry) (diary : List Entry) (len : ℕ) → IsPossible past.document past.log past.diary → document ≡ past.document → log ≡ past.log → diary ≡ past.diary → IsPossible document log (take len diary)
possible_first past document log diary len possible same_document same_log same_diary =
    subst (λ d. IsPossible d log (take len diary)) (sym same_document)
    (subst (λ l. IsPossible past.document l (take len diary)) (sym same_log)
    (subst (λ ds. IsPossible past.document past.log (take len ds)) (sym same_diary) (possible_front past.document past.log past.diary len possible)))

-- with the whole log too
pub possible_heard : (past : MarkedHistory) (heard len : ℕ) → IsPossible past.document past.log past.diary → heard ≡ length past.log → IsPossible past.document (take heard past.log) (take len past.diary)
possible_heard past heard len possible all =
    subst (λ l. IsPossible past.document l (take len past.diary)) (sym (ap (λ n. take n past.log) all ∙ take-length past.log)) (possible_front past.document past.log past.diary len possible)

pub may_event : (s : ℕ) (name : List ℕ) → is_serial s ≡ true → (is_event_name name && not (is_raised_name name)) ≡ true → may_happen (happening.Event s name) ≡ true
may_event s name serial is =
    let parts = and_parts (is_event_name name) (not (is_raised_name name)) is in
    ap (λ t. (t && is_event_name name) && not (is_raised_name name)) serial ∙ ap (λ t. t && not (is_raised_name name)) parts.0 ∙ parts.1

pub may_media : (s : ℕ) (long : ℤ) → is_serial s ≡ true → is_clock long ≡ true → may_happen (happening.Media s long) ≡ true
may_media s long serial is = ap (λ t. t && is_clock long) serial ∙ is
