-- An order that meets no limit is answered the same within larger limits.
use Rattle.std.proofs.Common.{◌≡◌, Bool, true, false, List, [], ◌∷◌, Some, None, Result, Ok, Err, refl, ap, ◌∙◌}
use Rattle.std.specs.Prelude.{ℕ, ℤ, cond, Option, pos, not, ◌++◌, ◌*◌, drop, length, nat_lt, unwrap_or, if◌then◌else◌}
use Rattle.std.proofs.lemmas.Bool.{or_parts}
use Rattle.smil_model.specs.declared.order.Order.{Order}
use Rattle.smil_model.specs.declared.order.Refusal.{Refusal}
use Rattle.smil_model.specs.document.Limits.{Limits}
use Rattle.smil_model.specs.shown.Orders.{Presentation, opened_within, outcome_within}
use Rattle.smil_model.specs.shown.Answers.{answer_text, load_text}
use Rattle.smil_model.specs.shown.Lines.{ok_line}
use Rattle.smil_grammar.specs.declared.read.Read.{Read}
use Rattle.smil_grammar.specs.declared.read.Read.TheVariants.{Blank, Load, LoadAt, Prefer, Close, To}
use Rattle.smil_grammar.specs.Results.{◌>>=◌}
use Rattle.smil_grammar.specs.Scripts.{line_of}
use Rattle.smil_grammar.specs.Formats.{formats}
use Rattle.smil_model.specs.declared.limits.TheConstants.{LINE_BYTES}
use Rattle.smil_model.specs.declared.order.Refusal.TheVariants as refusal
use Rattle.smil_grammar.specs.Outlines.{Outline, opens_saved, refuse_if, line_within, ended, version_of}
use Rattle.smil_switch.specs.Preferences.{Wanted}
use Rattle.smil_switch.specs.declared.chosen.Chosen.{Chosen}
use Rattle.smil_switch.specs.declared.chosen.Chosen.TheVariants.{Dropped, Kept}
use Rattle.smil_switch.specs.Choices.{Choice, pushed}
use Rattle.smil_top.specs.Loading.{Loading, unread, read_raised, raised_within, walled, with_root, kept_within, answered_within, chosen_within, saved_within, is_saved, loading_within}
use Rattle.smil_laws.specs.Migration.{AreBelow, is_for_limit, meets_no_limit}
use Rattle.smil_laws.proofs.LargerLimits.{outcome_same, opening_same}
use Rattle.smil_outline.proofs.LargerLimits.{line_same, then_same as plain_same}
use Rattle.smil_top.specs.declared.fault.Fault.{Fault}
use Rattle.smil_top.specs.Cut.{NumberedLine, LoadLines, OrderLines, single, load, first_line}
use Rattle.smil_top.specs.Session.{Session, presentation_of, with_state, may_load}
use Rattle.smil_top.specs.Answers.{AcceptedOrder, Answer, LoadedDocument, at_line, read_of, found_presentation, ordered_within, said_within, LoadHead, head_of, loading_from, given_within, loaded_within, checked, answer_within, check_within}
use Rattle.smil_top.specs.Transcript.{Answering, TranscriptState, takes_memory, with_answer, untold}
use Rattle.smil_top.specs.Laws.{OrderAttempt, answer_to, told_by, heard, session_after, answered_from, answered_by, refuses_as, any_refused_as}
use Rattle.smil_top.proofs.TranscriptAnswers.{told_further, session_with}

-- accepted, or refused for another cause than a limit, at a line
spares : {A : Type 0} → Result A Fault → Bool
spares (Ok x) = true
spares (Err fault) = not (is_for_limit fault.refusal)

unlimited : (answer : Answer) → refuses_as is_for_limit (heard answer) ≡ false → spares answer ≡ true
unfolding spares
unlimited (Ok accepted) m = refl
unlimited (Err fault) m = ap not m

-- the same steps behind the same results have the same outcome
then_same : {A B : Type 0} (r q : Result A Fault) (f g : A → Result B Fault) → spares (r >>= f) ≡ true → (spares r ≡ true → q ≡ r) → ((x : A) → spares (f x) ≡ true → g x ≡ f x) → (q >>= g) ≡ (r >>= f)
unfolding spares
then_same (Ok x) q f g m first later = ap (λ z. z >>= g) (first refl) ∙ later x m
then_same (Err e) q f g m first later = ap (λ z. z >>= g) (first m)

-- a refusal at a line
at_same : {A : Type 0} (line : ℕ) (r q : Result A Refusal) → spares (at_line line r) ≡ true → (meets_no_limit r ≡ true → q ≡ r) → at_line line q ≡ at_line line r
unfolding spares
at_same line (Ok x) q m same = ap (at_line line) (same refl)
at_same line (Err e) q m same = ap (at_line line) (same m)

module _ (small large : Limits) (below : AreBelow small large) where
  -- ---- single lines

  ordered_same : (session : Session) (line : ℕ) (name : List ℕ) (order : Order) → meets_no_limit (ordered_within small session line name order) ≡ true
      → ordered_within large session line name order ≡ ordered_within small session line name order
  ordered_same session line name order m =
      let with : Presentation → Presentation → Result AcceptedOrder Refusal = λ before after. Ok (record {
        text = answer_text formats before after order ++ ok_line line name (pos after.now);
        session = with_state name after session;
      }) in
      plain_same (found_presentation (presentation_of name session)) (found_presentation (presentation_of name session))
      (λ before. outcome_within small formats before order >>= with before) (λ before. outcome_within large formats before order >>= with before) m (λ _. refl)
      (λ before v. plain_same (outcome_within small formats before order) (outcome_within large formats before order) (with before) (with before) v (outcome_same small large below formats before order) (λ after w. refl))

  said_same : (session : Session) (line : ℕ) (read : Read) → meets_no_limit (said_within small session line read) ≡ true → said_within large session line read ≡ said_within small session line read
  said_same session line (To name order) m = ordered_same session line name order m
  said_same session line (Close name) m = refl
  said_same session line (Prefer word value) m = refl
  said_same session line (Load name) m = refl
  said_same session line (LoadAt name start) m = refl
  said_same session line Blank m = refl

  -- ---- loads

  -- a refusal of a line that was raised is for a limit where it is one of the line
  spared : {A : Type 0} (n : ℕ) (r : Result A Refusal) → meets_no_limit (read_raised n r) ≡ true → meets_no_limit r ≡ true
  spared n (Ok x) m = refl
  spared n (Err (refusal.UnknownAttribute column)) m = m
  spared n (Err (refusal.Unsupported column)) m = m
  spared n (Err (refusal.BadValue column)) m = m
  spared n (Err (refusal.TooManyItems column)) m = m
  spared n (Err other) m = m

  raised_same : (outline : Outline) (text : List ℕ) (n : ℕ) → meets_no_limit (raised_within small outline text n) ≡ true → raised_within large outline text n ≡ raised_within small outline text n
  raised_same outline text n m =
      plain_same (refuse_if (nat_lt LINE_BYTES (length text)) refusal.LongLine) (refuse_if (nat_lt LINE_BYTES (length text)) refusal.LongLine)
      (λ _. refuse_if (opens_saved outline (drop (2 * n) text)) refusal.BadOutline >>= λ _. read_raised n (line_within small outline (drop (2 * n) text)))
      (λ _. refuse_if (opens_saved outline (drop (2 * n) text)) refusal.BadOutline >>= λ _. read_raised n (line_within large outline (drop (2 * n) text))) m (λ _. refl)
      (λ _ v. plain_same (refuse_if (opens_saved outline (drop (2 * n) text)) refusal.BadOutline) (refuse_if (opens_saved outline (drop (2 * n) text)) refusal.BadOutline)
      (λ _. read_raised n (line_within small outline (drop (2 * n) text))) (λ _. read_raised n (line_within large outline (drop (2 * n) text))) v (λ _. refl)
      (λ _ w. ap (read_raised n) (line_same small large below outline (drop (2 * n) text) (spared n (line_within small outline (drop (2 * n) text)) w))))

  kept_same : (start : Option ℤ) (loading : Loading) (n : ℕ) → meets_no_limit (kept_within small start loading n) ≡ true → kept_within large start loading n ≡ kept_within small start loading n
  kept_same start loading n m =
      let text : Result (List ℕ) Refusal = walled start (unwrap_or loading.root None) loading.choice.line in
      let with : Outline → Result Loading Refusal = λ more. Ok (record loading { outline = more }) in
      plain_same text text (λ t. raised_within small loading.outline t n >>= with) (λ t. raised_within large loading.outline t n >>= with) m (λ _. refl)
      (λ t v. plain_same (raised_within small loading.outline t n) (raised_within large loading.outline t n) with with v (raised_same loading.outline t n) (λ more w. refl))

  answered_same : (start : Option ℤ) (loading : Loading) (chosen : Chosen) → meets_no_limit (answered_within small start loading chosen) ≡ true → answered_within large start loading chosen ≡ answered_within small start loading chosen
  answered_same start loading Dropped m = refl
  answered_same start loading (Kept n) m = kept_same start (with_root loading) n m

  chosen_same : (start : Option ℤ) (loading : Loading) (line : List ℕ) → meets_no_limit (chosen_within small start loading line) ≡ true → chosen_within large start loading line ≡ chosen_within small start loading line
  chosen_same start loading line m =
      let long : Result (Unit {0}) Refusal = refuse_if (nat_lt LINE_BYTES (length line)) refusal.LongLine in
      let next : Result (Choice × Chosen) Refusal = pushed loading.choice line in
      let with : Limits → Choice × Chosen → Result Loading Refusal = λ allowed x. answered_within allowed start (record loading { first = false; choice = x.0 }) x.1 in
      plain_same long long (λ _. next >>= with small) (λ _. next >>= with large) m (λ _. refl)
      (λ _ v. plain_same next next (with small) (with large) v (λ _. refl) (λ x w. answered_same start (record loading { first = false; choice = x.0 }) x.1 w))

  saved_same : (loading : Loading) (line : List ℕ) → meets_no_limit (saved_within small loading line) ≡ true → saved_within large loading line ≡ saved_within small loading line
  saved_same loading line m =
      let with : Outline → Result Loading Refusal = λ more. Ok (record loading { first = false; outline = more }) in
      plain_same (line_within small loading.outline line) (line_within large loading.outline line) with with m (line_same small large below loading.outline line) (λ more w. refl)

  line_by_same : (b : Bool) (start : Option ℤ) (loading : Loading) (line : List ℕ) → meets_no_limit (if b then saved_within small loading line else chosen_within small start loading line) ≡ true
      → (if b then saved_within large loading line else chosen_within large start loading line) ≡ (if b then saved_within small loading line else chosen_within small start loading line)
  line_by_same true start loading line m = saved_same loading line m
  line_by_same false start loading line m = chosen_same start loading line m

  loading_same : (start : Option ℤ) (loading : Loading) (lines : List NumberedLine) → spares (loading_from small start loading lines) ≡ true → loading_from large start loading lines ≡ loading_from small start loading lines
  loading_same start loading [] m = refl
  loading_same start loading (line ∷ lines) m =
      then_same (at_line line.number (loading_within small start loading line.text)) (at_line line.number (loading_within large start loading line.text)) (λ more. loading_from small start more lines) (λ more. loading_from large start more lines) m
      (λ v. at_same line.number (loading_within small start loading line.text) (loading_within large start loading line.text) v (line_by_same (is_saved loading line.text) start loading line.text)) (λ more v. loading_same start more lines v)

  given_same : (wanted : Wanted) (lines : LoadLines) (end_line : ℕ) → spares (given_within small wanted lines end_line) ≡ true → given_within large wanted lines end_line ≡ given_within small wanted lines end_line
  given_same wanted lines end_line m =
      let with : LoadHead → Loading → Result LoadedDocument Fault = λ head loading. at_line end_line (ended loading.outline) >>= λ document. Ok (record { name = head.name; document = document; version = version_of loading.outline }) in
      let first : Result LoadHead Fault = at_line lines.head.number (line_of lines.head.text >>= head_of) in
      then_same first first
      (λ head. loading_from small head.start (unread wanted) lines.nodes >>= with head) (λ head. loading_from large head.start (unread wanted) lines.nodes >>= with head) m (λ _. refl)
      (λ head v. then_same (loading_from small head.start (unread wanted) lines.nodes) (loading_from large head.start (unread wanted) lines.nodes) (with head) (with head) v (loading_same head.start (unread wanted) lines.nodes) (λ loading w. refl))

  loaded_same : (session : Session) (line : ℕ) (given : LoadedDocument) → meets_no_limit (loaded_within small session line given) ≡ true → loaded_within large session line given ≡ loaded_within small session line given
  loaded_same session line given m =
      let with : Presentation → Result AcceptedOrder Refusal = λ loaded. Ok (record {
        text = load_text loaded ++ ok_line line given.name (pos loaded.now);
        session = record session { held = session.held ++ record { name = given.name; presentation = loaded } ∷ [] };
      }) in
      plain_same (may_load given.name session) (may_load given.name session) (λ _. opened_within small given.document >>= with) (λ _. opened_within large given.document >>= with) m (λ _. refl)
      (λ _ v. plain_same (opened_within small given.document) (opened_within large given.document) with with v (opening_same small large below given.document) (λ loaded w. refl))

  -- ---- orders

  answer_same : (session : Session) (order : OrderLines) → spares (answer_within small session order) ≡ true → answer_within large session order ≡ answer_within small session order
  answer_same session (single line) m =
      at_same line.number (read_of line.text >>= said_within small session line.number) (read_of line.text >>= said_within large session line.number) m
      (λ v. plain_same (read_of line.text) (read_of line.text) (said_within small session line.number) (said_within large session line.number) v (λ _. refl) (said_same session line.number))
  answer_same session (load lines None) m = refl
  answer_same session (load lines (Some end_line)) m =
      then_same (given_within small session.wanted lines end_line) (given_within large session.wanted lines end_line)
      (λ given. at_line lines.head.number (loaded_within small session lines.head.number given)) (λ given. at_line lines.head.number (loaded_within large session lines.head.number given)) m
      (given_same session.wanted lines end_line)
      (λ given v. at_same lines.head.number (loaded_within small session lines.head.number given) (loaded_within large session lines.head.number given) v (loaded_same session lines.head.number given))

  checked_same : (session : Session) (order : OrderLines) → spares (check_within small session order) ≡ true → check_within large session order ≡ check_within small session order
  checked_same session (single line) m = refl
  checked_same session (load lines None) m = refl
  checked_same session (load lines (Some end_line)) m =
      then_same (given_within small session.wanted lines end_line) (given_within large session.wanted lines end_line)
      (λ given. at_line lines.head.number (checked session lines.head.number given)) (λ given. at_line lines.head.number (checked session lines.head.number given)) m
      (given_same session.wanted lines end_line) (λ given v. refl)

  -- ---- transcripts

  module _ (within : Limits → Answering) (each : (session : Session) (order : OrderLines) → spares (within small session order) ≡ true → within large session order ≡ within small session order) where
    tried_same : (session : Session) (order : OrderLines) (lacks : Bool) → refuses_as is_for_limit (heard (answer_to (within small) session (record { order = order; lacks = lacks }))) ≡ false
        → answer_to (within large) session (record { order = order; lacks = lacks }) ≡ answer_to (within small) session (record { order = order; lacks = lacks })
    tried_same session order true m = by_need (takes_memory order) m
      where
        by_need : (needs : Bool) → refuses_as is_for_limit (heard (cond needs (at_line (first_line order) (Err refusal.Memory)) (within small session order))) ≡ false
            → cond needs (at_line (first_line order) (Err refusal.Memory)) (within large session order) ≡ cond needs (at_line (first_line order) (Err refusal.Memory)) (within small session order)
        by_need true k = refl
        by_need false k = each session order (unlimited (within small session order) k)
    tried_same session order false m = each session order (unlimited (within small session order) m)

    further_same : (told : TranscriptState) (tried : List OrderAttempt) → any_refused_as is_for_limit (answered_from (within small) told.session tried) ≡ false
        → told_further (within large) told tried ≡ told_further (within small) told tried
    further_same told [] m = refl
    further_same told (one ∷ others) m =
        let answer : Answer = answer_to (within small) told.session one in
        let parts = or_parts (refuses_as is_for_limit (heard answer)) (any_refused_as is_for_limit (answered_from (within small) (session_after told.session answer) others)) m in
        ap (λ (a : Answer). told_further (within large) (with_answer told a) others) (tried_same told.session one.order one.lacks parts.0)
        ∙ further_same (with_answer told answer) others (ap (λ (s : Session). any_refused_as is_for_limit (answered_from (within small) s others)) (session_with told answer) ∙ parts.1)

  pub told_same : (tried : List OrderAttempt) → any_refused_as is_for_limit (answered_by (answer_within small) tried) ≡ false → told_by (answer_within large) tried ≡ told_by (answer_within small) tried
  told_same tried m = further_same answer_within answer_same untold tried m

  pub told_checked_same : (tried : List OrderAttempt) → any_refused_as is_for_limit (answered_by (check_within small) tried) ≡ false → told_by (check_within large) tried ≡ told_by (check_within small) tried
  told_checked_same tried m = further_same check_within checked_same untold tried m
