-- Inputs and transcripts that are cut.
use Rattle.std.proofs.Common.{◌≡◌, ◌⊎◌, ◌==◌, ◌<◌, suc, Bool, true, false, List, [], ◌∷◌, ◌++◌, length, Option, Some, None, inl, inr, refl, ap, sym, subst, ◌∙◌, append_assoc, arith}
use Rattle.std.specs.Prelude.{ℕ, map, fold, if◌then◌else◌}
use Rattle.std.specs.List.{onto_first}
use Rattle.std.specs.Str.Lines.{strip_carriage_return, lines, lines_of_parts}
use Rattle.std.proofs.lemmas.List.{append-nil}
use Rattle.std.proofs.lemmas.List.Sums.{fold-append}
use Rattle.std.proofs.lemmas.List.Splits.{slice_split-cons_yes, slice_split-cons_no}
use Rattle.smil_outside.specs.Lines.{parts, whole_lines, whole_lines_of_parts}
use Rattle.smil_model.specs.document.Words.{line_feed}
use Rattle.smil_outside.proofs.LineLemmas.{lines_of_parts-cons, some_part}
use Rattle.smil_top.specs.Cut.{NumberedLine, LoadLines, OrderLines, single, load, CutLines, opens, ends, is_silent, cut_by, cut_of, unended, orders, whole_orders}
use Rattle.smil_top.specs.Answers.{Answer}
use Rattle.smil_top.specs.Transcript.{Answering, TranscriptState, untold, with_answer, IsTranscriptBy, and_then, transcript_by}
use Rattle.smil_top.specs.Laws.{OrderAttempt, answer_to, told_by, heard, answer_lines, AtMostOne, SharesFirstOrders, HasFront, IsFrontAndOne}
use Rattle.smil_top.proofs.OrderCuts.{cut_of-one_more, if_either, orders-first}
use Rattle.smil_top.proofs.TranscriptAnswers.{text_with, is_told, each_is_told, is_some}

-- ---- the lines of a text, and of its front

-- the parts of two texts, one behind the other
abbrev joined : List (List ℕ) → List (List ℕ) → List (List ℕ)
joined [] qs = qs
joined (last ∷ []) [] = last ∷ []
joined (last ∷ []) (q ∷ qs) = (last ++ q) ∷ qs
joined (p ∷ next ∷ ps) qs = p ∷ joined (next ∷ ps) qs

joined-cons : (p : List ℕ) (ps qs : List (List ℕ)) → 0 < length ps → joined (p ∷ ps) qs ≡ p ∷ joined ps qs
joined-cons p [] qs some = absurd (omega (arith, some))
joined-cons p (next ∷ ps) qs some = refl

joined-onto : (c : ℕ) (ps qs : List (List ℕ)) → 0 < length ps → joined (onto_first c ps) qs ≡ onto_first c (joined ps qs)
joined-onto c [] qs some = absurd (omega (arith, some))
joined-onto c (p ∷ []) [] some = refl
joined-onto c (p ∷ []) (q ∷ qs) some = refl
joined-onto c (p ∷ next ∷ ps) qs some = refl

nothing-joined : (qs : List (List ℕ)) → 0 < length qs → qs ≡ joined ([] ∷ []) qs
nothing-joined [] some = absurd (omega (arith, some))
nothing-joined (q ∷ qs) some = refl

-- by whether the first byte is a line feed
parts-by : (t : Bool) (c : ℕ) (came more : List ℕ) → (c == line_feed) ≡ t → parts (came ++ more) ≡ joined (parts came) (parts more) → parts (c ∷ came ++ more) ≡ joined (parts (c ∷ came)) (parts more)
parts-by true c came more e rest =
    slice_split-cons_yes (λ byte. byte == line_feed) c (came ++ more) e ∙ ap (λ (zs : List (List ℕ)). [] ∷ zs) rest
    ∙ sym (joined-cons [] (parts came) (parts more) (some_part came))
    ∙ ap (λ (zs : List (List ℕ)). joined zs (parts more)) (sym (slice_split-cons_yes (λ byte. byte == line_feed) c came e))
parts-by false c came more e rest =
    slice_split-cons_no (λ byte. byte == line_feed) c (came ++ more) e ∙ ap (onto_first c) rest
    ∙ sym (joined-onto c (parts came) (parts more) (some_part came))
    ∙ ap (λ (zs : List (List ℕ)). joined zs (parts more)) (sym (slice_split-cons_no (λ byte. byte == line_feed) c came e))

parts-append : (came more : List ℕ) → parts (came ++ more) ≡ joined (parts came) (parts more)
parts-append [] more = nothing-joined (parts more) (some_part more)
parts-append (c ∷ came) more = parts-by (c == line_feed) c came more refl (parts-append came more)

abbrev last_part : List (List ℕ) → List ℕ
last_part [] = []
last_part (last ∷ []) = last
last_part (p ∷ next ∷ ps) = last_part (next ∷ ps)

some_joined : (p : List ℕ) (ps qs : List (List ℕ)) → 0 < length (joined (p ∷ ps) qs)
some_joined p [] [] = omega arith
some_joined p [] (q ∷ qs) = omega arith
some_joined p (next ∷ ps) qs = omega arith

-- the lines are the whole lines of the front, and those of its last part and what follows
lines-joined : (ps qs : List (List ℕ)) → 0 < length ps → lines_of_parts (joined ps qs) ≡ whole_lines_of_parts ps ++ lines_of_parts (joined (last_part ps ∷ []) qs)
lines-joined [] qs some = absurd (omega (arith, some))
lines-joined (last ∷ []) qs some = refl
lines-joined (p ∷ next ∷ ps) qs some =
    lines_of_parts-cons p (joined (next ∷ ps) qs) (some_joined next ps qs)
    ∙ ap (λ (zs : List (List ℕ)). strip_carriage_return p ∷ zs) (lines-joined (next ∷ ps) qs (omega arith))

-- what follows the whole lines of a front
abbrev behind : List ℕ → List ℕ → List (List ℕ)
behind came more = lines_of_parts (joined (last_part (parts came) ∷ []) (parts more))

lines-append : (came more : List ℕ) → lines (came ++ more) ≡ whole_lines came ++ behind came more
lines-append came more = ap lines_of_parts (parts-append came more) ∙ lines-joined (parts came) (parts more) (some_part came)

one_line : (b : Bool) (last : List ℕ) → AtMostOne (if b then [] else last ∷ [])
one_line true last = tt
one_line false last = tt

few_behind : (came : List ℕ) → AtMostOne (behind came [])
few_behind came = one_line (length (last_part (parts came) ++ []) == 0) (last_part (parts came) ++ [])

lines-few : (came : List ℕ) → lines came ≡ whole_lines came ++ behind came []
lines-few came = ap lines (sym (append-nil came)) ∙ lines-append came []

-- ---- orders

-- the orders of a cut are these and at most one more
abbrev IsFew : List OrderLines → CutLines → Type 0
IsFew whole cut = (last : List OrderLines) × (cut.whole ++ unended cut.«open» ≡ whole ++ last) × AtMostOne last

few_by : (at : Option LoadLines) (whole : List OrderLines) (line : NumberedLine) → IsFew whole (cut_by at whole line)
few_by None whole line =
    if_either (opens line.text) _ _ (IsFew whole) (load (record { head = line; nodes = [] }) None ∷ [], refl, tt)
    (if_either (is_silent line.text) _ _ (IsFew whole) ([], refl, tt) (single line ∷ [], append-nil _, tt))
few_by (Some lines) whole line =
    if_either (ends line.text) _ _ (IsFew whole) (load lines (Some line.number) ∷ [], append-nil _, tt)
    (if_either (is_silent line.text) _ _ (IsFew whole) (load lines None ∷ [], refl, tt) (load (record lines { nodes = lines.nodes ++ line ∷ [] }) None ∷ [], refl, tt))

few_open : (whole : List OrderLines) (at : Option LoadLines) → (last : List OrderLines) × (whole ++ unended at ≡ whole ++ last) × AtMostOne last
few_open whole None = ([], refl, tt)
few_open whole (Some lines) = (load lines None ∷ [], refl, tt)

few_orders : (front more : List (List ℕ)) → AtMostOne more → (last : List OrderLines) × (orders (front ++ more) ≡ whole_orders front ++ last) × AtMostOne last
few_orders front [] few =
    let same = few_open (cut_of front).whole (cut_of front).«open» in
    (same.0, ap orders (append-nil front) ∙ same.1, same.2)
few_orders front (line ∷ []) few =
    let one = few_by (cut_of front).«open» (cut_of front).whole (record { number = suc (cut_of front).count; text = line }) in
    (one.0, ap (λ (cut : CutLines). cut.whole ++ unended cut.«open») (cut_of-one_more front line) ∙ one.1, one.2)
few_orders front (line ∷ next ∷ more) few = elim few [ ]

pub inputs_cut : (came more : List ℕ) → SharesFirstOrders came more
inputs_cut came more =
    let all = orders-first (whole_lines came) (behind came more) in
    let one = few_orders (whole_lines came) (behind came []) (few_behind came) in
    record {
      later = all.0;
      last = one.0;
      whole = ap orders (lines-append came more) ∙ all.1;
      cut = ap orders (lines-few came) ∙ one.1;
      few = one.2;
    }

-- ---- transcripts

module _ (answering : Answering) where
  -- a text only grows
  grows : (told : TranscriptState) (tried : List OrderAttempt) → (rest : List ℕ) × ((fold (λ (told : TranscriptState) (one : OrderAttempt). with_answer told (answer_to answering told.session one)) told tried).text ≡ told.text ++ rest)
  grows told [] = ([], sym (append-nil told.text))
  grows told (one ∷ others) =
      let answer : Answer = answer_to answering told.session one in
      let rest = grows (with_answer told answer) others in
      (answer_lines (heard answer) ++ rest.0, rest.1 ∙ ap (λ (zs : List ℕ). zs ++ rest.0) (text_with told answer) ∙ append_assoc told.text (answer_lines (heard answer)) rest.0)

  abbrev Splits : List OrderAttempt → List OrderLines → Type 0
  Splits tried first = (a : List OrderAttempt) × (b : List OrderAttempt) × (tried ≡ a ++ b) × (map (λ (one : OrderAttempt). one.order) a ≡ first)

  split_tried : (tried : List OrderAttempt) (first later : List OrderLines) → map (λ (one : OrderAttempt). one.order) tried ≡ first ++ later → Splits tried first
  split_tried tried [] later e = ([], tried, refl, refl)
  split_tried [] (order ∷ first) later e = absurd cc
  split_tried (one ∷ tried) (order ∷ first) later e =
      let head : one.order ≡ order = cc in
      let tail : map (λ (one : OrderAttempt). one.order) tried ≡ first ++ later = cc in
      let rest = split_tried tried first later tail in
      (one ∷ rest.0, rest.1, ap (λ (zs : List OrderAttempt). one ∷ zs) rest.2, cc)

  pub has_front : (first later : List OrderLines) (told : TranscriptState) → IsTranscriptBy answering (first ++ later) told → HasFront answering first told
  has_front first later told h =
      let all = is_told answering h in
      let cut = split_tried all.0 first later all.1 in
      let more = grows (told_by answering cut.0) cut.1 in
      record {
        front = told_by answering cut.0;
        rest = more.0;
        transcript = subst (λ (zs : List OrderLines). IsTranscriptBy answering zs (told_by answering cut.0)) cut.3 (each_is_told answering cut.0);
        text = ap (λ (t : TranscriptState). t.text) (sym all.2) ∙ ap (λ (zs : List OrderAttempt). (told_by answering zs).text) cut.2
            ∙ ap (λ (t : TranscriptState). t.text) (fold-append (λ (told : TranscriptState) (one : OrderAttempt). with_answer told (answer_to answering told.session one)) untold cut.0 cut.1) ∙ more.1;
      }

  -- the front, and the answers behind it
  abbrev of_orders : TranscriptState → List OrderLines → TranscriptState
  of_orders told orders = fold (λ (told : TranscriptState) (order : OrderLines). with_answer told (answering told.session order)) told orders

  grows_easily : (told : TranscriptState) (orders : List OrderLines) → (rest : List ℕ) × ((of_orders told orders).text ≡ told.text ++ rest)
  grows_easily told [] = ([], sym (append-nil told.text))
  grows_easily told (order ∷ others) =
      let answer : Answer = answering told.session order in
      let rest = grows_easily (with_answer told answer) others in
      (answer_lines (heard answer) ++ rest.0, rest.1 ∙ ap (λ (zs : List ℕ). zs ++ rest.0) (text_with told answer) ∙ append_assoc told.text (answer_lines (heard answer)) rest.0)

  of_more : (first later : List OrderLines) → transcript_by answering (first ++ later) ≡ of_orders (transcript_by answering first) later
  of_more first later = fold-append (λ (told : TranscriptState) (order : OrderLines). with_answer told (answering told.session order)) untold first later

  abbrev IsOne : TranscriptState → TranscriptState → Type 0
  IsOne front part = (part ≡ front) ⊎ ((order : OrderLines) × (part ≡ with_answer front (answering front.session order)))

  one_more : (front : TranscriptState) (last : List OrderLines) → AtMostOne last → IsOne front (of_orders front last)
  one_more front [] few = inl refl
  one_more front (order ∷ []) few = inr (order, refl)
  one_more front (order ∷ next ∷ last) few = elim few [ ]

  pub front_and_one : (came more : List ℕ) → IsFrontAndOne answering came (transcript_by answering (orders (lines came))) (transcript_by answering (orders (lines (came ++ more))))
  front_and_one came more =
      let cut = inputs_cut came more in
      let first : List OrderLines = whole_orders (whole_lines came) in
      let grown = grows_easily (transcript_by answering first) cut.later in
      let part : transcript_by answering (orders (lines came)) ≡ of_orders (transcript_by answering first) cut.last = ap (transcript_by answering) cut.cut ∙ of_more first cut.last in
      record {
        front = transcript_by answering first;
        rest = grown.0;
        transcript = is_some answering first;
        text = ap (λ (zs : List OrderLines). (transcript_by answering zs).text) cut.whole ∙ ap (λ (t : TranscriptState). t.text) (of_more first cut.later) ∙ grown.1;
        one = subst (IsOne (transcript_by answering first)) (sym part) (one_more (transcript_by answering first) cut.last cut.few);
      }

  abbrev AnyPart : List ℕ → TranscriptState → List OrderLines → Type 0
  AnyPart came whole all = (part : TranscriptState) × IsTranscriptBy answering all part × IsFrontAndOne answering came part whole

  with_last : (came : List ℕ) (whole : TranscriptState) (front : HasFront answering (whole_orders (whole_lines came)) whole) (last : List OrderLines) → AtMostOne last
      → AnyPart came whole (whole_orders (whole_lines came) ++ last)
  with_last came whole front [] few = (
    front.front,
    subst (λ (zs : List OrderLines). IsTranscriptBy answering zs front.front) (sym (append-nil (whole_orders (whole_lines came)))) front.transcript,
    record { front = front.front; rest = front.rest; transcript = front.transcript; text = front.text; one = inl refl },
  )
  with_last came whole front (order ∷ []) few = (
    with_answer front.front (answering front.front.session order),
    and_then front.transcript order (answering front.front.session order) (inl refl),
    record { front = front.front; rest = front.rest; transcript = front.transcript; text = front.text; one = inr (order, refl) },
  )
  with_last came whole front (order ∷ next ∷ last) few = elim few [ ]

  pub any_part : (came more : List ℕ) (whole : TranscriptState) → IsTranscriptBy answering (orders (lines (came ++ more))) whole → AnyPart came whole (orders (lines came))
  any_part came more whole h =
      let cut = inputs_cut came more in
      let front = has_front (whole_orders (whole_lines came)) cut.later whole (subst (λ (zs : List OrderLines). IsTranscriptBy answering zs whole) cut.whole h) in
      subst (AnyPart came whole) (sym cut.cut) (with_last came whole front cut.last cut.few)
