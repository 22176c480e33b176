-- What an answer says of a scan.
use Rattle.std.proofs.Common.{◌≡◌, ◌≢◌, ℕ, ◌+◌, ◌-◌, ◌<◌, ◌≤◌, ◌==◌, if◌then◌else◌, ◌⊎◌, Bool, true, false, List, [], ◌∷◌, ◌++◌, Option, None, Some, IsTrue, length, take, drop, slice_index, refl, ap, sym, subst, ◌∙◌, arith, append_assoc, inl, inr}
use Rattle.std.proofs.lemmas.Bool.{cases_lt, cases_Bool}
use Rattle.std.proofs.lemmas.Bool.Decides.{when_true, when_false}
use Rattle.std.proofs.lemmas.List.{length-append, length-take, length-take-le, take-take, take_all, drop_all, drop_more, take-append-drop}
use Rattle.std.specs.Io.KnownBytes.{IsAtEnd}
use Rattle.std.specs.Str.Lines.{strip_carriage_return}
use Rattle.smil_outside.specs.declared.line.TheConstants.{INPUT_BYTES}
use Rattle.smil_model.specs.declared.limits.TheConstants.{LINE_BYTES}
use Rattle.smil_outside.specs.declared.line.Line.{Line}
use Rattle.smil_outside.specs.declared.line.Line.TheVariants.{Bytes, LongLine}
use Rattle.smil_outside.specs.declared.line.Ending.TheVariants as ending
use Rattle.smil_outside.specs.declared.scan.Scan.{Scan}
use Rattle.smil_outside.specs.declared.scan.Stop.TheVariants.{LineFeed, InputEnd}
use Rattle.smil_outside.specs.Lines.{HasNoLineFeed, StartsWithLine, IsUnendedLine}
use Rattle.smil_model.specs.document.Words.{line_feed}
use Rattle.smil_outside.specs.ReaderState.{ReaderState, Reads, Answers, line_count, within_limit}
use Rattle.smil_outside.specs.Scan.{Scans, Stops, IsCutFront}
use Rattle.smil_outside.proofs.ScanLemmas.{HasNoLineFeed-append}

-- a reader's count of lines leaves room for the bytes that are still to be answered
pub scan_fits : (old bytes : List ℕ) (before taken : ℕ) (scan : Scan) (rest after : Option (List ℕ)) (number : ℕ) →
    Scans old bytes before taken scan rest after → number + length old + (INPUT_BYTES - before) ≤ INPUT_BYTES → number + length bytes + (INPUT_BYTES - taken) ≤ INPUT_BYTES
scan_fits old bytes before taken scan rest after number s fits =
    omega (arith, fits, s.counted, ap length s.text, length-append old (within_limit before s.came), length-append s.dropped bytes, length-take (INPUT_BYTES - before) s.came)

-- the bytes taken and not yet answered have no line feed, where none was found
pub scan_uncut : (old bytes : List ℕ) (before taken : ℕ) (scan : Scan) (rest after : Option (List ℕ)) →
    (s : Scans old bytes before taken scan rest after) → HasNoLineFeed bytes → HasNoLineFeed (old ++ within_limit before s.came)
scan_uncut old bytes before taken scan rest after s none = subst HasNoLineFeed (sym s.text) (HasNoLineFeed-append s.dropped bytes s.uncut none)

-- a line loses one byte at most
cut_length : (b : Bool) (part : List ℕ) → length part ≤ length (if b then take (length part - 1) part else part) + 1
cut_length true part = omega (arith, length-take (length part - 1) part)
cut_length false part = omega arith

strip_length : (part : List ℕ) → length part ≤ length (strip_carriage_return part) + 1
strip_length part = cut_length (slice_index part (length part - 1) == 13) part

-- a list, split at the line feed in it
split_at_feed : (bytes : List ℕ) (at : ℕ) → at < length bytes → slice_index bytes at ≡ line_feed → bytes ≡ take at bytes ++ line_feed ∷ drop (at + 1) bytes
split_at_feed bytes at inside is =
    sym (take-append-drop at bytes) ∙ ap (λ zs. take at bytes ++ zs) (drop_more bytes at 0 inside ∙ ap (λ b. b ∷ drop (at + 1) bytes) is)

-- the text that a scan found begins with the line in front of the line feed
starts_with_line : (old bytes : List ℕ) (before taken : ℕ) (scan : Scan) (rest after : Option (List ℕ)) (at : ℕ) (s : Scans old bytes before taken scan rest after) →
    Stops (LineFeed at) bytes taken after → StartsWithLine (old ++ within_limit before s.came) (strip_carriage_return (s.dropped ++ take at bytes)) (drop (at + 1) bytes)
starts_with_line old bytes before taken scan rest after at s stops = record {
  part = s.dropped ++ take at bytes;
  cut = s.text ∙ ap (λ zs. s.dropped ++ zs) (split_at_feed bytes at stops.0 stops.1) ∙ sym (append_assoc s.dropped (take at bytes) (line_feed ∷ drop (at + 1) bytes));
  uncut = HasNoLineFeed-append s.dropped (take at bytes) s.uncut stops.2;
  stripped = refl;
}

-- a line whose front was dropped is too long
long_line : (dropped bytes : List ℕ) (at : ℕ) → IsCutFront dropped bytes → at < length bytes → slice_index bytes at ≡ line_feed → LINE_BYTES < length (strip_carriage_return (dropped ++ take at bytes))
long_line dropped bytes at long inside here =
    let some : at ≢ 0 = λ zero. long.goes_on (ap (λ k. slice_index bytes k) (sym zero) ∙ here) in
    omega (arith, long.many, strip_length (dropped ++ take at bytes), length-append dropped (take at bytes), length-take at bytes)

-- what `answer_line` does to a reading
pub record Counts (old new : ReaderState) (covers : ℕ) : Type 0 where
  pub pending : new.pending ≡ drop covers old.pending
  pub taken : new.taken ≡ old.taken
  pub number : new.number ≡ old.number + 1
  pub closed : new.closed ≡ old.closed

pub Counts-from : (old new : ReaderState) (covers : ℕ) (line : List ℕ) → new ≡ record old { pending = drop covers old.pending; line = line; number = old.number + 1 } → Counts old new covers
Counts-from old new covers line is = record {
  pending = ap (λ r. r.pending) is;
  taken = ap (λ r. r.taken) is;
  number = ap (λ r. r.number) is;
  closed = ap (λ r. r.closed) is;
}

-- what a scan found, with what was answered of it
answers : (old mid new : ReaderState) (answer told : Line) (scan : Scan) (rest after : Option (List ℕ)) (covers : ℕ) →
    (s : Scans old.pending mid.pending old.taken mid.taken scan rest after) → mid.number ≡ old.number → line_count told ≡ 1 → answer ≡ told → Counts mid new covers →
    Answers told (old.pending ++ within_limit old.taken s.came) new (IsAtEnd after × (new.taken ≤ INPUT_BYTES)) → Reads old new answer rest after
answers old mid new answer told scan rest after covers s number one is counts answered = subst (λ a. Reads old new a rest after) (sym is) (record {
  came = s.came;
  took = s.took;
  counted = counts.taken ∙ s.counted;
  numbered = counts.number ∙ ap (λ n. n + 1) number ∙ ap (λ n. old.number + n) (sym one);
  answered = answered;
})

-- a line that ends at a line feed
pub line_feed_reads : (old mid new : ReaderState) (answer : Line) (scan : Scan) (rest after : Option (List ℕ)) (at len : ℕ) →
    Scans old.pending mid.pending old.taken mid.taken scan rest after → Stops (LineFeed at) mid.pending mid.taken after →
    mid.number ≡ old.number → mid.closed ≡ None →
    len ≤ length (take at mid.pending) → take len (take at mid.pending) ≡ strip_carriage_return (take at mid.pending) →
    (IsTrue scan.is_long ⊎ (LINE_BYTES < len) → (answer ≡ LongLine) × (new.line ≡ []) × Counts mid new (at + 1)) →
    (scan.is_long ≡ false → len ≤ LINE_BYTES → (answer ≡ Bytes) × (new.line ≡ take len mid.pending) × Counts mid new (at + 1)) →
    Reads old new answer rest after
line_feed_reads old mid new answer scan rest after at len s stops number closed bound content long short =
    elim (cases_Bool scan.is_long) [
      | inl is ↦ line_is_long (long_line s.dropped mid.pending at (when_true _ _ is s.long) stops.0 stops.1) (long (inl is))
      | inr isnt ↦
          (let nothing : s.dropped ≡ [] = when_false _ _ isnt s.long in
          let same : strip_carriage_return (s.dropped ++ take at mid.pending) ≡ take len (take at mid.pending) = ap (λ zs. strip_carriage_return (zs ++ take at mid.pending)) nothing ∙ sym content in
          let size : length (strip_carriage_return (s.dropped ++ take at mid.pending)) ≡ len = ap length same ∙ length-take-le len (take at mid.pending) bound in
          elim (cases_lt LINE_BYTES len) [
            | inl many ↦ line_is_long (omega (arith, size, many)) (long (inr many))
            | inr few ↦ line_is_short same size few (short isnt few)
          ])
    ]
  where
    line_is_long : LINE_BYTES < length (strip_carriage_return (s.dropped ++ take at mid.pending)) → (answer ≡ LongLine) × (new.line ≡ []) × Counts mid new (at + 1) → Reads old new answer rest after
    line_is_long many e = answers old mid new answer LongLine scan rest after (at + 1) s number refl e.0 e.2
        ((strip_carriage_return (s.dropped ++ take at mid.pending), inl (subst (λ zs. StartsWithLine (old.pending ++ within_limit old.taken s.came) (strip_carriage_return (s.dropped ++ take at mid.pending)) zs) (sym e.2.pending) (starts_with_line old.pending mid.pending old.taken mid.taken scan rest after at s stops), e.2.closed ∙ closed), many), e.1)

    line_is_short : strip_carriage_return (s.dropped ++ take at mid.pending) ≡ take len (take at mid.pending) → length (strip_carriage_return (s.dropped ++ take at mid.pending)) ≡ len → len ≤ LINE_BYTES →
        (answer ≡ Bytes) × (new.line ≡ take len mid.pending) × Counts mid new (at + 1) → Reads old new answer rest after
    line_is_short same size few e =
        let line : strip_carriage_return (s.dropped ++ take at mid.pending) ≡ new.line = same ∙ take-take len at mid.pending (omega (arith, bound, length-take at mid.pending)) ∙ sym e.1 in
        let starts = starts_with_line old.pending mid.pending old.taken mid.taken scan rest after at s stops in
        answers old mid new answer Bytes scan rest after (at + 1) s number refl e.0 e.2 (
          inl (
            subst (λ zs. StartsWithLine (old.pending ++ within_limit old.taken s.came) zs new.pending) line
                (subst (λ zs. StartsWithLine (old.pending ++ within_limit old.taken s.came) (strip_carriage_return (s.dropped ++ take at mid.pending)) zs) (sym e.2.pending) starts),
            e.2.closed ∙ closed,
          ),
          omega (arith, ap length line, size, few),
        )

-- a last line, which no line feed ends
pub end_reads : (old mid new : ReaderState) (answer : Line) (scan : Scan) (rest after : Option (List ℕ)) →
    Scans old.pending mid.pending old.taken mid.taken scan rest after → Stops InputEnd mid.pending mid.taken after →
    mid.number ≡ old.number → mid.closed ≡ Some ending.End → 0 < length mid.pending →
    (IsTrue scan.is_long ⊎ (LINE_BYTES < length mid.pending) → (answer ≡ LongLine) × (new.line ≡ []) × Counts mid new (length mid.pending)) →
    (scan.is_long ≡ false → length mid.pending ≤ LINE_BYTES → (answer ≡ Bytes) × (new.line ≡ take (length mid.pending) mid.pending) × Counts mid new (length mid.pending)) →
    Reads old new answer rest after
end_reads old mid new answer scan rest after s stops number closed some long short =
    let text = old.pending ++ within_limit old.taken s.came in
    let size : length text ≡ length s.dropped + length mid.pending = ap length s.text ∙ length-append s.dropped mid.pending in
    elim (cases_Bool scan.is_long) [
      | inl is ↦ (let front = when_true _ _ is s.long in line_is_long (omega (arith, size, front.many)) (long (inl is)))
      | inr isnt ↦
          (let nothing : s.dropped ≡ [] = when_false _ _ isnt s.long in
          elim (cases_lt LINE_BYTES (length mid.pending)) [
            | inl many ↦ line_is_long (omega (arith, size, many)) (long (inr many))
            | inr few ↦ line_is_short (ap (λ zs. zs ++ mid.pending) nothing) few (short isnt few)
          ])
    ]
  where
    unended : IsUnendedLine (old.pending ++ within_limit old.taken s.came) (old.pending ++ within_limit old.taken s.came)
    unended = record {
      same = refl;
      uncut = scan_uncut old.pending mid.pending old.taken mid.taken scan rest after s stops.0;
      some = omega (arith, some, ap length s.text, length-append s.dropped mid.pending);
    }

    nothing_left : (e : Counts mid new (length mid.pending)) → new.pending ≡ []
    nothing_left e = e.pending ∙ drop_all (length mid.pending) mid.pending (omega arith)

    line_is_long : LINE_BYTES < length (old.pending ++ within_limit old.taken s.came) → (answer ≡ LongLine) × (new.line ≡ []) × Counts mid new (length mid.pending) → Reads old new answer rest after
    line_is_long many e = answers old mid new answer LongLine scan rest after (length mid.pending) s number refl e.0 e.2
        ((old.pending ++ within_limit old.taken s.came, inr (unended, (stops.1, omega (arith, stops.2, e.2.taken)), nothing_left e.2, e.2.closed ∙ closed), many), e.1)

    line_is_short : s.dropped ++ mid.pending ≡ mid.pending → length mid.pending ≤ LINE_BYTES →
        (answer ≡ Bytes) × (new.line ≡ take (length mid.pending) mid.pending) × Counts mid new (length mid.pending) → Reads old new answer rest after
    line_is_short whole few e =
        let line : new.line ≡ mid.pending = e.1 ∙ take_all (length mid.pending) mid.pending (omega arith) in
        let same : new.line ≡ old.pending ++ within_limit old.taken s.came = line ∙ sym whole ∙ sym s.text in
        answers old mid new answer Bytes scan rest after (length mid.pending) s number refl e.0 e.2 (
          inr (
            record { same = same; uncut = unended.uncut; some = unended.some },
            (stops.1, omega (arith, stops.2, e.2.taken)),
            nothing_left e.2,
            e.2.closed ∙ closed,
          ),
          omega (arith, ap length line, few),
        )
