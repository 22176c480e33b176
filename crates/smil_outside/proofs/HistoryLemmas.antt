-- The answers of a reader are the lines of the bytes that it took: what a caller's loop keeps.
use Rattle.std.proofs.Common.{◌≡◌, ℕ, ◌+◌, ◌-◌, ◌≤◌, List, [], ◌∷◌, ◌++◌, Option, None, length, take, refl, ap, sym, subst, ◌∙◌, arith, append_assoc, inl, inr}
use Rattle.std.proofs.Math.Seq.{take-append-add}
use Rattle.std.proofs.lemmas.Bool.{cases_lt}
use Rattle.std.proofs.lemmas.List.{append-nil, length-append, take_all, take-append-le}
use Rattle.std.specs.Io.KnownBytes.{IsAtEnd}
use Rattle.std.specs.Str.Lines.{lines}
use Rattle.smil_outside.specs.declared.line.TheConstants.{INPUT_BYTES}
use Rattle.smil_outside.specs.declared.line.Line.{Line}
use Rattle.smil_outside.specs.declared.line.Line.TheVariants.{Bytes, LongLine, End, InputTooLong, ReadFault}
use Rattle.smil_outside.specs.Lines.{whole_lines, HasNoLineFeed}
use Rattle.smil_outside.specs.ReaderState.{ReaderState, Reads, fresh_reading, within_limit, IsNextLine, Answers, line_count}
use Rattle.smil_outside.specs.History.{AreLines, HasAnswered, IsAnswerFor}
use Rattle.smil_outside.proofs.LineLemmas.{lines-starts, whole_lines-starts, whole_lines-uncut, lines-unended}

-- before the first call
pub HasAnswered-fresh : HasAnswered fresh_reading [] []
HasAnswered-fresh = record { taken = refl; numbered = refl; lines = λ more. (refl, refl) }

-- the front of two joined lists
take-append : (n : ℕ) (xs ys : List ℕ) → take n (xs ++ ys) ≡ take n xs ++ take (n - length xs) ys
take-append n xs ys =
    elim (cases_lt n (length xs)) [
      | inl less ↦
          (let nothing : n - length xs ≡ 0 = omega arith in
          take-append-le n xs ys (omega arith) ∙ sym (append-nil (take n xs)) ∙ ap (λ m. take n xs ++ take m ys) (sym nothing))
      | inr enough ↦
          (let e : n ≡ length xs + (n - length xs) = omega arith in
          ap (λ m. take m (xs ++ ys)) e ∙ take-append-add xs ys (n - length xs) ∙ ap (λ zs. zs ++ take (n - length xs) ys) (sym (take_all n xs enough)))
    ]

-- of what came in two steps, the bytes that count
within_limit-two : (came more : List ℕ) (taken : ℕ) → taken ≡ length came → within_limit 0 (came ++ more) ≡ within_limit 0 came ++ within_limit taken more
within_limit-two came more taken is = take-append (INPUT_BYTES - 0) came more ∙ ap (λ n. within_limit 0 came ++ take (INPUT_BYTES - n) more) (sym is)

module _ (old new : ReaderState) (came came' : List ℕ) (answered : List (List ℕ)) (open_before : AreLines None came old.pending answered) (taken : old.taken ≡ length came) where
  -- the lines of all that came, by those of what isn't answered
  lines_further : (more : List ℕ) → lines (within_limit 0 (came ++ came') ++ more) ≡ answered ++ lines ((old.pending ++ within_limit old.taken came') ++ more)
  lines_further more =
      ap (λ zs. lines (zs ++ more)) (within_limit-two came came' old.taken taken)
      ∙ ap lines (append_assoc (within_limit 0 came) (within_limit old.taken came') more)
      ∙ (open_before (within_limit old.taken came' ++ more)).0
      ∙ ap (λ zs. answered ++ lines zs) (sym (append_assoc old.pending (within_limit old.taken came') more))

  whole_lines_further : (more : List ℕ) → whole_lines (within_limit 0 (came ++ came') ++ more) ≡ answered ++ whole_lines ((old.pending ++ within_limit old.taken came') ++ more)
  whole_lines_further more =
      ap (λ zs. whole_lines (zs ++ more)) (within_limit-two came came' old.taken taken)
      ∙ ap whole_lines (append_assoc (within_limit 0 came) (within_limit old.taken came') more)
      ∙ (open_before (within_limit old.taken came' ++ more)).1
      ∙ ap (λ zs. answered ++ whole_lines zs) (sym (append_assoc old.pending (within_limit old.taken came') more))

-- one call of `next`, before the input's end: the lines that it is for follow those answered before
pub HasAnswered-next : (old new : ReaderState) (answer : Line) (before after : Option (List ℕ)) (came : List ℕ) (answered : List (List ℕ)) →
    HasAnswered old came answered → old.closed ≡ None → (reads : Reads old new answer before after) →
    (these : List (List ℕ)) × IsAnswerFor answer new these × HasAnswered new (came ++ reads.came) (answered ++ these)
HasAnswered-next old new answer before after came answered has open_before reads = (
  these answer reads.answered,
  is_for answer reads.answered,
  record {
    taken = reads.counted ∙ ap (λ n. n + length reads.came) has.taken ∙ sym (length-append came reads.came);
    numbered = reads.numbered ∙ ap (λ n. n + line_count answer) has.numbered ∙ ap (λ n. length answered + n) (sym (count answer reads.answered)) ∙ sym (length-append answered (these answer reads.answered));
    lines = are_lines answer reads.answered;
  },
)
  where
    text : List ℕ
    text = old.pending ++ within_limit old.taken reads.came

    these : (a : Line) → Answers a text new (IsAtEnd after × (new.taken ≤ INPUT_BYTES)) → List (List ℕ)
    these Bytes h = new.line ∷ []
    these LongLine h = h.0.0 ∷ []
    these End h = []
    these InputTooLong h = []
    these ReadFault h = []

    is_for : (a : Line) (h : Answers a text new (IsAtEnd after × (new.taken ≤ INPUT_BYTES))) → IsAnswerFor a new (these a h)
    is_for Bytes h = (refl, h.1)
    is_for LongLine h = (h.0.0, refl, h.0.2)
    is_for End h = refl
    is_for InputTooLong h = refl
    is_for ReadFault h = refl

    count : (a : Line) (h : Answers a text new (IsAtEnd after × (new.taken ≤ INPUT_BYTES))) → length (these a h) ≡ line_count a
    count Bytes h = refl
    count LongLine h = refl
    count End h = refl
    count InputTooLong h = refl
    count ReadFault h = refl

    known : AreLines None came old.pending answered
    known = subst (λ e. AreLines e came old.pending answered) open_before has.lines

    all : List ℕ
    all = came ++ reads.came

    size : length all ≡ new.taken
    size = length-append came reads.came ∙ ap (λ n. n + length reads.came) (sym has.taken) ∙ sym reads.counted

    lines_now : lines (within_limit 0 all) ≡ answered ++ lines text
    lines_now = ap lines (sym (append-nil (within_limit 0 all))) ∙ lines_further old new came reads.came answered known has.taken [] ∙ ap (λ zs. answered ++ lines zs) (append-nil text)

    whole_lines_now : whole_lines (within_limit 0 all) ≡ answered ++ whole_lines text
    whole_lines_now = ap whole_lines (sym (append-nil (within_limit 0 all))) ∙ whole_lines_further old new came reads.came answered known has.taken [] ∙ ap (λ zs. answered ++ whole_lines zs) (append-nil text)

    lines_all : new.taken ≤ INPUT_BYTES → lines all ≡ answered ++ lines text
    lines_all fits = ap lines (sym (take_all (INPUT_BYTES - 0) all (omega (arith, size, fits)))) ∙ lines_now

    no_whole_line : HasNoLineFeed text → whole_lines (within_limit 0 all) ≡ answered ++ []
    no_whole_line none = whole_lines_now ∙ ap (λ zs. answered ++ zs) (whole_lines-uncut text none)

    one_line : (line : List ℕ) → IsNextLine text line new (IsAtEnd after × (new.taken ≤ INPUT_BYTES)) → AreLines new.closed all new.pending (answered ++ line ∷ [])
    one_line line (inl starts) =
        subst (λ e. AreLines e all new.pending (answered ++ line ∷ [])) (sym starts.1) (λ more. (
          lines_further old new came reads.came answered known has.taken more
              ∙ ap (λ zs. answered ++ zs) (lines-starts text line new.pending starts.0 more)
              ∙ sym (append_assoc answered (line ∷ []) (lines (new.pending ++ more))),
          whole_lines_further old new came reads.came answered known has.taken more
              ∙ ap (λ zs. answered ++ zs) (whole_lines-starts text line new.pending starts.0 more)
              ∙ sym (append_assoc answered (line ∷ []) (whole_lines (new.pending ++ more))),
        ))
    one_line line (inr last) =
        subst (λ e. AreLines e all new.pending (answered ++ line ∷ [])) (sym last.3) (
          lines_all last.1.1 ∙ ap (λ zs. answered ++ zs) (lines-unended text line last.0),
          omega (arith, size, last.1.1),
        )

    are_lines : (a : Line) (h : Answers a text new (IsAtEnd after × (new.taken ≤ INPUT_BYTES))) → AreLines new.closed all new.pending (answered ++ these a h)
    are_lines Bytes h = one_line new.line h.0
    are_lines LongLine h = one_line h.0.0 h.0.1
    are_lines End h =
        subst (λ e. AreLines e all new.pending (answered ++ [])) (sym h.2.closed) (
          lines_all h.1.1 ∙ ap (λ zs. answered ++ lines zs) h.0,
          omega (arith, size, h.1.1),
        )
    are_lines InputTooLong h =
        subst (λ e. AreLines e all new.pending (answered ++ [])) (sym h.2.closed) (no_whole_line h.0, omega (arith, size, h.1))
    are_lines ReadFault h =
        subst (λ e. AreLines e all new.pending (answered ++ [])) (sym h.2.closed) (no_whole_line h.0, omega (arith, size, h.1))
