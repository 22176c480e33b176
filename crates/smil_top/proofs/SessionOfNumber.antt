-- The session of a number: its one transcript, and what is told of it.
use Rattle.std.proofs.Common.{◌≡◌, ℕ, ◌<◌, min, true, false, List, [], ◌∷◌, ◌++◌, Option, Some, None, Ok, Err, refl, ap, sym, ◌∙◌, arith, inl, inr}
use Rattle.std.specs.Prelude.{pos, fold, nat_abs, unwrap_or, option_map, option_and_then, slice_get}
use Rattle.std.specs.Option.{option_map_or}
use Rattle.std.proofs.lemmas.Bool.{or_parts}
use Rattle.smil_model.specs.declared.order.Refusal.TheVariants.{Memory}
use Rattle.smil_model.specs.shown.Orders.{Presentation}
use Rattle.smil_outside.specs.Faults.{last_count}
use Rattle.smil_house.specs.declared.house.NamedPlayer.{NamedPlayer}
use Rattle.smil_house.specs.House.{place_of, moment_of}
use Rattle.smil_top.specs.Cut.{OrderLines, first_line}
use Rattle.smil_top.specs.Session.{NamedPresentation, Session, found_in}
use Rattle.smil_top.specs.Answers.{Answer, at_line}
use Rattle.smil_top.specs.Transcript.{Answering, TranscriptState, untold, with_answer, is_memory, IsTranscriptBy, of_nothing, and_then, transcript_by}
use Rattle.smil_top.specs.Summary.{moment_in}
use Rattle.smil_top.specs.Houses.{Presentations, Holds}
use Rattle.smil_top.proofs.HouseLemmas.{presentation-held}
use Rattle.smil_top.proofs.AnswersMade.{itself}

-- ---- the one transcript

fold-snoc : {A B : Type 0} (f : B → A → B) (z : B) (xs : List A) (x : A) → fold f z (xs ++ x ∷ []) ≡ f (fold f z xs) x
fold-snoc f z [] x = refl
fold-snoc f z (y ∷ ys) x = fold-snoc f (f z y) ys x

before-memory : (told : TranscriptState) (answer : Answer) → (with_answer told answer).memory ≡ false → told.memory ≡ false
before-memory told (Ok accepted) h = h
before-memory told (Err fault) h = (or_parts told.memory (is_memory fault.refusal) h).0

memory-told : (told : TranscriptState) (line : ℕ) → (with_answer told (at_line line (Err Memory))).memory ≡ false → ⊥
memory-told told line h = let e = (or_parts told.memory true h).1 in cc

-- where no order was refused since memory ran out there is one transcript
pub one-transcript : (answering : Answering) (orders : List OrderLines) (told : TranscriptState) → IsTranscriptBy answering orders told → told.memory ≡ false →
    told ≡ transcript_by answering orders
one-transcript answering _ _ of_nothing h = refl
one-transcript answering _ _ (and_then {orders = orders} {told = told} so_far order answer may) h =
    let was : told ≡ transcript_by answering orders = one-transcript answering orders told so_far (before-memory told answer h) in
    let last : with_answer told answer ≡ with_answer told (answering told.session order) = elim may [
      | inl is ↦ ap (with_answer told) is
      | inr memory ↦ absurd (memory-told told (first_line order) (ap (λ a. (with_answer told a).memory) (sym memory.1) ∙ h))
    ] in
    last
    ∙ ap (λ (t : TranscriptState). with_answer t (answering t.session order)) was
    ∙ sym (fold-snoc (λ t o. with_answer t (answering t.session o)) untold orders order)

-- ---- the moment

moment-by : (o : Option (NamedPlayer Presentation)) →
    nat_abs (unwrap_or (option_map (λ (h : NamedPlayer Presentation). pos h.player.now) o) (pos 0))
    ≡ option_map_or (λ (p : Presentation). p.now) (option_map (λ (h : NamedPlayer Presentation). h.player) o) 0
moment-by None = refl
moment-by (Some h) = refl

pub moment-held : (name : List ℕ) (house : Presentations) (session : Session) → Holds house session →
    nat_abs (unwrap_or (moment_of itself name house) (pos 0)) ≡ moment_in name session
moment-held name house session holds =
    moment-by (option_and_then (slice_get house) (place_of name house))
    ∙ ap (λ o. option_map_or (λ (p : Presentation). p.now) o 0) (sym (presentation-held name house))
    ∙ ap (λ (held : List NamedPresentation). option_map_or (λ (p : Presentation). p.now) (found_in name held) 0) (sym holds.session_is)

-- ---- counts

pub exact : (count n : ℕ) → count ≡ min n last_count → count < last_count → count ≡ n
exact count n is below = omega arith
