-- The orders of a name, in an input and in one that has their lines alone.
use Rattle.std.proofs.Common.{◌≡◌, ◌∷◌, ℕ, Bool, true, false, List, [], refl, ap, sym, subst, ◌∙◌}
use Rattle.std.specs.Prelude.{map, filter, flat_map, if◌then◌else◌}
use Rattle.smil_model.specs.document.Limits.{Limits}
use Rattle.smil_grammar.specs.Scripts.{is_presentation_name}
use Rattle.smil_top.specs.Cut.{OrderLines, orders}
use Rattle.smil_top.specs.Answers.{answer_within}
use Rattle.smil_top.specs.Transcript.{Answering, TranscriptState}
use Rattle.smil_top.specs.Laws.{OrderAttempt, with_ease, told_by, answered_by, any_refused_as, concerns, part_of, is_too_many, renumbered, renumbered_try, lines_of, own_tried, own_answered, AllSameBut, IsAloneInInput}
use Rattle.smil_top.proofs.OrdersCutAgain.{cut_again}
use Rattle.smil_top.proofs.OrdersOfOneName.{is_alone}
use Rattle.smil_top.proofs.LineNumbers.{are_aside}
use Rattle.smil_top.proofs.TranscriptAnswers.{with_ease_told}

if_ease : (b : Bool) (order : OrderLines) (others : List OrderLines) → (if b then with_ease order ∷ map with_ease others else map with_ease others) ≡ map with_ease (if b then order ∷ others else others)
if_ease true order others = refl
if_ease false order others = refl

own-ease : (name : List ℕ) (all : List OrderLines) → own_tried name (map with_ease all) ≡ map with_ease (filter (concerns name) all)
own-ease name [] = refl
own-ease name (order ∷ others) =
    ap (λ (zs : List OrderAttempt). if concerns name order then with_ease order ∷ zs else zs) (own-ease name others) ∙ if_ease (concerns name order) order (filter (concerns name) others)

ease-renumbered : (given : ℕ → ℕ) (all : List OrderLines) → map (renumbered_try given) (map with_ease all) ≡ map with_ease (map (renumbered given) all)
ease-renumbered given [] = refl
ease-renumbered given (order ∷ others) = ap (λ (zs : List OrderAttempt). with_ease (renumbered given order) ∷ zs) (ease-renumbered given others)

pub alone_in_input : (allowed : Limits) (name : List ℕ) (lines : List (List ℕ)) → is_presentation_name name ≡ true
    → any_refused_as is_too_many (answered_by (answer_within allowed) (map with_ease (orders lines))) ≡ false
    → IsAloneInInput (answer_within allowed) name lines
alone_in_input allowed name lines is_name few =
    let answering : Answering = answer_within allowed in
    let tried : List OrderAttempt = map with_ease (orders lines) in
    let alone = is_alone allowed name is_name tried few in
    let cut = cut_again lines (concerns name) in
    let own : List (List ℕ) = flat_map lines_of (filter (concerns name) (orders lines)) in
    let same : map (renumbered_try cut.0) (own_tried name tried) ≡ map with_ease (orders own) =
    ap (map (renumbered_try cut.0)) (own-ease name (orders lines)) ∙ ease-renumbered cut.0 (filter (concerns name) (orders lines)) ∙ ap (map with_ease) (sym cut.1) in
    record {
      own = own;
      own_is = refl;
      given = cut.0;
      answers = subst (λ (zs : List OrderAttempt). AllSameBut cut.0 (own_answered name (answered_by answering tried)) (own_answered name (answered_by answering zs))) same (alone.aside cut.0);
      session = ap (λ (t : TranscriptState). part_of name t.session) (sym (with_ease_told answering (orders lines))) ∙ alone.session
          ∙ sym (are_aside allowed cut.0 (own_tried name tried)).session ∙ ap (λ (zs : List OrderAttempt). (told_by answering zs).session) same
          ∙ ap (λ (t : TranscriptState). t.session) (with_ease_told answering (orders own));
    }
