use Rattle.std.proofs.Common.{◌≡◌, ◌∙◌, ap, sym, subst, ℕ, ◌≤◌, ◌<◌, false, cond, List, [], ◌∷◌, length, arith}
use Rattle.std.specs.Prelude.{◌==◌, slice_index}
use Rattle.std.specs.List.Sorted.{IsStrictlyIncreasing}
use Rattle.std.proofs.lemmas.List.{take_at}
use Rattle.smil_model.specs.PlaceSet.{is_in, places_of}
use Rattle.smil_model.proofs.PlaceSets.{least_of_all, least_out, no_places, none_before, none_left, rising}
use Rattle.smil_model.proofs.place_set.PlaceSet.take_first.Goals as goal

pub returns-then-word-self-clause-taken : goal.returns-then-word-self-clause-taken
returns-then-word-self-clause-taken c =
    let words = c.self.inside.words.items in
    let word = c.first_word-word.result in
    let empty = λ (i : ℕ) (from : c.self.inside.first ≤ i) (less : i < word). ap (λ (ws : List ℕ). slice_index ws i) (sym c.deref.ensures.value) ∙ c.first_word-word.ensures.below i from less in
    let none : places_of words ≡ [] = no_places words (none_left words word c.self.inside.end (omega (arith, c.if-word-self.true)) (none_before words c.self.inside.first word c.self.invariant.none_before empty) c.self.invariant.none_behind) in
    (sym c.self.view_is ∙ none, none)

pub returns-then-word-self-clause-order : goal.returns-then-word-self-clause-order
returns-then-word-self-clause-order c = subst IsStrictlyIncreasing c.self.view_is (rising c.self.inside.words.items)

pub returns-clause-taken : goal.returns-clause-taken
returns-clause-taken c =
    let words = c.self.inside.words.items in
    let word = c.first_word-word.result in
    let new = c.take_lowest.new.words in
    let place = c.take_lowest.result in
    let empty = λ (i : ℕ) (from : c.self.inside.first ≤ i) (less : i < word). ap (λ (ws : List ℕ). slice_index ws i) (sym c.deref.ensures.value) ∙ c.first_word-word.ensures.below i from less in
    let count : length new ≡ c.self.inside.words.len = omega (arith, c.take_lowest.auto.words, c.deref_mut.ensures.len, c.self.inside.words.ok.0) in
    let value = c.deref_mut.ensures.value in
    sym c.self.view_is
    ∙ least_out words new place (omega (arith, count, c.self.inside.words.ok.0))
    (ap (λ (ws : List ℕ). is_in ws place) (sym value) ∙ c.take_lowest.ensures.member)
    (least_of_all words word place c.take_lowest.ensures.place (none_before words c.self.inside.first word c.self.invariant.none_before empty)
    (λ p here less. ap (λ (ws : List ℕ). is_in ws p) (sym value) ∙ c.take_lowest.ensures.least p here less))
    (λ p. c.take_lowest.ensures.rest p ∙ ap (λ (ws : List ℕ). cond (p == place) false (is_in ws p)) value)
    ∙ ap (λ (ws : List ℕ). place ∷ places_of ws) (sym (take_at new _ c.self.inside.words.len count))

pub returns-clause-order : goal.returns-clause-order
returns-clause-order c = subst IsStrictlyIncreasing c.self.view_is (rising c.self.inside.words.items)
