use Rattle.std.proofs.Common.{◌≡◌, ◌∙◌, ap, length, sym, arith}
use Rattle.std.specs.Prelude.{◌||◌, ◌==◌}
use Rattle.std.proofs.lemmas.List.{take_at}
use Rattle.smil_model.specs.document.Closure.{has}
use Rattle.smil_model.specs.PlaceSet.{is_in, places_of}
use Rattle.smil_model.proofs.PlaceSets.{has-places_of}
use Rattle.smil_model.proofs.place_set.PlaceSet.put.Goals as goal

pub returns-clause-ok : goal.returns-clause-ok
returns-clause-ok c = λ p.
    let words = c.set_bit.new.words in
    let count : length words ≡ c.reach.new.words.len = omega (arith, c.set_bit.auto.words, c.deref_mut.ensures.len, c.reach.new.words.ok.0) in
    ap (λ words. has (places_of words) p) (take_at words _ c.reach.new.words.len count)
    ∙ has-places_of words p
    ∙ c.set_bit.ensures p
    ∙ ap (λ words. (p == c.args.place) || is_in words p) c.deref_mut.ensures.value
    ∙ ap (λ t. (p == c.args.place) || t) (c.in_ok-reach.ensures.same p ∙ sym (has-places_of c.self.inside.words.items p) ∙ ap (λ places. has places p) c.self.view_is)
