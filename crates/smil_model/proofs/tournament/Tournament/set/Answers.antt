use Rattle.std.proofs.Common.{◌≡◌, ◌≢◌, ◌∙◌, ap, sym, subst, ℕ, ◌+◌, ◌/◌, ◌<◌, List, length, drop, set, arith}
use Rattle.std.proofs.lemmas.List.{drop-set-add, take_at}
use Rattle.smil_model.specs.Tournaments.{IsDecided, IsTournament}
use Rattle.smil_model.proofs.Tournaments.{changed_slot, next_made}
use Rattle.smil_model.proofs.tournament.Tournament.set.Goals as goal

pub decide_above-requires-clause-others : goal.decide_above-requires-clause-others
decide_above-requires-clause-others g c =
    let none = g.T.Contender.none in
    let both = g.T.Contender.both in
    let was = c.self.inside in
    subst (λ (places : List _). (i : ℕ) → 0 < i → i < was.half → i ≢ (was.half + c.args.index) / 2 → IsDecided none both places i)
    (sym c.deref_mut.ensures.value)
    (changed_slot none both was.places.items was.half (was.half + c.args.index) c.args.item (omega arith) c.self.invariant.decided)

pub invariant_of-self : goal.invariant_of-self
invariant_of-self g c =
    let none = g.T.Contender.none in
    let both = g.T.Contender.both in
    let was = c.self.inside in
    let new = c.decide_above.new.places in
    let count : length new ≡ was.places.len = omega (arith, c.deref_mut.ensures.len, was.places.ok.0) in
    subst (λ (places : List _). IsTournament none both places was.half) (sym (take_at new _ was.places.len count))
    (next_made none both was.places.items new was.half c.self.invariant (omega (arith, count, was.places.ok.0)) c.decide_above.ensures.decided)

pub returns : goal.returns
returns g c =
    let was = c.self.inside in
    let new = c.decide_above.new.places in
    let count : length new ≡ was.places.len = omega (arith, c.deref_mut.ensures.len, was.places.ok.0) in
    ap (drop was.half) (take_at new _ was.places.len count)
    ∙ c.decide_above.ensures.kept
    ∙ ap (drop was.half) c.deref_mut.ensures.value
    ∙ drop-set-add was.half was.places.items c.args.index c.args.item
    ∙ ap (λ (items : List _). set items c.args.index c.args.item) c.self.view_is
