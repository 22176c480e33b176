use Rattle.std.proofs.Common.{◌≡◌, ◌∙◌, ap, subst, sym, ◌+◌, ◌≤◌, List, length, drop, arith}
use Rattle.std.proofs.lemmas.List.{take_at}
use Rattle.smil_model.specs.Tournaments.{IsTournament}
use Rattle.smil_model.proofs.Tournaments.{few_places, first_made, laid}
use Rattle.smil_model.proofs.tournament.Tournament.of.Goals as goal

pub decide_all-requires-clause-half : goal.decide_all-requires-clause-half
decide_all-requires-clause-half g c =
    few_places c.next_power_of_two-half.result (length c.args.items.now) c.next_power_of_two-half.ensures.power c.next_power_of_two-half.ensures.upper_bound c.requires

pub decide_all-requires-clause-from : goal.decide_all-requires-clause-from
decide_all-requires-clause-from g c =
    let half = c.next_power_of_two-half.result in
    let are = laid half c.in_ok-places.places.items c.args.items.now c.extend_from_slice.new.self.items (omega (arith, c.in_ok-places.ensures.len, c.in_ok-places.places.ok.0)) c.in_ok-extend_from_slice.ensures.items in
    subst (λ (places : List _). half ≤ length places) (sym c.deref_mut.ensures.value) (omega (arith, are.0))

pub invariant_of-result : goal.invariant_of-result
invariant_of-result g c =
    let none = g.T.Contender.none in
    let both = g.T.Contender.both in
    let half = c.next_power_of_two-half.result in
    let new = c.decide_all.new.places in
    let made = c.extend_from_slice.new.self in
    let are = laid half c.in_ok-places.places.items c.args.items.now made.items (omega (arith, c.in_ok-places.ensures.len, c.in_ok-places.places.ok.0)) c.in_ok-extend_from_slice.ensures.items in
    let count : length new ≡ made.len = omega (arith, c.deref_mut.ensures.len, made.ok.0) in
    let whole : length new ≡ half + length c.args.items.now = omega (arith, count, made.ok.0, are.0) in
    subst (λ (places : List _). IsTournament none both places half) (sym (take_at new _ made.len count))
    (first_made none both new half (length c.args.items.now) c.next_power_of_two-half.ensures.power c.next_power_of_two-half.ensures.lower_bound c.next_power_of_two-half.ensures.upper_bound c.requires whole c.decide_all.ensures.decided)

pub returns : goal.returns
returns g c =
    let half = c.next_power_of_two-half.result in
    let new = c.decide_all.new.places in
    let made = c.extend_from_slice.new.self in
    let are = laid half c.in_ok-places.places.items c.args.items.now made.items (omega (arith, c.in_ok-places.ensures.len, c.in_ok-places.places.ok.0)) c.in_ok-extend_from_slice.ensures.items in
    let count : length new ≡ made.len = omega (arith, c.deref_mut.ensures.len, made.ok.0) in
    ap (drop half) (take_at new _ made.len count)
    ∙ c.decide_all.ensures.kept
    ∙ ap (drop half) c.deref_mut.ensures.value
    ∙ are.1
