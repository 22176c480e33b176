use Rattle.std.proofs.Common.{◌≡◌, ◌∙◌, sym, inr, arith, to_z, of_z, w64}
use Rattle.std.proofs.lemmas.Int.{ints}
use Rattle.std.proofs.lemmas.List.{length-set}
use Rattle.std.proofs.lemmas.Result.{err_from_is_err_and}
use Rattle.smil_house.proofs.NameMarks.{player_turned}
use Rattle.smil_house.proofs.PresentationsByName.{at_found, turned_to}
use Rattle.smil_house.specs.House.{IsAt}
use Rattle.smil_house.proofs.house.House.record.Given.{Over}
use Rattle.smil_house.proofs.house.House.record.Goals as goal
use Rattle.smil_house.proofs.house.House.record.Goals.{After-record}

-- the presentation of the name
here : (g : Over) (c : After-record g) → IsAt c.args.name.now c.args.self.now c.in-Some.index c.index_mut-held.result.now
here g c = at_found c.args.name.now c.self.inside.held.items c.args.self.now c.index_of.result c.in-Some.index c.index_mut-held.result.now c.self.view_is c.index_of.ensures c.in-Some.is c.index_mut-held.ensures.value

pub returns-in_err-record-clause-refused : goal.returns-in_err-record-clause-refused
returns-in_err-record-clause-refused g c =
    let p = err_from_is_err_and c.from_residual.result c.from_residual.ensures.1 in
    rw (p.1, p.2) (inr (record {
      place = c.in-Some.index;
      before = c.index_mut-held.result.now;
      at = here g (goal.at.returns-in_err-record-clause-refused g c).After-record;
      refused = c.in_err-record.ensures.refused;
      free = c.in_err-record.ensures.free;
    }))

pub returns-in_err-record-clause-kept : goal.returns-in_err-record-clause-kept
returns-in_err-record-clause-kept g c =
    let p = err_from_is_err_and c.from_residual.result c.from_residual.ensures.1 in
    rw p.1 (inr (record {
      place = c.in-Some.index;
      before = c.index_mut-held.result.now;
      after = record { name = c.index_mut-held.result.now.name; player = c.«record».new.self };
      turned = turned_to g.P.Player.formats c.self.inside.held.items c.«record».new.self c.self.view_is (here g (goal.at.returns-in_err-record-clause-kept g c).After-record) c.in_err-record.ensures.formats;
      same = c.in_err-record.ensures.kept;
    }))

pub returns-clause-ok : goal.returns-clause-ok
returns-clause-ok g c =
    let same : to_z w64 (of_z w64 c.now.result) ≡ c.now.result = omega (arith, ints, c.now.type_inv) in
    record {
      place = c.in-Some.index;
      before = c.index_mut-held.result.now;
      after = record { name = c.index_mut-held.result.now.name; player = c.«record».new.self };
      turned = turned_to g.P.Player.formats c.self.inside.held.items c.«record».new.self c.self.view_is (here g (goal.at.returns-clause-ok g c).After-record) c.in_ok-record.ensures.formats;
      accepted = c.in_ok-record.ensures.ok;
      moment_is = same ∙ c.now.ensures;
      least_is = c.in_ok-record.ensures.least;
      most_is = c.in_ok-record.ensures.most;
    }

pub invariant_of-self : goal.invariant_of-self
invariant_of-self g c = (
  omega (arith, length-set c.self.inside.held.items c.in-Some.index (record { name = c.index_mut-held.result.now.name; player = c.record.new.self }), c.self.invariant.0),
  c.self.invariant.1,
  c.self.invariant.2,
  c.self.invariant.3 ∙ sym (player_turned c.self.inside.held.items c.in-Some.index c.index_mut-held.result.now c.record.new.self c.index_mut-held.ensures.value),
)

pub invariant_of-self-2 : goal.invariant_of-self-2
invariant_of-self-2 g c = (
  omega (arith, length-set c.self.inside.held.items c.in-Some.index (record { name = c.index_mut-held.result.now.name; player = c.record.new.self }), c.self.invariant.0),
  c.self.invariant.1,
  c.self.invariant.2,
  c.self.invariant.3 ∙ sym (player_turned c.self.inside.held.items c.in-Some.index c.index_mut-held.result.now c.record.new.self c.index_mut-held.ensures.value),
)
