use Rattle.std.proofs.Common.{arith, ◌≡◌, true}
use Rattle.std.proofs.lemmas.Result.{on_ok_weaker}
use Rattle.smil_model.specs.document.Closure.{has}
use Rattle.smil_graph.specs.Links.{row}
use Rattle.smil_graph.proofs.PlaceLists.{has_get}
use Rattle.smil_graph.proofs.SearchLeaves.{members_below}
use Rattle.smil_graph.proofs.SearchSteps.{top_stands, place_below, more_done, link_step_at, leave_step_at}
use Rattle.smil_graph.proofs.components.Components.step.Goals as goal

pub place_at-place-requires : goal.place_at-place-requires
place_at-place-requires c = top_stands c.args.rows.now c.requires.below c.args.self.now c.requires.grouping c.args.position c.requires.last

pub followed_of-requires : goal.followed_of-requires
followed_of-requires c = rw c.place_at-place.ensures (omega (arith, place_below c.args.rows.now c.requires.below c.args.self.now c.requires.grouping c.args.position c.requires.last, c.requires.grouping.next_count))

pub follow_link-requires-clause-target : goal.follow_link-requires-clause-target
follow_link-requires-clause-target c =
    let read = c.in-Some.ensures.lookup in
    let listed : has (row c.args.rows.now c.place_at-place.result) c.in-Some.target.now ≡ true = rw (← c.at.ensures, read.3.1 0) (has_get c.at.result.now c.followed_of.result read.3.0) in
    omega (arith, c.requires.below c.place_at-place.result c.in-Some.target.now listed, c.requires.grouping.marks_count)

pub returns-in-Some : goal.returns-in-Some
returns-in-Some c =
    let read = c.in-Some.ensures.lookup in
    on_ok_weaker c.follow_link.result
    (λ is. rw is (link_step_at c.args.rows.now c.requires.below c.args.self.now c.requires.grouping c.args.position c.requires.last c.place_at-place.result c.followed_of.result c.in-Some.target.now c.at.result.now c.place_at-place.ensures c.at.ensures c.followed_of.ensures read.3.0 (read.3.1 0)))
    c.follow_link.ensures

pub leave-requires-clause-position : goal.leave-requires-clause-position
leave-requires-clause-position c = top_stands c.args.rows.now c.requires.below c.args.self.now c.requires.grouping c.args.position c.requires.last

pub leave-requires-clause-below : goal.leave-requires-clause-below
leave-requires-clause-below c = members_below c.args.rows.now c.args.self.now c.requires.grouping

pub leave-requires-clause-few : goal.leave-requires-clause-few
leave-requires-clause-few c = omega (arith, more_done c.args.rows.now c.requires.below c.args.self.now c.requires.grouping c.args.position c.requires.last, c.requires.count)

pub returns-in-None : goal.returns-in-None
returns-in-None c =
    rw c.leave.ensures (leave_step_at c.args.rows.now c.requires.below c.args.self.now c.requires.grouping c.args.position c.requires.last c.place_at-place.result c.followed_of.result c.at.result.now c.place_at-place.ensures c.at.ensures c.followed_of.ensures c.in-None.ensures.lookup.3)
