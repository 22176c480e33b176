use Rattle.std.proofs.Common.{◌≡◌, ℕ, List, Some}
use Rattle.std.specs.Prelude.{slice_get}
use Rattle.std.proofs.lemmas.Result.{IfOk-weaker}
use Rattle.smil_model.specs.declared.document.Node.{Node}
use Rattle.smil_model.specs.reach.Reach.{near, down}
use Rattle.smil_graph.specs.Tables.{reach_of, AreNear, AreOf}
use Rattle.smil_graph.proofs.ReachByPlace.{near_are}
use Rattle.smil_graph.proofs.graph.reach_at.Goals as goal

pub reach_from-requires-clause-elements : goal.reach_from-requires-clause-elements
reach_from-requires-clause-elements c = rw c.as_slice-3.ensures.keys c.in_ok-starts.ensures.elements

pub returns : goal.returns
returns c =
    let begins : AreNear c.args.tree.now.nodes c.args.place c.as_slice-3.result.now = rw c.as_slice-3.ensures.keys c.in_ok-starts.ensures in
    IfOk-weaker c.reach_from.result (λ reach. (set : List ℕ) → AreOf c.args.tree.now.nodes set c.as_slice-3.result.now → reach ≡ reach_of c.args.tree.now.nodes set)
    (λ reach. (x : Node) → slice_get c.args.tree.now.nodes c.args.place ≡ Some x → reach ≡ down c.args.tree.now.nodes x.serial)
    (λ reach is x here. is (near c.args.tree.now.nodes x.serial) (near_are c.args.tree.now.nodes c.requires.tree.distinct c.args.place c.as_slice-3.result.now x here begins))
    c.reach_from.ensures
