use Rattle.std.proofs.Common.{ap, filter}
use Rattle.std.proofs.lemmas.Result.{on_ok_weaker}
use Rattle.std.specs.Prelude.{is_some}
use Rattle.smil_model.specs.declared.document.Node.{Node}
use Rattle.smil_model.specs.document.Document.{is_within}
use Rattle.smil_cells.specs.Shown.{ArePutWhere, IsRangePut}
use Rattle.smil_cells.proofs.ElementsByPlace.{range_put}
use Rattle.smil_cells.proofs.ElementsShown.{within_there}
use Rattle.smil_cells.proofs.ElementsTouched.{within_only}
use Rattle.smil_cells.proofs.touched.touch_within.Goals as goal

pub returns : goal.returns
returns c =
    let nodes = c.args.tree.now.nodes in
    let numbered = c.valid.ensures.numbered in
    let start = c.span-start.result.0 in
    let end = c.span-start.result.1 in
    let new = c.put_range.new.places in
    on_ok_weaker {Q = ArePutWhere nodes (is_within nodes c.args.who) c.args.touched.now new} c.put_range.result
    (λ (range : IsRangePut start end c.args.touched.now new). record {
      more = range.more;
      put = λ e here q.
          range_put nodes c.args.tree.now.next numbered start end e.serial (filter (λ (n : Node). is_within nodes c.args.who n.serial) nodes) new
          c.span-start.ensures.within range.put (ap (λ o. is_some o) here) (within_there nodes c.args.who e here q);
      only = within_only nodes c.args.tree.now.next numbered start end c.args.who c.args.touched.now new c.span-start.ensures.within range.only;
    })
    c.put_range.ensures
