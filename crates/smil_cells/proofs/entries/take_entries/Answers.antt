use Rattle.std.proofs.Common.{◌∙◌}
use Rattle.smil_cells.proofs.ElementsByPlace.{nothing, still_stands}
use Rattle.smil_cells.proofs.ElementsTouched.{puts_only}
use Rattle.smil_cells.proofs.PlacesPut.{stay_before}
use Rattle.smil_cells.proofs.entries.take_entries.Goals as goal

pub returns-clause-put : goal.returns-clause-put
returns-clause-put g c =
    let past = c.args.since.now.past.now in
    let from = c.args.since.now.from in
    let moment = c.args.since.now.moment in
    let put = c.in_ok-put_nodes.ensures in
    let touched = c.in_ok-touch.ensures in
    let mid = c.touch.new.touched in
    let after = c.put_nodes.new.places in
    record {
      more = λ p was. put.more p (touched.more p was);
      shown = λ e here q. still_stands past.document.nodes mid after put.more e.serial (touched.put e here q);
      others = stay_before moment from c.refresh.new.changed after past c.tree.result.now c.tree.ensures put.put c.in_ok-refresh.ensures.changed;
      only = puts_only past from moment c.args.places.now mid after c.cut_back.new.self c.refresh.new.changed c.tree.result.now c.tree.ensures (c.cut_back.ensures ∙ nothing c.args.changed.now) touched.only put.only c.in_ok-refresh.ensures.told;
    }

pub returns-clause-evaluated : goal.returns-clause-evaluated
returns-clause-evaluated g c =
    let told = c.in_ok-refresh.ensures in
    record { most = told.most; least = told.least; evaluated = told.evaluated }
