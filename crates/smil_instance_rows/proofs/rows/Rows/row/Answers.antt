use Rattle.std.proofs.Common.{◌≡◌, ◌∙◌, ap, Some, None}
use Rattle.std.specs.FinMap.{get}
use Rattle.smil_instance_rows.specs.Readings.{index_in}
use Rattle.smil_instance_rows.proofs.RowsBySerial.{found, row_placed}
use Rattle.smil_instance_rows.proofs.rows.Rows.row.Goals as goal

pub returns-in-Some : goal.returns-in-Some
returns-in-Some c =
    let is : Some c.in-Some.index ≡ index_in c.args.self.now c.args.who = c.in-Some.ensures ∙ ap (λ indices. get indices c.args.who) c.deref.ensures ∙ c.self.invariant c.args.who ∙ ap (λ rs. index_in rs c.args.who) c.self.view_is in
    c.at.ensures ∙ ap (found c.args.self.now) is ∙ row_placed c.args.self.now c.args.who

pub returns-in-None : goal.returns-in-None
returns-in-None c =
    let is : None ≡ index_in c.args.self.now c.args.who = c.in-None.ensures ∙ ap (λ indices. get indices c.args.who) c.deref.ensures ∙ c.self.invariant c.args.who ∙ ap (λ rs. index_in rs c.args.who) c.self.view_is in
    ap (found c.args.self.now) is ∙ row_placed c.args.self.now c.args.who
