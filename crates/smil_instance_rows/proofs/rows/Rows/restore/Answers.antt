use Rattle.std.proofs.Common.{◌∙◌, sym, ap, length, ◌<◌, ◌≤◌, arith}
use Rattle.smil_instance_rows.specs.Rows.{ElementTimes}
use Rattle.smil_instance_rows.specs.Notes.{times_put}
use Rattle.smil_instance_rows.proofs.RowsBySerial.{index_kept}
use Rattle.smil_instance_rows.proofs.Noted.{put_past, put_set}
use Rattle.smil_instance_rows.proofs.rows.Rows.restore.Goals as goal

pub invariant_of-self : goal.invariant_of-self
invariant_of-self c = λ who.
    let rows = c.self.inside.rows.items in
    let inside : c.args.index < length rows = omega (arith, c.if-index-len.true, c.len.ensures, c.self.inside.rows.ok.0) in
    c.self.invariant who
    ∙ sym (index_kept rows c.args.index c.index_mut.result.now c.restore.new.self inside c.index_mut.ensures.value (ap (λ (r : ElementTimes). r.serial) c.restore.ensures) who)

pub returns-then-index-len : goal.returns-then-index-len
returns-then-index-len c =
    let rows = c.self.inside.rows.items in
    let inside : c.args.index < length rows = omega (arith, c.if-index-len.true, c.len.ensures, c.self.inside.rows.ok.0) in
    put_set rows c.args.index c.index_mut.result.now c.restore.new.self c.args.row inside c.index_mut.ensures.value c.restore.ensures
    ∙ ap (λ rs. times_put rs c.args.index c.args.row) c.self.view_is

pub returns-else-index-len : goal.returns-else-index-len
returns-else-index-len c =
    let past : length c.args.self.now ≤ c.args.index = omega (arith, c.if-index-len.false, c.len.ensures, c.self.inside.rows.ok.0, ap length c.self.view_is) in
    sym (put_past c.args.self.now c.args.index c.args.row past)
