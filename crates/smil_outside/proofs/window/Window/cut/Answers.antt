use Rattle.std.proofs.Common.{◌≤◌, ◌-◌, ◌≡◌, length, ap, sym, ◌∙◌, arith}
use Rattle.smil_outside.proofs.ListRanges.{range_front, range_rest, length-slice_range}
use Rattle.smil_outside.proofs.window.Window.cut.Goals as goal

pub returns : goal.returns
returns c =
    let w = c.self.inside in
    let size : length c.args.self.now.bytes ≡ w.end - w.start =
    ap (λ held. length held.bytes) (sym c.self.view_is) ∙ length-slice_range w.buffer.items w.start w.end (omega (arith, w.buffer.ok.0)) in
    let covered : c.args.covers ≤ w.end - w.start = omega arith in
    let cut : c.args.len ≤ w.end - w.start = omega arith in
    rw (← c.self.view_is, range_front w.buffer.items w.start w.end c.args.len cut, range_rest w.buffer.items w.start w.end c.args.covers covered)
