use Rattle.std.proofs.Common.{◌+◌, ap, length, refl, arith}
use Rattle.smil_top.proofs.LoadsGiven.{read-last, read-more, read-none}
use Rattle.smil_top.proofs.load.Load.read.Goals as goal

pub lines-init : goal.lines-init
lines-init c = record { read = read-none c.args.self c.args.number c.args.outline.now; last = refl; room = omega arith }

pub lines-preserved : goal.lines-preserved
lines-preserved c =
    let v = c.lines.invariant in
    let lines = c.in-Some.ensures.lines in
    record {
      read = read-more c.args.self c.lines.load c.read_line-load.result c.args.number c.lines.last (c.lines.last + 1) c.args.outline.now c.lines.rest.now c.in-Some.line.now c.in-Some.behind.now (omega arith) lines c.read_line-load.ensures v.read;
      last = let more = ap length lines in omega (arith, v.last, more);
      room = omega (arith, v.room, c.in-Some.ensures.length);
    }

pub returns-clause-read : goal.returns-clause-read
returns-clause-read c wanted lines read =
    let v = c.lines.invariant in
    read-last c.args.self c.lines.load c.read_line.result c.args.number c.lines.last (c.lines.last + 1) c.args.outline.now c.lines.rest.now (omega arith) c.in_default.ensures.lines c.read_line.ensures v.read wanted lines read

pub returns-clause-last : goal.returns-clause-last
returns-clause-last c =
    let v = c.lines.invariant in
    let alone = ap length c.in_default.ensures.lines in
    omega (arith, v.last, alone)
