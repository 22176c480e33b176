use Rattle.std.proofs.Common.{◌-◌, length, drop}
use Rattle.smil_top.proofs.Carried.{counted-of, records-of}
use Rattle.smil_top.proofs.session.Session.change.Goals as goal

pub returns-clause-recorded : goal.returns-clause-recorded
returns-clause-recorded g c session keeps =
    let e = c.«record».ensures in
    records-of c.args.name.now c.args.order.now c.args.self.now c.«record».new.self session keeps c.args.changes.now c.«record».new.out (c.«record».new.steps - c.args.steps.now) c.«record».result c.requires.empty e.ok e.refused e.kept e.appended e.records

pub returns-clause-evaluated : goal.returns-clause-evaluated
returns-clause-evaluated g c session keeps =
    let e = c.«record».ensures in
    counted-of c.args.name.now c.args.order.now c.args.self.now c.«record».new.self session keeps (drop (length c.args.changes.now) c.«record».new.out) (c.«record».new.steps - c.args.steps.now) c.«record».result e.ok e.refused
