use Rattle.std.proofs.Common.{subst}
use Rattle.smil_top.specs.Running.{WritesAll, Writes}
use Rattle.smil_top.proofs.TextsWritten.{Writes-of, Writes-two}
use Rattle.smil_top.proofs.answer.Answer.write_apart.Goals as goal

pub returns-clause-writes : goal.returns-clause-writes
returns-clause-writes g c =
    let before = g.K.Sink.taken c.args.sink.now in
    let middle = g.K.Sink.taken c.write_all.new.sink in
    let after = g.K.Sink.taken c.write_all-2.new.sink in
    let room = g.K.Sink.sure_room c.args.sink.now in
    let between = g.K.Sink.sure_room c.write_all.new.sink in
    let left = g.K.Sink.sure_room c.write_all-2.new.sink in
    let one : WritesAll before middle room between c.args.self.now.told =
    subst (λ zs. WritesAll before middle room between zs) c.slice.ensures (c.in_ok-write_all.ensures.ok, c.in_ok-write_all.ensures.room)
    in
    let e = c.write_all-2.ensures in
    let two : Writes c.write_all-2.result middle after between left c.args.self.now.last =
    subst
    (λ zs. Writes c.write_all-2.result middle after between left zs)
    c.slice-2.ensures
    (Writes-of c.write_all-2.result middle after between left c.slice-2.result.now e.ok e.err e.sure e.room)
    in
    Writes-two c.write_all-2.result before middle after room between left c.args.self.now.told c.args.self.now.last one two
