use Rattle.std.proofs.Common.{◌≡◌, ◌++◌, ◌∙◌, ap, subst, sym}
use Rattle.smil_top.specs.Running.{Writes, text_of}
use Rattle.smil_top.proofs.TextsWritten.{Writes-of, where_ok}
use Rattle.smil_top.proofs.answer.Answer.write.Goals as goal

pub returns-clause-writes : goal.returns-clause-writes
returns-clause-writes g c =
    let before = g.K.Sink.taken c.args.sink.now in
    let after = g.K.Sink.taken c.write_all-written.new.sink in
    let room = g.K.Sink.sure_room c.args.sink.now in
    let left = g.K.Sink.sure_room c.write_all-written.new.sink in
    let e = c.write_all-written.ensures in
    let appended : c.append.new.self ≡ c.args.self.now.told ++ c.slice.result.now =
    where_ok c.append.result (c.append.new.self ≡ c.args.self.now.told ++ c.slice.result.now) (sym c.is_err.ensures.value ∙ c.if-is_err.false) c.append.ensures.ok
    in
    let text : c.slice-2.result.now ≡ text_of c.args.self.now = c.slice-2.ensures ∙ appended ∙ ap (λ l. c.args.self.now.told ++ l) c.slice.ensures in
    subst (λ zs. Writes c.write_all-written.result before after room left zs) text
    (Writes-of c.write_all-written.result before after room left c.slice-2.result.now e.ok e.err e.sure e.room)
