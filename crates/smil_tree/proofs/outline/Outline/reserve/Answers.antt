use Rattle.std.proofs.Common.{refl, arith}
use Rattle.smil_tree.proofs.OutlineRows.{outline_stays}
use Rattle.smil_tree.proofs.outline.Outline.reserve.Goals as goal

pub returns-in_err-reserve-clause-same : goal.returns-in_err-reserve-clause-same
returns-in_err-reserve-clause-same c = λ nodes begun.
    outline_stays nodes c.args.self.now (record { rows = c.reserve.new.self; children = c.args.self.now.children; elements = c.args.self.now.elements })
    c.reserve.ensures.items refl refl c.reserve.ensures.capacity (omega arith) (omega arith) begun

pub returns-in_err-reserve-2-clause-same : goal.returns-in_err-reserve-2-clause-same
returns-in_err-reserve-2-clause-same c = λ nodes begun.
    outline_stays nodes c.args.self.now (record { rows = c.reserve.new.self; children = c.reserve-2.new.self; elements = c.args.self.now.elements })
    c.reserve.ensures.items c.reserve-2.ensures.items refl c.reserve.ensures.capacity c.reserve-2.ensures.capacity (omega arith) begun

pub returns-clause-same : goal.returns-clause-same
returns-clause-same c = λ nodes begun.
    outline_stays nodes c.args.self.now (record { rows = c.reserve.new.self; children = c.reserve-2.new.self; elements = c.reserve-3.new.self })
    c.reserve.ensures.items c.reserve-2.ensures.items c.reserve-3.ensures.items c.reserve.ensures.capacity c.reserve-2.ensures.capacity c.reserve-3.ensures.capacity begun
