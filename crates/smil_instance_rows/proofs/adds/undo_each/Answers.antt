use Rattle.std.proofs.Common.{◌≡◌, ◌∙◌, ap, ◌+◌, ◌-◌, ◌++◌, ◌∷◌, [], length, take, arith}
use Rattle.std.proofs.lemmas.Iterator.Adapters.{YieldsList-from_rev_slice}
use Rattle.std.proofs.lemmas.Iterator.Consumers.{YieldsList-end, YieldsList-turn}
use Rattle.std.proofs.lemmas.List.{length-reverse, length-take-le, length_push}
use Rattle.smil_instance_rows.specs.Changes.{with_adds}
use Rattle.smil_instance_rows.proofs.CellChanges.{undone_next}
use Rattle.smil_instance_rows.proofs.adds.undo_each.Goals as goal

pub undo-requires-clause-cell : goal.undo-requires-clause-cell
undo-requires-clause-cell c =
    let adds = c.args.adds.now in
    let made = c.args.made in
    let n = length c.loop-add.yielded in
    let turn = YieldsList-turn (YieldsList-from_rev_slice (take made adds) (cc)) c.loop-add.yielded _ c.loop-add.yielded_by _ c.next.new.self c.in-Some.add c.in-Some.is c.next.ensures.steps in
    (undone_next c.loop-add.rows c.requires.some.0 adds made n c.in-Some.add.now c.requires.made turn c.requires.some.1.fit
    (c.loop-add.invariant c.requires.some.0 c.requires.some.1)).has

pub undo-requires-clause-some : goal.undo-requires-clause-some
undo-requires-clause-some c =
    let adds = c.args.adds.now in
    let made = c.args.made in
    let n = length c.loop-add.yielded in
    let turn = YieldsList-turn (YieldsList-from_rev_slice (take made adds) (cc)) c.loop-add.yielded _ c.loop-add.yielded_by _ c.next.new.self c.in-Some.add c.in-Some.is c.next.ensures.steps in
    (undone_next c.loop-add.rows c.requires.some.0 adds made n c.in-Some.add.now c.requires.made turn c.requires.some.1.fit
    (c.loop-add.invariant c.requires.some.0 c.requires.some.1)).some

pub loop-add-init : goal.loop-add-init
loop-add-init c = λ before m.
    let all : c.args.made ≡ c.args.made - 0 = omega arith in
    m.are ∙ ap (λ k. with_adds before (take k c.args.adds.now)) all

pub loop-add-preserved : goal.loop-add-preserved
loop-add-preserved c = λ before m.
    let adds = c.args.adds.now in
    let made = c.args.made in
    let n = length c.loop-add.yielded in
    let turn = YieldsList-turn (YieldsList-from_rev_slice (take made adds) (cc)) c.loop-add.yielded _ c.loop-add.yielded_by _ c.next.new.self c.in-Some.add c.in-Some.is c.next.ensures.steps in
    let more : length (c.loop-add.yielded ++ c.in-Some.add ∷ []) ≡ n + 1 = length_push c.loop-add.yielded c.in-Some.add in
    let left : made - 1 - n ≡ made - length (c.loop-add.yielded ++ c.in-Some.add ∷ []) = omega (arith, more) in
    (undone_next c.loop-add.rows before adds made n c.in-Some.add.now c.requires.made turn m.fit (c.loop-add.invariant before m)).back c.undo.new.self c.undo.ensures
    ∙ ap (λ k. with_adds before (take k adds)) left

pub returns : goal.returns
returns c = λ before m.
    let adds = c.args.adds.now in
    let made = c.args.made in
    let all = YieldsList-end (YieldsList-from_rev_slice (take made adds) (cc)) c.loop-add.yielded _ c.loop-add.yielded_by _ c.next.new.self c.in-None.is c.next.ensures.steps in
    let many : length (take made adds) ≡ made = length-take-le made adds c.requires.made in
    let none : made - length c.loop-add.yielded ≡ 0 = omega (arith, all.1, length-reverse (take made adds), many) in
    c.loop-add.invariant before m ∙ ap (λ k. with_adds before (take k adds)) none
