use Rattle.std.proofs.Common.{◌≡◌, ◌∙◌, ap, ℤ, List, ◌++◌, w64, to_z, of_z}
use Rattle.std.proofs.lemmas.Int.{to_z-of_z}
use Rattle.std.proofs.lemmas.Result.{on_ok_weaker}
use Rattle.smil_model.specs.declared.diary.Entry.{Entry as AnyEntry}
use Rattle.smil_model.specs.happening.Groups.{group, steps_of}
use Rattle.smil_past.specs.Past.{history_of}
use Rattle.smil_element.specs.Parts.{AppendsBy, meant}
use Rattle.smil_rounds.proofs.GroupMayFollow.{known_in, parts}
use Rattle.smil_rounds.proofs.groups.fill_group.Goals as goal

pub group_of-requires-clause-known : goal.group_of-requires-clause-known
group_of-requires-clause-known c = known_in c.args.past.now c.tree.result.now c.args.coming.key.serial c.tree.ensures c.requires.element

pub group_of-requires-clause-parts : goal.group_of-requires-clause-parts
group_of-requires-clause-parts c =
    let whole = to_z-of_z w64 c.args.moment c.ranges.moment in
    let z = to_z w64 (of_z w64 c.args.moment) in
    (history_of c.args.past.now, parts c.args.past.now c.args.moment (record { tree = c.tree.result; book = c.book.result; clocks = c.clocks.result; queues = c.queues.result; moment = z }) whole c.requires.moment c.tree.ensures c.book.ensures c.clocks.ensures c.queues.ensures)

pub returns : goal.returns
returns c =
    let h = history_of c.args.past.now in
    let serial = c.args.coming.key.serial in
    let change = meant c.args.coming.change in
    let whole = to_z-of_z w64 c.args.moment c.ranges.moment in
    let z = to_z w64 (of_z w64 c.args.moment) in
    let told = parts c.args.past.now c.args.moment (record { tree = c.tree.result; book = c.book.result; clocks = c.clocks.result; queues = c.queues.result; moment = z }) whole c.requires.moment c.tree.ensures c.book.ensures c.clocks.ensures c.queues.ensures in
    on_ok_weaker {P = AppendsBy (record { tree = c.tree.result; book = c.book.result; clocks = c.clocks.result; queues = c.queues.result; moment = z }) c.clear.new.self c.group_of.new.entries (λ h m. steps_of h m serial change)}
    {Q = c.group_of.new.entries.items ≡ group h c.args.moment serial change}
    c.group_of.result
    (λ made. made h told ∙ ap (λ (l : List AnyEntry). l ++ group h z serial change) c.clear.ensures.items ∙ ap (λ (v : ℤ). group h v serial change) whole)
    c.group_of.ensures
