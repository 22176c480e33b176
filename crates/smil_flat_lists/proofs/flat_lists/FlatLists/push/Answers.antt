use Rattle.std.proofs.Common.{◌≡◌, ◌+◌, length, rules}
use Rattle.std.proofs.lemmas.List.{length-append}
use Rattle.smil_flat_lists.proofs.CutLists.{cut_push, rise_push}
use Rattle.smil_flat_lists.proofs.flat_lists.FlatLists.push.Goals as goal

pub invariant_of-self-in-Ok : goal.invariant_of-self-in-Ok
invariant_of-self-in-Ok g c =
    let end : c.in_ok-end.end ≡ length c.self.inside.values.items + length c.args.list.now = search rules in
    rw (c.in-Ok.ensures.items, c.in_ok-extend_from_slice.ensures.items, length-append, end)
    (rise_push 0 c.self.inside.ends.items (length c.self.inside.values.items) (length c.args.list.now) c.self.invariant)

pub returns-in-Ok-clause-ok : goal.returns-in-Ok-clause-ok
returns-in-Ok-clause-ok g c =
    let end : c.in_ok-end.end ≡ length c.self.inside.values.items + length c.args.list.now = search rules in
    rw (← c.self.view_is, c.in-Ok.ensures.items, c.in_ok-extend_from_slice.ensures.items, end)
    (cut_push 0 c.self.inside.ends.items c.self.inside.values.items c.args.list.now c.self.invariant)
