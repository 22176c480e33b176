use Rattle.std.proofs.Common.{◌≡◌, rules, ◌∙◌, sym, ap, length}
use Rattle.smil_flat_lists.proofs.CutLists.{length_cut}
use Rattle.smil_flat_lists.proofs.flat_lists.FlatLists.len.Goals as goal

pub returns : goal.returns
returns g c =
    let count : c.len.result ≡ length c.self.inside.ends.items = search rules in
    count ∙ (sym (length_cut 0 c.self.inside.ends.items c.self.inside.values.items) ∙ ap length c.self.view_is)
