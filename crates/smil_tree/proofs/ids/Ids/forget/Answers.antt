use Rattle.std.proofs.Common.{ap, ◌∙◌, cond, None}
use Rattle.std.specs.Str.{bytes_eq}
use Rattle.std.specs.Map.{lookup}
use Rattle.smil_tree.proofs.TextTables.{updated}
use Rattle.smil_tree.proofs.ids.Ids.forget.Goals as goal

pub returns : goal.returns
returns c =
    λ q. updated (λ k. k.items) c.args.id.now None c.self.inside.serials.entries c.swap_remove.new.self.entries c.swap_remove.ensures.updates.1 c.swap_remove.ensures.updates.3 q
    ∙ ap (λ table. cond (bytes_eq c.args.id.now q) None (lookup (bytes_eq q) table)) c.self.view_is
