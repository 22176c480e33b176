use Rattle.std.proofs.Common.{ap, ◌∙◌, cond, Some}
use Rattle.std.specs.Str.{bytes_eq}
use Rattle.std.specs.Map.{lookup}
use Rattle.smil_tree.proofs.TextTables.{updated, pairs}
use Rattle.smil_tree.proofs.ids.Ids.note.Goals as goal

pub returns-clause-ok : goal.returns-clause-ok
returns-clause-ok c =
    λ q. updated (λ k. k.items) c.in_ok-key.key.items (Some c.args.serial) c.self.inside.serials.entries c.insert.new.self.entries c.in_ok-insert.ensures.updates.1 c.in_ok-insert.ensures.updates.3 q
    ∙ ap (λ id. cond (bytes_eq id q) (Some c.args.serial) (lookup (bytes_eq q) (pairs (λ k. k.items) c.self.inside.serials.entries))) c.in_ok-key.ensures.items
    ∙ ap (λ table. cond (bytes_eq c.args.id.now q) (Some c.args.serial) (lookup (bytes_eq q) table)) c.self.view_is
