use Rattle.std.proofs.Common.{sym, ap, ◌∙◌}
use Rattle.std.specs.Str.{bytes_eq}
use Rattle.std.specs.Map.{lookup}
use Rattle.smil_tree.proofs.TextTables.{lookup-pairs}
use Rattle.smil_tree.proofs.ids.Ids.get.Goals as goal

pub returns : goal.returns
returns c =
    c.copied.ensures ∙ c.get.ensures.value
    ∙ sym (lookup-pairs (λ k. k.items) c.args.id.now c.self.inside.serials.entries)
    ∙ ap (lookup (bytes_eq c.args.id.now)) c.self.view_is
