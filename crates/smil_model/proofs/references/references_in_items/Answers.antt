use Rattle.std.proofs.Common.{◌≡◌, ◌∙◌, sym, rules}
use Rattle.std.specs.List.{count_by}
use Rattle.std.proofs.lemmas.List.Sums.{length-filter}
use Rattle.smil_model.specs.document.Valid.{is_reference}
use Rattle.smil_model.proofs.references.references_in_items.Goals as goal

pub returns : goal.returns
returns c =
    let counted : c.count.result ≡ count_by is_reference c.args.items.now = search rules in
    counted ∙ sym (length-filter is_reference c.args.items.now)
