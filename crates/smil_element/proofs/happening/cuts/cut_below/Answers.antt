use Rattle.std.proofs.Common.{◌≡◌, ◌++◌, sym, subst, List}
use Rattle.std.proofs.lemmas.List.{append-nil}
use Rattle.smil_model.specs.declared.document.Node.{Node}
use Rattle.smil_model.specs.happening.Groups.{at_moment, cut_steps}
use Rattle.smil_element.proofs.happening.cuts.cut_below.Goals as goal

pub returns-else-has_below : goal.returns-else-has_below
returns-else-has_below c =
    let old = c.args.entries.now.items in
    subst (λ (ns : List Node). old ≡ old ++ at_moment c.args.parts.now.moment (cut_steps c.args.parts.now.book.now ns))
    (sym (c.has_below.ensures c.if-has_below.false)) (sym (append-nil old))
