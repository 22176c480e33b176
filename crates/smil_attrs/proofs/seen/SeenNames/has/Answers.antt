use Rattle.std.proofs.Common.{rules, tests, ℕ, Bor, List, take, sym, ap, ◌∙◌}
use Rattle.std.specs.Prelude.{bytes_eq}
use Rattle.std.specs.List.{list_any}
use Rattle.std.proofs.lemmas.Iterator.{YieldsList-from_slice}
use Rattle.std.proofs.lemmas.Iterator.Search.{any_from_yields_List}
use Rattle.smil_attrs.proofs.RepeatedNames.{any_of}
use Rattle.smil_attrs.proofs.seen.SeenNames.has.Goals as goal

pub returns : goal.returns
returns c =
    let names : List (Bor (List ℕ)) = take c.self.inside.count c.self.inside.names in
    any_from_yields_List (λ (x : Bor (List ℕ)). bytes_eq c.args.name.now x.now) _ _ c.any.result c.any.ensures.ran (YieldsList-from_slice names cc) (λ x b q k. search (rules, tests))
    ∙ sym (any_of (bytes_eq c.args.name.now) names) ∙ ap (list_any (bytes_eq c.args.name.now)) c.self.view_is
