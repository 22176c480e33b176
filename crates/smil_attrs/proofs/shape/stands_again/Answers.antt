use Rattle.std.proofs.Common.{◌≡◌, ℕ, false, ◌||◌, List, [], ◌∷◌, ◌++◌, sym, ap, ◌∙◌}
use Rattle.std.specs.Prelude.{bytes_eq}
use Rattle.std.specs.List.{list_any}
use Rattle.smil_attrs.specs.Remainder.{written_in}
use Rattle.smil_attrs.specs.Repeats.{twice_from}
use Rattle.smil_attrs.proofs.RepeatedNames.{noted}
use Rattle.smil_attrs.proofs.shape.stands_again.Goals as goal

pub returns-then-put : goal.returns-then-put
returns-then-put c some before written same =
    let names = c.args.seen.now in
    let new : c.put.new.self ≡ names ++ written.name ∷ [] = c.if-put.ensures ∙ ap (λ (name : List ℕ). names ++ name ∷ []) (sym same) in
    let none : list_any (bytes_eq written.name) names ≡ false = ap (λ (name : List ℕ). list_any (bytes_eq name) names) same ∙ sym c.has.ensures ∙ c.if-has.false in
    ap (λ (seen : List (List ℕ)). twice_from (before || false) seen (written_in c.args.left.now)) new
    ∙ noted before names written (written_in c.args.left.now) none
