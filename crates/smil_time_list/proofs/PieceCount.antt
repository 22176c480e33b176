-- How many pieces a list has.
use Rattle.std.proofs.Common.{◌≡◌, ℕ, ◌+◌, eqb, List, length}
use Rattle.std.specs.List.{count_by}
use Rattle.std.proofs.lemmas.List.Splits.{length-slice_split}
use Rattle.smil_grammar.specs.Texts.{semicolon}
use Rattle.smil_grammar.specs.Lists.{item_pieces}

pub pieces_count : (text : List ℕ) → length (item_pieces text) ≡ count_by (λ b. eqb b semicolon) text + 1
pieces_count text = length-slice_split (λ b. eqb b semicolon) text
