-- What is read of a list from left to right.
use Rattle.std.specs.Prelude.{◌≡◌, List, ◌++◌, Result, Ok, Err}
use Rattle.smil_model.specs.declared.document.Item.{Item}
use Rattle.smil_grammar.specs.declared.fault.ListFault.{ListFault}
use Rattle.smil_grammar.specs.declared.fault.ListFault.TheVariants.{Bad, Unsupported, TooManyItems, Memory}
use Rattle.smil_grammar.specs.Results.{◌>>=◌}

-- what was read before, and what is still read
abbrev pub with_front : List Item → Result (List Item) ListFault → Result (List Item) ListFault
with_front front reading = reading >>= λ items. Ok (front ++ items)

-- what a call put into a list is the reading, unless memory ran out
abbrev pub GivesMore :
    List Item → Result (Unit {0}) ListFault → Result (List Item) ListFault → Type 0
GivesMore items (Ok _) reading = reading ≡ Ok items
GivesMore items (Err Memory) reading = Unit {0}
GivesMore items (Err TooManyItems) reading = reading ≡ Err TooManyItems
GivesMore items (Err (Bad place)) reading = reading ≡ Err (Bad place)
GivesMore items (Err (Unsupported place)) reading = reading ≡ Err (Unsupported place)
