-- Edits that are given by calls: which order the arguments make.
use Rattle.std.specs.Prelude.{ℕ, ◌+◌, nat_le, ◌==◌, ◌&&◌, not, List, [], ◌∷◌, length, Bool, false, Option, None, Some, is_some, if◌then◌else◌}
use Rattle.std.specs.List.{list_all, list_any}
use Rattle.smil_model.specs.declared.limits.TheConstants.{LINE_BYTES}
use Rattle.smil_model.specs.declared.order.Order.{Order}
use Rattle.smil_model.specs.declared.order.Order.TheVariants as order
use Rattle.smil_model.specs.declared.order.Who.TheVariants.{Serial}
use Rattle.smil_grammar.specs.Nodes.{is_no_space}
use Rattle.smil_grammar.specs.Scripts.{attribute_word_of}
use Rattle.smil_grammar.specs.Texts.{quote}

-- where the texts of an edit stand in the line that says it: the first one in this column,
-- and the value of an attribute three bytes behind the end of its name
abbrev pub text_column : ℕ
text_column = 64

-- texts of so many bytes together, with what stands around them, fit a line
abbrev pub fit : ℕ → Bool
fit len = nat_le (len + 66) LINE_BYTES

-- the name of an attribute, as a word of a line
abbrev pub is_attribute_word : List ℕ → Bool
is_attribute_word text = is_some (attribute_word_of text) && list_all is_no_space text

abbrev pub has_quote : List ℕ → Bool
has_quote text = list_any (λ b. b == quote) text

-- a node line without depth
abbrev pub is_node_text : List ℕ → Bool
is_node_text [] = false
is_node_text (b ∷ bytes) = is_no_space b

-- the greatest number of nine digits
abbrev pub last_place : ℕ
last_place = 999999999

abbrev pub where_true : {A : Type 0} → Bool → A → Option A
where_true b x = if b then Some x else None

abbrev pub set_of : ℕ → List ℕ → List ℕ → Option Order
set_of element attr value =
    where_true
    (is_attribute_word attr && not (has_quote value) && fit (length attr + length value))
    (order.Set (Serial element) attr value text_column (text_column + (length attr + 2)))

abbrev pub unset_of : ℕ → List ℕ → Option Order
unset_of element attr =
    where_true (is_attribute_word attr && fit (length attr))
    (order.Unset (Serial element) attr text_column)

abbrev pub insert_of : ℕ → ℕ → List ℕ → Option Order
insert_of parent place node =
    where_true (is_node_text node && fit (length node) && nat_le place last_place)
    (order.Insert (Serial parent) place node text_column)

abbrev pub remove_of : ℕ → Option Order
remove_of element = Some (order.Remove (Serial element))
