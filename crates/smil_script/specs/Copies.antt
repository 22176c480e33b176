-- Which lines have something copied where they are read, for which memory is taken.
use Rattle.std.specs.Prelude.{◌≡◌, ℕ, Bool, true, ◌&&◌, ◌||◌, List, [], ◌∷◌, is_ok, is_some, Result, IfErr, codes, bytes_eq}
use Rattle.std.specs.List.{list_any}
use Rattle.smil_model.specs.declared.order.Refusal.{Refusal}
use Rattle.smil_model.specs.declared.order.Refusal.TheVariants.{Memory}
use Rattle.smil_grammar.specs.Positions.{Piece}
use Rattle.smil_grammar.specs.Scripts.{finish, first_of, is_presentation_name, line_of, order_line, who_of}

-- the verbs behind which an element is named
abbrev pub element_verbs : List (List ℕ)
element_verbs =
    codes "event" ∷ codes "media" ∷ codes "set" ∷ codes "unset" ∷ codes "insert" ∷ codes "remove"
    ∷ codes "history" ∷ codes "stack" ∷ []

-- whether a verb's line names an element, which is copied before what stands behind it is read
abbrev pub names_element : List ℕ → Piece → Bool
names_element verb line =
    list_any (bytes_eq verb) element_verbs && is_some (who_of (first_of line).0.text)

-- whether an order is copied, or the element that it names
abbrev pub order_copies : List ℕ → Piece → Bool
order_copies verb line = is_ok (finish (order_line verb line)) || names_element verb line

-- the same of a line behind its first word, where that is a presentation's name
abbrev pub behind_name_copies : List ℕ → Piece × Piece → Bool
behind_name_copies name verb =
    is_presentation_name name && names_element verb.0.text verb.1

-- whether a line has something copied: it has a reading, or names an element in an order
abbrev pub line_copies : List ℕ → Bool
line_copies line =
    let cut : Piece × Piece = first_of (record { text = line; place = 0 }) in
    is_ok (line_of line) || behind_name_copies cut.0.text (first_of cut.1)

-- memory ran out only where something is copied
abbrev pub IsForCopy : {A : Type 0} → Bool → Result A Refusal → Type 0
IsForCopy copies result = IfErr result (λ refusal. refusal ≡ Memory → copies ≡ true)
