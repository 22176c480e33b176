-- Attributes that a node can have.
use Rattle.std.specs.Prelude.{◌≡◌, ℕ, Bool, IsTrue, List, IfSome, Ok}
use Rattle.smil_model.specs.declared.document.Kind.{Kind}
use Rattle.smil_model.specs.declared.document.Attr.{Attr}
use Rattle.smil_model.specs.declared.document.Attr.TheVariants as attr
use Rattle.smil_model.specs.declared.document.Attrs.{Attrs}
use Rattle.smil_model.specs.declared.document.AttrName.{AttrName}
use Rattle.smil_model.specs.declared.document.AttrName.TheVariants as name
use Rattle.smil_grammar.specs.Attributes.{has}
use Rattle.smil_grammar.specs.Values.{value_of}
use Rattle.smil_grammar.specs.Spellings.{attr_at}

-- the name of an attribute
abbrev pub name_of : Attr → AttrName
name_of (attr.Id _) = name.Id
name_of (attr.Begin _) = name.Begin
name_of (attr.Dur _) = name.Dur
name_of (attr.End _) = name.End
name_of (attr.Min _) = name.Min
name_of (attr.Max _) = name.Max
name_of (attr.RepeatCount _) = name.RepeatCount
name_of (attr.RepeatDur _) = name.RepeatDur
name_of (attr.Restart _) = name.Restart
name_of (attr.Fill _) = name.Fill
name_of (attr.RestartDefault _) = name.RestartDefault
name_of (attr.FillDefault _) = name.FillDefault
name_of (attr.Endsync _) = name.Endsync
name_of (attr.Peers _) = name.Peers
name_of (attr.Higher _) = name.Higher
name_of (attr.Lower _) = name.Lower
name_of (attr.Text n _) = name.Text n

-- an attribute that some text is read as; in_seq says that it is of a child of a seq
abbrev pub IsAttr : Bool → Attr → Type 0
IsAttr in_seq given = (text : List ℕ) × (value_of in_seq (name_of given) text ≡ Ok given)

-- each attribute that is there is one of the kind's, and some text is read as it
abbrev pub IsAttrs : Bool → Kind → Attrs → Type 0
IsAttrs in_seq kind attrs =
    (n : AttrName) → IfSome (attr_at attrs n) (λ given. IsTrue (has kind n) × IsAttr in_seq given)
