-- The plain texts of a node: which kinds have which, and what each may be.
use Rattle.std.specs.Prelude.{ℕ, List, [], ◌∷◌, Bool, not, ◌&&◌, Option, None}
use Rattle.smil_model.specs.declared.document.Kind.{Kind}
use Rattle.smil_model.specs.declared.texts.Texts.{Texts}
use Rattle.smil_model.specs.declared.texts.TextName.{TextName}
use Rattle.smil_model.specs.declared.texts.TextName.TheVariants.{Src, Region, Alt, Title, TargetElement, AttributeName, To}
use Rattle.smil_model.specs.document.Document.{is_class_kind, is_set_kind}
use Rattle.smil_model.specs.document.Words.{is_id, is_attribute_name, is_kept_text}

-- every text is absent
abbrev pub no_texts : Texts
no_texts = record {
  src = None;
  region = None;
  alt = None;
  title = None;
  target_element = None;
  attribute_name = None;
  to = None;
}

-- all names, in the order in which they are printed
abbrev pub text_names : List TextName
text_names = Src ∷ Region ∷ Alt ∷ Title ∷ TargetElement ∷ AttributeName ∷ To ∷ []

-- the text of this name, where it is there
abbrev pub text_at : Texts → TextName → Option (List ℕ)
text_at texts Src = texts.src
text_at texts Region = texts.region
text_at texts Alt = texts.alt
text_at texts Title = texts.title
text_at texts TargetElement = texts.target_element
text_at texts AttributeName = texts.attribute_name
text_at texts To = texts.to

-- the texts with this one, or none, in place of the one of its name
abbrev pub with_text : Texts → TextName → Option (List ℕ) → Texts
with_text texts Src text = record texts { src = text }
with_text texts Region text = record texts { region = text }
with_text texts Alt text = record texts { alt = text }
with_text texts Title text = record texts { title = text }
with_text texts TargetElement text = record texts { target_element = text }
with_text texts AttributeName text = record texts { attribute_name = text }
with_text texts To text = record texts { to = text }

-- a priorityClass has none; a set has a title and the three that say what it sets,
-- and the other kinds have the rest
abbrev pub has_text : Kind → TextName → Bool
has_text kind TargetElement = is_set_kind kind
has_text kind AttributeName = is_set_kind kind
has_text kind To = is_set_kind kind
has_text kind Title = not (is_class_kind kind)
has_text kind _ = not (is_class_kind kind) && not (is_set_kind kind)

-- what the text of a name may be
abbrev pub is_text : TextName → List ℕ → Bool
is_text TargetElement text = is_id text
is_text AttributeName text = is_attribute_name text
is_text _ text = is_kept_text text
