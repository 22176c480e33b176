-- Which attributes a kind has, and how they are spelled.
use Rattle.std.specs.Prelude.{ℕ, Bool, true, not, List, [], ◌∷◌, map, Option, Some, None, Result, Ok, Err, find, if◌then◌else◌, codes, bytes_eq}
use Rattle.std.specs.List.{list_any}
use Rattle.smil_model.specs.declared.document.Kind.{Kind}
use Rattle.smil_model.specs.declared.document.Kind.TheVariants as kind
use Rattle.smil_model.specs.declared.document.AttrName.{AttrName}
use Rattle.smil_model.specs.declared.document.AttrName.TheVariants as name
use Rattle.smil_model.specs.declared.texts.TextName.TheVariants as text
use Rattle.smil_grammar.specs.declared.fault.AttrFault.{AttrFault}
use Rattle.smil_grammar.specs.declared.fault.AttrFault.TheVariants.{UnknownAttribute, UnsupportedName}
use Rattle.smil_model.specs.document.Document.{is_class_kind}
use Rattle.smil_model.specs.document.Texts.{has_text, text_names}
pub use Rattle.smil_model.specs.document.Values.{has_endsync}

-- the word of a kind
abbrev pub kind_text : Kind → List ℕ
kind_text kind.Par = codes "par"
kind_text kind.Seq = codes "seq"
kind_text kind.Excl = codes "excl"
kind_text kind.PriorityClass = codes "priorityClass"
kind_text kind.Img = codes "img"
kind_text kind.Text = codes "text"
kind_text kind.Brush = codes "brush"
kind_text kind.Audio = codes "audio"
kind_text kind.Video = codes "video"
kind_text kind.Animation = codes "animation"
kind_text kind.TextStream = codes "textstream"
kind_text kind.Ref = codes "ref"
kind_text kind.Set = codes "set"

-- all kinds
abbrev pub kinds : List Kind
kinds =
    kind.Par ∷ kind.Seq ∷ kind.Excl ∷ kind.PriorityClass ∷ kind.Img ∷ kind.Text ∷ kind.Brush
    ∷ kind.Audio ∷ kind.Video ∷ kind.Animation ∷ kind.TextStream ∷ kind.Ref ∷ kind.Set ∷ []

-- the kind of a word
abbrev pub kind_called : List ℕ → Option Kind
kind_called text = find (λ k. bytes_eq text (kind_text k)) kinds

-- elements of SMIL that are left out
abbrev pub is_other_kind : List ℕ → Bool
is_other_kind text =
    list_any (bytes_eq text) (codes "switch" ∷ codes "prefetch" ∷ codes "smilText" ∷ codes "body"
    ∷ [])

-- the word of an attribute
abbrev pub name_text : AttrName → List ℕ
name_text name.Id = codes "id"
name_text name.Begin = codes "begin"
name_text name.Dur = codes "dur"
name_text name.End = codes "end"
name_text name.Min = codes "min"
name_text name.Max = codes "max"
name_text name.RepeatCount = codes "repeatCount"
name_text name.RepeatDur = codes "repeatDur"
name_text name.Restart = codes "restart"
name_text name.Fill = codes "fill"
name_text name.RestartDefault = codes "restartDefault"
name_text name.FillDefault = codes "fillDefault"
name_text name.Endsync = codes "endsync"
name_text name.Peers = codes "peers"
name_text name.Higher = codes "higher"
name_text name.Lower = codes "lower"
name_text (name.Text text.Src) = codes "src"
name_text (name.Text text.Region) = codes "region"
name_text (name.Text text.Alt) = codes "alt"
name_text (name.Text text.Title) = codes "title"
name_text (name.Text text.TargetElement) = codes "targetElement"
name_text (name.Text text.AttributeName) = codes "attributeName"
name_text (name.Text text.To) = codes "to"

-- all attributes, in the order in which they are printed
abbrev pub names : List AttrName
names =
    name.Id ∷ name.Begin ∷ name.Dur ∷ name.End ∷ name.Min ∷ name.Max ∷ name.RepeatCount
    ∷ name.RepeatDur ∷ name.Restart ∷ name.Fill ∷ name.RestartDefault ∷ name.FillDefault
    ∷ name.Endsync ∷ name.Peers ∷ name.Higher ∷ name.Lower ∷ map name.Text text_names

-- the attribute of a word
abbrev pub name_called : List ℕ → Option AttrName
name_called text = find (λ n. bytes_eq text (name_text n)) names

-- each kind has an id; a priorityClass has its three besides and no others;
-- of the other kinds only a par or an excl has endsync, each has its texts,
-- and all have the rest
abbrev pub has : Kind → AttrName → Bool
has k name.Id = true
has k name.Endsync = has_endsync k
has k name.Peers = is_class_kind k
has k name.Higher = is_class_kind k
has k name.Lower = is_class_kind k
has k (name.Text n) = has_text k n
has k _ = not (is_class_kind k)

-- attributes of SMIL that are left out
abbrev pub is_other_name : List ℕ → Bool
is_other_name text =
    list_any (bytes_eq text)
    (codes "speed" ∷ codes "accelerate" ∷ codes "decelerate" ∷ codes "autoReverse"
    ∷ codes "syncBehavior" ∷ codes "syncTolerance" ∷ codes "syncMaster"
    ∷ codes "syncBehaviorDefault"
    ∷ codes "syncToleranceDefault" ∷ codes "pauseDisplay" ∷ [])

-- the fault of a word that no attribute of the profile has
abbrev pub unnamed : List ℕ → AttrFault
unnamed text = if is_other_name text then UnsupportedName else UnknownAttribute

-- an attribute that the kind has
abbrev pub name_or : Kind → List ℕ → Option AttrName → Result AttrName AttrFault
name_or k text None = Err (unnamed text)
name_or k text (Some n) = if has k n then Ok n else Err UnknownAttribute

-- the attribute of a word at this kind
abbrev pub attr_name_of : Kind → List ℕ → Result AttrName AttrFault
attr_name_of k text = name_or k text (name_called text)
