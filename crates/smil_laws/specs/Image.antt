-- A par with one image that begins b milliseconds after it and lasts d milliseconds.
use Rattle.std.specs.Prelude.{◌≡◌, ℕ, ◌+◌, ◌<◌, ◌≤ℤ◌, pos, List, [], ◌∷◌, nat_lt, if◌then◌else◌, Some}
use Rattle.smil_model.specs.declared.times.TheConstants.{HORIZON}
use Rattle.smil_model.specs.declared.diary.Entry.{Entry}
use Rattle.smil_model.specs.declared.diary.Step.TheVariants.{Began, Ended}
use Rattle.smil_model.specs.declared.document.Node.{Node}
use Rattle.smil_model.specs.declared.document.Attrs.{Attrs}
use Rattle.smil_model.specs.declared.document.Kind.{Kind}
use Rattle.smil_model.specs.declared.document.Kind.TheVariants.{Par, Img}
use Rattle.smil_model.specs.declared.document.Item.TheVariants.{Offset}
use Rattle.smil_model.specs.declared.document.Dur.TheVariants as dur
use Rattle.smil_model.specs.document.Edits.{no_attrs}
use Rattle.smil_model.specs.happening.Resolution.{resolved}

abbrev pub node : ℕ → Kind → ℕ → Attrs → Node
node serial kind parent attrs =
    record { serial = serial; kind = kind; parent = parent; attrs = attrs }

-- the document
abbrev pub image : ℕ → ℕ → List ℕ → List Node
image b d id =
    node 1 Par 0 no_attrs
    ∷ node 2 Img 1 (record no_attrs {
      id = Some id;
      begin = Some (Offset (pos b) ∷ []);
      dur = Some (dur.Clock (pos d));
    })
    ∷ []

abbrev pub begin_at : ℕ → ℕ → Entry
begin_at serial m = record { moment = pos m; step = Began serial (pos m) }

abbrev pub end_at : ℕ → ℕ → Entry
end_at serial m = record { moment = pos m; step = Ended serial (pos m) }

-- its diary at a moment: before the image begins, while it plays, and after both have ended
abbrev pub image_diary : ℕ → ℕ → ℕ → List Entry
image_diary b d now =
    if nat_lt now b
    then begin_at 1 0 ∷ []
    else (if nat_lt now (b + d)
    then begin_at 1 0 ∷ begin_at 2 b ∷ []
    else begin_at 1 0 ∷ begin_at 2 b ∷ end_at 2 (b + d) ∷ end_at 1 (b + d) ∷ [])

-- the diary of the document without a log is this one
abbrev pub ImageHasDiary : Type 0
ImageHasDiary =
    (b d now : ℕ) (id : List ℕ) → 0 < d → pos (b + d) ≤ℤ HORIZON
    → (resolved (record { nodes = image b d id; log = []; last = now })).diary ≡ image_diary b d now
