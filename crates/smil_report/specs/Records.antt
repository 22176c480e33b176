-- Records of changes.
use Rattle.std.specs.Prelude.{ℕ, List, [], ◌∷◌}
use Rattle.smil_model.specs.declared.document.Node.{Node}
use Rattle.smil_model.specs.shown.Answers.{name_in}
use Rattle.smil_model.specs.shown.Lines.{change_line, gone_line}
use Rattle.smil_report.specs.declared.records.Change.{Change}
use Rattle.smil_report.specs.declared.records.Change.TheVariants as change
use Rattle.smil_report.specs.Tellings.{Telling}

-- the records of changes
abbrev pub as_records : Telling Change
as_records = record {
  change = λ moment name view. change.Shown moment view ∷ [];
  gone = λ moment name serial. change.Gone moment serial ∷ [];
}

-- the line of a record of an answer, by the nodes before it and those after it
abbrev pub record_line : List Node → List Node → Change → List ℕ
record_line before after (change.Shown moment view) =
    change_line moment (name_in after view.serial) view
record_line before after (change.Gone moment serial) = gone_line moment (name_in before serial)
