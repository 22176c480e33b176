-- The edit of the document that an order makes, apart from the resolution of what comes of it.
use Rattle.std.specs.Prelude.{◌≡◌, List, ◌++◌, Some, Result, Ok}
use Rattle.smil_model.specs.declared.diary.Entry.{Entry}
use Rattle.smil_model.specs.declared.order.Order.{Order}
use Rattle.smil_model.specs.declared.order.Order.TheVariants as order
use Rattle.smil_model.specs.declared.order.Refusal.{Refusal}
use Rattle.smil_model.specs.document.Document.{Document}
use Rattle.smil_model.specs.document.Limits.{limits}
use Rattle.smil_model.specs.happening.Resolution.{diary_of}
use Rattle.smil_model.specs.shown.Orders.{Presentation, attr_set_by, attr_unset_by, changes_between, course_of, node_inserted_by, node_removed_from, on_node}
use Rattle.smil_report.specs.Tellings.{Telling, gone_told}
use Rattle.smil_grammar.specs.Formats.{formats}
use Rattle.smil_live.specs.Moves.{edited_to, told_of}

-- the edited document, or the first refusal of the edit; other orders leave the document
abbrev pub edit_of : Presentation → Order → Result Document Refusal
edit_of p (order.Set who name value name_column column) =
    on_node p who (λ n. attr_set_by limits formats p.document n name value name_column column)
edit_of p (order.Unset who name column) =
    on_node p who (λ n. attr_unset_by formats p.document n name column)
edit_of p (order.Insert who place line column) =
    on_node p who (λ n. node_inserted_by limits formats p.document n place line column)
edit_of p (order.Remove who) = on_node p who (λ n. node_removed_from p.document n)
edit_of p _ = Ok p.document

-- the edited document has a diary, and this was told
pub record IsEdited {Item : Type 0} (telling : Telling Item) (before : Presentation)
    (document : Document) (after : Presentation) (old new : List Item) : Type 0 where
  pub state : after ≡ edited_to before document
  pub diary : List Entry
  pub settled : diary_of (course_of after) ≡ Some diary
  pub told : new ≡ old ++ gone_told telling before after
      ++ told_of telling after (changes_between before after)
