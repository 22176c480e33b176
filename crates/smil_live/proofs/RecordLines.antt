-- The lines of records are those of the changes that they record.
use Rattle.std.proofs.Common.{◌≡◌, refl, ◌∙◌, ap, ℕ, List, [], ◌∷◌, ◌++◌, Some, Option, false}
use Rattle.std.specs.Prelude.{ℤ, pos, flat_map}
use Rattle.std.specs.List.{AllByRecursion}
use Rattle.std.specs.Option.{option_map_or}
use Rattle.std.proofs.lemmas.Grind.{flat_map-append}
use Rattle.smil_model.specs.declared.document.Node.{Node}
use Rattle.smil_model.specs.declared.order.Order.{Order}
use Rattle.smil_model.specs.declared.order.Order.TheVariants as order
use Rattle.smil_model.specs.declared.order.Who.TheVariants.{Serial}
use Rattle.smil_model.specs.declared.view.View.{View}
use Rattle.smil_model.specs.document.Document.{elements, node_at}
use Rattle.smil_model.specs.shown.Answers.{Accepts, answer_text}
use Rattle.smil_model.specs.shown.Lines.{gone_line, name_of}
use Rattle.smil_model.specs.shown.Orders.{IsState, Presentation, changes_of, gone_elements}
use Rattle.smil_report.specs.Records.{as_records, record_line}
use Rattle.smil_report.specs.Tellings.{Tells, as_text, change_told, changes_told, gone_told, is_telling, nodes_gone, order_told}
use Rattle.smil_grammar.specs.Formats.{formats}
use Rattle.smil_laws.proofs.Lists.{each_kept}
use Rattle.smil_tree.proofs.NodeSpans.{all_known}

-- ---- what is told as text is the answer

pub text_told : (p q : Presentation) (o : Order) → is_telling o ≡ false → order_told as_text p q o ≡ answer_text formats p q o
text_told p q (order.Advance by) changes = refl
text_told p q (order.Seek to) changes = refl
text_told p q (order.Event who name) changes = refl
text_told p q (order.Media who length) changes = refl
text_told p q (order.Key key) changes = refl
text_told p q (order.Set who name value name_column column) changes = refl
text_told p q (order.Unset who name column) changes = refl
text_told p q (order.Insert who place line column) changes = refl
text_told p q (order.Remove who) changes = refl
text_told p q _ changes = absurd cc

pub accepted : (p q : Presentation) (o : Order) (text : List ℕ) → is_telling o ≡ false → Tells as_text formats p q o text → Accepts formats p q o text
accepted p q o text changes told = record { state = told.state; answer = told.answer ∙ text_told p q o changes }

-- ---- the lines of records

module _ (before after : List Node) where
  pub changes_lines : (changes : List (ℕ × View)) → flat_map (record_line before after) (changes_told as_records after changes) ≡ changes_told as_text after changes
  changes_lines [] = refl
  changes_lines (change ∷ changes) = ap (λ l. change_told as_text after change ++ l) (changes_lines changes)

  gone_lines : (moment : ℤ) (ns : List Node) → AllByRecursion (λ (n : Node). node_at before n.serial ≡ Some n) ns → flat_map (record_line before after) (nodes_gone as_records moment ns) ≡ nodes_gone as_text moment ns
  gone_lines moment [] known = refl
  gone_lines moment (n ∷ ns) known =
      ap (λ (o : Option Node). gone_line moment (option_map_or name_of o (Serial n.serial)) ++ flat_map (record_line before after) (nodes_gone as_records moment ns)) known.0
      ∙ ap (λ l. gone_line moment (name_of n) ++ l) (gone_lines moment ns known.1)

pub records_told : (p q : Presentation) (o : Order) → IsState p → flat_map (record_line p.document.nodes q.document.nodes) (order_told as_records p q o) ≡ order_told as_text p q o
records_told p q o state =
    flat_map-append (record_line b a) (gone_told as_records p q) (changes_told as_records a (changes_of p q o))
    ∙ ap (λ l. l ++ flat_map (record_line b a) (changes_told as_records a (changes_of p q o))) (gone_lines b a (pos q.now) (gone_elements p q) known)
    ∙ ap (λ l. gone_told as_text p q ++ l) (changes_lines b a (changes_of p q o))
  where
    b : List Node
    b = p.document.nodes

    a : List Node
    a = q.document.nodes

    known : AllByRecursion (λ (n : Node). node_at b n.serial ≡ Some n) (gone_elements p q)
    known = each_kept _ _ (elements b) (each_kept _ _ b (all_known b p.document.next state.document.numbered))
