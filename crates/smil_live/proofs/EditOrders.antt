-- What an order that edits comes to is what its edit comes to, resolved.
use Rattle.std.proofs.Common.{◌≡◌, List, ◌++◌, true, Some, Result, Ok, Err, inl, inr, refl, sym, ap, ◌∙◌}
use Rattle.std.specs.Prelude.{flat_map}
use Rattle.smil_model.specs.declared.document.Node.{Node}
use Rattle.smil_model.specs.declared.order.Order.{Order}
use Rattle.smil_model.specs.declared.order.Order.TheVariants as order
use Rattle.smil_model.specs.declared.order.Refusal.{Refusal}
use Rattle.smil_model.specs.declared.order.Who.{Who}
use Rattle.smil_model.specs.document.Document.{Document}
use Rattle.smil_model.specs.document.Limits.{limits}
use Rattle.smil_model.specs.shown.Answers.{IsRefusedBy, Refuses}
use Rattle.smil_model.specs.shown.Orders.{Presentation, and_then, changes_between, found, node_of, on_node, outcome, resolved_with}
use Rattle.smil_report.specs.Tellings.{Telling, Tells, change_told, gone_told, order_told}
use Rattle.smil_grammar.specs.Formats.{formats}
use Rattle.smil_live.specs.Editing.{edit_of}
use Rattle.smil_live.specs.Telling.{is_edit}

-- ---- the order's outcome is that of its edit, resolved

then_then : (r : Result Node Refusal) (f : Node → Result Document Refusal) (g : Document → Result Presentation Refusal) → and_then r (λ n. and_then (f n) g) ≡ and_then (and_then r f) g
then_then (Ok n) f g = refl
then_then (Err e) f g = refl

outcome_is : (p : Presentation) (o : Order) → is_edit o ≡ true → outcome formats p o ≡ and_then (edit_of p o) (resolved_with limits p)
outcome_is p (order.Set who name value name_column column) edits = then_then (found (node_of p.document.nodes who)) _ (resolved_with limits p)
outcome_is p (order.Unset who name column) edits = then_then (found (node_of p.document.nodes who)) _ (resolved_with limits p)
outcome_is p (order.Insert who place line column) edits = then_then (found (node_of p.document.nodes who)) _ (resolved_with limits p)
outcome_is p (order.Remove who) edits = then_then (found (node_of p.document.nodes who)) _ (resolved_with limits p)
outcome_is p _ edits = absurd cc

module _ {I : Type 0} (tell : Telling I) where
  answer_is : (p q : Presentation) (o : Order) → is_edit o ≡ true → order_told tell p q o ≡ gone_told tell p q ++ flat_map (change_told tell q.document.nodes) (changes_between p q)
  answer_is p q (order.Set who name value name_column column) edits = refl
  answer_is p q (order.Unset who name column) edits = refl
  answer_is p q (order.Insert who place line column) edits = refl
  answer_is p q (order.Remove who) edits = refl
  answer_is p q _ edits = absurd cc

  pub edit_accepted : (p q : Presentation) (o : Order) (d : Document) (text : List I) → is_edit o ≡ true → edit_of p o ≡ Ok d → resolved_with limits p d ≡ Ok q → text ≡ gone_told tell p q ++ flat_map (change_told tell q.document.nodes) (changes_between p q) → Tells tell formats p q o text
  edit_accepted p q o d text edits edited state told = record {
    state = outcome_is p o edits ∙ ap (λ r. and_then r (resolved_with limits p)) edited ∙ state;
    answer = told ∙ sym (answer_is p q o edits);
  }

pub edit_refused : (p : Presentation) (o : Order) (e : Refusal) → is_edit o ≡ true → IsRefusedBy (edit_of p o) e → Refuses formats p o e
edit_refused p o e edits (inl memory) = inl memory
edit_refused p o e edits (inr given) = inr (outcome_is p o edits ∙ ap (λ r. and_then r (resolved_with limits p)) given)

pub state_refused : (p : Presentation) (o : Order) (d : Document) (e : Refusal) → is_edit o ≡ true → edit_of p o ≡ Ok d → IsRefusedBy (resolved_with limits p d) e → Refuses formats p o e
state_refused p o d e edits edited (inl memory) = inl memory
state_refused p o d e edits edited (inr given) = inr (outcome_is p o edits ∙ ap (λ r. and_then r (resolved_with limits p)) edited ∙ given)

-- ---- the node that an order names

pub not_found : {A : Type 0} (p : Presentation) (named : Who) (next : Node → Result A Refusal) (e : Refusal) → found (node_of p.document.nodes named) ≡ Err e → on_node p named next ≡ Err e
not_found p named next e none = ap (λ r. and_then r next) none

pub is_found : {A : Type 0} (p : Presentation) (named : Who) (next : Node → Result A Refusal) (n : Node) → node_of p.document.nodes named ≡ Some n → on_node p named next ≡ next n
is_found p named next n some = ap (λ o. and_then (found o) next) some
