use Rattle.std.proofs.Common.{◌≡◌, ◌∙◌, ◌++◌, sym, ap, subst, [], ◌∷◌, ℕ, List, Option, true, false, append-nil}
use Rattle.std.specs.Prelude.{OnOk, Bool, cond}
use Rattle.smil_model.specs.declared.document.Node.{Node}
use Rattle.smil_model.specs.document.Document.{elements, is_element, serials}
use Rattle.smil_cells.specs.Shown.{nodes_of}
use Rattle.smil_cells.proofs.order.push_element.Goals as goal

-- a lone node is an element or none is
lone : (n : Node) (b : Bool) → is_element n ≡ b → serials (elements (n ∷ [])) ≡ serials (cond b (n ∷ []) [])
lone n b is = ap (λ (t : Bool). serials (cond t (n ∷ []) [])) is

pub returns-in-Some : goal.returns-in-Some
returns-in-Some c =
    subst (λ (o : Option Node). OnOk c.push.result (c.push.new.self ≡ c.args.list.now ++ serials (elements (nodes_of o)))) c.in-Some.ensures
    (subst (λ (l : List ℕ). OnOk c.push.result (c.push.new.self ≡ c.args.list.now ++ l)) (sym (lone c.in-Some.node.now true (sym c.is_element.ensures ∙ c.if-is_element.true))) c.push.ensures.ok)

pub returns-in_default : goal.returns-in_default
returns-in_default c =
    sym (append-nil c.args.list.now)
    ∙ ap (λ (l : List ℕ). c.args.list.now ++ l)
    (sym (lone c.in-Some.node.now false (sym c.is_element.ensures ∙ c.if-is_element.false)) ∙ ap (λ (o : Option Node). serials (elements (nodes_of o))) c.in-Some.ensures)
