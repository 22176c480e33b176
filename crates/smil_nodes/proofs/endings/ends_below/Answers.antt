use Rattle.std.proofs.Common.{◌≡◌, ◌∙◌, ap, refl, subst, sym, ◌≤◌, ℕ, List, [], ◌∷◌, length, map, arith}
use Rattle.std.specs.Prelude.{IfOk}
use Rattle.std.proofs.lemmas.Bool.{eqb-true}
use Rattle.std.proofs.lemmas.List.{length-map}
use Rattle.smil_model.specs.declared.interval.ChildEnd.{ChildEnd}
use Rattle.smil_model.specs.declared.document.Node.{Node}
use Rattle.smil_model.specs.document.Document.{elements, time_children}
use Rattle.smil_laws.proofs.RoundsRest.{find-serial}
use Rattle.smil_instances.proofs.IdTargets.{element_of}
use Rattle.smil_nodes.specs.Endings.{named_end, named_ends}
use Rattle.smil_nodes.proofs.EndingPlaces.{few_children}
use Rattle.smil_nodes.proofs.endings.ends_below.Goals as goal

no_ends : (e : Node) (children : List Node) → length (map (λ (n : Node). n.serial) children) ≡ 0 → map (named_end e) children ≡ []
no_ends e [] none = refl
no_ends e (c ∷ children) none = absurd (omega (arith, none))

pub returns-then-is_empty : goal.returns-then-is_empty
returns-then-is_empty c = λ e here.
    let nodes = c.args.tree.now.nodes in
    let empty : length c.time_children.result.now ≡ 0 = eqb-true (length c.time_children.result.now) 0 (sym c.is_empty.ensures ∙ c.if-is_empty.true) in
    let own : named_ends nodes e ≡ [] =
    ap (λ (s : ℕ). map (named_end e) (time_children nodes s)) (find-serial c.args.who (elements nodes) e here)
    ∙ no_ends e (time_children nodes c.args.who) (ap (λ (ss : List ℕ). length ss) (sym c.time_children.ensures) ∙ empty) in
    subst (λ (ends : List ChildEnd). IfOk c.of.result (λ made. made ≡ ends)) (c.new.ensures.items ∙ sym own) c.of.ensures

pub of-requires-2 : goal.of-requires-2
of-requires-2 c =
    let nodes = c.args.tree.now.nodes in
    let e = element_of nodes c.args.who c.requires in
    let made : length c.in_ok-children.children.items ≡ length (time_children nodes (e.0).serial) =
    ap (λ (ends : List ChildEnd). length ends) (c.in_ok-children.ensures e.0 e.1) ∙ length-map (time_children nodes (e.0).serial) (named_end e.0) in
    let few : length (time_children nodes (e.0).serial) ≤ length nodes = few_children nodes (e.0).serial in
    let all : length nodes ≤ 8000 = c.valid.ensures.nodes in
    omega (arith, made, few, all)

pub returns : goal.returns
returns c = λ e here.
    subst (λ (ends : List ChildEnd). IfOk c.of-2.result (λ made. made ≡ ends)) (c.in_ok-children.ensures e here) c.of-2.ensures
