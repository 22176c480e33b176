use Rattle.std.proofs.Common.{◌≡◌, ℕ, ◌/◌, Ok, false, ltb, List, [], ◌∷◌, ◌++◌, length, take, drop, ap, sym, subst, ◌∙◌}
use Rattle.std.proofs.lemmas.Bool.{le-ltb}
use Rattle.smil_model.specs.declared.limits.TheConstants.{LINE_BYTES}
use Rattle.smil_model.specs.document.Limits.{limits}
use Rattle.smil_grammar.specs.Outlines.{Outline, with_line, with_node, shape_in, shape_within}
use Rattle.smil_outline.specs.Branches.{is_known, IsOfBuilder, IsPlaced}
use Rattle.smil_outline.proofs.ChildrenAlike.{kept_with, kept_put, where_ok}
use Rattle.smil_outline.proofs.LineParts.{as_node}
use Rattle.smil_outline.proofs.OutlineValid.{serial_is_new}
use Rattle.smil_outline.proofs.builder.Builder.add.Goals as goal

pub invariant_of-self-2 : goal.invariant_of-self-2
invariant_of-self-2 c =
    let inside : Outline = record { nodes = c.self.inside.nodes; branch = c.self.inside.branch; next = c.self.inside.next } in
    let now : Outline = c.args.self.now in
    let line : List ℕ = c.args.line.now in
    let node = c.line.new.node in
    let spaces : ℕ = c.spaces-spaces.result in
    let kept : IsOfBuilder now = subst IsOfBuilder c.self.view_is c.self.invariant in
    let short : ltb LINE_BYTES (length line) ≡ false = le-ltb _ _ c.requires.short in
    let text : drop spaces line ≡ c.split_at.result.1.now = sym c.split_at.ensures.back in
    let shaped = ap (shape_in now now.next) text ∙ sym c.in-Some.ensures.reading in
    let new : is_known now.nodes c.in-Some.serial ≡ false = serial_is_new now c.split_at.result.1.now c.in-Some.serial c.in-Some.shape kept.read c.in-Some.ensures.reading c.in_ok-line.ensures.fresh in
    let placed : IsPlaced now (spaces / 2) node = record {
      serial = ap (is_known now.nodes) c.in_ok-line.ensures.serial ∙ new;
      parent = c.in_ok-line.ensures.parent;
      unmixed = c.in_ok-line.ensures.unmixed;
    } in
    let reads : with_line now line ≡ Ok (with_node now (spaces / 2) node) =
    as_node now line short c.requires.later
    ∙ ap (λ (n : ℕ). shape_within limits now n (shape_in now now.next (drop n line))) (sym c.spaces-spaces.ensures.len)
    ∙ ap (shape_within limits now spaces) shaped
    ∙ c.in_ok-line.ensures.reading in
    kept_put inside now (spaces / 2) node c.push.new.self c.put.new.self c.self.view_is (where_ok c.push.result (sym c.is_err.ensures.value ∙ c.if-is_err.false) c.push.ensures.ok)
    (c.put.ensures ∙ ap (λ (s : ℕ). take (spaces / 2) inside.branch ++ (s, node.kind) ∷ []) (sym c.in_ok-line.ensures.serial))
    (kept_with now (spaces / 2) node line kept c.in_ok-line.ensures.near placed c.in_ok-line.ensures.few reads)
