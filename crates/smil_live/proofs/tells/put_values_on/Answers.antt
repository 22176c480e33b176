use Rattle.std.proofs.Common.{◌≡◌, ◌∙◌, ap, ℕ, ◌<◌, List, ◌++◌, length, get_or, arith}
use Rattle.smil_model.specs.shown.Answers.{top_text}
use Rattle.smil_model.specs.shown.Sandwich.{names_on, stack_of}
use Rattle.smil_model.proofs.GrowingTexts.{begins_by}
use Rattle.smil_shown.proofs.LineTexts.{begins_more, lines_more}
use Rattle.smil_live.proofs.tells.put_values_on.Goals as goal

pub loop-name-preserved : goal.loop-name-preserved
loop-name-preserved c =
    let i = c.loop-name.name-index in
    let s = c.requires.setters in
    let one = c.in_ok-put_top.ensures.told s.0 s.1.are in
    record {
      text = λ all are.
          let same = c.names-name-items.ensures all are in
          let item : c.name-item.result ≡ get_or (names_on all c.args.target) i c.name-item.result = c.name-item.is ∙ ap (λ (ns : List (List ℕ)). get_or ns i c.name-item.result) same in
          let inside : i < length (names_on all c.args.target) = omega (arith, ap length same, c.loop-name-test.true) in
          lines_more (λ name. top_text c.args.document.tree.now.nodes c.args.target name (stack_of all c.args.target name)) (names_on all c.args.target) c.args.out.now i c.name-item.result c.loop-name.out c.put_top.new.out inside (c.loop-name.invariant.text all are)
          (c.in_ok-put_top.ensures.told all are ∙ ap (λ (n : List ℕ). c.loop-name.out ++ top_text c.args.document.tree.now.nodes c.args.target n (stack_of all c.args.target n)) item);
      begins = begins_by c.args.out.now c.loop-name.out c.put_top.new.out c.loop-name.invariant.begins (begins_more c.loop-name.out c.put_top.new.out _ one);
    }
