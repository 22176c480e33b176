use Rattle.std.proofs.Common.{rules, ◌≡◌, ℕ, Err, sym, ap, subst, ◌∙◌, Option, option_map}
use Rattle.smil_model.specs.declared.document.Kind.{Kind}
use Rattle.smil_model.specs.declared.document.Attrs.{Attrs}
use Rattle.smil_model.specs.declared.order.Refusal.{Refusal}
use Rattle.smil_model.specs.document.Edits.{no_attrs}
use Rattle.smil_model.specs.document.Values.{is_seq_parent}
use Rattle.smil_grammar.specs.Gives.{GivesNode, GivesReading}
use Rattle.smil_grammar.specs.Nodes.{attrs_from}
use Rattle.smil_grammar.specs.Outlines.{in_line, attrs_in}
use Rattle.smil_outline.proofs.AttributesPlaced.{attrs_refused, fault_is_near}
use Rattle.smil_outline.proofs.builder.Builder.attrs_below.Goals as goal

pub refused-requires-clause-near : goal.refused-requires-clause-near
refused-requires-clause-near c =
    fault_is_near (is_seq_parent c.map.result) c.args.kind c.args.shape.now c.in-Err.fault c.requires.near
    (subst (λ (a : Attrs). GivesNode {A = Attrs} (Err c.in-Err.fault) (attrs_from (is_seq_parent c.map.result) c.args.kind a c.args.shape.now.attributes)) c.requires.bare c.in-Err.ensures)

pub returns-in-Ok : goal.returns-in-Ok
returns-in-Ok c =
    let parent : c.map.result ≡ option_map (λ (n : ℕ × Kind). n.1) c.args.parent = search rules in
    record {
      reading = ap (in_line c.args.spaces)
          (sym (ap (λ (p : Option Kind). attrs_from (is_seq_parent p) c.args.kind no_attrs c.args.shape.now.attributes) parent)
          ∙ sym (ap (λ (a : Attrs). attrs_from (is_seq_parent c.map.result) c.args.kind a c.args.shape.now.attributes) c.requires.bare)
          ∙ c.in-Ok.ensures);
    }

pub returns-in-Err : goal.returns-in-Err
returns-in-Err c =
    let parent : c.map.result ≡ option_map (λ (n : ℕ × Kind). n.1) c.args.parent = search rules in
    let fault : GivesNode {A = Attrs} (Err c.in-Err.fault) (attrs_from (is_seq_parent c.map.result) c.args.kind no_attrs c.args.shape.now.attributes) =
    subst (λ (a : Attrs). GivesNode {A = Attrs} (Err c.in-Err.fault) (attrs_from (is_seq_parent c.map.result) c.args.kind a c.args.shape.now.attributes)) c.requires.bare c.in-Err.ensures in
    record {
      reading = subst (λ (e : Refusal). GivesReading {A = Attrs} (Err e) (in_line c.args.spaces (attrs_in c.args.parent c.args.kind c.args.shape.now))) (sym c.refused.ensures)
          (attrs_refused c.args.spaces (attrs_in c.args.parent c.args.kind c.args.shape.now) c.in-Err.fault (subst (λ (p : Option Kind). GivesNode {A = Attrs} (Err c.in-Err.fault) (attrs_from (is_seq_parent p) c.args.kind no_attrs c.args.shape.now.attributes)) parent fault));
    }
