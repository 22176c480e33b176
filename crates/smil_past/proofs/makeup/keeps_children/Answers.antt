use Rattle.std.proofs.Common.{◌≡◌, ◌∙◌, sym, ap, true, false}
use Rattle.std.specs.Prelude.{◌||◌, ◌&&◌}
use Rattle.std.specs.List.{list_any}
use Rattle.smil_model.specs.declared.document.Kind.{Kind}
use Rattle.smil_model.specs.document.Document.{is_excl_kind, is_seq_kind, time_children}
use Rattle.smil_past.specs.Makeups.{freezes}
use Rattle.smil_past.proofs.ElementMakeup.{kind_is}
use Rattle.smil_past.proofs.ItemReferences.{stands}
use Rattle.smil_past.proofs.makeup.keeps_children.Goals as goal

pub returns-then-plays_one : goal.returns-then-plays_one
returns-then-plays_one c = λ e here.
    let nodes = c.args.tree.now.nodes in
    let turns : (is_seq_kind e.kind || is_excl_kind e.kind) ≡ true = ap (λ (k : Kind). is_seq_kind k || is_excl_kind k) (sym (kind_is nodes c.args.who e c.kind.result here c.kind.ensures)) ∙ sym c.plays_one.ensures ∙ c.if-plays_one.true in
    c.any_freezes.ensures
    ∙ ap (λ s. list_any (freezes nodes) (time_children nodes s)) (sym (stands nodes c.args.who e here).serial)
    ∙ ap (λ b. b && list_any (freezes nodes) (time_children nodes e.serial)) (sym turns)

pub returns-else-plays_one : goal.returns-else-plays_one
returns-else-plays_one c = λ e here.
    let nodes = c.args.tree.now.nodes in
    let turns : (is_seq_kind e.kind || is_excl_kind e.kind) ≡ false = ap (λ (k : Kind). is_seq_kind k || is_excl_kind k) (sym (kind_is nodes c.args.who e c.kind.result here c.kind.ensures)) ∙ sym c.plays_one.ensures ∙ c.if-plays_one.false in
    c.if-plays_one.false ∙ ap (λ b. b && list_any (freezes nodes) (time_children nodes e.serial)) (sym turns)
