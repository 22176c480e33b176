use Rattle.std.proofs.Common.{◌≡◌, ◌∙◌, sym, ap, subst, ℕ, Bool, true}
use Rattle.std.proofs.lemmas.Result.{on_ok_weaker}
use Rattle.std.specs.Prelude.{◌&&◌, is_some}
use Rattle.smil_model.specs.document.Document.{Document, is_within, node_at}
use Rattle.smil_instances.proofs.IdTargets.{known_node}
use Rattle.smil_past.specs.Past.{history_of}
use Rattle.smil_cells.specs.Shown.{ArePutWhere, may_rest}
use Rattle.smil_cells.proofs.ElementsPut.{put_none, put_same}
use Rattle.smil_cells.proofs.touched.touch_where_resting.Goals as goal

pub touch_within-requires : goal.touch_within-requires
touch_within-requires c =
    subst (λ (d : Document). is_some (node_at d.nodes c.args.who) ≡ true) (sym c.tree.ensures) (known_node c.args.past.now.document.nodes c.args.who c.requires)

pub returns-then-may_rest : goal.returns-then-may_rest
returns-then-may_rest c = λ n here.
    let h = history_of c.args.past.now in
    let old = c.args.touched.now in
    let new = c.touch_within.new.touched in
    let within = is_within h.nodes c.args.who in
    on_ok_weaker {Q = ArePutWhere h.nodes (λ (s : ℕ). may_rest h n && within s) old new} c.touch_within.result
    (λ (put : ArePutWhere c.tree.result.now.nodes (is_within c.tree.result.now.nodes c.args.who) old new).
    put_same h.nodes within (λ (s : ℕ). may_rest h n && within s) old new
    (λ s. ap (λ (b : Bool). b && within s) (sym c.if-may_rest.true ∙ c.may_rest.ensures n here))
    (subst (λ (d : Document). ArePutWhere d.nodes (is_within d.nodes c.args.who) old new) c.tree.ensures put))
    c.touch_within.ensures

pub returns-else-may_rest : goal.returns-else-may_rest
returns-else-may_rest c = λ n here.
    let h = history_of c.args.past.now in
    put_none h.nodes (λ (s : ℕ). may_rest h n && is_within h.nodes c.args.who s) c.args.touched.now
    (λ s. ap (λ (b : Bool). b && is_within h.nodes c.args.who s) (sym (c.may_rest.ensures n here) ∙ c.if-may_rest.false))
