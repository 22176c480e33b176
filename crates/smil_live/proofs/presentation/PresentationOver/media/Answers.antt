use Rattle.std.proofs.Common.{Err, rules, refl, ◌≡◌, ◌∙◌, sym, ap, subst, w64, to_z, of_z}
use Rattle.std.specs.Prelude.{IsSome}
use Rattle.smil_model.specs.document.Document.{Document, is_continuous, node_at}
use Rattle.smil_model.specs.document.Valid.{IsNumberedTree, kind_of}
use Rattle.smil_model.specs.document.Limits.{limits}
use Rattle.smil_model.specs.shown.Orders.{outcome, with_logged as logged_within}
use Rattle.std.proofs.lemmas.Int.{to_z-of_z}
use Rattle.smil_model.specs.declared.diary.Happening.TheVariants as happening
use Rattle.smil_model.specs.declared.order.Order.TheVariants as order
use Rattle.smil_model.specs.declared.order.Refusal.TheVariants as refusal
use Rattle.smil_grammar.specs.Formats.{formats}
use Rattle.smil_live.proofs.AnsweredOrders.{answered_as_heard, refused_at_once}
use Rattle.smil_live.proofs.OrderOutcomes.{kind_named, may_media, media_is, media_refused}
use Rattle.smil_live.proofs.presentation.PresentationOver.media.Given.{Over}
use Rattle.smil_live.proofs.presentation.PresentationOver.media.Goals as goal
use Rattle.smil_live.proofs.presentation.PresentationOver.media.Goals.{After-hear, After-kind}

pub kind-requires : goal.kind-requires
kind-requires g c =
    let same : c.tree.result.now ≡ c.args.self.now.document = c.tree.ensures.document in
    subst (λ (d : Document). IsSome (node_at d.nodes c.in_ok-serial.serial)) (sym same) c.in_ok-serial.ensures.known

-- the kind is that of the node that is named
kind : (g : Over) (c : After-kind g) → c.kind.result ≡ (c.in_ok-serial.ensures.ok).0.kind
kind g c =
    let same = c.tree.ensures.document in
    let h = c.in_ok-serial.ensures.ok in
    kind_named c.args.self.now.document c.args.who.now h.0 c.in_ok-serial.serial c.kind.result (subst IsNumberedTree c.tree.ensures.document c.tree.ensures.valid.numbered) h.1 h.2
    (c.kind.ensures ∙ ap (λ (d : Document). kind_of (node_at d.nodes c.in_ok-serial.serial)) same)

pub hear-requires : goal.hear-requires
hear-requires g c =
    may_media c.in_ok-serial.serial (to_z w64 (of_z w64 c.args.length)) c.args.length c.in_ok-serial.ensures.serial (to_z-of_z w64 c.args.length c.ranges.length) c.requires.1

-- the order comes to what is heard of the media
is_heard : (g : Over) (c : After-hear g) → c.kind.result ≡ (c.in_ok-serial.ensures.ok).0.kind → outcome formats c.args.self.now (order.Media c.args.who.now c.args.length) ≡ logged_within limits c.args.self.now (happening.Media c.in_ok-serial.serial (to_z w64 (of_z w64 c.args.length)))
is_heard g c same =
    let h = c.in_ok-serial.ensures.ok in
    let continuous = ap is_continuous (sym same) ∙ sym c.is_continuous.ensures ∙ c.if-not-is_continuous.false in
    media_is c.args.self.now c.args.who.now c.in_ok-serial.serial (to_z w64 (of_z w64 c.args.length)) c.args.length h.0 h.1 continuous h.2 (to_z-of_z w64 c.args.length c.ranges.length)

pub returns : goal.returns
returns g c =
    let at = goal.at.returns g c in
    answered_as_heard g.I.ChangeItem.telling g.T.Table.counts (order.Media c.args.who.now c.args.length) (happening.Media c.in_ok-serial.serial (to_z w64 (of_z w64 c.args.length))) c.hear.result c.args.self.now c.hear.new.self c.args.out.now
    c.hear.new.out c.args.steps.now c.hear.new.steps (is_heard g at.After-hear (kind g at.After-kind)) refl refl refl c.hear.ensures

pub returns-in_err-serial : goal.returns-in_err-serial
returns-in_err-serial g c =
    refused_at_once g.I.ChangeItem.telling g.T.Table.counts (order.Media c.args.who.now c.args.length) c.from_residual.result c.args.self.now c.args.out.now c.args.steps.now c.from_residual.ensures.0 (search rules)

pub returns-then-not-is_continuous : goal.returns-then-not-is_continuous
returns-then-not-is_continuous g c =
    let h = c.in_ok-serial.ensures.ok in
    refused_at_once g.I.ChangeItem.telling g.T.Table.counts (order.Media c.args.who.now c.args.length) (Err refusal.NotContinuous) c.args.self.now c.args.out.now c.args.steps.now refl
    (media_refused c.args.self.now c.args.who.now c.args.length h.0 h.1 (ap is_continuous (sym (kind g (goal.at.returns-then-not-is_continuous g c).After-kind)) ∙ sym c.is_continuous.ensures ∙ c.if-not-is_continuous.true))
