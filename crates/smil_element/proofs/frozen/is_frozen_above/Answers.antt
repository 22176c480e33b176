use Rattle.std.proofs.Common.{◌≡◌, ◌∙◌, sym, ap, subst, ℕ, Option, true}
use Rattle.std.specs.Prelude.{not, IfSome}
use Rattle.smil_model.specs.document.Document.{time_parent}
use Rattle.smil_model.specs.diary.Lawful.{has_element}
use Rattle.smil_past.specs.Past.{history_of}
use Rattle.smil_element.specs.Shown.{frozen_at}
use Rattle.smil_element.proofs.FrozenAncestors.{lives_unfrozen}
use Rattle.smil_element.proofs.frozen.is_frozen_above.Goals as goal

pub returns-then-not-subject : goal.returns-then-not-subject
returns-then-not-subject c = c.is_frozen.ensures ∙ ap (frozen_at (history_of c.args.subject.now.present.past.now)) c.requires.parent_is

pub returns-else-not-subject : goal.returns-else-not-subject
returns-else-not-subject c =
    let past = c.args.subject.now.present.past.now in
    ap not c.if-not-subject.false
    ∙ lives_unfrozen (history_of past) past.document.next c.possible.ensures.valid.numbered (time_parent past.document.nodes c.args.subject.now.present.who)
    (subst (λ (o : Option ℕ). IfSome o (λ p. has_element past.document.nodes p ≡ true)) c.requires.parent_is c.requires.parent_known)
    (sym c.if-not-subject.false ∙ c.requires.alive_is)
