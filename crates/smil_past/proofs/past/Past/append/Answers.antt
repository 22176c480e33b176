use Rattle.std.proofs.Common.{◌≡◌, ◌∙◌, sym, subst}
use Rattle.smil_model.specs.document.Document.{Document}
use Rattle.smil_past.specs.declared.chronicle.Chronicle.{Chronicle}
use Rattle.smil_past.specs.Past.{MarkedHistory, MayFollow, unmarked}
use Rattle.smil_past.specs.Chronicle.{BacksUp, Tells}
use Rattle.smil_past.specs.Kept.{AreKept}
use Rattle.smil_past.proofs.Marks.{backs_noted, backs_push}
use Rattle.smil_past.proofs.KeptFronts.{kept_push}
use Rattle.smil_past.proofs.past.Past.append.Goals as goal

pub push-requires-clause-follows : goal.push-requires-clause-follows
push-requires-clause-follows c =
    let follows = subst (λ (v : MarkedHistory). MayFollow v c.args.entry) (sym c.self.view_is) c.requires in
    let was = c.self.inside in
    let here : c.tree-tree.result.now ≡ was.document.value = c.tree-tree.ensures ∙ c.deref.ensures in
    subst (λ (d : Document). MayFollow (unmarked d was.log was.chronicle.book) c.args.entry) (sym here)
    (record { lawful = follows.lawful; near = follows.near; named = follows.named })

pub invariant_of-self : goal.invariant_of-self
invariant_of-self c =
    let was = c.self.inside in
    let sound = c.self.invariant in
    let now = c.push.new.self in record {
      tells = subst (λ (k : Chronicle). Tells was.document.value was.log k) (sym c.in_err-push.ensures.err) sound.tells;
      backs_up = subst (λ ds. BacksUp was.document.value was.log ds now.readings c.push.new.notes was.mark) (sym (λ i. (c.in_err-push.ensures.err i).book))
          (backs_noted was.document.value was.log was.chronicle.book was.chronicle.readings now.readings was.notes c.push.new.notes was.mark c.push.ensures.back sound.backs_up);
      kept_are = subst (λ (k : Chronicle). AreKept was.document.value was.log k.book was.kept.items) (sym c.in_err-push.ensures.err) sound.kept_are;
    }

pub invariant_of-self-2 : goal.invariant_of-self-2
invariant_of-self-2 c =
    let was = c.self.inside in
    let sound = c.self.invariant in
    let now = c.push.new.self in
    let here : c.tree-tree.result.now ≡ was.document.value = c.tree-tree.ensures ∙ c.deref.ensures in record {
      tells = subst (λ (d : Document). Tells d was.log now) here c.in_ok-push.ensures.tells;
      backs_up = subst (λ ds. BacksUp was.document.value was.log ds now.readings c.push.new.notes was.mark) (sym c.in_ok-push.ensures.ok)
          (backs_push was.document.value was.log was.chronicle.book c.args.entry was.chronicle.readings now.readings was.notes c.push.new.notes was.mark c.push.ensures.back sound.backs_up);
      kept_are = subst (λ ds. AreKept was.document.value was.log ds was.kept.items) (sym c.in_ok-push.ensures.ok)
          (kept_push was.document.value was.log was.chronicle.book c.args.entry was.kept.items sound.kept_are);
    }
