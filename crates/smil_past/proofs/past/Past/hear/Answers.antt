use Rattle.std.proofs.Common.{rules, ◌≡◌, ◌≤◌, ◌+◌, ℕ, List, arith, sym, ◌∙◌, ap, subst, length, Some, [], ◌∷◌, ◌++◌}
use Rattle.std.proofs.lemmas.List.{length_push}
use Rattle.smil_model.specs.declared.diary.LogEntry.{LogEntry}
use Rattle.smil_laws.specs.Cut.{NamesBelow}
use Rattle.smil_past.specs.Past.{MarkedHistory}
use Rattle.smil_past.specs.Chronicle.{BacksUp, Tells}
use Rattle.smil_past.specs.Kept.{AreKept}
use Rattle.smil_past.proofs.LogGrown.{cut_heard, heard, unheard}
use Rattle.smil_past.proofs.Marks.{backs_heard, backs_unheard}
use Rattle.smil_past.proofs.KeptFronts.{kept_heard, kept_unheard}
use Rattle.smil_past.proofs.past.Past.hear.Goals as goal

pub invariant_of-self : goal.invariant_of-self
invariant_of-self c =
    let was = c.self.inside in
    let sound = c.self.invariant in
    let same : c.push.new.self ≡ was.log = c.in_err-push.ensures.err in record {
      tells = subst (λ log. Tells was.document.value log was.chronicle) (sym same) sound.tells;
      backs_up = subst (λ log. BacksUp was.document.value log was.chronicle.book was.chronicle.readings was.notes was.mark) (sym same) sound.backs_up;
      kept_are = subst (λ log. AreKept was.document.value log was.chronicle.book was.kept.items) (sym same) sound.kept_are;
    }

pub invariant_of-self-2 : goal.invariant_of-self-2
invariant_of-self-2 c =
    let was = c.self.inside in
    let sound = c.self.invariant in record {
      tells = heard was.document.value was.log c.push.new.self c.args.entry was.chronicle.book was.chronicle.readings c.in_ok-push.ensures.ok sound.tells;
      backs_up = backs_heard was.document.value was.log c.push.new.self c.args.entry was.chronicle.book was.chronicle.readings was.notes was.mark c.in_ok-push.ensures.ok sound.backs_up;
      kept_are = kept_heard was.document.value was.log c.push.new.self c.args.entry was.chronicle.book was.kept.items c.in_ok-push.ensures.ok sound.kept_are;
    }

pub invariant_of-self-in-Err : goal.invariant_of-self-in-Err
invariant_of-self-in-Err c =
    let was = c.self.inside in
    let now = c.self-2.inside in
    let sound = c.self-2.invariant in
    let seen = c.self-2.view_is ∙ c.in-Err.ensures.err in
    let full : now.log ≡ was.log ++ c.args.entry ∷ [] = ap (λ (v : MarkedHistory). v.log) seen ∙ c.in_ok-push.ensures.ok in
    let cut : c.cut_back.new.self ≡ was.log = cut_heard was.log now.log c.cut_back.new.self c.args.entry c.len-place.result full c.len-place.ensures c.cut_back.ensures in
    let named : NamesBelow (length was.log) now.chronicle.book = subst (NamesBelow (length was.log)) (sym (ap (λ (v : MarkedHistory). v.diary) seen)) c.self.invariant.tells.possible.named in
    let within : (mark : ℕ × ℕ) → now.mark ≡ Some mark → mark.0 ≤ length was.log = λ mark is. (c.self.invariant.backs_up mark (sym (ap (λ (v : MarkedHistory). v.marked) seen) ∙ is)).log_within in record {
      tells = unheard now.document.value was.log now.log c.cut_back.new.self c.args.entry now.chronicle.book now.chronicle.readings full cut named sound.tells;
      backs_up = backs_unheard now.document.value was.log now.log c.cut_back.new.self c.args.entry now.chronicle.book now.chronicle.readings now.notes now.mark full cut within sound.backs_up;
      kept_are = kept_unheard now.document.value was.log now.log c.cut_back.new.self c.args.entry now.chronicle.book now.kept.items full cut named sound.kept_are;
    }

pub append-requires : goal.append-requires
append-requires c =
    let one : length c.push.new.self ≡ length c.self.inside.log + 1 = ap (λ (l : List LogEntry). length l) c.in_ok-push.ensures.ok ∙ length_push c.self.inside.log c.args.entry in
    record {
      lawful = search rules;
      near = search rules;
      named = omega (arith, one, c.len-place.ensures);
    }
