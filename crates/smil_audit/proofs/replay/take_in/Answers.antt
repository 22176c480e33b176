use Rattle.std.proofs.Common.{◌≡◌, refl, sym, ◌∙◌, ap, subst, ℕ, ◌+◌, ◌-◌, List, ◌++◌, length, take, drop, arith, length-append, length-drop}
use Rattle.std.specs.Prelude.{OnOk}
use Rattle.std.proofs.lemmas.List.{take_all}
use Rattle.smil_past.specs.Past.{with_diary}
use Rattle.smil_model.specs.declared.diary.Entry.{Entry}
use Rattle.smil_audit.specs.Entries.{agreed}
use Rattle.smil_audit.proofs.AgreeingFronts.{agree_behind, stands_first, within_second}
use Rattle.smil_audit.proofs.replay.take_in.Goals as goal

-- as much of a diary agrees with a step as agrees with it behind what has happened
counted : (given diary group : List Entry) (from same : ℕ) → take (length diary) given ≡ diary → from ≡ length diary
    → same ≡ agreed (take (length given - from) (drop from given)) group → agreed given (diary ++ group) ≡ from + same
counted given diary group from same follows from_is same_is =
    let rest : take (length given - from) (drop from given) ≡ drop from given = take_all (length given - from) (drop from given) (let l = length-drop from given in omega (arith, l)) in
    let now : same ≡ agreed (drop (length diary) given) group =
    same_is ∙ ap (λ (xs : List Entry). agreed xs group) (rest ∙ ap (λ (n : ℕ). drop n given) from_is) in
    let behind = agree_behind given diary group follows in
    omega (arith, behind, now, from_is)

pub returns-then-same-group : goal.returns-then-same-group
returns-then-same-group c =
    let diary = c.args.past.now.diary in
    let from_is : c.len-from.result ≡ length diary = c.len-from.ensures.value ∙ ap length c.book.ensures in
    (refl, counted c.args.given.now diary c.args.group.now c.len-from.result c.agreed-same.result c.requires.follows from_is c.agreed-same.ensures.same, omega (arith, from_is))

pub returns-in-Ok : goal.returns-in-Ok
returns-in-Ok c =
    let diary = c.args.past.now.diary in
    let group = c.args.group.now in
    let given = c.args.given.now in
    let from_is : c.len-from.result ≡ length diary = c.len-from.ensures.value ∙ ap length c.book.ensures in
    let all = counted given diary group c.len-from.result c.agreed-same.result c.requires.follows from_is c.agreed-same.ensures.same in
    let most = within_second given (diary ++ group) in
    let len = length-append diary group in
    let whole : agreed given (diary ++ group) ≡ length (diary ++ group) = omega (arith, all, most, len, from_is) in
    (subst (λ o. OnOk o (c.append_all.new.past ≡ with_diary c.args.past.now (diary ++ group))) c.in-Ok.is c.append_all.ensures.ok, ap (λ (n : ℕ). take n given) (sym len) ∙ stands_first given (diary ++ group) whole)
