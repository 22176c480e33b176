use Rattle.std.proofs.Common.{◌≡◌, subst, ℤ, ◌++◌, arith, OnOk}
use mir.Syntax.{w64}
use mir.Val.{SFits}
use Rattle.std.proofs.lemmas.Int.{ints, to_z-of_z}
use Rattle.smil_model.specs.declared.document.Item.TheVariants.{Key}
use Rattle.smil_model.specs.Times.{IsNear}
use Rattle.smil_grammar.specs.Spellings.{item_text, CanWrite}
use Rattle.smil_time_list.proofs.spellings.put_item.Goals as goal

fits : (z : ℤ) → IsNear z → SFits w64 z
fits z h = omega (arith, ints, h.low, h.high)

pub returns-in-Key-clause-ok : goal.returns-in-Key-clause-ok
returns-in-Key-clause-ok c =
    let within : IsNear c.in-Key.offset = subst CanWrite c.in-Key.is c.requires in
    rw c.in-Key.is
    (subst (λ (z : ℤ). OnOk c.put_key.result (c.put_key.new.out ≡ c.args.out.now ++ item_text (Key c.in-Key.key z))) (to_z-of_z w64 c.in-Key.offset (fits c.in-Key.offset within))
    c.put_key.ensures.ok)
