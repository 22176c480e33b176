use Rattle.std.proofs.Common.{◌+◌, ◌-◌, ◌≤◌, length, sym, subst, arith}
use Rattle.smil_grammar.specs.Nodes.{WrittenAttr}
use Rattle.smil_switch.proofs.choice.attribute.Goals as goal

pub column-requires : goal.column-requires
column-requires c =
    let here : c.written.inside.value_place + length c.written.inside.value.now ≤ 2147483648 - c.args.spaces = subst (λ (w : WrittenAttr). w.value_place + length w.value ≤ 2147483648 - c.args.spaces) (sym c.written.view_is) c.requires.within.value in
    omega (arith, here, c.requires.spaces)

pub column-column-requires : goal.column-column-requires
column-column-requires c =
    let here : c.written.inside.name_place ≤ 2147483648 - c.args.spaces = subst (λ (w : WrittenAttr). w.name_place ≤ 2147483648 - c.args.spaces) (sym c.written.view_is) c.requires.within.name in
    omega (arith, here, c.requires.spaces)
