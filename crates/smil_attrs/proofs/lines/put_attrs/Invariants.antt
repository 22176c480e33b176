use Rattle.std.proofs.Common.{◌≡◌, ◌++◌, take, flat_map}
use Rattle.smil_grammar.specs.Attributes.{names}
use Rattle.smil_grammar.specs.Spellings.{value_text, attribute_text}
use Rattle.smil_attrs.proofs.lines.put_attrs.Given as goal

abbrev pub invariant-loop-name : goal.invariant-loop-name
invariant-loop-name l = l.out ≡ l.fn.out ++ flat_map (λ n. attribute_text n (value_text l.attrs n)) (take l.name-index names)
