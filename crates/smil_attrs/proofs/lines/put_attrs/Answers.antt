use Rattle.std.proofs.Common.{false}
use Rattle.smil_grammar.specs.Attributes.{names}
use Rattle.smil_grammar.specs.Spellings.{value_text, attribute_text}
use Rattle.smil_attrs.proofs.WritableValues.{fits_at}
use Rattle.smil_attrs.proofs.AttributeJoins.{one_more}
use Rattle.smil_attrs.proofs.lines.put_attrs.Goals as goal

pub put_attr-requires : goal.put_attr-requires
put_attr-requires c = fits_at false c.args.kind c.args.attrs.now _ c.requires

pub loop-name-preserved : goal.loop-name-preserved
loop-name-preserved c = one_more (λ n. attribute_text n (value_text c.args.attrs.now n)) names _ c.args.out.now c.loop-name.out c.put_attr.new.out c.loop-name.name-index c.loop-name-test.true c.loop-name.invariant c.in_ok-put_attr.ensures.ok
