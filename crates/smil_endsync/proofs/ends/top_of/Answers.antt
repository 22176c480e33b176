use Rattle.std.proofs.Common.{◌∙◌, ap, sym}
use Rattle.std.specs.Prelude.{Some, option_map}
use Rattle.smil_endsync.proofs.ends.top_of.Goals as goal

pub returns-in-Some : goal.returns-in-Some
returns-in-Some c = λ sum is. ap Some (c.top.ensures sum is) ∙ sym (ap (option_map sum) c.in-Some.is)
