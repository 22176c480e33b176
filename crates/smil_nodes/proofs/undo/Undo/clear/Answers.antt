use Rattle.std.proofs.Common.{◌≡◌, ◌∙◌, sym, List, [], ◌∷◌, ◌++◌, false, Option, Some, None}
use Rattle.std.specs.Prelude.{MatchOption, is_some}
use Rattle.smil_nodes.specs.declared.undo.Note.{Note}
use Rattle.smil_nodes.proofs.undo.Undo.clear.Goals as goal

none_left : (last : Option Note) (old new : List Note) → is_some last ≡ false → MatchOption last ((old ≡ []) × (new ≡ [])) (λ noted. old ≡ new ++ noted ∷ []) → new ≡ []
none_left None old new none is = is.1
none_left (Some noted) old new none is = cc

pub returns : goal.returns
returns c = none_left c.take_last.result c.loop.self c.take_last.new.self (sym c.is_some.ensures ∙ c.loop-test.false) c.take_last.ensures.last
