-- Lists that grow.
use Rattle.std.proofs.Common.{◌≡◌, sym, List, ◌++◌, length, drop, ap, ◌∙◌}
use Rattle.std.proofs.Math.Seq.{drop-append_seam}

-- what was appended
pub is_appended : {A : Type 0} (old new more : List A) → new ≡ old ++ more → new ≡ old ++ drop (length old) new
is_appended old new more is = is ∙ sym (ap (λ t. old ++ t) (ap (drop (length old)) is ∙ drop-append_seam old more))
