-- Lines for which something is copied.
use Rattle.std.proofs.Common.{◌≡◌, ℕ, Bool, true, List, Option, Some, Result, Ok, Err, ap, subst}
use Rattle.std.specs.Prelude.{◌||◌, IfSome, is_ok}
use Rattle.smil_model.specs.declared.order.Refusal.{Refusal}
use Rattle.smil_grammar.specs.Positions.{Piece}
use Rattle.smil_grammar.specs.Scripts.{first_of, line_of}
use Rattle.smil_grammar.specs.declared.read.Read.{Read}
use Rattle.smil_script.specs.Copies.{IsForCopy, behind_name_copies, line_copies}

-- a line that has a reading
pub copied-read : (line : List ℕ) (read : Read) → line_of line ≡ Ok read → line_copies line ≡ true
copied-read line read is =
    let cut : Piece × Piece = first_of (record { text = line; place = 0 }) in
    ap (λ (r : Result Read Refusal). is_ok r || behind_name_copies cut.0.text (first_of cut.1)) is

-- memory may run out then, whatever is answered
pub copied-any : {A : Type 0} (copies : Bool) (r : Result A Refusal) → copies ≡ true → IsForCopy copies r
copied-any copies (Ok done) e = tt
copied-any copies (Err refusal) e = λ memory. e

-- what is said of a value, where it is this one
pub said-of : {A : Type 0} (P : A → Type 0) (o : Option A) (x : A) → o ≡ Some x → IfSome o P → P x
said-of P o x is says = subst (λ v. IfSome v P) is says
