-- What a reference that is there points to.
use Rattle.std.proofs.Common.{◌≡◌, refl, Option, Some, None, true}
use Rattle.std.specs.Prelude.{is_some}
use Rattle.std.specs.Option.{option_copied}
use Rattle.std.specs.Borrow.{Bor}

pub some_lent : {T : Type 0} (r : Option (Bor T)) → is_some (option_copied r) ≡ true → is_some r ≡ true
some_lent None q = q
some_lent (Some x) q = refl
