-- The rows of elements without intervals.
use Rattle.std.proofs.Common.{◌≡◌, refl, ap, List, [], ◌∷◌, map}
use Rattle.smil_model.specs.declared.document.Node.{Node}
use Rattle.smil_model.specs.document.Document.{serials}
use Rattle.smil_rounds.specs.declared.current_rows.CurrentRow.{CurrentRow}
use Rattle.smil_rounds.specs.Rows.{AreNear, empty_row, row_without}

pub empty_near : (es : List Node) → AreNear (map empty_row es)
empty_near [] = tt
empty_near (e ∷ es) = (tt, empty_near es)

pub empty_serials : (es : List Node) → map (λ (r : CurrentRow). r.serial) (map empty_row es) ≡ serials es
empty_serials [] = refl
empty_serials (e ∷ es) = ap (λ ss. e.serial ∷ ss) (empty_serials es)

pub empty_by_serials : (es : List Node) → map row_without (serials es) ≡ map empty_row es
empty_by_serials [] = refl
empty_by_serials (e ∷ es) = ap (λ rows. empty_row e ∷ rows) (empty_by_serials es)
