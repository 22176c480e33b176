-- Where the rows of elements stand.
use Rattle.std.proofs.Common.{◌≡◌, refl, sym, ◌∙◌, ap, ℕ, suc, zero, ◌<◌, List, [], ◌∷◌, length, Option, Some, None, Bool, true, false, arith}
use Rattle.std.specs.Prelude.{cond, get_or, set, slice_get, ◌==◌}
use Rattle.std.specs.Option.{option_map}
use Rattle.smil_instance_rows.specs.Rows.{ElementTimes, rows_before}
use Rattle.smil_instance_rows.specs.Readings.{index_in, row_in}

abbrev pub found : List ElementTimes → Option ℕ → Option ElementTimes
found rows None = None
found rows (Some place) = slice_get rows place

found_later : (r : ElementTimes) (rs : List ElementTimes) (o : Option ℕ) → found rs o ≡ found (r ∷ rs) (option_map suc o)
found_later r rs None = refl
found_later r rs (Some place) = refl

pub row_placed : (rows : List ElementTimes) (who : ℕ) → found rows (index_in rows who) ≡ row_in rows who
row_placed [] who = refl
row_placed (r ∷ rs) who = step (r.serial == who) (sym (found_later r rs (index_in rs who)) ∙ row_placed rs who)
  where
    step : (t : Bool) → found (r ∷ rs) (option_map suc (index_in rs who)) ≡ row_in rs who → found (r ∷ rs) (cond t (Some 0) (option_map suc (index_in rs who))) ≡ cond t (Some r) (row_in rs who)
    step true rest = refl
    step false rest = rest

-- a row changed for another of its element
pub index_kept : (rows : List ElementTimes) (i : ℕ) (old new : ElementTimes) → i < length rows → old ≡ get_or rows i old → new.serial ≡ old.serial → (who : ℕ) → index_in (set rows i new) who ≡ index_in rows who
index_kept [] i old new inside is same who = absurd (omega (arith, inside))
index_kept (r ∷ rs) zero old new inside is same who =
    ap (λ s. cond (s == who) (Some 0) (option_map suc (index_in rs who))) (same ∙ ap (λ (r : ElementTimes). r.serial) is)
index_kept (r ∷ rs) (suc i) old new inside is same who =
    ap (λ o. cond (r.serial == who) (Some 0) (option_map suc o)) (index_kept rs i old new (omega (arith, inside)) is same who)

-- rows of which less is kept
pub index_before : (place : ℕ) (rows : List ElementTimes) (who : ℕ) → index_in (rows_before place rows) who ≡ index_in rows who
index_before place [] who = refl
index_before place (r ∷ rs) who = ap (λ o. cond (r.serial == who) (Some 0) (option_map suc o)) (index_before place rs who)
