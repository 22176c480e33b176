-- The diary of a par with one image, at every moment.
use Rattle.std.proofs.Common.{◌≡◌, refl, ap, ℕ, ◌<◌, ◌≤◌, ◌+◌, List, [], ◌∷◌, Bool, true, false, arith}
use Rattle.std.specs.Prelude.{cond, nat_lt, pos, ◌≤ℤ◌}
use Rattle.std.proofs.lemmas.Bool.{ltb-true, ltb-false}
use Rattle.std.proofs.lemmas.Int.{ints}
use Rattle.smil_model.specs.declared.times.TheConstants.{HORIZON}
use Rattle.smil_model.specs.declared.diary.Entry.{Entry}
use Rattle.smil_model.specs.happening.Resolution.{Progress, resolved}
use Rattle.smil_laws.specs.Image.{image, begin_at, end_at, image_diary}
use Rattle.smil_laws.proofs.ImageParBuilt.{early, during, after}

abbrev diary_at : ℕ → ℕ → ℕ → List ℕ → List Entry
diary_at b d now id = (resolved (record { nodes = image b d id; log = []; last = now })).diary

pub has_diary : (b d now : ℕ) (id : List ℕ) → 0 < d → pos (b + d) ≤ℤ HORIZON → diary_at b d now id ≡ image_diary b d now
has_diary b d now id long near = by_begin (nat_lt now b) refl (nat_lt now (b + d)) refl
  where
    fits : b + d ≤ 1_000_000_000_000
    fits = omega (arith, ints, near)

    by_begin : (t : Bool) → nat_lt now b ≡ t → (u : Bool) → nat_lt now (b + d) ≡ u → diary_at b d now id ≡ cond t (begin_at 1 0 ∷ []) (cond u (begin_at 1 0 ∷ begin_at 2 b ∷ []) (begin_at 1 0 ∷ begin_at 2 b ∷ end_at 2 (b + d) ∷ end_at 1 (b + d) ∷ []))
    by_begin true t u v = ap (λ (p : Progress). p.diary) (early b d id fits long now (ltb-true now b t))
    by_begin false t true v = ap (λ (p : Progress). p.diary) (during b d id fits long now (ltb-false now b t) (ltb-true now (b + d) v))
    by_begin false t false v = ap (λ (p : Progress). p.diary) (after b d id fits long now (ltb-false now (b + d) v))
