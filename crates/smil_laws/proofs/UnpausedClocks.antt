-- Where nothing was paused, every clock shows the moment.
use Rattle.std.proofs.Common.{◌≡◌, refl, ◌∙◌, ap, ℕ, suc, zero, ◌+◌, List, [], ◌∷◌, Option, Some, None, ℤ, Bool, true, false, add-one}
use Rattle.std.specs.Prelude.{pos, cond, ◌==◌, ◌||◌, ◌&&◌, fold, int_le}
use Rattle.std.specs.List.{list_any, list_all}
use Rattle.std.proofs.lemmas.Bool.{and_parts, and_from, and_right}
use Rattle.smil_model.specs.declared.diary.Entry.{Entry}
use Rattle.smil_model.specs.declared.diary.Step.{Step}
use Rattle.smil_model.specs.declared.diary.Step.TheVariants.{Began, Paused, Resumed}
use Rattle.smil_model.specs.declared.document.Node.{Node}
use Rattle.smil_model.specs.document.Document.{is_element, lineage, time_parent}
use Rattle.smil_model.specs.diary.Diary.{History, paused_after, is_paused, is_active}
use Rattle.smil_model.specs.diary.Clocks.{until, stands_by, elapsed, run, outer_under, outer}

abbrev pub is_no_pause : Step → Bool
is_no_pause (Paused who) = false
is_no_pause _ = true

abbrev pub none_paused : List Entry → Bool
none_paused ds = list_all (λ (x : Entry). is_no_pause x.step) ds

cond_same : (t : Bool) → cond t false false ≡ false
cond_same true = refl
cond_same false = refl

still : (s : ℕ) (step : Step) → is_no_pause step ≡ true → paused_after s false step ≡ false
still s (Began who begin) q = cond_same (who == s)
still s (Resumed who) q = cond_same (who == s)
still s (Paused who) q = cc
still s _ q = refl

all_still : (s : ℕ) (ds : List Entry) → none_paused ds ≡ true → fold (λ before (x : Entry). paused_after s before x.step) false ds ≡ false
all_still s [] q = refl
all_still s (x ∷ xs) q =
    ap (λ b. fold (λ before (x : Entry). paused_after s before x.step) b xs) (still s x.step ((and_parts _ _ q).0)) ∙ all_still s xs ((and_parts _ _ q).1)

pub not_paused : (s : ℕ) (ds : List Entry) → none_paused ds ≡ true → is_paused ds s ≡ false
not_paused s ds q = and_right (is_active ds s) _ (all_still s ds q)

none_any : (p : Node → Bool) (ns : List Node) → ((n : Node) → p n ≡ false) → list_any p ns ≡ false
none_any p [] f = refl
none_any p (n ∷ ns) f = ap (λ t. t || list_any p ns) (f n) ∙ none_any p ns f

pub not_held : (nodes : List Node) (s : ℕ) (ds : List Entry) → none_paused ds ≡ true → stands_by nodes ds s ≡ false
not_held nodes s ds q = none_any (λ (n : Node). is_element n && is_paused ds n.serial) (lineage nodes s) (λ n. and_right (is_element n) _ (not_paused n.serial ds q))

until_still : (m : ℤ) (ds : List Entry) → none_paused ds ≡ true → none_paused (until m ds) ≡ true
until_still m [] q = refl
until_still m (x ∷ xs) q = keep (int_le x.moment m) (until_still m xs ((and_parts _ _ q).1))
  where
    keep : (t : Bool) → none_paused (until m xs) ≡ true → none_paused (cond t (x ∷ until m xs) (until m xs)) ≡ true
    keep true r = and_from _ _ ((and_parts _ _ q).0) r
    keep false r = r

module _ (h : History) (free : none_paused h.diary ≡ true) where
  pub elapsed_all : (s m : ℕ) → elapsed h s m ≡ m
  elapsed_all s zero = refl
  elapsed_all s (suc m) =
      ap (λ t. elapsed h s m + cond t 0 1) (not_held h.nodes s (until (pos m) h.diary) (until_still (pos m) h.diary free))
      ∙ ap (λ n. n + 1) (elapsed_all s m) ∙ add-one m

  pub own_all : (s m : ℕ) → run h s (pos m) ≡ pos m
  own_all s m = ap pos (elapsed_all s m)

  pub parent_all : (s m : ℕ) → outer h s (pos m) ≡ pos m
  parent_all s m = under (time_parent h.nodes s)
    where
      under : (o : Option Node) → outer_under h o (pos m) ≡ pos m
      under None = refl
      under (Some p) = own_all p.serial m
