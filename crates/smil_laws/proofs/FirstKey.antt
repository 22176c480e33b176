-- What comes first has the least key.
use Rattle.std.proofs.Common.{◌≡◌, refl, ◌∙◌, ap, List, [], ◌∷◌, Option, Some, None, ℤ, Bool, true, false}
use Rattle.std.specs.Prelude.{map, fold, cond, option_map}
use Rattle.smil_model.specs.declared.happening.Key.{Key}
use Rattle.smil_model.specs.diary.Diary.{History}
use Rattle.smil_model.specs.happening.Keys.{DueChange, comes_before, earlier_key, earlier_coming, least_key, first_coming, coming, keys}

abbrev key_in : Option DueChange → Option Key
key_in o = option_map (λ (c : DueChange). c.key) o

one : (o : Option DueChange) (c : DueChange) → key_in (earlier_coming o c) ≡ earlier_key (key_in o) c.key
one None c = refl
one (Some b) c = by_test (comes_before c.key b.key)
  where
    by_test : (t : Bool) → key_in (cond t (Some c) (Some b)) ≡ cond t (Some c.key) (Some b.key)
    by_test true = refl
    by_test false = refl

all : (cs : List DueChange) (o : Option DueChange) → key_in (fold earlier_coming o cs) ≡ fold earlier_key (key_in o) (map (λ (c : DueChange). c.key) cs)
all [] o = refl
all (c ∷ cs) o = all cs (earlier_coming o c) ∙ ap (λ k. fold earlier_key k (map (λ (x : DueChange). x.key) cs)) (one o c)

pub first_key : (h : History) (now : ℤ) → key_in (first_coming (coming h now)) ≡ least_key (keys h now)
first_key h now = all (coming h now) None
