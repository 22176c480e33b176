-- The words of kinds and of attributes: each is found again, and what is tested of all holds of each.
use Rattle.std.proofs.Common.{◌≡◌, Bool, true, List, [], ◌∷◌, Some, refl}
use Rattle.std.specs.Prelude.{find, bytes_eq}
use Rattle.std.specs.List.{list_all}
use Rattle.std.proofs.lemmas.Bool.{cond_both, and_parts}
use Rattle.smil_model.specs.declared.document.Kind.{Kind}
use Rattle.smil_model.specs.declared.document.Kind.TheVariants as kind
use Rattle.smil_model.specs.declared.document.AttrName.{AttrName}
use Rattle.smil_model.specs.declared.document.AttrName.TheVariants as name
use Rattle.smil_model.specs.declared.texts.TextName.TheVariants as text
use Rattle.smil_grammar.specs.Attributes.{kind_text, kind_called, kinds, name_text, name_called, names}

pub kind_known : (k : Kind) → kind_called (kind_text k) ≡ Some k
kind_known kind.Par = refl
kind_known kind.Seq = refl
kind_known kind.Excl = refl
kind_known kind.PriorityClass = refl
kind_known kind.Img = refl
kind_known kind.Text = refl
kind_known kind.Brush = refl
kind_known kind.Audio = refl
kind_known kind.Video = refl
kind_known kind.Animation = refl
kind_known kind.TextStream = refl
kind_known kind.Ref = refl
kind_known kind.Set = refl

pub name_known : (n : AttrName) → name_called (name_text n) ≡ Some n
name_known name.Id = refl
name_known name.Begin = refl
name_known name.Dur = refl
name_known name.End = refl
name_known name.Min = refl
name_known name.Max = refl
name_known name.RepeatCount = refl
name_known name.RepeatDur = refl
name_known name.Restart = refl
name_known name.Fill = refl
name_known name.RestartDefault = refl
name_known name.FillDefault = refl
name_known name.Endsync = refl
name_known name.Peers = refl
name_known name.Higher = refl
name_known name.Lower = refl
name_known (name.Text text.Src) = refl
name_known (name.Text text.Region) = refl
name_known (name.Text text.Alt) = refl
name_known (name.Text text.Title) = refl
name_known (name.Text text.TargetElement) = refl
name_known (name.Text text.AttributeName) = refl
name_known (name.Text text.To) = refl

-- what is found in a list that passes a test passes it
found_passes : {A : Type 0} (test wanted : A → Bool) (xs : List A) (x : A) → list_all test xs ≡ true → find wanted xs ≡ Some x → test x ≡ true
found_passes test wanted [] x all found = absurd cc
found_passes test wanted (y ∷ xs) x all found =
    let parts = and_parts (test y) (list_all test xs) all in
    cond_both (wanted y) (Some y) (find wanted xs) (λ o. o ≡ Some x → test x ≡ true) (λ _ here. let one : y ≡ x = cc in rw (← one) parts.0) (λ _ later. found_passes test wanted xs x parts.1 later) found

pub each_kind : (test : Kind → Bool) → list_all test kinds ≡ true → (k : Kind) → test k ≡ true
each_kind test all k = found_passes test (λ other. bytes_eq (kind_text k) (kind_text other)) kinds k all (kind_known k)

pub each_name : (test : AttrName → Bool) → list_all test names ≡ true → (n : AttrName) → test n ≡ true
each_name test all n = found_passes test (λ other. bytes_eq (name_text n) (name_text other)) names n all (name_known n)
