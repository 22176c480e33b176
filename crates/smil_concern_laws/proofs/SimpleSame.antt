-- The simple duration of an element follows, of its time children, from their ends alone.
use Rattle.std.proofs.Common.{◌≡◌, refl, ◌∙◌, ap, ℕ, List, [], ◌∷◌, Option, ℤ, Bool, true, false}
use Rattle.std.specs.Prelude.{◌==◌, ◌&&◌, cond, filter, map}
use Rattle.std.specs.List.{list_any}
use Rattle.std.proofs.lemmas.Bool.{or_left, or_right, and_from, eq-eqb}
use Rattle.smil_model.specs.declared.diary.Entry.{Entry}
use Rattle.smil_model.specs.declared.document.Kind.{Kind}
use Rattle.smil_model.specs.declared.document.Kind.TheVariants as kind
use Rattle.smil_model.specs.declared.document.Node.{Node}
use Rattle.smil_model.specs.declared.interval.ChildEnd.{ChildEnd}
use Rattle.smil_model.specs.declared.interval.Interval.{Interval}
use Rattle.smil_model.specs.document.Defaults.{endsync_of}
use Rattle.smil_model.specs.document.Document.{is_time_child}
use Rattle.smil_model.specs.document.Dependencies.{has_implicit_duration}
use Rattle.smil_model.specs.diary.Diary.{History, is_active, up_to}
use Rattle.smil_model.specs.diary.Clocks.{iteration_start}
use Rattle.smil_model.specs.interval.Durations.{stated_duration, container_duration}
use Rattle.smil_model.specs.interval.Current.{is_named_child, child_end, container_implicit, implicit_of, implicit_duration, media_length, simple_of}
use Rattle.smil_model.specs.declared.times.Time.{Time}
use Rattle.smil_model.specs.declared.times.Time.TheVariants.{Unresolved}
use Rattle.smil_concern_laws.specs.Unconcerned.{SameEnds, ChildrenEndSame}

-- what a container takes of a time child
pub child_same : (h k : History) (J K : ℕ → Option Interval) (e c : Node) → SameEnds h k (J c.serial) (K c.serial) c.serial → child_end k K e c ≡ child_end h J e c
child_same h k J K e c same = λ i. record {
  named = is_named_child e.attrs.endsync c;
  first = same.first i;
  latest = same.latest i;
}

children_same : (h k : History) (J K : ℕ → Option Interval) (e : Node) (test : Node → Bool) (ns : List Node) → ((s : ℕ) → list_any (λ (c : Node). (c.serial == s) && test c) ns ≡ true → SameEnds h k (J s) (K s) s) → map (child_end k K e) (filter test ns) ≡ map (child_end h J e) (filter test ns)
children_same h k J K e test [] f = refl
children_same h k J K e test (n ∷ ns) f =
    step (test n) (λ t. f n.serial (or_left _ _ (and_from _ _ (eq-eqb n.serial n.serial refl) t))) (children_same h k J K e test ns (λ s t. f s (or_right _ _ t)))
  where
    step : (t : Bool) → (t ≡ true → SameEnds h k (J n.serial) (K n.serial) n.serial) → map (child_end k K e) (filter test ns) ≡ map (child_end h J e) (filter test ns) → map (child_end k K e) (cond t (n ∷ filter test ns) (filter test ns)) ≡ map (child_end h J e) (cond t (n ∷ filter test ns) (filter test ns))
    step true p q = ap (λ c. c ∷ map (child_end k K e) (filter test ns)) (child_same h k J K e n (p refl)) ∙ ap (λ cs. child_end h J e n ∷ cs) q
    step false p q = q

-- by two diaries, and an assignment of intervals each
module _ (h : History) (diary : List Entry) (J K : ℕ → Option Interval) (e : Node) (active : is_active diary e.serial ≡ is_active h.diary e.serial) (iteration_starts : iteration_start (up_to h diary) e.serial ≡ iteration_start h e.serial) (media : media_length (up_to h diary) e.serial ≡ media_length h e.serial) (children : ChildrenEndSame h (up_to h diary) J K e) where
  container_same : has_implicit_duration e ≡ true → container_implicit (up_to h diary) K e ≡ container_implicit h J e
  container_same t =
      ap (λ b. cond b (lasts (iteration_start (up_to h diary) e.serial) (map (child_end (up_to h diary) K e) (filter (is_time_child h.nodes e.serial) h.nodes))) Unresolved) active
      ∙ ap (λ start. cond (is_active h.diary e.serial) (lasts start (map (child_end (up_to h diary) K e) (filter (is_time_child h.nodes e.serial) h.nodes))) Unresolved) iteration_starts
      ∙ ap (λ cs. cond (is_active h.diary e.serial) (lasts (iteration_start h e.serial) cs) Unresolved)
      (children_same h (up_to h diary) J K e (is_time_child h.nodes e.serial) h.nodes (λ s q. children s t q))
    where
      lasts : ℤ → List ChildEnd → Time
      lasts = container_duration e.kind (endsync_of e.attrs)

  implicit_same : has_implicit_duration e ≡ true → (k : Kind) → implicit_of (up_to h diary) K e k ≡ implicit_of h J e k
  implicit_same t kind.Par = container_same t
  implicit_same t kind.Seq = container_same t
  implicit_same t kind.Excl = container_same t
  implicit_same t kind.Img = refl
  implicit_same t kind.Text = refl
  implicit_same t kind.Brush = refl
  implicit_same t kind.Set = refl
  implicit_same t _ = media

  pub simple_same : simple_of (up_to h diary) K e ≡ simple_of h J e
  simple_same = step (has_implicit_duration e) (λ t. implicit_same t e.kind)
    where
      step : (t : Bool) → (t ≡ true → implicit_duration (up_to h diary) K e ≡ implicit_duration h J e) → cond t (implicit_duration (up_to h diary) K e) (stated_duration e.attrs.dur) ≡ cond t (implicit_duration h J e) (stated_duration e.attrs.dur)
      step true f = f refl
      step false f = refl
