-- The ends of time children, and implicit durations.
use Rattle.std.proofs.Common.{◌≡◌, refl, sym, ◌∙◌, ap, ℕ, ℤ, suc, List, [], ◌∷◌, length, ◌-◌, Bool, true, false, arith}
use Rattle.std.specs.Prelude.{Option, None, Some, if◌then◌else◌, not, ◌||◌, map, option_map, slice_get}
use Rattle.std.specs.Option.{option_or}
use Rattle.std.specs.List.{last_or}
use Rattle.smil_model.specs.declared.times.Time.{Time}
use Rattle.smil_model.specs.declared.times.Time.TheVariants.{At, Unresolved}
use Rattle.smil_model.specs.declared.interval.Interval.{Interval}
use Rattle.smil_model.specs.declared.interval.ChildEnd.{ChildEnd}
use Rattle.smil_model.specs.declared.document.Node.{Node}
use Rattle.smil_model.specs.declared.document.Endsync.{Endsync}
use Rattle.smil_model.specs.declared.document.Kind.{Kind}
use Rattle.smil_model.specs.declared.document.Kind.TheVariants.{Par, Seq, Excl, PriorityClass, Audio, Video, Animation, TextStream, Ref}
use Rattle.smil_model.specs.document.Document.{is_class_kind, is_container_kind, is_continuous, time_children}
use Rattle.smil_model.specs.document.Defaults.{endsync_of}
use Rattle.smil_model.specs.diary.Diary.{History, is_active, is_deferred}
use Rattle.smil_model.specs.diary.Clocks.{iteration_start}
use Rattle.smil_model.specs.diary.Plays.{FinishedInterval, first_of, plays}
use Rattle.smil_model.specs.interval.Current.{child_end, container_implicit, finish_time, implicit_of, is_named_child, media_length}
use Rattle.smil_model.specs.interval.Durations.{container_duration}
use Rattle.smil_past.specs.declared.plays.facts.PastInterval.{PastInterval}
use Rattle.smil_past.specs.declared.plays.facts.PlayFacts.{PlayFacts}
use Rattle.smil_past.specs.Played.{past_interval, played}
use Rattle.smil_element.specs.declared.endings.Ending.{Ending}
use Rattle.smil_instance_rows.specs.Places.{last_alone}
use Rattle.smil_element.specs.Endings.{ending_by}

abbrev pub finish_in : Option PastInterval → Option Time
finish_in past = option_map (λ (f : PastInterval). At f.finish) past

abbrev pub unless_deferred : Bool → Option Time → Option Time
unless_deferred deferred last = if deferred then Some Unresolved else last

module _ (h : History) (child : ℕ) (kept : PlayFacts) (kept_is : kept ≡ played h child) where
  finishes : (o : Option FinishedInterval) → finish_in (option_map (past_interval h child) o) ≡ option_map finish_time o
  finishes None = refl
  finishes (Some f) = refl

  pub ending_told : (interval : Option Interval) (coming first latest : Option Time) (deferred : Bool) → coming ≡ option_map (λ (i : Interval). i.«end») interval → deferred ≡ is_deferred h child → first ≡ option_or (finish_in kept.first_finished) coming → latest ≡ option_or coming (unless_deferred deferred (finish_in kept.last_finished)) → record { first = first; latest = latest } ≡ ending_by h interval child
  ending_told interval coming first latest deferred coming_is deferred_is first_is latest_is =
      λ i. record {
        first =
            (first_is
            ∙ (λ j. option_or (finish_in (kept_is j).first_finished) (coming_is j))
            ∙ ap (λ o. option_or o (option_map (λ (x : Interval). x.«end») interval)) (finishes (first_of (plays h child).finished))) i;
        latest =
            (latest_is
            ∙ (λ j. option_or (coming_is j) (unless_deferred (deferred_is j) (finish_in (kept_is j).last_finished)))
            ∙ ap (λ o. option_or (option_map (λ (x : Interval). x.«end») interval) (unless_deferred (is_deferred h child) o)) (finishes (last_or None (plays h child).finished))) i;
      }

-- what a container takes of a time child is its ending, and whether it is named
pub child_told : (h : History) (intervals : ℕ → Option Interval) (e n : Node) (child : ℕ) (named : Bool) (ending : Ending) → n.serial ≡ child → named ≡ is_named_child e.attrs.endsync n → ending ≡ ending_by h (intervals child) child → record { named = named; first = ending.first; latest = ending.latest } ≡ child_end h intervals e n
child_told h intervals e n child named ending serial named_is ending_is =
    (λ i. record { named = named_is i; first = (ending_is i).first; latest = (ending_is i).latest })
    ∙ ap (λ s. record { named = is_named_child e.attrs.endsync n; first = (ending_by h (intervals s) s).first; latest = (ending_by h (intervals s) s).latest }) (sym serial)

-- ---- implicit durations

module _ (h : History) (intervals : ℕ → Option Interval) (e : Node) where
  abbrev container_by : Bool → Time
  container_by active =
      if active
      then container_duration e.kind (endsync_of e.attrs) (iteration_start h e.serial) (map (child_end h intervals e) (time_children h.nodes e.serial))
      else Unresolved

  pub idle_container : is_active h.diary e.serial ≡ false → Unresolved ≡ container_implicit h intervals e
  idle_container idle = ap container_by (sym idle)

  pub active_container : is_active h.diary e.serial ≡ true → container_duration e.kind (endsync_of e.attrs) (iteration_start h e.serial) (map (child_end h intervals e) (time_children h.nodes e.serial)) ≡ container_implicit h intervals e
  active_container active = ap container_by (sym active)

  -- what is no container and has no length by its kind has that of its media
  pub media_told : (kind : Kind) → is_container_kind kind ≡ false → false ≡ not (is_container_kind kind || is_continuous kind || is_class_kind kind) → media_length h e.serial ≡ implicit_of h intervals e kind
  media_told Par container known = absurd (cc)
  media_told Seq container known = absurd (cc)
  media_told Excl container known = absurd (cc)
  media_told PriorityClass container known = refl
  media_told Audio container known = refl
  media_told Video container known = refl
  media_told Animation container known = refl
  media_told TextStream container known = refl
  media_told Ref container known = refl
  media_told _ container known = absurd (cc)

-- a container's implicit duration is what its time children tell
pub container_told : (h : History) (intervals : ℕ → Option Interval) (e : Node) (kind : Kind) → kind ≡ e.kind → is_container_kind kind ≡ true → container_implicit h intervals e ≡ implicit_of h intervals e e.kind
container_told h intervals e kind same container = by kind container ∙ ap (implicit_of h intervals e) same
  where
    by : (k : Kind) → is_container_kind k ≡ true → container_implicit h intervals e ≡ implicit_of h intervals e k
    by Par q = refl
    by Seq q = refl
    by Excl q = refl
    by _ q = absurd (cc)

-- ---- the last time child of a seq decides

pub last_decides : {A : Type 0} (f : A → ChildEnd) (endsync : Endsync) (start : ℤ) (xs : List A) → container_duration Seq endsync start (map f (last_alone xs)) ≡ container_duration Seq endsync start (map f xs)
last_decides f endsync start [] = refl
last_decides f endsync start (x ∷ []) = refl
last_decides f endsync start (x ∷ y ∷ ys) = last_decides f endsync start (y ∷ ys)

pub alone_at : {A : Type 0} (xs : List A) (x : A) → slice_get xs (length xs - 1) ≡ Some x → last_alone xs ≡ x ∷ []
alone_at [] x at = cc
alone_at (y ∷ []) x at =
    let same : y ≡ x = cc in
    ap (λ z. z ∷ []) same
alone_at (y ∷ z ∷ zs) x at =
    let place : length (y ∷ z ∷ zs) - 1 ≡ suc (length (z ∷ zs) - 1) = omega arith in
    alone_at (z ∷ zs) x (ap (slice_get (y ∷ z ∷ zs)) (sym place) ∙ at)
