-- Entries leave each element on which, and on what is above which, they do not act with its ends.
use Rattle.std.proofs.Common.{◌≡◌, refl, sym, ◌∙◌, ap, ℕ, ℤ, List, [], ◌∷◌, ◌++◌, Option, Some, None, Bool, true, false, append_assoc, inl, inr}
use Rattle.std.specs.Prelude.{◌&&◌, ◌==◌, ◌⊎◌, cond, fold, if◌then◌else◌, is_some, not, option_map, reverse}
use Rattle.std.specs.List.{last_or, list_any}
use Rattle.std.specs.Option.{option_or}
use Rattle.std.specs.Ordering.{int_eq}
use Rattle.std.proofs.lemmas.Bool.{or_parts}
use Rattle.std.proofs.lemmas.Bool.Decides.{Decides-int_eq}
use Rattle.std.proofs.lemmas.List.{append-nil}
use Rattle.std.proofs.lemmas.List.Sums.{fold_push}
use Rattle.smil_model.specs.declared.times.Time.{Time}
use Rattle.smil_model.specs.declared.times.Time.TheVariants.{At, Indefinite, Unresolved}
use Rattle.smil_model.specs.declared.diary.Entry.{Entry}
use Rattle.smil_model.specs.declared.interval.ChildEnd.{ChildEnd}
use Rattle.smil_model.specs.declared.interval.Interval.{Interval}
use Rattle.smil_model.specs.declared.diary.Step.{Step}
use Rattle.smil_model.specs.declared.diary.Step.TheVariants.{Began, Repeated, Ended, Cut}
use Rattle.smil_model.specs.declared.document.Node.{Node}
use Rattle.smil_model.specs.document.Document.{elements, is_element, is_within, lineage, node_at, time_parent}
use Rattle.smil_model.specs.diary.Clocks.{outer}
use Rattle.smil_model.specs.diary.Diary.{History, gives_birth, is_deferred, up_to}
use Rattle.smil_model.specs.diary.Plays.{FinishedInterval, PlayEdge, Plays, finish_with, first_of, is_birth_under, play_after, plays}
use Rattle.smil_model.specs.interval.Current.{child_end, finish_time, is_named_child}
use Rattle.smil_concern_laws.specs.Unconcerned.{SameDone, SameEnds}
use Rattle.smil_concern_laws.proofs.Lineages.{own_parent_apart}
use Rattle.smil_concern_laws.proofs.ReadingsStay.{around_itself}
use Rattle.smil_laws.specs.Locality.{ParentsBefore}
use Rattle.smil_laws.proofs.ForeignEntries.{Apart, deferral-then, fold_same, is_about, plays-then}
use Rattle.smil_laws.proofs.ReachClosed.{any_kept, any_reverse, chain_begins, from_serials, no_element_above, own_is_all}
use Rattle.smil_laws.proofs.UnreachedIntervals.{about_no_one, about_none, absent, found_here, fresh, outside_all}
use Rattle.smil_cells.specs.Evaluated.{acts_on, ends_at, is_at, may_end}

-- what a container takes of a time child
abbrev end_from : Node → Node → Option Interval → Plays → Bool → ChildEnd
end_from e c interval done deferred = record {
  named = is_named_child e.attrs.endsync c;
  first = option_or (option_map finish_time (first_of done.finished)) (option_map (λ (i : Interval). i.«end») interval);
  latest =
      option_or (option_map (λ (i : Interval). i.«end») interval)
      (if deferred then Some Unresolved else option_map finish_time (last_or None done.finished));
}

pub same_end : (h k : History) (given : ℕ → Option Interval) (e c : Node) → SameDone h k c.serial → child_end k given e c ≡ child_end h given e c
same_end h k given e c same = λ i. end_from e c (given c.serial) (same.plays_are i) (same.deferred i)

-- by another interval, where that is the same
pub end_by_interval : (h : History) (before after : ℕ → Option Interval) (e c : Node) → after c.serial ≡ before c.serial → child_end h after e c ≡ child_end h before e c
end_by_interval h before after e c same = ap (λ o. end_from e c o (plays h c.serial) (is_deferred h c.serial)) same

-- ---- acting

-- an element is within one that is acted on
abbrev pub is_acted_on : List Node → Option ℕ → ℕ → Bool
is_acted_on nodes None s = false
is_acted_on nodes (Some x) s = is_some (node_at (elements nodes) x) && is_within nodes x s

abbrev pub is_acted_by : List Node → List Entry → ℕ → Bool
is_acted_by nodes ys s = list_any (λ (y : Entry). is_acted_on nodes (acts_on y.step) s) ys

-- an entry acts on nothing that an element is within, or on it without changing its ends
abbrev pub EndsNothing : List Node → (ℕ → Option Interval) → ℕ → Entry → Type 0
EndsNothing nodes before s y = (is_acted_on nodes (acts_on y.step) s ≡ false) ⊎ ((acts_on y.step ≡ Some s) × (may_end before y.step s ≡ false))

abbrev pub NoneEnds : List Node → (ℕ → Option Interval) → ℕ → List Entry → Type 0
NoneEnds nodes before s [] = Unit {0}
NoneEnds nodes before s (y ∷ ys) = EndsNothing nodes before s y × NoneEnds nodes before s ys

-- the first end of an element: that of the first interval that finished, or else of this one
abbrev first_by : Interval → List FinishedInterval → Option Time
first_by i done = option_or (option_map finish_time (first_of done)) (Some i.«end»)

-- a finish at the end of the interval changes nothing of that
first_pushed : (i : Interval) (done : List FinishedInterval) (f : FinishedInterval) → i.«end» ≡ finish_time f → first_by i (done ++ f ∷ []) ≡ first_by i done
first_pushed i [] f same = ap Some (sym same)
first_pushed i (d ∷ ds) f same = refl

ends_so : (value : ℤ) (time : Time) → not (is_at value time) ≡ false → time ≡ At value
ends_so value (At time) q = by (int_eq time value) refl q
  where
    by : (t : Bool) → int_eq time value ≡ t → not t ≡ false → At time ≡ At value
    by true same r = ap At ((Decides-int_eq time value).0 same)
    by false same r = cc
ends_so value Indefinite q = cc
ends_so value Unresolved q = cc

-- ---- one entry

-- what has happened to an element is read of no log
without_log : (h : History) (y : Entry) (s : ℕ) → (let bare : History = record { nodes = h.nodes; log = []; diary = h.diary } in SameDone bare (up_to bare (h.diary ++ y ∷ [])) s) → SameDone h (up_to h (h.diary ++ y ∷ [])) s
without_log h y s same = record { plays_are = same.plays_are; deferred = same.deferred }

module _ (c : Node) where
  apart_done : (h : History) (first : ParentsBefore (reverse h.nodes)) (y : Entry) (x : ℕ) (only : (s : ℕ) → s == x ≡ false → is_about h.log s y.step ≡ false) → Apart h.nodes x c.serial → SameDone h (up_to h (h.diary ++ y ∷ [])) c.serial
  apart_done h first y x only apart = record {
    plays_are = plays-then h first y x only c.serial apart;
    deferred = ap is_some (deferral-then h first y x only c.serial apart);
  }

  apart_within : (nodes : List Node) (x : ℕ) → node_at (elements nodes) c.serial ≡ Some c → is_within nodes x c.serial ≡ false → Apart nodes x c.serial
  apart_within nodes x here free = record {
    self = chain_begins (reverse nodes) c.serial x (any_reverse (λ (n : Node). n.serial == c.serial) nodes (any_kept is_element (λ (n : Node). n.serial == c.serial) (λ (n : Node). n.serial == c.serial) nodes (λ n p q. q) (from_serials c.serial (elements nodes) (own_is_all nodes x c here)))) free;
    above = no_element_above x (lineage nodes c.serial) free;
  }

  one_done : (h : History) → ParentsBefore (reverse h.nodes) → (y : Entry) → node_at (elements h.nodes) c.serial ≡ Some c → (o : Option ℕ) → acts_on y.step ≡ o → is_acted_on h.nodes o c.serial ≡ false → SameDone h (up_to h (h.diary ++ y ∷ [])) c.serial
  one_done h first y here None on free =
      let bare : History = record { nodes = h.nodes; log = []; diary = h.diary } in
      without_log h y c.serial
      (apart_done bare first y (fresh bare first y) (λ s d. about_no_one [] y.step s on)
      (outside_all h.nodes (fresh bare first y) (absent bare first y) c here).apart)
  one_done h first y here (Some x) on free = by_found (is_some (node_at (elements h.nodes) x)) refl free
    where
      bare : History
      bare = record { nodes = h.nodes; log = []; diary = h.diary }

      only : (s : ℕ) → s == x ≡ false → is_about [] s y.step ≡ false
      only s d = about_none [] y.step x s on d

      by_found : (b : Bool) → is_some (node_at (elements h.nodes) x) ≡ b → (b && is_within h.nodes x c.serial) ≡ false → SameDone h (up_to h (h.diary ++ y ∷ [])) c.serial
      by_found true q r = without_log h y c.serial (apart_done (record { nodes = h.nodes; log = []; diary = h.diary }) first y x only (apart_within h.nodes x here r))
      by_found false q r = without_log h y c.serial (apart_done (record { nodes = h.nodes; log = []; diary = h.diary }) first y x only (outside_all h.nodes x (found_here x (elements h.nodes) q) c here).apart)

  -- ---- entries one by one

  pub all_done : (h : History) (ys : List Entry) → ParentsBefore (reverse h.nodes) → node_at (elements h.nodes) c.serial ≡ Some c → is_acted_by h.nodes ys c.serial ≡ false → SameDone h (up_to h (h.diary ++ ys)) c.serial
  all_done h [] first here free = record {
    plays_are = ap (λ d. plays (up_to h d) c.serial) (append-nil h.diary);
    deferred = ap (λ d. is_deferred (up_to h d) c.serial) (append-nil h.diary);
  }
  all_done h (y ∷ ys) first here free =
      let parts = or_parts _ _ free in
      let now_same = one_done h first y here (acts_on y.step) refl parts.0 in
      let later_same = all_done (up_to h (h.diary ++ y ∷ [])) ys first here parts.1 in
      record {
        plays_are =
            ap (λ d. plays (up_to h d) c.serial) (sym (append_assoc h.diary (y ∷ []) ys))
            ∙ later_same.plays_are ∙ now_same.plays_are;
        deferred =
            ap (λ d. is_deferred (up_to h d) c.serial) (sym (append_assoc h.diary (y ∷ []) ys))
            ∙ later_same.deferred ∙ now_same.deferred;
      }

  -- ---- where its ends stay

  module _ (before : ℕ → Option Interval) (i : Interval) (some : before c.serial ≡ Some i) where
    -- an entry on the element itself
    own_first : (h : History) (first : ParentsBefore (reverse h.nodes)) (y : Entry) → acts_on y.step ≡ Some c.serial → may_end before y.step c.serial ≡ false → first_by i (plays (up_to h (h.diary ++ y ∷ [])) c.serial).finished ≡ first_by i (plays h c.serial).finished
    own_first h first y on still =
        ap (λ (p : Plays). first_by i p.finished) (fold_push (follow (up_to h (h.diary ++ y ∷ []))) none h.diary y)
        ∙ last_one (fold (follow (up_to h (h.diary ++ y ∷ []))) none h.diary)
        ∙ ap (λ (p : Plays). first_by i p.finished) (fold_same (follow (up_to h (h.diary ++ y ∷ []))) (follow h) none h.diary (λ b z. ap (λ r. cond (is_birth_under (time_parent h.nodes c.serial) z.step) (record { present = b.present; finished = [] }) r) (each z.moment b z.step)))
      where
        none : Plays
        none = record { present = None; finished = [] }

        follow : History → Plays → Entry → Plays
        follow k = λ so_far z. cond (is_birth_under (time_parent h.nodes c.serial) z.step) (record { present = so_far.present; finished = [] }) (play_after k c.serial z.moment so_far z.step)

        only : (s : ℕ) → s == c.serial ≡ false → is_about [] s y.step ≡ false
        only s d = about_none [] y.step c.serial s on d

        outer_is : (m : ℤ) → outer (up_to h (h.diary ++ y ∷ [])) c.serial m ≡ outer h c.serial m
        outer_is m = (around_itself (record { nodes = h.nodes; log = []; diary = h.diary }) first y c.serial only).outer_same m

        each : (m : ℤ) (b : Plays) (step : Step) → play_after (up_to h (h.diary ++ y ∷ [])) c.serial m b step ≡ play_after h c.serial m b step
        each m b (Cut who) = rw (outer_is m)
        each m b _ = refl

        unborn : is_birth_under (time_parent h.nodes c.serial) y.step ≡ false
        unborn = under (time_parent h.nodes c.serial) (λ p. own_parent_apart h.nodes first c.serial p)
          where
            under : (o : Option Node) → ((p : Node) → o ≡ Some p → Apart h.nodes c.serial p.serial) → is_birth_under o y.step ≡ false
            under None far = refl
            under (Some p) far = reset_other p.serial y.step (only p.serial ((far p refl).self))
              where
                reset_other : (s : ℕ) (step : Step) → is_about [] s step ≡ false → gives_birth s step ≡ false
                reset_other s (Began who begin) q = q
                reset_other s (Repeated who start) q = q
                reset_other s _ q = refl

        kept : (t : Bool) (a b : Plays) → first_by i a.finished ≡ first_by i b.finished → first_by i (cond t a b).finished ≡ first_by i b.finished
        kept true a b q = q
        kept false a b q = refl

        finished_so : (m value : ℤ) (b : Plays) (o : Option PlayEdge) → i.«end» ≡ At value → first_by i (finish_with o (record { value = value; moment = m }) false b.finished) ≡ first_by i b.finished
        finished_so m value b None same = refl
        finished_so m value b (Some begin) same = first_pushed i b.finished (record { begin = begin; finish = record { value = value; moment = m }; was_cut = false }) same

        by_step : (m : ℤ) (b : Plays) (step : Step) → may_end before step c.serial ≡ false → first_by i (play_after (up_to h (h.diary ++ y ∷ [])) c.serial m b step).finished ≡ first_by i b.finished
        by_step m b (Began who begin) q = kept (who == c.serial) (record { present = Some (record { value = begin; moment = m }); finished = b.finished }) b refl
        by_step m b (Ended who end') q =
            kept (who == c.serial) (record { present = None; finished = finish_with b.present (record { value = end'; moment = m }) false b.finished }) b
            (finished_so m end' b b.present (ends_so end' i.«end» (ap (λ o. not (ends_at end' o)) (sym some) ∙ q)))
        by_step m b (Cut who) q = cc
        by_step m b _ q = refl

        last_one : (b : Plays) → first_by i (follow (up_to h (h.diary ++ y ∷ [])) b y).finished ≡ first_by i b.finished
        last_one b =
            ap (λ t. first_by i (cond t (record { present = b.present; finished = [] }) (play_after (up_to h (h.diary ++ y ∷ [])) c.serial y.moment b y.step)).finished) unborn
            ∙ by_step y.moment b y.step still

    all_first : (h : History) (ys : List Entry) → ParentsBefore (reverse h.nodes) → node_at (elements h.nodes) c.serial ≡ Some c → NoneEnds h.nodes before c.serial ys → first_by i (plays (up_to h (h.diary ++ ys)) c.serial).finished ≡ first_by i (plays h c.serial).finished
    all_first h [] first here none = ap (λ d. first_by i (plays (up_to h d) c.serial).finished) (append-nil h.diary)
    all_first h (y ∷ ys) first here none =
        ap (λ d. first_by i (plays (up_to h d) c.serial).finished) (sym (append_assoc h.diary (y ∷ []) ys))
        ∙ all_first (up_to h (h.diary ++ y ∷ [])) ys first here none.1
        ∙ one none.0
      where
        one : EndsNothing h.nodes before c.serial y → first_by i (plays (up_to h (h.diary ++ y ∷ [])) c.serial).finished ≡ first_by i (plays h c.serial).finished
        one (inl free) = ap (λ (p : Plays). first_by i p.finished) (one_done h first y here (acts_on y.step) refl free).plays_are
        one (inr own) = own_first h first y own.0 own.1

    -- its ends by an interval that it has stay
    pub ends_by_interval : (h : History) (ys : List Entry) → ParentsBefore (reverse h.nodes) → node_at (elements h.nodes) c.serial ≡ Some c → NoneEnds h.nodes before c.serial ys → SameEnds h (up_to h (h.diary ++ ys)) (Some i) (Some i) c.serial
    ends_by_interval h ys first here none = record {
      first = all_first h ys first here none;
      latest = refl;
    }
