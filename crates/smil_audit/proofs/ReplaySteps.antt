-- A resolution made anew goes on by a step whose entries agree with a diary, or by time, or differs.
use Rattle.std.proofs.Common.{◌≡◌, refl, sym, ◌∙◌, ap, subst, ℕ, ◌+◌, ◌<◌, ◌≤◌, List, ◌++◌, Some, None, arith, length, take, length-append}
use Rattle.std.specs.Prelude.{pos, ℤ, ◌≤ℤ◌, ◌<ℤ◌, reverse, Option}
use Rattle.std.proofs.lemmas.Int.{ints}
use Rattle.smil_model.specs.declared.diary.LogEntry.{LogEntry}
use Rattle.smil_model.specs.happening.Keys.{DueChange}
use Rattle.std.proofs.lemmas.List.{length-take}
use Rattle.smil_model.specs.declared.diary.Entry.{Entry}
use Rattle.smil_model.specs.diary.Clocks.{until}
use Rattle.smil_model.specs.happening.Resolution.{Course, Progress, Reaches, next_step}
use Rattle.smil_model.proofs.NumberOrders.{is_le}
use Rattle.smil_laws.specs.Locality.{ParentsBefore}
use Rattle.smil_laws.specs.Quiet.{QuietMayBeJumped}
use Rattle.smil_audit.specs.Entries.{agreed}
use Rattle.smil_audit.specs.Replayed.{DiffersAt, EndsAt, Follows, IsQuietUntil, IsUntil, Replayed, at_moment, course_of, first_at, next_logged, with_progress}
use Rattle.smil_audit.proofs.ResolutionSteps.{reached_later, reached_next}

-- the progress with the entries of a step
abbrev pub with_step : Replayed → ℕ → List Entry → Progress
with_step r heard group = record { moment = r.at.moment; heard = heard; diary = r.at.diary ++ group }

module _ (r : Replayed) (heard : ℕ) (group given : List Entry) (reached : Reaches (course_of r) r.at) (step : next_step (course_of r) r.at ≡ Some (with_step r heard group)) where
  pub reached_step : Reaches (course_of r) (with_step r heard group)
  reached_step = reached_next (course_of r) r.at reached (with_step r heard group) step

  -- one entry of it differs
  pub differs : (index : ℕ) → agreed given (r.at.diary ++ group) ≡ index → index < length r.at.diary + length group → DiffersAt r given index
  differs index is less =
      let len = length-append r.at.diary group in
      record { at = with_step r heard group; reached = reached_step; index_is = is; within = omega (arith, len, less) }

  -- all of them agree
  pub follows_step : take (length r.at.diary + length group) given ≡ r.at.diary ++ group → Follows (with_progress r (with_step r heard group)) given
  follows_step all = ap (λ (n : ℕ). take n given) (length-append r.at.diary group) ∙ all

  pub within_given : take (length r.at.diary + length group) given ≡ r.at.diary ++ group → length (r.at.diary ++ group) ≤ length given
  within_given all =
      let len = length-append r.at.diary group in
      let cut = length-take (length r.at.diary + length group) given in
      let same = ap (λ (xs : List Entry). length xs) all in
      omega (arith, len, cut, same)

-- time passes quietly
pub later : QuietMayBeJumped → (r : Replayed) (n : ℕ) → ParentsBefore (reverse r.document.nodes) → until (pos r.at.moment) r.at.diary ≡ r.at.diary
    → Reaches (course_of r) r.at → IsQuietUntil r (pos (r.at.moment + n)) → r.at.moment + n ≤ r.last
    → Reaches (course_of r) (at_moment r (r.at.moment + n)).at
later jump r n parents past reached quiet within =
    reached_later (course_of r) r.at reached jump n parents
    (record {
      past = past;
      coming = λ next e. is_le (pos (r.at.moment + n)) next.key.value (quiet.coming next e);
      log = λ entry e. is_le (pos (r.at.moment + n)) entry.moment (quiet.log entry e);
      last = within;
    })

-- what is told later holds of the resolution as it was
pub differs_before : (old new : Replayed) (given : List Entry) (index : ℕ) → new ≡ with_progress old new.at → DiffersAt new given index → DiffersAt old given index
differs_before old new given index same d = record {
  at = d.at;
  reached = subst (λ (c : Course). Reaches c d.at) (ap course_of same) d.reached;
  index_is = d.index_is;
  within = d.within;
}

pub ends_before : (old new : Replayed) (given : List Entry) → new ≡ with_progress old new.at → Reaches (course_of new) new.at → Follows new given → next_step (course_of new) new.at ≡ None
    → EndsAt old given (length new.at.diary)
ends_before old new given same reached follows over = record {
  at = new.at;
  reached = subst (λ (c : Course). Reaches c new.at) (ap course_of same) reached;
  ended = subst (λ (c : Course). next_step c new.at ≡ None) (ap course_of same) over;
  same_is = refl;
  follows = follows;
}

-- ---- quiet moments

module _ (r : Replayed) (until : ℤ) (is : IsUntil r until) where
  -- nothing is logged before a moment up to which nothing is logged
  unlogged : (v : ℤ) → v ≤ℤ until → pos r.at.moment <ℤ v → (entry : LogEntry) → next_logged r ≡ Some entry → v ≤ℤ entry.moment
  unlogged v le less entry e =
      let later : pos r.at.moment <ℤ until = grind (arith, ints) in
      let from = is.quiet entry e later in
      grind (arith, ints)

  -- nor does anything come before what comes first
  pub quiet_first : (next : DueChange) → first_at r ≡ Some next → next.key.value ≤ℤ until → pos r.at.moment <ℤ next.key.value → IsQuietUntil r next.key.value
  quiet_first next first le less = record {
    coming = λ x e. subst (λ (o : Option DueChange). (y : DueChange) → o ≡ Some y → next.key.value ≤ℤ y.key.value) (sym first) own x e;
    log = unlogged next.key.value le less;
  }
    where
      own : (y : DueChange) → Some next ≡ Some y → next.key.value ≤ℤ y.key.value
      own y e = let one : next ≡ y = cc in subst (λ (z : DueChange). next.key.value ≤ℤ z.key.value) one (grind (arith, ints))

  -- nor before that moment, where all that comes comes later
  pub quiet_until : ((x : DueChange) → first_at r ≡ Some x → until ≤ℤ x.key.value) → pos r.at.moment <ℤ until → IsQuietUntil r until
  quiet_until late less = record { coming = late; log = unlogged until (grind (arith, ints)) less }
