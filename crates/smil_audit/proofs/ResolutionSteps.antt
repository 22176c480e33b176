-- How a resolution goes on: by what comes, by what is logged, by time, or not at all.
use Rattle.std.proofs.Common.{◌≡◌, refl, ◌∙◌, ap, subst, ℕ, suc, ◌+◌, [], ◌∷◌, ◌++◌, Option, Some, None, Bool, true, false, arith}
use Rattle.std.specs.Prelude.{cond, pos, int_le, nat_lt, reverse, slice_get}
use Rattle.smil_model.specs.declared.diary.LogEntry.{LogEntry}
use Rattle.smil_model.specs.declared.diary.Step.TheVariants.{Logged}
use Rattle.smil_model.specs.happening.Keys.{DueChange, coming, first_coming, is_due}
use Rattle.smil_model.specs.happening.Groups.{group}
use Rattle.smil_model.specs.happening.Resolution.{Course, Progress, Reaches, outset, history_at, next_step, after_quiet, after_settling, after_coming, after_steps}
use Rattle.smil_laws.specs.Locality.{ParentsBefore}
use Rattle.smil_laws.specs.Quiet.{IsQuietFor, QuietMayBeJumped, later_by}
use Rattle.smil_laws.proofs.CourseCut.{one_more}
use Rattle.smil_laws.proofs.ResolutionEnds.{then}

module _ (c : Course) (p : Progress) where
  abbrev first : Option DueChange
  first = first_coming (coming (history_at c p) (pos p.moment))

  abbrev pub with_group : DueChange → Progress
  with_group next = record {
    moment = p.moment;
    heard = p.heard;
    diary = p.diary ++ group (history_at c p) (pos p.moment) next.key.serial next.change;
  }

  abbrev pub with_heard : Progress
  with_heard = record {
    moment = p.moment;
    heard = suc p.heard;
    diary = p.diary ++ record { moment = pos p.moment; step = Logged p.heard } ∷ [];
  }

  -- nothing that comes is due
  abbrev pub NothingDue : Type 0
  NothingDue = (x : DueChange) → first ≡ Some x → is_due (pos p.moment) x.key ≡ false

  pub group_step : (next : DueChange) → first ≡ Some next → is_due (pos p.moment) next.key ≡ true → next_step c p ≡ Some (with_group next)
  group_step next is due = ap (after_coming c p) is ∙ by_test (is_due (pos p.moment) next.key) due
    where
      by_test : (t : Bool) → t ≡ true → cond t (Some (with_group next)) (after_settling c p (slice_get c.log p.heard)) ≡ Some (with_group next)
      by_test true e = refl
      by_test false e = cc

  -- where nothing is due, the log goes on
  settles : (o : Option DueChange) → ((x : DueChange) → o ≡ Some x → is_due (pos p.moment) x.key ≡ false) → after_coming c p o ≡ after_settling c p (slice_get c.log p.heard)
  settles None none = refl
  settles (Some x) none = by_test (is_due (pos p.moment) x.key) (none x refl)
    where
      by_test : (t : Bool) → t ≡ false → cond t (Some (with_group x)) (after_settling c p (slice_get c.log p.heard)) ≡ after_settling c p (slice_get c.log p.heard)
      by_test true e = cc
      by_test false e = refl

  pub heard_step : (entry : LogEntry) → NothingDue → slice_get c.log p.heard ≡ Some entry → int_le entry.moment (pos p.moment) ≡ true → next_step c p ≡ Some with_heard
  heard_step entry none there now = settles first none ∙ ap (after_settling c p) there ∙ by_test (int_le entry.moment (pos p.moment)) now
    where
      by_test : (t : Bool) → t ≡ true → cond t (Some with_heard) (after_quiet c p) ≡ Some with_heard
      by_test true e = refl
      by_test false e = cc

  pub ended_step : NothingDue → ((entry : LogEntry) → slice_get c.log p.heard ≡ Some entry → int_le entry.moment (pos p.moment) ≡ false) → p.moment ≡ c.last → next_step c p ≡ None
  ended_step none unheard last = settles first none ∙ by_entry (slice_get c.log p.heard) unheard
    where
      over : after_quiet c p ≡ None
      over = by_test (nat_lt p.moment c.last) (subst (λ (n : ℕ). nat_lt p.moment n ≡ false) last (below p.moment))
        where
          below : (n : ℕ) → nat_lt n n ≡ false
          below n = grind arith

          by_test : (t : Bool) → t ≡ false → cond {A = Option Progress} t (Some (record { moment = suc p.moment; heard = p.heard; diary = p.diary })) None ≡ None
          by_test true e = cc
          by_test false e = refl

      by_entry : (o : Option LogEntry) → ((entry : LogEntry) → o ≡ Some entry → int_le entry.moment (pos p.moment) ≡ false) → after_settling c p o ≡ None
      by_entry None late = over
      by_entry (Some entry) late = by_test (int_le entry.moment (pos p.moment)) (late entry refl)
        where
          by_test : (t : Bool) → t ≡ false → cond t (Some with_heard) (after_quiet c p) ≡ None
          by_test true e = cc
          by_test false e = over

  module _ (reached : Reaches c p) where
    pub reached_next : (q : Progress) → next_step c p ≡ Some q → Reaches c q
    reached_next q e = (suc reached.0, one_more c reached.0 outset p q reached.1 e)

    pub reached_later : QuietMayBeJumped → (n : ℕ) → ParentsBefore (reverse c.nodes) → IsQuietFor c p n → Reaches c (later_by n p)
    reached_later jump n parents quiet = (reached.0 + n, then c reached.0 n outset ∙ ap (after_steps c n) reached.1 ∙ jump c p n parents quiet)
