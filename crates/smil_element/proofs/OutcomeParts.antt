-- What an evaluation of an element gives, and what it gives of one that has no interval.
use Rattle.std.proofs.Common.{◌≡◌, refl, sym, ◌∙◌, ap, ℕ, ℤ, Bool, true, false, Option, Some, None}
use Rattle.std.specs.Prelude.{not, ◌&&◌, IfSome}
use Rattle.smil_model.specs.declared.times.Time.{Time}
use Rattle.smil_model.specs.declared.interval.Interval.{Interval}
use Rattle.smil_model.specs.declared.interval.Facts.{Facts}
use Rattle.smil_model.specs.declared.document.Node.{Node}
use Rattle.smil_model.specs.document.Document.{elements, node_at}
use Rattle.smil_model.specs.diary.Diary.{History, is_active, is_alive, is_deferred}
use Rattle.smil_model.specs.interval.Current.{facts_of, interval_given, present_play}
use Rattle.smil_model.specs.interval.Instances.{begin_times, end_times}
use Rattle.smil_model.specs.interval.Intervals.{interval_of}
use Rattle.smil_model.specs.happening.Keys.{coming_by}
use Rattle.smil_laws.specs.Near.{AllNear, IsIntervalNear}
use Rattle.smil_laws.proofs.NearIntervals.{interval_near}
use Rattle.smil_instances.proofs.SensitiveItems.{serial_is}
use Rattle.smil_element.specs.Element.{both}
use Rattle.smil_element.proofs.ComingKeys.{both_are, none_comes}
use Rattle.smil_element.proofs.FactsByParts.{play_idle}

pub second_out : (a b : Bool) → b ≡ true → (a && not b) ≡ false
second_out true true is = refl
second_out false true is = refl
second_out a false is = cc

pub first_out : (a b : Bool) → not a ≡ true → (a && not b) ≡ false
first_out false b is = refl
first_out true b is = cc

module _ (h : History) (now : ℤ) (who : ℕ) (e : Node) (here : node_at (elements h.nodes) who ≡ Some e) (idle : is_active h.diary who ≡ false) where
  same : e.serial ≡ who
  same = serial_is h.nodes who e here

  pub no_play : present_play h now e ≡ None
  no_play = sym (play_idle h who now e same false (sym idle) refl)

  pub nothing_comes : (place : ℕ) (simple : Time) (interval : Option Interval) → interval ≡ None → both None None ≡ coming_by h interval simple now place e
  nothing_comes place simple interval none =
      both_are h interval simple now place e false None None (sym idle ∙ ap (is_active h.diary) (sym same)) (none_comes h interval now place e none) refl

  -- none is what the search gives
  pub none_given : (intervals : ℕ → Option Interval) (found : Option Interval) → (is_alive h who && not (is_deferred h who)) ≡ false → ((facts : Facts) → facts.play ≡ None → (facts.alive && not facts.deferred) ≡ false → found ≡ interval_of facts (begin_times h intervals now e) (end_times h intervals now e)) → found ≡ interval_given h intervals now e
  none_given intervals found out told =
      told (facts_of h intervals now e) no_play (ap (λ k. is_alive h k && not (is_deferred h k)) same ∙ out)

-- the numbers of an interval that was evaluated are near
pub outcome_near : (h : History) (intervals : ℕ → Option Interval) (now : ℤ) (e : Node) → AllNear h.diary → (found : Option Interval) → found ≡ interval_given h intervals now e → IfSome found IsIntervalNear
outcome_near h intervals now e near found is = where_some found (λ i q. interval_near h intervals now e i near (sym is ∙ q))
  where
    where_some : (o : Option Interval) → ((i : Interval) → o ≡ Some i → IsIntervalNear i) → IfSome o IsIntervalNear
    where_some None f = tt
    where_some (Some i) f = f i refl
