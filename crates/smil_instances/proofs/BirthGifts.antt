-- What a birth gives to an offset, step by step.
use Rattle.std.proofs.Common.{◌≡◌, refl, ◌∙◌, ap, ℕ, ℤ, Option, Some, None, Bool, true}
use Rattle.std.specs.Prelude.{cond, pos, ◌+ℤ◌, ◌==◌}
use Rattle.std.proofs.lemmas.Bool.{eq-eqb}
use Rattle.smil_model.specs.declared.diary.Entry.{Entry}
use Rattle.smil_model.specs.declared.diary.Step.{Step}
use Rattle.smil_model.specs.declared.diary.Step.TheVariants.{Began, Repeated}
use Rattle.smil_model.specs.declared.document.Node.{Node}
use Rattle.smil_model.specs.Times.{within_horizon}
use Rattle.smil_model.specs.document.Document.{serial_of}
use Rattle.smil_model.specs.diary.Diary.{History, gives_birth}
use Rattle.smil_model.specs.diary.Clocks.{start_of, iteration_start_after}
use Rattle.smil_instance_rows.specs.declared.item_times.InstanceTime.{InstanceTime}
use Rattle.smil_instance_rows.specs.Rows.{instance_at}
use Rattle.smil_instances.specs.Contribution.{start_time}

module _ (h : History) (y : Entry) (offset : ℤ) (p : Node) where
  -- by the step, and the test whether it is on the parent
  by_began : (moment value : ℤ) (t : Bool) → t ≡ true → cond t (Some (instance_at 0 (within_horizon (cond t (start_of h p.serial moment value) (pos 0) +ℤ offset)))) None ≡ Some (instance_at 0 (within_horizon (start_of h p.serial moment value +ℤ offset)))
  by_began moment value t q = ap (λ u. cond u (Some (instance_at 0 (within_horizon (cond u (start_of h p.serial moment value) (pos 0) +ℤ offset)))) None) q

  by_repeated : (start : ℤ) (t : Bool) → t ≡ true → cond t (Some (instance_at 0 (within_horizon (cond t start (pos 0) +ℤ offset)))) None ≡ Some (instance_at 0 (within_horizon (start +ℤ offset)))
  by_repeated start t q = ap (λ u. cond u (Some (instance_at 0 (within_horizon (cond u start (pos 0) +ℤ offset)))) None) q

  by_step : Step → Option InstanceTime
  by_step step = cond (gives_birth p.serial step) (Some (instance_at 0 (within_horizon (iteration_start_after h p.serial y.moment (pos 0) step +ℤ offset)))) None

  pub began_starts : (on : ℕ) (value : ℤ) → y.step ≡ Began on value → on ≡ p.serial → start_time h y offset (Some p) ≡ Some (instance_at 0 (within_horizon (start_of h p.serial y.moment value +ℤ offset)))
  unfolding by_step
  began_starts on value q r = ap by_step q ∙ by_began y.moment value (on == p.serial) (eq-eqb on p.serial r)

  pub repeated_starts : (on : ℕ) (start : ℤ) → y.step ≡ Repeated on start → on ≡ p.serial → start_time h y offset (Some p) ≡ Some (instance_at 0 (within_horizon (start +ℤ offset)))
  unfolding by_step
  repeated_starts on start q r = ap by_step q ∙ by_repeated start (on == p.serial) (eq-eqb on p.serial r)

-- ---- by the time parent, if there is one

pub started_under : (h : History) (y : Entry) (offset : ℤ) (told : Option InstanceTime) (parent : ℕ) → ((x : Node) → x.serial ≡ parent → told ≡ start_time h y offset (Some x)) → (p : Option Node) → serial_of p ≡ Some parent → told ≡ start_time h y offset p
started_under h y offset told parent is None q = cc
started_under h y offset told parent is (Some x) q = let own : x.serial ≡ parent = cc in is x own

pub unstarted : (h : History) (y : Entry) (offset : ℤ) (p : Option Node) → serial_of p ≡ None → None ≡ start_time h y offset p
unstarted h y offset None q = refl
unstarted h y offset (Some x) q = cc
