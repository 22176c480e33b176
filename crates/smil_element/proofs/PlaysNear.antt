-- How large the shown values of plays are, where the numbers of the diary are near.
use Rattle.std.proofs.Common.{◌≡◌, subst, ℕ, ◌+◌, ◌≤◌, List, [], ◌∷◌, ◌++◌, ℤ, Bool, true, false, Option, Some, None, arith}
use Rattle.std.specs.Prelude.{cond, pos, negsuc, int_le, ◌≤ℤ◌, ◌&&◌, ◌==◌, fold, option_map, option_and_then}
use Rattle.std.specs.List.{AllByRecursion, last_or}
use Rattle.std.specs.Option.{ForSome}
use Rattle.std.proofs.lemmas.Bool.{and_parts}
use Rattle.std.proofs.lemmas.Int.{ints}
use Rattle.smil_model.specs.declared.times.TheConstants.{HORIZON}
use Rattle.smil_model.specs.declared.diary.Entry.{Entry}
use Rattle.smil_model.specs.declared.diary.Step.{Step}
use Rattle.smil_model.specs.declared.diary.Step.TheVariants.{Began, Repeated, Ended, Cut, Paused, Resumed, Deferred, Passed, Logged}
use Rattle.smil_model.specs.declared.document.Node.{Node}
use Rattle.smil_model.specs.Times.{IsCarried, IsMoment, IsNear}
use Rattle.smil_model.specs.document.Document.{time_parent}
use Rattle.smil_model.specs.diary.Diary.{History, deferral, deferral_after, is_active, is_alive, since_birth}
use Rattle.smil_model.specs.diary.Lawful.{is_rising_from, IsLawful}
use Rattle.smil_model.specs.diary.Clocks.{run, outer, outer_under, to_document}
use Rattle.smil_model.specs.diary.Plays.{PlayEdge, FinishedInterval, Plays, finish_with, play_after, is_birth_under, plays, last_finished}
use Rattle.smil_model.specs.shown.Views.{document_value, deferred_begin, finished_values, present_begin}
use Rattle.smil_laws.specs.Near.{AllNear, HasNear}
use Rattle.smil_laws.proofs.AsideDocuments.{each_both, each_drop}
use Rattle.smil_laws.proofs.NearDiary.{elapsed_within}

pub none_for : {A : Type 0} (P : A → Type 0) → ForSome None P
none_for P = λ x q. cc

pub one_for : {A : Type 0} (P : A → Type 0) (a : A) → P a → ForSome (Some a) P
one_for {A} P a is = λ x q. let same : a ≡ x = cc in subst P same is

-- ---- clocks

outer_near : (h : History) (s : ℕ) (m : ℤ) → IsMoment m → IsNear (outer h s m)
outer_near h s m is = under (time_parent h.nodes s)
  where
    at_run : (p : ℕ) (k : ℤ) → IsMoment k → IsNear (run h p k)
    at_run p (pos k) at = let most = elapsed_within h p k in record { low = omega (arith, ints); high = omega (arith, ints, most, at.high) }
    at_run p (negsuc k) at = record { low = absurd (omega (arith, ints, at.low)); high = absurd (omega (arith, ints, at.low)) }

    under : (o : Option Node) → IsNear (outer_under h o m)
    under None = record { low = omega (arith, ints, is.low, is.high); high = is.high }
    under (Some p) = at_run p.serial m is

pub document_within : (h : History) (s : ℕ) (v m : ℤ) → IsNear v → IsMoment m → IsCarried (to_document h s v m)
document_within h s v m near is = let out = outer_near h s m is in
    record {
      low = grind (arith, ints, near.low, near.high, is.low, is.high, out.low, out.high);
      high = grind (arith, ints, near.low, near.high, is.low, is.high, out.low, out.high);
    }

-- ---- entries

abbrev IsTimed : Entry → Type 0
IsTimed x = IsMoment x.moment × HasNear x.step

moments_from : (from : ℤ) (ds : List Entry) → pos 0 ≤ℤ from → is_rising_from from ds ≡ true → AllByRecursion (λ (x : Entry). IsMoment x.moment) ds
moments_from from [] low q = tt
moments_from from (x ∷ xs) low q =
    let parts = and_parts (int_le from x.moment && int_le x.moment HORIZON) (is_rising_from x.moment xs) q in
    let here = and_parts (int_le from x.moment) (int_le x.moment HORIZON) parts.0 in
    let at : IsMoment x.moment = record { low = grind (arith, ints, here.0, low); high = grind (arith, ints, here.1) } in
    (at, moments_from x.moment xs at.low parts.1)

timed : (h : History) → IsLawful h → AllNear h.diary → AllByRecursion IsTimed h.diary
timed h lawful near = each_both (λ (x : Entry). IsMoment x.moment) (λ (x : Entry). HasNear x.step) h.diary (moments_from (pos 0) h.diary (grind (arith, ints)) lawful.moments) near

-- ---- marks

pub record IsMarkNear (m : PlayEdge) : Type 0 where
  pub value : IsNear m.value
  pub moment : IsMoment m.moment

pub record IsFinishedNear (f : FinishedInterval) : Type 0 where
  pub begin : IsMarkNear f.begin
  pub finish : IsMarkNear f.finish

abbrev IsPresentNear : Option PlayEdge → Type 0
IsPresentNear None = Unit {0}
IsPresentNear (Some m) = IsMarkNear m

record ArePlaysNear (b : Plays) : Type 0 where
  present : IsPresentNear b.present
  finished : AllByRecursion IsFinishedNear b.finished

one_more : (fs : List FinishedInterval) (f : FinishedInterval) → AllByRecursion IsFinishedNear fs → IsFinishedNear f → AllByRecursion IsFinishedNear (fs ++ f ∷ [])
one_more [] f each is = (is, tt)
one_more (g ∷ gs) f each is = (each.0, one_more gs f each.1 is)

finish_near : (o : Option PlayEdge) (k : PlayEdge) (cut : Bool) (fs : List FinishedInterval) → IsPresentNear o → IsMarkNear k → AllByRecursion IsFinishedNear fs → AllByRecursion IsFinishedNear (finish_with o k cut fs)
finish_near None k cut fs is at each = each
finish_near (Some b) k cut fs is at each = one_more fs _ each (record { begin = is; finish = at })

module _ (h : History) (s : ℕ) where
  after_near : (m : ℤ) → IsMoment m → (b : Plays) (step : Step) → HasNear step → ArePlaysNear b → ArePlaysNear (play_after h s m b step)
  after_near m at b (Began who begin) near are = by_own (who == s)
    where
      by_own : (t : Bool) → ArePlaysNear (cond t (record { present = Some (record { value = begin; moment = m }); finished = b.finished }) b)
      by_own true = record { present = record { value = near; moment = at }; finished = are.finished }
      by_own false = are
  after_near m at b (Ended who end') near are = by_own (who == s)
    where
      by_own : (t : Bool) → ArePlaysNear (cond t (record { present = None; finished = finish_with b.present (record { value = end'; moment = m }) false b.finished }) b)
      by_own true = record { present = tt; finished = finish_near b.present _ false b.finished are.present (record { value = near; moment = at }) are.finished }
      by_own false = are
  after_near m at b (Cut who) near are = by_own (who == s)
    where
      by_own : (t : Bool) → ArePlaysNear (cond t (record { present = None; finished = finish_with b.present (record { value = outer h s m; moment = m }) true b.finished }) b)
      by_own true = record { present = tt; finished = finish_near b.present _ true b.finished are.present (record { value = outer_near h s m at; moment = at }) are.finished }
      by_own false = are
  after_near m at b (Repeated who start) near are = are
  after_near m at b (Paused who) near are = are
  after_near m at b (Resumed who) near are = are
  after_near m at b (Deferred who begin) near are = are
  after_near m at b (Passed who begin) near are = are
  after_near m at b (Logged place) near are = are

  follow_near : (b : Plays) (x : Entry) → IsTimed x → ArePlaysNear b → ArePlaysNear (cond (is_birth_under (time_parent h.nodes s) x.step) (record { present = b.present; finished = [] }) (play_after h s x.moment b x.step))
  follow_near b x is are = by_test (is_birth_under (time_parent h.nodes s) x.step)
    where
      by_test : (t : Bool) → ArePlaysNear (cond t (record { present = b.present; finished = [] }) (play_after h s x.moment b x.step))
      by_test true = record { present = are.present; finished = tt }
      by_test false = after_near x.moment is.0 b x.step is.1 are

  fold_near : (ds : List Entry) (b : Plays) → AllByRecursion IsTimed ds → ArePlaysNear b → ArePlaysNear (fold (λ (so_far : Plays) (x : Entry). cond (is_birth_under (time_parent h.nodes s) x.step) (record { present = so_far.present; finished = [] }) (play_after h s x.moment so_far x.step)) b ds)
  fold_near [] b each are = are
  fold_near (x ∷ xs) b each are = fold_near xs _ each.1 (follow_near b x each.0 are)

  module _ (lawful : IsLawful h) (near : AllNear h.diary) where
    plays_near : ArePlaysNear (plays h s)
    plays_near = fold_near h.diary (record { present = None; finished = [] }) (timed h lawful near) (record { present = tt; finished = tt })

    -- the begin of the present play, the last finished interval and a deferred begin, in document time
    mark_within : (m : PlayEdge) → IsMarkNear m → IsCarried (document_value h s m)
    mark_within m is = document_within h s m.value m.moment is.value is.moment

    pub begun_within : ForSome (present_begin h s) IsCarried
    begun_within = by (is_active h.diary s) (plays h s).present plays_near.present
      where
        by : (t : Bool) (o : Option PlayEdge) → IsPresentNear o → ForSome (cond t (option_map (document_value h s) o) None) IsCarried
        by true None is = none_for IsCarried
        by true (Some m) is = one_for IsCarried (document_value h s m) (mark_within m is)
        by false o is = none_for IsCarried

    last_near : (fs : List FinishedInterval) (o : Option FinishedInterval) → AllByRecursion IsFinishedNear fs → ForSome (option_map (finished_values h s) o) (λ (last : ℤ × ℤ). IsCarried last.0 × IsCarried last.1) → ForSome (option_map (finished_values h s) (last_or o fs)) (λ (last : ℤ × ℤ). IsCarried last.0 × IsCarried last.1)
    last_near [] o each is = is
    last_near (f ∷ fs) o each is = last_near fs (Some f) each.1 (one_for (λ (last : ℤ × ℤ). IsCarried last.0 × IsCarried last.1) (finished_values h s f) (mark_within f.begin (each.0).begin, mark_within f.finish (each.0).finish))

    pub last_within : ForSome (option_map (finished_values h s) (last_finished h s)) (λ (last : ℤ × ℤ). IsCarried last.0 × IsCarried last.1)
    last_within = last_near (plays h s).finished None plays_near.finished (none_for (λ (last : ℤ × ℤ). IsCarried last.0 × IsCarried last.1))

    abbrev IsEntryNear : Option Entry → Type 0
    IsEntryNear None = Unit {0}
    IsEntryNear (Some x) = IsTimed x

    deferral_near : (x : Entry) (before : Option Entry) (step : Step) → IsTimed x → IsEntryNear before → IsEntryNear (deferral_after s x before step)
    deferral_near x before (Began who begin) is was = by (who == s)
      where
        by : (t : Bool) → IsEntryNear (cond t None before)
        by true = tt
        by false = was
    deferral_near x before (Ended who end') is was = by (who == s)
      where
        by : (t : Bool) → IsEntryNear (cond t None before)
        by true = tt
        by false = was
    deferral_near x before (Cut who) is was = by (who == s)
      where
        by : (t : Bool) → IsEntryNear (cond t None before)
        by true = tt
        by false = was
    deferral_near x before (Deferred who begin) is was = by (who == s)
      where
        by : (t : Bool) → IsEntryNear (cond t (Some x) before)
        by true = is
        by false = was
    deferral_near x before (Passed who begin) is was = by (who == s)
      where
        by : (t : Bool) → IsEntryNear (cond t None before)
        by true = tt
        by false = was
    deferral_near x before (Repeated who start) is was = was
    deferral_near x before (Paused who) is was = was
    deferral_near x before (Resumed who) is was = was
    deferral_near x before (Logged place) is was = was

    deferrals_near : (ds : List Entry) (before : Option Entry) → AllByRecursion IsTimed ds → IsEntryNear before → IsEntryNear (fold (λ before (x : Entry). deferral_after s x before x.step) before ds)
    deferrals_near [] before each was = was
    deferrals_near (x ∷ xs) before each was = deferrals_near xs _ each.1 (deferral_near x before x.step each.0 was)

    begin_within : (m : ℤ) (step : Step) → IsMoment m → HasNear step → ForSome (deferred_begin h s m step) IsCarried
    begin_within m (Deferred who begin) at is = one_for IsCarried (to_document h s begin m) (document_within h s begin m is at)
    begin_within m _ at is = none_for IsCarried

    pub deferred_within : ForSome (option_and_then (λ (x : Entry). deferred_begin h s x.moment x.step) (deferral h s)) IsCarried
    deferred_within = by (is_alive h s) (fold (λ before (x : Entry). deferral_after s x before x.step) None (since_birth h s)) (deferrals_near (since_birth h s) None (each_drop IsTimed _ h.diary (timed h lawful near)) tt)
      where
        by : (t : Bool) (o : Option Entry) → IsEntryNear o → ForSome (option_and_then (λ (x : Entry). deferred_begin h s x.moment x.step) (cond t o None)) IsCarried
        by true None is = none_for IsCarried
        by true (Some x) is = begin_within x.moment x.step is.0 is.1
        by false o is = none_for IsCarried
