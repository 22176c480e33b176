-- The view of an element by its facts.
use Rattle.std.proofs.Common.{◌≡◌, refl, sym, ◌∙◌, ap, subst, ℕ, length, ℤ, Bool, Option, Some, None, arith}
use Rattle.std.specs.Prelude.{cond, ◌-ℤ◌, ◌&&◌, ◌||◌, is_some, option_map, option_and_then, IfSome}
use Rattle.std.specs.Option.{ForSome}
use Rattle.std.proofs.lemmas.Int.{ints}
use Rattle.smil_model.specs.declared.times.Time.{Time}
use Rattle.smil_model.specs.declared.times.Time.TheVariants.{At, Indefinite, Unresolved}
use Rattle.smil_model.specs.declared.interval.Interval.{Interval}
use Rattle.smil_model.specs.declared.diary.Entry.{Entry}
use Rattle.smil_model.specs.declared.document.Node.{Node}
use Rattle.smil_model.specs.declared.document.Fill.{Fill}
use Rattle.smil_model.specs.declared.document.Fill.TheVariants.{Remove, Freeze, Hold, Auto, ByDefault}
use Rattle.smil_model.specs.declared.view.State.{State}
use Rattle.smil_model.specs.declared.view.State.TheVariants as state
use Rattle.smil_model.specs.declared.view.View.{View}
use Rattle.smil_model.specs.declared.view.ViewFacts.{ViewFacts}
use Rattle.smil_model.specs.Times.{IsCarried, IsNear}
use Rattle.smil_model.specs.document.Defaults.{effective_fill}
use Rattle.smil_model.specs.diary.Diary.{History, deferral, is_active, is_paused, iteration}
use Rattle.smil_model.specs.diary.Clocks.{outer, outer_stands}
use Rattle.smil_model.specs.diary.Plays.{FinishedInterval, plays, last_finished}
use Rattle.smil_model.specs.shown.Views.{deferred_begin, finished_values, is_displaced, is_frozen_by, is_frozen_in, keeps, present_begin, shown_begin, shown_end, shows_under, state_by, time_ancestors, view_by, view_facts, view_of, was_cut}
use Rattle.smil_fill.specs.Numbers.{IsTimeCarried}
use Rattle.smil_laws.specs.Near.{IsIntervalNear, IsTimeNear}
use Rattle.smil_past.specs.declared.plays.facts.PastInterval.{PastInterval}
use Rattle.smil_past.specs.Played.{past_interval, played}
use Rattle.smil_past.specs.declared.plays.facts.PlayFacts.{PlayFacts}
use Rattle.smil_past.proofs.KeptActivity.{begun_is}
use Rattle.smil_model.specs.document.Valid.{IsNumberedTree}
use Rattle.smil_element.specs.Subject.{IsFound}
use Rattle.smil_element.specs.declared.present.Present.{Present}
use Rattle.smil_element.specs.declared.subject.Subject.{Subject}
use Rattle.smil_element.specs.Shown.{IsViewOf, is_cut, minds, shown_last}
use Rattle.smil_instances.proofs.SensitiveItems.{serial_is}
use Rattle.smil_past.specs.Past.{history_of}
use Rattle.smil_model.specs.document.Document.{elements, node_at}
use Rattle.smil_element.proofs.PlaysNear.{none_for, one_for}

-- ---- what displaces an element counts where its fill is freeze and an interval finished

abbrev displacing : ViewFacts → Bool → ViewFacts
displacing f d = record f { displaced = d }

frozen_same : (f : ViewFacts) (d : Bool) → is_frozen_by (displacing f (minds f.fill f.last && d)) ≡ is_frozen_by (displacing f d)
frozen_same f d = by f.fill f.last
  where
    by : (fill : Fill) (last : Option (ℤ × ℤ)) → (is_some last && ((keeps fill (minds fill last && d) && f.parent_shows) || (f.cut && f.parent_frozen))) ≡ (is_some last && ((keeps fill d && f.parent_shows) || (f.cut && f.parent_frozen)))
    by fill None = refl
    by Freeze (Some l) = refl
    by Remove (Some l) = refl
    by Hold (Some l) = refl
    by Auto (Some l) = refl
    by ByDefault (Some l) = refl

state_same : (f : ViewFacts) (a b : Bool) → is_frozen_by (displacing f a) ≡ is_frozen_by (displacing f b) → state_by (displacing f a) ≡ state_by (displacing f b)
state_same f a b q = ap (λ z. cond f.active (cond f.paused state.Paused state.Active) (cond (is_some f.deferred) state.Deferred (cond z state.Frozen (cond (is_some f.interval) state.Waiting (cond (is_some f.last) state.Done state.Idle))))) q

abbrev view_in : ViewFacts → State → View
view_in f s = record { serial = f.serial; state = s; begin = shown_begin f s; «end» = shown_end f s; iteration = f.iteration; finished = f.finished }

in_state : (f : ViewFacts) (a b : Bool) (s : State) → view_in (displacing f a) s ≡ view_in (displacing f b) s
in_state f a b state.Idle = refl
in_state f a b state.Waiting = refl
in_state f a b state.Active = refl
in_state f a b state.Paused = refl
in_state f a b state.Deferred = refl
in_state f a b state.Frozen = refl
in_state f a b state.Done = refl

pub view_same : (f : ViewFacts) (d : Bool) → view_by (displacing f (minds f.fill f.last && d)) ≡ view_by (displacing f d)
view_same f d =
    let a = minds f.fill f.last && d in
    in_state f a d (state_by (displacing f a)) ∙ ap (view_in (displacing f d)) (state_same f a d (frozen_same f d))

-- ---- the facts, by what is told

abbrev facts_at : History → ℤ → Option Interval → Bool → Bool → Node → ℕ → ViewFacts
facts_at h now interval shows above e s = record {
  serial = s;
  active = is_active h.diary s;
  paused = is_paused h.diary s;
  deferred = option_and_then (λ (x : Entry). deferred_begin h s x.moment x.step) (deferral h s);
  interval = interval;
  begun = present_begin h s;
  last = option_map (finished_values h s) (last_finished h s);
  cut = was_cut (last_finished h s);
  fill = effective_fill h.nodes e;
  displaced = is_displaced h s;
  parent_shows = shows;
  parent_frozen = above;
  standing = outer_stands h s;
  shift = now -ℤ outer h s now;
  iteration = iteration h s;
  finished = length (plays h s).finished;
}

pub view_told : (h : History) (who : ℕ) (now : ℤ) (interval : Option Interval) (shows above : Bool) (e : Node) → e.serial ≡ who
    → (active paused cut d standing : Bool) (deferred begun : Option ℤ) (last : Option (ℤ × ℤ)) (fill : Fill) (parent_shows : Bool) (shift : ℤ) (number finished : ℕ)
    → active ≡ is_active h.diary who → paused ≡ is_paused h.diary who
    → deferred ≡ option_and_then (λ (x : Entry). deferred_begin h who x.moment x.step) (deferral h who)
    → begun ≡ present_begin h who → last ≡ option_map (finished_values h who) (last_finished h who) → cut ≡ was_cut (last_finished h who)
    → fill ≡ effective_fill h.nodes e → d ≡ (minds fill last && is_displaced h who) → parent_shows ≡ shows → standing ≡ outer_stands h who
    → shift ≡ now -ℤ outer h who now → number ≡ iteration h who → finished ≡ length (plays h who).finished
    → view_by (record { serial = who; active = active; paused = paused; deferred = deferred; interval = interval; begun = begun; last = last; cut = cut; fill = fill; displaced = d; parent_shows = parent_shows; parent_frozen = above; standing = standing; shift = shift; iteration = number; finished = finished })
    ≡ view_by (view_facts h now interval shows above e)
view_told h who now interval shows above e same active paused cut d standing deferred begun last fill parent_shows shift number finished p1 p2 p3 p4 p5 p6 p7 p8 p9 p10 p11 p12 p13 =
    rw (p8, p1, p2, p3, p4, p5, p6, p7, p9, p10, p11, p12, p13)
    (view_same (facts_at h now interval shows above e who) (is_displaced h who)
    ∙ ap (λ k. view_by (facts_at h now interval shows above e k)) (sym same))

-- the last finished interval in document time, and whether it was cut
pub last_told : (h : History) (who : ℕ) (o : Option PastInterval) → o ≡ option_map (past_interval h who) (last_finished h who) → option_map shown_last o ≡ option_map (finished_values h who) (last_finished h who)
last_told h who o told = ap (option_map shown_last) told ∙ by (last_finished h who)
  where
    by : (l : Option FinishedInterval) → option_map shown_last (option_map (past_interval h who) l) ≡ option_map (finished_values h who) l
    by None = refl
    by (Some f) = refl

pub cut_told : (h : History) (who : ℕ) (o : Option PastInterval) → o ≡ option_map (past_interval h who) (last_finished h who) → is_cut o ≡ was_cut (last_finished h who)
cut_told h who o told = ap is_cut told ∙ by (last_finished h who)
  where
    by : (l : Option FinishedInterval) → is_cut (option_map (past_interval h who) l) ≡ was_cut l
    by None = refl
    by (Some f) = refl

-- ---- what is found of an element, as its view tells it

module _ (s : Subject) (is : IsFound s) (e : Node) (at : node_at (elements s.present.past.now.document.nodes) s.present.who ≡ Some e) where
  pub same_serial : e.serial ≡ s.present.who
  same_serial = serial_is s.present.past.now.document.nodes s.present.who e at

  pub kept_is : s.played.now ≡ played (history_of s.present.past.now) e.serial
  kept_is = is.played_is ∙ ap (played (history_of s.present.past.now)) (sym same_serial)

  pub begun_told : (next : ℕ) → IsNumberedTree (record { nodes = s.present.past.now.document.nodes; next = next }) → is_active s.present.past.now.diary e.serial ≡ is_some s.played.now.begun
  begun_told next tree = sym (ap (λ (r : PlayFacts). is_some r.begun) kept_is ∙ begun_is (history_of s.present.past.now) next tree e.serial)

  pub unfinished_told : s.played.now.last_finished ≡ None → option_map (finished_values (history_of s.present.past.now) e.serial) (last_finished (history_of s.present.past.now) e.serial) ≡ None
  unfinished_told none = sym (last_told (history_of s.present.past.now) e.serial s.played.now.last_finished (ap (λ (r : PlayFacts). r.last_finished) kept_is)) ∙ ap (option_map shown_last) none

-- the view of an element by its current interval, where nothing of its time parent shows in it
pub view_given : (s : Subject) (p : Present) (interval : Option Interval) (v : View) → s.present ≡ p → IsViewOf s interval v → (e : Node) (intervals : ℕ → Option Interval)
    → node_at (elements p.past.now.document.nodes) p.who ≡ Some e → intervals p.who ≡ interval → v ≡ view_of (history_of p.past.now) p.moment intervals e
view_given s p interval v same is e intervals at given =
    let h = history_of p.past.now in
    let parents = time_ancestors h.nodes e.serial in
    let frozen = is_frozen_in h parents in
    let shows = shows_under h frozen parents in
    subst (λ (q : Present). (n : Node) (b c : Bool) → node_at (elements q.past.now.document.nodes) q.who ≡ Some n → v ≡ view_by (view_facts (history_of q.past.now) q.moment interval b c n)) same is e shows frozen at
    ∙ ap (λ (i : Option Interval). view_by (view_facts h p.moment i shows frozen e)) (sym given ∙ ap intervals (sym (serial_is p.past.now.document.nodes p.who e at)))

-- ---- numbers

near_within : (n : ℤ) → IsNear n → IsCarried n
near_within n is = record { low = grind (arith, ints, is.low, is.high); high = grind (arith, ints, is.low, is.high) }

time_within : (t : Time) → IsTimeNear t → IsTimeCarried t
time_within (At n) is = near_within n is
time_within Indefinite is = tt
time_within Unresolved is = tt

pub interval_within : (o : Option Interval) → IfSome o IsIntervalNear → ForSome o (λ (i : Interval). IsCarried i.begin × IsTimeCarried i.«end»)
interval_within None is = none_for (λ (i : Interval). IsCarried i.begin × IsTimeCarried i.«end»)
interval_within (Some i) is = one_for (λ (i : Interval). IsCarried i.begin × IsTimeCarried i.«end») i (near_within i.begin is.begin, time_within i.«end» is.finish)
