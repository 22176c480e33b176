-- The present play and the facts of an element, by what is kept of it.
use Rattle.std.proofs.Common.{◌≡◌, refl, sym, ◌∙◌, ap, subst, ℕ, Bool, true, false, Option, Some, None, ℤ}
use Rattle.std.specs.Prelude.{cond, option_map}
use Rattle.smil_model.specs.declared.times.Time.{Time}
use Rattle.smil_model.specs.declared.interval.Interval.{Interval}
use Rattle.smil_model.specs.declared.interval.Play.{Play}
use Rattle.smil_model.specs.declared.interval.EndList.{EndList}
use Rattle.smil_model.specs.declared.interval.Facts.{Facts}
use Rattle.smil_model.specs.declared.document.Node.{Node}
use Rattle.smil_model.specs.declared.document.Count.{Count}
use Rattle.smil_model.specs.declared.document.Restart.{Restart}
use Rattle.smil_model.specs.document.Defaults.{restart_of, min_of, max_of}
use Rattle.smil_model.specs.diary.Diary.{History, is_active, is_alive, is_deferred, iteration}
use Rattle.smil_model.specs.diary.Clocks.{play_start, iteration_start, parent_start}
use Rattle.smil_model.specs.diary.Plays.{PlayEdge, FinishedInterval, plays, last_finished, passed}
use Rattle.smil_model.specs.interval.Current.{present_play, facts_of, finish_time, end_list_of, simple_of}
use Rattle.smil_past.specs.declared.plays.facts.PastInterval.{PastInterval}
use Rattle.smil_past.specs.Played.{past_interval}
use Rattle.smil_element.specs.Element.{interval_in, shift_of}

-- the play of a begin
abbrev pub play_of : History → ℕ → ℤ → PlayEdge → Play
play_of h s now begin = record {
  begin = begin.value;
  first = play_start h s;
  start = iteration_start h s;
  iteration = iteration h s;
  shift = shift_of h s now;
}

module _ (h : History) (who : ℕ) (now : ℤ) (e : Node) (same : e.serial ≡ who) where
  abbrev told_play : ℕ → Bool → Option PlayEdge → Option Play
  told_play s active present = cond active (option_map (play_of h s now) present) None

  at_who : told_play who (is_active h.diary who) (plays h who).present ≡ present_play h now e
  at_who = subst (λ k. told_play who (is_active h.diary who) (plays h who).present ≡ told_play k (is_active h.diary k) (plays h k).present) (sym same) refl

  pub play_idle : (t : Bool) → t ≡ is_active h.diary who → t ≡ false → None ≡ present_play h now e
  play_idle t told off = sym (ap (λ b. told_play who b (plays h who).present) (sym told ∙ off)) ∙ at_who

  pub play_unbegun : (o : Option ℤ) → o ≡ option_map (λ (m : PlayEdge). m.value) (plays h who).present → o ≡ None → None ≡ present_play h now e
  play_unbegun o told none = by (plays h who).present refl told (is_active h.diary who) refl
    where
      by : (p : Option PlayEdge) → (plays h who).present ≡ p → o ≡ option_map (λ (m : PlayEdge). m.value) p → (t : Bool) → is_active h.diary who ≡ t → None ≡ present_play h now e
      by None is q true active = sym (ap (λ b. told_play who b (plays h who).present) active ∙ ap (told_play who true) is) ∙ at_who
      by None is q false active = sym (ap (λ b. told_play who b (plays h who).present) active) ∙ at_who
      by (Some m) is q t active = cc

  pub play_begun : (t : Bool) (o : Option ℤ) (begin first start : ℤ) (number : ℕ) (shift : Option ℤ) → t ≡ is_active h.diary who → t ≡ true → o ≡ option_map (λ (m : PlayEdge). m.value) (plays h who).present → o ≡ Some begin → first ≡ play_start h who → start ≡ iteration_start h who → number ≡ iteration h who → shift ≡ shift_of h who now → Some (record { begin = begin; first = first; start = start; iteration = number; shift = shift }) ≡ present_play h now e
  play_begun t o begin first start number shift told on begun some first_is start_is number_is shift_is = by (plays h who).present refl begun
    where
      by : (p : Option PlayEdge) → (plays h who).present ≡ p → o ≡ option_map (λ (m : PlayEdge). m.value) p → Some (record { begin = begin; first = first; start = start; iteration = number; shift = shift }) ≡ present_play h now e
      by None is q = cc
      by (Some m) is q =
          let value : begin ≡ m.value = cc in
          rw (value, first_is, start_is, number_is, shift_is)
          (sym (ap (λ b. told_play who b (plays h who).present) (sym told ∙ on) ∙ ap (told_play who true) is) ∙ at_who)

  abbrev told_facts : (ℕ → Option Interval) → ℕ → Facts
  told_facts intervals k = record {
    alive = is_alive h k;
    deferred = is_deferred h k;
    play = present_play h now e;
    parent_start = parent_start h k;
    last = option_map (λ (f : FinishedInterval). record { begin = f.begin.value; «end» = finish_time f }) (last_finished h k);
    passed = passed h k;
    end_list = end_list_of e.attrs.«end»;
    restart = restart_of h.nodes e;
    min = min_of e.attrs;
    max = max_of e.attrs;
    simple = simple_of h intervals e;
    count = e.attrs.repeat_count;
    repeat_dur = e.attrs.repeat_dur;
  }

  pub facts_are : (intervals : ℕ → Option Interval) (alive deferred : Bool) (play : Option Play) (start low : ℤ) (last : Option Interval) (let_pass : Option ℤ) (list : EndList) (restart : Restart) (high simple : Time) (count : Option Count) (dur : Option Time)
      → alive ≡ is_alive h who → deferred ≡ is_deferred h who → play ≡ present_play h now e → start ≡ parent_start h who
      → last ≡ (told_facts intervals who).last
      → let_pass ≡ passed h who → list ≡ end_list_of e.attrs.«end» → restart ≡ restart_of h.nodes e → low ≡ min_of e.attrs → high ≡ max_of e.attrs → simple ≡ simple_of h intervals e
      → count ≡ e.attrs.repeat_count → dur ≡ e.attrs.repeat_dur
      → ◌≡◌ {A = Facts} (record { alive = alive; deferred = deferred; play = play; parent_start = start; last = last; passed = let_pass; end_list = list; restart = restart; min = low; max = high; simple = simple; count = count; repeat_dur = dur }) (facts_of h intervals now e)
  facts_are intervals alive deferred play start low last let_pass list restart high simple count dur p1 p2 p3 p4 p5 p6 p7 p8 p9 p10 p11 p12 p13 =
      rw (p1, p2, p3, p4, p5, p6, p7, p8, p9, p10, p11, p12, p13) (ap (told_facts intervals) (sym same))

-- the last finished interval, as it is kept and as the search sees it
pub last_is : (h : History) (who : ℕ) (o : Option PastInterval) → o ≡ option_map (past_interval h who) (last_finished h who) → option_map interval_in o ≡ option_map (λ (f : FinishedInterval). record { begin = f.begin.value; «end» = finish_time f }) (last_finished h who)
last_is h who o told = ap (option_map interval_in) told ∙ by (last_finished h who)
  where
    by : (l : Option FinishedInterval) → option_map interval_in (option_map (past_interval h who) l) ≡ option_map (λ (g : FinishedInterval). record { begin = g.begin.value; «end» = finish_time g }) l
    by None = refl
    by (Some g) = refl
