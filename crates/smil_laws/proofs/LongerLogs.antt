-- What the diary does not name of a log is read by nothing.
use Rattle.std.proofs.Common.{◌≡◌, refl, ◌∙◌, ap, ℕ, suc, zero, ◌<◌, List, [], ◌∷◌, ◌++◌, length, Option, Some, None, ℤ, Bool, arith}
use Rattle.std.specs.Prelude.{cond, not, ◌&&◌, ◌||◌, ◌+ℤ◌, drop, flat_map, map, slice_get, is_some}
use Rattle.smil_model.specs.declared.times.Time.{Time}
use Rattle.smil_model.specs.declared.times.Time.TheVariants as time
use Rattle.smil_model.specs.declared.diary.Entry.{Entry}
use Rattle.smil_model.specs.declared.diary.LogEntry.{LogEntry}
use Rattle.smil_model.specs.declared.diary.Step.{Step}
use Rattle.smil_model.specs.declared.diary.Step.TheVariants.{Began, Repeated, Ended, Cut, Paused, Resumed, Deferred, Passed, Logged}
use Rattle.smil_model.specs.declared.interval.Interval.{Interval}
use Rattle.smil_model.specs.declared.document.Node.{Node}
use Rattle.smil_model.specs.declared.document.Edge.{Edge}
use Rattle.smil_model.specs.declared.document.Edge.TheVariants.{Begin, End}
use Rattle.smil_model.specs.declared.document.Item.{Item}
use Rattle.smil_model.specs.declared.document.Item.TheVariants.{Offset, Sync, Event, Repeat, Key, Indefinite}
use Rattle.smil_model.specs.declared.document.Kind.{Kind}
use Rattle.smil_model.specs.declared.document.Kind.TheVariants as kind
use Rattle.smil_model.specs.Times.{within_horizon, later_time, rising, rising_times, numbers}
use Rattle.smil_model.specs.document.Document.{elements, target}
use Rattle.smil_model.specs.document.Defaults.{begin_list, end_list}
use Rattle.smil_model.specs.document.Dependencies.{has_implicit_duration}
use Rattle.smil_model.specs.diary.Diary.{History, birth, is_active, up_to, with_past}
use Rattle.smil_model.specs.diary.Clocks.{outer, stands, outer_stands, iteration_start}
use Rattle.smil_model.specs.interval.Durations.{stated_duration}
use Rattle.smil_model.specs.interval.Intervals.{interval_of}
use Rattle.smil_model.specs.interval.Instances.{is_event, is_press, hears, heard_times, event_times, item_times, begin_times, end_times}
use Rattle.smil_model.specs.interval.Current.{implicit_of, simple_of, facts_of, interval_given, in_table, table, current_table}
use Rattle.smil_model.specs.happening.Keys.{coming_end, coming_begin, coming_repeat_at, coming_of}
use Rattle.smil_model.specs.shown.Views.{view_of}
use Rattle.smil_laws.specs.Cut.{IsNamedBelow, NamesBelow}
use Rattle.smil_laws.proofs.AsideDocuments.{SameLogged, NamesAlike, event_same, press_same, media_same, each_drop, filter_map_all, with_past_each}
use Rattle.smil_laws.specs.Same.{IsSame, LogMayBeLonger}

-- ---- the places that the diary names

pub get_longer : (log more : List LogEntry) (place : ℕ) → place < length log → slice_get (log ++ more) place ≡ slice_get log place
get_longer [] more place l = absurd (omega (arith, l))
get_longer (x ∷ xs) more zero l = refl
get_longer (x ∷ xs) more (suc place) l = get_longer xs more place (omega (arith, l))

pub longer_alike : (log more : List LogEntry) (ds : List Entry) → NamesBelow (length log) ds → NamesAlike (log ++ more) log ds
longer_alike log more [] named = tt
longer_alike log more (x ∷ xs) named = (by_step x.step named.0, longer_alike log more xs named.1)
  where
    by_step : (step : Step) → IsNamedBelow (length log) step → SameLogged (log ++ more) log step
    by_step (Logged place) p = get_longer log more place p
    by_step (Began who begin) p = tt
    by_step (Repeated who start) p = tt
    by_step (Ended who end') p = tt
    by_step (Cut who) p = tt
    by_step (Paused who) p = tt
    by_step (Resumed who) p = tt
    by_step (Deferred who begin) p = tt
    by_step (Passed who begin) p = tt

-- ---- two histories that are the same but for what their diary does not name of their logs

module _ (nodes : List Node) (log1 log2 : List LogEntry) (ds : List Entry) (named : NamesAlike log1 log2 ds) where
  abbrev h1 : History
  h1 = record { nodes = nodes; log = log1; diary = ds }

  abbrev h2 : History
  h2 = record { nodes = nodes; log = log2; diary = ds }

  -- what is heard, where both logs have the same occurrences
  heard_same : (e : Node) (side : Edge) (item : Item) (offset : ℤ) (occurs : List LogEntry → Step → Bool) → ((step : Step) → SameLogged log1 log2 step → occurs log1 step ≡ occurs log2 step) → heard_times h1 e side item offset (λ past step. occurs past.log step) ≡ heard_times h2 e side item offset (λ past step. occurs past.log step)
  heard_same e side item offset occurs same =
      filter_map_all (λ (w : List Entry × Entry). SameLogged log1 log2 (w.1).step) (hear log1) (hear log2) (drop (birth h1 e.serial) (with_past [] ds))
      (each_drop (λ (w : List Entry × Entry). SameLogged log1 log2 (w.1).step) (birth h1 e.serial) (with_past [] ds) (with_past_each (λ (y : Entry). SameLogged log1 log2 y.step) [] ds named))
      (λ w q. ap (λ t. cond (t && hears (up_to h1 w.0) e side item) (Some (within_horizon (outer h1 e.serial (w.1).moment +ℤ offset))) None) (same (w.1).step q))
    where
      hear : List LogEntry → List Entry × Entry → Option Time
      hear log = λ (w : List Entry × Entry). cond (occurs log (w.1).step && hears (up_to h1 w.0) e side item) (Some (within_horizon (outer h1 e.serial (w.1).moment +ℤ offset))) None

  events_same : (e : Node) (side : Edge) (item : Item) (offset : ℤ) (name : List ℕ) (o : Option ℕ) → event_times h1 e side item offset name o ≡ event_times h2 e side item offset name o
  events_same e side item offset name None = refl
  events_same e side item offset name (Some x) = heard_same e side item offset (λ log step. is_event log x name step) (event_same log1 log2 x name)

  module _ (J : ℕ → Option Interval) (now : ℤ) (e : Node) where
    -- ---- the durations

    implicit_same : (kd : Kind) → implicit_of h1 J e kd ≡ implicit_of h2 J e kd
    implicit_same kind.Par = refl
    implicit_same kind.Seq = refl
    implicit_same kind.Excl = refl
    implicit_same kind.Img = refl
    implicit_same kind.Text = refl
    implicit_same kind.Brush = refl
    implicit_same kind.Set = refl
    implicit_same _ = media_same log1 log2 nodes nodes ds named e.serial

    simple_same : simple_of h1 J e ≡ simple_of h2 J e
    simple_same = ap (λ t. cond (has_implicit_duration e) t (stated_duration e.attrs.dur)) (implicit_same e.kind)

    -- ---- the instance times

    item_same : (side : Edge) (i : Item) → item_times h1 J now e side i ≡ item_times h2 J now e side i
    item_same side (Offset offset) = refl
    item_same side (Sync who edge offset) = refl
    item_same side (Event who name offset) = events_same e side (Event who name offset) offset name (target nodes e.serial who)
    item_same side (Repeat who n offset) = refl
    item_same side (Key key offset) = heard_same e side (Key key offset) offset (λ log step. is_press log key step) (press_same log1 log2 key)
    item_same Begin Indefinite = refl
    item_same End Indefinite = refl

    items_same : (side : Edge) (is : List Item) → flat_map (item_times h1 J now e side) is ≡ flat_map (item_times h2 J now e side) is
    items_same side [] = refl
    items_same side (i ∷ is) =
        ap (λ ts. ts ++ flat_map (item_times h1 J now e side) is) (item_same side i) ∙ ap (λ ts. item_times h2 J now e side i ++ ts) (items_same side is)

    -- ---- the interval, and what comes

    facts_same : facts_of h1 J now e ≡ facts_of h2 J now e
    facts_same = ap (λ t. record (facts_of h1 J now e) { simple = t }) simple_same

    interval_same : interval_given h1 J now e ≡ interval_given h2 J now e
    interval_same =
        ap (λ f. interval_of f (begin_times h1 J now e) (end_times h1 J now e)) facts_same
        ∙ ap (λ ts. interval_of (facts_of h2 J now e) (rising (numbers ts)) (end_times h1 J now e)) (items_same Begin (begin_list nodes e))
        ∙ ap (λ ts. interval_of (facts_of h2 J now e) (begin_times h2 J now e) (rising_times ts)) (items_same End (end_list e))

    coming_same : (place : ℕ) → coming_of h1 J now place e ≡ coming_of h2 J now place e
    coming_same place =
        ap
        (λ d. cond (is_active ds e.serial)
        (cond (outer_stands h1 e.serial) [] (coming_end h1 now place e (J e.serial))
        ++ cond ((is_some e.attrs.repeat_count || is_some e.attrs.repeat_dur) && not (stands h1 e.serial)) (coming_repeat_at h1 now place e d (later_time d (iteration_start h1 e.serial))) [])
        (cond (outer_stands h1 e.serial) [] (coming_begin h1 now place e (J e.serial))))
        simple_same

  abbrev row : (ℕ → Option Interval) → ℤ → List LogEntry → Node → ℕ × Option Interval
  row J now log e = (e.serial, interval_given (record { nodes = nodes; log = log; diary = ds }) J now e)

  rows_same : (J : ℕ → Option Interval) (now : ℤ) (es : List Node) → map (row J now log1) es ≡ map (row J now log2) es
  rows_same J now [] = refl
  rows_same J now (e ∷ es) =
      ap (λ o. (e.serial, o) ∷ map (row J now log1) es) (interval_same J now e) ∙ ap (λ rest. row J now log2 e ∷ rest) (rows_same J now es)

  table_same : (now : ℤ) (k : ℕ) → table h1 now k ≡ table h2 now k
  table_same now zero = refl
  table_same now (suc k) =
      ap (λ known. map (row (in_table known) now log1) (elements nodes)) (table_same now k) ∙ rows_same (in_table (table h2 now k)) now (elements nodes)

  all_same : (now : ℤ) → IsSame h2 now h1 now
  all_same now =
      let same = table_same now (length (elements nodes)) in
      record {
        nodes = refl;
        diary = refl;
        table = same;
        comings = λ place e.
            coming_same (in_table (current_table h1 now)) now e place
            ∙ ap (λ rows. coming_of h2 (in_table rows) now place e) same;
        view = λ e. ap (λ rows. view_of h2 now (in_table rows) e) same;
      }

pub may_be_longer : LogMayBeLonger
may_be_longer h more now named = all_same h.nodes (h.log ++ more) h.log h.diary (longer_alike h.log more h.diary named) now
