-- Which elements an entry concerns: those whose interval may change though neither the intervals
-- that it follows from nor the ends of the element's time children change.
use Rattle.std.specs.Prelude.{◌≡◌, ℕ, List, [], ◌∷◌, Bool, true, false, ◌==◌, ◌&&◌, ◌||◌, Option, Some, None, slice_get, is_some}
use Rattle.std.specs.List.{list_any}
use Rattle.smil_model.specs.declared.diary.Entry.{Entry}
use Rattle.smil_model.specs.declared.diary.LogEntry.{LogEntry}
use Rattle.smil_model.specs.declared.diary.Happening.{Happening}
use Rattle.smil_model.specs.declared.diary.Happening.TheVariants as happening
use Rattle.smil_model.specs.declared.diary.Step.{Step}
use Rattle.smil_model.specs.declared.diary.Step.TheVariants.{Began, Ended, Cut, Logged}
use Rattle.smil_model.specs.declared.document.Node.{Node}
use Rattle.smil_model.specs.declared.document.Edge.{Edge}
use Rattle.smil_model.specs.declared.document.Edge.TheVariants.{Begin, End}
use Rattle.smil_model.specs.declared.document.Item.{Item}
use Rattle.smil_model.specs.declared.document.Item.TheVariants.{Offset, Sync}
use Rattle.smil_model.specs.document.Document.{elements, node_at, is_within, is_below, element_named, has_serial, previous_in_seq}
use Rattle.smil_model.specs.document.Dependencies.{all_items}
use Rattle.smil_model.specs.document.Closure.{has}
use Rattle.smil_model.specs.reach.Reach.{reads, is_event_of, waiters, subject_of, key_of}
use Rattle.smil_laws.specs.Touched.{is_touched_by}

-- the steps that can change what is read of an edge of the element that they are on;
-- no begin of an active element is expected, so its end and its cut are among those of its begin
abbrev pub moves : Edge → Step → Bool
moves Begin (Began who begin) = true
moves Begin (Ended who end') = true
moves Begin (Cut who) = true
moves End (Ended who end') = true
moves End (Cut who) = true
moves edge _ = false

-- whether a step on x can change the times that an item of the element e gives;
-- in a child of a seq an offset counts from the end of the child before
abbrev pub is_moved : List Node → ℕ → ℕ → Step → Item → Bool
is_moved nodes e x step (Offset offset) =
    has_serial x (previous_in_seq nodes e) && moves End step
is_moved nodes e x step (Sync who edge offset) =
    has_serial x (element_named nodes who) && moves edge step
is_moved nodes e x step item = is_event_of nodes e x item

-- whether a step on x moves an item of e
abbrev pub follows : List Node → ℕ → Step → Node → Bool
follows nodes x step e = list_any (is_moved nodes e.serial x step) (all_items nodes e)

-- a step on x concerns x, what is below x, what reads an element below x, and what follows from it
abbrev pub is_concerned_by_step : List Node → ℕ → Step → ℕ → Bool
is_concerned_by_step nodes x step s =
    is_within nodes x s
    || list_any (λ (b : Node). is_below nodes x b.serial
    && reads nodes b.serial s) (elements nodes)
    || list_any (λ (e : Node). (e.serial == s) && follows nodes x step e) (elements nodes)

-- whether the element has an item for events or repeats of x
abbrev pub is_hearer : List Node → ℕ → ℕ → Bool
is_hearer nodes x s =
    list_any (λ (e : Node). (e.serial == s)
    && list_any (is_event_of nodes e.serial x) (all_items nodes e)) (elements nodes)

-- a logged event on x concerns those that hear it, a length of media x alone
abbrev pub is_concerned_by_happening : List Node → ℕ → Happening → ℕ → Bool
is_concerned_by_happening nodes x (happening.Event who name) s = is_hearer nodes x s
is_concerned_by_happening nodes x (happening.Media who length) s = x == s
is_concerned_by_happening nodes x (happening.Key key) s = false

abbrev pub is_concerned_by_logged : List Node → ℕ → Option LogEntry → ℕ → Bool
is_concerned_by_logged nodes x None s = false
is_concerned_by_logged nodes x (Some entry) s = is_concerned_by_happening nodes x entry.what s

abbrev pub is_concerned : List Node → List LogEntry → ℕ → Step → ℕ → Bool
is_concerned nodes log x (Logged place) s =
    is_concerned_by_logged nodes x (slice_get log place) s
is_concerned nodes log x step s = is_concerned_by_step nodes x step s

-- an entry on no element concerns none of these
abbrev pub is_concerned_from : List Node → List LogEntry → Option ℕ → Step → ℕ → Bool
is_concerned_from nodes log None step s = false
is_concerned_from nodes log (Some x) step s =
    is_some (node_at (elements nodes) x) && is_concerned nodes log x step s

-- a press of a key concerns the elements that wait for it
abbrev pub is_concerned_through :
    List Node → List LogEntry → Option ℕ → Option ℕ → Step → ℕ → Bool
is_concerned_through nodes log (Some key) on step s = has (waiters nodes key) s
is_concerned_through nodes log None on step s = is_concerned_from nodes log on step s

-- whether one of the entries concerns the element
abbrev pub is_concerned_by : List Node → List LogEntry → List Entry → ℕ → Bool
is_concerned_by nodes log [] s = false
is_concerned_by nodes log (y ∷ ys) s =
    is_concerned_through nodes log (key_of log y.step) (subject_of log y.step) y.step s
    || is_concerned_by nodes log ys s

-- whom entries concern, they touch
abbrev pub ConcernedIsTouched : Type 0
ConcernedIsTouched =
    (nodes : List Node) (log : List LogEntry) (entries : List Entry) (s : ℕ)
    → is_concerned_by nodes log entries s ≡ true → is_touched_by nodes log entries s ≡ true
