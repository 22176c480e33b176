-- Outcomes of orders that move on, that seek, and that tell what came from outside.
use Rattle.std.proofs.Common.{◌≡◌, refl, sym, ◌∙◌, ap, subst, ℕ, ◌<◌, ◌≤◌, ◌+◌, ◌-◌, List, [], ◌∷◌, ◌++◌, Option, Some, None, Result, Ok, Err, Bool, true, false, ℤ, negsuc, arith, inl, inr, length, take, drop, append_assoc, append-nil}
use Rattle.std.specs.Prelude.{◌&&◌, ◌==◌, cond, pos, int_le, int_lt, ◌+ℤ◌, nat_abs, nat_le, nat_lt, not, filter, flat_map, is_some, IsSome, OnOk, ◌≤ℤ◌}
use Rattle.std.specs.List.{AllByRecursion, list_all}
use Rattle.std.proofs.Math.Seq.{drop-append_seam}
use Rattle.std.proofs.lemmas.Bool.{and_parts, le-leb, lt-ltb}
use Rattle.std.proofs.lemmas.Int.{ints}
use Rattle.std.proofs.lemmas.List.Elements.{recursion_from_All}
use Rattle.smil_model.specs.declared.diary.Entry.{Entry}
use Rattle.smil_model.specs.declared.diary.Happening.{Happening}
use Rattle.smil_model.specs.declared.diary.Happening.TheVariants as happening
use Rattle.smil_model.specs.declared.diary.LogEntry.{LogEntry}
use Rattle.smil_model.specs.declared.document.Kind.{Kind}
use Rattle.smil_model.specs.declared.document.Node.{Node}
use Rattle.smil_model.specs.declared.limits.TheConstants.{LOG_ENTRIES, SERIALS}
use Rattle.smil_model.specs.declared.order.Order.{Order}
use Rattle.smil_model.specs.declared.order.Order.TheVariants as order
use Rattle.smil_model.specs.declared.order.Refusal.{Refusal}
use Rattle.smil_model.specs.declared.order.Refusal.TheVariants as refusal
use Rattle.smil_model.specs.declared.order.Who.{Who}
use Rattle.smil_model.specs.declared.order.Who.TheVariants as who
use Rattle.smil_model.specs.declared.times.TheConstants.{HORIZON}
use Rattle.smil_model.specs.declared.view.View.{View}
use Rattle.smil_model.specs.document.Document.{Document, elements, has_id, is_continuous, is_element, node_at, serial_of}
use Rattle.smil_model.specs.document.Limits.{limits}
use Rattle.smil_model.specs.document.Valid.{IsNumberedTree, kind_of}
use Rattle.smil_model.specs.diary.Logs.{is_log, is_logged_by, is_serial, may_happen}
use Rattle.smil_model.specs.document.Values.{is_clock}
use Rattle.smil_model.specs.document.Words.{is_event_name, is_raised_name}
use Rattle.smil_model.specs.happening.Resolution.{diary_of}
use Rattle.smil_model.specs.shown.Answers.{Refuses}
use Rattle.smil_model.specs.shown.Orders.{IsState, Presentation, and_then, at_moment_with, changes_between, changes_through, course_of, found, kept_where, node_of, outcome, unless, unless_too_full, with_logged as logged_within, as_of}
use Rattle.smil_report.specs.Tellings.{Telling, Tells, change_told, gone_told, nodes_gone, order_told}
use Rattle.smil_grammar.specs.Formats.{formats}
use Rattle.smil_model.proofs.NumberOrders.{is_le, le_from}
use Rattle.smil_laws.proofs.AsideDocuments.{find_each}
use Rattle.smil_tree.proofs.NodeSpans.{all_known}
use Rattle.smil_cells.specs.CellsState.{CellsState, with_logged}
use Rattle.smil_rounds.proofs.HeardLogEntries.{first_is_log}
use Rattle.smil_live.specs.Moves.{IsHeardBy, IsNotHeard, IsReplayed, IsTooFull, entry_of, sought_of, told_of}
use Rattle.smil_live.specs.Telling.{element_named}
use Rattle.smil_shown.proofs.LayersApart.{found_each}
use Rattle.smil_live.proofs.GrowingTexts.{is_appended}
use Rattle.smil_live.proofs.ReplayedLogs.{not_below}

-- ---- the node that an order names

-- what each node has, it has
named_each : (P : Node → Type 0) (ns : List Node) (named : Who) (n : Node) → AllByRecursion P ns → node_of ns named ≡ Some n → P n
named_each P ns (who.Id id) n each some = find_each P (λ (m : Node). has_id id m.attrs.id) ns n each some
named_each P ns (who.Serial serial) n each some = find_each P (λ (m : Node). m.serial == serial) ns n each some

pub known : (d : Document) (named : Who) (n : Node) → IsNumberedTree d → node_of d.nodes named ≡ Some n → node_at d.nodes n.serial ≡ Some n
known d named n numbered some = named_each (λ (m : Node). node_at d.nodes m.serial ≡ Some m) d.nodes named n (all_known d.nodes d.next numbered) some

pub there : (d : Document) (named : Who) (n : Node) (s : ℕ) → IsNumberedTree d → node_of d.nodes named ≡ Some n → s ≡ n.serial → IsSome (node_at d.nodes s)
there d named n s numbered some same = ap (λ t. is_some (node_at d.nodes t)) same ∙ ap is_some (known d named n numbered some)

-- by what was found
pub found_by : (p : Presentation) (d : Document) (named : Who) (s : ℕ) → d ≡ p.document → Some s ≡ serial_of (node_of d.nodes named) → (n : Node) × (node_of p.document.nodes named ≡ Some n) × (s ≡ n.serial)
found_by p d named s same is = by_node (node_of p.document.nodes named) (is ∙ ap (λ (e : Document). serial_of (node_of e.nodes named)) same)
  where
    by_node : (o : Option Node) → Some s ≡ serial_of o → (n : Node) × (o ≡ Some n) × (s ≡ n.serial)
    by_node None e = cc
    by_node (Some n) e = let one : s ≡ n.serial = cc in (n, refl, one)

-- its serial is such as a log entry may name
may_be : (next s : ℕ) → (0 < s) × (s < next) → next ≤ SERIALS → is_serial s ≡ true
may_be next s b most =
    let from = b.0 in
    let below = b.1 in
    ap (λ t. t && nat_le s SERIALS) (le-leb 1 s (omega (arith, from))) ∙ le-leb s SERIALS (omega (arith, below, most))

serial_named : (d : Document) (named : Who) (n : Node) → IsNumberedTree d → node_of d.nodes named ≡ Some n → is_serial n.serial ≡ true
serial_named d named n numbered some =
    may_be d.next n.serial (named_each (λ (m : Node). (0 < m.serial) × (m.serial < d.next)) d.nodes named n (recursion_from_All (λ (m : Node). (0 < m.serial) × (m.serial < d.next)) d.nodes numbered.below) some) numbered.next

pub serial_of_named : (d : Document) (named : Who) (n : Node) (s : ℕ) → IsNumberedTree d → node_of d.nodes named ≡ Some n → s ≡ n.serial → is_serial s ≡ true
serial_of_named d named n s numbered some same = ap is_serial same ∙ serial_named d named n numbered some

pub kind_named : (d : Document) (named : Who) (n : Node) (s : ℕ) (k : Kind) → IsNumberedTree d → node_of d.nodes named ≡ Some n → s ≡ n.serial → Some k ≡ kind_of (node_at d.nodes s) → k ≡ n.kind
kind_named d named n s k numbered some same is =
    let both : Some k ≡ Some n.kind = is ∙ ap (λ t. kind_of (node_at d.nodes t)) same ∙ ap kind_of (known d named n numbered some) in
    cc

pub no_element : (p : Presentation) (named : Who) (n : Node) → node_of p.document.nodes named ≡ Some n → is_element n ≡ false → element_named p named ≡ Err refusal.BadPlace
no_element p named n some none =
    ap (λ o. and_then (found o) (λ (m : Node). unless (not (is_element m)) refusal.BadPlace m)) some
    ∙ ap (λ (t : Bool). unless {A = Node} (not t) refusal.BadPlace n) none

pub an_element : (p : Presentation) (named : Who) (n : Node) → node_of p.document.nodes named ≡ Some n → is_element n ≡ true → element_named p named ≡ Ok n
an_element p named n some one =
    ap (λ o. and_then (found o) (λ (m : Node). unless (not (is_element m)) refusal.BadPlace m)) some
    ∙ ap (λ (t : Bool). unless {A = Node} (not t) refusal.BadPlace n) one

-- the node is found before it is an element
pub found_named : (p : Presentation) (named : Who) (n : Node) → element_named p named ≡ Ok n → (node_of p.document.nodes named ≡ Some n) × (is_element n ≡ true)
found_named p named n e = by_node (node_of p.document.nodes named) e
  where
    by_element : (m : Node) (t : Bool) → is_element m ≡ t → unless {A = Node} (not t) refusal.BadPlace m ≡ Ok n → (Some m ≡ Some n) × (is_element n ≡ true)
    by_element m true is e = let one : m ≡ n = cc in (ap Some one, ap is_element (sym one) ∙ is)
    by_element m false is e = cc

    by_node : (o : Option Node) → and_then (found o) (λ (m : Node). unless (not (is_element m)) refusal.BadPlace m) ≡ Ok n → (o ≡ Some n) × (is_element n ≡ true)
    by_node None e = cc
    by_node (Some m) e = by_element m (is_element m) refl e

-- ---- states at another moment

pub has_diary : (p : Presentation) → IsSome (diary_of (course_of p)) → unless_too_full limits p ≡ Ok p
has_diary p some = by_diary (diary_of (course_of p)) some
  where
    by_diary : (o : Option (List Entry)) → IsSome o → kept_where p o ≡ Ok p
    by_diary None t = cc
    by_diary (Some d) t = refl

at_moment_ok : (p : Presentation) (m : ℕ) (log : List LogEntry) → int_le (pos m) HORIZON ≡ true → IsSome (diary_of (course_of (record { document = p.document; log = log; now = m }))) → at_moment_with limits p m log ≡ Ok (record { document = p.document; log = log; now = m })
at_moment_ok p m log within some =
    ap (λ (t : Bool). and_then (unless (not t) refusal.BeyondHorizon (record { document = p.document; log = log; now = m })) (unless_too_full limits)) within
    ∙ has_diary (record { document = p.document; log = log; now = m }) some

at_moment_full : (p : Presentation) (m : ℕ) (log : List LogEntry) → int_le (pos m) HORIZON ≡ true → diary_of (course_of (record { document = p.document; log = log; now = m })) ≡ None → at_moment_with limits p m log ≡ Err refusal.DiaryFull
at_moment_full p m log within none =
    ap (λ (t : Bool). and_then (unless (not t) refusal.BeyondHorizon (record { document = p.document; log = log; now = m })) (unless_too_full limits)) within
    ∙ ap (kept_where (record { document = p.document; log = log; now = m })) none

-- ---- what is told

-- no element is gone from a document that stays
all_stay : (all ns : List Node) → AllByRecursion (λ (n : Node). IsSome (node_at all n.serial)) ns → filter (λ (n : Node). not (is_some (node_at all n.serial))) (elements ns) ≡ []
all_stay all [] h = refl
all_stay all (n ∷ ns) h = by_element (is_element n) (all_stay all ns h.1)
  where
    by_element : (t : Bool) → filter (λ (m : Node). not (is_some (node_at all m.serial))) (elements ns) ≡ [] → filter (λ (m : Node). not (is_some (node_at all m.serial))) (cond t (n ∷ elements ns) (elements ns)) ≡ []
    by_element true rest =
        ap (λ (s : Bool). cond (not s) (n ∷ filter (λ (m : Node). not (is_some (node_at all m.serial))) (elements ns)) (filter (λ (m : Node). not (is_some (node_at all m.serial))) (elements ns))) h.0 ∙ rest
    by_element false rest = rest

module _ {I : Type 0} (tell : Telling I) where
  pub none_gone : (p q : Presentation) → q.document ≡ p.document → gone_told tell p q ≡ []
  none_gone p q same =
      ap (λ (d : Document). gone_told tell p (record { document = d; log = q.log; now = q.now })) same
      ∙ ap (λ (ns : List Node). nodes_gone tell (pos q.now) ns) (all_stay p.document.nodes p.document.nodes (found_each p.document.nodes))

  -- only changes are told
  pub told_alone : (p q : Presentation) (changes : List (ℕ × View)) (text : List I) → q.document ≡ p.document → text ≡ told_of tell p changes → text ≡ gone_told tell p q ++ flat_map (change_told tell q.document.nodes) changes
  told_alone p q changes text same told =
      told
      ∙ ap (λ (d : Document). flat_map (change_told tell d.nodes) changes) (sym same)
      ∙ ap (λ (l : List I). l ++ flat_map (change_told tell q.document.nodes) changes) (sym (none_gone p q same))

cut_off : {A : Type 0} (old new more : List A) → new ≡ old ++ more → drop (length old) new ≡ more
cut_off old new more is = ap (drop (length old)) is ∙ drop-append_seam old more

-- ---- numbers

pub clock_from : (v : ℤ) → is_clock v ≡ true → (pos 0 ≤ℤ v) × (v ≤ℤ HORIZON)
clock_from v q =
    let parts = and_parts (int_le (pos 0) v) (int_le v HORIZON) q in
    (le_from (pos 0) v parts.0, le_from v HORIZON parts.1)

pub not_above : (a b : ℤ) → int_lt a b ≡ false → b ≤ℤ a
not_above a b q = grind (arith, ints)

moved_by : (n : ℕ) (by to : ℤ) → pos 0 ≤ℤ by → to ≡ pos n +ℤ by → (nat_abs to ≡ n + nat_abs by) × (nat_abs to - n ≡ nat_abs by)
moved_by n (pos k) to from e = let there : nat_abs to ≡ n + k = ap nat_abs e in (there, omega (arith, there))
moved_by n (negsuc k) to from e = absurd (omega (arith, ints, from))

-- ---- orders that move on

module _ {I : Type 0} (tell : Telling I) where
  advanced_by : (p q : Presentation) (by : ℤ) (old new : List I) → q ≡ as_of p (p.now + nat_abs by) → IsState q → IsSome (diary_of (course_of q)) → new ≡ old ++ told_of tell p (changes_through p (nat_abs by)) → Tells tell formats p q (order.Advance by) (drop (length old) new)
  advanced_by p q by old new is state' some told =
      let within : int_le (pos (p.now + nat_abs by)) HORIZON ≡ true = subst (λ (r : Presentation). int_le (pos r.now) HORIZON ≡ true) is state'.now in
      let diary : IsSome (diary_of (course_of (as_of p (p.now + nat_abs by)))) = subst (λ (r : Presentation). IsSome (diary_of (course_of r))) is some in
      record {
        state = at_moment_ok p (p.now + nat_abs by) p.log within diary ∙ ap Ok (sym is);
        answer =
            told_alone tell p q (changes_through p (nat_abs by)) (drop (length old) new) (ap (λ (r : Presentation). r.document) is)
            (cut_off old new (told_of tell p (changes_through p (nat_abs by))) told);
      }

  pub advanced_to : (p q : Presentation) (by to : ℤ) (old new : List I) → pos 0 ≤ℤ by → to ≡ pos p.now +ℤ by → q ≡ as_of p (nat_abs to) → IsState q → IsSome (diary_of (course_of q)) → new ≡ old ++ told_of tell p (changes_through p (nat_abs to - p.now)) → Tells tell formats p q (order.Advance by) (drop (length old) new)
  advanced_to p q by to old new from there is state' some told =
      let sums = moved_by p.now by to from there in
      advanced_by p q by old new (is ∙ ap (as_of p) sums.0) state' some (told ∙ ap (λ (k : ℕ). old ++ told_of tell p (changes_through p k)) sums.1)

-- a later moment that is too full
pub not_advanced : (p : Presentation) (by to : ℤ) (given : Refusal) → pos 0 ≤ℤ by → to ≡ pos p.now +ℤ by → to ≤ℤ HORIZON → IsTooFull (as_of p (nat_abs to)) given → Refuses formats p (order.Advance by) given
not_advanced p by to given from there most (inl memory) = inl memory
not_advanced p by to given from there most (inr (full, none)) =
    let m = p.now + nat_abs by in
    let sums = moved_by p.now by to from there in
    let within : int_le (pos m) HORIZON ≡ true = is_le (pos m) HORIZON (omega (arith, ints, from, there, most)) in
    inr (at_moment_full p m p.log within (subst (λ (k : ℕ). diary_of (course_of (as_of p k)) ≡ None) sums.0 none) ∙ ap Err (sym full))

-- a log of which no entry is later is left whole
all_left : (m : ℤ) (log : List LogEntry) → is_logged_by m log ≡ true → filter (λ (x : LogEntry). int_le x.moment m) log ≡ log
all_left m [] q = refl
all_left m (x ∷ xs) q =
    let parts = and_parts (int_le x.moment m) (is_logged_by m xs) q in
    ap (λ t. cond t (x ∷ filter (λ (y : LogEntry). int_le y.moment m) xs) (filter (λ (y : LogEntry). int_le y.moment m) xs)) parts.0
    ∙ ap (λ ys. x ∷ ys) (all_left m xs parts.1)

pub moved_as_sought : (p q : Presentation) (to : ℤ) → q ≡ as_of p (nat_abs to) → IsState q → q ≡ sought_of p to
moved_as_sought p q to is state =
    let left = all_left (pos (nat_abs to)) p.log (subst (λ (r : Presentation). is_logged_by (pos r.now) r.log ≡ true) is state.logged) in
    is ∙ ap (λ (l : List LogEntry). record { document = p.document; log = l; now = nat_abs to }) (sym left)

-- ---- a presentation made anew up to an earlier moment

passing : (t : LogEntry → Bool) (xs : List LogEntry) → list_all t (filter t xs) ≡ true
passing t [] = refl
passing t (x ∷ xs) = by_test (t x) refl (passing t xs)
  where
    by_test : (b : Bool) → t x ≡ b → list_all t (filter t xs) ≡ true → list_all t (cond b (x ∷ filter t xs) (filter t xs)) ≡ true
    by_test true e rest = ap (λ s. s && list_all t (filter t xs)) e ∙ rest
    by_test false e rest = rest

natural : (to : ℤ) → is_clock to ≡ true → pos (nat_abs to) ≡ to
natural to clock = not_below 0 to (clock_from to clock).0

pub within_sought : (to : ℤ) → is_clock to ≡ true → int_le (pos (nat_abs to)) HORIZON ≡ true
within_sought to clock = ap (λ (m : ℤ). int_le m HORIZON) (natural to clock) ∙ (and_parts (int_le (pos 0) to) (int_le to HORIZON) clock).1

pub sought_state : (p : Presentation) (log : List LogEntry) (len : ℕ) (to : ℤ) → IsState p → is_clock to ≡ true → log ≡ p.log → take len log ≡ filter (λ (x : LogEntry). int_le x.moment to) log → IsState (sought_of p to)
sought_state p log len to state clock logs first =
    let same : take len p.log ≡ filter (λ (x : LogEntry). int_le x.moment (pos (nat_abs to))) p.log =
    subst (λ (l : List LogEntry). take len l ≡ filter (λ (x : LogEntry). int_le x.moment to) l) logs first
    ∙ ap (λ (m : ℤ). filter (λ (x : LogEntry). int_le x.moment m) p.log) (sym (natural to clock)) in
    record {
      document = state.document;
      log = subst (λ (l : List LogEntry). is_log l ≡ true) same (first_is_log len p.log state.log);
      logged = passing (λ (x : LogEntry). int_le x.moment (pos (nat_abs to))) p.log;
      now = within_sought to clock;
    }

module _ {I : Type 0} (tell : Telling I) where
  pub sought : (p q : Presentation) (to : ℤ) (old new : List I) → q ≡ sought_of p to → IsState q → IsSome (diary_of (course_of q)) → new ≡ old ++ told_of tell p (changes_between p q) → Tells tell formats p q (order.Seek to) (drop (length old) new)
  sought p q to old new is state' some told =
      let left = filter (λ (x : LogEntry). int_le x.moment (pos (nat_abs to))) p.log in
      let within : int_le (pos (nat_abs to)) HORIZON ≡ true = subst (λ (r : Presentation). int_le (pos r.now) HORIZON ≡ true) is state'.now in
      let diary : IsSome (diary_of (course_of (record { document = p.document; log = left; now = nat_abs to }))) = subst (λ (r : Presentation). IsSome (diary_of (course_of r))) is some in
      record {
        state = at_moment_ok p (nat_abs to) left within diary ∙ ap Ok (sym is);
        answer =
            told_alone tell p q (changes_between p q) (drop (length old) new) (ap (λ (r : Presentation). r.document) is)
            (cut_off old new (told_of tell p (changes_between p q)) told);
      }

pub not_sought : (p q : Presentation) (to : ℤ) (given : Refusal) → q ≡ sought_of p to → int_le (pos (nat_abs to)) HORIZON ≡ true → IsTooFull q given → Refuses formats p (order.Seek to) given
not_sought p q to given is within (inl memory) = inl memory
not_sought p q to given is within (inr (full, none)) =
    inr (at_moment_full p (nat_abs to) (filter (λ (x : LogEntry). int_le x.moment (pos (nat_abs to))) p.log) within (subst (λ (r : Presentation). diary_of (course_of r) ≡ None) is none) ∙ ap Err (sym full))

module _ {I : Type 0} (tell : Telling I) where
  pub sought_anew : (p q : Presentation) (s : CellsState) (to : ℤ) (old new : List I) → IsState (sought_of p to) → IsReplayed (sought_of p to) s → q ≡ s.presentation → new ≡ old ++ gone_told tell p s.presentation ++ told_of tell s.presentation (changes_between p s.presentation) → Tells tell formats p q (order.Seek to) (drop (length old) new)
  sought_anew p q s to old new there is e told =
      let at = is.presentation_is in
      let here : q ≡ sought_of p to = e ∙ at in
      let diary : IsSome (diary_of (course_of q)) = subst (λ (r : Presentation). IsSome (diary_of (course_of r))) (sym e) (ap is_some is.settled) in
      let all : new ≡ old ++ gone_told tell p (sought_of p to) ++ told_of tell p (changes_between p (sought_of p to)) =
      subst (λ (r : Presentation). new ≡ old ++ gone_told tell p r ++ told_of tell r (changes_between p r)) at told in
      let lines : new ≡ old ++ told_of tell p (changes_between p (sought_of p to)) =
      all
      ∙ ap (λ (t : List I). old ++ t ++ told_of tell p (changes_between p (sought_of p to))) (none_gone tell p (sought_of p to) refl)
      ∙ ap (λ (t : List I). t ++ told_of tell p (changes_between p (sought_of p to))) (append-nil old) in
      sought tell p q to old new here (subst IsState (sym here) there) diary
      (lines ∙ ap (λ (r : Presentation). old ++ told_of tell p (changes_between p r)) (sym here))

-- what was appended in two parts
pub appended_both : {T E : Type 0} (r : Result T E) {A : Type 0} (old new first second : List A) → OnOk r (new ≡ old ++ first ++ second) → OnOk r (new ≡ old ++ drop (length old) new)
appended_both (Ok x) old new first second is = is_appended old new (first ++ second) (is ∙ append_assoc old first second)
appended_both (Err e) old new first second is = tt

-- what two facts of an answer give together
pub on_both : {T E P Q R : Type 0} (r : Result T E) → (P → Q → R) → OnOk r P → OnOk r Q → OnOk r R
on_both (Ok x) f p q = f p q
on_both (Err e) f p q = tt

-- ---- what came from outside

module _ {I : Type 0} (tell : Telling I) where
  pub heard_as : (p q : Presentation) (what : Happening) (old new : List I) → length p.log < LOG_ENTRIES → q ≡ with_logged p (entry_of p what) → IsSome (diary_of (course_of q)) → new ≡ old ++ told_of tell p (changes_between p (with_logged p (entry_of p what))) → IsHeardBy tell p what q (drop (length old) new)
  heard_as p q what old new room is some told =
      let diary : IsSome (diary_of (course_of (with_logged p (entry_of p what)))) = subst (λ (r : Presentation). IsSome (diary_of (course_of r))) is some in
      record {
        state =
            ap (λ (t : Bool). and_then (unless (not t) refusal.LogFull (with_logged p (entry_of p what))) (unless_too_full limits)) (lt-ltb (length p.log) LOG_ENTRIES room)
            ∙ (has_diary (with_logged p (entry_of p what)) diary ∙ ap Ok (sym is));
        told_is = cut_off old new (told_of tell p (changes_between p (with_logged p (entry_of p what)))) told ∙ ap (λ (r : Presentation). told_of tell p (changes_between p r)) (sym is);
      }

pub may_event : (s : ℕ) (given name : List ℕ) → is_serial s ≡ true → given ≡ name → (is_event_name name && not (is_raised_name name)) ≡ true → may_happen (happening.Event s given) ≡ true
may_event s given name serial alike is =
    let parts = and_parts (is_event_name name) (not (is_raised_name name)) is in
    subst (λ (l : List ℕ). may_happen (happening.Event s l) ≡ true) (sym alike)
    (ap (λ t. (t && is_event_name name) && not (is_raised_name name)) serial ∙ ap (λ t. t && not (is_raised_name name)) parts.0 ∙ parts.1)

pub may_media : (s : ℕ) (given long : ℤ) → is_serial s ≡ true → given ≡ long → is_clock long ≡ true → may_happen (happening.Media s given) ≡ true
may_media s given long serial alike is =
    subst (λ (v : ℤ). may_happen (happening.Media s v) ≡ true) (sym alike) (ap (λ t. t && is_clock long) serial ∙ is)

-- the document stays
pub heard_document : (p q : Presentation) (what : Happening) → logged_within limits p what ≡ Ok q → q.document ≡ p.document
heard_document p q what e = by_room (nat_lt (length p.log) LOG_ENTRIES) e
  where
    by_diary : (o : Option (List Entry)) → kept_where (with_logged p (entry_of p what)) o ≡ Ok q → q.document ≡ p.document
    by_diary None e = cc
    by_diary (Some d) e = let one : with_logged p (entry_of p what) ≡ q = cc in ap (λ (r : Presentation). r.document) (sym one)

    by_room : (t : Bool) → and_then (unless (not t) refusal.LogFull (with_logged p (entry_of p what))) (unless_too_full limits) ≡ Ok q → q.document ≡ p.document
    by_room true e = by_diary (diary_of (course_of (with_logged p (entry_of p what)))) e
    by_room false e = cc

module _ {I : Type 0} (tell : Telling I) where
  -- an order that comes to what is heard
  pub heard_answered : (p q : Presentation) (o : Order) (what : Happening) (text : List I) → outcome formats p o ≡ logged_within limits p what
      → order_told tell p q o ≡ gone_told tell p q ++ flat_map (change_told tell q.document.nodes) (changes_between p q) → IsHeardBy tell p what q text → Tells tell formats p q o text
  heard_answered p q o what text is answer heard = record {
    state = is ∙ heard.state;
    answer = told_alone tell p q (changes_between p q) text (heard_document p q what heard.state) heard.told_is ∙ sym answer;
  }

pub not_heard : (p : Presentation) (o : Order) (what : Happening) (r : Refusal) → outcome formats p o ≡ logged_within limits p what → IsNotHeard p what r → Refuses formats p o r
not_heard p o what r is (inl memory) = inl memory
not_heard p o what r is (inr none) = inr (is ∙ none)

pub event_is : (p : Presentation) (named : Who) (s : ℕ) (given name : List ℕ) (n : Node) → element_named p named ≡ Ok n → s ≡ n.serial → given ≡ name → outcome formats p (order.Event named name) ≡ logged_within limits p (happening.Event s given)
event_is p named s given name n e same alike =
    let at = found_named p named n e in
    let one : happening.Event n.serial name ≡ happening.Event s given = cc in
    ap (λ o. and_then (found o) (λ (m : Node). and_then (unless (not (is_element m)) refusal.BadPlace m) (λ (x : Node). logged_within limits p (happening.Event x.serial name)))) at.0
    ∙ ap (λ (t : Bool). and_then (unless (not t) refusal.BadPlace n) (λ (x : Node). logged_within limits p (happening.Event x.serial name))) at.1
    ∙ ap (logged_within limits p) one

pub event_refused : (p : Presentation) (named : Who) (name : List ℕ) (r : Refusal) → element_named p named ≡ Err r → Refuses formats p (order.Event named name) r
event_refused p named name r e = inr (by_node (node_of p.document.nodes named) e)
  where
    by_element : (m : Node) (t : Bool) → unless {A = Node} (not t) refusal.BadPlace m ≡ Err r → and_then (unless (not t) refusal.BadPlace m) (λ (x : Node). logged_within limits p (happening.Event x.serial name)) ≡ Err r
    by_element m true e = cc
    by_element m false e = let one : refusal.BadPlace ≡ r = cc in ap Err one

    by_node : (o : Option Node) → and_then (found o) (λ (m : Node). unless (not (is_element m)) refusal.BadPlace m) ≡ Err r → and_then (found o) (λ (m : Node). and_then (unless (not (is_element m)) refusal.BadPlace m) (λ (x : Node). logged_within limits p (happening.Event x.serial name))) ≡ Err r
    by_node None e = let one : refusal.NoElement ≡ r = cc in ap Err one
    by_node (Some m) e = by_element m (is_element m) e

pub media_is : (p : Presentation) (named : Who) (s : ℕ) (given long : ℤ) (n : Node) → node_of p.document.nodes named ≡ Some n → is_continuous n.kind ≡ true → s ≡ n.serial → given ≡ long → outcome formats p (order.Media named long) ≡ logged_within limits p (happening.Media s given)
media_is p named s given long n some continuous same alike =
    let one : happening.Media n.serial long ≡ happening.Media s given = cc in
    ap (λ o. and_then (found o) (λ (m : Node). and_then (unless (not (is_continuous m.kind)) refusal.NotContinuous m) (λ (x : Node). logged_within limits p (happening.Media x.serial long)))) some
    ∙ ap (λ (t : Bool). and_then (unless (not t) refusal.NotContinuous n) (λ (x : Node). logged_within limits p (happening.Media x.serial long))) continuous
    ∙ ap (logged_within limits p) one

pub media_refused : (p : Presentation) (named : Who) (long : ℤ) (n : Node) → node_of p.document.nodes named ≡ Some n → is_continuous n.kind ≡ false → Refuses formats p (order.Media named long) refusal.NotContinuous
media_refused p named long n some none =
    inr (ap (λ o. and_then (found o) (λ (m : Node). and_then (unless (not (is_continuous m.kind)) refusal.NotContinuous m) (λ (x : Node). logged_within limits p (happening.Media x.serial long)))) some
    ∙ ap (λ (t : Bool). and_then (unless (not t) refusal.NotContinuous n) (λ (x : Node). logged_within limits p (happening.Media x.serial long))) none)
