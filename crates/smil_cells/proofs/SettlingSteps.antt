-- Settling goes on its way: time that passes, a group that is appended, and what has come to rest.
use Rattle.std.proofs.Common.{◌≡◌, refl, sym, ◌∙◌, ap, subst, ℕ, suc, ◌+◌, ◌-◌, ◌<◌, ◌≤◌, List, [], ◌∷◌, ◌++◌, Option, Some, None, ℤ, Bool, true, false, arith, length, drop, filter, append_assoc, append-nil}
use Rattle.std.proofs.Math.Seq.{drop-append_seam}
use Rattle.std.specs.Prelude.{pos, negsuc, nat_abs, ◌≤ℤ◌, not, ◌&&◌, is_some, int_le, cond, ◌+ℤ◌}
use Rattle.std.proofs.lemmas.Int.{ints}
use Rattle.std.proofs.lemmas.List.Sums.{sum_by-append}
use Rattle.smil_model.specs.declared.diary.Entry.{Entry}
use Rattle.smil_model.specs.declared.interval.Interval.{Interval}
use Rattle.smil_model.specs.declared.document.Node.{Node}
use Rattle.smil_model.specs.declared.diary.LogEntry.{LogEntry}
use Rattle.smil_model.specs.declared.limits.TheConstants.{DIARY_ENTRIES}
use Rattle.smil_model.specs.declared.times.Time.{Time}
use Rattle.smil_model.specs.Times.{time_le, time_eq}
use Rattle.smil_model.specs.reach.Reach.{reach}
use Rattle.smil_model.specs.interval.Current.{in_table}
use Rattle.smil_model.specs.document.Document.{Document, elements, node_at}
use Rattle.smil_model.specs.document.Closure.{has}
use Rattle.smil_model.specs.reach.Bounds.{reaches}
use Rattle.smil_model.specs.diary.Diary.{History}
use Rattle.smil_model.specs.shown.Orders.{Presentation, as_of}
use Rattle.smil_model.specs.shown.Orders.{course_of}
use Rattle.smil_model.specs.document.Document.{serials}
use Rattle.smil_model.specs.document.Valid.{IsNumberedTree}
use Rattle.smil_model.specs.happening.Resolution.{Reaches}
use Rattle.smil_laws.specs.Agreement.{course_on}
use Rattle.smil_laws.specs.Courses.{ReachesFurther}
use Rattle.smil_diary.specs.declared.fault.BookFault.{BookFault}
use Rattle.smil_past.specs.Past.{MarkedHistory}
use Rattle.smil_cells.specs.Standings.{IsSoundUnderMark, WhereMarked, marked_by}
use Rattle.smil_laws.specs.Same.{IsSame}
use Rattle.smil_cells.specs.CellsState.{CellsState, is_same_interval, fresh, IsOnWay, IsPassed, IsNext, IsFront, GoesOn, StayTouched, WhereTold, history_of, reached_since, fresh_since, interval_at}
use Rattle.std.proofs.lemmas.Bool.{and_parts}
use Rattle.smil_model.proofs.NumberOrders.{le_exact, le_self, time_exact, time_self}

-- what was there at first
pub begun : (s : CellsState) (until : ℤ) → s.fault ≡ None → pos s.presentation.now ≤ℤ until → IsOnWay s s until
begun s until sound within = record {
  presentation_is = refl;
  from = omega arith;
  within = within;
  diary = ([], sym (append-nil s.diary));
  sound = sound;
  marked = refl;
  more = λ e here t. t;
  views = λ e here t. refl;
}

not_true : (b : Bool) → b ≡ false → b ≡ true → ⊥
not_true true p q = cc
not_true false p q = cc

pub untouched : (a b : Bool) → b ≡ false → (a ≡ true → b ≡ true) → a ≡ false
untouched true b n t = absurd (not_true b n (t refl))
untouched false b n t = refl

-- the diary of two steps
pub joined : (x y z m n : List Entry) → y ≡ x ++ m → z ≡ y ++ n → z ≡ x ++ (m ++ n)
joined x y z m n e f = f ∙ ap (λ (k : List Entry). k ++ n) e ∙ append_assoc x m n

-- ---- intervals that differ

same_one : (i j : Interval) → i.begin ≡ j.begin → i.«end» ≡ j.«end» → i ≡ j
same_one i j p q = subst (λ (f : Time). i ≡ record { begin = j.begin; «end» = f }) q (subst (λ (b : ℤ). i ≡ record { begin = b; «end» = i.«end» }) p refl)

same_is : (x y : Option Interval) → is_same_interval x y ≡ true → x ≡ y
same_is None None e = refl
same_is None (Some j) e = absurd (not_true false refl e)
same_is (Some i) None e = absurd (not_true false refl e)
same_is (Some i) (Some j) e =
    let l = (and_parts (int_le i.begin j.begin && int_le j.begin i.begin) (time_eq i.«end» j.«end») e).1 in
    let b = (and_parts (int_le i.begin j.begin && int_le j.begin i.begin) (time_eq i.«end» j.«end») e).0 in
    ap Some (same_one i j
    (le_exact i.begin j.begin (and_parts (int_le i.begin j.begin) (int_le j.begin i.begin) b).0 (and_parts (int_le i.begin j.begin) (int_le j.begin i.begin) b).1)
    (time_exact i.«end» j.«end» (and_parts (time_le i.«end» j.«end») (time_le j.«end» i.«end») l).0 (and_parts (time_le i.«end» j.«end») (time_le j.«end» i.«end») l).1))

abbrev pub is_fresh : Option Interval → Option Interval → Bool
is_fresh x y = is_some y && not (is_same_interval x y)

fresh_there : (x y z : Option Interval) → is_fresh x z ≡ true → is_fresh x y ≡ false → is_fresh y z ≡ true
fresh_there x None (Some k) p q = refl
fresh_there x None None p q = p
fresh_there x (Some j) z p q = by_test (is_same_interval x (Some j)) refl
  where
    by_test : (b : Bool) → is_same_interval x (Some j) ≡ b → is_fresh (Some j) z ≡ true
    by_test true e = subst (λ (w : Option Interval). is_fresh w z ≡ true) (same_is x (Some j) e) p
    by_test false e = absurd (not_true (is_fresh x (Some j)) q (ap not e))

module _ (a b b' c : ℕ → Option Interval) (same : (s : ℕ) → b' s ≡ b s) where
  abbrev counted : (ℕ → Option Interval) → (ℕ → Option Interval) → List Node → ℕ
  counted x y es = length (filter (λ (e : Node). is_fresh (x e.serial) (y e.serial)) es)

  pub triangle : (es : List Node) → counted a c es ≤ counted a b es + counted b' c es
  triangle [] = omega arith
  triangle (e ∷ es) = by_tests (is_fresh (a e.serial) (c e.serial)) (is_fresh (a e.serial) (b e.serial)) (is_fresh (b' e.serial) (c e.serial)) refl refl refl (triangle es)
    where
      by_tests : (t v w : Bool) → is_fresh (a e.serial) (c e.serial) ≡ t → is_fresh (a e.serial) (b e.serial) ≡ v → is_fresh (b' e.serial) (c e.serial) ≡ w → counted a c es ≤ counted a b es + counted b' c es → counted a c (e ∷ es) ≤ counted a b (e ∷ es) + counted b' c (e ∷ es)
      by_tests t v w p q r below = rw p (rw q (rw r (numbers t v w (λ x y. by_same t v w p q r x y) below)))
        where
          by_same : (t v w : Bool) → is_fresh (a e.serial) (c e.serial) ≡ t → is_fresh (a e.serial) (b e.serial) ≡ v → is_fresh (b' e.serial) (c e.serial) ≡ w → t ≡ true → v ≡ false → w ≡ true
          by_same t v w p q r x y = sym r ∙ ap (λ (z : Option Interval). is_fresh z (c e.serial)) (same e.serial) ∙ fresh_there (a e.serial) (b e.serial) (c e.serial) (p ∙ x) (q ∙ y)

          numbers : (t v w : Bool) → (t ≡ true → v ≡ false → w ≡ true) → length (filter (λ (e : Node). is_fresh (a e.serial) (c e.serial)) es) ≤ length (filter (λ (e : Node). is_fresh (a e.serial) (b e.serial)) es) + length (filter (λ (e : Node). is_fresh (b' e.serial) (c e.serial)) es)
              → length (cond t (e ∷ filter (λ (e : Node). is_fresh (a e.serial) (c e.serial)) es) (filter (λ (e : Node). is_fresh (a e.serial) (c e.serial)) es)) ≤ length (cond v (e ∷ filter (λ (e : Node). is_fresh (a e.serial) (b e.serial)) es) (filter (λ (e : Node). is_fresh (a e.serial) (b e.serial)) es)) + length (cond w (e ∷ filter (λ (e : Node). is_fresh (b' e.serial) (c e.serial)) es) (filter (λ (e : Node). is_fresh (b' e.serial) (c e.serial)) es))
          numbers true true true f l = omega (arith, l)
          numbers true true false f l = omega (arith, l)
          numbers true false true f l = omega (arith, l)
          numbers true false false f l = absurd (not_true false refl (f refl refl))
          numbers false true true f l = omega (arith, l)
          numbers false true false f l = omega (arith, l)
          numbers false false true f l = omega (arith, l)
          numbers false false false f l = omega (arith, l)

-- ---- one standing after another

-- how many intervals were evaluated by two calls, at most and at least
pub most_adds_up : (counts : Bool) (a b c x y z : ℕ) → a ≤ b → b ≤ c → z ≡ x + y → WhereTold counts (b - a ≤ x) → WhereTold counts (c - b ≤ y) → WhereTold counts (c - a ≤ z)
most_adds_up false a b c x y z from later whole p q = tt
most_adds_up true a b c x y z from later whole p q = numbers p q
  where
    numbers : b - a ≤ x → c - b ≤ y → c - a ≤ z
    numbers p q = omega (arith, from, later, whole, p, q)

pub least_adds_up : (counts : Bool) (a b c x y z : ℕ) → a ≤ b → b ≤ c → z ≤ x + y → WhereTold counts (x ≤ b - a) → WhereTold counts (y ≤ c - b) → WhereTold counts (z ≤ c - a)
least_adds_up false a b c x y z from later few p q = tt
least_adds_up true a b c x y z from later few p q = numbers p q
  where
    numbers : x ≤ b - a → y ≤ c - b → z ≤ c - a
    numbers p q = omega (arith, from, later, few, p, q)

pub drops : (x y z : List Entry) → z ≡ x ++ y → drop (length x) z ≡ y
drops x y z e = ap (drop (length x)) e ∙ drop-append_seam x y

-- the reaches of two parts add up
reached_parts : (nodes : List Node) (log : List LogEntry) (m n : List Entry) (a b c : ℕ) → a ≡ reaches nodes log (m ++ n) → b ≡ reaches nodes log m → c ≡ reaches nodes log n → a ≡ b + c
reached_parts nodes log m n a b c whole first second =
    numbers (reaches nodes log (m ++ n)) (reaches nodes log m) (reaches nodes log n) whole first second (sum_by-append (λ (x : Entry). length (reach nodes log x)) m n)
  where
    numbers : (x y z : ℕ) → a ≡ x → b ≡ y → c ≡ z → x ≡ y + z → a ≡ b + c
    numbers x y z e f g h = omega (arith, e, f, g, h)

module _ (old mid new : CellsState) (document : mid.presentation.document ≡ old.presentation.document) where
  -- the first entries reach as many elements by the new log
  pub reached_through : (m n : List Entry) → mid.diary ≡ old.diary ++ m → new.diary ≡ mid.diary ++ n → reached_since old mid ≡ reaches old.presentation.document.nodes new.presentation.log m → reached_since old new ≡ reached_since old mid + reached_since mid new
  reached_through m n first second by_mid =
      let nodes = old.presentation.document.nodes in
      let log = new.presentation.log in
      reached_parts nodes log m n (reached_since old new) (reached_since old mid) (reached_since mid new)
      (ap (reaches nodes log) (drops old.diary (m ++ n) new.diary (joined old.diary mid.diary new.diary m n first second)))
      by_mid
      (ap (λ (d : Document). reaches d.nodes log (drop (length mid.diary) new.diary)) document ∙ ap (reaches nodes log) (drops mid.diary n new.diary second))

  -- what is fresh in the end was so on the way
  pub fresh_through : fresh_since old new ≤ fresh_since old mid + fresh_since mid new
  fresh_through =
      subst (λ (d : Document). fresh_since old new ≤ fresh_since old mid + fresh d.nodes (interval_at mid) (interval_at new)) (sym document)
      (triangle (interval_at old) (interval_at mid) (interval_at mid) (interval_at new) (λ x. refl) (elements old.presentation.document.nodes))

module _ (old s t u : CellsState) (until : ℤ) (way : IsOnWay old s until) (passed : IsPassed s t) (within : pos t.presentation.now ≤ℤ until) (next : IsNext t u) where
  same_document : u.presentation.document ≡ old.presentation.document
  same_document = ap (λ (p : Presentation). p.document) next.presentation_is ∙ ap (λ (p : Presentation). p.document) passed.presentation_is ∙ ap (λ (p : Presentation). p.document) way.presentation_is

  same_log : u.presentation.log ≡ old.presentation.log
  same_log = ap (λ (p : Presentation). p.log) next.presentation_is ∙ ap (λ (p : Presentation). p.log) passed.presentation_is ∙ ap (λ (p : Presentation). p.log) way.presentation_is

  same_now : u.presentation.now ≡ t.presentation.now
  same_now = ap (λ (p : Presentation). p.now) next.presentation_is

  document_then : t.presentation.document ≡ old.presentation.document
  document_then = ap (λ (p : Presentation). p.document) passed.presentation_is ∙ ap (λ (p : Presentation). p.document) way.presentation_is

  document_before : s.presentation.document ≡ old.presentation.document
  document_before = ap (λ (p : Presentation). p.document) way.presentation_is

  here_in : (e : Node) (d d' : Document) → d' ≡ d → node_at (elements d.nodes) e.serial ≡ Some e → node_at (elements d'.nodes) e.serial ≡ Some e
  here_in e d d' is here = rw is here

  touched_then : (e : Node) → node_at (elements old.presentation.document.nodes) e.serial ≡ Some e → has t.touched e.serial ≡ true → has u.touched e.serial ≡ true
  touched_then e here = next.more e (here_in e old.presentation.document t.presentation.document document_then here)

  touched_before : (e : Node) → node_at (elements old.presentation.document.nodes) e.serial ≡ Some e → has s.touched e.serial ≡ true → has u.touched e.serial ≡ true
  touched_before e here q = touched_then e here (rw passed.touched_is q)

  built : (p q : Presentation) → p.document ≡ q.document → p.log ≡ q.log → p ≡ as_of q p.now
  built p q d l = subst (λ (x : List LogEntry). p ≡ record { document = q.document; log = x; now = p.now }) l (subst (λ (x : Document). p ≡ record { document = x; log = p.log; now = p.now }) d refl)

  pub onward : IsOnWay old u until
  onward = record {
    presentation_is = built u.presentation old.presentation same_document same_log;
    from = let a = way.from in let b = passed.from in let c = same_now in omega (arith, a, b, c);
    within = rw same_now within;
    diary = (way.diary.0 ++ next.diary.0, joined old.diary s.diary u.diary way.diary.0 next.diary.0 way.diary.1 (next.diary.1 ∙ ap (λ (k : List Entry). k ++ next.diary.0) passed.diary_is));
    sound = next.sound;
    marked = next.marked ∙ passed.marked ∙ way.marked;
    more = λ e here q. touched_before e here (way.more e here q);
    views = λ e here free.
        next.views e (here_in e old.presentation.document t.presentation.document document_then here) free
        ∙ passed.same.view e
        ∙ way.views e here (untouched (has s.touched e.serial) (has u.touched e.serial) free (touched_before e here));
  }

  pub fewer_free : DIARY_ENTRIES - length u.diary < DIARY_ENTRIES - length s.diary
  fewer_free = numbers DIARY_ENTRIES (length s.diary) (length t.diary) (length u.diary) (ap (λ (x : List Entry). length x) passed.diary_is) next.grows next.few
    where
      numbers : (most x y z : ℕ) → y ≡ x → y < z → z ≤ most → most - z < most - x
      numbers most x y z e g f = omega (arith, e, g, f)

  -- the reaches add up
  adds_up : reached_since old u ≡ reached_since old s + reached_since t u
  adds_up =
      let m = way.diary.0 in
      let n = next.diary.0 in
      let ds = drops old.diary m s.diary way.diary.1 in
      let du = drops old.diary (m ++ n) u.diary (joined old.diary s.diary u.diary m n way.diary.1 (next.diary.1 ∙ ap (λ (k : List Entry). k ++ n) passed.diary_is)) in
      let dt = drops t.diary n u.diary next.diary.1 in
      let N = old.presentation.document.nodes in
      let L = old.presentation.log in
      let ls : s.presentation.log ≡ L = ap (λ (p : Presentation). p.log) way.presentation_is in
      let nt : t.presentation.document.nodes ≡ N = ap (λ (d : Document). d.nodes) document_then in
      let whole : reached_since old u ≡ reaches N L (m ++ n) = ap (λ (l : List LogEntry). reaches N l (drop (length old.diary) u.diary)) same_log ∙ ap (λ (k : List Entry). reaches N L k) du in
      let first : reached_since old s ≡ reaches N L m = ap (λ (l : List LogEntry). reaches N l (drop (length old.diary) s.diary)) ls ∙ ap (λ (k : List Entry). reaches N L k) ds in
      let second : reached_since t u ≡ reaches N L n = ap (λ (x : List Node). reaches x u.presentation.log (drop (length t.diary) u.diary)) nt ∙ ap (λ (l : List LogEntry). reaches N l (drop (length t.diary) u.diary)) same_log ∙ ap (λ (k : List Entry). reaches N L k) dt in
      reached_parts N L m n (reached_since old u) (reached_since old s) (reached_since t u) whole first second

  pub reached_on : (a b c : ℕ) (flag : Bool) → a ≤ b → b ≤ c → WhereTold flag (b - a ≤ reached_since old s) → WhereTold flag (c - b ≤ reached_since t u) → WhereTold flag (c - a ≤ reached_since old u)
  reached_on a b c flag p q x y = most_adds_up flag a b c (reached_since old s) (reached_since t u) (reached_since old u) p q adds_up x y

  -- what differs in the end differed on the way
  fewer_fresh : fresh_since old u ≤ fresh_since old s + fresh_since t u
  fewer_fresh =
      subst (λ (x : List Node). fresh_since old u ≤ fresh_since old s + fresh x (interval_at t) (interval_at u)) (sym (ap (λ (d : Document). d.nodes) document_then))
      (triangle (interval_at old) (interval_at s) (interval_at t) (interval_at u) (λ x. ap (λ (table : List (ℕ × Option Interval)). in_table table x) passed.same.table) (elements old.presentation.document.nodes))

  pub fresh_on : (a b c : ℕ) (flag : Bool) → a ≤ b → b ≤ c → WhereTold flag (fresh_since old s ≤ b - a) → WhereTold flag (fresh_since t u ≤ c - b) → WhereTold flag (fresh_since old u ≤ c - a)
  fresh_on a b c flag p q x y = least_adds_up flag a b c (fresh_since old s) (fresh_since t u) (fresh_since old u) p q fewer_fresh x y

-- a full diary at the moment is a full one of a later course
pub front_later : ReachesFurther → (p q : Presentation) (last : ℕ) (diary : List Entry) → IsNumberedTree p.document → p.document ≡ q.document → p.log ≡ q.log → p.now ≤ last
    → IsFront (course_of p) diary → IsFront (course_of (as_of q last)) diary
front_later further p q last diary numbered d l from front =
    subst (λ (x : Document). IsFront (record { nodes = x.nodes; log = q.log; last = last }) diary) d
    (subst (λ (x : List LogEntry). IsFront (record { nodes = p.document.nodes; log = x; last = last }) diary) l
    (record {
      at = front.at;
      reached = subst (λ (x : List LogEntry). Reaches (course_on p.document.nodes x last) front.at) (append-nil p.log) (further p.document p.log [] p.now last front.at numbered front.reached tt from);
      front = front.front;
      many = front.many;
    }))

-- ---- what has come to rest

-- other elements are touched, and no refusal is answered
pub touched_anew : (is_current is_marked : History → ℤ → Type 0) (has_mark : Bool) (past : MarkedHistory) (moment : ℤ) (fault : Option BookFault) (mark : Option ℤ) (touched others : List ℕ) → fault ≡ None
    → IsSoundUnderMark is_current is_marked has_mark past moment fault mark touched → IsSoundUnderMark is_current is_marked has_mark past moment None mark others
touched_anew is_current is_marked has_mark past moment fault mark touched others sound kept = record {
  present = kept.present;
  log = kept.log;
  sound = λ e. let was = kept.sound sound in record { state = was.state; reached = was.reached; current = was.current };
  marked = by_mark (marked_by past mark past.marked) kept.marked;
  table_mark = kept.table_mark;
  past_mark = kept.past_mark;
  mark_from = kept.mark_from;
  lens = kept.lens;
}
  where
    by_mark : (m : Option (Presentation × List Entry)) → WhereMarked is_marked touched m → WhereMarked is_marked others m
    by_mark None k = k
    by_mark (Some m) k = record { state = k.state; reached = k.reached; current = k.current }

-- other elements are touched, and a refusal is answered
pub touched_refused : (is_current is_marked : History → ℤ → Type 0) (has_mark : Bool) (past : MarkedHistory) (moment : ℤ) (fault : Option BookFault) (mark : Option ℤ) (touched others : List ℕ) (f : BookFault)
    → IsSoundUnderMark is_current is_marked has_mark past moment fault mark touched → IsSoundUnderMark is_current is_marked has_mark past moment (Some f) mark others
touched_refused is_current is_marked has_mark past moment fault mark touched others f kept = record {
  present = kept.present;
  log = kept.log;
  sound = λ never. cc;
  marked = by_mark (marked_by past mark past.marked) kept.marked;
  table_mark = kept.table_mark;
  past_mark = kept.past_mark;
  mark_from = kept.mark_from;
  lens = kept.lens;
}
  where
    by_mark : (m : Option (Presentation × List Entry)) → WhereMarked is_marked touched m → WhereMarked is_marked others m
    by_mark None k = k
    by_mark (Some m) k = record { state = k.state; reached = k.reached; current = k.current }

-- the standing at rest, later and with its elements in order
pub record IsRest (s t : CellsState) : Type 0 where
  pub presentation_is : t.presentation ≡ as_of s.presentation t.presentation.now
  pub diary_is : t.diary ≡ s.diary
  pub sound : t.fault ≡ None
  pub marked : t.marked ≡ s.marked
  pub order : t.touched ≡ filter (has t.touched) (serials (elements s.presentation.document.nodes))
  pub touched : (e : Node) → node_at (elements s.presentation.document.nodes) e.serial ≡ Some e → has t.touched e.serial ≡ has s.touched e.serial
  pub same : IsSame (history_of s) (pos s.presentation.now) (history_of t) (pos t.presentation.now)

module _ (old s t : CellsState) (until : ℤ) (way : IsOnWay old s until) (rest : IsRest s t) where
  at_rest : s.presentation.document ≡ old.presentation.document
  at_rest = ap (λ (p : Presentation). p.document) way.presentation_is

  found : (e : Node) → node_at (elements old.presentation.document.nodes) e.serial ≡ Some e → node_at (elements s.presentation.document.nodes) e.serial ≡ Some e
  found e here = rw at_rest here

  pub goes_on : GoesOn old t
  goes_on = record {
    diary = (way.diary.0, rest.diary_is ∙ way.diary.1);
    sound = rest.sound;
    marked = rest.marked ∙ way.marked;
    touched = rest.order ∙ ap (λ (d : Document). filter (has t.touched) (serials (elements d.nodes))) at_rest;
    views = λ e here free. rest.same.view e ∙ way.views e here (sym (rest.touched e (found e here)) ∙ free);
  }

  pub stay_touched : StayTouched old t
  stay_touched e here q = rest.touched e (found e here) ∙ way.more e here q

  pub fresh_at_rest : fresh_since old t ≡ fresh_since old s
  fresh_at_rest = fresh_same (interval_at old) (interval_at s) (interval_at t) (λ x. ap (λ (table : List (ℕ × Option Interval)). in_table table x) rest.same.table) (elements old.presentation.document.nodes)
    where
      fresh_same : (a b c : ℕ → Option Interval) → ((x : ℕ) → c x ≡ b x) → (es : List Node) → length (filter (λ (e : Node). is_fresh (a e.serial) (c e.serial)) es) ≡ length (filter (λ (e : Node). is_fresh (a e.serial) (b e.serial)) es)
      fresh_same a b c same [] = refl
      fresh_same a b c same (e ∷ es) =
          ap (λ (x : Option Interval). length (cond (is_fresh (a e.serial) x) (e ∷ filter (λ (e : Node). is_fresh (a e.serial) (c e.serial)) es) (filter (λ (e : Node). is_fresh (a e.serial) (c e.serial)) es))) (same e.serial)
          ∙ by_test (is_fresh (a e.serial) (b e.serial)) (fresh_same a b c same es)
        where
          by_test : (z : Bool) → length (filter (λ (e : Node). is_fresh (a e.serial) (c e.serial)) es) ≡ length (filter (λ (e : Node). is_fresh (a e.serial) (b e.serial)) es)
              → length (cond z (e ∷ filter (λ (e : Node). is_fresh (a e.serial) (c e.serial)) es) (filter (λ (e : Node). is_fresh (a e.serial) (c e.serial)) es)) ≡ length (cond z (e ∷ filter (λ (e : Node). is_fresh (a e.serial) (b e.serial)) es) (filter (λ (e : Node). is_fresh (a e.serial) (b e.serial)) es))
          by_test true q = ap suc q
          by_test false q = q

-- ---- at first

pub nothing_reached : (s : CellsState) (flag : Bool) (a : ℕ) → WhereTold flag (a - a ≤ reached_since s s)
nothing_reached s false a = tt
nothing_reached s true a = none a (reached_since s s)
  where
    none : (a r : ℕ) → a - a ≤ r
    none a r = omega arith

pub same_self : (x : Option Interval) → is_fresh x x ≡ false
same_self None = refl
same_self (Some i) =
    let same : is_same_interval (Some i) (Some i) ≡ true = rw (le_self i.begin) (rw (time_self i.«end») refl) in
    ap not same

pub nothing_fresh : (s : CellsState) (flag : Bool) (a : ℕ) → WhereTold flag (fresh_since s s ≤ a - a)
nothing_fresh s false a = tt
nothing_fresh s true a = by_zero (fresh_since s s) (none (elements s.presentation.document.nodes))
  where
    by_zero : (n : ℕ) → n ≡ 0 → n ≤ a - a
    by_zero n e = omega (arith, e)

    none : (es : List Node) → length (filter (λ (e : Node). is_fresh (interval_at s e.serial) (interval_at s e.serial)) es) ≡ 0
    none [] = refl
    none (e ∷ es) = rw (same_self (interval_at s e.serial)) (none es)

-- ---- numbers

pub below : (n : ℕ) (v : ℤ) → pos n ≤ℤ v → n ≤ nat_abs v
below n (pos k) l = omega (arith, ints, l)
below n (negsuc k) l = absurd (omega (arith, ints, l))

pub sooner : (v x : ℤ) → (v +ℤ pos 1) ≤ℤ x → v ≤ℤ x
sooner v x l = grind (arith, ints)

pub rested : (w s t : CellsState) (others : List ℕ) (n : ℕ) (nodes : List Node) → w ≡ s
    → t ≡ record { presentation = as_of w.presentation n; diary = w.diary; fault = None; marked = w.marked; touched = others }
    → nodes ≡ w.presentation.document.nodes
    → others ≡ filter (has others) (serials (elements nodes))
    → ((e : Node) → node_at (elements nodes) e.serial ≡ Some e → has others e.serial ≡ has w.touched e.serial)
    → IsSame (history_of w) (pos w.presentation.now) (history_of t) (pos t.presentation.now)
    → IsRest s t
rested w s t others n nodes view moved here order kept same =
    subst (λ (x : CellsState). IsRest x t) view
    (subst (λ (x : CellsState). IsSame (history_of w) (pos w.presentation.now) (history_of x) (pos x.presentation.now) → IsRest w x) (sym moved)
    (λ q. record {
      presentation_is = refl;
      diary_is = refl;
      sound = refl;
      marked = refl;
      order = subst (λ (x : List Node). others ≡ filter (has others) (serials (elements x))) here order;
      touched = subst (λ (x : List Node). (e : Node) → node_at (elements x) e.serial ≡ Some e → has others e.serial ≡ has w.touched e.serial) here kept;
      same = q;
    })
    same)

pub no_fewer : (a b c : ℕ) → a ≤ b → b ≤ c → a ≤ c
no_fewer a b c p q = omega (arith, p, q)
