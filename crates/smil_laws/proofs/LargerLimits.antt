-- What meets no limit has the same outcome within larger limits.
use Rattle.std.proofs.Common.{◌≡◌, refl, sym, ◌∙◌, ap, ℕ, ◌+◌, List, [], length, Bool, true, false, arith}
use Rattle.std.specs.Prelude.{filter, int_le, not, ◌||◌, nat_lt, nat_le, nat_abs, Result, Ok, Err, pos}
use Rattle.std.proofs.lemmas.Bool.{or_parts, or_from, leb-true, le-leb, ltb-false, le-ltb}
use Rattle.smil_model.specs.declared.diary.LogEntry.{LogEntry}
use Rattle.smil_model.specs.declared.diary.Happening.{Happening}
use Rattle.smil_model.specs.declared.diary.Happening.TheVariants as happening
use Rattle.smil_model.specs.declared.document.Node.{Node}
use Rattle.smil_model.specs.declared.document.Kind.{Kind}
use Rattle.smil_model.specs.declared.document.Attr.{Attr}
use Rattle.smil_model.specs.declared.document.Attrs.{Attrs}
use Rattle.smil_model.specs.declared.order.Refusal.{Refusal}
use Rattle.smil_model.specs.declared.order.Refusal.TheVariants.{BadPlace, NotContinuous, DuplicateId, TooManyElements, TooManyReferences}
use Rattle.smil_model.specs.declared.order.Who.{Who}
use Rattle.smil_model.specs.declared.order.Order.{Order}
use Rattle.smil_model.specs.declared.order.Order.TheVariants as order
use Rattle.smil_model.specs.document.Document.{Document, node_at, is_element, is_continuous}
use Rattle.smil_model.specs.document.Limits.{Limits}
use Rattle.smil_model.specs.document.Valid.{is_id_taken, kind_of, references}
use Rattle.smil_model.specs.document.Edits.{node_inserted}
use Rattle.smil_model.specs.declared.limits.TheConstants.{SERIALS}
use Rattle.smil_model.specs.happening.Resolution.{resolved}
use Rattle.smil_model.specs.shown.Orders.{Formats, Presentation, course_of, and_then, unless, found, node_of, on_node, may_insert, attr_unset_by, node_removed_from, unless_too_full, at_moment_with, with_logged, set_checked, attr_set_by, insert_checked, node_inserted_by, resolved_with, opened_within, outcome_within}
use Rattle.smil_laws.specs.Migration.{AreBelow, is_for_limit, meets_no_limit}

-- ---- one step after another

-- what goes on the same way has the same outcome
then_same : {A B : Type 0} (r q : Result A Refusal) (f g : A → Result B Refusal) → meets_no_limit (and_then r f) ≡ true → (meets_no_limit r ≡ true → q ≡ r) → ((x : A) → meets_no_limit (f x) ≡ true → g x ≡ f x) → and_then q g ≡ and_then r f
then_same (Ok x) q f g m first later = ap (λ z. and_then z g) (first refl) ∙ later x m
then_same (Err e) q f g m first later = ap (λ z. and_then z g) (first m)

-- where the first step has no limit
go_same : {A B : Type 0} (r : Result A Refusal) (f g : A → Result B Refusal) → meets_no_limit (and_then r f) ≡ true → ((x : A) → meets_no_limit (f x) ≡ true → g x ≡ f x) → and_then r g ≡ and_then r f
go_same r f g m later = then_same r r f g m (λ _. refl) later

-- a check of a limit that is met within the smaller one is met within the larger one
check_same : {A : Type 0} (s t : Bool) (refusal : Refusal) (x : A) → is_for_limit refusal ≡ true → (s ≡ false → t ≡ false) → meets_no_limit (unless s refusal x) ≡ true → unless t refusal x ≡ unless s refusal x
check_same true t refusal x limit fewer m = let never : false ≡ true = sym (ap not limit) ∙ m in cc
check_same false t refusal x limit fewer m = ap (λ b. unless b refusal x) (fewer refl)

module _ (small large : Limits) (below : AreBelow small large) where
  -- ---- the diary

  room_same : (p : Presentation) → meets_no_limit (unless_too_full small p) ≡ true → unless_too_full large p ≡ unless_too_full small p
  room_same p m = by_test (nat_le count small.entries) refl (nat_le count large.entries) refl m
    where
      count : ℕ
      count = length (resolved (course_of p)).diary

      by_test : (s : Bool) → nat_le count small.entries ≡ s → (t : Bool) → nat_le count large.entries ≡ t → meets_no_limit (unless_too_full small p) ≡ true → unless_too_full large p ≡ unless_too_full small p
      by_test true e true d m = rw (e, d)
      by_test true e false d m =
          let more : nat_le count large.entries ≡ true = le-leb _ _ (omega (arith, leb-true _ _ e, below.entries)) in
          let never : false ≡ true = sym d ∙ more in cc
      by_test false e t d m = let never : false ≡ true = sym (rw e) ∙ m in cc

  -- ---- edits

  -- references that are not too many for the smaller limit are not for the larger one
  light : (n : ℕ) → nat_lt small.references n ≡ false → nat_lt large.references n ≡ false
  light n q = le-ltb _ _ (omega (arith, ltb-false _ _ q, below.references))

  few : (n : ℕ) (full : Bool) → (nat_lt small.nodes n || full) ≡ false → (nat_lt large.nodes n || full) ≡ false
  few n full q =
      let parts = or_parts (nat_lt small.nodes n) full q in
      or_from _ _ (le-ltb _ _ (omega (arith, ltb-false _ _ parts.0, below.nodes))) parts.1

  set_same : (document : Document) (n : Node) (given : Attr) → meets_no_limit (set_checked small document n given) ≡ true → set_checked large document n given ≡ set_checked small document n given
  set_same document n given m = go_same _ _ _ m (λ after w. check_same _ _ TooManyReferences after refl (light (references after.nodes)) w)

  -- the checks of a document with a new node
  checked : Limits → Bool → Document → Result Document Refusal
  checked within full after =
      and_then (unless (nat_lt within.nodes (length after.nodes) || full) TooManyElements after)
      (λ (d : Document). unless (nat_lt within.references (references d.nodes)) TooManyReferences d)

  checked_same : (full : Bool) (after : Document) → meets_no_limit (checked small full after) ≡ true → checked large full after ≡ checked small full after
  unfolding checked
  checked_same full after m =
      then_same (unless (nat_lt small.nodes (length after.nodes) || full) TooManyElements after) (unless (nat_lt large.nodes (length after.nodes) || full) TooManyElements after)
      (λ (d : Document). unless (nat_lt small.references (references d.nodes)) TooManyReferences d) (λ (d : Document). unless (nat_lt large.references (references d.nodes)) TooManyReferences d) m
      (λ v. check_same (nat_lt small.nodes (length after.nodes) || full) (nat_lt large.nodes (length after.nodes) || full) TooManyElements after refl (few (length after.nodes) full) v)
      (λ d v. check_same (nat_lt small.references (references d.nodes)) (nat_lt large.references (references d.nodes)) TooManyReferences d refl (light (references d.nodes)) v)

  insert_same : (document : Document) (parent place : ℕ) (kind : Kind) (attrs : Attrs) → meets_no_limit (insert_checked small document parent place kind attrs) ≡ true → insert_checked large document parent place kind attrs ≡ insert_checked small document parent place kind attrs
  unfolding checked
  insert_same document parent place kind attrs m =
      let full = nat_le SERIALS document.next in
      go_same (unless (is_id_taken document.nodes document.next attrs.id) DuplicateId (node_inserted document parent place kind attrs)) (checked small full) (checked large full) m (checked_same full)

  -- ---- orders

  at_same : (p : Presentation) (moment : ℕ) (log : List LogEntry) → meets_no_limit (at_moment_with small p moment log) ≡ true → at_moment_with large p moment log ≡ at_moment_with small p moment log
  at_same p moment log m = go_same _ _ _ m (λ q w. room_same q w)

  logged_same : (p : Presentation) (what : Happening) → meets_no_limit (with_logged small p what) ≡ true → with_logged large p what ≡ with_logged small p what
  logged_same p what m = go_same _ _ _ m (λ q w. room_same q w)

  resolved_same : (p : Presentation) (document : Document) → meets_no_limit (resolved_with small p document) ≡ true → resolved_with large p document ≡ resolved_with small p document
  resolved_same p document m = room_same (record { document = document; log = p.log; now = p.now }) m

  pub opening_same : (document : Document) → meets_no_limit (opened_within small document) ≡ true → opened_within large document ≡ opened_within small document
  opening_same document m = room_same (record { document = document; log = []; now = 0 }) m

  -- an order on a node, by what it does to that node
  on_same : (p : Presentation) (who : Who) (f g : Node → Result Presentation Refusal) → meets_no_limit (on_node p who f) ≡ true → ((n : Node) → meets_no_limit (f n) ≡ true → g n ≡ f n) → on_node p who g ≡ on_node p who f
  on_same p who f g m later = go_same (found (node_of p.document.nodes who)) f g m later

  -- a log entry on a node that passes
  entered_same : (p : Presentation) (test : Bool) (cause : Refusal) (what : Node → Happening) (n : Node) → meets_no_limit (and_then (unless test cause n) (λ (e : Node). with_logged small p (what e))) ≡ true → and_then (unless test cause n) (λ (e : Node). with_logged large p (what e)) ≡ and_then (unless test cause n) (λ (e : Node). with_logged small p (what e))
  entered_same p test cause what n m =
      go_same (unless test cause n) (λ (e : Node). with_logged small p (what e)) (λ (e : Node). with_logged large p (what e)) m (λ e v. logged_same p (what e) v)

  -- an edit
  edited_same : (p : Presentation) (r q : Result Document Refusal) → meets_no_limit (and_then r (resolved_with small p)) ≡ true → (meets_no_limit r ≡ true → q ≡ r) → and_then q (resolved_with large p) ≡ and_then r (resolved_with small p)
  edited_same p r q m first = then_same r q (resolved_with small p) (resolved_with large p) m first (λ document v. resolved_same p document v)

  attr_same : (formats : Formats) (document : Document) (n : Node) (name value : List ℕ) (name_column column : ℕ) → meets_no_limit (attr_set_by small formats document n name value name_column column) ≡ true → attr_set_by large formats document n name value name_column column ≡ attr_set_by small formats document n name value name_column column
  attr_same formats document n name value name_column column m =
      go_same (formats.read_attr n.kind (kind_of (node_at document.nodes n.parent)) name value name_column column) (set_checked small document n) (set_checked large document n) m
      (λ given v. set_same document n given v)

  node_same : (formats : Formats) (document : Document) (n : Node) (place : ℕ) (line : List ℕ) (column : ℕ) → meets_no_limit (node_inserted_by small formats document n place line column) ≡ true → node_inserted_by large formats document n place line column ≡ node_inserted_by small formats document n place line column
  node_same formats document n place line column m =
      go_same (and_then (formats.read_kind line column) (may_insert document n place))
      (λ kind. and_then (formats.read_attrs n.kind line column) (insert_checked small document n.serial place kind))
      (λ kind. and_then (formats.read_attrs n.kind line column) (insert_checked large document n.serial place kind)) m
      (λ kind v. go_same (formats.read_attrs n.kind line column) (insert_checked small document n.serial place kind) (insert_checked large document n.serial place kind) v
      (λ attrs u. insert_same document n.serial place kind attrs u))

  pub outcome_same : (formats : Formats) (p : Presentation) (given : Order) → meets_no_limit (outcome_within small formats p given) ≡ true → outcome_within large formats p given ≡ outcome_within small formats p given
  outcome_same formats p (order.Advance by) m = at_same p (p.now + nat_abs by) p.log m
  outcome_same formats p (order.Seek to) m = at_same p (nat_abs to) (filter (λ (x : LogEntry). int_le x.moment (pos (nat_abs to))) p.log) m
  outcome_same formats p (order.Event who name) m =
      on_same p who (λ (n : Node). and_then (unless (not (is_element n)) BadPlace n) (λ (e : Node). with_logged small p (happening.Event e.serial name)))
      (λ (n : Node). and_then (unless (not (is_element n)) BadPlace n) (λ (e : Node). with_logged large p (happening.Event e.serial name))) m
      (λ n w. entered_same p (not (is_element n)) BadPlace (λ e. happening.Event e.serial name) n w)
  outcome_same formats p (order.Media who long) m =
      on_same p who (λ (n : Node). and_then (unless (not (is_continuous n.kind)) NotContinuous n) (λ (e : Node). with_logged small p (happening.Media e.serial long)))
      (λ (n : Node). and_then (unless (not (is_continuous n.kind)) NotContinuous n) (λ (e : Node). with_logged large p (happening.Media e.serial long))) m
      (λ n w. entered_same p (not (is_continuous n.kind)) NotContinuous (λ e. happening.Media e.serial long) n w)
  outcome_same formats p (order.Key key) m = logged_same p (happening.Key key) m
  outcome_same formats p (order.Set who name value name_column column) m =
      on_same p who (λ n. and_then (attr_set_by small formats p.document n name value name_column column) (resolved_with small p))
      (λ n. and_then (attr_set_by large formats p.document n name value name_column column) (resolved_with large p)) m
      (λ n w. edited_same p (attr_set_by small formats p.document n name value name_column column) (attr_set_by large formats p.document n name value name_column column) w
      (attr_same formats p.document n name value name_column column))
  outcome_same formats p (order.Unset who name column) m =
      on_same p who (λ n. and_then (attr_unset_by formats p.document n name column) (resolved_with small p)) (λ n. and_then (attr_unset_by formats p.document n name column) (resolved_with large p)) m
      (λ n w. edited_same p (attr_unset_by formats p.document n name column) (attr_unset_by formats p.document n name column) w (λ _. refl))
  outcome_same formats p (order.Insert who place line column) m =
      on_same p who (λ n. and_then (node_inserted_by small formats p.document n place line column) (resolved_with small p))
      (λ n. and_then (node_inserted_by large formats p.document n place line column) (resolved_with large p)) m
      (λ n w. edited_same p (node_inserted_by small formats p.document n place line column) (node_inserted_by large formats p.document n place line column) w
      (node_same formats p.document n place line column))
  outcome_same formats p (order.Remove who) m =
      on_same p who (λ n. and_then (node_removed_from p.document n) (resolved_with small p)) (λ n. and_then (node_removed_from p.document n) (resolved_with large p)) m
      (λ n w. edited_same p (node_removed_from p.document n) (node_removed_from p.document n) w (λ _. refl))
  outcome_same formats p (order.History who) m = refl
  outcome_same formats p order.Show m = refl
  outcome_same formats p order.Text m = refl
  outcome_same formats p order.Save m = refl
  outcome_same formats p order.Diary m = refl
  outcome_same formats p order.Values m = refl
  outcome_same formats p (order.Stack who name) m = refl
