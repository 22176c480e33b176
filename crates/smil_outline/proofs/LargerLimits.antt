-- An outline that meets no limit is read the same within larger limits.
use Rattle.std.proofs.Common.{◌≡◌, refl, sym, ◌∙◌, ap, ℕ, ◌+◌, ◌∷◌, List, [], length, take, Bool, true, false, not, eqb, ltb, leb, Option, Some, None, Result, Ok, Err, arith}
use Rattle.std.specs.Prelude.{◌/◌, ◌%◌}
use Rattle.std.specs.List.{prefix_len}
use Rattle.std.proofs.lemmas.Bool.{leb-false, lt-leb, ltb-false, le-ltb}
use Rattle.smil_model.specs.declared.limits.TheConstants.{DEPTH, LINE_BYTES}
use Rattle.smil_model.specs.declared.document.Kind.{Kind}
use Rattle.smil_model.specs.declared.document.Node.{Node}
use Rattle.smil_model.specs.declared.document.Attrs.{Attrs}
use Rattle.smil_model.specs.declared.order.Refusal.{Refusal}
use Rattle.smil_model.specs.declared.order.Refusal.TheVariants as refusal
use Rattle.smil_model.specs.document.Limits.{Limits}
use Rattle.smil_model.specs.document.Valid.{references as all_references, references_among}
use Rattle.smil_grammar.specs.Results.{◌>>=◌}
use Rattle.smil_grammar.specs.Nodes.{Shape, is_space, kind_of_shape}
use Rattle.smil_grammar.specs.Outlines.{Outline, no_lines, refuse_if, in_line, has_id, attrs_in, last_of, is_misplaced, is_bad_serial, opens_saved, shape_in, with_node, node_within, shape_within, read_within, line_within, lines_within, ended, outline_within}
use Rattle.smil_laws.specs.Migration.{AreBelow, is_for_limit, meets_no_limit}
use Rattle.smil_outline.specs.Steps.{text_of}
use Rattle.smil_outline.proofs.NodeRoundTrip.{made as node_made}

-- what goes on the same way has the same outcome
pub then_same : {A B : Type 0} (r q : Result A Refusal) (f g : A → Result B Refusal) → meets_no_limit (r >>= f) ≡ true → (meets_no_limit r ≡ true → q ≡ r) → ((x : A) → meets_no_limit (f x) ≡ true → g x ≡ f x) → (q >>= g) ≡ (r >>= f)
then_same (Ok x) q f g m first later = ap (λ z. z >>= g) (first refl) ∙ later x m
then_same (Err e) q f g m first later = ap (λ z. z >>= g) (first m)

-- where the first step has no limit
go_same : {A B : Type 0} (r : Result A Refusal) (f g : A → Result B Refusal) → meets_no_limit (r >>= f) ≡ true → ((x : A) → meets_no_limit (f x) ≡ true → g x ≡ f x) → (r >>= g) ≡ (r >>= f)
go_same r f g m later = then_same r r f g m (λ _. refl) later

-- a check of a limit that is met within the smaller one is met within the larger one
check_same : (s t : Bool) (cause : Refusal) → is_for_limit cause ≡ true → (s ≡ false → t ≡ false) → meets_no_limit (refuse_if s cause) ≡ true → refuse_if t cause ≡ refuse_if s cause
check_same true t cause limit fewer m = let never : false ≡ true = sym (ap not limit) ∙ m in cc
check_same false t cause limit fewer m = ap (λ b. refuse_if b cause) (fewer refl)

-- the checks of the limits, and the node behind them
abbrev counted : Outline → Limits → Attrs → Node → Result Node Refusal
counted outline allowed attrs node = do
  few ← refuse_if (leb allowed.nodes (length outline.nodes)) refusal.TooManyElements
  light ← refuse_if (ltb allowed.references (all_references outline.nodes + references_among attrs)) refusal.TooManyReferences
  Ok node

-- the steps of a node, from its attributes and from its id on
module _ (outline : Outline) (spaces : ℕ) (above : List (ℕ × Kind)) (kind : Kind) (serial : ℕ) (shape : Shape) where
  abbrev with_id : Limits → Attrs → Result Node Refusal
  with_id allowed attrs = refuse_if (has_id outline.nodes attrs.id) refusal.DuplicateId >>= λ _. counted outline allowed attrs (node_made serial above kind attrs)

  abbrev with_attrs : Limits → Result Node Refusal
  with_attrs allowed = in_line spaces (attrs_in (last_of above) kind shape) >>= with_id allowed

-- the steps of a line, from its kind on and from each later one on
module _ (outline : Outline) (spaces serial : ℕ) (shape : Shape) where
  abbrev node : Limits → Kind → Result Node Refusal
  node allowed kind = node_within allowed outline spaces (take (spaces / 2) outline.branch) kind serial shape

  abbrev placed : Limits → Kind → Result Outline Refusal
  placed allowed kind = node allowed kind >>= λ n. Ok (with_node outline (spaces / 2) n)

  abbrev flat : Limits → Kind → Result Outline Refusal
  flat allowed kind = refuse_if (leb DEPTH (spaces / 2)) refusal.TooDeep >>= λ _. placed allowed kind

  abbrev near : Limits → Kind → Result Outline Refusal
  near allowed kind = refuse_if (ltb (length outline.branch) (spaces / 2)) refusal.DepthJump >>= λ _. flat allowed kind

  abbrev fresh : Limits → Kind → Result Outline Refusal
  fresh allowed kind = refuse_if (is_bad_serial outline outline.next serial) refusal.BadSerial >>= λ _. near allowed kind

  abbrev kinded : Limits → Result Outline Refusal
  kinded allowed = in_line spaces (kind_of_shape (Some shape)) >>= fresh allowed

module _ (small large : Limits) (below : AreBelow small large) where
  few : (n : ℕ) → leb small.nodes n ≡ false → leb large.nodes n ≡ false
  few n e = lt-leb _ _ (omega (arith, leb-false _ _ e, below.nodes))

  light : (n : ℕ) → ltb small.references n ≡ false → ltb large.references n ≡ false
  light n e = le-ltb _ _ (omega (arith, ltb-false _ _ e, below.references))

  counted_same : (outline : Outline) (attrs : Attrs) (node : Node) → meets_no_limit (counted outline small attrs node) ≡ true → counted outline large attrs node ≡ counted outline small attrs node
  counted_same outline attrs node m =
      let sum = all_references outline.nodes + references_among attrs in
      then_same (refuse_if (leb small.nodes (length outline.nodes)) refusal.TooManyElements) (refuse_if (leb large.nodes (length outline.nodes)) refusal.TooManyElements)
      (λ _. refuse_if (ltb small.references sum) refusal.TooManyReferences >>= λ _. Ok node) (λ _. refuse_if (ltb large.references sum) refusal.TooManyReferences >>= λ _. Ok node) m
      (λ v. check_same (leb small.nodes (length outline.nodes)) (leb large.nodes (length outline.nodes)) refusal.TooManyElements refl (few (length outline.nodes)) v)
      (λ _ v. then_same (refuse_if (ltb small.references sum) refusal.TooManyReferences) (refuse_if (ltb large.references sum) refusal.TooManyReferences) (λ _. Ok node) (λ _. Ok node) v
      (λ w. check_same (ltb small.references sum) (ltb large.references sum) refusal.TooManyReferences refl (light sum) w) (λ _ w. refl))

  node_same : (outline : Outline) (spaces : ℕ) (above : List (ℕ × Kind)) (kind : Kind) (serial : ℕ) (shape : Shape) → meets_no_limit (node_within small outline spaces above kind serial shape) ≡ true
      → node_within large outline spaces above kind serial shape ≡ node_within small outline spaces above kind serial shape
  node_same outline spaces above kind serial shape m =
      go_same (refuse_if (is_misplaced outline above kind) refusal.BadPlace) (λ _. with_attrs outline spaces above kind serial shape small) (λ _. with_attrs outline spaces above kind serial shape large) m
      (λ _ v. go_same (in_line spaces (attrs_in (last_of above) kind shape)) (with_id outline spaces above kind serial shape small) (with_id outline spaces above kind serial shape large) v
      (λ attrs w. go_same (refuse_if (has_id outline.nodes attrs.id) refusal.DuplicateId) (λ _. counted outline small attrs (node_made serial above kind attrs)) (λ _. counted outline large attrs (node_made serial above kind attrs)) w
      (λ _ u. counted_same outline attrs (node_made serial above kind attrs) u)))

  shape_same : (outline : Outline) (spaces : ℕ) (s : Option (ℕ × Shape)) → meets_no_limit (shape_within small outline spaces s) ≡ true → shape_within large outline spaces s ≡ shape_within small outline spaces s
  shape_same outline spaces None m = refl
  shape_same outline spaces (Some (serial, shape)) m =
      go_same (refuse_if (eqb (spaces % 2) 1) refusal.BadOutline) (λ _. kinded outline spaces serial shape small) (λ _. kinded outline spaces serial shape large) m
      (λ _ v. go_same (in_line spaces (kind_of_shape (Some shape))) (fresh outline spaces serial shape small) (fresh outline spaces serial shape large) v
      (λ kind w. go_same (refuse_if (is_bad_serial outline outline.next serial) refusal.BadSerial) (λ _. near outline spaces serial shape small kind) (λ _. near outline spaces serial shape large kind) w
      (λ _ u. go_same (refuse_if (ltb (length outline.branch) (spaces / 2)) refusal.DepthJump) (λ _. flat outline spaces serial shape small kind) (λ _. flat outline spaces serial shape large kind) u
      (λ _ t. go_same (refuse_if (leb DEPTH (spaces / 2)) refusal.TooDeep) (λ _. placed outline spaces serial shape small kind) (λ _. placed outline spaces serial shape large kind) t
      (λ _ r. then_same (node outline spaces serial shape small kind) (node outline spaces serial shape large kind) (λ n. Ok (with_node outline (spaces / 2) n)) (λ n. Ok (with_node outline (spaces / 2) n)) r
      (node_same outline spaces (take (spaces / 2) outline.branch) kind serial shape) (λ _ q. refl))))))

  read_same : (outline : Outline) (line : List ℕ) → meets_no_limit (read_within small outline line) ≡ true → read_within large outline line ≡ read_within small outline line
  read_same outline line m = by (opens_saved outline line) refl m
    where
      by : (t : Bool) → opens_saved outline line ≡ t → meets_no_limit (read_within small outline line) ≡ true → read_within large outline line ≡ read_within small outline line
      by true e m = rw e refl
      by false e m =
          let node : meets_no_limit (shape_within small outline (prefix_len is_space line) (shape_in outline outline.next (text_of line))) ≡ true = rw e at m in
          rw e (shape_same outline (prefix_len is_space line) (shape_in outline outline.next (text_of line)) node)

  pub line_same : (outline : Outline) (line : List ℕ) → meets_no_limit (line_within small outline line) ≡ true → line_within large outline line ≡ line_within small outline line
  line_same outline line m = go_same (refuse_if (ltb LINE_BYTES (length line)) refusal.LongLine) (λ _. read_within small outline line) (λ _. read_within large outline line) m (λ _ v. read_same outline line v)

  lines_same : (outline : Outline) (lines : List (List ℕ)) → meets_no_limit (lines_within small outline lines) ≡ true → lines_within large outline lines ≡ lines_within small outline lines
  lines_same outline [] m = refl
  lines_same outline (line ∷ lines) m =
      then_same (line_within small outline line) (line_within large outline line) (λ more. lines_within small more lines) (λ more. lines_within large more lines) m (line_same outline line) (λ more v. lines_same more lines v)

  pub outline_same : (lines : List (List ℕ)) → meets_no_limit (outline_within small lines) ≡ true → outline_within large lines ≡ outline_within small lines
  outline_same lines m = then_same (lines_within small no_lines lines) (lines_within large no_lines lines) ended ended m (lines_same no_lines lines) (λ outline v. refl)
