-- A node line's reading is that of its parts.
use Rattle.std.proofs.Common.{◌≡◌, ℕ, true, false, eqb, ltb, leb, List, length, take, Some, Result, Ok, Err, refl, sym, subst, ap, ◌∙◌}
use Rattle.std.specs.Prelude.{◌/◌, ◌%◌, OnOk}
use Rattle.std.specs.List.{prefix_len}
use Rattle.std.proofs.lemmas.Bool.{or_parts}
use Rattle.smil_model.specs.declared.limits.TheConstants.{DEPTH, LINE_BYTES}
use Rattle.smil_model.specs.declared.document.Kind.{Kind}
use Rattle.smil_model.specs.declared.document.Node.{Node}
use Rattle.smil_model.specs.declared.document.Attrs.{Attrs}
use Rattle.smil_model.specs.declared.order.Refusal.{Refusal}
use Rattle.smil_model.specs.declared.order.Refusal.TheVariants as refusal
use Rattle.smil_model.specs.document.Limits.{limits}
use Rattle.smil_grammar.specs.Results.{◌>>=◌}
use Rattle.smil_grammar.specs.Nodes.{Shape, is_space, kind_of_shape}
use Rattle.smil_grammar.specs.Outlines.{Outline, refuse_if, in_line, is_misplaced, is_bad_serial, attrs_in, mixes, last_of, with_node, with_header, header_of, opens_saved, shape_in, node_within, shape_within, with_line}
use Rattle.smil_grammar.specs.Gives.{GivesReading}
use Rattle.smil_attrs.specs.Filled.{filled}
use Rattle.smil_outline.specs.Steps.{text_of, kind_at, attrs_at, node_with, node_kept}

-- steps in a row, up to the kind and behind it
kind_first : {A B C D : Type 0} (a : Result A Refusal) (k : Result B Refusal) (c d e : Result A Refusal) (p : B → Result C Refusal) (q : C → D)
    → (a >>= λ _. k >>= λ kind. c >>= λ _. d >>= λ _. e >>= λ _. p kind >>= λ x. Ok (q x))
    ≡ ((a >>= λ _. k >>= λ kind. c >>= λ _. d >>= λ _. e >>= λ _. Ok kind) >>= λ kind. p kind >>= λ x. Ok (q x))
kind_first (Err x) k c d e p q = refl
kind_first (Ok x) (Err z) c d e p q = refl
kind_first (Ok x) (Ok z) (Err u) d e p q = refl
kind_first (Ok x) (Ok z) (Ok u) (Err v) e p q = refl
kind_first (Ok x) (Ok z) (Ok u) (Ok v) (Err w) p q = refl
kind_first (Ok x) (Ok z) (Ok u) (Ok v) (Ok w) p q = refl

-- the node behind the kind: its place and attributes, and then the limits
attrs_first : {A B C : Type 0} (a : Result A Refusal) (b : Result B Refusal) (f : B → Result C Refusal) → (a >>= λ _. b >>= f) ≡ ((a >>= λ _. b) >>= f)
attrs_first (Err x) b f = refl
attrs_first (Ok x) b f = refl

-- what stops a part stops the line
stops : {A B : Type 0} (e : Refusal) (part : Result A Refusal) (whole : Result B Refusal) → (part ≡ Err e → whole ≡ Err e) → GivesReading (Err e) part → GivesReading (Err e) whole
stops refusal.Memory part whole f h = tt
stops e part whole f h = f h

pub gives : {A : Type 0} (r reading : Result A Refusal) → reading ≡ r → GivesReading r reading
gives (Ok x) reading h = h
gives (Err refusal.Memory) reading h = tt
gives (Err e) reading h = h

kept : (outline : Outline) (depth : ℕ) (r : Result Node Refusal) → (r >>= λ node. Ok (with_node outline depth node)) ≡ node_kept outline depth r
kept outline depth (Ok node) = refl
kept outline depth (Err e) = refl

module _ (outline : Outline) (spaces serial : ℕ) (shape : Shape) where
  abbrev above : List (ℕ × Kind)
  above = take (spaces / 2) outline.branch

  abbrev node_of_line : Kind → Result Node Refusal
  node_of_line kind = node_within limits outline spaces above kind serial shape

  abbrev reading : Result Outline Refusal
  reading = shape_within limits outline spaces (Some (serial, shape))

  abbrev behind_kind : Result Kind Refusal → Result Outline Refusal
  behind_kind kind = kind >>= λ k. node_of_line k >>= λ node. Ok (with_node outline (spaces / 2) node)

  -- the kind comes first
  by_kind : reading ≡ behind_kind (kind_at outline spaces serial shape)
  by_kind =
      kind_first (refuse_if (eqb (spaces % 2) 1) refusal.BadOutline) (in_line spaces (kind_of_shape (Some shape))) (refuse_if (is_bad_serial outline outline.next serial) refusal.BadSerial)
      (refuse_if (ltb (length outline.branch) (spaces / 2)) refusal.DepthJump) (refuse_if (leb DEPTH (spaces / 2)) refusal.TooDeep) node_of_line (with_node outline (spaces / 2))

  -- then the attributes
  by_attrs : (kind : Kind) → node_of_line kind ≡ (attrs_at outline spaces above kind shape >>= node_with outline.nodes serial (last_of above) kind)
  by_attrs kind =
      attrs_first (refuse_if (is_misplaced outline above kind) refusal.BadPlace) (in_line spaces (attrs_in (last_of above) kind shape)) (node_with outline.nodes serial (last_of above) kind)

  abbrev behind_attrs : Kind → Result Attrs Refusal → Result Outline Refusal
  behind_attrs kind attrs = attrs >>= node_with outline.nodes serial (last_of above) kind >>= λ node. Ok (with_node outline (spaces / 2) node)

  by_both : (kind : Kind) → kind_at outline spaces serial shape ≡ Ok kind → reading ≡ behind_attrs kind (attrs_at outline spaces above kind shape)
  by_both kind h = by_kind ∙ ap behind_kind h ∙ ap (λ (r : Result Node Refusal). r >>= λ node. Ok (with_node outline (spaces / 2) node)) (by_attrs kind)

  pub kind_stops : (r : Result Node Refusal) (e : Refusal) → r ≡ Err e → kind_at outline spaces serial shape ≡ Err e → GivesReading (node_kept outline (spaces / 2) r) reading
  kind_stops (Ok node) e h k = absurd cc
  kind_stops (Err x) e h k = let same : kind_at outline spaces serial shape ≡ Err x = cc in gives (Err x) reading (by_kind ∙ ap behind_kind same)

  attrs_refused : (kind : Kind) (e : Refusal) → kind_at outline spaces serial shape ≡ Ok kind → GivesReading (Err e) (attrs_at outline spaces above kind shape) → GivesReading (Err e) reading
  attrs_refused kind e h given = stops e (attrs_at outline spaces above kind shape) reading (λ stop. by_both kind h ∙ ap (behind_attrs kind) stop) given

  pub attrs_stop : (kind : Kind) (a : Result Attrs Refusal) (r : Result Node Refusal) (e : Refusal) → r ≡ Err e → a ≡ Err e → kind_at outline spaces serial shape ≡ Ok kind
      → GivesReading a (attrs_at outline spaces above kind shape) → GivesReading (node_kept outline (spaces / 2) r) reading
  attrs_stop kind a (Ok node) e h i k given = absurd cc
  attrs_stop kind (Ok x) (Err y) e h i k given = absurd cc
  attrs_stop kind (Err x) (Err y) e h i k given =
      let same : x ≡ y = cc in
      subst (λ (z : Refusal). GivesReading (node_kept outline (spaces / 2) (Err z)) reading) same (attrs_refused kind x k given)

  pub node_read : (kind : Kind) (attrs : Attrs) (node : Result Node Refusal) → kind_at outline spaces serial shape ≡ Ok kind → attrs_at outline spaces above kind shape ≡ Ok attrs
      → node ≡ node_with outline.nodes serial (last_of above) kind attrs → GivesReading (node_kept outline (spaces / 2) node) reading
  node_read kind attrs node h given made =
      gives (node_kept outline (spaces / 2) node) reading
      (by_both kind h ∙ ap (behind_attrs kind) given ∙ kept outline (spaces / 2) (node_with outline.nodes serial (last_of above) kind attrs) ∙ ap (node_kept outline (spaces / 2)) (sym made))

-- a node that isn't misplaced can stand beside the others
pub stands_unmixed : (outline : Outline) (over : List (ℕ × Kind)) (kind : Kind) → is_misplaced outline over kind ≡ false → mixes outline.nodes (last_of over) kind ≡ false
stands_unmixed outline over kind h = (or_parts _ (mixes outline.nodes (last_of over) kind) h).1

-- what is so in any case is so where a call was not refused
pub where_not_refused : {P : Type 0} (r : Result (Unit {0}) Refusal) → P → OnOk r P
where_not_refused (Ok done) h = h
where_not_refused (Err e) h = tt

-- what was filled is refused as the call was
pub filled_refused : {A : Type 0} (r : Result (Unit {0}) Refusal) (value : A) (e : Refusal) → r ≡ Err e → filled r value ≡ Err e
filled_refused (Ok done) value e h = absurd cc
filled_refused (Err x) value e h = let same : x ≡ e = cc in ap Err same

-- ---- a whole line

-- a line that is short and opens with no header is read as a node line
pub as_node : (outline : Outline) (line : List ℕ) → ltb LINE_BYTES (length line) ≡ false → opens_saved outline line ≡ false
    → with_line outline line ≡ shape_within limits outline (prefix_len is_space line) (shape_in outline outline.next (text_of line))
as_node outline line short later = rw (short, later) refl

pub as_header : (outline : Outline) (line : List ℕ) → ltb LINE_BYTES (length line) ≡ false → opens_saved outline line ≡ true → with_line outline line ≡ with_header outline (header_of line)
as_header outline line short first = rw (short, first) refl

pub too_long : (outline : Outline) (line : List ℕ) → ltb LINE_BYTES (length line) ≡ true → with_line outline line ≡ Err refusal.LongLine
too_long outline line long = rw long refl
