-- The shape of a printed line: its kind, and each attribute that is there.
use Rattle.std.proofs.Common.{◌≡◌, ℕ, ◌+◌, ◌<◌, Bool, true, false, not, eqb, ltb, ◌&&◌, List, [], ◌∷◌, ◌++◌, length, take, drop, flat_map, Option, Some, None, refl, ap, ◌∙◌, arith, append_assoc}
use Rattle.std.specs.Prelude.{codes, decimal, bytes_eq, option_and_then, IfSome}
use Rattle.std.specs.Char.{is_ascii_digit}
use Rattle.std.specs.List.{AllByRecursion, prefix_len, list_any, list_all}
use Rattle.std.specs.Str.{is_utf8, chars}
use Rattle.std.proofs.lemmas.Bool.{and_parts, or_parts, not-true}
use Rattle.std.proofs.lemmas.List.{take_at, drop_at}
use Rattle.std.proofs.lemmas.List.Elements.{All-from_recursion}
use Rattle.std.proofs.lemmas.List.Splits.{slice_split_at}
use lib.Utf8.{encode}
use Rattle.smil_model.specs.declared.document.Kind.{Kind}
use Rattle.smil_model.specs.declared.document.AttrName.{AttrName}
use Rattle.smil_model.specs.declared.document.AttrName.TheVariants as name
use Rattle.smil_model.specs.declared.texts.TextName.TheVariants as text
use Rattle.smil_grammar.specs.Texts.{space, quote, behind}
use Rattle.smil_grammar.specs.Attributes.{kind_text, name_text, names}
use Rattle.smil_grammar.specs.Nodes.{WrittenAttr, is_of_kind, attribute_at, attributes_at, quote_pieces, shape_of, shape_behind, saved_shape_of, repeats}
use Rattle.smil_grammar.specs.Items.{count_of}
use Rattle.smil_lexis.proofs.DecimalRoundTrip.{decimal_passes}
use Rattle.smil_time_list.proofs.ItemRoundTrip.{count_read}
use Rattle.smil_grammar.specs.Spellings.{attribute_text}
use Rattle.smil_lexis.proofs.TestedFronts.{Passes, tested, passes_front}
use Rattle.smil_attrs.proofs.WordTables.{each_kind, each_name}
use Rattle.smil_attrs.proofs.ValueBytes.{is_unquoted, Unquoted}

-- what stands before the opening quote
abbrev pub lead : AttrName → List ℕ
lead n = space ∷ (name_text n ++ codes "=")

lead_unquoted : (n : AttrName) → Unquoted (lead n)
lead_unquoted n = tested is_unquoted (lead n) (each_name (λ n. list_all is_unquoted (lead n)) refl n)

lead_read : (place : ℕ) (value : List ℕ) (n : AttrName) → attribute_at place (lead n) value ≡ Some (record { name = name_text n; name_place = place + 1; value = value; value_place = place + length (lead n) + 1 })
unfolding is_utf8 chars encode
lead_read place value name.Id = refl
lead_read place value name.Begin = refl
lead_read place value name.Dur = refl
lead_read place value name.End = refl
lead_read place value name.Min = refl
lead_read place value name.Max = refl
lead_read place value name.RepeatCount = refl
lead_read place value name.RepeatDur = refl
lead_read place value name.Restart = refl
lead_read place value name.Fill = refl
lead_read place value name.RestartDefault = refl
lead_read place value name.FillDefault = refl
lead_read place value name.Endsync = refl
lead_read place value name.Peers = refl
lead_read place value name.Higher = refl
lead_read place value name.Lower = refl
lead_read place value (name.Text text.Src) = refl
lead_read place value (name.Text text.Region) = refl
lead_read place value (name.Text text.Alt) = refl
lead_read place value (name.Text text.Title) = refl
lead_read place value (name.Text text.TargetElement) = refl
lead_read place value (name.Text text.AttributeName) = refl
lead_read place value (name.Text text.To) = refl

-- pieces

no_quote : (b : ℕ) → is_unquoted b ≡ true → eqb b quote ≡ false
no_quote b h = not-true (eqb b quote) h

piece : (front rest : List ℕ) → Unquoted front → quote_pieces (front ++ quote ∷ rest) ≡ front ∷ quote_pieces rest
piece front rest h = slice_split_at (λ b. eqb b quote) front quote rest (All-from_recursion (λ b. eqb b quote ≡ false) front (each front h)) refl
  where
    each : (text : List ℕ) → Unquoted text → AllByRecursion (λ b. eqb b quote ≡ false) text
    each [] h = tt
    each (b ∷ text) h = (no_quote b h.0, each text h.1)

-- the attributes that are written, from this place on

abbrev pub written_at : ℕ → AttrName → List ℕ → WrittenAttr
written_at place n value = record { name = name_text n; name_place = place + 1; value = value; value_place = place + length (lead n) + 1 }

-- each attribute that is there, with its place
abbrev pub written_from : ℕ → (AttrName → Option (List ℕ)) → List AttrName → List WrittenAttr
written_from place values [] = []
written_from place values (n ∷ ns) = elim (values n) as (λ o. List WrittenAttr) [ None ↦ written_from place values ns | Some value ↦ written_at place n value ∷ written_from (place + length (lead n) + length value + 2) values ns ]

abbrev line_of : (AttrName → Option (List ℕ)) → List AttrName → List ℕ
line_of values ns = flat_map (λ n. attribute_text n (values n)) ns

regroup : (n : AttrName) (value rest : List ℕ) → attribute_text n (Some value) ++ rest ≡ lead n ++ quote ∷ (value ++ quote ∷ rest)
regroup n value rest = simp append_assoc

pieces_read : (n : AttrName) (value rest : List ℕ) → Unquoted value → quote_pieces (attribute_text n (Some value) ++ rest) ≡ lead n ∷ value ∷ quote_pieces rest
pieces_read n value rest h = ap quote_pieces (regroup n value rest) ∙ piece (lead n) (value ++ quote ∷ rest) (lead_unquoted n) ∙ ap (λ (pieces : List (List ℕ)). lead n ∷ pieces) (piece value rest h)

attributes_read : (values : AttrName → Option (List ℕ)) → ((n : AttrName) → IfSome (values n) Unquoted) → (place : ℕ) (ns : List AttrName) → attributes_at place (quote_pieces (line_of values ns)) ≡ Some (written_from place values ns)
attributes_read values h place [] = refl
attributes_read values h place (n ∷ ns) = one values place n ns (values n) (h n) (λ place. attributes_read values h place ns)
  where
    one : (values : AttrName → Option (List ℕ)) (place : ℕ) (n : AttrName) (ns : List AttrName) (o : Option (List ℕ)) → IfSome o Unquoted
        → ((place : ℕ) → attributes_at place (quote_pieces (line_of values ns)) ≡ Some (written_from place values ns))
        → attributes_at place (quote_pieces (attribute_text n o ++ line_of values ns)) ≡ Some (elim o as (λ o. List WrittenAttr) [ None ↦ written_from place values ns | Some value ↦ written_at place n value ∷ written_from (place + length (lead n) + length value + 2) values ns ])
    one values place n ns None h others = others place
    one values place n ns (Some value) h others =
        ap (attributes_at place) (pieces_read n value (line_of values ns) h) ∙ rw (lead_read place value n, others (place + length (lead n) + length value + 2)) refl

-- no name stands twice

abbrev same : AttrName → AttrName → Bool
same n m = bytes_eq (name_text m) (name_text n)

abbrev distinct : List AttrName → Bool
distinct [] = true
distinct (n ∷ ns) = not (list_any (same n) ns) && distinct ns

absent : (values : AttrName → Option (List ℕ)) (n : AttrName) (place : ℕ) (ns : List AttrName) → list_any (same n) ns ≡ false → list_any (λ (other : WrittenAttr). bytes_eq other.name (name_text n)) (written_from place values ns) ≡ false
absent values n place [] e = refl
absent values n place (m ∷ ns) e = one values n place m ns (values m) (or_parts (same n m) (list_any (same n) ns) e).0 (λ place. absent values n place ns (or_parts (same n m) (list_any (same n) ns) e).1)
  where
    one : (values : AttrName → Option (List ℕ)) (n : AttrName) (place : ℕ) (m : AttrName) (ns : List AttrName) (o : Option (List ℕ)) → same n m ≡ false
        → ((place : ℕ) → list_any (λ (other : WrittenAttr). bytes_eq other.name (name_text n)) (written_from place values ns) ≡ false)
        → list_any (λ (other : WrittenAttr). bytes_eq other.name (name_text n)) (elim o as (λ o. List WrittenAttr) [ None ↦ written_from place values ns | Some value ↦ written_at place m value ∷ written_from (place + length (lead m) + length value + 2) values ns ]) ≡ false
    one values n place m ns None e others = others place
    one values n place m ns (Some value) e others = rw (e, others (place + length (lead m) + length value + 2)) refl

no_repeats : (values : AttrName → Option (List ℕ)) (place : ℕ) (ns : List AttrName) → distinct ns ≡ true → repeats (written_from place values ns) ≡ false
no_repeats values place [] e = refl
no_repeats values place (n ∷ ns) e = one values place n ns (values n) (not-true _ (and_parts _ _ e).0) (λ place. no_repeats values place ns (and_parts (not (list_any (same n) ns)) (distinct ns) e).1)
  where
    one : (values : AttrName → Option (List ℕ)) (place : ℕ) (n : AttrName) (ns : List AttrName) (o : Option (List ℕ)) → list_any (same n) ns ≡ false
        → ((place : ℕ) → repeats (written_from place values ns) ≡ false)
        → repeats (elim o as (λ o. List WrittenAttr) [ None ↦ written_from place values ns | Some value ↦ written_at place n value ∷ written_from (place + length (lead n) + length value + 2) values ns ]) ≡ false
    one values place n ns None e others = others place
    one values place n ns (Some value) e others = rw (absent values n (place + length (lead n) + length value + 2) ns e, others (place + length (lead n) + length value + 2)) refl

pub names_once : (values : AttrName → Option (List ℕ)) (place : ℕ) → repeats (written_from place values names) ≡ false
names_once values place = no_repeats values place names refl

-- the kind

kind_passes : (k : Kind) → Passes is_of_kind (kind_text k)
kind_passes k = tested is_of_kind (kind_text k) (each_kind (λ k. list_all is_of_kind (kind_text k)) refl k)

kind_utf8 : (k : Kind) → (ltb 0 (length (kind_text k)) && is_utf8 (kind_text k)) ≡ true
unfolding is_utf8 chars encode
kind_utf8 k = each_kind (λ k. ltb 0 (length (kind_text k)) && is_utf8 (kind_text k)) refl k

-- what no space passes ends where the attributes begin
stops : (p : ℕ → Bool) → p space ≡ false → (values : AttrName → Option (List ℕ)) (ns : List AttrName) → prefix_len p (line_of values ns) ≡ 0
stops p none values [] = refl
stops p none values (n ∷ ns) = one (values n) (stops p none values ns)
  where
    one : (o : Option (List ℕ)) → prefix_len p (line_of values ns) ≡ 0 → prefix_len p (attribute_text n o ++ line_of values ns) ≡ 0
    one None e = e
    one (Some value) e = rw none refl

pub shape_read : (k : Kind) (values : AttrName → Option (List ℕ)) → ((n : AttrName) → IfSome (values n) Unquoted)
    → shape_of (kind_text k ++ line_of values names) ≡ Some (record { kind = kind_text k; attributes = written_from (length (kind_text k)) values names })
shape_read k values h =
    let text = line_of values names in
    let len : prefix_len is_of_kind (kind_text k ++ text) ≡ length (kind_text k) = omega (arith, passes_front is_of_kind (kind_text k) text (kind_passes k), stops is_of_kind refl values names) in
    rw (len, take_at (kind_text k) text (length (kind_text k)) refl, drop_at (kind_text k) text (length (kind_text k)) refl, attributes_read values h (length (kind_text k)) names, kind_utf8 k) refl

-- ---- the same with a serial behind the kind

abbrev pub behind_kind : ℕ → (AttrName → Option (List ℕ)) → List ℕ
behind_kind serial values = 32 ∷ 35 ∷ (decimal serial ++ line_of values names)

pub saved_parts : (k : Kind) (serial : ℕ) (values : AttrName → Option (List ℕ)) → kind_text k ++ codes " #" ++ decimal serial ++ line_of values names ≡ kind_text k ++ behind_kind serial values
saved_parts k serial values = simp append_assoc

pub saved_read : (k : Kind) (serial : ℕ) (values : AttrName → Option (List ℕ)) → ((n : AttrName) → IfSome (values n) Unquoted) → 0 < serial → serial < 1_000_000_000
    → saved_shape_of (kind_text k ++ behind_kind serial values) ≡ Some (serial, record { kind = kind_text k; attributes = written_from (length (kind_text k) + 2 + length (decimal serial)) values names })
saved_read k serial values h some few =
    let text = line_of values names in
    let rest = behind_kind serial values in
    let stop : prefix_len is_of_kind rest ≡ 0 = refl in
    let len : prefix_len is_of_kind (kind_text k ++ rest) ≡ length (kind_text k) = omega (arith, passes_front is_of_kind (kind_text k) rest (kind_passes k), stop) in
    let digits : prefix_len is_ascii_digit (decimal serial ++ text) ≡ length (decimal serial) = omega (arith, passes_front is_ascii_digit (decimal serial) text (decimal_passes serial (omega arith)), stops is_ascii_digit refl values names) in
    let number : count_of (decimal serial) ≡ Some serial = count_read serial some few in
    let place = length (kind_text k) + 2 + length (decimal serial) in
    let whole : shape_behind (kind_text k) (Some (decimal serial ++ text)) ≡ Some (serial, record { kind = kind_text k; attributes = written_from place values names }) =
    rw (digits, take_at (decimal serial) text (length (decimal serial)) refl, drop_at (decimal serial) text (length (decimal serial)) refl, number, attributes_read values h place names, kind_utf8 k) refl in
    ap (λ (n : ℕ). shape_behind (take n (kind_text k ++ rest)) (option_and_then (behind 35) (behind 32 (drop n (kind_text k ++ rest))))) len
    ∙ ap (λ (word : List ℕ). shape_behind word (option_and_then (behind 35) (behind 32 (drop (length (kind_text k)) (kind_text k ++ rest))))) (take_at (kind_text k) rest (length (kind_text k)) refl)
    ∙ ap (λ (left : List ℕ). shape_behind (kind_text k) (option_and_then (behind 35) (behind 32 left))) (drop_at (kind_text k) rest (length (kind_text k)) refl)
    ∙ whole
