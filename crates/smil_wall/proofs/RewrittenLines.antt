-- Lines are rewritten part by part, and lists piece by piece.
use Rattle.std.proofs.Common.{◌≡◌, ℕ, ◌+◌, List, [], ◌∷◌, ◌++◌, length, Option, Some, None, Result, Ok, Err, refl, sym, ap, ◌∙◌, append_assoc, arith, ℤ}
use Rattle.std.specs.Prelude.{MatchOption}
use Rattle.smil_grammar.specs.Results.{◌>>=◌}
use Rattle.smil_grammar.specs.Texts.{cut_at}
use Rattle.smil_grammar.specs.Lists.{item_pieces}
use Rattle.smil_grammar.specs.Nodes.{quote_pieces}
use Rattle.smil_lexis.proofs.CutPieces.{pieces, cut_pieces}
use Rattle.smil_wall.specs.declared.fault.WallFault.{WallFault}
use Rattle.smil_wall.specs.Rewriting.{piece_rewritten, pieces_rewritten, part_rewritten, parts_rewritten, after, with_front}

-- a text has a piece
abbrev HasPiece : List (List ℕ) → Type 0
HasPiece ps = (first : List ℕ) × ((more : List (List ℕ)) × (ps ≡ first ∷ more))

some_piece : (k : ℕ) (text : List ℕ) (found : Option (List ℕ × List ℕ)) → MatchOption found (pieces k text ≡ text ∷ []) (λ cut. (pieces k text ≡ cut.0 ∷ pieces k cut.1) × (length cut.0 + 1 + length cut.1 ≡ length text)) → HasPiece (pieces k text)
some_piece k text None e = (text, ([], e))
some_piece k text (Some cut) e = (cut.0, (pieces k cut.1, e.0))

has_piece : (k : ℕ) (text : List ℕ) → HasPiece (pieces k text)
has_piece k text = some_piece k text (cut_at k text) (cut_pieces k text)

abbrev fine : List ℕ → Result (List ℕ) WallFault
fine text = Ok text

-- what was appended, a byte behind it, and what is appended behind that
abbrev joined : ℕ → Result (List ℕ) WallFault → Result (List ℕ) WallFault → Result (List ℕ) WallFault
joined b front rest = front >>= λ x. rest >>= λ y. Ok (x ++ b ∷ y)

goes_on : (out mid : List ℕ) (b : ℕ) (front rest : Result (List ℕ) WallFault) → with_front out front ≡ Ok mid → with_front (mid ++ b ∷ []) rest ≡ with_front out (joined b front rest)
goes_on out mid b (Err f) rest e = absurd cc
goes_on out mid b (Ok x) (Err f) e = refl
goes_on out mid b (Ok x) (Ok y) e =
    let same : out ++ x ≡ mid = cc in
    let on : (mid ++ b ∷ []) ++ y ≡ out ++ (x ++ b ∷ y) = rw (← same) (simp append_assoc) in
    ap fine on

module _ (root : List ℕ) (start : ℤ) where
  first_piece : (place : ℕ) (piece rest : List ℕ) → pieces_rewritten root start place (piece ∷ item_pieces rest) ≡ joined 59 (piece_rewritten root start place piece) (pieces_rewritten root start (place + length piece + 1) (item_pieces rest))
  first_piece place piece rest = by (item_pieces rest) (has_piece 59 rest)
    where
      by : (ps : List (List ℕ)) → HasPiece ps → pieces_rewritten root start place (piece ∷ ps) ≡ joined 59 (piece_rewritten root start place piece) (pieces_rewritten root start (place + length piece + 1) ps)
      by [] h = let never : [] ≡ h.0 ∷ h.1.0 = h.1.1 in absurd cc
      by (other ∷ ps) h = refl

  first_part : (place : ℕ) (before part rest : List ℕ) → parts_rewritten root start place before (part ∷ quote_pieces rest) ≡ joined 34 (part_rewritten root start place before part) (parts_rewritten root start (place + length part + 1) (after before part) (quote_pieces rest))
  first_part place before part rest = by (quote_pieces rest) (has_piece 34 rest)
    where
      by : (ps : List (List ℕ)) → HasPiece ps → parts_rewritten root start place before (part ∷ ps) ≡ joined 34 (part_rewritten root start place before part) (parts_rewritten root start (place + length part + 1) (after before part) ps)
      by [] h = let never : [] ≡ h.0 ∷ h.1.0 = h.1.1 in absurd cc
      by (other ∷ ps) h = refl

  -- one more piece of a list is appended
  pub pieces_on : (place next : ℕ) (piece rest left out mid new : List ℕ) → next ≡ place + (length piece + 1) → new ≡ mid ++ 59 ∷ [] → item_pieces left ≡ piece ∷ item_pieces rest
      → with_front out (piece_rewritten root start place piece) ≡ Ok mid
      → with_front new (pieces_rewritten root start next (item_pieces rest)) ≡ with_front out (pieces_rewritten root start place (item_pieces left))
  pieces_on place next piece rest left out mid new at appended cut e =
      let behind : next ≡ place + length piece + 1 = omega (arith, at) in
      ap (λ (n : ℕ). with_front new (pieces_rewritten root start n (item_pieces rest))) behind
      ∙ ap (λ (t : List ℕ). with_front t (pieces_rewritten root start (place + length piece + 1) (item_pieces rest))) appended
      ∙ goes_on out mid 59 (piece_rewritten root start place piece) (pieces_rewritten root start (place + length piece + 1) (item_pieces rest)) e
      ∙ ap (with_front out) (sym (first_piece place piece rest))
      ∙ ap (λ (ps : List (List ℕ)). with_front out (pieces_rewritten root start place ps)) (sym cut)

  -- one more part of a line is appended
  pub parts_on : (place next : ℕ) (before behind part rest left out mid new : List ℕ) → next ≡ place + (length part + 1) → behind ≡ after before part → new ≡ mid ++ 34 ∷ [] → quote_pieces left ≡ part ∷ quote_pieces rest
      → with_front out (part_rewritten root start place before part) ≡ Ok mid
      → with_front new (parts_rewritten root start next behind (quote_pieces rest)) ≡ with_front out (parts_rewritten root start place before (quote_pieces left))
  parts_on place next before behind part rest left out mid new at name appended cut e =
      let later : next ≡ place + length part + 1 = omega (arith, at) in
      ap (λ (n : ℕ). with_front new (parts_rewritten root start n behind (quote_pieces rest))) later
      ∙ ap (λ (b : List ℕ). with_front new (parts_rewritten root start (place + length part + 1) b (quote_pieces rest))) name
      ∙ ap (λ (t : List ℕ). with_front t (parts_rewritten root start (place + length part + 1) (after before part) (quote_pieces rest))) appended
      ∙ goes_on out mid 34 (part_rewritten root start place before part) (parts_rewritten root start (place + length part + 1) (after before part) (quote_pieces rest)) e
      ∙ ap (with_front out) (sym (first_part place before part rest))
      ∙ ap (λ (ps : List (List ℕ)). with_front out (parts_rewritten root start place before ps)) (sym cut)
