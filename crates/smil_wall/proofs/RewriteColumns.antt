-- A fault of rewriting stands in the line.
use Rattle.std.proofs.Common.{◌≡◌, ℕ, ◌+◌, ◌≤◌, ◌∷◌, Bool, true, false, List, [], length, Result, Ok, Err, arith, subst}
use Rattle.std.specs.Prelude.{ℤ, IfErr, if◌then◌else◌}
use Rattle.std.specs.List.{prefix_len}
use Rattle.std.proofs.lemmas.List.Sums.{prefix_len-le-length}
use Rattle.smil_grammar.specs.declared.fault.ItemFault.{ItemFault}
use Rattle.smil_grammar.specs.declared.fault.ItemFault.TheVariants as item
use Rattle.smil_grammar.specs.Texts.{is_white, trim, semicolon, quote}
use Rattle.smil_grammar.specs.Lists.{item_pieces}
use Rattle.smil_grammar.specs.Nodes.{quote_pieces}
use Rattle.smil_grammar.proofs.ResultFaults.{after}
use Rattle.smil_lexis.proofs.CutPieces.{joined_len, split_len}
use Rattle.smil_wall.specs.declared.fault.WallFault.{WallFault}
use Rattle.smil_wall.specs.declared.fault.WallFault.TheVariants as wall
use Rattle.smil_wall.specs.Rewriting.{is_wall, since, at_place, piece_rewritten, pieces_rewritten, after as after_text, opens_list, part_rewritten, parts_rewritten, FaultWithin, GivesLine}

module _ (m : ℕ) where
  abbrev Within : {A : Type 0} → Result A WallFault → Type 0
  Within r = IfErr r (FaultWithin m)

  choice_within : {A : Type 0} (b : Bool) (x y : Result A WallFault) → Within x → Within y → Within (if b then x else y)
  choice_within true x y h k = h
  choice_within false x y h k = k

  place_within : (place : ℕ) (r : Result ℤ ItemFault) → place ≤ m → Within (at_place place r)
  place_within place (Ok z) le = tt
  place_within place (Err item.Bad) le = le
  place_within place (Err item.Unsupported) le = le
  place_within place (Err item.Memory) le = tt

  piece_within : (root : List ℕ) (start : ℤ) (place : ℕ) (piece : List ℕ) → place + length piece ≤ m → Within (piece_rewritten root start place piece)
  piece_within root start place piece le =
      let white : prefix_len is_white piece ≤ length piece = prefix_len-le-length is_white piece in
      choice_within (is_wall (trim piece)) _ _
      (after (FaultWithin m) (at_place (place + prefix_len is_white piece) (since start (trim piece))) _ (place_within (place + prefix_len is_white piece) (since start (trim piece)) (omega (arith, le, white))) (λ offset. tt))
      tt

  pieces_within : (root : List ℕ) (start : ℤ) (place : ℕ) (pieces : List (List ℕ)) → place + joined_len pieces ≤ m + 1 → Within (pieces_rewritten root start place pieces)
  pieces_within root start place [] le = tt
  pieces_within root start place (piece ∷ []) le = piece_within root start place piece (omega (arith, le))
  pieces_within root start place (piece ∷ other ∷ pieces) le =
      after (FaultWithin m) (piece_rewritten root start place piece) _ (piece_within root start place piece (omega (arith, le)))
      (λ front. after (FaultWithin m) (pieces_rewritten root start (place + length piece + 1) (other ∷ pieces)) _
      (pieces_within root start (place + length piece + 1) (other ∷ pieces) (omega (arith, le))) (λ rest. tt))

  part_within : (root : List ℕ) (start : ℤ) (place : ℕ) (before part : List ℕ) → place + length part ≤ m → Within (part_rewritten root start place before part)
  part_within root start place before part le =
      let split : joined_len (item_pieces part) ≡ length part + 1 = split_len semicolon part in
      choice_within (opens_list before) _ _ (pieces_within root start place (item_pieces part) (omega (arith, le, split))) tt

  parts_within : (root : List ℕ) (start : ℤ) (place : ℕ) (before : List ℕ) (parts : List (List ℕ)) → place + joined_len parts ≤ m + 1 → Within (parts_rewritten root start place before parts)
  parts_within root start place before [] le = tt
  parts_within root start place before (part ∷ []) le = part_within root start place before part (omega (arith, le))
  parts_within root start place before (part ∷ other ∷ parts) le =
      after (FaultWithin m) (part_rewritten root start place before part) _ (part_within root start place before part (omega (arith, le)))
      (λ front. after (FaultWithin m) (parts_rewritten root start (place + length part + 1) (after_text before part) (other ∷ parts)) _
      (parts_within root start (place + length part + 1) (after_text before part) (other ∷ parts) (omega (arith, le))) (λ rest. tt))

given_within : (m : ℕ) (r reading : Result (List ℕ) WallFault) → GivesLine r reading → IfErr reading (FaultWithin m) → IfErr r (FaultWithin m)
given_within m (Ok line) reading gives h = tt
given_within m (Err wall.NoAnchor) reading gives h = tt
given_within m (Err (wall.BadValue place)) reading gives h = subst (λ (r : Result (List ℕ) WallFault). IfErr r (FaultWithin m)) gives h
given_within m (Err (wall.Unsupported place)) reading gives h = subst (λ (r : Result (List ℕ) WallFault). IfErr r (FaultWithin m)) gives h
given_within m (Err wall.Memory) reading gives h = tt

-- what a call that rewrites the line finds at fault stands in it
pub line_within : (root : List ℕ) (start : ℤ) (line : List ℕ) (r : Result (List ℕ) WallFault) → GivesLine r (parts_rewritten root start 0 [] (quote_pieces line)) → IfErr r (FaultWithin (length line))
line_within root start line r gives =
    let split : joined_len (quote_pieces line) ≡ length line + 1 = split_len quote line in
    given_within (length line) r _ gives (parts_within (length line) root start 0 [] (quote_pieces line) (omega (arith, split)))
