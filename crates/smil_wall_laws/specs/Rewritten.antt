-- A wall clock item that is rewritten is read as a reference to the root's begin.
use Rattle.std.specs.Prelude.{◌≡◌, ℕ, ℤ, List, Ok, true}
use Rattle.smil_model.specs.declared.document.Edge.TheVariants.{Begin}
use Rattle.smil_model.specs.declared.document.Item.TheVariants.{Sync}
use Rattle.smil_model.specs.document.Words.{is_id}
use Rattle.smil_grammar.specs.Items.{item_of}
use Rattle.smil_grammar.specs.Texts.{trim}
use Rattle.smil_wall.specs.Rewriting.{is_wall, piece_rewritten, since}

-- how long after the start the item's instant is, its own offset added,
-- is the offset of the reference that is read in its place
pub record IsReference (root : List ℕ) (start : ℤ) (piece text : List ℕ) : Type 0 where
  pub offset : ℤ
  pub since_is : since start (trim piece) ≡ Ok offset
  pub read : item_of (trim text) ≡ Ok (Sync root Begin offset)

abbrev pub RewrittenItemsAreRead : Type 0
RewrittenItemsAreRead =
    (root : List ℕ) (start : ℤ) (place : ℕ) (piece text : List ℕ)
    → is_id root ≡ true → is_wall (trim piece) ≡ true
    → piece_rewritten root start place piece ≡ Ok text
    → IsReference root start piece text
