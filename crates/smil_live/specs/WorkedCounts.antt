-- How often orders to a worked presentation have intervals evaluated, at most and at least. One
-- millisecond stands for one second.
use Rattle.std.specs.Prelude.{◌≡◌, ℕ, pos, [], ◌∷◌, Some, codes}
use Rattle.smil_model.specs.declared.document.Dur.TheVariants.{Clock}
use Rattle.smil_model.specs.declared.document.Item.TheVariants.{Offset}
use Rattle.smil_model.specs.declared.document.Kind.TheVariants.{Par, Img}
use Rattle.smil_model.specs.declared.document.Node.{Node}
use Rattle.smil_model.specs.declared.order.Order.{Order}
use Rattle.smil_model.specs.declared.order.Order.TheVariants.{Advance, Seek, Set, Unset}
use Rattle.smil_model.specs.declared.order.Who.TheVariants.{Serial}
use Rattle.smil_model.specs.document.Document.{Document}
use Rattle.smil_model.specs.document.Edits.{no_attrs}
use Rattle.smil_model.specs.shown.Orders.{Presentation}
use Rattle.smil_laws.specs.Image.{node}
use Rattle.smil_live.specs.Counts.{most_loading, least_loading, most_number, least_number}

-- a par of 50 milliseconds in the root
abbrev pub branch : ℕ → Node
branch serial = node serial Par 1 (record no_attrs { dur = Some (Clock (pos 50)) })

-- an image that begins at a millisecond of its parent and lasts two
abbrev pub image_at : ℕ → ℕ → ℕ → Node
image_at begin serial parent = node serial Img parent
    (record no_attrs { begin = Some (Offset (pos begin) ∷ []); dur = Some (Clock (pos 2)) })

-- a par with two branches, in each an image, without references between them
abbrev pub two_branches : Document
two_branches = record {
  nodes =
      node 1 Par 0 (record no_attrs { dur = Some (Clock (pos 60)) })
      ∷ branch 2
      ∷ image_at 1 3 2
      ∷ branch 4
      ∷ image_at 5 5 4
      ∷ [];
  next = 6;
}

-- the presentation at a moment, with nothing logged
abbrev pub at_moment : ℕ → Presentation
at_moment now = record { document = two_branches; log = []; now = now }

-- the first image is to last three milliseconds
abbrev pub lengthened : Order
lengthened = Set (Serial 3) (codes "dur") (codes "3ms") 7 11

-- the first image is to have no title
abbrev pub untitled : Order
untitled = Unset (Serial 3) (codes "title") 9

-- at the load each of the 5 elements gets an interval, and the begins of the root and of the
-- branches reach 5, 3 and 3; in the advance the begin and the end of the image reach 2 each; the
-- edit leaves the begin of the root and of the first branch as they were, so that besides the 5
-- elements the begin of the second branch and those of the image are left, which reach 3, 2 and 2;
-- after the backward seek each element has an interval, and after the edit each but the first image
pub record WorkedCounts : Type 0 where
  pub load_at_most : most_loading (at_moment 0) ≡ 16
  pub load_at_least : least_loading (at_moment 0) ≡ 5
  pub advance_at_most : most_number (at_moment 0) (Advance (pos 4)) ≡ 4
  pub advance_at_least : least_number (at_moment 0) (Advance (pos 4)) ≡ 0
  pub seek_at_most : most_number (at_moment 4) (Seek (pos 2)) ≡ 5
  pub seek_at_least : least_number (at_moment 4) (Seek (pos 2)) ≡ 5
  pub set_at_most : most_number (at_moment 4) lengthened ≡ 12
  pub set_at_least : least_number (at_moment 4) lengthened ≡ 4
  pub title_at_most : most_number (at_moment 4) untitled ≡ 0
  pub title_at_least : least_number (at_moment 4) untitled ≡ 0
