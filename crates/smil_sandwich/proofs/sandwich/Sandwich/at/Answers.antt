use Rattle.std.proofs.Common.{rules, tests, ◌≡◌, ◌∙◌, sym, ap, ℕ, List, Bool}
use Rattle.std.specs.Borrow.{Bor}
use Rattle.std.specs.Prelude.{◌&&◌, ◌==◌, Option, bytes_eq, map, option_map, slice_get}
use Rattle.std.proofs.lemmas.Iterator.{YieldsList-from_slice}
use Rattle.std.proofs.lemmas.Iterator.Consumers.{YieldsList-from_filter, nth_from_yields_List}
use Rattle.smil_model.specs.declared.view.Layer.{Layer}
use Rattle.smil_model.specs.shown.Sandwich.{layers_on, stack_of}
use Rattle.smil_sandwich.specs.Stacks.{AreKept}
use Rattle.smil_sandwich.proofs.LayerPlaces.{read_at}
use Rattle.smil_sandwich.proofs.LayersSorted.{kept_on}
use Rattle.smil_sandwich.proofs.sandwich.Sandwich.at.Goals as goal
use Rattle.smil_sandwich.proofs.sandwich.Sandwich.at.Goals.{After-nth}

abbrev on : ℕ → List ℕ → ℕ × Layer → Bool
on target attr l = ((l.1).target == target) && bytes_eq (l.1).attr attr

-- the set at the place among those of the layers that are kept
abbrev wanted : After-nth → Option ℕ
wanted c = slice_get (map (λ (l : ℕ × Layer). l.0) (layers_on c.args.self.now c.args.target c.args.attr.now)) c.args.k

-- it is found
found : (c : After-nth) → option_map (λ (x : Bor (ℕ × Layer)). x.now.0) c.nth.result ≡ wanted c
found c =
    read_at (λ (l : ℕ × Layer). l.0) (layers_on c.args.self.now c.args.target c.args.attr.now) c.args.k c.nth.result
    (nth_from_yields_List c.nth.result _ c.args.k c.nth.ensures.ran
    (YieldsList-from_filter _ (on c.args.target c.args.attr.now)
    (YieldsList-from_slice c.args.self.now (cc)) c.filter-stack.ensures.closure (λ x b q k. search (rules, tests))))

-- and stands there in the stack made from scratch
from_scratch : (c : After-nth) (set : Option ℕ) → set ≡ wanted c → (all : List (ℕ × Layer)) → AreKept all c.args.self.now → set ≡ slice_get (stack_of all c.args.target c.args.attr.now) c.args.k
from_scratch c set kept all h = kept ∙ ap (λ s. slice_get s c.args.k) (kept_on all c.args.self.now c.args.target c.args.attr.now h)

pub returns-in_err-nth : goal.returns-in_err-nth
returns-in_err-nth c =
    let kept = c.from_residual.ensures ∙ ap (option_map (λ (x : Bor (ℕ × Layer)). x.now.0)) (sym c.in_err-nth.was) ∙ found (goal.at.returns-in_err-nth c).After-nth in
    record { kept = kept; model = from_scratch (goal.at.returns-in_err-nth c).After-nth c.from_residual.result kept }

pub returns : goal.returns
returns c =
    let kept = ap (option_map (λ (x : Bor (ℕ × Layer)). x.now.0)) (sym c.in_ok-nth.was) ∙ found (goal.at.returns c).After-nth in
    record { kept = kept; model = from_scratch (goal.at.returns c).After-nth _ kept }
