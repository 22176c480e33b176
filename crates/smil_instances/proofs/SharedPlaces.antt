-- A table of the places of elements, and lists that have something for each element.
use Rattle.std.proofs.Common.{◌≡◌, refl, sym, ◌∙◌, ap, ℕ, suc, List, [], ◌∷◌, Option, Some, None, true, false, map, eq-eqb}
use Rattle.std.specs.Prelude.{cond, ◌==◌, option_map}
use Rattle.std.specs.List.{position}
use Rattle.smil_model.specs.declared.document.Node.{Node}
use Rattle.smil_model.specs.document.Document.{elements, serials}
use Rattle.smil_model.specs.document.Valid.{IsDistinct}
use Rattle.smil_model.specs.diary.Diary.{History}
use Rattle.smil_model.specs.reach.Reach.{is_option}
use Rattle.smil_model.proofs.FirstPlaces.{position_cons}
use Rattle.smil_graph.proofs.GraphTables.{place_is}
use Rattle.smil_instance_rows.specs.Readings.{index_in}
use Rattle.smil_instances.specs.Spread.{IsIndex}
use Rattle.smil_instances.specs.SettledTimes.{row_of}
use Rattle.smil_instances.proofs.SiblingBefore.{distinct_elements, first_told}

same_option : (a b : Option ℕ) → ((k : ℕ) → is_option k a ≡ is_option k b) → a ≡ b
same_option None None q = refl
same_option None (Some k) q = let never : false ≡ true = q k ∙ eq-eqb k k refl in cc
same_option (Some k) b q = sym (place_is k b (sym (q k) ∙ eq-eqb k k refl))

-- the place of an element is the first one of its serial
pub first_is : (nodes : List Node) (index : ℕ → Option ℕ) → IsDistinct nodes → IsIndex (serials (elements nodes)) index → (who : ℕ) → index who ≡ position (λ s. s == who) (serials (elements nodes))
first_is nodes index distinct is who =
    same_option (index who) (position (λ s. s == who) (serials (elements nodes)))
    (λ row. is row who ∙ sym (first_told (elements nodes) (distinct_elements nodes distinct) row who))

-- the first place by serials is that by what has them
pub position_by : {A : Type 0} (serial : A → ℕ) (xs : List A) (who : ℕ) → position (λ s. s == who) (map serial xs) ≡ position (λ (x : A). serial x == who) xs
position_by {A} serial [] who = refl
position_by {A} serial (x ∷ xs) who =
    position_cons (λ s. s == who) (serial x) (map serial xs)
    ∙ ap (λ o. cond (serial x == who) (Some 0) (option_map suc o)) (position_by serial xs who)
    ∙ sym (position_cons (λ (y : A). serial y == who) x xs)

-- the rows of instance times have the places of their elements
index_rows : (h : History) (es : List Node) (who : ℕ) → position (λ s. s == who) (serials es) ≡ index_in (map (row_of h) es) who
index_rows h [] who = refl
index_rows h (e ∷ es) who =
    position_cons (λ s. s == who) e.serial (serials es)
    ∙ ap (λ o. cond (e.serial == who) (Some 0) (option_map suc o)) (index_rows h es who)

pub rows_placed : (h : History) (index : ℕ → Option ℕ) → IsDistinct h.nodes → IsIndex (serials (elements h.nodes)) index → (who : ℕ) → index who ≡ index_in (map (row_of h) (elements h.nodes)) who
rows_placed h index distinct is who = first_is h.nodes index distinct is who ∙ index_rows h (elements h.nodes) who
