-- The slots of rows.
use Rattle.std.proofs.Common.{◌≡◌, refl, ◌∙◌, ap, sym, ℕ, suc, ◌≤◌, Bool, true, false, List, [], ◌∷◌, length, replicate, set, map, Option, Some, None, ℤ, arith}
use Rattle.std.specs.Prelude.{option_map, slice_get, fold, if◌then◌else◌, IfSome}
use Rattle.std.specs.FinSet as set_of
use Rattle.std.proofs.lemmas.List.{length-map, map-append, map-set}
use Rattle.smil_model.specs.declared.happening.Key.{Key}
use Rattle.smil_model.specs.declared.limits.TheConstants.{NODES}
use Rattle.smil_model.specs.declared.document.Node.{Node}
use Rattle.smil_model.specs.document.Document.{elements}
use Rattle.smil_model.specs.diary.Diary.{History}
use Rattle.smil_model.specs.interval.Current.{current_interval}
use Rattle.smil_model.specs.happening.Keys as model
use Rattle.smil_model.specs.happening.Keys.{comes_before, coming, coming_of, coming_from, earlier_key, first_coming, keys, least_key}
use Rattle.smil_element.specs.declared.happening.change.DueChange.{DueChange}
use Rattle.smil_element.specs.Parts.{coming_meant}
use Rattle.smil_element.specs.Element.{both}
use Rattle.smil_element.specs.Comings.{HaveDueChanges}
use Rattle.smil_rounds.specs.declared.current_rows.CurrentRow.{CurrentRow}
use Rattle.smil_rounds.specs.Rows.{IsChosenBy, empty_row}
use Rattle.smil_rounds.proofs.FirstComing.{first_by, none_first}
use Rattle.smil_rounds.proofs.RowEvaluated.{elements_few}
use Rattle.smil_rounds.specs.Current.{AreCurrent}
use Rattle.smil_nodes.specs.Slots.{IsNearKey, earlier_of, least_number, number_of, place_in, repeats}
use Rattle.smil_nodes.specs.Schedule.{HaveNearKeys, coming_number, slot_of, slots_of}
use Rattle.smil_nodes.proofs.LeastNumbers.{least_beside, least_of_both}
use Rattle.smil_nodes.proofs.KeyNumbers.{number_order, place_back, repeat_back}
use Rattle.smil_nodes.proofs.RowAtElement.{plain_current}

pub slots_length : (rows : List CurrentRow) → length (slots_of rows) ≡ length rows
slots_length rows = length-map rows (λ (r : CurrentRow). slot_of r.comings)

-- a row put in its place, and its slot
pub slots_set : (rows : List CurrentRow) (k : ℕ) (row : CurrentRow) → set (slots_of rows) k (slot_of row.comings) ≡ slots_of (set rows k row)
slots_set rows k row = sym (map-set (λ (r : CurrentRow). slot_of r.comings) rows k row)

-- rows of which nothing comes have empty slots
pub slots_empty : (es : List Node) → replicate (length (map empty_row es)) None ≡ slots_of (map empty_row es)
slots_empty [] = refl
slots_empty (e ∷ es) = ap (λ slots. None ∷ slots) (slots_empty es)

-- there are as few rows as elements
pub rows_few : (nodes : List Node) (rows : List CurrentRow) → rows ≡ map empty_row (elements nodes) → length nodes ≤ NODES → length rows ≤ NODES
rows_few nodes rows are all =
    let whole : length rows ≡ length (elements nodes) = ap length are ∙ length-map (elements nodes) empty_row in
    let some : length (elements nodes) ≤ length nodes = elements_few nodes in
    omega (arith, whole, some, all)

-- ---- the numbers of the keys of what comes

abbrev numbers_in : List model.DueChange → List (Option ℕ)
numbers_in cs = map (λ (c : model.DueChange). Some (number_of c.key)) cs

slot_least : (moved repeat : Option DueChange) → earlier_of (coming_number moved) (coming_number repeat) ≡ least_number (numbers_in (both moved repeat))
slot_least None None = refl
slot_least None (Some r) = refl
slot_least (Some m) None = refl
slot_least (Some m) (Some r) = refl

-- the least number of the slots of these rows is that of all keys of what comes
slots_least : (h : History) (now : ℤ) (place : ℕ) (es : List Node) (rows : List CurrentRow) → HaveDueChanges h now place es (map (λ (r : CurrentRow). r.comings) rows) → least_number (slots_of rows) ≡ least_number (numbers_in (coming_from h (current_interval h now) now place es))
slots_least h now place [] [] is = refl
slots_least h now place [] (r ∷ rs) is = elim is [ ]
slots_least h now place (e ∷ es) [] is = elim is [ ]
slots_least h now place (e ∷ es) (r ∷ rs) is =
    let others = coming_from h (current_interval h now) now (suc place) es in
    least_beside (slot_of r.comings) (slots_of rs)
    ∙ ap (earlier_of (slot_of r.comings)) (slots_least h now (suc place) es rs is.1)
    ∙ ap (λ (n : Option ℕ). earlier_of n (least_number (numbers_in others))) (slot_least r.comings.moved r.comings.repeat ∙ ap (λ (cs : List model.DueChange). least_number (numbers_in cs)) is.0)
    ∙ sym (least_of_both (numbers_in (coming_of h (current_interval h now) now place e)) (numbers_in others))
    ∙ ap least_number (sym (map-append (λ (c : model.DueChange). Some (number_of c.key)) (coming_of h (current_interval h now) now place e) others))

-- ---- the number of the least key

earlier_near : (sofar : Option Key) (k : Key) → IfSome sofar IsNearKey → IsNearKey k → IfSome (earlier_key sofar k) IsNearKey
earlier_near None k near own = own
earlier_near (Some l) k near own = choose (comes_before k l)
  where
    choose : (t : Bool) → IfSome (if t then Some k else Some l) IsNearKey
    choose true = own
    choose false = near

earlier_told : (sofar : Option Key) (k : Key) → IfSome sofar IsNearKey → IsNearKey k → option_map number_of (earlier_key sofar k) ≡ earlier_of (option_map number_of sofar) (Some (number_of k))
earlier_told None k near own = refl
earlier_told (Some l) k near own =
    choose (comes_before k l)
    ∙ ap (λ (t : Bool). if t then Some (number_of k) else Some (number_of l)) (sym (number_order l k near own))
  where
    choose : (t : Bool) → option_map number_of (if t then Some k else Some l) ≡ (if t then Some (number_of k) else Some (number_of l))
    choose true = refl
    choose false = refl

abbrev least_from : Option Key → List model.DueChange → Option Key
least_from sofar cs = fold earlier_key sofar (map (λ (c : model.DueChange). c.key) cs)

least_near : (sofar : Option Key) (cs : List model.DueChange) → IfSome sofar IsNearKey → HaveNearKeys cs → IfSome (least_from sofar cs) IsNearKey
least_near sofar [] near all = near
least_near sofar (c ∷ cs) near all = least_near (earlier_key sofar c.key) cs (earlier_near sofar c.key near all.0) all.1

least_told : (sofar : Option Key) (cs : List model.DueChange) → IfSome sofar IsNearKey → HaveNearKeys cs → option_map number_of (least_from sofar cs) ≡ fold earlier_of (option_map number_of sofar) (numbers_in cs)
least_told sofar [] near all = refl
least_told sofar (c ∷ cs) near all =
    least_told (earlier_key sofar c.key) cs (earlier_near sofar c.key near all.0) all.1
    ∙ ap (λ (n : Option ℕ). fold earlier_of n (numbers_in cs)) (earlier_told sofar c.key near all.0)

-- ---- what comes first

module _ (h : History) (now : ℤ) (rows : List CurrentRow) (slots : List (Option ℕ)) (near : HaveNearKeys (coming h now)) (are : AreCurrent rows h now) (slots_are : slots ≡ slots_of rows) where
  least_is : least_number slots ≡ option_map number_of (least_key (keys h now))
  least_is = ap least_number slots_are ∙ slots_least h now 0 (elements h.nodes) rows are.comings_are ∙ sym (least_told None (coming h now) tt near)

  pub nothing_comes : None ≡ least_number slots → None ≡ first_coming (coming h now)
  nothing_comes none = sym (none_first h now (least_key (keys h now)) refl (is_none (least_key (keys h now)) (none ∙ least_is)))
    where
      is_none : (o : Option Key) → None ≡ option_map number_of o → o ≡ None
      is_none None e = refl
      is_none (Some k) e = cc

  pub first_comes : (number : ℕ) (chosen : Option DueChange) → Some number ≡ least_number slots → ((r : CurrentRow) → slice_get rows (place_in number) ≡ Some r → IsChosenBy (λ (k : Key). k.repeat) (repeats number) r.comings.moved r.comings.repeat chosen) → option_map coming_meant chosen ≡ first_coming (coming h now)
  first_comes number chosen least by_row = by_key (least_key (keys h now)) refl (least_near None (coming h now) tt near) (least ∙ least_is)
    where
      by_key : (o : Option Key) → o ≡ least_key (keys h now) → IfSome o IsNearKey → Some number ≡ option_map number_of o → option_map coming_meant chosen ≡ first_coming (coming h now)
      by_key None is own told = cc
      by_key (Some k) is own told =
          let same : number_of k ≡ number = cc in
          first_by (λ (key : Key). key.repeat) (repeats number) h now rows (set_of.from_list (keys h now)) k (place_in number) chosen (plain_current rows h now are) is (repeat_back k ∙ ap repeats same)
          (sym (place_back k own) ∙ ap place_in same) (λ r got a b p q alike. alike) by_row
