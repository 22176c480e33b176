-- Instance times with those put in that are expected.
use Rattle.std.proofs.Common.{◌≡◌, refl, sym, ◌∙◌, ap, ℕ, ◌+◌, ℤ, List, [], ◌∷◌, ◌++◌, length, Bool, true, false, take, subst, arith}
use Rattle.std.specs.Prelude.{Option, None, Some, ◌==◌, ◌||◌, if◌then◌else◌, ◌+ℤ◌, int_le, map, filter_map, flat_map, is_some, option_map, option_to_list, slice_get}
use Rattle.std.proofs.lemmas.List.Concat.{flat_map-append}
use Rattle.std.proofs.lemmas.List.Elements.{filter_map-append}
use Rattle.smil_model.specs.declared.times.Time.{Time}
use Rattle.smil_model.specs.declared.times.Time.TheVariants.{At, Indefinite, Unresolved}
use Rattle.smil_model.specs.declared.interval.Interval.{Interval}
use Rattle.smil_model.specs.declared.document.Node.{Node}
use Rattle.smil_model.specs.declared.document.Edge.{Edge}
use Rattle.smil_model.specs.declared.document.Edge.TheVariants.{Begin, End}
use Rattle.smil_model.specs.Times.{numbers, time_le, within_horizon}
use Rattle.smil_model.specs.document.Defaults.{begin_list, end_list}
use Rattle.smil_model.specs.diary.Diary.{History, is_active}
use Rattle.smil_model.specs.diary.Clocks.{between, outer_stands}
use Rattle.smil_model.specs.interval.Instances.{begin_times, end_times, interval_edge, item_times, no_interval, number_of, settled_begins, settled_ends}
use Rattle.smil_laws.proofs.Lists.{take-more_at}
use Rattle.smil_model.specs.Rising.{IsOrder, IsRising, poured}
use Rattle.smil_instance_rows.specs.Values.{begins_of, ends_of}
use Rattle.smil_model.proofs.RisingLists.{poured-append, poured-swap, rises_poured, rising_rises, rising_times_rise}
use Rattle.smil_instances.specs.SettledTimes.{row_of}
use Rattle.smil_instances.proofs.ExpectedBegins.{are_merged}
use Rattle.smil_instances.specs.declared.syncbase.Syncbase.{Syncbase}
use Rattle.smil_past.specs.Syncs.{expected_by, is_empty, sync_row, syncs_of, syncs_on}
use Rattle.smil_past.proofs.SyncsExpected.{syncs_tell}
use Rattle.smil_element.specs.Pouring.{with_times}

-- ---- what one item gives

module _ (h : History) (intervals : ℕ → Option Interval) (now : ℤ) (e : ℕ) (s : Syncbase) where
  abbrev times_unless : Bool → Option ℤ → List Time
  times_unless stand value =
      if stand then [] else map (λ v. within_horizon (between h s.of e v now +ℤ s.offset)) (option_to_list value)

  abbrev edge_given : Option ℤ
  edge_given = interval_edge s.edge (is_active h.diary s.of) (intervals s.of)

  pub none_given : None ≡ edge_given → [] ≡ expected_by h intervals now e s
  none_given is = by (outer_stands h e || outer_stands h s.of) ∙ ap (times_unless (outer_stands h e || outer_stands h s.of)) is
    where
      by : (t : Bool) → [] ≡ times_unless t None
      by true = refl
      by false = refl

  -- by what the value is on the clock of the element's time parent, which is there while both run
  pub one_given : (shown : Option ℤ) (value : ℤ) → Some value ≡ edge_given → shown ≡ (if outer_stands h e || outer_stands h s.of then None else Some (between h s.of e value now)) → option_to_list (option_map (λ v. within_horizon (v +ℤ s.offset)) shown) ≡ expected_by h intervals now e s
  one_given shown value edge is =
      ap (λ o. option_to_list (option_map (λ v. within_horizon (v +ℤ s.offset)) o)) is
      ∙ by (outer_stands h e || outer_stands h s.of)
      ∙ ap (times_unless (outer_stands h e || outer_stands h s.of)) edge
    where
      by : (t : Bool) → option_to_list (option_map (λ v. within_horizon (v +ℤ s.offset)) (if t then None else Some (between h s.of e value now))) ≡ times_unless t (Some value)
      by true = refl
      by false = refl

-- ---- what all items give

module _ (h : History) (now : ℤ) (e : Node) where
  none_by : (s : Syncbase) → expected_by h no_interval now e.serial s ≡ []
  none_by s = step (outer_stands h e.serial || outer_stands h s.of)
    where
      step : (t : Bool) → times_unless h no_interval now e.serial s t None ≡ []
      step true = refl
      step false = refl

  none_expected : (syncs : List Syncbase) → flat_map (expected_by h no_interval now e.serial) syncs ≡ []
  none_expected [] = refl
  none_expected (s ∷ ss) = ap (λ ts. ts ++ flat_map (expected_by h no_interval now e.serial) ss) (none_by s) ∙ none_expected ss

  begins_kept : settled_begins h now e ≡ begins_of (row_of h e).begins
  begins_kept =
      (are_merged h no_interval now e).begins
      ∙ ap (λ ts. poured int_le (numbers ts) (begins_of (row_of h e).begins)) (syncs_tell h no_interval now e Begin ∙ none_expected (syncs_of h.nodes Begin e))

  ends_kept : settled_ends h now e ≡ ends_of (row_of h e).ends
  ends_kept =
      (are_merged h no_interval now e).ends
      ∙ ap (λ ts. poured time_le ts (ends_of (row_of h e).ends)) (syncs_tell h no_interval now e End ∙ none_expected (syncs_of h.nodes End e))

  chosen_numbers : (ts : List Time) → filter_map number_of ts ≡ numbers ts
  chosen_numbers [] = refl
  chosen_numbers (At x ∷ ts) = ap (λ xs. x ∷ xs) (chosen_numbers ts)
  chosen_numbers (Indefinite ∷ ts) = chosen_numbers ts
  chosen_numbers (Unresolved ∷ ts) = chosen_numbers ts

  chosen_times : (ts : List Time) → filter_map Some ts ≡ ts
  chosen_times [] = refl
  chosen_times (t ∷ ts) = ap (λ us. t ∷ us) (chosen_times ts)

  -- the settled ones with the expected ones are all
  pub begins_merged : (intervals : ℕ → Option Interval) → with_times int_le number_of (flat_map (expected_by h intervals now e.serial) (syncs_of h.nodes Begin e)) (settled_begins h now e) ≡ begin_times h intervals now e
  begins_merged intervals =
      (λ i. poured int_le (chosen_numbers (flat_map (expected_by h intervals now e.serial) (syncs_of h.nodes Begin e)) i) (begins_kept i))
      ∙ ap (λ ts. poured int_le (numbers ts) (begins_of (row_of h e).begins)) (sym (syncs_tell h intervals now e Begin))
      ∙ sym (are_merged h intervals now e).begins

  pub ends_merged : (intervals : ℕ → Option Interval) → with_times time_le Some (flat_map (expected_by h intervals now e.serial) (syncs_of h.nodes End e)) (settled_ends h now e) ≡ end_times h intervals now e
  ends_merged intervals =
      (λ i. poured time_le (chosen_times (flat_map (expected_by h intervals now e.serial) (syncs_of h.nodes End e)) i) (ends_kept i))
      ∙ ap (λ ts. poured time_le ts (ends_of (row_of h e).ends)) (sym (syncs_tell h intervals now e End))
      ∙ sym (are_merged h intervals now e).ends

  -- where none is expected the settled ones are all
  pub begins_alone : (intervals : ℕ → Option Interval) → flat_map (expected_by h intervals now e.serial) (syncs_of h.nodes Begin e) ≡ [] → settled_begins h now e ≡ begin_times h intervals now e
  begins_alone intervals none =
      ap (λ ts. with_times int_le number_of ts (settled_begins h now e)) (sym none)
      ∙ begins_merged intervals

  -- where nothing is waited for the settled ones are all
  pub begins_settled : (intervals : ℕ → Option Interval) → syncs_of h.nodes Begin e ≡ [] → settled_begins h now e ≡ begin_times h intervals now e
  begins_settled intervals none =
      ap (λ ss. with_times int_le number_of (flat_map (expected_by h intervals now e.serial) ss) (settled_begins h now e)) (sym none)
      ∙ begins_merged intervals

  pub ends_settled : (intervals : ℕ → Option Interval) → syncs_of h.nodes End e ≡ [] → settled_ends h now e ≡ end_times h intervals now e
  ends_settled intervals none =
      ap (λ ss. with_times time_le Some (flat_map (expected_by h intervals now e.serial) ss) (settled_ends h now e)) (sym none)
      ∙ ends_merged intervals

pub begins_rise : (h : History) (intervals : ℕ → Option Interval) (now : ℤ) (e : Node) → IsRising int_le (begin_times h intervals now e)
begins_rise h intervals now e = rising_rises (numbers (flat_map (item_times h intervals now e Begin) (begin_list h.nodes e)))

pub ends_rise : (h : History) (intervals : ℕ → Option Interval) (now : ℤ) (e : Node) → IsRising time_le (end_times h intervals now e)
ends_rise h intervals now e = rising_times_rise (flat_map (item_times h intervals now e End) (end_list e))

-- ---- pouring, item by item

module _ {A : Type 0} (le : A → A → Bool) (order : IsOrder le) (choose : Time → Option A) where
  pub rises_with : (times : List Time) (into out : List A) → IsRising le into → out ≡ with_times le choose times into → IsRising le out
  rises_with times into out up is = subst (λ (xs : List A). IsRising le xs) (sym is) (rises_poured le order (filter_map choose times) into up)

  with_more : (ts us : List Time) (into : List A) → with_times le choose (ts ++ us) into ≡ with_times le choose us (with_times le choose ts into)
  with_more ts us into =
      ap (λ xs. poured le xs into) (filter_map-append choose ts us)
      ∙ poured-append le order (filter_map choose ts) (filter_map choose us) into
      ∙ poured-swap le order (filter_map choose ts) (filter_map choose us) into

  flat_one : (f : Syncbase → List Time) (s : Syncbase) → flat_map f (s ∷ []) ≡ f s
  flat_one f s = append_none (f s)
    where
      append_none : (ts : List Time) → ts ++ [] ≡ ts
      append_none [] = refl
      append_none (t ∷ ts) = ap (λ us. t ∷ us) (append_none ts)

  -- one more item is taken
  pub pour_more : (f : Syncbase → List Time) (syncs : List Syncbase) (k : ℕ) (s : Syncbase) (into old new : List A) (given : List Time) → slice_get syncs k ≡ Some s → old ≡ with_times le choose (flat_map f (take k syncs)) into → given ≡ f s → new ≡ with_times le choose given old → new ≡ with_times le choose (flat_map f (take (k + 1) syncs)) into
  pour_more f syncs k s into old new given at old_is given_is new_is =
      new_is
      ∙ (λ i. with_times le choose ((given_is ∙ sym (flat_one f s)) i) (old_is i))
      ∙ sym (with_more (flat_map f (take k syncs)) (flat_map f (s ∷ [])) into)
      ∙ ap (λ ts. with_times le choose ts into) (sym (flat_map-append f (take k syncs) (s ∷ [])) ∙ ap (flat_map f) (sym (take-more_at syncs k s at)))

pub empty_told : (syncs : List Syncbase) → (length syncs == 0) ≡ is_empty syncs
empty_told [] = refl
empty_told (s ∷ ss) = grind arith

pub side_told : (nodes : List Node) (e : Node) (side : Edge) → syncs_on side (sync_row nodes e) ≡ syncs_of nodes side e
side_told nodes e Begin = refl
side_told nodes e End = refl

pub none_there : (syncs : List Syncbase) → is_empty syncs ≡ true → syncs ≡ []
none_there [] is = refl
none_there (s ∷ ss) is = absurd (cc)

pub none_waited : (syncs : List Syncbase) → (length syncs == 0) ≡ true → syncs ≡ []
none_waited [] is = refl
none_waited (s ∷ ss) is = absurd (grind (arith, is))

pub is_not_some : {A : Type 0} (o : Option A) → is_some o ≡ false → None ≡ o
is_not_some None is = refl
is_not_some (Some x) is = absurd (cc)
