-- The items of an element's begin list, and which of them is for the same event as another item.
use Rattle.std.proofs.Common.{◌≡◌, refl, sym, ◌∙◌, ap, ℕ, List, [], ◌∷◌, ◌+◌, take, Some, None, Bool, true, false}
use Rattle.std.specs.Prelude.{cond, pos, slice_get}
use Rattle.std.specs.List.{list_any}
use Rattle.std.proofs.lemmas.Bool.{or_from}
use Rattle.std.proofs.lemmas.List.Folds.{list_any_more, list_any_at}
use Rattle.std.proofs.lemmas.Option.{slice_get_within, get_or_from_slice_get}
use Rattle.smil_model.specs.declared.document.Node.{Node}
use Rattle.smil_model.specs.declared.document.Attrs.{Attrs}
use Rattle.smil_model.specs.declared.document.Item.{Item}
use Rattle.smil_model.specs.declared.document.Item.TheVariants.{Offset, Event, Repeat, Indefinite}
use Rattle.smil_model.specs.document.Document.{is_in_excl}
use Rattle.smil_model.specs.document.Defaults.{begin_list, items_or}
use Rattle.smil_model.specs.interval.Instances.{is_same_event}

same_none : (nodes : List Node) (s : ℕ) (item : Item) → is_same_event nodes s item Indefinite ≡ false
same_none nodes s (Event who name offset) = refl
same_none nodes s (Repeat who n offset) = refl
same_none nodes s _ = refl

same_offset : (nodes : List Node) (s : ℕ) (item : Item) → is_same_event nodes s item (Offset (pos 0)) ≡ false
same_offset nodes s (Event who name offset) = refl
same_offset nodes s (Repeat who n offset) = refl
same_offset nodes s _ = refl

-- the default begin list has no event item
default_free : (nodes : List Node) (s : ℕ) (item : Item) (t : Bool) → list_any (is_same_event nodes s item) (cond t (Indefinite ∷ []) (Offset (pos 0) ∷ [])) ≡ false
default_free nodes s item true = or_from _ _ (same_none nodes s item) refl
default_free nodes s item false = or_from _ _ (same_offset nodes s item) refl

pub free_without : (nodes : List Node) (s : ℕ) (item : Item) (e : Node) → e.attrs.begin ≡ None → list_any (is_same_event nodes s item) (begin_list nodes e) ≡ false
free_without nodes s item e none =
    ap (λ o. list_any (is_same_event nodes s item) (items_or (cond (is_in_excl nodes e.serial) (Indefinite ∷ []) (Offset (pos 0) ∷ [])) o)) none
    ∙ default_free nodes s item (is_in_excl nodes e.serial)

pub list_is : (nodes : List Node) (e : Node) (a : Attrs) (items : List Item) → a ≡ e.attrs → a.begin ≡ Some items → begin_list nodes e ≡ items
list_is nodes e a items same is =
    ap (items_or (cond (is_in_excl nodes e.serial) (Indefinite ∷ []) (Offset (pos 0) ∷ []))) (sym (ap (λ (b : Attrs). b.begin) same) ∙ is)

-- one item more is for another event
pub none_more : (test : Item → Bool) (items : List Item) (i : ℕ) (x : Item) → slice_get items i ≡ Some x → list_any test (take i items) ≡ false → test x ≡ false → list_any test (take (i + 1) items) ≡ false
none_more test items i x at before here =
    list_any_more test items i x (slice_get_within items i x at) ∙ or_from _ _ before (ap test (get_or_from_slice_get items i x x at) ∙ here)

pub one_found : (test : Item → Bool) (items : List Item) (i : ℕ) (x : Item) → slice_get items i ≡ Some x → test x ≡ true → list_any test items ≡ true
one_found test items i x at here =
    list_any_at test items i x (slice_get_within items i x at) (ap test (get_or_from_slice_get items i x x at) ∙ here)
