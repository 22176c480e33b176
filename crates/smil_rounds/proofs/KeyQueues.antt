-- The keys of what comes, in a list and in a queue.
use Rattle.std.proofs.Common.{◌≡◌, refl, ◌∙◌, ap, sym, ℕ, suc, List, [], ◌∷◌, ◌++◌, Option, Some, None, ℤ, map, append_assoc}
use Rattle.std.specs.Prelude.{fold}
use Rattle.std.specs.FinSet as set
use Rattle.std.proofs.lemmas.List.{map-append}
use Rattle.smil_model.specs.declared.happening.Key.{Key}
use Rattle.smil_model.specs.declared.document.Node.{Node}
use Rattle.smil_model.specs.document.Document.{elements}
use Rattle.smil_model.specs.diary.Diary.{History}
use Rattle.smil_model.specs.interval.Current.{current_interval}
use Rattle.smil_model.specs.happening.Keys as model
use Rattle.smil_model.specs.happening.Keys.{coming_of, coming_from, keys}
use Rattle.smil_due.specs.Order.{key_cmp_total}
use Rattle.smil_due.proofs.KeyOrder.{key_cmp_antisymmetric}
use Rattle.smil_element.specs.declared.happening.change.DueChange.{DueChange}
use Rattle.smil_element.specs.Element.{both}
use Rattle.smil_element.specs.Comings.{HaveDueChanges}
use Rattle.smil_rounds.specs.declared.current_rows.CurrentRow.{CurrentRow}
use Rattle.smil_rounds.specs.Current.{AreCurrent}
use Rattle.smil_rounds.specs.Round.{due_in, key_in, keys_in, with_key, with_keys}

abbrev pub key_of : model.DueChange → Key
key_of c = c.key

append_none : (ks : List Key) → ks ≡ ks ++ []
append_none [] = refl
append_none (k ∷ ks) = ap (λ xs. k ∷ xs) (append_none ks)

with_one : (ks : List Key) (o : Option DueChange) → with_key (set.from_list ks) o ≡ set.from_list (ks ++ key_in o)
with_one ks None = ap set.from_list (append_none ks)
with_one ks (Some c) = sym (set.from_list_push key_cmp_total key_cmp_antisymmetric ks c.key)

with_all : (ks : List Key) (rows : List CurrentRow) → fold with_keys (set.from_list ks) rows ≡ set.from_list (ks ++ keys_in rows)
with_all ks [] = ap set.from_list (append_none ks)
with_all ks (r ∷ rs) =
    ap (λ due. fold with_keys due rs)
    (ap (λ due. with_key due r.comings.repeat) (with_one ks r.comings.moved) ∙ with_one (ks ++ key_in r.comings.moved) r.comings.repeat)
    ∙ with_all ((ks ++ key_in r.comings.moved) ++ key_in r.comings.repeat) rs
    ∙ ap (λ xs. set.from_list (xs ++ keys_in rs)) (append_assoc ks (key_in r.comings.moved) (key_in r.comings.repeat))
    ∙ ap set.from_list (append_assoc ks (key_in r.comings.moved ++ key_in r.comings.repeat) (keys_in rs))

-- ---- by what comes

keys_of_both : (a b : Option DueChange) → key_in a ++ key_in b ≡ map key_of (both a b)
keys_of_both None None = refl
keys_of_both None (Some d) = refl
keys_of_both (Some c) None = refl
keys_of_both (Some c) (Some d) = refl

keys_from : (h : History) (now : ℤ) (place : ℕ) (es : List Node) (rows : List CurrentRow) → HaveDueChanges h now place es (map (λ (r : CurrentRow). r.comings) rows) → keys_in rows ≡ map key_of (coming_from h (current_interval h now) now place es)
keys_from h now place [] [] is = refl
keys_from h now place [] (r ∷ rs) is = elim is [ ]
keys_from h now place (e ∷ es) [] is = elim is [ ]
keys_from h now place (e ∷ es) (r ∷ rs) is =
    ap (λ ks. ks ++ keys_in rs) (keys_of_both r.comings.moved r.comings.repeat ∙ ap (map key_of) is.0)
    ∙ ap (λ ks. map key_of (coming_of h (current_interval h now) now place e) ++ ks) (keys_from h now (suc place) es rs is.1)
    ∙ sym (map-append key_of (coming_of h (current_interval h now) now place e) (coming_from h (current_interval h now) now (suc place) es))

-- the keys of current rows are those of all that comes
pub keys_come : (h : History) (now : ℤ) (rows : List CurrentRow) → AreCurrent rows h now → keys_in rows ≡ keys h now
keys_come h now rows current = keys_from h now 0 (elements h.nodes) rows current.comings_are

-- the queue of the rows has the keys of all that comes, and no other
pub due_come : (h : History) (now : ℤ) (es : List Node) (rows : List CurrentRow) → HaveDueChanges h now 0 es (map (λ (r : CurrentRow). r.comings) rows) → due_in rows ≡ set.from_list (map (λ (c : model.DueChange). c.key) (coming_from h (current_interval h now) now 0 es))
due_come h now es rows is = with_all [] rows ∙ ap set.from_list (keys_from h now 0 es rows is)
