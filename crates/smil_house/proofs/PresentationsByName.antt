-- The presentation of a name, and another in its place.
use Rattle.std.proofs.Common.{◌≡◌, ℕ, List, length, refl, sym, ap, ◌∙◌}
use Rattle.std.specs.Prelude.{Option, Some, option_and_then, slice_get, slice_set, slice_index_or, bytes_eq}
use Rattle.std.proofs.lemmas.Option.{slice_get_read}
use Rattle.std.proofs.lemmas.List.Quantifiers.{position-Some}
use Rattle.smil_model.specs.shown.Orders.{Formats}
use Rattle.smil_house.specs.declared.house.NamedPlayer.{NamedPlayer}
use Rattle.smil_house.specs.House.{IsAt, IsReplaced, named, place_of}

-- what stands at the place that was found
pub at_found : {P : Type 0} (name : List ℕ) (items held : List (NamedPlayer P)) (found : Option ℕ) (place : ℕ) (h : NamedPlayer P)
    → items ≡ held → found ≡ place_of name held → found ≡ Some place → h ≡ slice_index_or items place h → IsAt name held place h
at_found name items held found place h same is some here =
    let at : place_of name held ≡ Some place = sym is ∙ some in
    record {
      found = at;
      here = slice_get_read held (length held) place h refl (position-Some (λ x. bytes_eq x.name name) held place h at).0 (here ∙ ap (λ xs. slice_index_or xs place h) same);
    }

-- it is what is held under the name
pub named_at : {P : Type 0} {name : List ℕ} {held : List (NamedPlayer P)} {place : ℕ} {h : NamedPlayer P}
    → IsAt name held place h → named name held ≡ Some h
named_at {held = held} at = ap (option_and_then (slice_get held)) at.found ∙ at.here

-- another player put in its place
pub turned_to : {P : Type 0} (formats : P → Formats) {name : List ℕ} (items : List (NamedPlayer P)) {held : List (NamedPlayer P)} {place : ℕ} {h : NamedPlayer P} (player : P)
    → items ≡ held → IsAt name held place h → formats player ≡ formats h.player
    → IsReplaced formats name held (slice_set items place (record { name = h.name; player = player })) place h (record { name = h.name; player = player })
turned_to formats items {place = place} {h = h} player same at told = record {
  at = at;
  new_is = ap (λ xs. slice_set xs place (record { name = h.name; player = player })) same;
  name_is = refl;
  formats_are = told;
}
