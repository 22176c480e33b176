-- Instance times in the order of their places.
use Rattle.std.specs.Prelude.{◌≡◌, ℕ, ◌≤◌, ◌<◌, List, [], ◌∷◌, ◌++◌, length, get_or, All, Bool, Option}
use Rattle.smil_model.specs.declared.times.Time.{Time}
use Rattle.smil_instance_rows.specs.declared.item_times.InstanceTime.{InstanceTime}
use Rattle.smil_model.specs.Rising.{poured}
use Rattle.smil_instance_rows.specs.Values.{values_of, with_value}

-- no place is after a later one
abbrev pub IsInOrder : List InstanceTime → Type 0
IsInOrder kept = (i j : ℕ) (d : InstanceTime) → i ≤ j → j < length kept
    → (get_or kept i d).place ≤ (get_or kept j d).place

-- no instance time is of a later place
abbrev pub IsNotAfter : ℕ → List InstanceTime → Type 0
IsNotAfter place kept = All (λ (k : InstanceTime). k.place ≤ place) kept

-- the first was taken out, and it is of an earlier place
abbrev pub TakesFirst : ℕ → List InstanceTime → List InstanceTime → InstanceTime → Type 0
TakesFirst place old new first = (old ≡ first ∷ new) × (first.place < place)

-- the first was taken out, and others are left
abbrev pub TakesMore : List InstanceTime → List InstanceTime → InstanceTime → Type 0
TakesMore old new first = (old ≡ first ∷ new) × (0 < length new)

-- the last was taken out, and it is of this place or a later one
abbrev pub TakesLast : ℕ → List InstanceTime → List InstanceTime → InstanceTime → Type 0
TakesLast place old new last = (old ≡ new ++ last ∷ []) × (place ≤ last.place)

-- the last of a list, alone
abbrev pub last_alone : {A : Type 0} → List A → List A
last_alone [] = []
last_alone (x ∷ []) = x ∷ []
last_alone (x ∷ y ∷ ys) = last_alone (y ∷ ys)

-- where the values were those of the one list put into some others,
-- they are those of the other list put into these
abbrev pub Replaces : {A : Type 0} → (A → A → Bool) → (Time → Option A) → List InstanceTime
    → List InstanceTime → List A → List A → Type 0
Replaces {A} le choose kept kept' old new =
    (others : List A) → old ≡ poured le (values_of choose kept) others
    → new ≡ poured le (values_of choose kept') others

-- the last was taken out, and its value, where the values were others with its own put in its place
abbrev pub IsUndone : {A : Type 0} → (A → A → Bool) → (Time → Option A) → List InstanceTime
    → List InstanceTime → List A → List A → Type 0
IsUndone {A} le choose kept kept' old new =
    (first : List InstanceTime) (last : InstanceTime) (others : List A)
    → kept ≡ first ++ last ∷ [] → old ≡ with_value le (choose last.time) others
    → (kept' ≡ first) × (new ≡ others)

-- however the list is some first ones and a last one, P holds of these
abbrev pub EndsWith : List InstanceTime → (List InstanceTime → InstanceTime → Type 0) → Type 0
EndsWith kept P =
    (first : List InstanceTime) (last : InstanceTime) → kept ≡ first ++ last ∷ [] → P first last
