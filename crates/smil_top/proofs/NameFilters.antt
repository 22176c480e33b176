-- Filters, and what a session has of a name.
use Rattle.std.proofs.Common.{◌≡◌, ◌⊎◌, ◌≤◌, Bool, true, false, List, [], ◌∷◌, ◌++◌, length, Option, Some, Result, Ok, Err, inl, inr, refl, ap, sym, ◌∙◌, arith}
use Rattle.std.specs.Prelude.{ℕ, not, map, filter, find, bytes_eq, nat_lt, is_some, option_map, if◌then◌else◌}
use Rattle.std.proofs.lemmas.Bool.{lt-ltb, ltb-true}
use Rattle.std.proofs.lemmas.List.{append-nil}
use Rattle.std.proofs.lemmas.List.Elements.{filter-append}
use Rattle.std.proofs.lemmas.Slice.Eq.{bytes_eq-Decides}
use Rattle.smil_model.specs.declared.limits.TheConstants.{PRESENTATIONS}
use Rattle.smil_model.specs.declared.order.Refusal.{Refusal}
use Rattle.smil_model.specs.declared.order.Refusal.TheVariants.{NameTaken, TooManyPresentations}
use Rattle.smil_model.specs.shown.Orders.{Presentation}
use Rattle.smil_live.proofs.AgreedReferences.{bytes_same}
use Rattle.smil_switch.specs.Preferences.{Wanted}
use Rattle.smil_top.specs.Session.{NamedPresentation, Session, is_named, presentation_of, with_state, without, may_load}
use Rattle.smil_top.specs.Laws.{part_of, is_too_many}
use Rattle.smil_laws.proofs.Lists.{filter_shorter}

-- ---- filters

module _ {A : Type 0} (p : A → Bool) where
  if_map : (b : Bool) (f : A → A) (xs ys : List A) → map f (if b then xs else ys) ≡ (if b then map f xs else map f ys)
  if_map true f xs ys = refl
  if_map false f xs ys = refl

  -- a change that the test does not see
  filter-map : (f : A → A) → ((x : A) → p (f x) ≡ p x) → (xs : List A) → filter p (map f xs) ≡ map f (filter p xs)
  filter-map f h [] = refl
  filter-map f h (x ∷ xs) =
      ap (λ (b : Bool). if b then f x ∷ filter p (map f xs) else filter p (map f xs)) (h x)
      ∙ ap (λ (zs : List A). if p x then f x ∷ zs else zs) (filter-map f h xs)
      ∙ sym (if_map (p x) f (x ∷ filter p xs) (filter p xs))

  other-step : (x y : A) (ys zs : List A) → (y ≡ x) ⊎ ((p x ≡ false) × (p y ≡ false)) → ys ≡ zs → (if p y then y ∷ ys else ys) ≡ (if p x then x ∷ zs else zs)
  other-step x y ys zs (inl e) rest = ap (λ (w : A). if p w then w ∷ ys else ys) e ∙ ap (λ (vs : List A). if p x then x ∷ vs else vs) rest
  other-step x y ys zs (inr h) rest = ap (λ (b : Bool). if b then y ∷ ys else ys) h.1 ∙ rest ∙ ap (λ (b : Bool). if b then x ∷ zs else zs) (sym h.0)

  -- a change of nothing that passes
  filter-other : (f : A → A) → ((x : A) → (f x ≡ x) ⊎ ((p x ≡ false) × (p (f x) ≡ false))) → (xs : List A) → filter p (map f xs) ≡ filter p xs
  filter-other f h [] = refl
  filter-other f h (x ∷ xs) = other-step x (f x) (filter p (map f xs)) (filter p xs) (h x) (filter-other f h xs)

  drop-step : (a b : Bool) (x : A) (ys zs : List A) → p x ≡ a → (a ≡ true → b ≡ true) → filter p ys ≡ filter p zs → filter p (if b then x ∷ ys else ys) ≡ filter p (x ∷ zs)
  drop-step true true x ys zs e h rest = ap (λ (vs : List A). if p x then x ∷ vs else vs) rest
  drop-step false true x ys zs e h rest = ap (λ (vs : List A). if p x then x ∷ vs else vs) rest
  drop-step false false x ys zs e h rest = rest ∙ ap (λ (b : Bool). if b then x ∷ filter p zs else filter p zs) (sym e)
  drop-step true false x ys zs e h rest = let never : false ≡ true = h refl in absurd cc

  -- nothing that passes is dropped before
  filter-dropped : (q : A → Bool) → ((x : A) → p x ≡ true → q x ≡ true) → (xs : List A) → filter p (filter q xs) ≡ filter p xs
  filter-dropped q h [] = refl
  filter-dropped q h (x ∷ xs) = drop-step (p x) (q x) x (filter q xs) xs refl (h x) (filter-dropped q h xs)

  swap-step : (q : A → Bool) (a b : Bool) (x : A) (ys zs : List A) → p x ≡ a → q x ≡ b → filter p zs ≡ filter q ys → filter p (if b then x ∷ zs else zs) ≡ filter q (if a then x ∷ ys else ys)
  swap-step q true true x ys zs e d rest =
      ap (λ (b : Bool). if b then x ∷ filter p zs else filter p zs) e ∙ ap (λ (vs : List A). x ∷ vs) rest ∙ ap (λ (b : Bool). if b then x ∷ filter q ys else filter q ys) (sym d)
  swap-step q true false x ys zs e d rest = rest ∙ ap (λ (b : Bool). if b then x ∷ filter q ys else filter q ys) (sym d)
  swap-step q false true x ys zs e d rest = ap (λ (b : Bool). if b then x ∷ filter p zs else filter p zs) e ∙ rest
  swap-step q false false x ys zs e d rest = rest

  filter-swap : (q : A → Bool) (xs : List A) → filter p (filter q xs) ≡ filter q (filter p xs)
  filter-swap q [] = refl
  filter-swap q (x ∷ xs) = swap-step q (p x) (q x) x (filter p xs) (filter q xs) refl refl (filter-swap q xs)

  find-step : (a : Bool) (x : A) (ys : List A) (z : Option A) → p x ≡ a → find p ys ≡ z → find p (if a then x ∷ ys else ys) ≡ (if a then Some x else z)
  find-step true x ys z e rest = ap (λ (b : Bool). if b then Some x else find p ys) e
  find-step false x ys z e rest = rest

  find-filter : (xs : List A) → find p (filter p xs) ≡ find p xs
  find-filter [] = refl
  find-filter (x ∷ xs) = find-step (p x) x (filter p xs) (find p xs) refl (find-filter xs)

-- ---- sessions

-- whether a load goes on, by whether its name is held, and whether there is room
abbrev may_by : Bool → Bool → Result (Unit {0}) Refusal
may_by taken room = if taken then Err NameTaken else (if room then Ok tt else Err TooManyPresentations)

module _ (name : List ℕ) where
  named-kept : (b : Bool) (after : Presentation) (held : NamedPresentation) → is_named name (if b then record { name = held.name; presentation = after } else held) ≡ is_named name held
  named-kept true after held = refl
  named-kept false after held = refl

  abbrev pub session_of : Wanted → List NamedPresentation → Session
  session_of wanted held = record { held = held; wanted = wanted }

  pub part-with : (other : List ℕ) (after : Presentation) (session : Session) → part_of name (with_state other after session) ≡ with_state other after (part_of name session)
  part-with other after session =
      ap (session_of session.wanted)
      (filter-map (is_named name) (λ (held : NamedPresentation). if is_named other held then record { name = held.name; presentation = after } else held) (λ held. named-kept (is_named other held) after held) session.held)

  pub part-without : (session : Session) → part_of name (without name session) ≡ without name (part_of name session)
  part-without session = ap (session_of session.wanted) (filter-swap (is_named name) (λ (held : NamedPresentation). not (is_named name held)) session.held)

  pub part-own : (session : Session) (loaded : Presentation) →
      part_of name (record session { held = session.held ++ record { name = name; presentation = loaded } ∷ [] }) ≡ record session { held = (part_of name session).held ++ record { name = name; presentation = loaded } ∷ [] }
  part-own session loaded =
      let new : NamedPresentation = record { name = name; presentation = loaded } in
      ap (session_of session.wanted)
      (filter-append (is_named name) session.held (new ∷ []) ∙ ap (λ (b : Bool). (part_of name session).held ++ (if b then new ∷ [] else [])) ((bytes_eq-Decides name name).1 refl))

  pub presentation-part : (session : Session) → presentation_of name (part_of name session) ≡ presentation_of name session
  presentation-part session = ap (option_map (λ (held : NamedPresentation). held.presentation)) (find-filter (is_named name) session.held)

  may-by : (taken : Bool) (few more : ℕ) → few ≤ more → (t : Bool) → nat_lt more PRESENTATIONS ≡ t
      → ((e : Refusal) → may_by taken t ≡ Err e → is_too_many e ≡ false) → may_by taken (nat_lt few PRESENTATIONS) ≡ may_by taken t
  may-by true few more le t e h = refl
  may-by false few more le true e h = ap (may_by false) (lt-ltb few PRESENTATIONS (omega (arith, le, ltb-true more PRESENTATIONS e)))
  may-by false few more le false e h = let never : true ≡ false = h TooManyPresentations refl in absurd cc

  pub may-part : (session : Session) → ((e : Refusal) → may_load name session ≡ Err e → is_too_many e ≡ false) → may_load name (part_of name session) ≡ may_load name session
  may-part session h =
      ap (λ (p : Option Presentation). may_by (is_some p) (nat_lt (length (part_of name session).held) PRESENTATIONS)) (presentation-part session)
      ∙ may-by (is_some (presentation_of name session)) (length (part_of name session).held) (length session.held) (filter_shorter (is_named name) session.held) (nat_lt (length session.held) PRESENTATIONS) refl h

-- what is done to another name
module _ (name other : List ℕ) (apart : bytes_eq other name ≡ false) where
  not_both : (held : NamedPresentation) → is_named other held ≡ true → is_named name held ≡ false
  not_both held e = ap (λ (word : List ℕ). bytes_eq word name) (bytes_same held.name other e) ∙ apart

  with-by : (after : Presentation) (held : NamedPresentation) (b : Bool) → is_named other held ≡ b
      → ((if b then record { name = held.name; presentation = after } else held) ≡ held)
      ⊎ ((is_named name held ≡ false) × (is_named name (if b then record { name = held.name; presentation = after } else held) ≡ false))
  with-by after held true e = inr (not_both held e, not_both held e)
  with-by after held false e = inl refl

  pub with-other : (after : Presentation) (session : Session) → (part_of name (with_state other after session)).held ≡ (part_of name session).held
  with-other after session =
      filter-other (is_named name) (λ (held : NamedPresentation). if is_named other held then record { name = held.name; presentation = after } else held) (λ held. with-by after held (is_named other held) refl) session.held

  without-by : (held : NamedPresentation) (b : Bool) → is_named other held ≡ b → is_named name held ≡ true → not b ≡ true
  without-by held true e h = let never : false ≡ true = sym (not_both held e) ∙ h in absurd cc
  without-by held false e h = refl

  pub without-other : (session : Session) → (part_of name (without other session)).held ≡ (part_of name session).held
  without-other session = filter-dropped (is_named name) (λ (held : NamedPresentation). not (is_named other held)) (λ held h. without-by held (is_named other held) refl h) session.held

  pub loaded-other : (loaded : Presentation) (session : Session) →
      (part_of name (record session { held = session.held ++ record { name = other; presentation = loaded } ∷ [] })).held ≡ (part_of name session).held
  loaded-other loaded session =
      let new : NamedPresentation = record { name = other; presentation = loaded } in
      filter-append (is_named name) session.held (new ∷ []) ∙ ap (λ (b : Bool). (part_of name session).held ++ (if b then new ∷ [] else [])) apart ∙ append-nil (part_of name session).held
