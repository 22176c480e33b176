-- Names of events are those that an order may name.
use Rattle.std.proofs.Common.{◌≡◌, ℕ, ◌<◌, Bool, true, false, cond, not, eqb, leb, ◌&&◌, ◌||◌, List, [], ◌∷◌, length, take, Some, None, is_some, Result, Ok, Err, refl, subst, arith}
use Rattle.std.specs.Prelude.{bytes_eq, codes, OnOk}
use Rattle.std.specs.List.{list_any}
use Rattle.std.proofs.lemmas.Bool.{le-leb, eqb-true}
use Rattle.std.proofs.lemmas.List.{take_all}
use Rattle.smil_model.specs.declared.order.Refusal.{Refusal}
use Rattle.smil_model.specs.document.Words.{is_word, is_list_word, is_event_name, is_raised_name}
use Rattle.smil_grammar.specs.Words.{is_of_name, name_len}
use Rattle.smil_grammar.specs.Scripts.{event_of}
use Rattle.smil_lexis.proofs.TestedFronts.{tests_pass}
use Rattle.smil_lexis.proofs.WordFronts.{IsWord, name_word, word_short}
use Rattle.smil_script.specs.Gives.{other_names}

word_is : (p : ℕ → Bool) (text : List ℕ) → IsWord p text → is_word p text ≡ true
word_is p [] h = absurd h
word_is p (b ∷ text) h = simp (h.0, tests_pass p text h.1)

take_whole : (text : List ℕ) (n : ℕ) → n ≡ length text → take n text ≡ text
take_whole text n e = take_all n text (omega arith)

parted : (a b c d e f g : Bool) → (a || (b || (c || (d || (e || (f || (g || false))))))) ≡ false → ((a || (b || (c || (d || false)))) ≡ false) × ((e || (f || (g || false))) ≡ false)
parted true b c d e f g h = absurd cc
parted false true c d e f g h = absurd cc
parted false false true d e f g h = absurd cc
parted false false false true e f g h = absurd cc
parted false false false false e f g h = (refl, h)

joined : (w s l r : Bool) → w ≡ true → s ≡ true → l ≡ false → r ≡ false → (w && s && not l && not r) ≡ true
joined w s l r a b c d = rw (a, b, c, d) refl

event_is : (text : List ℕ) → eqb (length text) 0 ≡ false → eqb (name_len text) (length text) ≡ true → list_any (bytes_eq text) other_names ≡ false → (is_event_name text && not (is_raised_name text)) ≡ true
event_is [] some whole other = absurd cc
event_is (b ∷ bytes) some whole other =
    let len : name_len (b ∷ bytes) ≡ length (b ∷ bytes) = eqb-true _ _ whole in
    let above : 0 < name_len (b ∷ bytes) = omega arith in
    let word : IsWord is_of_name (b ∷ bytes) = subst (IsWord is_of_name) (take_whole (b ∷ bytes) (name_len (b ∷ bytes)) len) (name_word (b ∷ bytes) above) in
    let words : (list_any (bytes_eq (b ∷ bytes)) (codes "begin" ∷ codes "end" ∷ codes "repeat" ∷ codes "indefinite" ∷ []) ≡ false) × (list_any (bytes_eq (b ∷ bytes)) (codes "beginEvent" ∷ codes "endEvent" ∷ codes "repeatEvent" ∷ []) ≡ false) = parted (bytes_eq (b ∷ bytes) (codes "begin")) (bytes_eq (b ∷ bytes) (codes "end")) (bytes_eq (b ∷ bytes) (codes "repeat")) (bytes_eq (b ∷ bytes) (codes "indefinite")) (bytes_eq (b ∷ bytes) (codes "beginEvent")) (bytes_eq (b ∷ bytes) (codes "endEvent")) (bytes_eq (b ∷ bytes) (codes "repeatEvent")) other in
    joined (is_word is_of_name (b ∷ bytes)) (leb (length (b ∷ bytes)) 64) (is_list_word (b ∷ bytes)) (is_raised_name (b ∷ bytes)) (word_is is_of_name (b ∷ bytes) word) (le-leb _ _ (word_short is_of_name (b ∷ bytes) word)) words.0 words.1

from_test : (x y z : Bool) (text : List ℕ) (P : Type 0) → is_some (cond (not x && y && not z) (Some text) None) ≡ true → (x ≡ false → y ≡ true → z ≡ false → P) → P
from_test true y z text P h next = absurd cc
from_test false false z text P h next = absurd cc
from_test false true true text P h next = absurd cc
from_test false true false text P h next = next refl refl refl

pub event_given : (text : List ℕ) → is_some (event_of text) ≡ true → (is_event_name text && not (is_raised_name text)) ≡ true
event_given text h = from_test (eqb (length text) 0) (eqb (name_len text) (length text)) (list_any (bytes_eq text) other_names) text ((is_event_name text && not (is_raised_name text)) ≡ true) h (event_is text)

pub put_name : (r : Result (Unit {0}) Refusal) (name text : List ℕ) → OnOk r (name ≡ text) → (is_event_name text && not (is_raised_name text)) ≡ true → OnOk r ((is_event_name name && not (is_raised_name name)) ≡ true)
put_name (Ok done) name text same h = rw same h
put_name (Err e) name text same h = tt
