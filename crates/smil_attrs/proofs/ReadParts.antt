-- What holds of all that a text can be read as, part by part.
use Rattle.std.proofs.Common.{◌≡◌, ℕ, ◌≤◌, Bool, true, false, cond, eqb, Option, Some, None, List, Result, Ok, Err, refl, subst}
use Rattle.std.specs.Prelude.{IfOk, IfSome}
use Rattle.std.proofs.lemmas.Bool.{cond_both}
use Rattle.smil_model.specs.declared.document.Attr.{Attr}
use Rattle.smil_model.specs.declared.document.AttrName.{AttrName}
use Rattle.smil_model.specs.declared.document.Item.{Item}
use Rattle.smil_grammar.specs.declared.fault.AttrFault.{AttrFault}
use Rattle.smil_grammar.specs.declared.fault.ListFault.{ListFault}
use Rattle.smil_grammar.specs.declared.fault.ListFault.TheVariants as list
use Rattle.smil_grammar.specs.Texts.{◌>>=◌, trim}
use Rattle.smil_grammar.specs.Clock.{clock_within}
use Rattle.smil_grammar.specs.Values.{either, of_value, of_list, above_zero, is_other_value, plain_value_of, value_of}
use Rattle.smil_grammar.specs.Allowed.{name_of, IsAttr}
use Rattle.smil_time_list.proofs.PrintableItems.{clock_small}

-- a number up to the horizon
abbrev pub IsSmall : ℕ → Type 0
IsSmall n = n ≤ 1_000_000_000_000

-- a clock value above 0
pub record IsLength (n : ℕ) : Type 0 where
  pub small : IsSmall n
  pub some : above_zero n ≡ Some n

above : (o : Option ℕ) → IfSome o IsSmall → IfSome (o >>= above_zero) IsLength
above None h = tt
above (Some n) h = cond_both (eqb n 0) None (Some n) (λ o. IfSome o IsLength) (λ e. tt) (λ e. record { small = h; some = rw e refl })

pub length_small : (text : List ℕ) → IfSome (clock_within text >>= above_zero) IsLength
length_small text = above (clock_within text) (clock_small text)

-- a keyword, or another reading
pub both : {A : Type 0} (P : A → Type 0) (k x : Option A) → IfSome k P → IfSome x P → IfSome (either k x) P
both P None x h j = j
both P (Some y) x h j = h

pub word : {A : Type 0} (P : A → Type 0) (t : Bool) (x : A) (k : Option A) → P x → IfSome k P → IfSome (cond t (Some x) k) P
word P t x k h j = cond_both t (Some x) k (λ o. IfSome o P) (λ e. h) (λ e. j)

-- the attribute of a value
pub value : {A : Type 0} (made : A → Attr) (P : A → Type 0) (Q : Attr → Type 0) → ((x : A) → P x → Q (made x)) → (o : Option A) → IfSome o P → IfOk (of_value made o) Q
value made P Q each None h = tt
value made P Q each (Some x) h = each x h

pub any_value : {A : Type 0} (made : A → Attr) (Q : Attr → Type 0) → ((x : A) → Q (made x)) → (o : Option A) → IfOk (of_value made o) Q
any_value made Q each None = tt
any_value made Q each (Some x) = each x

-- a text that is its own value where it passes
pub own_where : (P : List ℕ → Type 0) (t : Bool) (text : List ℕ) → (t ≡ true → P text) → IfSome (cond t (Some text) None) P
own_where P t text each = cond_both t (Some text) None (λ o. IfSome o P) each (λ e. tt)

pub listed : (made : List Item → Attr) (P : List Item → Type 0) (Q : Attr → Type 0) → ((items : List Item) → P items → Q (made items)) → (r : Result (List Item) ListFault) → IfOk r P → IfOk (of_list made r) Q
listed made P Q each (Ok items) h = each items h
listed made P Q each (Err (list.Bad place)) h = tt
listed made P Q each (Err (list.Unsupported place)) h = tt
listed made P Q each (Err list.TooManyItems) h = tt
listed made P Q each (Err list.Memory) h = tt

-- what holds of each value that isn't left out holds of all that are read, and of each attribute

pub all_read : (in_seq : Bool) (Q : Attr → Type 0) (n : AttrName) (text : List ℕ) → (is_other_value n (trim text) ≡ false → IfOk (plain_value_of in_seq n text) Q) → IfOk (value_of in_seq n text) Q
all_read in_seq Q n text plain = cond_both (is_other_value n (trim text)) _ (plain_value_of in_seq n text) (λ r. IfOk r Q) (λ e. tt) plain

pub all_attrs : (in_seq : Bool) (Q : Attr → Type 0) → ((n : AttrName) (text : List ℕ) → is_other_value n (trim text) ≡ false → IfOk (plain_value_of in_seq n text) Q) → (given : Attr) → IsAttr in_seq given → Q given
all_attrs in_seq Q plain given h = subst (λ (r : Result Attr AttrFault). IfOk r Q) h.1 (all_read in_seq Q (name_of given) h.0 (plain (name_of given) h.0))
