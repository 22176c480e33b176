-- The laws of the order of keys.
use Rattle.std.specs.Prelude.{◌≡◌, ◌≢◌, ℕ, ℤ, true, false, ◌||◌}
use Rattle.std.specs.List.{All}
use Rattle.std.specs.FinSet as set
use Rattle.std.specs.declared.cmp.Ordering.TheVariants.{Less}
use Rattle.std.specs.Ordering.{is_gt}
use Rattle.smil_model.specs.declared.happening.Key.{Key}
use Rattle.smil_model.specs.diary.Diary.{History}
use Rattle.smil_model.specs.happening.Keys.{comes_before, keys}
use Rattle.smil_due.specs.Order.{key_cmp}

-- no key comes before itself
abbrev pub IsIrreflexive : Type 0
IsIrreflexive = (a : Key) → comes_before a a ≡ false

abbrev pub IsTransitive : Type 0
IsTransitive =
    (a b c : Key) → comes_before a b ≡ true → comes_before b c ≡ true → comes_before a c ≡ true

-- a key of a document: its serial is that of the element at its place
abbrev pub HasSerial : (ℕ → ℕ) → Key → Type 0
HasSerial serial_at key = key.serial ≡ serial_at key.position

-- of two keys of one document that differ, one comes before the other
abbrev pub IsTotal : Type 0
IsTotal =
    (serial_at : ℕ → ℕ) (a b : Key) → HasSerial serial_at a → HasSerial serial_at b → a ≢ b
    → (comes_before a b || comes_before b a) ≡ true

-- what comes before another key by the model is below it in the order of the queue
abbrev pub KeepsOrder : Type 0
KeepsOrder = (a b : Key) → comes_before a b ≡ true → key_cmp a b ≡ Less

-- a key of the set, above none of them
pub record IsLeast (keys : set.FinSet key_cmp) (key : Key) : Type 0 where
  pub member : set.contains keys key ≡ true
  pub least : (other : Key) → set.contains keys other ≡ true → is_gt (key_cmp key other) ≡ false

-- all keys that the model gives are of one document
abbrev pub KeysHaveSerials : Type 0
KeysHaveSerials =
    (h : History) (now : ℤ) → (serial_at : ℕ → ℕ) × All (HasSerial serial_at) (keys h now)
