-- Lists as they are read, and their first faults.
use Rattle.std.proofs.Common.{◌≡◌, [], ◌∷◌, Some, None, Ok, Err, true, false, refl}
use Rattle.std.specs.Prelude.{codes, pos, negsuc, replicate}
use Rattle.smil_model.specs.declared.document.Item.TheVariants.{Offset, Sync, Event, Repeat, Key, Indefinite}
use Rattle.smil_model.specs.declared.document.Edge.TheVariants.{Begin, End}
use Rattle.smil_grammar.specs.declared.fault.ListFault.TheVariants.{Bad, Unsupported, TooManyItems}
use Rattle.smil_grammar.specs.Lists.{list_of}

-- each form of an item, without a tail and with one, and with white space

offsets : list_of false (codes "0s ; -1s;+ 2s;3") ≡ Ok (Offset (pos 0) ∷ Offset (negsuc 999) ∷ Offset (pos 2000) ∷ Offset (pos 3000) ∷ [])
offsets = refl

syncs : list_of false (codes "a.begin;a.end + 1s;a\\.b.end-1s") ≡ Ok (Sync (codes "a") Begin (pos 0) ∷ Sync (codes "a") End (pos 1000) ∷ Sync (codes "a.b") End (negsuc 999) ∷ [])
syncs = refl

events : list_of false (codes "click; click+1s ;a.click;a\\-b.click - 2") ≡ Ok (Event None (codes "click") (pos 0) ∷ Event None (codes "click") (pos 1000) ∷ Event (Some (codes "a")) (codes "click") (pos 0) ∷ Event (Some (codes "a-b")) (codes "click") (negsuc 1999) ∷ [])
events = refl

repeats : list_of false (codes "repeat(2);repeat(2)+1s;a.repeat(30);a.repeat(999999999) -1ms") ≡ Ok (Repeat None 2 (pos 0) ∷ Repeat None 2 (pos 1000) ∷ Repeat (Some (codes "a")) 30 (pos 0) ∷ Repeat (Some (codes "a")) 999999999 (negsuc 0) ∷ [])
repeats = refl

unresolved : list_of false (codes " indefinite\t; indefinites") ≡ Ok (Indefinite ∷ Event None (codes "indefinites") (pos 0) ∷ [])
unresolved = refl

-- items outside the grammar, at the first byte that isn't white space

second : list_of false (codes "0s; x!") ≡ Err (Bad 4)
second = refl

nothing : list_of false (codes "0s; ") ≡ Err (Bad 4)
nothing = refl

empty : list_of false [] ≡ Err (Bad 0)
empty = refl

zero_count : list_of false (codes "repeat(02)") ≡ Err (Bad 0)
zero_count = refl

long_count : list_of false (codes "repeat(1234567890)") ≡ Err (Bad 0)
long_count = refl

spaced : list_of false (codes "a .begin") ≡ Err (Bad 0)
spaced = refl

unescaped : list_of false (codes "a.b.end") ≡ Err (Bad 0)
unescaped = refl

nobody : list_of false (codes "begin") ≡ Err (Bad 0)
nobody = refl

tailed : list_of false (codes "indefinite+1s") ≡ Err (Bad 0)
tailed = refl

too_long : list_of false (codes "1000000001s") ≡ Err (Bad 0)
too_long = refl

-- items that are left out, whatever follows

wallclock : list_of false (codes "0s;wallclock(1)") ≡ Err (Unsupported 3)
wallclock = refl

key : list_of false (codes "accesskey(") ≡ Err (Bad 0)
key = refl

either_key : list_of false (codes "accesskey(x);accessKey()) - 1s") ≡ Ok (Key 120 (pos 0) ∷ Key 41 (negsuc 999) ∷ [])
either_key = refl

other_key : list_of false (codes " accessKey(a)+!") ≡ Err (Bad 1)
other_key = refl

element : list_of false (codes "id(a)(begin)") ≡ Err (Unsupported 0)
element = refl

marker : list_of false (codes "a\\.b.marker(x;y") ≡ Err (Unsupported 0)
marker = refl

-- 32 items and 33

full : list_of false (codes "1;1;1;1;1;1;1;1;1;1;1;1;1;1;1;1;1;1;1;1;1;1;1;1;1;1;1;1;1;1;1;1") ≡ Ok (replicate 32 (Offset (pos 1000)))
full = refl

overfull : list_of false (codes "1;1;1;1;1;1;1;1;1;1;1;1;1;1;1;1;1;1;1;1;1;1;1;1;1;1;1;1;1;1;1;1;?") ≡ Err TooManyItems
overfull = refl

-- the begin of a child of a seq

seq_plain : list_of true (codes " 1s ") ≡ Ok (Offset (pos 1000) ∷ [])
seq_plain = refl

seq_zero : list_of true (codes "-0s") ≡ Ok (Offset (pos 0) ∷ [])
seq_zero = refl

seq_negative : list_of true (codes " -1s") ≡ Err (Bad 1)
seq_negative = refl

seq_two : list_of true (codes "1s;2s") ≡ Err (Bad 0)
seq_two = refl

seq_second : list_of true (codes " 1s;x!") ≡ Err (Bad 1)
seq_second = refl

seq_sync : list_of true (codes "a.end") ≡ Err (Bad 0)
seq_sync = refl

seq_left_out : list_of true (codes "1s; wallclock(1)") ≡ Err (Unsupported 4)
seq_left_out = refl

seq_first_fault : list_of true (codes " ?;wallclock(1)") ≡ Err (Bad 1)
seq_first_fault = refl
