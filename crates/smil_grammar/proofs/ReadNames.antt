-- Ids and names as they are found at the front of a text.
use Rattle.std.proofs.Common.{◌≡◌, true, false, refl}
use Rattle.std.specs.Prelude.{codes, replicate}
use Rattle.smil_grammar.specs.Words.{id_len, name_len}

plain_id : id_len false (codes "x9_-.y z") ≡ 6
plain_id = refl

reference : id_len true (codes "_a\\.b\\-c.end") ≡ 8
reference = refl

plain_point : id_len true (codes "a.b") ≡ 1
plain_point = refl

other_escape : id_len true (codes "a\\x") ≡ 1
other_escape = refl

dash_first : id_len false (codes "-a") ≡ 0
dash_first = refl

digit_first : name_len (codes "1a") ≡ 0
digit_first = refl

name : name_len (codes "x9_-y") ≡ 3
name = refl

name_at_most : name_len (replicate 64 97) ≡ 64
name_at_most = refl

name_too_long : name_len (replicate 65 97) ≡ 0
name_too_long = refl

id_at_most : id_len false (replicate 64 97) ≡ 64
id_at_most = refl

id_too_long : id_len true (replicate 65 97) ≡ 0
id_too_long = refl
