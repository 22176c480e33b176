-- UTF-8 as a test.
use Rattle.std.proofs.Common.{◌≡◌, ℕ, Bool, true, false, List, sym, refl}
use Rattle.std.specs.Str.{IsUtf8, is_utf8}
use Rattle.std.proofs.lemmas.Str.{IsUtf8-from_is_utf8, is_utf8-from_IsUtf8}

pub valid : (bytes : List ℕ) → IsUtf8 bytes → true ≡ is_utf8 bytes
valid bytes h = sym (is_utf8-from_IsUtf8 bytes h)

refuted : (bytes : List ℕ) (t : Bool) → is_utf8 bytes ≡ t → ¬ (IsUtf8 bytes) → false ≡ t
refuted bytes false e h = refl
refuted bytes true e h = absurd (h (IsUtf8-from_is_utf8 bytes e))

pub invalid : (bytes : List ℕ) → ¬ (IsUtf8 bytes) → false ≡ is_utf8 bytes
invalid bytes h = refuted bytes (is_utf8 bytes) refl h
