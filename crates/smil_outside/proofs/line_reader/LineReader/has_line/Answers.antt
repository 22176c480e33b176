use Rattle.std.proofs.Common.{◌≡◌, ℕ, ◌<◌, List, Option, Some, None, length, false, true, refl, sym, ap, subst}
use Rattle.std.specs.Prelude.{◌≢◌, is_some, slice_index, EachIndex, MatchOption, IsTrue}
use Rattle.smil_model.specs.document.Words.{line_feed}
use Rattle.smil_outside.specs.ReaderState.{ReaderState}
use Rattle.smil_outside.proofs.line_reader.LineReader.has_line.Goals as goal

abbrev HasOne : List ℕ → Type 0
HasOne bytes = (at : ℕ) × (at < length bytes) × (slice_index bytes at ≡ line_feed)

found : (bytes : List ℕ) (at : Option ℕ) → MatchOption at (EachIndex bytes (λ k. slice_index bytes k ≢ line_feed)) (λ at. (at < length bytes) × (slice_index bytes at ≡ line_feed) × ((k : ℕ) → k < at → slice_index bytes k ≢ line_feed)) →
    (IsTrue (is_some at) → HasOne bytes) × (HasOne bytes → IsTrue (is_some at))
found bytes None none = (λ is. let never : false ≡ true = is in cc, λ one. absurd (none one.0 one.1 one.2))
found bytes (Some at) there = (λ is. (at, there.0, there.1), λ one. refl)

pub returns : goal.returns
returns c =
    let held = c.self.inside.window.bytes in
    let found_in = subst (λ b. (IsTrue b → HasOne held) × (HasOne held → IsTrue b)) (sym c.is_some.ensures) (found held c.line_feed.result c.line_feed.ensures) in
    subst (λ bytes. (IsTrue c.is_some.result → HasOne bytes) × (HasOne bytes → IsTrue c.is_some.result)) (ap (λ (r : ReaderState). r.pending) c.self.view_is) found_in
