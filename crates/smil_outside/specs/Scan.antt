-- What a reader holds, and how it looks for the end of a line.
use Rattle.std.specs.Prelude.{◌≡◌, ◌≢◌, ℕ, ◌+◌, ◌<◌, ◌≤◌, List, [], ◌++◌, length, take, slice_index, Option, MatchBool}
use Rattle.std.specs.Io.KnownBytes.{Consumes, IsAtEnd}
use Rattle.smil_outside.specs.declared.line.TheConstants.{INPUT_BYTES}
use Rattle.smil_model.specs.declared.limits.TheConstants.{LINE_BYTES}
use Rattle.smil_outside.specs.declared.scan.Scan.{Scan}
use Rattle.smil_outside.specs.declared.scan.Stop.{Stop}
use Rattle.smil_outside.specs.declared.scan.Stop.TheVariants.{LineFeed, InputEnd, InputTooLong, Fault}
use Rattle.smil_outside.specs.Lines.{HasNoLineFeed}
use Rattle.smil_model.specs.document.Words.{line_feed}
use Rattle.smil_outside.specs.ReaderState.{within_limit}

-- where a scan stopped
abbrev pub Stops : Stop → List ℕ → ℕ → Option (List ℕ) → Type 0
Stops (LineFeed at) bytes taken after =
    (at < length bytes) × (slice_index bytes at ≡ line_feed) × HasNoLineFeed (take at bytes)
Stops InputEnd bytes taken after = HasNoLineFeed bytes × IsAtEnd after × (taken ≤ INPUT_BYTES)
Stops InputTooLong bytes taken after = HasNoLineFeed bytes × (INPUT_BYTES < taken)
Stops Fault bytes taken after = HasNoLineFeed bytes × (taken ≤ INPUT_BYTES)

-- too many bytes for a line were dropped, and the byte behind them is no line feed
pub record IsCutFront (dropped bytes : List ℕ) : Type 0 where
  pub many : LINE_BYTES < length dropped
  pub some : 0 < length bytes
  pub goes_on : slice_index bytes 0 ≢ line_feed

-- a scan took `came`, left out `dropped`, the front of a line that is too long, and holds `bytes`
pub record Scans (old bytes : List ℕ) (before taken : ℕ) (scan : Scan)
    (rest after : Option (List ℕ)) : Type 0 where
  pub came : List ℕ
  pub dropped : List ℕ
  pub took : Consumes rest after came
  pub counted : taken ≡ before + length came
  pub text : old ++ within_limit before came ≡ dropped ++ bytes
  pub uncut : HasNoLineFeed dropped
  pub long : MatchBool scan.is_long (IsCutFront dropped bytes) (dropped ≡ [])
  pub stopped : Stops scan.stop bytes taken after
