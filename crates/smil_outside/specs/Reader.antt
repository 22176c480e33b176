-- What a line reader keeps.
use Rattle.std.specs.Prelude.{◌+◌, ◌-◌, ◌≤◌, length}
use Rattle.smil_outside.specs.declared.line.TheConstants.{INPUT_BYTES}
use Rattle.smil_outside.specs.declared.window.TheConstants.{WINDOW_BYTES}
use Rattle.smil_outside.specs.declared.line_reader.LineReader.TheInside.{Inside}
use Rattle.smil_outside.specs.ReaderState.{ReaderState}

-- what is known of it between calls
abbrev pub reading_in : Inside → ReaderState
reading_in r = record {
  pending = r.window.bytes;
  taken = r.taken;
  line = r.window.line;
  number = r.number;
  closed = r.closed;
}

-- it took no more than the limit and a window; and the lines that were answered,
-- the bytes that are left and those that may still come are together no more than the limit
abbrev pub IsReader : Inside → Type 0
IsReader r =
    (r.taken ≤ INPUT_BYTES + WINDOW_BYTES)
    × (r.number + length r.window.bytes + (INPUT_BYTES - r.taken) ≤ INPUT_BYTES)
