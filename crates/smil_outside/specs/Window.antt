-- What a window holds.
use Rattle.std.specs.Prelude.{◌≡◌, ◌≤◌, ℕ, List, slice_range, vec_len}
use Rattle.smil_outside.specs.declared.window.TheConstants.{WINDOW_BYTES}
use Rattle.smil_outside.specs.declared.window.Window.TheInside.{Inside}

-- the line that was cut last, and the bytes behind it
pub record HeldBytes : Type 0 where
  pub line : List ℕ
  pub bytes : List ℕ

-- these parts of the buffer
abbrev pub held_in : Inside → HeldBytes
held_in w = record {
  line = slice_range w.buffer.items w.line w.line_end;
  bytes = slice_range w.buffer.items w.start w.end;
}

-- the bytes stand behind the line, within a buffer of the whole size
abbrev pub IsWindow : Inside → Type 0
IsWindow w =
    (w.line ≤ w.line_end) × (w.line_end ≤ w.start) × (w.start ≤ w.end) × (w.end ≤ vec_len w.buffer)
    × (vec_len w.buffer ≡ WINDOW_BYTES)
