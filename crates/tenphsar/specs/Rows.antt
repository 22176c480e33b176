-- What a handle owns.
use Rattle.std.specs.Prelude.{Option, None, Some}
use base.Fml.{Fml, ftrue}
use denote.RawPtr.{Ptr}
use Rattle.std.specs.Box.Ownership.{box_owns}
use Rattle.std.specs.contracts.impls.GlobalAllocator.TheImpl.{ghosts}
use Rattle.std.specs.declared.alloc.Global.{Global}
use Rattle.smil_top.specs.declared.held.Held.{Held}
use Rattle.smil_top.specs.contracts.held.Held.{the_row}

-- the allocator that has no choice
abbrev pub global : Global
global = record { memory = record { seal = tt } }

-- the box of a session with the right to free it, or nothing
abbrev pub handle_owns : Ptr → Option Held → Fml
handle_owns p None = ftrue
handle_owns p (Some x) = box_owns (ghosts.dealloc_token global) the_row p x
