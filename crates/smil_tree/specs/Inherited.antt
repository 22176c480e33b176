-- What an element states itself of its restart and its fill.
use Rattle.std.specs.Prelude.{Option, None, Some}
use Rattle.smil_model.specs.declared.document.Restart.{Restart}
use Rattle.smil_model.specs.declared.document.Restart.TheVariants as restart
use Rattle.smil_model.specs.declared.document.Fill.{Fill}
use Rattle.smil_model.specs.declared.document.Fill.TheVariants as fill

-- the restart that an element states itself; `default` states none
abbrev pub own_restart : Option Restart → Option Restart
own_restart None = None
own_restart (Some restart.ByDefault) = None
own_restart (Some stated) = Some stated

-- the fill that an element states itself; `default` states none
abbrev pub own_fill : Option Fill → Option Fill
own_fill None = None
own_fill (Some fill.ByDefault) = None
own_fill (Some stated) = Some stated
