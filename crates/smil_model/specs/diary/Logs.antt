-- Event logs: what came from outside, in order.
use Rattle.std.specs.Prelude.{ℕ, ℤ, pos, int_le, List, [], ◌∷◌, Bool, true, not, ◌&&◌, nat_le}
use Rattle.std.specs.List.{list_all}
use Rattle.smil_model.specs.declared.limits.TheConstants.{SERIALS}
use Rattle.smil_model.specs.declared.diary.LogEntry.{LogEntry}
use Rattle.smil_model.specs.declared.diary.Happening.{Happening}
use Rattle.smil_model.specs.declared.diary.Happening.TheVariants.{Event, Media, Key}
use Rattle.smil_model.specs.document.Words.{is_event_name, is_raised_name, is_key}
use Rattle.smil_model.specs.document.Values.{is_clock}

-- a serial, which need not be a node's
abbrev pub is_serial : ℕ → Bool
is_serial serial = nat_le 1 serial && nat_le serial SERIALS

-- an event that an event line may name, a length, or a key
abbrev pub may_happen : Happening → Bool
may_happen (Event who name) = is_serial who && is_event_name name && not (is_raised_name name)
may_happen (Media who length) = is_serial who && is_clock length
may_happen (Key key) = is_key key

-- from a moment on, moments do not fall
abbrev pub moments_rise : ℤ → List LogEntry → Bool
moments_rise from [] = true
moments_rise from (x ∷ xs) = int_le from x.moment && moments_rise x.moment xs

-- a log: moments from 0 that do not fall
abbrev pub is_log : List LogEntry → Bool
is_log log = moments_rise (pos 0) log && list_all (λ (x : LogEntry). may_happen x.what) log

-- no entry is later than this moment
abbrev pub is_logged_by : ℤ → List LogEntry → Bool
is_logged_by moment log = list_all (λ (x : LogEntry). int_le x.moment moment) log
