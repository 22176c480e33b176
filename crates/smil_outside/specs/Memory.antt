-- What is known of a source and of a sink in memory.
use Rattle.std.specs.Prelude.{◌≡◌, ℕ, ◌+◌, ◌-◌, ◌==◌, min, List, [], length, if◌then◌else◌}
use Rattle.smil_outside.specs.Faults.{last_count}

-- the numbers of the calls that fail, from 1, and how many calls and faults there were
pub record Plan : Type 0 where
  pub fail_at : List ℕ
  pub calls : ℕ
  pub faults : ℕ

-- before the first call
abbrev pub fresh_plan : List ℕ → Plan
fresh_plan fail_at = record { fail_at = fail_at; calls = 0; faults = 0 }

-- after one more call
abbrev pub called : Plan → Plan
called plan = record plan { calls = min (plan.calls + 1) last_count }

-- after one more fault
abbrev pub faulted : Plan → Plan
faulted plan = record plan { faults = min (plan.faults + 1) last_count }

-- the bytes left, the most that a read gives, and which reads fail
pub record SourceState : Type 0 where
  pub rest : List ℕ
  pub chunk : ℕ
  pub plan : Plan

-- no read is to fail, and none has failed
pub record SurelyGives (source : SourceState) : Type 0 where
  pub none_fails : source.plan.fail_at ≡ []
  pub counted : source.plan.faults ≡ 0

-- the bytes taken, the most that fit, and which writes fail
pub record SinkState : Type 0 where
  pub taken : List ℕ
  pub room : ℕ
  pub plan : Plan

-- the room that is left, where no write is to fail
abbrev pub sure_room_of : SinkState → ℕ
sure_room_of sink = if length sink.plan.fail_at == 0 then sink.room - length sink.taken else 0
