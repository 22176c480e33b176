-- Times put in their places among rising values.
use Rattle.std.specs.Prelude.{List, filter_map, Bool, Option}
use Rattle.smil_model.specs.declared.times.Time.{Time}
use Rattle.smil_model.specs.Rising.{poured}

-- the values that times give, put in their places
abbrev pub with_times :
    {A : Type 0} → (A → A → Bool) → (Time → Option A) → List Time → List A → List A
with_times le choose times into = poured le (filter_map choose times) into
