-- The order of keys as a comparison.
use Rattle.std.specs.Prelude.{ℤ, pos, neg_ℤ, ◌==◌, if◌then◌else◌}
use Rattle.std.specs.declared.cmp.Ordering.{Ordering}
use Rattle.std.specs.Ordering.{nat_cmp, int_cmp, bool_cmp, on, then_cmp}
use Rattle.std.specs.Cmp.{IsTotalOrder, on_total, then_total, int_cmp_total, nat_cmp_total, bool_cmp_total}
use Rattle.smil_model.specs.declared.happening.TheConstants.{BEGIN_CLASS}
use Rattle.smil_model.specs.declared.happening.Key.{Key}

-- the turn of a begin rises with its place in the document, and that of all others falls
abbrev pub turn : Key → ℤ
turn key =
    if key.class == BEGIN_CLASS then pos key.position else neg_ℤ (pos key.position)

-- by moment, by class, by turn, an end before a repeat
abbrev pub happening_cmp : Key → Key → Ordering
happening_cmp =
    then_cmp (then_cmp (then_cmp (on (λ (key : Key). key.value) int_cmp)
    (on (λ (key : Key). key.class) nat_cmp)) (on turn int_cmp))
    (on (λ (key : Key). key.repeat) bool_cmp)

-- the same, and by the serial where all that ties, which no two elements of one document do
abbrev pub key_cmp : Key → Key → Ordering
key_cmp = then_cmp happening_cmp (on (λ (key : Key). key.serial) nat_cmp)

pub happening_cmp_total : IsTotalOrder happening_cmp
happening_cmp_total =
    then_total (then_total (then_total (on_total (λ (key : Key). key.value) int_cmp_total)
    (on_total (λ (key : Key). key.class) nat_cmp_total)) (on_total turn int_cmp_total))
    (on_total (λ (key : Key). key.repeat) bool_cmp_total)

pub key_cmp_total : IsTotalOrder key_cmp
key_cmp_total = then_total happening_cmp_total (on_total (λ (key : Key). key.serial) nat_cmp_total)
