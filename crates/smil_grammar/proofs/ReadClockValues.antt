-- Clock values as they are read.
use Rattle.std.proofs.Common.{◌≡◌, Some, None, refl}
use Rattle.std.specs.Prelude.{codes}
use Rattle.smil_grammar.specs.Clock.{clock_of}

full : clock_of (codes "02:30:03") ≡ Some 9003000
full = refl

fraction : clock_of (codes "50:00:10.25") ≡ Some 180010250
fraction = refl

partial : clock_of (codes "02:33") ≡ Some 153000
partial = refl

hours : clock_of (codes "3.2h") ≡ Some 11520000
hours = refl

small : clock_of (codes "0.0009999") ≡ Some 0
small = refl

bare : clock_of (codes "12.467") ≡ Some 12467
bare = refl

short : clock_of (codes "5ms") ≡ Some 5
short = refl

minutes : clock_of (codes "00:60") ≡ None
minutes = refl

empty : clock_of (codes "") ≡ None
empty = refl

long : clock_of (codes "1000000001s") ≡ Some 1000000001000
long = refl

ten : clock_of (codes "0.9999999999999h") ≡ Some 3599999
ten = refl

ten_seconds : clock_of (codes "00:10.5") ≡ Some 10500
ten_seconds = refl

three_quarters : clock_of (codes "45min") ≡ Some 2700000
three_quarters = refl

half : clock_of (codes "30s") ≡ Some 30000
half = refl

leading : clock_of (codes "00.5s") ≡ Some 500
leading = refl

thousandths : clock_of (codes "00:00.005") ≡ Some 5
thousandths = refl

one_digit : clock_of (codes "2:33") ≡ None
one_digit = refl

no_fraction : clock_of (codes "1.s") ≡ None
no_fraction = refl

no_whole : clock_of (codes ".5s") ≡ None
no_whole = refl

parted_metric : clock_of (codes "5 ms") ≡ None
parted_metric = refl

four_parts : clock_of (codes "1:02:03:04") ≡ None
four_parts = refl
