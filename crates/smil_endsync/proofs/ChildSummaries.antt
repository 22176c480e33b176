-- What children come to by a rule, all together.
use Rattle.std.proofs.Common.{◌≡◌, refl, ◌∙◌, ap, sym, List, [], ◌∷◌, ◌++◌}
use Rattle.std.specs.Prelude.{Option, Some, None, fold, map, unwrap_or, option_map, IfSome}
use Rattle.std.specs.List.{reduce}
use Rattle.smil_model.specs.declared.times.Time.{Time}
use Rattle.smil_model.specs.declared.times.Time.TheVariants.{Unresolved}
use Rattle.smil_model.specs.declared.interval.ChildEnd.{ChildEnd}
use Rattle.smil_model.specs.Times.{least_time, greatest_time}
use Rattle.smil_model.specs.interval.Durations.{first_end}
use Rattle.smil_endsync.specs.declared.ends.EndSummary.{EndSummary}
use Rattle.smil_endsync.specs.declared.ends.EndSummary.TheVariants.{Greatest, Least, NoEnd}
use Rattle.smil_endsync.specs.declared.ends.Summing.{Summing}
use Rattle.smil_endsync.specs.declared.ends.Summing.TheVariants.{All, First, Last}
use Rattle.smil_endsync.specs.Known.{greatest_known}
use Rattle.smil_model.specs.Tournaments.{IsSum}
use Rattle.smil_endsync.specs.Ends.{both_ends, greatest_of, greatest_or, least_or, one_end}
use Rattle.smil_endsync.proofs.TimeOrders.{least_grouped, greatest_grouped, least_before, least_from, known_from, greatest_from}

both_grouped : (a b c : EndSummary) → both_ends (both_ends a b) c ≡ both_ends a (both_ends b c)
both_grouped NoEnd b c = refl
both_grouped (Least s) NoEnd c = refl
both_grouped (Least s) (Least t) NoEnd = refl
both_grouped (Least s) (Least t) (Least u) = ap Least (least_grouped s t u)
both_grouped (Least s) (Least t) (Greatest u) = refl
both_grouped (Least s) (Greatest t) NoEnd = refl
both_grouped (Least s) (Greatest t) (Least u) = refl
both_grouped (Least s) (Greatest t) (Greatest u) = refl
both_grouped (Greatest s) NoEnd c = refl
both_grouped (Greatest s) (Least t) NoEnd = refl
both_grouped (Greatest s) (Least t) (Least u) = refl
both_grouped (Greatest s) (Least t) (Greatest u) = refl
both_grouped (Greatest s) (Greatest t) NoEnd = refl
both_grouped (Greatest s) (Greatest t) (Least u) = refl
both_grouped (Greatest s) (Greatest t) (Greatest u) = ap Greatest (greatest_grouped s t u)

none_behind : (a : EndSummary) → both_ends a NoEnd ≡ a
none_behind NoEnd = refl
none_behind (Least t) = refl
none_behind (Greatest t) = refl

-- what groups come to, one behind the other
abbrev pub sum_of : List EndSummary → EndSummary
sum_of [] = NoEnd
sum_of (s ∷ ss) = both_ends s (sum_of ss)

sum_of_both : (xs ys : List EndSummary) → sum_of (xs ++ ys) ≡ both_ends (sum_of xs) (sum_of ys)
sum_of_both [] ys = refl
sum_of_both (x ∷ xs) ys = ap (both_ends x) (sum_of_both xs ys) ∙ sym (both_grouped x (sum_of xs) (sum_of ys))

pub sums : IsSum NoEnd both_ends sum_of
sums = record { of_none = refl; of_one = none_behind; of_both = sum_of_both }

-- what all come to where they are summed
pub sum_kept : (rule : Summing) (cs : List ChildEnd) (old : Option (List EndSummary)) (sum : List EndSummary → EndSummary) → IfSome old (λ (all : List EndSummary). all ≡ map (one_end rule) cs) → IfSome (option_map sum old) (λ (top : EndSummary). top ≡ sum (map (one_end rule) cs))
sum_kept rule cs None sum own = tt
sum_kept rule cs (Some all) sum own = ap sum own

-- ---- the sums are the ends by the rules

greatest_both : (a b : Option Time) → both_ends (greatest_of a) (greatest_of b) ≡ greatest_of (greatest_known a b)
greatest_both None b = refl
greatest_both (Some s) None = refl
greatest_both (Some s) (Some t) = refl

pub greatest_read : (end' : Option Time) (other : Time) → greatest_or (greatest_of end') other ≡ unwrap_or end' other
greatest_read None other = refl
greatest_read (Some t) other = refl

pub latest_is : (cs : List ChildEnd) → sum_of (map (one_end Last) cs) ≡ greatest_of (fold greatest_known None (map (λ (c : ChildEnd). c.latest) cs))
latest_is [] = refl
latest_is (c ∷ cs) =
    let rest : Option Time = fold greatest_known None (map (λ (d : ChildEnd). d.latest) cs) in
    ap (both_ends (greatest_of c.latest)) (latest_is cs)
    ∙ greatest_both c.latest rest
    ∙ ap greatest_of (sym (known_from c.latest (map (λ (d : ChildEnd). d.latest) cs)))

with_known : (t : Time) (ts : List Time) → greatest_known (Some t) (reduce greatest_time ts) ≡ Some (fold greatest_time t ts)
with_known t [] = refl
with_known t (u ∷ us) = ap Some (greatest_from t u us)

abbrev all_latest : List ChildEnd → List Time
all_latest cs = map (λ (c : ChildEnd). unwrap_or c.latest Unresolved) cs

pub all_is : (cs : List ChildEnd) → sum_of (map (one_end All) cs) ≡ greatest_of (reduce greatest_time (map (λ (c : ChildEnd). unwrap_or c.latest Unresolved) cs))
all_is [] = refl
all_is (c ∷ cs) =
    let end' : Time = unwrap_or c.latest Unresolved in
    ap (both_ends (Greatest end')) (all_is cs)
    ∙ greatest_both (Some end') (reduce greatest_time (all_latest cs))
    ∙ ap greatest_of (with_known end' (all_latest cs))

abbrev all_first : List ChildEnd → List Time
all_first cs = map (λ (c : ChildEnd). unwrap_or c.first Unresolved) cs

least_next : (t u : Time) (us : List Time) → least_time t (fold least_time u us) ≡ fold least_time (least_time t u) us
least_next t u us =
    ap (least_time t) (least_from u us)
    ∙ sym (least_grouped t u (fold least_time Unresolved us))
    ∙ sym (least_from (least_time t u) us)

-- of at least one child
first_behind : (c : ChildEnd) (cs : List ChildEnd) → sum_of (map (one_end First) (c ∷ cs)) ≡ Least (fold least_time (unwrap_or c.first Unresolved) (all_first cs))
first_behind c [] = refl
first_behind c (d ∷ ds) =
    ap (both_ends (Least (unwrap_or c.first Unresolved))) (first_behind d ds)
    ∙ ap Least (least_next (unwrap_or c.first Unresolved) (unwrap_or d.first Unresolved) (all_first ds))

pub first_is : (cs : List ChildEnd) → least_or (sum_of (map (one_end First) cs)) Unresolved ≡ first_end cs
first_is [] = refl
first_is (c ∷ cs) =
    ap (λ (s : EndSummary). least_or s Unresolved) (first_behind c cs)
    ∙ ap (λ (t : Time). fold least_time t (all_first cs)) (sym (least_before (unwrap_or c.first Unresolved)))
