-- Values case by case: what holds of each keyword and of each number holds of all that a text is read as.
use Rattle.std.proofs.Common.{◌≡◌, ℕ, false, not, eqb, ◌&&◌, List, length, Some, None, option_map, refl}
use Rattle.std.specs.Prelude.{pos, codes, bytes_eq, IfSome}
use Rattle.std.proofs.lemmas.Bool.{cond_both}
use Rattle.smil_model.specs.declared.document.Dur.{Dur}
use Rattle.smil_model.specs.declared.document.Dur.TheVariants as dur
use Rattle.smil_model.specs.declared.document.Count.{Count}
use Rattle.smil_model.specs.declared.document.Count.TheVariants as count
use Rattle.smil_model.specs.declared.document.Endsync.{Endsync}
use Rattle.smil_model.specs.declared.document.Endsync.TheVariants as endsync
use Rattle.smil_model.specs.declared.document.Act.{Act}
use Rattle.smil_model.specs.declared.document.Act.TheVariants as act
use Rattle.smil_model.specs.declared.times.Time.{Time}
use Rattle.smil_model.specs.declared.times.Time.TheVariants as time
use Rattle.smil_grammar.specs.Texts.{◌>>=◌}
use Rattle.smil_grammar.specs.Words.{id_len}
use Rattle.smil_grammar.specs.Numbers.{with_fraction}
use Rattle.smil_grammar.specs.Clock.{clock_within}
use Rattle.smil_grammar.specs.Values.{either, above_zero, short_number_of, thousandths, id_of, dur_of, time_of, repeat_dur_of, repeat_count_of, endsync_of, higher_of, lower_of}
use Rattle.smil_time_list.proofs.PrintableItems.{clock_small, mapped}
use Rattle.smil_attrs.proofs.ReadParts.{IsSmall, IsLength, length_small, both, word}
use Rattle.smil_attrs.proofs.CountRoundTrip.{IsCount, number_below}

pub dur_reads : (P : Dur → Type 0) → P dur.Media → P dur.Indefinite → ((n : ℕ) → IsSmall n → P (dur.Clock (pos n))) → (text : List ℕ) → IfSome (dur_of text) P
dur_reads P media indefinite clock text =
    both P _ _ (word P (bytes_eq text (codes "media")) dur.Media _ media (word P (bytes_eq text (codes "indefinite")) dur.Indefinite None indefinite tt))
    (mapped (λ n. dur.Clock (pos n)) IsSmall P clock (clock_within text) (clock_small text))

pub time_reads : (P : Time → Type 0) → P time.Indefinite → ((n : ℕ) → IsSmall n → P (time.At (pos n))) → (text : List ℕ) → IfSome (time_of text) P
time_reads P indefinite clock text =
    both P _ _ (word P (bytes_eq text (codes "indefinite")) time.Indefinite None indefinite tt)
    (mapped (λ n. time.At (pos n)) IsSmall P clock (clock_within text) (clock_small text))

pub repeat_reads : (P : Time → Type 0) → P time.Indefinite → ((n : ℕ) → IsLength n → P (time.At (pos n))) → (text : List ℕ) → IfSome (repeat_dur_of text) P
repeat_reads P indefinite clock text =
    both P _ _ (word P (bytes_eq text (codes "indefinite")) time.Indefinite None indefinite tt)
    (mapped (λ n. time.At (pos n)) IsLength P clock (clock_within text >>= above_zero) (length_small text))

pub count_reads : (P : Count → Type 0) → P count.Indefinite → ((n : ℕ) → IsCount n → P (count.Thousandths n)) → (text : List ℕ) → IfSome (repeat_count_of text) P
count_reads P indefinite each text =
    both P _ _ (word P (bytes_eq text (codes "indefinite")) count.Indefinite None indefinite tt)
    (mapped count.Thousandths IsCount P each (option_map thousandths (with_fraction short_number_of 100 text) >>= above_zero) (number_below text))

pub higher_reads : (P : Act → Type 0) → P act.Stop → P act.Pause → (text : List ℕ) → IfSome (higher_of text) P
higher_reads P stop pause text = word P (bytes_eq text (codes "stop")) act.Stop _ stop (word P (bytes_eq text (codes "pause")) act.Pause None pause tt)

pub lower_reads : (P : Act → Type 0) → P act.Defer → P act.Never → (text : List ℕ) → IfSome (lower_of text) P
lower_reads P defer never text = word P (bytes_eq text (codes "defer")) act.Defer _ defer (word P (bytes_eq text (codes "never")) act.Never None never tt)

-- an id is one that is no keyword
pub endsync_reads : (P : Endsync → Type 0) → P endsync.Last → P endsync.First → P endsync.All → (text : List ℕ)
    → (bytes_eq text (codes "last") ≡ false → bytes_eq text (codes "first") ≡ false → bytes_eq text (codes "all") ≡ false → id_of text ≡ Some text → P (endsync.Child text))
    → IfSome (endsync_of text) P
endsync_reads P of_last of_first of_all text child =
    cond_both (bytes_eq text (codes "last")) (Some endsync.Last) _ (λ o. IfSome (either o (option_map endsync.Child (id_of text))) P) (λ e. of_last) (λ last.
    cond_both (bytes_eq text (codes "first")) (Some endsync.First) _ (λ o. IfSome (either o (option_map endsync.Child (id_of text))) P) (λ e. of_first) (λ first.
    cond_both (bytes_eq text (codes "all")) (Some endsync.All) None (λ o. IfSome (either o (option_map endsync.Child (id_of text))) P) (λ e. of_all) (λ all.
    cond_both (not (eqb (length text) 0) && eqb (id_len false text) (length text)) (Some text) None (λ o. IfSome (option_map endsync.Child o) P)
    (λ e. child last first all (rw e refl)) (λ e. tt))))
