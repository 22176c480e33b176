use Rattle.std.proofs.Common.{rules, ◌≡◌, sym, ◌∙◌, ap, slice_get, true, false}
use Rattle.std.specs.List.{insert, position_or_len}
use Rattle.smil_shown.specs.Names.{is_there, is_up_to}
use Rattle.smil_shown.proofs.NamesPut.{put_kept, put_new}
use Rattle.smil_shown.proofs.names.put_name.Goals as goal

pub returns-then-stands_at : goal.returns-then-stands_at
returns-then-stands_at c =
    let names = c.args.names.now.items in
    let name = c.args.name.now in
    let place : c.place_among-place.result ≡ position_or_len (is_up_to name) names = search rules in
    let there : is_there name (slice_get names c.place_among-place.result) ≡ true = search rules in
    sym (put_kept name names (sym (ap (λ i. is_there name (slice_get names i)) place) ∙ there))

pub returns : goal.returns
returns c =
    let names = c.args.names.now.items in
    let name = c.args.name.now in
    let place : c.place_among-place.result ≡ position_or_len (is_up_to name) names = search rules in
    let there : is_there name (slice_get names c.place_among-place.result) ≡ false = search rules in
    let put : c.insert.new.self.items ≡ insert names c.place_among-place.result name = search rules in
    put ∙ ap (λ i. insert names i name) place ∙ sym (put_new name names (sym (ap (λ i. is_there name (slice_get names i)) place) ∙ there))
