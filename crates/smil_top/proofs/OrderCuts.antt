-- Orders, as they are cut line by line.
use Rattle.std.proofs.Common.{◌≡◌, ℕ, ◌+◌, suc, Bool, true, false, List, [], ◌∷◌, ◌++◌, length, Option, Some, None, refl, ap, sym, ◌∙◌, arith, append_assoc}
use Rattle.std.specs.Prelude.{if◌then◌else◌}
use Rattle.std.proofs.lemmas.List.{append-nil}
use Rattle.smil_top.specs.Cut.{NumberedLine, LoadLines, OrderLines, single, load, CutLines, opens, ends, is_silent, cut_by, with_line, cut_further, cut_of, unended, orders}

-- one line more
cut_further-append : (cut : CutLines) (lines more : List (List ℕ)) → cut_further cut (lines ++ more) ≡ cut_further (cut_further cut lines) more
cut_further-append cut [] more = refl
cut_further-append cut (line ∷ lines) more = cut_further-append (with_line cut line) lines more

pub cut_of-one_more : (lines : List (List ℕ)) (line : List ℕ) → cut_of (lines ++ line ∷ []) ≡ with_line (cut_of lines) line
cut_of-one_more lines line = cut_further-append _ lines (line ∷ [])

-- what a line does to a cut
pub if_either : (b : Bool) (x y : CutLines) (P : CutLines → Type 0) → P x → P y → P (if b then x else y)
if_either true x y P h k = h
if_either false x y P h k = k

-- lines are counted
count_by : (at : Option LoadLines) (whole : List OrderLines) (line : NumberedLine) → (cut_by at whole line).count ≡ line.number
count_by None whole line =
    if_either (opens line.text) _ _ (λ (cut : CutLines). cut.count ≡ line.number) refl (if_either (is_silent line.text) _ _ (λ (cut : CutLines). cut.count ≡ line.number) refl refl)
count_by (Some lines) whole line =
    if_either (ends line.text) _ _ (λ (cut : CutLines). cut.count ≡ line.number) refl (if_either (is_silent line.text) _ _ (λ (cut : CutLines). cut.count ≡ line.number) refl refl)

pub count-with_line : (cut : CutLines) (line : List ℕ) → (with_line cut line).count ≡ suc cut.count
count-with_line cut line = count_by cut.«open» cut.whole (record { number = suc cut.count; text = line })

count_further : (cut : CutLines) (lines : List (List ℕ)) → (cut_further cut lines).count ≡ cut.count + length lines
count_further cut [] = omega arith
count_further cut (line ∷ lines) =
    let first : (with_line cut line).count ≡ suc cut.count = count-with_line cut line in
    let rest : (cut_further (with_line cut line) lines).count ≡ (with_line cut line).count + length lines = count_further (with_line cut line) lines in
    omega arith

pub count-cut_of : (lines : List (List ℕ)) → (cut_of lines).count ≡ length lines
count-cut_of lines = omega (arith, count_further (record { count = 0; whole = []; «open» = None }) lines)

-- whole orders stay

abbrev pub IsLater : List OrderLines → CutLines → Type 0
IsLater whole cut = (later : List OrderLines) × (cut.whole ≡ whole ++ later)

later_by : (at : Option LoadLines) (whole : List OrderLines) (line : NumberedLine) → IsLater whole (cut_by at whole line)
later_by None whole line =
    if_either (opens line.text) _ _ (IsLater whole) ([], sym (append-nil whole)) (if_either (is_silent line.text) _ _ (IsLater whole) ([], sym (append-nil whole)) (single line ∷ [], refl))
later_by (Some lines) whole line =
    if_either (ends line.text) _ _ (IsLater whole) (load lines (Some line.number) ∷ [], refl) (if_either (is_silent line.text) _ _ (IsLater whole) ([], sym (append-nil whole)) ([], sym (append-nil whole)))

later_further : (cut : CutLines) (lines : List (List ℕ)) → IsLater cut.whole (cut_further cut lines)
later_further cut [] = ([], sym (append-nil cut.whole))
later_further cut (line ∷ lines) =
    let first = later_by cut.«open» cut.whole (record { number = suc cut.count; text = line }) in
    let rest = later_further (with_line cut line) lines in
    (first.0 ++ rest.0, rest.1 ∙ ap (λ (zs : List OrderLines). zs ++ rest.0) first.1 ∙ append_assoc cut.whole first.0 rest.0)

-- the orders that are whole in the first lines are the first whole orders
pub whole-first : (lines more : List (List ℕ)) → IsLater (cut_of lines).whole (cut_of (lines ++ more))
whole-first lines more =
    let rest = later_further (cut_of lines) more in
    (rest.0, ap (λ (cut : CutLines). cut.whole) (cut_further-append (record { count = 0; whole = []; «open» = None }) lines more) ∙ rest.1)

-- and the first of all orders
pub orders-first : (lines more : List (List ℕ)) → (later : List OrderLines) × (orders (lines ++ more) ≡ (cut_of lines).whole ++ later)
orders-first lines more =
    let rest = whole-first lines more in
    let «end» : List OrderLines = unended (cut_of (lines ++ more)).«open» in
    (rest.0 ++ «end», ap (λ (zs : List OrderLines). zs ++ «end») rest.1 ∙ append_assoc (cut_of lines).whole rest.0 «end»)
