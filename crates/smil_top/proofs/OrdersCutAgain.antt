-- Orders that are cut again from their own lines.
use Rattle.std.proofs.Common.{◌≡◌, ◌<◌, ◌≤◌, ℕ, suc, Bool, true, false, List, [], ◌∷◌, ◌++◌, Option, Some, None, refl, ap, sym, ◌∙◌, arith, append_assoc}
use Rattle.std.specs.Prelude.{map, filter, flat_map, codes, nat_le, if◌then◌else◌}
use Rattle.std.proofs.lemmas.Bool.{le-leb, lt-leb}
use Rattle.std.proofs.lemmas.List.{append-nil}
use Rattle.smil_top.specs.Cut.{NumberedLine, LoadLines, OrderLines, single, load, CutLines, opens, ends, is_silent, cut_by, with_line, cut_further, cut_of, unended, orders}
use Rattle.smil_top.specs.Laws.{numbered_by, renumbered, lines_of}

-- ---- lines that rise

-- node lines with rising numbers above one, up to another
abbrev Nodes : ℕ → List NumberedLine → ℕ → Type 0
Nodes low [] high = low ≤ high
Nodes low (line ∷ lines) high = (ends line.text ≡ false) × (is_silent line.text ≡ false) × (low < line.number) × Nodes line.number lines high

-- the lines of a load
record IsOpened (low : ℕ) (lines : LoadLines) (high : ℕ) : Type 0 where
  head : opens lines.head.text ≡ true
  above : low < lines.head.number
  nodes : Nodes lines.head.number lines.nodes high

-- orders with rising numbers; only the last one may be a load that hasn't ended
abbrev Chain : ℕ → List OrderLines → ℕ → Type 0
Chain low [] high = low ≤ high
Chain low (single line ∷ others) high = (opens line.text ≡ false) × (is_silent line.text ≡ false) × (low < line.number) × Chain line.number others high
Chain low (load lines (Some end_line) ∷ others) high = ((last : ℕ) × IsOpened low lines last × (last < end_line)) × Chain end_line others high
Chain low (load lines None ∷ []) high = IsOpened low lines high
Chain low (load lines None ∷ next ∷ others) high = ⊥

nodes_le : (low : ℕ) (lines : List NumberedLine) (high : ℕ) → Nodes low lines high → low ≤ high
nodes_le low [] high h = h
nodes_le low (line ∷ lines) high h = omega (arith, h.2, nodes_le line.number lines high h.3)

opened_le : (low : ℕ) (lines : LoadLines) (high : ℕ) → IsOpened low lines high → low ≤ high
opened_le low lines high h = omega (arith, h.above, nodes_le lines.head.number lines.nodes high h.nodes)

opened_lower : (lower low : ℕ) (lines : LoadLines) (high : ℕ) → lower ≤ low → IsOpened low lines high → IsOpened lower lines high
opened_lower lower low lines high le h = record { head = h.head; above = omega (arith, le, h.above); nodes = h.nodes }

chain_lower : (lower low : ℕ) (all : List OrderLines) (high : ℕ) → lower ≤ low → Chain low all high → Chain lower all high
chain_lower lower low [] high le h = omega (arith, le, h)
chain_lower lower low (single line ∷ others) high le h = (h.0, h.1, omega (arith, le, h.2), h.3)
chain_lower lower low (load lines (Some end_line) ∷ others) high le h = ((h.0.0, opened_lower lower low lines h.0.0 le h.0.1, h.0.2), h.1)
chain_lower lower low (load lines None ∷ []) high le h = opened_lower lower low lines high le h
chain_lower lower low (load lines None ∷ next ∷ others) high le h = h

-- ---- some of them

filter_chain : (kept : OrderLines → Bool) (low : ℕ) (all : List OrderLines) (high : ℕ) → Chain low all high → Chain low (filter kept all) high
filter_chain kept low [] high h = h
filter_chain kept low (single line ∷ others) high h =
    by (kept (single line)) (filter_chain kept line.number others high h.3)
  where
    by : (b : Bool) → Chain line.number (filter kept others) high → Chain low (if b then single line ∷ filter kept others else filter kept others) high
    by true rest = (h.0, h.1, h.2, rest)
    by false rest = chain_lower low line.number (filter kept others) high (omega (arith, h.2)) rest
filter_chain kept low (load lines (Some end_line) ∷ others) high h =
    by (kept (load lines (Some end_line))) (filter_chain kept end_line others high h.1)
  where
    by : (b : Bool) → Chain end_line (filter kept others) high → Chain low (if b then load lines (Some end_line) ∷ filter kept others else filter kept others) high
    by true rest = (h.0, rest)
    by false rest = chain_lower low end_line (filter kept others) high (omega (arith, h.0.2, opened_le low lines h.0.0 h.0.1)) rest
filter_chain kept low (load lines None ∷ []) high h = by (kept (load lines None))
  where
    by : (b : Bool) → Chain low (if b then load lines None ∷ [] else []) high
    by true = h
    by false = opened_le low lines high h
filter_chain kept low (load lines None ∷ next ∷ others) high h = elim h [ ]

-- ---- what is cut is such a chain

nodes_more : (low : ℕ) (lines : List NumberedLine) (high : ℕ) (line : NumberedLine) → Nodes low lines high → ends line.text ≡ false → is_silent line.text ≡ false → high < line.number
    → Nodes low (lines ++ line ∷ []) line.number
nodes_more low [] high line h e s more = (e, s, omega (arith, h, more), omega arith)
nodes_more low (first ∷ lines) high line h e s more = (h.0, h.1, h.2, nodes_more first.number lines high line h.3 e s more)

nodes_higher : (low : ℕ) (lines : List NumberedLine) (high higher : ℕ) → high ≤ higher → Nodes low lines high → Nodes low lines higher
nodes_higher low [] high higher le h = omega (arith, le, h)
nodes_higher low (line ∷ lines) high higher le h = (h.0, h.1, h.2, nodes_higher line.number lines high higher le h.3)

-- whole orders alone
abbrev Whole : ℕ → List OrderLines → ℕ → Type 0
Whole low [] high = low ≤ high
Whole low (single line ∷ others) high = (opens line.text ≡ false) × (is_silent line.text ≡ false) × (low < line.number) × Whole line.number others high
Whole low (load lines (Some end_line) ∷ others) high = ((last : ℕ) × IsOpened low lines last × (last < end_line)) × Whole end_line others high
Whole low (load lines None ∷ others) high = ⊥

whole_then : (low : ℕ) (all : List OrderLines) (high : ℕ) (more : List OrderLines) (higher : ℕ) → Whole low all high → Chain high more higher → Chain low (all ++ more) higher
whole_then low [] high more higher h k = chain_lower low high more higher h k
whole_then low (single line ∷ others) high more higher h k = (h.0, h.1, h.2, whole_then line.number others high more higher h.3 k)
whole_then low (load lines (Some end_line) ∷ others) high more higher h k = (h.0, whole_then end_line others high more higher h.1 k)
whole_then low (load lines None ∷ others) high more higher h k = elim h [ ]

whole_higher : (low : ℕ) (all : List OrderLines) (high higher : ℕ) → high ≤ higher → Whole low all high → Whole low all higher
whole_higher low [] high higher le h = omega (arith, le, h)
whole_higher low (single line ∷ others) high higher le h = (h.0, h.1, h.2, whole_higher line.number others high higher le h.3)
whole_higher low (load lines (Some end_line) ∷ others) high higher le h = (h.0, whole_higher end_line others high higher le h.1)
whole_higher low (load lines None ∷ others) high higher le h = elim h [ ]

whole_single : (low : ℕ) (all : List OrderLines) (high : ℕ) (line : NumberedLine) → Whole low all high → opens line.text ≡ false → is_silent line.text ≡ false → high < line.number
    → Whole low (all ++ single line ∷ []) line.number
whole_single low [] high line h o s more = (o, s, omega (arith, h, more), omega arith)
whole_single low (single first ∷ others) high line h o s more = (h.0, h.1, h.2, whole_single first.number others high line h.3 o s more)
whole_single low (load lines (Some end_line) ∷ others) high line h o s more = (h.0, whole_single end_line others high line h.1 o s more)
whole_single low (load lines None ∷ others) high line h o s more = elim h [ ]

whole_load : (low : ℕ) (all : List OrderLines) (high : ℕ) (lines : LoadLines) (last end_line : ℕ) → Whole low all high → IsOpened high lines last → last < end_line
    → Whole low (all ++ load lines (Some end_line) ∷ []) end_line
whole_load low [] high lines last end_line h k more = ((last, opened_lower low high lines last h k, more), omega arith)
whole_load low (single first ∷ others) high lines last end_line h k more = (h.0, h.1, h.2, whole_load first.number others high lines last end_line h.3 k more)
whole_load low (load first (Some end_first) ∷ others) high lines last end_line h k more = (h.0, whole_load end_first others high lines last end_line h.1 k more)
whole_load low (load first None ∷ others) high lines last end_line h k more = elim h [ ]

-- a cut, by the load that hasn't ended
abbrev Fine : Option LoadLines → List OrderLines → ℕ → Type 0
Fine None whole count = Whole 0 whole count
Fine (Some lines) whole count = (high : ℕ) × Whole 0 whole high × IsOpened high lines count

outside_fine : (whole : List OrderLines) (count : ℕ) (line : NumberedLine) → Whole 0 whole count → count < line.number → (o s : Bool) → opens line.text ≡ o → is_silent line.text ≡ s
    → let cut : CutLines = if o then record { count = line.number; whole = whole; «open» = Some (record { head = line; nodes = [] }) }
    else (if s then record { count = line.number; whole = whole; «open» = None } else record { count = line.number; whole = whole ++ single line ∷ []; «open» = None }) in
    Fine cut.«open» cut.whole cut.count
outside_fine whole count line h more true s e d = (count, h, record { head = e; above = more; nodes = omega arith })
outside_fine whole count line h more false true e d = whole_higher 0 whole count line.number (omega (arith, more)) h
outside_fine whole count line h more false false e d = whole_single 0 whole count line h e d more

inside_fine : (whole : List OrderLines) (lines : LoadLines) (count : ℕ) (line : NumberedLine) → Fine (Some lines) whole count → count < line.number → (t s : Bool) → ends line.text ≡ t → is_silent line.text ≡ s
    → let cut : CutLines = if t then record { count = line.number; whole = whole ++ load lines (Some line.number) ∷ []; «open» = None }
    else (if s then record { count = line.number; whole = whole; «open» = Some lines } else record { count = line.number; whole = whole; «open» = Some (record lines { nodes = lines.nodes ++ line ∷ [] }) }) in
    Fine cut.«open» cut.whole cut.count
inside_fine whole lines count line h more true s e d = whole_load 0 whole h.0 lines count line.number h.1 h.2 more
inside_fine whole lines count line h more false true e d =
    (h.0, h.1, record { head = h.2.head; above = h.2.above; nodes = nodes_higher lines.head.number lines.nodes count line.number (omega (arith, more)) h.2.nodes })
inside_fine whole lines count line h more false false e d =
    (h.0, h.1, record { head = h.2.head; above = h.2.above; nodes = nodes_more lines.head.number lines.nodes count line h.2.nodes e d more })

fine_by : (at : Option LoadLines) (whole : List OrderLines) (count : ℕ) (line : NumberedLine) → Fine at whole count → count < line.number
    → Fine (cut_by at whole line).«open» (cut_by at whole line).whole (cut_by at whole line).count
fine_by None whole count line h more = outside_fine whole count line h more (opens line.text) (is_silent line.text) refl refl
fine_by (Some lines) whole count line h more = inside_fine whole lines count line h more (ends line.text) (is_silent line.text) refl refl

fine_further : (cut : CutLines) (lines : List (List ℕ)) → Fine cut.«open» cut.whole cut.count
    → Fine (cut_further cut lines).«open» (cut_further cut lines).whole (cut_further cut lines).count
fine_further cut [] h = h
fine_further cut (line ∷ lines) h =
    fine_further (with_line cut line) lines (fine_by cut.«open» cut.whole cut.count (record { number = suc cut.count; text = line }) h (omega arith))

all_fine : (at : Option LoadLines) (whole : List OrderLines) (count : ℕ) → Fine at whole count → Chain 0 (whole ++ unended at) count
all_fine None whole count h = whole_then 0 whole count [] count h (omega arith)
all_fine (Some lines) whole count h = whole_then 0 whole h.0 (load lines None ∷ []) count h.1 h.2

orders_chain : (lines : List (List ℕ)) → Chain 0 (orders lines) (cut_of lines).count
orders_chain lines = all_fine (cut_of lines).«open» (cut_of lines).whole (cut_of lines).count (fine_further (record { count = 0; whole = []; «open» = None }) lines (omega arith))

-- ---- what is cut of such a chain

abbrev numbered_from : ℕ → List NumberedLine → List NumberedLine
numbered_from n [] = []
numbered_from n (line ∷ lines) = record { number = suc n; text = line.text } ∷ numbered_from (suc n) lines

abbrev count_after : ℕ → List NumberedLine → ℕ
count_after n [] = n
count_after n (line ∷ lines) = count_after (suc n) lines

abbrev load_from : ℕ → LoadLines → LoadLines
load_from n lines = record { head = record { number = suc n; text = lines.head.text }; nodes = numbered_from (suc n) lines.nodes }

-- orders with numbers one after another
abbrev orders_from : ℕ → List OrderLines → List OrderLines
orders_from n [] = []
orders_from n (single line ∷ others) = single (record { number = suc n; text = line.text }) ∷ orders_from (suc n) others
orders_from n (load lines (Some end_line) ∷ others) =
    load (load_from n lines) (Some (suc (count_after (suc n) lines.nodes))) ∷ orders_from (suc (count_after (suc n) lines.nodes)) others
orders_from n (load lines None ∷ others) = load (load_from n lines) None ∷ []

abbrev outside : ℕ → List OrderLines → CutLines
outside n whole = record { count = n; whole = whole; «open» = None }

abbrev inside : ℕ → List OrderLines → LoadLines → CutLines
inside n whole lines = record { count = n; whole = whole; «open» = Some lines }

cut_single : (n : ℕ) (whole : List OrderLines) (text : List ℕ) → opens text ≡ false → is_silent text ≡ false
    → with_line (outside n whole) text ≡ outside (suc n) (whole ++ single (record { number = suc n; text = text }) ∷ [])
cut_single n whole text o s =
    let line : NumberedLine = record { number = suc n; text = text } in
    ap (λ (b : Bool). if b then inside (suc n) whole (record { head = line; nodes = [] }) else (if is_silent text then outside (suc n) whole else outside (suc n) (whole ++ single line ∷ []))) o
    ∙ ap (λ (b : Bool). if b then outside (suc n) whole else outside (suc n) (whole ++ single line ∷ [])) s

cut_head : (n : ℕ) (whole : List OrderLines) (text : List ℕ) → opens text ≡ true
    → with_line (outside n whole) text ≡ inside (suc n) whole (record { head = record { number = suc n; text = text }; nodes = [] })
cut_head n whole text o =
    let line : NumberedLine = record { number = suc n; text = text } in
    ap (λ (b : Bool). if b then inside (suc n) whole (record { head = line; nodes = [] }) else (if is_silent text then outside (suc n) whole else outside (suc n) (whole ++ single line ∷ []))) o

cut_node : (n : ℕ) (whole : List OrderLines) (lines : LoadLines) (text : List ℕ) → ends text ≡ false → is_silent text ≡ false
    → with_line (inside n whole lines) text ≡ inside (suc n) whole (record { head = lines.head; nodes = lines.nodes ++ record { number = suc n; text = text } ∷ [] })
cut_node n whole lines text e s =
    let line : NumberedLine = record { number = suc n; text = text } in
    let more : CutLines = inside (suc n) whole (record { head = lines.head; nodes = lines.nodes ++ line ∷ [] }) in
    ap (λ (b : Bool). if b then outside (suc n) (whole ++ load lines (Some (suc n)) ∷ []) else (if is_silent text then inside (suc n) whole lines else more)) e
    ∙ ap (λ (b : Bool). if b then inside (suc n) whole lines else more) s

cut_nodes : (n : ℕ) (whole : List OrderLines) (head : NumberedLine) (before : List NumberedLine) (low : ℕ) (nodes : List NumberedLine) (high : ℕ) → Nodes low nodes high → (more : List (List ℕ))
    → cut_further (inside n whole (record { head = head; nodes = before })) (map (λ (line : NumberedLine). line.text) nodes ++ more)
    ≡ cut_further (inside (count_after n nodes) whole (record { head = head; nodes = before ++ numbered_from n nodes })) more
cut_nodes n whole head before low [] high h more = ap (λ (zs : List NumberedLine). cut_further (inside n whole (record { head = head; nodes = zs })) more) (sym (append-nil before))
cut_nodes n whole head before low (line ∷ nodes) high h more =
    let new : NumberedLine = record { number = suc n; text = line.text } in
    ap (λ (cut : CutLines). cut_further cut (map (λ (line : NumberedLine). line.text) nodes ++ more)) (cut_node n whole (record { head = head; nodes = before }) line.text h.0 h.1)
    ∙ cut_nodes (suc n) whole head (before ++ new ∷ []) line.number nodes high h.3 more
    ∙ ap (λ (zs : List NumberedLine). cut_further (inside (count_after (suc n) nodes) whole (record { head = head; nodes = zs })) more) (append_assoc before (new ∷ []) (numbered_from (suc n) nodes))

cut_load : (n : ℕ) (whole : List OrderLines) (low : ℕ) (lines : LoadLines) (high : ℕ) → IsOpened low lines high → (more : List (List ℕ))
    → cut_further (outside n whole) (lines.head.text ∷ map (λ (line : NumberedLine). line.text) lines.nodes ++ more)
    ≡ cut_further (inside (count_after (suc n) lines.nodes) whole (load_from n lines)) more
cut_load n whole low lines high h more =
    ap (λ (cut : CutLines). cut_further cut (map (λ (line : NumberedLine). line.text) lines.nodes ++ more)) (cut_head n whole lines.head.text h.head)
    ∙ cut_nodes (suc n) whole (record { number = suc n; text = lines.head.text }) [] lines.head.number lines.nodes high h.nodes more

abbrev all_of : CutLines → List OrderLines
all_of cut = cut.whole ++ unended cut.«open»

cut_chain : (n : ℕ) (whole : List OrderLines) (low : ℕ) (all : List OrderLines) (high : ℕ) → Chain low all high
    → all_of (cut_further (outside n whole) (flat_map lines_of all)) ≡ whole ++ orders_from n all
cut_chain n whole low [] high h = refl
cut_chain n whole low (single line ∷ others) high h =
    let new : OrderLines = single (record { number = suc n; text = line.text }) in
    ap (λ (cut : CutLines). all_of (cut_further cut (flat_map lines_of others))) (cut_single n whole line.text h.0 h.1)
    ∙ cut_chain (suc n) (whole ++ new ∷ []) line.number others high h.3
    ∙ append_assoc whole (new ∷ []) (orders_from (suc n) others)
cut_chain n whole low (load lines (Some end_line) ∷ others) high h =
    let last : ℕ = count_after (suc n) lines.nodes in
    let new : OrderLines = load (load_from n lines) (Some (suc last)) in
    ap (λ (zs : List (List ℕ)). all_of (cut_further (outside n whole) (lines.head.text ∷ zs))) (append_assoc (map (λ (line : NumberedLine). line.text) lines.nodes) (codes "%%" ∷ []) (flat_map lines_of others))
    ∙ ap all_of (cut_load n whole low lines h.0.0 h.0.1 (codes "%%" ∷ flat_map lines_of others))
    ∙ cut_chain (suc last) (whole ++ new ∷ []) end_line others high h.1
    ∙ append_assoc whole (new ∷ []) (orders_from (suc last) others)
cut_chain n whole low (load lines None ∷ []) high h =
    ap (λ (zs : List (List ℕ)). all_of (cut_further (outside n whole) (lines.head.text ∷ zs))) (append-nil (map (λ (line : NumberedLine). line.text) lines.nodes ++ []))
    ∙ ap all_of (cut_load n whole low lines high h [])
cut_chain n whole low (load lines None ∷ next ∷ others) high h = elim h [ ]

-- ---- the numbers that they are given

abbrev in_nodes : ℕ → List NumberedLine → ℕ → ℕ
in_nodes n [] k = suc n
in_nodes n (line ∷ lines) k = if nat_le k line.number then suc n else in_nodes (suc n) lines k

abbrev in_load : ℕ → LoadLines → ℕ → ℕ
in_load n lines k = if nat_le k lines.head.number then suc n else in_nodes (suc n) lines.nodes k

abbrev given_to : ℕ → List OrderLines → ℕ → ℕ
given_to n [] k = 0
given_to n (single line ∷ others) k = if nat_le k line.number then suc n else given_to (suc n) others k
given_to n (load lines (Some end_line) ∷ others) k = if nat_le k end_line then in_load n lines k else given_to (suc (count_after (suc n) lines.nodes)) others k
given_to n (load lines None ∷ others) k = in_load n lines k

-- the same numbers above one, up to another
abbrev Agree : (ℕ → ℕ) → (ℕ → ℕ) → ℕ → ℕ → Type 0
Agree f g low high = (k : ℕ) → low < k → k ≤ high → f k ≡ g k

first-if : (k bound : ℕ) (x y : ℕ) → k ≤ bound → (if nat_le k bound then x else y) ≡ x
first-if k bound x y le = ap (λ (b : Bool). if b then x else y) (le-leb k bound le)

second-if : (k bound : ℕ) (x y : ℕ) → bound < k → (if nat_le k bound then x else y) ≡ y
second-if k bound x y lt = ap (λ (b : Bool). if b then x else y) (lt-leb k bound lt)

nodes_same : (f g : ℕ → ℕ) (low : ℕ) (lines : List NumberedLine) (high : ℕ) → Nodes low lines high → Agree f g low high → map (numbered_by f) lines ≡ map (numbered_by g) lines
nodes_same f g low [] high h same = refl
nodes_same f g low (line ∷ lines) high h same =
    let le : line.number ≤ high = nodes_le line.number lines high h.3 in
    ap (λ (k : ℕ). record { number = k; text = line.text } ∷ map (numbered_by f) lines) (same line.number h.2 le)
    ∙ ap (λ (zs : List NumberedLine). numbered_by g line ∷ zs) (nodes_same f g line.number lines high h.3 (λ k more less. same k (omega (arith, h.2, more)) less))

nodes_given : (n low : ℕ) (lines : List NumberedLine) (high : ℕ) → Nodes low lines high → map (numbered_by (in_nodes n lines)) lines ≡ numbered_from n lines
nodes_given n low [] high h = refl
nodes_given n low (line ∷ lines) high h =
    ap (λ (k : ℕ). record { number = k; text = line.text } ∷ map (numbered_by (in_nodes n (line ∷ lines))) lines) (first-if line.number line.number (suc n) (in_nodes (suc n) lines line.number) (omega arith))
    ∙ ap (λ (zs : List NumberedLine). record { number = suc n; text = line.text } ∷ zs)
    (nodes_same (in_nodes n (line ∷ lines)) (in_nodes (suc n) lines) line.number lines high h.3 (λ k more less. second-if k line.number (suc n) (in_nodes (suc n) lines k) more)
    ∙ nodes_given (suc n) line.number lines high h.3)

abbrev load_by : (ℕ → ℕ) → LoadLines → LoadLines
load_by given lines = record { head = numbered_by given lines.head; nodes = map (numbered_by given) lines.nodes }

load_same : (f g : ℕ → ℕ) (low : ℕ) (lines : LoadLines) (high : ℕ) → IsOpened low lines high → Agree f g low high → load_by f lines ≡ load_by g lines
load_same f g low lines high h same =
    ap (λ (k : ℕ). record { head = record { number = k; text = lines.head.text }; nodes = map (numbered_by f) lines.nodes }) (same lines.head.number h.above (nodes_le lines.head.number lines.nodes high h.nodes))
    ∙ ap (λ (zs : List NumberedLine). record { head = numbered_by g lines.head; nodes = zs }) (nodes_same f g lines.head.number lines.nodes high h.nodes (λ k more less. same k (omega (arith, h.above, more)) less))

load_given : (n low : ℕ) (lines : LoadLines) (high : ℕ) → IsOpened low lines high → load_by (in_load n lines) lines ≡ load_from n lines
load_given n low lines high h =
    ap (λ (k : ℕ). record { head = record { number = k; text = lines.head.text }; nodes = map (numbered_by (in_load n lines)) lines.nodes })
    (first-if lines.head.number lines.head.number (suc n) (in_nodes (suc n) lines.nodes lines.head.number) (omega arith))
    ∙ ap (λ (zs : List NumberedLine). record { head = record { number = suc n; text = lines.head.text }; nodes = zs })
    (nodes_same (in_load n lines) (in_nodes (suc n) lines.nodes) lines.head.number lines.nodes high h.nodes (λ k more less. second-if k lines.head.number (suc n) (in_nodes (suc n) lines.nodes k) more)
    ∙ nodes_given (suc n) lines.head.number lines.nodes high h.nodes)

-- the number of the line that ends a load
past_nodes : (n low : ℕ) (lines : List NumberedLine) (high k : ℕ) → Nodes low lines high → high < k → in_nodes n lines k ≡ suc (count_after n lines)
past_nodes n low [] high k h more = refl
past_nodes n low (line ∷ lines) high k h more =
    second-if k line.number (suc n) (in_nodes (suc n) lines k) (omega (arith, more, nodes_le line.number lines high h.3)) ∙ past_nodes (suc n) line.number lines high k h.3 more

past_load : (n low : ℕ) (lines : LoadLines) (high k : ℕ) → IsOpened low lines high → high < k → in_load n lines k ≡ suc (count_after (suc n) lines.nodes)
past_load n low lines high k h more =
    second-if k lines.head.number (suc n) (in_nodes (suc n) lines.nodes k) (omega (arith, more, nodes_le lines.head.number lines.nodes high h.nodes)) ∙ past_nodes (suc n) lines.head.number lines.nodes high k h.nodes more

abbrev Above : (ℕ → ℕ) → (ℕ → ℕ) → ℕ → Type 0
Above f g low = (k : ℕ) → low < k → f k ≡ g k

chain_same : (f g : ℕ → ℕ) (low : ℕ) (all : List OrderLines) (high : ℕ) → Chain low all high → Above f g low → map (renumbered f) all ≡ map (renumbered g) all
chain_same f g low [] high h same = refl
chain_same f g low (single line ∷ others) high h same =
    ap (λ (k : ℕ). single (record { number = k; text = line.text }) ∷ map (renumbered f) others) (same line.number h.2)
    ∙ ap (λ (zs : List OrderLines). single (numbered_by g line) ∷ zs) (chain_same f g line.number others high h.3 (λ k more. same k (omega (arith, h.2, more))))
chain_same f g low (load lines (Some end_line) ∷ others) high h same =
    let le : low ≤ h.0.0 = opened_le low lines h.0.0 h.0.1 in
    ap (λ (ls : LoadLines). load ls (Some (f end_line)) ∷ map (renumbered f) others) (load_same f g low lines h.0.0 h.0.1 (λ k more less. same k more))
    ∙ ap (λ (k : ℕ). load (load_by g lines) (Some k) ∷ map (renumbered f) others) (same end_line (omega (arith, le, h.0.2)))
    ∙ ap (λ (zs : List OrderLines). load (load_by g lines) (Some (g end_line)) ∷ zs) (chain_same f g end_line others high h.1 (λ k more. same k (omega (arith, le, h.0.2, more))))
chain_same f g low (load lines None ∷ []) high h same = ap (λ (ls : LoadLines). load ls None ∷ []) (load_same f g low lines high h (λ k more less. same k more))
chain_same f g low (load lines None ∷ next ∷ others) high h same = elim h [ ]

chain_given : (n low : ℕ) (all : List OrderLines) (high : ℕ) → Chain low all high → map (renumbered (given_to n all)) all ≡ orders_from n all
chain_given n low [] high h = refl
chain_given n low (single line ∷ others) high h =
    let given : ℕ → ℕ = given_to n (single line ∷ others) in
    ap (λ (k : ℕ). single (record { number = k; text = line.text }) ∷ map (renumbered given) others) (first-if line.number line.number (suc n) (given_to (suc n) others line.number) (omega arith))
    ∙ ap (λ (zs : List OrderLines). single (record { number = suc n; text = line.text }) ∷ zs)
    (chain_same given (given_to (suc n) others) line.number others high h.3 (λ k more. second-if k line.number (suc n) (given_to (suc n) others k) more)
    ∙ chain_given (suc n) line.number others high h.3)
chain_given n low (load lines (Some end_line) ∷ others) high h =
    let given : ℕ → ℕ = given_to n (load lines (Some end_line) ∷ others) in
    let last : ℕ = count_after (suc n) lines.nodes in
    let inner : Agree given (in_load n lines) low h.0.0 = λ k more less. first-if k end_line (in_load n lines k) (given_to (suc last) others k) (omega (arith, less, h.0.2)) in
    ap (λ (ls : LoadLines). load ls (Some (given end_line)) ∷ map (renumbered given) others) (load_same given (in_load n lines) low lines h.0.0 h.0.1 inner ∙ load_given n low lines h.0.0 h.0.1)
    ∙ ap (λ (k : ℕ). load (load_from n lines) (Some k) ∷ map (renumbered given) others)
    (first-if end_line end_line (in_load n lines end_line) (given_to (suc last) others end_line) (omega arith) ∙ past_load n low lines h.0.0 end_line h.0.1 h.0.2)
    ∙ ap (λ (zs : List OrderLines). load (load_from n lines) (Some (suc last)) ∷ zs)
    (chain_same given (given_to (suc last) others) end_line others high h.1 (λ k more. second-if k end_line (in_load n lines k) (given_to (suc last) others k) more)
    ∙ chain_given (suc last) end_line others high h.1)
chain_given n low (load lines None ∷ []) high h = ap (λ (ls : LoadLines). load ls None ∷ []) (load_given n low lines high h)
chain_given n low (load lines None ∷ next ∷ others) high h = elim h [ ]

pub cut_again : (lines : List (List ℕ)) (kept : OrderLines → Bool) → (given : ℕ → ℕ) × (orders (flat_map lines_of (filter kept (orders lines))) ≡ map (renumbered given) (filter kept (orders lines)))
cut_again lines kept =
    let all : List OrderLines = filter kept (orders lines) in
    let chain : Chain 0 all (cut_of lines).count = filter_chain kept 0 (orders lines) (cut_of lines).count (orders_chain lines) in
    (given_to 0 all, cut_chain 0 [] 0 all (cut_of lines).count chain ∙ sym (chain_given 0 0 all (cut_of lines).count chain))
