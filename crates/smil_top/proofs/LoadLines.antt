-- A load, read one line further and to its end.
use Rattle.std.proofs.Common.{◌≡◌, ◌⊎◌, ℕ, ℤ, Option, List, [], ◌∷◌, ◌++◌, Result, Ok, Err, refl, ap, sym, subst, ◌∙◌, inl, inr}
use Rattle.smil_model.specs.declared.order.Refusal.{Refusal}
use Rattle.smil_model.specs.declared.order.Refusal.TheVariants.{Memory}
use Rattle.smil_model.specs.document.Limits.{limits}
use Rattle.smil_attrs.specs.Filled.{filled}
use Rattle.smil_grammar.specs.Results.{◌>>=◌}
use Rattle.smil_grammar.specs.Scripts.{line_of}
use Rattle.smil_top.specs.declared.fault.Fault.{Fault}
use Rattle.smil_top.specs.declared.loaded.LoadedDoc.{LoadedDoc as GivenDoc}
use Rattle.smil_top.specs.declared.load.Load.{Load}
use Rattle.smil_top.specs.declared.loaded.NamedLines.{NamedLines}
use Rattle.smil_top.specs.Cut.{NumberedLine, LoadLines}
use Rattle.smil_switch.specs.Preferences.{Wanted}
use Rattle.smil_top.specs.Loading.{Loading, unread, loading_within}
use Rattle.smil_top.specs.Answers.{LoadHead, at_line, head_of, loading_from, given_within}
use Rattle.smil_top.specs.Running.{Gives, IsRead, Reads, ReadsHead, given_at, head_read, reading_of, with_node}

-- ---- chains of steps that may be refused

unit-step : {A : Type 0} (r : Result A Fault) → r ≡ (r >>= λ x. Ok x)
unit-step (Ok x) = refl
unit-step (Err e) = refl

loading-append : (start : Option ℤ) (loading : Loading) (lines : List NumberedLine) (this : NumberedLine) →
    loading_from limits start loading (lines ++ this ∷ [])
    ≡ (loading_from limits start loading lines >>= λ (o : Loading). at_line this.number (loading_within limits start o this.text))
loading-append start loading [] this = sym (unit-step (at_line this.number (loading_within limits start loading this.text)))
loading-append start loading (line ∷ lines) this = go (at_line line.number (loading_within limits start loading line.text)) (λ more. loading-append start more lines this)
  where
    go : (r : Result Loading Fault) →
        ((more : Loading) → loading_from limits start more (lines ++ this ∷ []) ≡ (loading_from limits start more lines >>= λ (o : Loading). at_line this.number (loading_within limits start o this.text))) →
        (r >>= λ (more : Loading). loading_from limits start more (lines ++ this ∷ []))
        ≡ ((r >>= λ (more : Loading). loading_from limits start more lines) >>= λ (o : Loading). at_line this.number (loading_within limits start o this.text))
    go (Ok more) rest = rest more
    go (Err e) rest = refl

-- what the load line gave and its lines, by what they are read as
abbrev joined : Result LoadHead Fault → (LoadHead → Result Loading Fault) → Result (LoadHead × Loading) Fault
joined r s = r >>= λ (head : LoadHead). s head >>= λ (o : Loading). Ok (head, o)

abbrev further : NumberedLine → LoadHead × Loading → Result (LoadHead × Loading) Fault
further this x = with_node x.0 x.1 this

chain-by : (head : LoadHead) (this : NumberedLine) (s : Result Loading Fault) →
    ((s >>= λ (o : Loading). at_line this.number (loading_within limits head.start o this.text)) >>= λ (o : Loading). Ok (head, o))
    ≡ ((s >>= λ (o : Loading). Ok (head, o)) >>= further this)
chain-by head this (Err e) = refl
chain-by head this (Ok o) = refl

chain : (r : Result LoadHead Fault) (wanted : Wanted) (lines : List NumberedLine) (this : NumberedLine) →
    joined r (λ head. loading_from limits head.start (unread wanted) (lines ++ this ∷ [])) ≡ (joined r (λ head. loading_from limits head.start (unread wanted) lines) >>= further this)
chain (Err e) wanted lines this = refl
chain (Ok head) wanted lines this =
    ap (λ (s : Result Loading Fault). s >>= λ (o : Loading). Ok (head, o)) (loading-append head.start (unread wanted) lines this)
    ∙ chain-by head this (loading_from limits head.start (unread wanted) lines)

abbrev pub is_memory_at : {A : Type 0} → LoadLines → Result A Fault → Type 0
is_memory_at lines result = result ≡ Err (record { line = lines.head.number; refusal = Memory })

-- ---- one line further

abbrev pub more_lines : LoadLines → NumberedLine → LoadLines
more_lines lines this = record lines { nodes = lines.nodes ++ this ∷ [] }

reading-more : (wanted : Wanted) (lines : LoadLines) (this : NumberedLine) →
    reading_of wanted (more_lines lines this) ≡ (reading_of wanted lines >>= λ (x : LoadHead × Loading). with_node x.0 x.1 this)
reading-more wanted lines this = chain (at_line lines.head.number (line_of lines.head.text >>= head_of)) wanted lines.nodes this

-- the line was read behind those before it
pub reads-ok : (wanted : Wanted) (lines : LoadLines) (this : NumberedLine) (named : NamedLines) (reading : Result NamedLines Fault) → Reads (Ok named) (reading_of wanted lines) →
    Reads reading (with_node (head_read named) named.lines this) → Reads reading (reading_of wanted (more_lines lines this))
reads-ok wanted lines this named reading was step =
    subst (λ r. Reads reading r) (sym (reading-more wanted lines this ∙ ap (λ r. r >>= λ (x : LoadHead × Loading). with_node x.0 x.1 this) was)) step

-- the fault of a line before it stays
pub reads-err : (wanted : Wanted) (lines : LoadLines) (this : NumberedLine) (fault : Fault) → Reads (Err fault) (reading_of wanted lines) →
    Reads (Err fault) (reading_of wanted (more_lines lines this))
reads-err wanted lines this fault was = reading-more wanted lines this ∙ ap (λ r. r >>= λ (x : LoadHead × Loading). with_node x.0 x.1 this) was

pub IsRead-ok : (load : Load) (wanted : Wanted) (lines : LoadLines) (this : NumberedLine) (named : NamedLines) (reading : Result NamedLines Fault) → load.reading ≡ Ok named → IsRead load wanted lines →
    Reads reading (with_node (head_read named) named.lines this) ⊎ (reading ≡ Err (record { line = load.line; refusal = Memory })) →
    IsRead (record { line = load.line; reading = reading }) wanted (more_lines lines this)
IsRead-ok load wanted lines this named reading is read step = record { line = read.line; reading = go read.reading step }
  where
    go : Reads load.reading (reading_of wanted lines) ⊎ (load.reading ≡ Err (record { line = lines.head.number; refusal = Memory })) →
        Reads reading (with_node (head_read named) named.lines this) ⊎ (reading ≡ Err (record { line = load.line; refusal = Memory })) →
        Reads reading (reading_of wanted (more_lines lines this)) ⊎ (reading ≡ Err (record { line = lines.head.number; refusal = Memory }))
    go (inr never) s = absurd (let e = sym is ∙ never in cc)
    go (inl was) (inl s) = inl (reads-ok wanted lines this named reading (subst (λ r. Reads r (reading_of wanted lines)) is was) s)
    go (inl was) (inr m) = inr (m ∙ ap (λ k. Err (record { line = k; refusal = Memory })) read.line)

-- the same of a line that was read in place
pub IsRead-filled : (load : Load) (wanted : Wanted) (lines : LoadLines) (this : NumberedLine) (named more : NamedLines) (pushed : Result (Unit {0}) Fault) → load.reading ≡ Ok named → IsRead load wanted lines →
    Reads (filled pushed more) (with_node (head_read named) named.lines this) ⊎ (pushed ≡ Err (record { line = load.line; refusal = Memory })) →
    IsRead (record { line = load.line; reading = filled pushed more }) wanted (more_lines lines this)
IsRead-filled load wanted lines this named more pushed is read (inl reads) = IsRead-ok load wanted lines this named (filled pushed more) is read (inl reads)
IsRead-filled load wanted lines this named more pushed is read (inr memory) = IsRead-ok load wanted lines this named (filled pushed more) is read (inr (ap (λ p. filled p more) memory))

pub IsRead-err : (load : Load) (wanted : Wanted) (lines : LoadLines) (this : NumberedLine) (fault : Fault) → load.reading ≡ Err fault → IsRead load wanted lines →
    IsRead (record { line = load.line; reading = Err fault }) wanted (more_lines lines this)
IsRead-err load wanted lines this fault is read = record { line = read.line; reading = go read.reading }
  where
    go : Reads load.reading (reading_of wanted lines) ⊎ (load.reading ≡ Err (record { line = lines.head.number; refusal = Memory })) →
        Reads (Err fault) (reading_of wanted (more_lines lines this)) ⊎ is_memory_at {A = NamedLines} lines (Err fault)
    go (inl was) = inl (reads-err wanted lines this fault (subst (λ r. Reads r (reading_of wanted lines)) is was))
    go (inr memory) = inr (sym is ∙ memory)

-- ---- the first line

pub IsRead-unnamed : (line : ℕ) (wanted : Wanted) (head : List ℕ) (refusal : Refusal) → ReadsHead (Err refusal) wanted head →
    IsRead (record { line = line; reading = Err (record { line = line; refusal = refusal }) }) wanted (record { head = record { number = line; text = head }; nodes = [] })
IsRead-unnamed line wanted head refusal (inl memory) = record { line = refl; reading = inr (ap (λ r. Err (record { line = line; refusal = r })) memory) }
IsRead-unnamed line wanted head refusal (inr is) = record {
  line = refl;
  reading = inl (ap (λ (r : Result LoadHead Refusal). at_line line r >>= λ (h : LoadHead). loading_from limits h.start (unread wanted) [] >>= λ (o : Loading). Ok (h, o)) is);
}

-- ---- the end

chain-end : (r : Result LoadHead Fault) (s : LoadHead → Result Loading Fault) (end_line : ℕ) →
    (r >>= λ (head : LoadHead). s head >>= λ (o : Loading). given_at head.name o.outline end_line)
    ≡ (joined r s >>= λ (x : LoadHead × Loading). given_at x.0.name x.1.outline end_line)
chain-end (Err e) s end_line = refl
chain-end (Ok head) s end_line = go (s head)
  where
    go : (q : Result Loading Fault) → (q >>= λ (o : Loading). given_at head.name o.outline end_line)
        ≡ ((q >>= λ (o : Loading). Ok (head, o)) >>= λ (x : LoadHead × Loading). given_at x.0.name x.1.outline end_line)
    go (Err e) = refl
    go (Ok o) = refl

given-end : (wanted : Wanted) (lines : LoadLines) (end_line : ℕ) → given_within limits wanted lines end_line ≡ (reading_of wanted lines >>= λ (x : LoadHead × Loading). given_at x.0.name x.1.outline end_line)
given-end wanted lines end_line = chain-end (at_line lines.head.number (line_of lines.head.text >>= head_of)) (λ head. loading_from limits head.start (unread wanted) lines.nodes) end_line

-- what a load gives whose lines had no fault
abbrev pub IsGivenAt : ℕ → ℕ → Result GivenDoc Fault → NamedLines → Type 0
IsGivenAt first end_line result named =
    Gives result (given_at named.name named.lines.outline end_line) ⊎ (result ≡ Err (record { line = first; refusal = Memory }))

pub Gives-ok : (load : Load) (wanted : Wanted) (lines : LoadLines) (end_line : ℕ) (named : NamedLines) (result : Result GivenDoc Fault) → load.reading ≡ Ok named → IsRead load wanted lines →
    Gives result (given_at named.name named.lines.outline end_line) ⊎ (result ≡ Err (record { line = load.line; refusal = Memory })) →
    Gives result (given_within limits wanted lines end_line) ⊎ (result ≡ Err (record { line = lines.head.number; refusal = Memory }))
Gives-ok load wanted lines end_line named result is read step = go read.reading step
  where
    go : Reads load.reading (reading_of wanted lines) ⊎ (load.reading ≡ Err (record { line = lines.head.number; refusal = Memory })) →
        Gives result (given_at named.name named.lines.outline end_line) ⊎ (result ≡ Err (record { line = load.line; refusal = Memory })) →
        Gives result (given_within limits wanted lines end_line) ⊎ (result ≡ Err (record { line = lines.head.number; refusal = Memory }))
    go (inr never) s = absurd (let e = sym is ∙ never in cc)
    go (inl was) (inr m) = inr (m ∙ ap (λ k. Err (record { line = k; refusal = Memory })) read.line)
    go (inl was) (inl s) =
        inl (subst (λ r. Gives result r) (sym (given-end wanted lines end_line ∙ ap (λ r. r >>= λ (x : LoadHead × Loading). given_at x.0.name x.1.outline end_line) (subst (λ r. Reads r (reading_of wanted lines)) is was))) s)

-- the same fault, in place of another value
abbrev same_fault : Result NamedLines Fault → Result GivenDoc Fault
same_fault (Err fault) = Err fault
same_fault (Ok named) = Err (record { line = 0; refusal = Memory })

pub Gives-err : (load : Load) (wanted : Wanted) (lines : LoadLines) (end_line : ℕ) (fault : Fault) → load.reading ≡ Err fault → IsRead load wanted lines →
    Gives (Err fault) (given_within limits wanted lines end_line) ⊎ is_memory_at {A = GivenDoc} lines (Err fault)
Gives-err load wanted lines end_line fault is read = go read.reading
  where
    go : Reads load.reading (reading_of wanted lines) ⊎ (load.reading ≡ Err (record { line = lines.head.number; refusal = Memory })) →
        Gives (Err fault) (given_within limits wanted lines end_line) ⊎ is_memory_at {A = GivenDoc} lines (Err fault)
    go (inl was) = inl (given-end wanted lines end_line ∙ ap (λ r. r >>= λ (x : LoadHead × Loading). given_at x.0.name x.1.outline end_line) (subst (λ r. Reads r (reading_of wanted lines)) is was))
    go (inr memory) = inr (ap same_fault (sym is ∙ memory))
