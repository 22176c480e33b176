-- What an order does to a session, by whether it is of a name.
use Rattle.std.proofs.Common.{◌≡◌, ◌∷◌, ◌++◌, Bool, true, false, List, [], Option, Some, None, Result, Ok, Err, refl, ap, sym, subst, ◌∙◌}
use Rattle.std.specs.Prelude.{ℕ, pos, bytes_eq, if◌then◌else◌}
use Rattle.std.specs.Option.{ok_or}
use Rattle.smil_model.specs.declared.order.Order.{Order}
use Rattle.smil_model.specs.declared.order.Refusal.{Refusal}
use Rattle.smil_model.specs.declared.order.Refusal.TheVariants.{LongLine, NotACommand}
use Rattle.smil_model.specs.document.Document.{Document}
use Rattle.smil_model.specs.document.Limits.{Limits}
use Rattle.smil_model.specs.shown.Orders.{Presentation, opened_within, outcome_within}
use Rattle.smil_model.specs.shown.Answers.{answer_text, load_text}
use Rattle.smil_model.specs.shown.Lines.{ok_line, closed_line}
use Rattle.smil_grammar.specs.declared.read.Read.{Read}
use Rattle.smil_grammar.specs.declared.read.Read.TheVariants.{Blank, Load, LoadAt, Prefer, Close, To}
use Rattle.smil_grammar.specs.Results.{◌>>=◌}
use Rattle.smil_grammar.specs.Scripts.{is_presentation_name, line_of}
use Rattle.smil_grammar.specs.Formats.{formats}
use Rattle.smil_grammar.specs.Outlines.{Outline, ended, version_of}
use Rattle.smil_switch.specs.Preferences.{Wanted, with_preference}
use Rattle.smil_top.specs.Loading.{Loading, unread}
use Rattle.smil_live.proofs.AgreedReferences.{bytes_same}
use Rattle.smil_top.specs.declared.fault.Fault.{Fault}
use Rattle.std.proofs.lemmas.Bool.{or_parts}
use Rattle.smil_top.specs.Cut.{NumberedLine, LoadLines, OrderLines, single, load, is_short}
use Rattle.smil_top.specs.Session.{NamedPresentation, Session, found_in, presentation_of, with_state, without, may_load}
use Rattle.smil_top.specs.Answers.{Answer, LoadedDocument, at_line, found_presentation, preferred_line, said_within, head_of, loading_from, given_within, loaded_within, answer_within}
use Rattle.smil_top.specs.Laws.{heard, session_after, refuses_as, loads, is_of, is_preferring, concerns, part_of, is_too_many, IsOwn as HasOwn}
use Rattle.smil_top.proofs.LineNumbers.{document_from}
use Rattle.smil_top.proofs.NameFilters.{part-with, part-without, part-own, presentation-part, may-part, with-other, without-other, loaded-other}
use Rattle.smil_top.proofs.NamesIsolated.{IsOwn, IsOther, IsPlain, own_line, preferring_line, plain_line, other_line}

-- ---- what a load gives has the name of its first line

module _ (allowed : Limits) (wanted : Wanted) (line end_line : ℕ) (nodes : List NumberedLine) where
  abbrev nodes_from : List ℕ → Result Loading Fault → Result LoadedDocument Fault
  nodes_from name o = o >>= λ loading. document_from name loading.outline (at_line end_line (ended loading.outline))

  abbrev given_from : Result Read Refusal → Result LoadedDocument Fault
  given_from r = at_line line (r >>= head_of) >>= λ head. nodes_from head.name (loading_from allowed head.start (unread wanted) nodes)

  name_by : (name : List ℕ) (outline : Outline) (d : Result Document Fault) (given : LoadedDocument) → document_from name outline d ≡ Ok given → name ≡ given.name
  name_by name outline (Ok document) given e =
      let is : record { name = name; document = document; version = version_of outline } ≡ given = cc in ap (λ (g : LoadedDocument). g.name) is
  name_by name outline (Err fault) given e = absurd cc

  name_from : (name : List ℕ) (o : Result Loading Fault) (given : LoadedDocument) → nodes_from name o ≡ Ok given → name ≡ given.name
  name_from name (Ok loading) given e = name_by name loading.outline (at_line end_line (ended loading.outline)) given e
  name_from name (Err fault) given e = absurd cc

  -- what a load line loads is this name
  abbrev LoadsIt : List ℕ → Result Read Refusal → Type 0
  LoadsIt name (Ok (Load loaded)) = loaded ≡ name
  LoadsIt name (Ok (LoadAt loaded start)) = loaded ≡ name
  LoadsIt name _ = ⊥

  given_name : (r : Result Read Refusal) (given : LoadedDocument) → given_from r ≡ Ok given → LoadsIt given.name r
  given_name (Ok (Load name)) given e = name_from name (loading_from allowed None (unread wanted) nodes) given e
  given_name (Ok (LoadAt name start)) given e = name_from name (loading_from allowed (Some start) (unread wanted) nodes) given e
  given_name (Ok (Prefer word value)) given e = absurd cc
  given_name (Ok (Close name)) given e = absurd cc
  given_name (Ok (To name order)) given e = absurd cc
  given_name (Ok Blank) given e = absurd cc
  given_name (Err refusal) given e = absurd cc

  -- so whether the load is of a name goes by it
  loads_by : (other : List ℕ) (r : Result Read Refusal) (given : LoadedDocument) → LoadsIt given.name r → loads other r ≡ bytes_eq given.name other
  loads_by other (Ok (Load name)) given is = ap (λ (w : List ℕ). bytes_eq w other) is
  loads_by other (Ok (LoadAt name start)) given is = ap (λ (w : List ℕ). bytes_eq w other) is
  loads_by other (Ok (Prefer word value)) given is = absurd is
  loads_by other (Ok (Close name)) given is = absurd is
  loads_by other (Ok (To name order)) given is = absurd is
  loads_by other (Ok Blank) given is = absurd is
  loads_by other (Err refusal) given is = absurd is

-- ---- orders of other names

module _ (allowed : Limits) (name : List ℕ) (session : Session) where
  abbrev Stays : Answer → Type 0
  Stays answer = (part_of name (session_after session answer)).held ≡ (part_of name session).held

  module _ (line : ℕ) (other : List ℕ) (apart : bytes_eq other name ≡ false) where
    outcome_stays : (before : Presentation) (order : Order) (r : Result Presentation Refusal)
        → Stays (at_line line (r >>= λ after. Ok (record { text = answer_text formats before after order ++ ok_line line other (pos after.now); session = with_state other after session })))
    outcome_stays before order (Ok after) = with-other name other apart after session
    outcome_stays before order (Err refusal) = refl

    ordered_stays : (order : Order) (p : Option Presentation)
        → Stays (at_line line (found_presentation p >>= λ before. outcome_within allowed formats before order >>= λ after.
        Ok (record { text = answer_text formats before after order ++ ok_line line other (pos after.now); session = with_state other after session })))
    ordered_stays order (Some before) = outcome_stays before order (outcome_within allowed formats before order)
    ordered_stays order None = refl

    closed_stays : (p : Option Presentation) → Stays (at_line line (found_presentation p >>= λ before. Ok (record { text = closed_line line other; session = without other session })))
    closed_stays (Some before) = without-other name other apart session
    closed_stays None = refl

    opened_stays : (r : Result Presentation Refusal)
        → Stays (at_line line (r >>= λ loaded. Ok (record { text = load_text loaded ++ ok_line line other (pos loaded.now); session = record session { held = session.held ++ record { name = other; presentation = loaded } ∷ [] } })))
    opened_stays (Ok loaded) = loaded-other name other apart loaded session
    opened_stays (Err refusal) = refl

    loaded_stays : (document : Document) (m : Result (Unit {0}) Refusal)
        → Stays (at_line line (m >>= λ free. opened_within allowed document >>= λ loaded.
        Ok (record { text = load_text loaded ++ ok_line line other (pos loaded.now); session = record session { held = session.held ++ record { name = other; presentation = loaded } ∷ [] } })))
    loaded_stays document (Ok free) = opened_stays (opened_within allowed document)
    loaded_stays document (Err refusal) = refl

  preferred_stays : (line : ℕ) (word value : List ℕ) (o : Option Wanted) →
      Stays (at_line line ((ok_or o NotACommand >>= λ (w : Wanted). Ok (record session { wanted = w })) >>= λ (after : Session). Ok (record { text = preferred_line line; session = after })))
  preferred_stays line word value (Some w) = refl
  preferred_stays line word value None = refl

  read_stays : (line : ℕ) (r : Result Read Refusal) → IsOther name r → Stays (at_line line (r >>= said_within allowed session line))
  read_stays line (Ok (To other order)) apart = ordered_stays line other apart order (presentation_of other session)
  read_stays line (Ok (Close other)) apart = closed_stays line other apart (presentation_of other session)
  read_stays line (Ok (Prefer word value)) apart = preferred_stays line word value (with_preference session.wanted word value)
  read_stays line (Ok (Load other)) apart = refl
  read_stays line (Ok (LoadAt other start)) apart = refl
  read_stays line (Ok Blank) apart = refl
  read_stays line (Err refusal) apart = refl

  single_stays : (line : ℕ) (short : Bool) (r : Result Read Refusal) → IsOther name r → Stays (at_line line ((if short then r else Err LongLine) >>= said_within allowed session line))
  single_stays line true r apart = read_stays line r apart
  single_stays line false r apart = refl

  given_stays : (lines : LoadLines) (end_line : ℕ) (g : Result LoadedDocument Fault) → given_within allowed session.wanted lines end_line ≡ g → loads name (line_of lines.head.text) ≡ false
      → Stays (g >>= λ given. at_line lines.head.number (loaded_within allowed session lines.head.number given))
  given_stays lines end_line (Ok given) e h =
      let is_name = given_name allowed session.wanted lines.head.number end_line lines.nodes (line_of lines.head.text) given e in
      loaded_stays lines.head.number given.name (sym (loads_by allowed session.wanted lines.head.number end_line lines.nodes name (line_of lines.head.text) given is_name) ∙ h) given.document (may_load given.name session)
  given_stays lines end_line (Err fault) e h = refl

  pub order_stays : (order : OrderLines) → is_of name order ≡ false → Stays (answer_within allowed session order)
  order_stays (single line) h = single_stays line.number (is_short line.text) (line_of line.text) (other_line name line.text h)
  order_stays (load lines None) h = refl
  order_stays (load lines (Some end_line)) h = given_stays lines end_line (given_within allowed session.wanted lines end_line) refl h

  pub presentation_stays : (order : OrderLines) → is_of name order ≡ false → presentation_of name (session_after session (answer_within allowed session order)) ≡ presentation_of name session
  presentation_stays order h =
      sym (presentation-part name (session_after session (answer_within allowed session order))) ∙ ap (found_in name) (order_stays order h) ∙ presentation-part name session

-- ---- orders of the name

module _ (allowed : Limits) (name : List ℕ) (session : Session) where
  abbrev part : Session
  part = part_of name session

  -- two answers, in the part and in the whole session, are alike
  record Alike (small large : Answer) : Type 0 where
    heard_is : heard small ≡ heard large
    after_is : session_after part small ≡ part_of name (session_after session large)

  refused_alike : (fault : Fault) → Alike (Err fault) (Err fault)
  refused_alike fault = record { heard_is = refl; after_is = refl }

  module _ (line : ℕ) where
    abbrev outcome_in : Order → Session → Presentation → Result Presentation Refusal → Answer
    outcome_in order s before r = at_line line (r >>= λ after. Ok (record { text = answer_text formats before after order ++ ok_line line name (pos after.now); session = with_state name after s }))

    outcome_alike : (before : Presentation) (order : Order) (r : Result Presentation Refusal) → Alike (outcome_in order part before r) (outcome_in order session before r)
    outcome_alike before order (Ok after) = record { heard_is = refl; after_is = sym (part-with name name after session) }
    outcome_alike before order (Err refusal) = refused_alike _

    abbrev ordered_in : Order → Session → Option Presentation → Answer
    ordered_in order s p = at_line line (found_presentation p >>= λ before. outcome_within allowed formats before order >>= λ after.
        Ok (record { text = answer_text formats before after order ++ ok_line line name (pos after.now); session = with_state name after s }))

    ordered_alike : (order : Order) (p : Option Presentation) → Alike (ordered_in order part p) (ordered_in order session p)
    ordered_alike order (Some before) = outcome_alike before order (outcome_within allowed formats before order)
    ordered_alike order None = refused_alike _

    abbrev closed_in : Session → Option Presentation → Answer
    closed_in s p = at_line line (found_presentation p >>= λ before. Ok (record { text = closed_line line name; session = without name s }))

    closed_alike : (p : Option Presentation) → Alike (closed_in part p) (closed_in session p)
    closed_alike (Some before) = record { heard_is = refl; after_is = sym (part-without name session) }
    closed_alike None = refused_alike _

    abbrev opened_in : Session → Result Presentation Refusal → Answer
    opened_in s r = at_line line (r >>= λ loaded. Ok (record { text = load_text loaded ++ ok_line line name (pos loaded.now); session = record s { held = s.held ++ record { name = name; presentation = loaded } ∷ [] } }))

    opened_alike : (r : Result Presentation Refusal) → Alike (opened_in part r) (opened_in session r)
    opened_alike (Ok loaded) = record { heard_is = refl; after_is = sym (part-own name session loaded) }
    opened_alike (Err refusal) = refused_alike _

    abbrev loaded_in : Document → Session → Result (Unit {0}) Refusal → Answer
    loaded_in document s m = at_line line (m >>= λ free. opened_within allowed document >>= λ loaded.
        Ok (record { text = load_text loaded ++ ok_line line name (pos loaded.now); session = record s { held = s.held ++ record { name = name; presentation = loaded } ∷ [] } }))

    loaded_alike : (document : Document) (m : Result (Unit {0}) Refusal) → Alike (loaded_in document part m) (loaded_in document session m)
    loaded_alike document (Ok free) = opened_alike (opened_within allowed document)
    loaded_alike document (Err refusal) = refused_alike _

    load_cause : (document : Document) (m : Result (Unit {0}) Refusal) → refuses_as is_too_many (heard (loaded_in document session m)) ≡ false → (e : Refusal) → m ≡ Err e → is_too_many e ≡ false
    load_cause document m h e d = ap (λ (z : Result (Unit {0}) Refusal). refuses_as is_too_many (heard (loaded_in document session z))) (sym d) ∙ h

    load_alike : (document : Document) → refuses_as is_too_many (heard (loaded_in document session (may_load name session))) ≡ false
        → Alike (loaded_in document part (may_load name part)) (loaded_in document session (may_load name session))
    load_alike document h =
        subst (λ (m : Result (Unit {0}) Refusal). Alike (loaded_in document part m) (loaded_in document session (may_load name session)))
        (sym (may-part name session (load_cause document (may_load name session) h))) (loaded_alike document (may_load name session))

    order_alike : (order : Order) → Alike (ordered_in order part (presentation_of name part)) (ordered_in order session (presentation_of name session))
    order_alike order =
        subst (λ (p : Option Presentation). Alike (ordered_in order part p) (ordered_in order session (presentation_of name session)))
        (sym (presentation-part name session)) (ordered_alike order (presentation_of name session))

    close_alike : Alike (closed_in part (presentation_of name part)) (closed_in session (presentation_of name session))
    close_alike =
        subst (λ (p : Option Presentation). Alike (closed_in part p) (closed_in session (presentation_of name session)))
        (sym (presentation-part name session)) (closed_alike (presentation_of name session))

    abbrev preferred_in : Session → Option Wanted → Answer
    preferred_in s o = at_line line ((ok_or o NotACommand >>= λ (w : Wanted). Ok (record s { wanted = w })) >>= λ (after : Session). Ok (record { text = preferred_line line; session = after }))

    preferred_alike : (o : Option Wanted) → Alike (preferred_in part o) (preferred_in session o)
    preferred_alike (Some w) = record { heard_is = refl; after_is = refl }
    preferred_alike None = refused_alike _

    abbrev Read_alike : Result Read Refusal → Type 0
    Read_alike r = Alike (at_line line (r >>= said_within allowed part line)) (at_line line (r >>= said_within allowed session line))

    read_alike : (r : Result Read Refusal) → IsOwn name r → Read_alike r
    read_alike (Ok (To other order)) own = subst (λ (w : List ℕ). Read_alike (Ok (To w order))) (sym own) (order_alike order)
    read_alike (Ok (Close other)) own = subst (λ (w : List ℕ). Read_alike (Ok (Close w))) (sym own) close_alike
    read_alike (Ok (Prefer word value)) own = preferred_alike (with_preference session.wanted word value)
    read_alike (Ok (Load other)) own = refused_alike _
    read_alike (Ok (LoadAt other start)) own = refused_alike _
    read_alike (Ok Blank) own = record { heard_is = refl; after_is = refl }
    read_alike (Err refusal) own = refused_alike _

    single_alike : (short : Bool) (r : Result Read Refusal) → IsOwn name r → Read_alike (if short then r else Err LongLine)
    single_alike true r own = read_alike r own
    single_alike false r own = refused_alike _

  abbrev given_in : Session → ℕ → LoadedDocument → Answer
  given_in s line given = at_line line (loaded_within allowed s line given)

  named_alike : (line : ℕ) (given : LoadedDocument) → given.name ≡ name → refuses_as is_too_many (heard (given_in session line given)) ≡ false → Alike (given_in part line given) (given_in session line given)
  named_alike line given own =
      subst (λ (w : List ℕ). refuses_as is_too_many (heard (given_in session line (record given { name = w }))) ≡ false → Alike (given_in part line (record given { name = w })) (given_in session line (record given { name = w })))
      (sym own) (load_alike line given.document)

  given_alike : (lines : LoadLines) (end_line : ℕ) (g : Result LoadedDocument Fault) → given_within allowed session.wanted lines end_line ≡ g → loads name (line_of lines.head.text) ≡ true
      → refuses_as is_too_many (heard (g >>= given_in session lines.head.number)) ≡ false
      → Alike (g >>= given_in part lines.head.number) (g >>= given_in session lines.head.number)
  given_alike lines end_line (Ok given) e h few =
      named_alike lines.head.number given
      (bytes_same given.name name (sym (loads_by allowed session.wanted lines.head.number end_line lines.nodes name (line_of lines.head.text) given (given_name allowed session.wanted lines.head.number end_line lines.nodes (line_of lines.head.text) given e)) ∙ h)) few
  given_alike lines end_line (Err fault) e h few = refused_alike fault

  order_is_alike : (order : OrderLines) → is_presentation_name name ≡ true → is_of name order ≡ true → refuses_as is_too_many (heard (answer_within allowed session order)) ≡ false
      → Alike (answer_within allowed part order) (answer_within allowed session order)
  order_is_alike (single line) t h few = single_alike line.number (is_short line.text) (line_of line.text) (own_line name line.text t h)
  order_is_alike (load lines None) t h few = refused_alike _
  order_is_alike (load lines (Some end_line)) t h few = given_alike lines end_line (given_within allowed session.wanted lines end_line) refl h few

  pub own_order : (order : OrderLines) → is_presentation_name name ≡ true → is_of name order ≡ true → refuses_as is_too_many (heard (answer_within allowed session order)) ≡ false
      → HasOwn allowed name session order
  own_order order t h few = let alike = order_is_alike order t h few in record { answer = alike.heard_is; after = alike.after_is }

  -- an order that prefers a value
  pub preferring_order : (order : OrderLines) → is_preferring order ≡ true → HasOwn allowed name session order
  preferring_order (single line) e =
      let alike = single_alike line.number (is_short line.text) (line_of line.text) (preferring_line name line.text e) in
      record { answer = alike.heard_is; after = alike.after_is }
  preferring_order (load lines ended) e = absurd cc

-- ---- what is preferred stays at all other orders

module _ (allowed : Limits) (session : Session) where
  abbrev Prefers_on : Answer → Type 0
  Prefers_on answer = (session_after session answer).wanted ≡ session.wanted

  module _ (line : ℕ) (name : List ℕ) where
    outcome_on : (before : Presentation) (order : Order) (r : Result Presentation Refusal)
        → Prefers_on (at_line line (r >>= λ after. Ok (record { text = answer_text formats before after order ++ ok_line line name (pos after.now); session = with_state name after session })))
    outcome_on before order (Ok after) = refl
    outcome_on before order (Err refusal) = refl

    ordered_on : (order : Order) (p : Option Presentation)
        → Prefers_on (at_line line (found_presentation p >>= λ before. outcome_within allowed formats before order >>= λ after.
        Ok (record { text = answer_text formats before after order ++ ok_line line name (pos after.now); session = with_state name after session })))
    ordered_on order (Some before) = outcome_on before order (outcome_within allowed formats before order)
    ordered_on order None = refl

    closed_on : (p : Option Presentation) → Prefers_on (at_line line (found_presentation p >>= λ before. Ok (record { text = closed_line line name; session = without name session })))
    closed_on (Some before) = refl
    closed_on None = refl

    opened_on : (r : Result Presentation Refusal)
        → Prefers_on (at_line line (r >>= λ loaded. Ok (record { text = load_text loaded ++ ok_line line name (pos loaded.now); session = record session { held = session.held ++ record { name = name; presentation = loaded } ∷ [] } })))
    opened_on (Ok loaded) = refl
    opened_on (Err refusal) = refl

    loaded_on : (document : Document) (m : Result (Unit {0}) Refusal)
        → Prefers_on (at_line line (m >>= λ free. opened_within allowed document >>= λ loaded.
        Ok (record { text = load_text loaded ++ ok_line line name (pos loaded.now); session = record session { held = session.held ++ record { name = name; presentation = loaded } ∷ [] } })))
    loaded_on document (Ok free) = opened_on (opened_within allowed document)
    loaded_on document (Err refusal) = refl

  read_on : (line : ℕ) (r : Result Read Refusal) → IsPlain r → Prefers_on (at_line line (r >>= said_within allowed session line))
  read_on line (Ok (To name order)) plain = ordered_on line name order (presentation_of name session)
  read_on line (Ok (Close name)) plain = closed_on line name (presentation_of name session)
  read_on line (Ok (Prefer word value)) plain = absurd plain
  read_on line (Ok (Load name)) plain = refl
  read_on line (Ok (LoadAt name start)) plain = refl
  read_on line (Ok Blank) plain = refl
  read_on line (Err refusal) plain = refl

  single_on : (line : ℕ) (short : Bool) (r : Result Read Refusal) → IsPlain r → Prefers_on (at_line line ((if short then r else Err LongLine) >>= said_within allowed session line))
  single_on line true r plain = read_on line r plain
  single_on line false r plain = refl

  given_on : (line : ℕ) (g : Result LoadedDocument Fault) → Prefers_on (g >>= λ given. at_line line (loaded_within allowed session line given))
  given_on line (Ok given) = loaded_on line given.name given.document (may_load given.name session)
  given_on line (Err fault) = refl

  pub prefers_on : (order : OrderLines) → is_preferring order ≡ false → Prefers_on (answer_within allowed session order)
  prefers_on (single line) e = single_on line.number (is_short line.text) (line_of line.text) (plain_line line.text e)
  prefers_on (load lines None) e = refl
  prefers_on (load lines (Some end_line)) e = given_on lines.head.number (given_within allowed session.wanted lines end_line)

-- an order that doesn't concern a name leaves all that goes into its answers
pub other_order : (allowed : Limits) (name : List ℕ) (session : Session) (order : OrderLines) → concerns name order ≡ false
    → part_of name (session_after session (answer_within allowed session order)) ≡ part_of name session
other_order allowed name session order e =
    let parts = or_parts (is_of name order) (is_preferring order) e in
    let after : Session = session_after session (answer_within allowed session order) in
    ap (λ (held : List NamedPresentation). record { held = held; wanted = after.wanted }) (order_stays allowed name session order parts.0)
    ∙ ap (λ (wanted : Wanted). record { held = (part_of name session).held; wanted = wanted }) (prefers_on allowed session order parts.1)
