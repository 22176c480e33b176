-- What is made of an order is what it is answered.
use Rattle.std.proofs.Common.{◌≡◌, ◌⊎◌, ℕ, zero, suc, ℤ, List, [], ◌∷◌, ◌++◌, Option, Some, None, Result, Ok, Err, refl, ap, sym, subst, ◌∙◌, inl, inr}
use Rattle.std.specs.Prelude.{pos, map, is_some, Bool, true, false, option_map, option_and_then, slice_get, slice_set, if◌then◌else◌}
use Rattle.std.specs.Option.{ok_or}
use Rattle.smil_model.specs.declared.order.Order.{Order}
use Rattle.smil_model.specs.declared.order.Refusal.{Refusal}
use Rattle.smil_model.specs.declared.order.Refusal.TheVariants.{Memory, NoPresentation, NotACommand}
use Rattle.smil_model.specs.declared.diary.Entry.{Entry}
use Rattle.smil_model.specs.document.Document.{Document}
use Rattle.smil_model.specs.document.Limits.{limits}
use Rattle.smil_model.specs.happening.Resolution.{diary_within}
use Rattle.smil_model.specs.shown.Orders.{Formats, Presentation, course_of, kept_where, opened, outcome}
use Rattle.smil_model.specs.shown.Answers.{answer_text, load_text}
use Rattle.smil_model.specs.shown.Lines.{ok_line, closed_line}
use Rattle.smil_grammar.specs.declared.read.Read.{Read}
use Rattle.smil_grammar.specs.Results.{◌>>=◌}
use Rattle.smil_grammar.specs.Scripts.{line_of}
use Rattle.smil_grammar.specs.Formats.{formats}
use Rattle.smil_grammar.specs.Gives.{GivesReading}
use Rattle.smil_live.specs.Counts.{least_number, most_number}
use Rattle.smil_switch.specs.Preferences.{Wanted, with_preference}
use Rattle.smil_switch.specs.Gives.{Prefers}
use Rattle.smil_house.specs.declared.house.NamedPlayer.{NamedPlayer}
use Rattle.smil_house.specs.House.{place_of, load_refusal, without as house_without, IsAt, IsAnsweredBy, IsReplaced, AreKept, IsRefused}
use Rattle.smil_top.specs.declared.answer.Answer.{Answer as AnswerText}
use Rattle.smil_top.specs.declared.session.Session.{Session as SessionSoFar}
use Rattle.smil_top.specs.Session.{NamedPresentation, Session, found_in, all_with, all_without, presentation_of, with_state, without, may_join, may_load}
use Rattle.smil_top.specs.Answers.{AcceptedOrder, LoadedDocument, found_presentation, ordered_within, close_answer, loaded_within, checked, preferring, preferred_line, silent}
use Rattle.smil_top.specs.Houses.{Presentations, shown, AreApart, Holds, Keeps}
use Rattle.smil_top.specs.Running.{Makes, Checks, PrefersAs, line_by, single_by, no_text, text_of}
use Rattle.smil_top.proofs.HouseLemmas.{presentation-held, some-held, may_load-held, may_load-free, turned-session, turned-apart, closed-session, closed-apart, added-session, added-apart}

-- a refusal of a call that reads is the reading's, unless memory ran out
gives-err : {A : Type 0} (refusal : Refusal) (reading : Result A Refusal) → GivesReading (Err refusal) reading → (refusal ≡ Memory) ⊎ (reading ≡ Err refusal)
gives-err Memory reading gives = inl refl
gives-err refusal reading gives = inr gives

-- a line that has no reading is refused
pub unmade-line : (checks : Bool) (so_far : SessionSoFar) (session : Session) (number : ℕ) (line : List ℕ) → Keeps so_far session → (text : AnswerText) (refusal : Refusal) → GivesReading (Err refusal) (line_of line) →
    Makes (Err refusal) text so_far session (line_by checks session number line)
unmade-line checks so_far session number line keeps text refusal gives = (keeps, by_reading (gives-err refusal (line_of line) gives))
  where
    by_reading : (refusal ≡ Memory) ⊎ (line_of line ≡ Err refusal) → (refusal ≡ Memory) ⊎ (line_by checks session number line ≡ Err refusal)
    by_reading (inl memory) = inl memory
    by_reading (inr is) = inr (ap (λ (r : Result Read Refusal). r >>= single_by checks session number) is)

-- the presentation that stands at the place of a name
pub held-at : (name : List ℕ) (house : Presentations) (session : Session) (place : ℕ) (h : NamedPlayer Presentation) → Holds house session → IsAt name house place h →
    presentation_of name session ≡ Some h.player
held-at name house session place h holds at =
    ap (found_in name) holds.session_is
    ∙ presentation-held name house
    ∙ ap (λ o. option_map (λ (x : NamedPlayer Presentation). x.player) (option_and_then (slice_get house) o)) at.found
    ∙ ap (λ o. option_map (λ (x : NamedPlayer Presentation). x.player) o) at.here

-- there is none of this name
pub held-nowhere : (name : List ℕ) (house : Presentations) (session : Session) → Holds house session → place_of name house ≡ None →
    presentation_of name session ≡ None
held-nowhere name house session holds none =
    ap (found_in name) holds.session_is
    ∙ presentation-held name house
    ∙ ap (λ o. option_map (λ (x : NamedPlayer Presentation). x.player) (option_and_then (slice_get house) o)) none

-- where there is a place, there is one
pub some-presentation : (name : List ℕ) (house : Presentations) (session : Session) (place : ℕ) → Holds house session → place_of name house ≡ Some place →
    (p : Presentation) × (presentation_of name session ≡ Some p)
some-presentation name house session place holds found = go (presentation_of name session) refl
  where
    some : is_some (presentation_of name session) ≡ true
    some = ap (λ (s : List NamedPresentation). is_some (found_in name s)) holds.session_is ∙ sym (some-held name house) ∙ ap (λ (o : Option ℕ). is_some o) found

    go : (o : Option Presentation) → presentation_of name session ≡ o → (p : Presentation) × (presentation_of name session ≡ Some p)
    go None none = absurd (let e : false ≡ true = sym (ap (λ (o : Option Presentation). is_some o) none) ∙ some in cc)
    go (Some p) is = (p, is)

-- an element put in its own place
set-same : {A : Type 0} (xs : List A) (k : ℕ) (x : A) → slice_get xs k ≡ Some x → slice_set xs k x ≡ xs
set-same [] k x here = refl
set-same (y ∷ ys) zero x here = let e : y ≡ x = cc here in ap (λ z. z ∷ ys) (sym e)
set-same (y ∷ ys) (suc k) x here = ap (λ zs. y ∷ zs) (set-same ys k x here)

-- ---- an order to a presentation

abbrev pub the_formats : Presentation → Formats
the_formats p = formats

abbrev pub itself : Presentation → Presentation
itself p = p

abbrev pub told_least : Presentation → Order → Option ℕ
told_least p order = Some (least_number p order)

abbrev pub told_most : Presentation → Order → Option ℕ
told_most p order = Some (most_number p order)

-- the session with another house
abbrev pub in_house : SessionSoFar → Presentations → SessionSoFar
in_house so_far house = record so_far { house = house }

module _ (name : List ℕ) (order : Order) (so_far : SessionSoFar) (new : Presentations) (session : Session) (number : ℕ) (keeps : Keeps so_far session) where
  abbrev house : Presentations
  house = so_far.house

  holds : Holds so_far.house session
  holds = keeps.held

  -- the session in which another presentation has this name
  pub turned-keeps : (place : ℕ) (before after : NamedPlayer Presentation) → IsReplaced the_formats name house new place before after →
      Keeps (in_house so_far new) (with_state name after.player session)
  turned-keeps place before after turned = record {
    held = record {
      session_is =
          ap (all_with name after.player) holds.session_is
          ∙ sym (turned-session name house place before after holds.apart turned.at.found turned.at.here turned.name_is)
          ∙ ap (map shown) (sym turned.new_is);
      apart = subst AreApart (sym turned.new_is) (turned-apart house place before after holds.apart turned.at.here turned.name_is);
    };
    wanted = keeps.wanted;
  }

  -- it is accepted
  pub made-ordered : (text told : List ℕ) (rise : ℕ) (moment : ℤ) → told ≡ text →
      IsAnsweredBy the_formats itself told_least told_most name order house new text rise moment →
      Makes (Ok tt) (record { told = told; last = ok_line number name moment }) (in_house so_far new) session (ordered_within limits session number name order)
  made-ordered text told rise moment is answered =
      let before : Presentation = answered.before.player in
      let after : Presentation = answered.after.player in
      let turned = answered.turned in
      let found : presentation_of name session ≡ Some before = held-at name house session answered.place answered.before holds turned.at in
      let line : ok_line number name moment ≡ ok_line number name (pos after.now) = ap (ok_line number name) answered.moment_is in
      let words : told ++ ok_line number name moment ≡ answer_text formats before after order ++ ok_line number name (pos after.now) =
      ap (λ zs. zs ++ ok_line number name moment) (is ∙ answered.accepted.answer) ∙ ap (λ zs. answer_text formats before after order ++ zs) line in (
        with_state name after session,
        turned-keeps answered.place answered.before answered.after turned,
        ap (λ o. found_presentation o >>= λ (p : Presentation). outcome formats p order >>= λ (q : Presentation). Ok (record { text = answer_text formats p q order ++ ok_line number name (pos q.now); session = with_state name q session })) found
            ∙ ap (λ r. r >>= λ (q : Presentation). Ok (record { text = answer_text formats before q order ++ ok_line number name (pos q.now); session = with_state name q session })) answered.accepted.state
            ∙ ap (λ zs. Ok (record { text = zs; session = with_state name after session })) (sym words),
      )

  -- all is kept where it is refused
  kept-holds : AreKept the_formats itself name house new → Holds new session
  kept-holds (inl same) = record { session_is = holds.session_is ∙ ap (map shown) (sym same); apart = subst AreApart (sym same) holds.apart }
  kept-holds (inr kept) =
      let turned = kept.turned in
      let same : kept.after ≡ kept.before = ap (λ n. record { name = n; player = kept.after.player }) turned.name_is ∙ ap (λ p. record { name = kept.before.name; player = p }) kept.same in
      let new_is : new ≡ house = turned.new_is ∙ ap (λ h. slice_set house kept.place h) same ∙ set-same house kept.place kept.before turned.at.here in
      record { session_is = holds.session_is ∙ ap (map shown) (sym new_is); apart = subst AreApart (sym new_is) holds.apart }

  pub kept-keeps : AreKept the_formats itself name house new → Keeps (in_house so_far new) session
  kept-keeps kept = record { held = kept-holds kept; wanted = keeps.wanted }

  pub unmade-ordered : (text : AnswerText) (rise : ℕ) (refusal : Refusal) → IsRefused the_formats itself told_most name order house rise refusal →
      AreKept the_formats itself name house new →
      Makes (Err refusal) text (in_house so_far new) session (ordered_within limits session number name order)
  unmade-ordered text rise refusal (inl absent) kept = (
    kept-keeps kept,
    inr (
        ap (λ o. found_presentation o >>= λ (p : Presentation). outcome formats p order >>= λ (q : Presentation). Ok (record { text = answer_text formats p q order ++ ok_line number name (pos q.now); session = with_state name q session })) (held-nowhere name house session holds absent.place_is)
        ∙ ap Err (sym absent.refusal_is)
        ),
  )
  unmade-ordered text rise refusal (inr refused) kept =
      let found : presentation_of name session ≡ Some refused.before.player = held-at name house session refused.place refused.before holds refused.at in (
        kept-keeps kept,
        elim refused.refused [
          | inl memory ↦ inl memory
          | inr is ↦ inr (
              ap (λ o. found_presentation o >>= λ (p : Presentation). outcome formats p order >>= λ (q : Presentation). Ok (record { text = answer_text formats p q order ++ ok_line number name (pos q.now); session = with_state name q session })) found
              ∙ ap (λ r. r >>= λ (q : Presentation). Ok (record { text = answer_text formats refused.before.player q order ++ ok_line number name (pos q.now); session = with_state name q session })) is
              )
        ],
      )

-- ---- a presentation is closed

abbrev refused : Refusal → Result (Unit {0}) Refusal
refused refusal = Err refusal

abbrev as_accepted : Result (Unit {0}) Refusal → Result AcceptedOrder Refusal
as_accepted (Err refusal) = Err refusal
as_accepted (Ok done) = Err Memory

abbrev accepted : Result (Unit {0}) Refusal
accepted = Ok tt

pub made-closed : (name : List ℕ) (so_far : SessionSoFar) (new : Presentations) (session : Session) (number : ℕ) → Keeps so_far session →
    (place_of name so_far.house ≡ None → accepted ≡ refused NoPresentation) →
    ((place : ℕ) → place_of name so_far.house ≡ Some place → (accepted ≡ accepted) × (new ≡ house_without place so_far.house)) →
    Makes (Ok tt) (record { told = []; last = closed_line number name }) (in_house so_far new) session (close_answer session number name)
made-closed name so_far new session number keeps absent is_closed = go (place_of name so_far.house) refl
  where
    go : (place : Option ℕ) → place_of name so_far.house ≡ place → Makes (Ok tt) (record { told = []; last = closed_line number name }) (in_house so_far new) session (close_answer session number name)
    go None none = absurd (let e = absent none in cc)
    go (Some place) found =
        let house : Presentations = so_far.house in
        let holds = keeps.held in
        let new_is : new ≡ house_without place house = (is_closed place found).1 in
        let is_held = some-presentation name house session place holds found in (
          without name session,
          record {
            held = record {
              session_is = ap (all_without name) holds.session_is ∙ sym (closed-session name house place holds.apart found) ∙ ap (map shown) (sym new_is);
              apart = subst AreApart (sym new_is) (closed-apart house place holds.apart);
            };
            wanted = keeps.wanted;
          },
          ap (λ o. found_presentation o >>= λ (p : Presentation). Ok (record { text = closed_line number name; session = without name session })) is_held.1,
        )

pub unmade-closed : (name : List ℕ) (so_far : SessionSoFar) (new : Presentations) (session : Session) (number : ℕ) (text : AnswerText) (refusal : Refusal) → Keeps so_far session →
    (place_of name so_far.house ≡ None → refused refusal ≡ refused NoPresentation) →
    ((place : ℕ) → place_of name so_far.house ≡ Some place → (refused refusal ≡ accepted) × (new ≡ house_without place so_far.house)) → new ≡ so_far.house →
    Makes (Err refusal) text (in_house so_far new) session (close_answer session number name)
unmade-closed name so_far new session number text refusal keeps absent is_closed same = go (place_of name so_far.house) refl
  where
    go : (place : Option ℕ) → place_of name so_far.house ≡ place → Makes (Err refusal) text (in_house so_far new) session (close_answer session number name)
    go None none = (
      record { held = subst (λ h. Holds h session) (sym same) keeps.held; wanted = keeps.wanted },
      inr (
          ap (λ o. found_presentation o >>= λ (p : Presentation). Ok (record { text = closed_line number name; session = without name session })) (held-nowhere name so_far.house session keeps.held none)
          ∙ ap as_accepted (sym (absent none))
          ),
    )
    go (Some place) found = absurd (let e = (is_closed place found).0 in cc)

-- ---- a load

kept-state : (p q : Presentation) (diary : Option (List Entry)) → kept_where p diary ≡ Ok q → q ≡ p
kept-state p q None h = absurd cc
kept-state p q (Some diary) h = cc

-- it is opened at moment 0
opened-now : (document : Document) (p : Presentation) → opened document ≡ Ok p → p.now ≡ 0
opened-now document p h =
    let fresh : Presentation = record { document = document; log = []; now = 0 } in
    ap (λ (q : Presentation). q.now) (kept-state fresh p (diary_within limits.entries (course_of fresh)) h)

-- what a call of `may_load` gave, by the name itself
pub refusal-of : (name slice : List ℕ) (house : Presentations) (r : Result (Unit {0}) Refusal) → slice ≡ name → r ≡ load_refusal slice house → load_refusal name house ≡ r
refusal-of name slice house r same is = ap (λ n. load_refusal n house) (sym same) ∙ sym is

module _ (given : LoadedDocument) (so_far : SessionSoFar) (session : Session) (number : ℕ) (keeps : Keeps so_far session) where
  -- the session with one more
  abbrev pub joined : Presentation → Session
  joined p = record session { held = session.held ++ record { name = given.name; presentation = p } ∷ [] }

  may : may_load given.name session ≡ load_refusal given.name so_far.house
  may = ap (may_join given.name) keeps.held.session_is ∙ sym (may_load-held given.name so_far.house)

  abbrev loaded_by : Result (Unit {0}) Refusal → Result Presentation Refusal → Result AcceptedOrder Refusal
  loaded_by free loaded = free >>= λ done. loaded >>= λ (p : Presentation). Ok (record {
    text = load_text p ++ ok_line number given.name (pos p.now);
    session = joined p;
  })

  pub joined-keeps : (p : Presentation) → load_refusal given.name so_far.house ≡ Ok tt →
      Keeps (in_house so_far (so_far.house ++ record { name = given.name; player = p } ∷ [])) (joined p)
  joined-keeps p free =
      let h : NamedPlayer Presentation = record { name = given.name; player = p } in
      record {
        held = record {
          session_is = ap (λ (zs : List NamedPresentation). zs ++ record { name = given.name; presentation = p } ∷ []) keeps.held.session_is ∙ sym (added-session so_far.house h);
          apart = added-apart so_far.house h keeps.held.apart (may_load-free given.name so_far.house free);
        };
        wanted = keeps.wanted;
      }

  pub loaded-is : (p : Presentation) → load_refusal given.name so_far.house ≡ Ok tt → opened given.document ≡ Ok p →
      loaded_within limits session number given ≡ Ok (record { text = load_text p ++ ok_line number given.name (pos p.now); session = joined p })
  loaded-is p free is = ap (λ f. loaded_by f (opened given.document)) (may ∙ free) ∙ ap (loaded_by (Ok tt)) is

  pub made-loaded : (p : Presentation) (told : List ℕ) → load_refusal given.name so_far.house ≡ Ok tt → opened given.document ≡ Ok p → told ≡ load_text p →
      Makes (Ok tt) (record { told = told; last = ok_line number given.name (pos 0) }) (in_house so_far (so_far.house ++ record { name = given.name; player = p } ∷ [])) session (loaded_within limits session number given)
  made-loaded p told free is text_is =
      let line : ok_line number given.name (pos 0) ≡ ok_line number given.name (pos p.now) = ap (λ n. ok_line number given.name (pos n)) (sym (opened-now given.document p is)) in (
        joined p,
        joined-keeps p free,
        loaded-is p free is
            ∙ ap (λ zs. Ok (record { text = zs; session = joined p })) (ap (λ zs. load_text p ++ zs) (sym line) ∙ ap (λ zs. zs ++ ok_line number given.name (pos 0)) (sym text_is)),
      )

  pub unmade-loaded : (text : AnswerText) (refusal : Refusal) → load_refusal given.name so_far.house ≡ Ok tt → (refusal ≡ Memory) ⊎ (opened given.document ≡ Err refusal) →
      Makes (Err refusal) text so_far session (loaded_within limits session number given)
  unmade-loaded text refusal free (inl memory) = (keeps, inl memory)
  unmade-loaded text refusal free (inr is) = (keeps, inr (ap (λ f. loaded_by f (opened given.document)) (may ∙ free) ∙ ap (loaded_by (Ok tt)) is))

  pub unloaded : (text : AnswerText) (refusal : Refusal) → load_refusal given.name so_far.house ≡ Err refusal →
      Makes (Err refusal) text so_far session (loaded_within limits session number given)
  unloaded text refusal taken = (keeps, inr (ap (λ f. loaded_by f (opened given.document)) (may ∙ taken)))

  -- it is only read
  pub made-checked : (r : Result (Unit {0}) Refusal) (text : AnswerText) → Checks r text number given → Makes r text so_far session (checked session number given)
  made-checked (Ok done) text is = (session, keeps, ap (λ zs. Ok (record { text = zs; session = session })) (sym is))
  made-checked (Err refusal) text is = (keeps, inl is)

-- ---- a value is preferred

-- what a call that prefers gave, by the definition of a preference
pub preferred : (so_far : SessionSoFar) (new : Wanted) (session : Session) (word value : List ℕ) (read : Bool) → Keeps so_far session →
    Prefers so_far.preferences read new (with_preference so_far.preferences word value) →
    PrefersAs (if read then Ok tt else Err NotACommand) (record so_far { preferences = new }) session (preferring session word value)
preferred so_far new session word value true keeps given = (
  record session { wanted = new },
  record { held = record { session_is = keeps.held.session_is; apart = keeps.held.apart }; wanted = refl },
  ap (λ w. ok_or (with_preference w word value) NotACommand >>= λ (n : Wanted). Ok (record session { wanted = n })) keeps.wanted
      ∙ ap (λ o. ok_or o NotACommand >>= λ (n : Wanted). Ok (record session { wanted = n })) given,
)
preferred so_far new session word value false keeps given = (
  record { held = keeps.held; wanted = keeps.wanted ∙ sym given.1 },
  inr (
      ap (λ w. ok_or (with_preference w word value) NotACommand >>= λ (n : Wanted). Ok (record session { wanted = n })) keeps.wanted
      ∙ ap (λ o. ok_or o NotACommand >>= λ (n : Wanted). Ok (record session { wanted = n })) given.0
      ),
)

-- without a text
pub made-silently : (r : Result (Unit {0}) Refusal) (so_far : SessionSoFar) (session : Session) (wanted : Result Session Refusal) → PrefersAs r so_far session wanted →
    Makes r no_text so_far session (wanted >>= silent)
made-silently (Ok done) so_far session wanted made = (made.0, made.1, ap (λ (w : Result Session Refusal). w >>= silent) made.2)
made-silently (Err refusal) so_far session wanted made = (
  made.0,
  elim made.1 [
    | inl memory ↦ inl memory
    | inr is ↦ inr (ap (λ (w : Result Session Refusal). w >>= silent) is)
  ],
)

-- with its line
pub made-preferred : (text : AnswerText) (number : ℕ) (so_far : SessionSoFar) (session : Session) (wanted : Result Session Refusal) → text_of text ≡ preferred_line number → PrefersAs (Ok tt) so_far session wanted →
    Makes (Ok tt) text so_far session (wanted >>= λ (after : Session). Ok (record { text = preferred_line number; session = after }))
made-preferred text number so_far session wanted is made = (
  made.0,
  made.1,
  ap (λ (w : Result Session Refusal). w >>= λ (after : Session). Ok (record { text = preferred_line number; session = after })) made.2
      ∙ ap (λ zs. Ok (record { text = zs; session = made.0 })) (sym is),
)
