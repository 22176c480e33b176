-- Attributes that fit the kinds of a node and its parent are attributes of the kind, each of which some text is read as.
use Rattle.std.proofs.Common.{◌≡◌, ℕ, ◌+◌, ◌<◌, ◌≤◌, Bool, true, false, not, eqb, ltb, leb, ◌&&◌, ◌||◌, List, [], ◌∷◌, length, Option, Some, None, option_map, is_some, refl, subst, arith}
use Rattle.std.specs.Prelude.{ℤ, pos, negsuc, int_le, codes, bytes_eq, IfSome, IsTrue}
use Rattle.std.specs.List.{AllByRecursion, prefix_len, list_all}
use Rattle.std.proofs.lemmas.Bool.{and_parts, or_parts, not-true, not_from_false, leb-true, ltb-true, le-ltb, eq-eqb, ne_eqb, cond_both}
use Rattle.std.proofs.lemmas.List.Elements.{All-from_recursion}
use Rattle.std.proofs.lemmas.Option.{IfSome_then}
use Rattle.smil_model.specs.declared.document.Kind.{Kind}
use Rattle.smil_model.specs.declared.document.Attr.{Attr}
use Rattle.smil_model.specs.declared.document.Attr.TheVariants as attr
use Rattle.smil_model.specs.declared.document.Attrs.{Attrs}
use Rattle.smil_model.specs.declared.document.AttrName.{AttrName}
use Rattle.smil_model.specs.declared.document.AttrName.TheVariants as name
use Rattle.smil_model.specs.declared.texts.TextName.{TextName}
use Rattle.smil_model.specs.declared.texts.TextName.TheVariants as text
use Rattle.smil_model.specs.declared.document.Item.{Item}
use Rattle.smil_model.specs.declared.document.Item.TheVariants.{Offset, Sync, Event, Repeat, Key, Indefinite}
use Rattle.smil_model.specs.declared.document.Dur.{Dur}
use Rattle.smil_model.specs.declared.document.Dur.TheVariants as dur
use Rattle.smil_model.specs.declared.document.Count.{Count}
use Rattle.smil_model.specs.declared.document.Count.TheVariants as count
use Rattle.smil_model.specs.declared.document.Endsync.{Endsync}
use Rattle.smil_model.specs.declared.document.Endsync.TheVariants as endsync
use Rattle.smil_model.specs.declared.document.Act.{Act}
use Rattle.smil_model.specs.declared.document.Act.TheVariants as act
use Rattle.smil_model.specs.declared.times.Time.{Time}
use Rattle.smil_model.specs.declared.times.Time.TheVariants as time
use Rattle.smil_model.specs.document.Document.{is_class_kind}
use Rattle.smil_model.specs.document.Words.{is_initial, is_of_name, is_of_id, is_word, is_id, is_list_word, is_event_name, is_key}
use Rattle.smil_model.specs.document.Values.{absent_or, is_clock, is_offset, is_item, is_list, is_plain_begin, is_begin, is_dur, is_bound, is_positive_bound, is_count, is_endsync_word, is_endsync, is_higher, is_lower, has_endsync, has_class_attrs, has_element_attrs, are_element_values, fits_text, is_seq_parent, fit_kind}
use Rattle.smil_model.specs.document.Texts.{has_text, is_text, text_at, text_names}
use Rattle.smil_model.proofs.TextTables.{each_text}
use Rattle.smil_grammar.specs.Items.{IsItem}
use Rattle.smil_grammar.specs.Lists.{is_plain, IsList}
use Rattle.smil_grammar.specs.Values.{above_zero, id_of, attribute_name_of}
use Rattle.smil_grammar.specs.Attributes.{has}
use Rattle.smil_grammar.specs.Spellings.{item_text, list_text, count_text, attr_text, attr_at}
use Rattle.smil_grammar.specs.Clock.{clock_text}
use Rattle.smil_grammar.specs.Allowed.{IsAttr, IsAttrs}
use Rattle.smil_lexis.proofs.TestedFronts.{tested, passes_all}
use Rattle.smil_lexis.proofs.WordFronts.{IsWord}
use Rattle.smil_model.specs.Times.{IsNear}
use Rattle.smil_time_list.proofs.PrintableItems.{IsEventName, IsWho, Printable, near}
use Rattle.smil_time_list.proofs.ItemRoundTrip.{item_read}
use Rattle.smil_time_list.proofs.ListRoundTrip.{list_read}
use Rattle.smil_attrs.proofs.ClockRoundTrip.{trimmed, dur_read, repeat_read}
use Rattle.smil_attrs.proofs.CountRoundTrip.{count_read}
use Rattle.smil_attrs.proofs.WordRoundTrip.{IsWholeName, id_untrimmed, attribute_name_whole}
use Rattle.smil_attrs.proofs.ValueRoundTrip.{Again, min_again, max_again, restart_spelled, fill_spelled, restart_default_spelled, fill_default_spelled, act_spelled}

-- words

word : (p : ℕ → Bool) (text : List ℕ) → is_word p text ≡ true → leb (length text) 64 ≡ true → IsWord p text
word p [] h le = absurd cc
word p (b ∷ bytes) h le =
    let parts = and_parts (is_initial b) (list_all p bytes) h in
    let len : length (b ∷ bytes) ≤ 64 = leb-true _ _ le in
    (parts.0, tested p bytes parts.1, omega arith)

pub id_word : (text : List ℕ) → is_id text ≡ true → IsWord is_of_id text
id_word text h = let parts = and_parts (is_word is_of_id text) (leb (length text) 64) h in word is_of_id text parts.0 parts.1

whole : (text : List ℕ) → IsWord is_of_id text → id_of text ≡ Some text
whole [] h = absurd h
whole (b ∷ bytes) h =
    let len : prefix_len is_of_id bytes ≡ length bytes = passes_all is_of_id bytes h.1 in
    let short : ltb 64 (1 + length bytes) ≡ false = le-ltb _ _ (omega arith) in
    let some : eqb (length (b ∷ bytes)) 0 ≡ false = ne_eqb _ _ (λ e. omega arith) in
    let same : eqb (1 + length bytes) (length (b ∷ bytes)) ≡ true = eq-eqb _ _ (omega arith) in
    rw (some, h.0, len, short, same) refl

id_read : (text : List ℕ) → is_id text ≡ true → id_of text ≡ Some text
id_read text h = whole text (id_word text h)

event_name : (text : List ℕ) → is_event_name text ≡ true → IsEventName text
event_name text h =
    let parts = and_parts (is_word is_of_name text && leb (length text) 64) (not (is_list_word text)) h in
    let short = and_parts (is_word is_of_name text) (leb (length text) 64) parts.0 in
    let first = or_parts (bytes_eq text (codes "begin")) _ (not-true _ parts.1) in
    let second = or_parts (bytes_eq text (codes "end")) _ first.1 in
    let third = or_parts (bytes_eq text (codes "repeat")) _ second.1 in
    let fourth = or_parts (bytes_eq text (codes "indefinite")) _ third.1 in
    record { word = word is_of_name text short.0 short.1; not_begin = first.0; not_end = second.0; not_repeat = third.0; not_indefinite = fourth.0 }

-- lists

within : (offset : ℤ) → is_offset offset ≡ true → IsNear offset
within (pos n) h = let parts = and_parts true (leb n 1_000_000_000_000) h in near (pos n) (leb-true _ _ parts.1)
within (negsuc n) h = let parts = and_parts (leb n 999_999_999_999) true h in near (negsuc n) (omega (arith, leb-true _ _ parts.0))

subject : (who : Option (List ℕ)) → absent_or is_id who ≡ true → IsWho who
subject None h = tt
subject (Some who) h = id_word who h

pub printable : (item : Item) → is_item item ≡ true → Printable item
printable (Offset offset) h = within offset h
printable (Sync who edge offset) h = let parts = and_parts (is_id who) (is_offset offset) h in (id_word who parts.0, within offset parts.1)
printable (Event who name offset) h =
    let parts = and_parts (absent_or is_id who && is_event_name name) (is_offset offset) h in
    let front = and_parts (absent_or is_id who) (is_event_name name) parts.0 in
    (subject who front.0, event_name name front.1, within offset parts.1)
printable (Repeat who n offset) h =
    let parts = and_parts (absent_or is_id who && leb 1 n && leb n 999_999_999) (is_offset offset) h in
    let front = and_parts (absent_or is_id who && leb 1 n) (leb n 999_999_999) parts.0 in
    let first = and_parts (absent_or is_id who) (leb 1 n) front.0 in
    (subject who first.0, omega (arith, leb-true _ _ first.1), omega (arith, leb-true _ _ front.1), within offset parts.1)
printable (Key key offset) h = let parts = and_parts (is_key key) (is_offset offset) h in (parts.0, within offset parts.1)
printable Indefinite h = tt

each_item : (items : List Item) → list_all is_item items ≡ true → AllByRecursion IsItem items
each_item [] h = tt
each_item (item ∷ items) h =
    let parts = and_parts (is_item item) (list_all is_item items) h in
    ((item_text item, item_read item (printable item parts.0)), each_item items parts.1)

plain : (items : List Item) → is_plain_begin items ≡ true → is_plain items ≡ true
plain [] h = absurd cc
plain (Offset (pos n) ∷ []) h = let high : ltb n 0 ≡ false = le-ltb _ _ (omega arith) in rw high refl
plain (Offset (negsuc n) ∷ []) h = absurd cc
plain (Offset offset ∷ item ∷ items) h = absurd cc
plain (Sync who edge offset ∷ items) h = absurd cc
plain (Event who name offset ∷ items) h = absurd cc
plain (Repeat who n offset ∷ items) h = absurd cc
plain (Key key offset ∷ items) h = absurd cc
plain (Indefinite ∷ items) h = absurd cc

list_with : (in_seq : Bool) (items : List Item) → is_list items ≡ true → (in_seq ≡ true → is_plain items ≡ true) → IsList in_seq items
list_with in_seq items h p =
    let parts = and_parts (leb 1 (length items) && leb (length items) 32) (list_all is_item items) h in
    let both = and_parts (leb 1 (length items)) (leb (length items) 32) parts.0 in
    record { each = All-from_recursion IsItem items (each_item items parts.1); some = leb-true _ _ both.0; few = leb-true _ _ both.1; plain = p }

begin_list : (in_seq : Bool) (items : List Item) → is_begin in_seq items ≡ true → IsList in_seq items
begin_list false items h = list_with false items (and_parts (is_list items) true h).0 (λ e. absurd cc)
begin_list true items h = let parts = and_parts (is_list items) (is_plain_begin items) h in list_with true items parts.0 (λ e. plain items parts.1)

-- what is read again is an attribute
again_fits : (in_seq : Bool) (given : Attr) → Again in_seq given → IsAttr in_seq given
again_fits in_seq given h = (attr_text given, h)

-- clock values and times

pub clock_small : (n : ℕ) → is_clock (pos n) ≡ true → n ≤ 1_000_000_000_000
clock_small n h = leb-true _ _ (and_parts (int_le (pos 0) (pos n)) _ h).1

pub no_clock : (n : ℕ) → is_clock (negsuc n) ≡ true → ⊥
no_clock n h = absurd cc

dur_fits : (in_seq : Bool) (d : Dur) → is_dur d ≡ true → IsAttr in_seq (attr.Dur d)
dur_fits in_seq (dur.Clock (pos n)) h = (clock_text n, rw (trimmed n (clock_small n h), dur_read n (clock_small n h)) refl)
dur_fits in_seq (dur.Clock (negsuc n)) h = absurd (no_clock n h)
dur_fits in_seq dur.Media h = (codes "media", refl)
dur_fits in_seq dur.Indefinite h = (codes "indefinite", refl)

min_fits : (in_seq : Bool) (v : ℤ) → is_clock v ≡ true → IsAttr in_seq (attr.Min v)
min_fits in_seq (pos n) h = again_fits in_seq (attr.Min (pos n)) (min_again in_seq n (clock_small n h))
min_fits in_seq (negsuc n) h = absurd (no_clock n h)

max_fits : (in_seq : Bool) (t : Time) → is_bound t ≡ true → IsAttr in_seq (attr.Max t)
max_fits in_seq (time.At (pos n)) h = again_fits in_seq (attr.Max (time.At (pos n))) (max_again in_seq n (clock_small n h))
max_fits in_seq (time.At (negsuc n)) h = absurd (no_clock n h)
max_fits in_seq time.Indefinite h = (codes "indefinite", refl)
max_fits in_seq time.Unresolved h = absurd cc

above : (n : ℕ) → 0 < n → above_zero n ≡ Some n
above n lt = let some : eqb n 0 ≡ false = ne_eqb _ _ (λ e. omega arith) in rw some refl

repeat_dur_fits : (in_seq : Bool) (t : Time) → is_positive_bound t ≡ true → IsAttr in_seq (attr.RepeatDur t)
repeat_dur_fits in_seq (time.At (pos n)) h =
    let parts = and_parts (ltb 0 n) (is_clock (pos n)) h in
    let le = clock_small n parts.1 in
    (clock_text n, rw (trimmed n le, repeat_read n le (above n (ltb-true _ _ parts.0))) refl)
repeat_dur_fits in_seq (time.At (negsuc n)) h = absurd cc
repeat_dur_fits in_seq time.Indefinite h = (codes "indefinite", refl)
repeat_dur_fits in_seq time.Unresolved h = absurd cc

count_fits : (in_seq : Bool) (c : Count) → is_count c ≡ true → IsAttr in_seq (attr.RepeatCount c)
count_fits in_seq (count.Thousandths n) h =
    let parts = and_parts (ltb 0 n) (leb n 999_999_999_999) h in
    (count_text (count.Thousandths n), rw (count_read n (record { some = above n (ltb-true _ _ parts.0); few = omega (arith, leb-true _ _ parts.1) })) refl)
count_fits in_seq count.Indefinite h = (codes "indefinite", refl)

-- words and texts

higher_fits : (in_seq : Bool) (a : Act) → is_higher a ≡ true → IsAttr in_seq (attr.Higher a)
higher_fits in_seq act.Stop h = (codes "stop", refl)
higher_fits in_seq act.Pause h = (codes "pause", refl)
higher_fits in_seq act.Defer h = absurd cc
higher_fits in_seq act.Never h = absurd cc

lower_fits : (in_seq : Bool) (a : Act) → is_lower a ≡ true → IsAttr in_seq (attr.Lower a)
lower_fits in_seq act.Stop h = absurd cc
lower_fits in_seq act.Pause h = absurd cc
lower_fits in_seq act.Defer h = (codes "defer", refl)
lower_fits in_seq act.Never h = (codes "never", refl)

endsync_fits : (in_seq : Bool) (e : Endsync) → is_endsync e ≡ true → IsAttr in_seq (attr.Endsync e)
endsync_fits in_seq endsync.Last h = (codes "last", refl)
endsync_fits in_seq endsync.First h = (codes "first", refl)
endsync_fits in_seq endsync.All h = (codes "all", refl)
endsync_fits in_seq (endsync.Child text) h =
    let parts = and_parts (is_id text) (not (is_endsync_word text)) h in
    let last = or_parts (bytes_eq text (codes "last")) _ (not-true _ parts.1) in
    let first = or_parts (bytes_eq text (codes "first")) _ last.1 in
    let all = or_parts (bytes_eq text (codes "all")) _ first.1 in
    let media = or_parts (bytes_eq text (codes "media")) _ all.1 in
    (text, rw (id_untrimmed text (id_word text parts.0), media.0, last.0, first.0, all.0, id_read text parts.0) refl)

text_fits : (in_seq : Bool) (n : TextName) (text : List ℕ) → is_text n text ≡ true → IsAttr in_seq (attr.Text n text)
text_fits in_seq text.TargetElement text h = (text, rw (id_untrimmed text (id_word text h), id_read text h) refl)
text_fits in_seq text.AttributeName text h =
    let known : attribute_name_of text ≡ Some text = rw h refl in
    let whole = subst (λ (o : Option (List ℕ)). IfSome o IsWholeName) known (attribute_name_whole text) in
    (text, rw (whole.1, h) refl)
text_fits in_seq _ text h = (text, rw h refl)

-- ---- attributes that are there

-- an attribute in its range
abbrev pub IsInRange : Bool → Attr → Type 0
IsInRange in_seq (attr.Id text) = is_id text ≡ true
IsInRange in_seq (attr.Begin items) = is_begin in_seq items ≡ true
IsInRange in_seq (attr.Dur d) = is_dur d ≡ true
IsInRange in_seq (attr.End items) = is_list items ≡ true
IsInRange in_seq (attr.Min v) = is_clock v ≡ true
IsInRange in_seq (attr.Max t) = is_bound t ≡ true
IsInRange in_seq (attr.RepeatCount c) = is_count c ≡ true
IsInRange in_seq (attr.RepeatDur t) = is_positive_bound t ≡ true
IsInRange in_seq (attr.Restart r) = Unit {0}
IsInRange in_seq (attr.Fill f) = Unit {0}
IsInRange in_seq (attr.RestartDefault d) = Unit {0}
IsInRange in_seq (attr.FillDefault d) = Unit {0}
IsInRange in_seq (attr.Endsync e) = is_endsync e ≡ true
IsInRange in_seq (attr.Peers a) = Unit {0}
IsInRange in_seq (attr.Higher a) = is_higher a ≡ true
IsInRange in_seq (attr.Lower a) = is_lower a ≡ true
IsInRange in_seq (attr.Text n text) = is_text n text ≡ true

pub is_attr : (in_seq : Bool) (given : Attr) → IsInRange in_seq given → IsAttr in_seq given
is_attr in_seq (attr.Id text) h = (text, rw (id_read text h) refl)
is_attr in_seq (attr.Begin items) h = (list_text items, rw (list_read in_seq items (begin_list in_seq items h)) refl)
is_attr in_seq (attr.Dur d) h = dur_fits in_seq d h
is_attr in_seq (attr.End items) h = (list_text items, rw (list_read false items (list_with false items h (λ e. absurd cc))) refl)
is_attr in_seq (attr.Min v) h = min_fits in_seq v h
is_attr in_seq (attr.Max t) h = max_fits in_seq t h
is_attr in_seq (attr.RepeatCount c) h = count_fits in_seq c h
is_attr in_seq (attr.RepeatDur t) h = repeat_dur_fits in_seq t h
is_attr in_seq (attr.Restart r) h = again_fits in_seq (attr.Restart r) (restart_spelled in_seq r).0
is_attr in_seq (attr.Fill f) h = again_fits in_seq (attr.Fill f) (fill_spelled in_seq f).0
is_attr in_seq (attr.RestartDefault d) h = again_fits in_seq (attr.RestartDefault d) (restart_default_spelled in_seq d).0
is_attr in_seq (attr.FillDefault d) h = again_fits in_seq (attr.FillDefault d) (fill_default_spelled in_seq d).0
is_attr in_seq (attr.Endsync e) h = endsync_fits in_seq e h
is_attr in_seq (attr.Peers a) h = again_fits in_seq (attr.Peers a) (act_spelled in_seq a).0
is_attr in_seq (attr.Higher a) h = higher_fits in_seq a h
is_attr in_seq (attr.Lower a) h = lower_fits in_seq a h
is_attr in_seq (attr.Text n text) h = text_fits in_seq n text h

abbrev Fits : Bool → Bool → Option Attr → Type 0
Fits in_seq had o = IfSome o (λ given. IsTrue had × IsInRange in_seq given)

-- each attribute that is there is one of the kind's, in its range
abbrev pub AreInRange : Bool → Kind → Attrs → Type 0
AreInRange in_seq k attrs = (n : AttrName) → Fits in_seq (has k n) (attr_at attrs n)

present : {A : Type 0} (made : A → Attr) (test : A → Bool) (in_seq had : Bool) → ((x : A) → test x ≡ true → IsInRange in_seq (made x)) → (o : Option A) → absent_or test o ≡ true → (is_some o ≡ true → had ≡ true) → Fits in_seq had (option_map made o)
present made test in_seq had each None h has = tt
present made test in_seq had each (Some x) h has = (has refl, each x h)

anything : {A : Type 0} (made : A → Attr) (in_seq had : Bool) → ((x : A) → IsInRange in_seq (made x)) → (o : Option A) → had ≡ true → Fits in_seq had (option_map made o)
anything made in_seq had each None has = tt
anything made in_seq had each (Some x) has = (has, each x)

absent : {A : Type 0} (made : A → Attr) (in_seq had : Bool) (o : Option A) → is_some o ≡ false → Fits in_seq had (option_map made o)
absent made in_seq had None h = tt
absent made in_seq had (Some x) h = absurd cc

-- its plain texts
abbrev AreTexts : Bool → Kind → Attrs → Type 0
AreTexts in_seq k attrs = (n : TextName) → Fits in_seq (has_text k n) (attr_at attrs (name.Text n))

text_there : (in_seq : Bool) (k : Kind) (n : TextName) (o : Option (List ℕ)) → absent_or (λ text. has_text k n && is_text n text) o ≡ true → Fits in_seq (has_text k n) (option_map (attr.Text n) o)
text_there in_seq k n None h = tt
text_there in_seq k n (Some text) h = let parts = and_parts (has_text k n) (is_text n text) h in (parts.0, parts.1)

-- a priorityClass

record Bare (attrs : Attrs) : Type 0 where
  begin : is_some attrs.begin ≡ false
  dur : is_some attrs.dur ≡ false
  end_list : is_some attrs.«end» ≡ false
  min : is_some attrs.min ≡ false
  max : is_some attrs.max ≡ false
  repeat_count : is_some attrs.repeat_count ≡ false
  repeat_dur : is_some attrs.repeat_dur ≡ false
  restart : is_some attrs.restart ≡ false
  fill : is_some attrs.fill ≡ false
  restart_default : is_some attrs.restart_default ≡ false
  fill_default : is_some attrs.fill_default ≡ false
  endsync : is_some attrs.endsync ≡ false

bare : (attrs : Attrs) → has_element_attrs attrs ≡ false → Bare attrs
bare attrs h =
    let p_endsync = or_parts _ (is_some attrs.endsync) h in
    let p_fill_default = or_parts _ (is_some attrs.fill_default) p_endsync.0 in
    let p_restart_default = or_parts _ (is_some attrs.restart_default) p_fill_default.0 in
    let p_fill = or_parts _ (is_some attrs.fill) p_restart_default.0 in
    let p_restart = or_parts _ (is_some attrs.restart) p_fill.0 in
    let p_repeat_dur = or_parts _ (is_some attrs.repeat_dur) p_restart.0 in
    let p_repeat_count = or_parts _ (is_some attrs.repeat_count) p_repeat_dur.0 in
    let p_max = or_parts _ (is_some attrs.max) p_repeat_count.0 in
    let p_min = or_parts _ (is_some attrs.min) p_max.0 in
    let p_end_list = or_parts _ (is_some attrs.«end») p_min.0 in
    let p_dur = or_parts _ (is_some attrs.dur) p_end_list.0 in
    record { begin = p_dur.0; dur = p_dur.1; end_list = p_end_list.1; min = p_min.1; max = p_max.1; repeat_count = p_repeat_count.1; repeat_dur = p_repeat_dur.1; restart = p_restart.1; fill = p_fill.1; restart_default = p_restart_default.1; fill_default = p_fill_default.1; endsync = p_endsync.1 }

class_fits : (in_seq : Bool) (k : Kind) (attrs : Attrs) → is_class_kind k ≡ true → absent_or is_id attrs.id ≡ true → Bare attrs → absent_or is_higher attrs.higher ≡ true → absent_or is_lower attrs.lower ≡ true → AreTexts in_seq k attrs → AreInRange in_seq k attrs
class_fits in_seq k attrs class id none higher lower texts name.Id = present attr.Id is_id in_seq true (λ x h. h) attrs.id id (λ e. refl)
class_fits in_seq k attrs class id none higher lower texts name.Begin = absent attr.Begin in_seq (not (is_class_kind k)) attrs.begin none.begin
class_fits in_seq k attrs class id none higher lower texts name.Dur = absent attr.Dur in_seq (not (is_class_kind k)) attrs.dur none.dur
class_fits in_seq k attrs class id none higher lower texts name.End = absent attr.End in_seq (not (is_class_kind k)) attrs.«end» none.end_list
class_fits in_seq k attrs class id none higher lower texts name.Min = absent attr.Min in_seq (not (is_class_kind k)) attrs.min none.min
class_fits in_seq k attrs class id none higher lower texts name.Max = absent attr.Max in_seq (not (is_class_kind k)) attrs.max none.max
class_fits in_seq k attrs class id none higher lower texts name.RepeatCount = absent attr.RepeatCount in_seq (not (is_class_kind k)) attrs.repeat_count none.repeat_count
class_fits in_seq k attrs class id none higher lower texts name.RepeatDur = absent attr.RepeatDur in_seq (not (is_class_kind k)) attrs.repeat_dur none.repeat_dur
class_fits in_seq k attrs class id none higher lower texts name.Restart = absent attr.Restart in_seq (not (is_class_kind k)) attrs.restart none.restart
class_fits in_seq k attrs class id none higher lower texts name.Fill = absent attr.Fill in_seq (not (is_class_kind k)) attrs.fill none.fill
class_fits in_seq k attrs class id none higher lower texts name.RestartDefault = absent attr.RestartDefault in_seq (not (is_class_kind k)) attrs.restart_default none.restart_default
class_fits in_seq k attrs class id none higher lower texts name.FillDefault = absent attr.FillDefault in_seq (not (is_class_kind k)) attrs.fill_default none.fill_default
class_fits in_seq k attrs class id none higher lower texts name.Endsync = absent attr.Endsync in_seq (has_endsync k) attrs.endsync none.endsync
class_fits in_seq k attrs class id none higher lower texts (name.Text n) = texts n
class_fits in_seq k attrs class id none higher lower texts name.Peers = anything attr.Peers in_seq (is_class_kind k) (λ x. tt) attrs.peers class
class_fits in_seq k attrs class id none higher lower texts name.Higher = present attr.Higher is_higher in_seq (is_class_kind k) (λ x h. h) attrs.higher higher (λ e. class)
class_fits in_seq k attrs class id none higher lower texts name.Lower = present attr.Lower is_lower in_seq (is_class_kind k) (λ x h. h) attrs.lower lower (λ e. class)

-- an element

record HasValues (in_seq : Bool) (attrs : Attrs) : Type 0 where
  begin : absent_or (is_begin in_seq) attrs.begin ≡ true
  dur : absent_or is_dur attrs.dur ≡ true
  end_list : absent_or is_list attrs.«end» ≡ true
  min : absent_or is_clock attrs.min ≡ true
  max : absent_or is_bound attrs.max ≡ true
  repeat_count : absent_or is_count attrs.repeat_count ≡ true
  repeat_dur : absent_or is_positive_bound attrs.repeat_dur ≡ true
  endsync : absent_or is_endsync attrs.endsync ≡ true

valued : (in_seq : Bool) (attrs : Attrs) → are_element_values in_seq attrs ≡ true → HasValues in_seq attrs
valued in_seq attrs h =
    let p_endsync = and_parts _ (absent_or is_endsync attrs.endsync) h in
    let p_repeat_dur = and_parts _ (absent_or is_positive_bound attrs.repeat_dur) p_endsync.0 in
    let p_repeat_count = and_parts _ (absent_or is_count attrs.repeat_count) p_repeat_dur.0 in
    let p_max = and_parts _ (absent_or is_bound attrs.max) p_repeat_count.0 in
    let p_min = and_parts _ (absent_or is_clock attrs.min) p_max.0 in
    let p_end_list = and_parts _ (absent_or is_list attrs.«end») p_min.0 in
    let p_dur = and_parts _ (absent_or is_dur attrs.dur) p_end_list.0 in
    record { begin = p_dur.0; dur = p_dur.1; end_list = p_end_list.1; min = p_min.1; max = p_max.1; repeat_count = p_repeat_count.1; repeat_dur = p_repeat_dur.1; endsync = p_endsync.1 }

-- what a priorityClass alone has
record Classless (attrs : Attrs) : Type 0 where
  peers : is_some attrs.peers ≡ false
  higher : is_some attrs.higher ≡ false
  lower : is_some attrs.lower ≡ false

classless : (attrs : Attrs) → has_class_attrs attrs ≡ false → Classless attrs
classless attrs h =
    let p_lower = or_parts _ (is_some attrs.lower) h in
    let p_higher = or_parts (is_some attrs.peers) (is_some attrs.higher) p_lower.0 in
    record { peers = p_higher.0; higher = p_higher.1; lower = p_lower.1 }

had_endsync : (has there : Bool) → (has || not there) ≡ true → there ≡ true → has ≡ true
had_endsync true there h e = refl
had_endsync false true h e = absurd cc
had_endsync false false h e = absurd cc

element_fits : (in_seq : Bool) (k : Kind) (attrs : Attrs) → is_class_kind k ≡ false → absent_or is_id attrs.id ≡ true → Classless attrs → HasValues in_seq attrs → (has_endsync k || not (is_some attrs.endsync)) ≡ true → AreTexts in_seq k attrs → AreInRange in_seq k attrs
element_fits in_seq k attrs class id none values endsync texts name.Id = present attr.Id is_id in_seq true (λ x h. h) attrs.id id (λ e. refl)
element_fits in_seq k attrs class id none values endsync texts name.Begin = present attr.Begin (is_begin in_seq) in_seq (not (is_class_kind k)) (λ x h. h) attrs.begin values.begin (λ e. not_from_false _ class)
element_fits in_seq k attrs class id none values endsync texts name.Dur = present attr.Dur is_dur in_seq (not (is_class_kind k)) (λ x h. h) attrs.dur values.dur (λ e. not_from_false _ class)
element_fits in_seq k attrs class id none values endsync texts name.End = present attr.End is_list in_seq (not (is_class_kind k)) (λ x h. h) attrs.«end» values.end_list (λ e. not_from_false _ class)
element_fits in_seq k attrs class id none values endsync texts name.Min = present attr.Min is_clock in_seq (not (is_class_kind k)) (λ x h. h) attrs.min values.min (λ e. not_from_false _ class)
element_fits in_seq k attrs class id none values endsync texts name.Max = present attr.Max is_bound in_seq (not (is_class_kind k)) (λ x h. h) attrs.max values.max (λ e. not_from_false _ class)
element_fits in_seq k attrs class id none values endsync texts name.RepeatCount = present attr.RepeatCount is_count in_seq (not (is_class_kind k)) (λ x h. h) attrs.repeat_count values.repeat_count (λ e. not_from_false _ class)
element_fits in_seq k attrs class id none values endsync texts name.RepeatDur = present attr.RepeatDur is_positive_bound in_seq (not (is_class_kind k)) (λ x h. h) attrs.repeat_dur values.repeat_dur (λ e. not_from_false _ class)
element_fits in_seq k attrs class id none values endsync texts name.Endsync = present attr.Endsync is_endsync in_seq (has_endsync k) (λ x h. h) attrs.endsync values.endsync (had_endsync (has_endsync k) (is_some attrs.endsync) endsync)
element_fits in_seq k attrs class id none values endsync texts name.Restart = anything attr.Restart in_seq (not (is_class_kind k)) (λ x. tt) attrs.restart (not_from_false _ class)
element_fits in_seq k attrs class id none values endsync texts name.Fill = anything attr.Fill in_seq (not (is_class_kind k)) (λ x. tt) attrs.fill (not_from_false _ class)
element_fits in_seq k attrs class id none values endsync texts name.RestartDefault = anything attr.RestartDefault in_seq (not (is_class_kind k)) (λ x. tt) attrs.restart_default (not_from_false _ class)
element_fits in_seq k attrs class id none values endsync texts name.FillDefault = anything attr.FillDefault in_seq (not (is_class_kind k)) (λ x. tt) attrs.fill_default (not_from_false _ class)
element_fits in_seq k attrs class id none values endsync texts (name.Text n) = texts n
element_fits in_seq k attrs class id none values endsync texts name.Peers = absent attr.Peers in_seq (is_class_kind k) attrs.peers none.peers
element_fits in_seq k attrs class id none values endsync texts name.Higher = absent attr.Higher in_seq (is_class_kind k) attrs.higher none.higher
element_fits in_seq k attrs class id none values endsync texts name.Lower = absent attr.Lower in_seq (is_class_kind k) attrs.lower none.lower

-- both

pub in_range : (k : Kind) (parent : Option Kind) (attrs : Attrs) → fit_kind k parent attrs ≡ true → AreInRange (is_seq_parent parent) k attrs
in_range k parent attrs h =
    let parts = and_parts (absent_or is_id attrs.id && list_all (fits_text k attrs.texts) text_names) _ h in
    let front = and_parts (absent_or is_id attrs.id) (list_all (fits_text k attrs.texts) text_names) parts.0 in
    let texts : AreTexts (is_seq_parent parent) k attrs = λ n. text_there (is_seq_parent parent) k n (text_at attrs.texts n) (each_text (fits_text k attrs.texts) front.1 n) in
    cond_both (is_class_kind k) (not (has_element_attrs attrs) && absent_or is_higher attrs.higher && absent_or is_lower attrs.lower) (not (has_class_attrs attrs) && are_element_values (is_seq_parent parent) attrs && (has_endsync k || not (is_some attrs.endsync)))
    (λ t. t ≡ true → AreInRange (is_seq_parent parent) k attrs)
    (λ class e.
    let last = and_parts _ (absent_or is_lower attrs.lower) e in
    let first = and_parts (not (has_element_attrs attrs)) (absent_or is_higher attrs.higher) last.0 in
    class_fits (is_seq_parent parent) k attrs class front.0 (bare attrs (not-true _ first.0)) first.1 last.1 texts)
    (λ class e.
    let last = and_parts _ (has_endsync k || not (is_some attrs.endsync)) e in
    let first = and_parts (not (has_class_attrs attrs)) (are_element_values (is_seq_parent parent) attrs) last.0 in
    element_fits (is_seq_parent parent) k attrs class front.0 (classless attrs (not-true _ first.0)) (valued (is_seq_parent parent) attrs first.1) last.1 texts)
    parts.1

-- all of them can be read
pub fits : (k : Kind) (parent : Option Kind) (attrs : Attrs) → fit_kind k parent attrs ≡ true → IsAttrs (is_seq_parent parent) k attrs
fits k parent attrs h n = IfSome_then (attr_at attrs n) (in_range k parent attrs h n) (λ given had. (had.0, is_attr (is_seq_parent parent) given had.1))
