-- What comes of one element, as numbers by which its keys are made.
use Rattle.std.specs.Prelude.{◌≡◌, ℕ, ℤ, pos, Bool, true, false, ◌==◌, if◌then◌else◌, Option, Some, None, is_some}
use Rattle.std.proofs.Common.{refl, sym}
use Rattle.std.proofs.lemmas.Bool.{eqb-true}
use Rattle.smil_model.specs.declared.happening.TheConstants.{BEGIN_CLASS, END_CLASS}
use Rattle.smil_element.specs.declared.happening.change.Change.{Change}
use Rattle.smil_element.specs.declared.happening.change.Change.TheVariants.{Begins, Ends, Repeats}
use Rattle.smil_element.specs.declared.happening.change.DueChange.{DueChange}
use Rattle.smil_element.specs.declared.comings.DueChanges.TheInside.{Inside}
use Rattle.smil_element.specs.declared.comings.Moved.{Moved}
use Rattle.smil_element.specs.declared.comings.Repeated.{Repeated}
use Rattle.smil_element.specs.Changes.{ChangesDue}

-- a begin, or an end in another class
abbrev pub change_in : ℕ → ℤ → Change
change_in class value = if class == BEGIN_CLASS then Begins value else Ends value

-- the begin or end of the element at a place, with its class, moment and value; none in class 0
abbrev pub move_due : ℕ → ℕ → ℕ → ℤ → ℤ → Option DueChange
move_due place serial class moment value =
    if class == 0 then None else Some (record {
      key = record {
        value = moment;
        class = class;
        position = place;
        serial = serial;
        repeat = false;
      };
      change = change_in class value;
    })

-- its repeat, if that comes
abbrev pub repeat_due : ℕ → ℕ → Bool → ℤ → ℤ → Option DueChange
repeat_due place serial comes moment start =
    if comes then Some (record {
      key = record {
        value = moment;
        class = END_CLASS;
        position = place;
        serial = serial;
        repeat = true;
      };
      change = Repeats start;
    }) else None

abbrev pub moved_at : ℕ → ℕ → Moved → Option DueChange
moved_at place serial m = move_due place serial m.class m.moment m.value

abbrev pub repeat_at : ℕ → ℕ → Repeated → Option DueChange
repeat_at place serial r = repeat_due place serial r.comes r.moment r.start

abbrev pub changes_due : ℕ → ℕ → Moved → Repeated → ChangesDue
changes_due place serial m r = record {
  place = place;
  serial = serial;
  moved = moved_at place serial m;
  repeat = repeat_at place serial r;
}

abbrev pub changes_in : Inside → ChangesDue
changes_in a = record {
  place = a.place;
  serial = a.serial;
  moved = move_due a.place a.serial a.class a.moment a.value;
  repeat = repeat_due a.place a.serial a.repeats a.repeat_moment a.start;
}

-- what doesn't come has numbers of 0
abbrev pub IsZeroMove : ℕ → ℤ → ℤ → Type 0
IsZeroMove class moment value = class ≡ 0 → (moment ≡ pos 0) × (value ≡ pos 0)

abbrev pub IsZeroRepeat : Bool → ℤ → ℤ → Type 0
IsZeroRepeat comes moment start = comes ≡ false → (moment ≡ pos 0) × (start ≡ pos 0)

abbrev pub AreCanonical : Inside → Type 0
AreCanonical a =
    IsZeroMove a.class a.moment a.value × IsZeroRepeat a.repeats a.repeat_moment a.start

-- ---- back to the numbers

abbrev pub number_in : Change → ℤ
number_in (Begins begin) = begin
number_in (Ends finish) = finish
number_in (Repeats start) = start

abbrev pub class_of : Option DueChange → ℕ
class_of None = 0
class_of (Some c) = c.key.class

abbrev pub moment_of : Option DueChange → ℤ
moment_of None = pos 0
moment_of (Some c) = c.key.value

abbrev pub value_of : Option DueChange → ℤ
value_of None = pos 0
value_of (Some c) = number_in c.change

abbrev pub numbers_of : ChangesDue → Inside
numbers_of d = record {
  place = d.place;
  serial = d.serial;
  class = class_of d.moved;
  repeats = is_some d.repeat;
  moment = moment_of d.moved;
  value = value_of d.moved;
  repeat_moment = moment_of d.repeat;
  start = value_of d.repeat;
}

abbrev AreBack : Option DueChange → ℕ → ℤ → ℤ → Type 0
AreBack due class moment value =
    (class_of due ≡ class) × (moment_of due ≡ moment) × (value_of due ≡ value)

move_back : (place serial class : ℕ) (moment value : ℤ) → IsZeroMove class moment value
    → AreBack (move_due place serial class moment value) class moment value
move_back place serial class moment value zero = by (class == 0) (class == BEGIN_CLASS) refl
  where
    by : (t b : Bool) → class == 0 ≡ t
        → AreBack (if t then None else Some (record {
          key = record {
            value = moment;
            class = class;
            position = place;
            serial = serial;
            repeat = false;
          };
          change = if b then Begins value else Ends value;
        })) class moment value
    by true b q =
        let none : class ≡ 0 = eqb-true class 0 q in
        (sym none, sym (zero none).0, sym (zero none).1)
    by false true q = (refl, refl, refl)
    by false false q = (refl, refl, refl)

repeat_back : (place serial : ℕ) (comes : Bool) (moment start : ℤ)
    → IsZeroRepeat comes moment start
    → (is_some (repeat_due place serial comes moment start) ≡ comes)
    × (moment_of (repeat_due place serial comes moment start) ≡ moment)
    × (value_of (repeat_due place serial comes moment start) ≡ start)
repeat_back place serial true moment start zero = (refl, refl, refl)
repeat_back place serial false moment start zero =
    (refl, sym (zero refl).0, sym (zero refl).1)

pub same_numbers : (a : Inside) → AreCanonical a → numbers_of (changes_in a) ≡ a
same_numbers a zero =
    let m = move_back a.place a.serial a.class a.moment a.value zero.0 in
    let r = repeat_back a.place a.serial a.repeats a.repeat_moment a.start zero.1 in
    λ i. record {
      place = a.place;
      serial = a.serial;
      class = m.0 i;
      repeats = r.0 i;
      moment = m.1 i;
      value = m.2 i;
      repeat_moment = r.1 i;
      start = r.2 i;
    }
