-- What a viewer prefers, and which test attributes hold by it.
use Rattle.std.specs.Prelude.{ℕ, Bool, true, false, ◌&&◌, ◌||◌, List, [], ◌∷◌, length, take, drop, Option, Some, None, option_map, nat_lt, nat_le, ◌==◌, if◌then◌else◌, codes, bytes_eq}
use Rattle.std.specs.List.{list_all, list_any, slice_split}
use Rattle.std.specs.Char.{is_ascii_alphanumeric}
use Rattle.std.specs.Str.{str_eq_ignore_ascii_case}
use Rattle.smil_model.specs.document.Valid.{same_test}
use Rattle.smil_switch.specs.declared.preferences.TheConstants.{TAG_BYTES}
use Rattle.smil_grammar.specs.Texts.{◌>>=◌, cut_at, trim, minus}
use Rattle.smil_grammar.specs.Numbers.{number_of}
use Rattle.smil_grammar.specs.Values.{either, keyword}

-- what is preferred; languages as they are written
pub record Wanted : Type 0 where
  pub bitrate : ℕ
  pub captions : Bool
  pub audio_desc : Bool
  pub language : List ℕ
  pub screen : ℕ × ℕ
  pub depth : ℕ

-- before the first preference is given
abbrev pub at_first : Wanted
at_first = record {
  bitrate = 999_999_999;
  captions = false;
  audio_desc = false;
  language = codes "en";
  screen = (1080, 1920);
  depth = 24;
}

-- ---- values

-- a number of at most so many digits
abbrev pub digits_up_to : ℕ → List ℕ → Option ℕ
digits_up_to most text = if nat_lt most (length text) then None else number_of text

-- `on` or `off`
abbrev pub on_off : List ℕ → Option Bool
on_off text = keyword ((codes "on", true) ∷ (codes "off", false) ∷ []) text

-- `,`
abbrev pub comma : ℕ
comma = 44

-- what stands between commas
abbrev pub comma_pieces : List ℕ → List (List ℕ)
comma_pieces text = slice_split (λ b. b == comma) text

-- a byte of a language's tag
abbrev pub is_of_tag : ℕ → Bool
is_of_tag b = is_ascii_alphanumeric b || (b == minus)

-- a language's tag
abbrev pub is_tag : List ℕ → Bool
is_tag text = nat_lt 0 (length text) && nat_le (length text) TAG_BYTES && list_all is_of_tag text

-- two numbers with this letter between them
abbrev pub screen_by : ℕ → List ℕ → Option (ℕ × ℕ)
screen_by letter text = do
  cut ← cut_at letter text
  height ← digits_up_to 6 cut.0
  width ← digits_up_to 6 cut.1
  Some (height, width)

-- `x`
abbrev pub small_x : ℕ
small_x = 120

-- `X`
abbrev pub great_x : ℕ
great_x = 88

-- ---- preferences

-- languages as a preference names them
abbrev pub language_of : List ℕ → Option (List ℕ)
language_of text = if list_all is_tag (comma_pieces text) then Some text else None

-- with the preference of this word and value, where it has a reading
abbrev pub with_preference : Wanted → List ℕ → List ℕ → Option Wanted
with_preference wanted word value =
    if bytes_eq word (codes "bitrate")
    then option_map (λ n. record wanted { bitrate = n }) (digits_up_to 9 value)
    else (if bytes_eq word (codes "captions")
    then option_map (λ on. record wanted { captions = on }) (on_off value)
    else (if bytes_eq word (codes "audiodesc")
    then option_map (λ on. record wanted { audio_desc = on }) (on_off value)
    else (if bytes_eq word (codes "language")
    then option_map (λ text. record wanted { language = text }) (language_of value)
    else (if bytes_eq word (codes "screen")
    then option_map (λ s. record wanted { screen = s }) (screen_by small_x value)
    else (if bytes_eq word (codes "depth")
    then option_map (λ n. record wanted { depth = n }) (digits_up_to 3 value)
    else None)))))

-- ---- test attributes

-- the test attributes
abbrev pub is_test : List ℕ → Bool
is_test name =
    list_any (bytes_eq name)
    (codes "systemBitrate" ∷ codes "systemCaptions" ∷ codes "systemAudioDesc"
    ∷ codes "systemLanguage" ∷ codes "systemScreenSize" ∷ codes "systemScreenDepth" ∷ [])

-- test attributes of SMIL that are left out
abbrev pub is_other_test : List ℕ → Bool
is_other_test name =
    list_any (bytes_eq name)
    (codes "systemCPU" ∷ codes "systemOperatingSystem" ∷ codes "systemRequired"
    ∷ codes "systemComponent" ∷ codes "systemOverdubOrSubtitle" ∷ [])

-- nothing, or a part of a tag behind `-`
abbrev pub goes_on : List ℕ → Bool
goes_on [] = true
goes_on (b ∷ _) = b == minus

-- a preferred tag is this tag, or a front of it before a `-`; the letters' case is ignored
abbrev pub covers : List ℕ → List ℕ → Bool
covers preferred tag =
    str_eq_ignore_ascii_case (take (length preferred) tag) preferred
    && goes_on (drop (length preferred) tag)

-- whether a preferred tag covers one of these
abbrev pub speaks : List ℕ → List ℕ → Bool
speaks preferred text =
    list_any (λ wanted. list_any (λ tag. covers wanted (trim tag)) (comma_pieces text))
    (comma_pieces preferred)

-- whether languages are covered, where they have a reading; white space may stand round each
abbrev pub speaks_of : List ℕ → List ℕ → Option Bool
speaks_of preferred text =
    if list_all (λ tag. is_tag (trim tag)) (comma_pieces text) then Some (speaks preferred text)
    else None

-- whether a screen isn't greater than the preferred one, either way
abbrev pub fits_screen : ℕ × ℕ → ℕ × ℕ → Bool
fits_screen preferred screen = nat_le screen.0 preferred.0 && nat_le screen.1 preferred.1

-- a screen, with an `x` of either case
abbrev pub screen_of : List ℕ → Option (ℕ × ℕ)
screen_of text = either (screen_by small_x text) (screen_by great_x text)

-- whether a test attribute of this name holds, where its value has a reading
abbrev pub test_of : Wanted → List ℕ → List ℕ → Option Bool
test_of wanted name text =
    if bytes_eq name (codes "systemBitrate")
    then option_map (λ n. nat_le n wanted.bitrate) (digits_up_to 9 text)
    else (if bytes_eq name (codes "systemCaptions")
    then option_map (λ on. same_test on wanted.captions) (on_off text)
    else (if bytes_eq name (codes "systemAudioDesc")
    then option_map (λ on. same_test on wanted.audio_desc) (on_off text)
    else (if bytes_eq name (codes "systemLanguage") then speaks_of wanted.language text
    else (if bytes_eq name (codes "systemScreenSize")
    then option_map (fits_screen wanted.screen) (screen_of text)
    else (if bytes_eq name (codes "systemScreenDepth")
    then option_map (λ n. nat_le n wanted.depth) (digits_up_to 3 text)
    else None)))))
