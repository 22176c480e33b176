-- The session of a number: a seq of so many images, beside each a text,
-- and for each a second of time and a click.
use Rattle.std.specs.Prelude.{ℕ, zero, suc, ◌+◌, ◌%◌, List, [], ◌++◌, codes, decimal}
use Rattle.smil_gen.specs.declared.session.Part.{Part}
use Rattle.smil_gen.specs.declared.session.Part.TheVariants.{Images, Texts, Orders}

-- an image that lasts one to four seconds, or until it is clicked
abbrev pub image_line : ℕ → List ℕ
image_line k =
    codes "    img id=\"p" ++ decimal k ++ codes "\" dur=\"" ++ decimal (1 + k % 4)
    ++ codes "s\" end=\"click\"\n"

-- a text from half a second after the image's begin on
abbrev pub text_line : ℕ → List ℕ
text_line k =
    codes "    text id=\"c" ++ decimal k ++ codes "\" begin=\"p" ++ decimal k
    ++ codes ".begin+500ms\" dur=\"1s\"\n"

-- a second passes, and the image is clicked
abbrev pub order_lines : ℕ → List ℕ
order_lines k = codes "g advance 1s\ng event p" ++ decimal k ++ codes " click\n"

abbrev pub part_lines : Part → ℕ → List ℕ
part_lines Images k = image_line k
part_lines Texts k = text_line k
part_lines Orders k = order_lines k

-- the lines of a part from the first to the last number
abbrev pub lines_to : Part → ℕ → List ℕ
lines_to part zero = []
lines_to part (suc k) = lines_to part k ++ part_lines part (suc k)

abbrev pub session_text : ℕ → List ℕ
session_text count =
    codes "load g\npar id=\"r\"\n  seq id=\"s\"\n" ++ lines_to Images count
    ++ codes "  par id=\"t\"\n" ++ lines_to Texts count
    ++ codes "%%\n" ++ lines_to Orders count ++ codes "g show\n"
