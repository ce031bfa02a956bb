-- The spelling of a line: its characters and its spaces.
use Rattle.std.specs.Prelude.{◌≡◌, ◌==◌, ◌||◌, ◌⊎◌, ◌+◌, Bool, true, false, MatchBool, ℕ, List, [], ◌∷◌, ◌++◌, Option, None, Some, codes, decimal, nat_eq, if◌then◌else◌}
use Rattle.std.specs.List.{starts_with, ends_with}
use Rattle.std.specs.Char.{is_ascii_graphic}
use Rattle.std.specs.Str.Iter.{HasSubslice}
use Rattle.ncp_play_explain.specs.Bytes.{hex_glyphs}

-- the characters of a line: graphic ASCII, and the space
abbrev pub is_sign : ℕ → Bool
is_sign byte = is_ascii_graphic byte || byte == 32

-- a byte as any terminal can show it: a character of a line as itself, and any other by its number
abbrev pub spelled : ℕ → List ℕ
spelled byte = if is_sign byte then byte ∷ [] else codes "\\x" ++ hex_glyphs byte

-- the first byte that is no character of a line, with its position, if the first byte is at `place`
abbrev pub strange_from : ℕ → List ℕ → Option (ℕ × ℕ)
strange_from place [] = None
strange_from place (byte ∷ rest) = if is_sign byte then strange_from (place + 1) rest else Some (place, byte)

-- the first byte that is no character of a line, with its position, counted from 1
abbrev pub strange_byte : List ℕ → Option (ℕ × ℕ)
strange_byte line = strange_from 1 line

-- the explanation of such a byte
abbrev pub byte_printed : ℕ → ℕ → List ℕ
byte_printed place byte =
    if byte == 9 then codes "a tab, at byte " ++ decimal place ++ codes "; words stand one space apart"
    else if byte == 13 then codes "a carriage return, at byte " ++ decimal place ++ codes ", with no line feed after it"
    else codes "byte " ++ decimal place ++ codes " is " ++ hex_glyphs byte ++ codes ", which is no letter, digit or sign of ASCII"

-- two spaces in a row, or one at the end
abbrev pub HasGap : List ℕ → Type 0
HasGap line = HasSubslice line (codes "  ") ⊎ (ends_with nat_eq line (codes " ") ≡ true)

-- a line with one space between words, and no remark after them
pub record IsWellSpaced (line : List ℕ) : Type 0 where
  pub front : starts_with nat_eq line (codes " ") ≡ false
  pub remark : ¬ (HasSubslice line (codes " #"))
  pub gap : ¬ (HasGap line)

-- the explanation of wrong spaces: of the first of these that a line has
abbrev pub PrintsSpaces : List ℕ → List ℕ → Type 0
PrintsSpaces line printed =
    MatchBool (starts_with nat_eq line (codes " ")) (printed ≡ codes "a space in front; a line begins with its first word, and a remark with #")
    ((HasSubslice line (codes " #") × (printed ≡ codes "a remark after a line; a remark has a line of its own"))
    ⊎ (¬ (HasSubslice line (codes " #")) × HasGap line × (printed ≡ codes "two spaces in a row, or one at the end; words stand one space apart")))

-- such a line without strange bytes
pub record IsWellSpelled (line : List ℕ) : Type 0 where
  pub signs : strange_byte line ≡ None
  pub spaces : IsWellSpaced line
