-- A byte in two hexadecimal digits.
use Rattle.std.specs.Prelude.{ℕ, ◌/◌, ◌%◌, List, [], ◌∷◌, false}
use Rattle.std.specs.Fmt.{digit_glyph}

abbrev pub hex_glyphs : ℕ → List ℕ
hex_glyphs byte = digit_glyph false (byte / 16) ∷ digit_glyph false (byte % 16) ∷ []
