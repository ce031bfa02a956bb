-- The words of a line of a script, and numbers in words (this profile).
use Rattle.std.specs.Prelude.{ℕ, ◌+◌, ◌*◌, ◌-◌, ◌^◌, ◌==◌, ◌&&◌, nat_lt, nat_le, Bool, true, false, List, [], ◌∷◌, length, Option, Some, None, option_map, if◌then◌else◌}
use Rattle.std.specs.List.{slice_split}
use Rattle.std.specs.Str.{all_ascii_digits, bytes_eq}
use Rattle.ncp_play_script.specs.declared.numbers.TheConstants.{MAX_DIGITS}
use Rattle.ncp_play_script.specs.declared.line_words.TheConstants.{SPACE}

-- the parts of a line between spaces: two spaces in a row, or one at an end, make an empty word
abbrev pub words_of : List ℕ → List (List ℕ)
words_of line = slice_split (λ byte. byte == SPACE) line

-- the words of the rest of a line, none after all of it was read
abbrev pub words_left : Option (List ℕ) → List (List ℕ)
words_left None = []
words_left (Some rest) = words_of rest

-- exactly this word is left
abbrev pub is_only : List ℕ → List (List ℕ) → Bool
is_only wanted [] = false
is_only wanted (word ∷ []) = bytes_eq wanted word
is_only wanted (word ∷ next ∷ words) = false

-- no word is left, or this one is the next
abbrev pub ends_at : List ℕ → List (List ℕ) → Bool
ends_at wanted [] = true
ends_at wanted (word ∷ words) = bytes_eq wanted word

-- the number spelled by the digits of a number followed by these digits, the most significant first
abbrev pub value_after : ℕ → List ℕ → ℕ
value_after number [] = number
value_after number (digit ∷ digits) = value_after (10 * number + (digit - 48)) digits

-- one to ten decimal digits, whose number is at most `most`
abbrev pub is_number : ℕ → List ℕ → Bool
is_number most word = (nat_lt 0 (length word) && nat_le (length word) MAX_DIGITS) && (all_ascii_digits word && nat_le (value_after 0 word) most)

abbrev pub number_of_word : ℕ → List ℕ → Option ℕ
number_of_word most word = if is_number most word then Some (value_after 0 word) else None

-- the number in the first word, and the words after it
abbrev pub number_first : ℕ → List (List ℕ) → Option (ℕ × List (List ℕ))
number_first most [] = None
number_first most (word ∷ words) = option_map (λ number. (number, words)) (number_of_word most word)

-- the largest numbers of an argument of 8, of 16 and of 32 bits
abbrev pub largest_u8 : ℕ
largest_u8 = 2 ^ 8 - 1

abbrev pub largest_u16 : ℕ
largest_u16 = 2 ^ 16 - 1

abbrev pub largest_u32 : ℕ
largest_u32 = 2 ^ 32 - 1
