-- What is wrong with the arguments of a line: numbers and bits.
use Rattle.std.specs.Prelude.{◌==◌, ◌&&◌, ◌||◌, ◌+◌, ◌-◌, ◌*◌, ◌/◌, ◌%◌, ◌^◌, Bool, not, ℕ, List, [], ◌∷◌, ◌++◌, length, drop, flat_map, slice_get, Option, None, Some, is_some, option_map, codes, decimal, nat_eq, nat_le, nat_lt, if◌then◌else◌}
use Rattle.std.specs.Char.{is_ascii_digit, is_ascii_hexdigit}
use Rattle.std.specs.List.{list_all}
use Rattle.std.specs.Option.{option_eq, option_or, option_map_or}
use Rattle.std.specs.Str.Parse.{digits_value}
use Rattle.ncp_play_explain.specs.declared.usage.Argument.{Argument}
use Rattle.ncp_play_explain.specs.declared.usage.Argument.TheVariants.{Number, Bits}

-- an argument by its name and its greatest value; bits have none
abbrev pub AskedArgument : Type 0
AskedArgument = List ℕ × Option ℕ

abbrev pub asked_argument : Argument → AskedArgument
asked_argument (Number name most) = (name.now, Some most)
asked_argument Bits = (codes "BITS", None)

-- a number of scripts: one to ten decimal digits
abbrev pub has_digits : List ℕ → Bool
has_digits word = nat_lt 0 (length word) && nat_le (length word) 10 && list_all is_ascii_digit word

-- the number in a word, if it is at most `most`
abbrev pub number_in : ℕ → List ℕ → Option ℕ
number_in most word = if has_digits word && nat_le (digits_value 10 word) most then Some (digits_value 10 word) else None

-- what is wrong with a word that has to be such a number, if anything
abbrev pub number_printed : List ℕ → ℕ → List ℕ → Option (List ℕ)
number_printed name most word =
    if is_some (number_in most word) then None
    else if has_digits word then Some (name ++ (codes " is " ++ (word ++ (codes ", and is at most " ++ decimal most))))
    else Some (name ++ (codes " is '" ++ (word ++ (codes "', and has to be a number from 0 to " ++ (decimal most ++ codes " in decimal digits")))))

-- the number of hexadecimal digits of `bits` bits: two for each byte
abbrev pub digits_needed : ℕ → ℕ
digits_needed bits = (bits + 7) / 8 * 2

-- the bits of the last byte that are left over
abbrev pub bits_spare : ℕ → ℕ
bits_spare bits = (8 - bits % 8) % 8

-- whether one of the last `spare` bits is set in the last byte
abbrev pub has_spare_bit : ℕ → List ℕ → Bool
has_spare_bit spare digits = not (digits_value 16 (drop (length digits - 2) digits) % 2 ^ spare == 0)

-- what is wrong with the digits of `bits` bits, if anything
abbrev pub digits_printed : ℕ → List ℕ → Option (List ℕ)
digits_printed bits digits =
    if not (list_all is_ascii_hexdigit digits) then Some (codes "'" ++ (digits ++ codes "' is not hexadecimal"))
    else if not (length digits == digits_needed bits) then Some (decimal bits ++ (codes " bits are " ++ (decimal (digits_needed bits) ++ (codes " hexadecimal digits, and here are " ++ decimal (length digits)))))
    else if has_spare_bit (bits_spare bits) digits then Some (codes "the last " ++ (decimal (bits_spare bits) ++ (codes " bits of '" ++ (digits ++ codes "' are spare, and have to be zero"))))
    else None

-- what is wrong with the word after the number `bits`, if anything: their digits, or none
abbrev pub after_bits_printed : ℕ → Option (List ℕ) → Option (List ℕ)
after_bits_printed bits None =
    if bits == 0 then None else Some (decimal bits ++ (codes " bits need " ++ (decimal (digits_needed bits) ++ codes " hexadecimal digits after them")))
after_bits_printed bits (Some digits) =
    if bits == 0 then Some (codes "0 bits have no digits, and here is '" ++ (digits ++ codes "'")) else digits_printed bits digits

-- what is wrong with bits, if anything: their number, at most 8192, and the word after it
abbrev pub bits_printed : List ℕ → Option (List ℕ) → Option (List ℕ)
bits_printed number digits = option_map_or (λ bits. after_bits_printed bits digits) (number_in 8192 number) (number_printed (codes "BITS") 8192 number)

-- what is wrong with an argument in this word, if anything; bits take the next word too
abbrev pub argument_printed : AskedArgument → Option (List ℕ) → Option (List ℕ) → Option (List ℕ)
argument_printed argument None next = Some (argument.0 ++ codes " is missing")
argument_printed argument (Some word) next = option_map_or (λ most. number_printed argument.0 most word) argument.1 (bits_printed word next)

-- how many words an argument takes: one, and bits two, if there are any
abbrev pub words_taken : AskedArgument → Option (List ℕ) → ℕ
words_taken argument None = 1
words_taken argument (Some word) = if is_some argument.1 || option_eq nat_eq (number_in 8192 word) (Some 0) then 1 else 2

-- what is wrong with these arguments, if anything: the first that is wrong, or the first word after them
abbrev pub arguments_printed : List AskedArgument → List (List ℕ) → Option (List ℕ)
arguments_printed [] words = option_map (λ word. codes "'" ++ (word ++ codes "' is one word too many")) (slice_get words 0)
arguments_printed (argument ∷ more) words =
    option_or (argument_printed argument (slice_get words 0) (slice_get words 1)) (arguments_printed more (drop (words_taken argument (slice_get words 0)) words))

-- the form of a verb, with its arguments
abbrev pub argument_form : AskedArgument → List ℕ
argument_form argument = if is_some argument.1 then codes " " ++ argument.0 else codes " BITS HEX"

abbrev pub form_printed : List ℕ → List AskedArgument → List ℕ
form_printed verb arguments = verb ++ flat_map argument_form arguments

-- an explanation, followed by the form of the line
abbrev pub with_form : List ℕ → List ℕ → List ℕ
with_form form wrong = wrong ++ (codes ": " ++ form)
