-- The number of an argument, from the matches and from their rows.
use Rattle.std.proofs.Common.{◌≡◌, ◌&&◌, ℕ, Bool, true, false, List, [], ◌∷◌, length, map, Option, Some, None, Result, Ok, Err, refl, ap, nat_lt, lt-ltb, ltb-true}
use Rattle.std.specs.Prelude.{find, option_map, option_and_then, slice_get, unwrap_or}
use Rattle.std.specs.Char.{digit_value}
use Rattle.std.specs.List.{list_all}
use Rattle.std.specs.Str.{bytes_eq}
use Rattle.std.specs.Str.Parse.{AllDigits, ParsesUnsigned, digits_value, without_leading_plus}
use Rattle.std.specs.Borrow.{Bor}
use Rattle.clap.specs.Facts.{Entry}
use Rattle.clap.specs.Matches.{ReadsOne, one_text}
use Rattle.clap.specs.Values.{read_as}
use Rattle.clap.specs.Walk.{Text, byte_or_zero, one_of, row_of, row_text, rows_of, texts}
use Rattle.clap.specs.declared.builder.value_parser.Reading.{Reading}
use Rattle.clap.specs.declared.parser.matches.Found.{Found}
use Rattle.clap.specs.declared.parser.matches.MatchedArg.{MatchedArg}
use Rattle.clap.proofs.WalkLemmas.{both, byte_read}
use Rattle.ncp_play_command_line.specs.CommandLine.{number_read}

abbrev text_of : MatchedArg → Option Text
text_of a = option_map (λ s. read_as a.reading s.now) (slice_get a.vals.items 0)

first_text : (how : Reading) (values : List (Bor Text)) → option_map (read_as how) (slice_get (texts values) 0) ≡ option_map (λ s. read_as how s.now) (slice_get values 0)
first_text how [] = refl
first_text how (v ∷ vs) = refl

text_in : (id : Text) (entries : List Entry)
    → option_and_then row_text (find (λ r. bytes_eq r.id id) (map row_of entries)) ≡ option_and_then text_of (option_map (λ e. e.1) (find (λ e. bytes_eq e.0.now id) entries))
text_in id [] = refl
text_in id (e ∷ es) = go (text_in id es) (bytes_eq e.0.now id) refl
  where
    go : option_and_then row_text (find (λ r. bytes_eq r.id id) (map row_of es)) ≡ option_and_then text_of (option_map (λ e. e.1) (find (λ e. bytes_eq e.0.now id) es))
        → (b : Bool) → bytes_eq e.0.now id ≡ b
        → option_and_then row_text (find (λ r. bytes_eq r.id id) (map row_of (e ∷ es))) ≡ option_and_then text_of (option_map (λ e. e.1) (find (λ e. bytes_eq e.0.now id) (e ∷ es)))
    go rest true t = rw t (first_text e.1.reading e.1.vals.items)
    go rest false t = rw t rest

-- the rows have the text of the matches
pub same_text_read : (f : Found) (id : Text) → one_of id (rows_of f) ≡ one_text f id
same_text_read f id = text_in id f.entries.items

-- a parsed one-byte number is that of its text; without one it is 0
pub byte_of_read : {E : Type 0} (gives : Text → Result ℕ E → Type 0) (text : Text) (read : Option ℕ)
    → ((t : Text) (r : Result ℕ E) → gives t r → ParsesUnsigned 8 10 t r) → ReadsOne gives text read → unwrap_or read 0 ≡ byte_or_zero text
byte_of_read {E} gives text (Some n) parses h = byte_read {E = E} text (Ok n) (parses text (Ok n) h)
byte_of_read {E} gives text None parses h = byte_read {E = E} text (Err h.0) (parses text (Err h.0) h.1)

-- ---- a number of 16 bits

digits_pass : (ds : List ℕ) → AllDigits 10 ds → list_all (λ d. nat_lt (digit_value d) 10) ds ≡ true
digits_pass [] h = refl
digits_pass (d ∷ ds) h = rw (lt-ltb (digit_value d) 10 h.0) (digits_pass ds h.1)

digits_from : (ds : List ℕ) → list_all (λ d. nat_lt (digit_value d) 10) ds ≡ true → AllDigits 10 ds
digits_from [] e = tt
digits_from (d ∷ ds) e =
    let parts = both _ _ e in
    (ltb-true _ _ parts.0, digits_from ds parts.1)

abbrev is_number : List ℕ → Bool
is_number ds = nat_lt 0 (length ds) && list_all (λ d. nat_lt (digit_value d) 10) ds && nat_lt (digits_value 10 ds) 65536

-- a parsed number is that of its text; without one the text has none
pub number_of_read : {E : Type 0} (gives : Text → Result ℕ E → Type 0) (text : Text) (read : Option ℕ)
    → ((t : Text) (r : Result ℕ E) → gives t r → ParsesUnsigned 16 10 t r) → ReadsOne gives text read → read ≡ number_read text
number_of_read {E} gives text (Some n) parses given =
    let ds = without_leading_plus text in
    let h = parses text (Ok n) given in
    rw (lt-ltb 0 (length ds) h.0.0.0, digits_pass ds h.0.0.1, lt-ltb (digits_value 10 ds) 65536 h.0.1) (ap Some h.1)
number_of_read {E} gives text None parses given = go (is_number (without_leading_plus text)) refl
  where
    go : (b : Bool) → is_number (without_leading_plus text) ≡ b → None ≡ number_read text
    go false t = rw t refl
    go true t =
        let outer = both _ _ t in
        let inner = both _ _ outer.0 in
        absurd (parses text (Err given.0) given.1 ((ltb-true _ _ inner.0, digits_from (without_leading_plus text) inner.1), ltb-true _ _ outer.1))
