-- The word after a subcommand, from the matches and from their rows.
use Rattle.std.proofs.Common.{◌≡◌, Bool, true, false, List, [], ◌∷◌, map, Option, refl}
use Rattle.std.specs.Prelude.{find, option_map, option_and_then, slice_get}
use Rattle.std.specs.Str.{bytes_eq}
use Rattle.std.specs.Borrow.{Bor}
use Rattle.clap.specs.Facts.{Entry}
use Rattle.clap.specs.Matches.{first_value}
use Rattle.clap.specs.Walk.{Row, Text, first_of, row_of, rows_of, texts}
use Rattle.clap.specs.declared.parser.matches.Found.{Found}
use Rattle.clap.specs.declared.parser.matches.MatchedArg.{MatchedArg}

abbrev first_row : Row → Option Text
first_row r = slice_get r.values 0

abbrev first_found : MatchedArg → Option Text
first_found a = option_map (λ s. s.now) (slice_get a.vals.items 0)

first_text : (values : List (Bor Text)) → slice_get (texts values) 0 ≡ option_map (λ s. s.now) (slice_get values 0)
first_text [] = refl
first_text (v ∷ vs) = refl

first_in : (id : Text) (entries : List Entry)
    → option_and_then first_row (find (λ r. bytes_eq r.id id) (map row_of entries)) ≡ option_and_then first_found (option_map (λ e. e.1) (find (λ e. bytes_eq e.0.now id) entries))
first_in id [] = refl
first_in id (e ∷ es) = go (first_in id es) (bytes_eq e.0.now id) refl
  where
    go : option_and_then first_row (find (λ r. bytes_eq r.id id) (map row_of es)) ≡ option_and_then first_found (option_map (λ e. e.1) (find (λ e. bytes_eq e.0.now id) es))
        → (b : Bool) → bytes_eq e.0.now id ≡ b
        → option_and_then first_row (find (λ r. bytes_eq r.id id) (map row_of (e ∷ es))) ≡ option_and_then first_found (option_map (λ e. e.1) (find (λ e. bytes_eq e.0.now id) (e ∷ es)))
    go rest true t = rw t (first_text e.1.vals.items)
    go rest false t = rw t rest

-- the rows have the first value of the matches
pub same_first : (f : Found) (id : Text) → first_of id (rows_of f) ≡ first_value f id
same_first f id = first_in id f.entries.items
