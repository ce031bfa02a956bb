-- The explanation of words that name nothing.
use Rattle.std.specs.Prelude.{◌≡◌, ◌==◌, ◌||◌, ◌⊎◌, Bool, ℕ, List, [], ◌∷◌, ◌++◌, codes, nat_eq}
use Rattle.std.specs.List.{before_first, slice_split, starts_with}
use Rattle.ncp_play_explain.specs.declared.usage.Player.{Player}
use Rattle.ncp_play_explain.specs.declared.usage.Player.TheVariants.{Host, World}
use Rattle.ncp_play_explain.specs.Near.{NoneIsNear, IsNearest}
use Rattle.ncp_play_explain.specs.Verbs.{all_verb_words}

-- the words of a line, and the first of them
abbrev pub words_of : List ℕ → List (List ℕ)
words_of line = slice_split (λ byte. byte == 32) line

abbrev pub first_word : List ℕ → List ℕ
first_word line = before_first (λ byte. byte == 32) line

-- bytes of a message file, and their explanation
abbrev pub is_message_file : List ℕ → Bool
is_message_file first = starts_with nat_eq first (codes "NCPH") || starts_with nat_eq first (codes "NCPI") || starts_with nat_eq first (codes "NCPJ")

abbrev pub message_file_printed : List ℕ
message_file_printed = codes "this is a message file and no script: ncp show shows it"

-- bytes that begin with a byte order mark, and their explanation
abbrev pub has_mark : List ℕ → Bool
has_mark first = starts_with nat_eq first (0xEF ∷ 0xBB ∷ 0xBF ∷ [])

abbrev pub mark_printed : List ℕ
mark_printed = codes "a byte order mark (ef bb bf) is in front of the first line"

-- one text with the nearest word, if a word of these is near, and another if none is
abbrev pub PrintsNear : List ℕ → List (List ℕ) → (List ℕ → List ℕ) → List ℕ → List ℕ → Type 0
PrintsNear word known near_printed far_reported printed =
    ((near : List ℕ) × IsNearest word known near × (printed ≡ near_printed near)) ⊎ (NoneIsNear 2 word known × (printed ≡ far_reported))

-- a word that is no verb
abbrev pub no_verb : List ℕ → List ℕ
no_verb word = codes "'" ++ word ++ codes "' is no verb"

abbrev pub PrintsNoVerb : List ℕ → List ℕ → Type 0
PrintsNoVerb word printed = PrintsNear word all_verb_words (λ near. no_verb word ++ codes "; did you mean '" ++ near ++ codes "'?") (no_verb word) printed

-- the words that first lines begin with
abbrev pub heads : List (List ℕ)
heads = codes "hosts" ∷ codes "many" ∷ codes "host" ∷ []

-- the required form of the first line
abbrev pub first_line_wanted : Player → List ℕ
first_line_wanted Host = codes "the first line names the host and its peers, as 'host 1 2'"
first_line_wanted World = codes "the first line names the hosts, as 'hosts 1 2' or 'many 1 2 3'"

-- a first line that begins with another word
abbrev pub PrintsNoHead : Player → List ℕ → List ℕ → Type 0
PrintsNoHead player head printed =
    PrintsNear head heads (λ near. first_line_wanted player ++ codes "; '" ++ head ++ codes "' is no such word; did you mean '" ++ near ++ codes "'?")
    (first_line_wanted player ++ codes ", and here it begins with '" ++ head ++ codes "'") printed
