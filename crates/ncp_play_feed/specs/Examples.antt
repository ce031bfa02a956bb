-- A worked feed.
use Rattle.std.specs.Prelude.{ℕ, Bool, List, [], ◌∷◌, ◌++◌, codes}
use Rattle.ncp_numbers.specs.Bytes.{bits_of_bytes}

-- RST in a message from host 2, and an RFNM from host 2
abbrev pub rst_message : List Bool
rst_message = bits_of_bytes (0 ∷ 2 ∷ 0 ∷ 0 ∷ 0 ∷ 8 ∷ 0 ∷ 1 ∷ 0 ∷ 12 ∷ [])

abbrev pub rfnm_from_2 : List Bool
rfnm_from_2 = bits_of_bytes (5 ∷ 2 ∷ 0 ∷ 0 ∷ [])

abbrev pub first_feed : List ℕ
first_feed = codes "NCPI" ++ 0 ∷ 80 ∷ 0 ∷ 2 ∷ 0 ∷ 0 ∷ 0 ∷ 8 ∷ 0 ∷ 1 ∷ 0 ∷ 12 ∷ 0 ∷ 32 ∷ 5 ∷ 2 ∷ 0 ∷ 0 ∷ []
