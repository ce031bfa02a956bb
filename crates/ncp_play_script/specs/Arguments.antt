-- The arguments of calls in a script (this profile).
use Rattle.std.specs.Prelude.{ℕ, List, Option, Some, None, option_map}
use Rattle.ncp_model.specs.declared.pair.Pair.{Pair}
use Rattle.ncp_play_script.specs.Words.{number_first, largest_u8, largest_u32}

-- the given peer (in a script of two hosts), or the number in the first word; and the words after it
abbrev pub peer_first : Option ℕ → List (List ℕ) → Option (ℕ × List (List ℕ))
peer_first (Some peer) words = Some (peer, words)
peer_first None words = number_first largest_u8 words

-- the remote socket, after the local one
abbrev pub remote_after : Option (ℕ × List (List ℕ)) → Option (Pair × List (List ℕ))
remote_after None = None
remote_after (Some (local, words)) = option_map (λ found. (record { local = local; remote = found.0 }, found.1)) (number_first largest_u32 words)

-- the local and the remote socket, in two words, and the words after them
abbrev pub pair_first : List (List ℕ) → Option (Pair × List (List ℕ))
pair_first words = remote_after (number_first largest_u32 words)
