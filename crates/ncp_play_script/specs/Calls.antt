-- The calls of a script, by the words of a line (this profile), in order: the word that names the call,
-- its peer if none is given, its pair if it has one, and its arguments.
use Rattle.std.specs.Prelude.{◌≡◌, ℕ, List, [], ◌∷◌, Option, Some, None}
use Rattle.ncp_model.specs.declared.pair.Pair.{Pair}
use Rattle.ncp_transcript.specs.declared.call.Call.{Call}
use Rattle.ncp_transcript.specs.declared.call.Call.TheVariants as calls
use Rattle.ncp_play_script.specs.declared.verbs.Verb.{Verb}
use Rattle.ncp_play_script.specs.declared.verbs.Verb.TheVariants as verbs
use Rattle.ncp_play_script.specs.Words.{number_first, largest_u8, largest_u16, largest_u32}
use Rattle.ncp_play_script.specs.BitStrings.{bits_first}
use Rattle.ncp_play_script.specs.Verbs.{verb_of}
use Rattle.ncp_play_script.specs.Arguments.{peer_first, pair_first}

-- the value of the first words, and the words after them
abbrev pub Read : Type 0 → Type 0
Read A = Option (A × List (List ℕ))

-- one value, then another from the words after it
abbrev pub behind : {A B : Type 0} → Read A → (A → List (List ℕ) → Read B) → Read B
behind None next = None
behind (Some (first, words)) next = next first words

-- the value of all words: none is left
abbrev pub all_of : {A : Type 0} → Read A → Option A
all_of None = None
all_of (Some (it, [])) = Some it
all_of (Some (it, word ∷ words)) = None

-- a call on a pair, whose arguments are read
abbrev pub pair_call : Verb → ℕ → Pair → List (List ℕ) → Read Call
pair_call verbs.AskSend peer pair words =
    behind (number_first largest_u8 words) (λ size words. behind (number_first largest_u32 words) (λ room words. Some (calls.AskSend peer pair.local pair.remote size room, words)))
pair_call verbs.AskReceive peer pair words = behind (number_first largest_u32 words) (λ room words. Some (calls.AskReceive peer pair.local pair.remote room, words))
pair_call verbs.Give peer pair words = behind (bits_first words) (λ text words. Some (calls.Give peer pair text, words))
pair_call verbs.Take peer pair words = behind (number_first largest_u32 words) (λ bytes words. Some (calls.Take peer pair bytes, words))
pair_call verbs.Allocate peer pair words =
    behind (number_first largest_u16 words) (λ messages words. behind (number_first largest_u32 words) (λ bits words. Some (calls.Allocate peer pair messages bits, words)))
pair_call verbs.CallBack peer pair words =
    behind (number_first largest_u8 words) (λ fm words. behind (number_first largest_u8 words) (λ fb words. Some (calls.CallBack peer pair fm fb, words)))
pair_call verbs.Interrupt peer pair words = Some (calls.Interrupt peer pair, words)
pair_call verbs.Close peer pair words = Some (calls.Close peer pair, words)
pair_call verbs.State peer pair words = Some (calls.State peer pair, words)
pair_call other peer pair words = None

-- a call to a peer, whose pair and arguments are read
abbrev pub peer_call : Verb → ℕ → List (List ℕ) → Read Call
peer_call verbs.Reset peer words = Some (calls.Reset peer, words)
peer_call verbs.Echo peer words = behind (number_first largest_u8 words) (λ byte words. Some (calls.Echo peer byte, words))
peer_call verbs.Wake peer words = Some (calls.Wake peer, words)
peer_call verbs.Phase peer words = Some (calls.Phase peer, words)
peer_call verbs.Echoed peer words = Some (calls.Echoed peer, words)
peer_call verbs.Errors peer words = Some (calls.Errors peer, words)
peer_call verbs.Counts peer words = Some (calls.Counts peer, words)
peer_call verb peer words = behind (pair_first words) (pair_call verb peer)

-- the call of a verb with the words after it; `ignored` has no peer
abbrev pub verb_call : Option ℕ → Verb → List (List ℕ) → Read Call
verb_call given verbs.Ignored words = Some (calls.Ignored, words)
verb_call given verb words = behind (peer_first given words) (peer_call verb)

-- the call that a word names, if any
abbrev pub named_call : Option ℕ → Option Verb → List (List ℕ) → Read Call
named_call given None words = None
named_call given (Some verb) words = verb_call given verb words

-- the call in all of the words; if the peer is given, no word is read for it
abbrev pub call_of : Option ℕ → List (List ℕ) → Option Call
call_of given [] = None
call_of given (word ∷ words) = all_of (named_call given (verb_of word) words)

-- ---- what memory is allocated for: the text of a `give`, and nothing else

-- the first word is `give`
abbrev pub NamesGive : List (List ℕ) → Type 0
NamesGive [] = ⊥
NamesGive (word ∷ words) = verb_of word ≡ Some verbs.Give

-- the second word is `give`, after a side or a host
abbrev pub NamesGiveAfter : List (List ℕ) → Type 0
NamesGiveAfter [] = ⊥
NamesGiveAfter (first ∷ words) = NamesGive words
