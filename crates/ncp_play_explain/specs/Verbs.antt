-- The verbs of scripts, with their arguments.
use Rattle.std.specs.Prelude.{ℕ, List, [], ◌∷◌, ◌++◌, map, Option, Some, None, bytes_eq, codes, option_map, option_to_list}
use Rattle.std.specs.Borrow.{Bor}
use Rattle.std.specs.List.{find}
use Rattle.std.specs.Option.{option_or}
use Rattle.ncp_play_explain.specs.declared.line.Form.{Form}
use Rattle.ncp_play_explain.specs.declared.usage.Argument.{Argument}
use Rattle.ncp_play_explain.specs.declared.usage.ScriptKind.{ScriptKind}
use Rattle.ncp_play_explain.specs.declared.usage.ScriptKind.TheVariants.{Host, Sides, Numbers}
use Rattle.ncp_play_explain.specs.Arguments.{AskedArgument, asked_argument}

-- a verb and its arguments
abbrev pub Verb : Type 0
Verb = List ℕ × List AskedArgument

abbrev pub verbs_of : List (Bor (List ℕ) × Bor (List Argument)) → List Verb
verbs_of usages = map (λ usage. (usage.0.now, map asked_argument usage.1.now)) usages

abbrev pub verb_with : Form → Verb
verb_with form = (form.usage.now.0.now, map asked_argument (option_to_list form.leading ++ form.usage.now.1.now))

-- numbers of one byte and of four, and bits
abbrev pub byte : List ℕ → AskedArgument
byte name = (name, Some 255)

abbrev pub long : List ℕ → AskedArgument
long name = (name, Some 4294967295)

abbrev pub bits : AskedArgument
bits = (codes "BITS", None)

-- the two sockets of a connection
abbrev pub socket_arguments : List AskedArgument
socket_arguments = long (codes "LOCAL") ∷ long (codes "REMOTE") ∷ []

-- the arguments of a sender to watch among hosts that numbers name: its host, its peer and its sockets
abbrev pub sender_arguments : List AskedArgument
sender_arguments = byte (codes "H") ∷ byte (codes "P") ∷ socket_arguments

-- the calls of a host, without the peer
abbrev pub call_verbs : List Verb
call_verbs =
    (codes "reset", []) ∷ (codes "wake", []) ∷ (codes "phase", []) ∷ (codes "echoed", []) ∷ (codes "errors", []) ∷ (codes "counts", [])
    ∷ (codes "echo", byte (codes "BYTE") ∷ [])
    ∷ (codes "interrupt", socket_arguments) ∷ (codes "close", socket_arguments) ∷ (codes "state", socket_arguments)
    ∷ (codes "ask-send", socket_arguments ++ byte (codes "SIZE") ∷ long (codes "ROOM") ∷ [])
    ∷ (codes "ask-receive", socket_arguments ++ long (codes "ROOM") ∷ [])
    ∷ (codes "give", socket_arguments ++ bits ∷ [])
    ∷ (codes "take", socket_arguments ++ long (codes "BYTES") ∷ [])
    ∷ (codes "allocate", socket_arguments ++ (codes "MESSAGES", Some 65535) ∷ long (codes "BITS") ∷ [])
    ∷ (codes "call-back", socket_arguments ++ byte (codes "FM") ∷ byte (codes "FB") ∷ [])
    ∷ []

-- requests to a host that name no peer
abbrev pub plain : List Verb
plain = (codes "ignored", []) ∷ (codes "out", []) ∷ []

-- the other verbs of a script of one host
abbrev pub of_one_host : List Verb
of_one_host = (codes "in", bits ∷ []) ∷ (codes "feed", []) ∷ (codes "restart", byte (codes "PEER") ∷ []) ∷ []

-- the moves of the subnet, without the destination
abbrev pub of_the_subnet : List Verb
of_the_subnet = (codes "deliver", byte (codes "LINK") ∷ []) ∷ (codes "lose", byte (codes "LINK") ∷ []) ∷ (codes "dead", byte (codes "LINK") ∷ []) ∷ (codes "answer", byte (codes "LINK") ∷ []) ∷ []

-- all words of verbs; the last stands alone on a line of several hosts
abbrev pub all_verb_words : List (List ℕ)
all_verb_words = map (λ verb. verb.0) (call_verbs ++ plain ++ of_one_host ++ of_the_subnet) ++ codes "settle" ∷ []

-- the verb of this name, if it is one of these, with these arguments in front
abbrev pub verb_in : List AskedArgument → List Verb → List ℕ → Option Verb
verb_in leading verbs name = option_map (λ verb. (verb.0, leading ++ verb.1)) (find (λ verb. bytes_eq verb.0 name) verbs)

-- the same in a script where the calls have `peer` in front, and the `others` have `to`
abbrev pub verb_among_others : List AskedArgument → List Verb → List AskedArgument → List ℕ → Option Verb
verb_among_others peer others to name = option_or (verb_in [] plain name) (option_or (verb_in peer call_verbs name) (verb_in to others name))

abbrev pub verb_named : ScriptKind → List ℕ → Option Verb
verb_named Host name = verb_among_others (byte (codes "PEER") ∷ []) of_one_host [] name
verb_named Sides name = verb_among_others [] of_the_subnet [] name
verb_named Numbers name = verb_among_others (byte (codes "PEER") ∷ []) of_the_subnet (byte (codes "TO") ∷ []) name
