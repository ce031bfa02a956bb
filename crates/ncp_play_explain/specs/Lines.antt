-- What is wrong with the words of a line after the first.
use Rattle.std.specs.Prelude.{◌≡◌, ◌||◌, ◌&&◌, ◌⊎◌, ℕ, List, ◌++◌, drop, slice_get, Option, Some, None, is_some, MatchBool, MatchOption, Contains, bytes_eq, codes, nat_eq, if◌then◌else◌}
use Rattle.std.specs.List.{join_by, starts_with}
use Rattle.std.specs.Option.{option_map_or}
use Rattle.ncp_play_explain.specs.declared.usage.ScriptKind.{ScriptKind}
use Rattle.ncp_play_explain.specs.declared.usage.ScriptKind.TheVariants.{Host, Sides, Numbers}
use Rattle.ncp_play_explain.specs.Arguments.{arguments_printed, form_printed, number_in, with_form}
use Rattle.ncp_play_explain.specs.Hosts.{is_named, words_to_watch}
use Rattle.ncp_play_explain.specs.Printing.{words_of, PrintsNoVerb}
use Rattle.ncp_play_explain.specs.Verbs.{Verb, all_verb_words, verb_named}

-- `settle` with another word
abbrev pub settle_printed : List ℕ
settle_printed = codes "'settle' has a line of its own"

-- a verb of other scripts than this, or one that is alone on its line
abbrev pub other_verb_printed : ScriptKind → List ℕ → List ℕ
other_verb_printed Host verb = codes "'" ++ (verb ++ codes "' is a word of scripts of several hosts, which 'ncp world' plays")
other_verb_printed kind verb = if bytes_eq verb (codes "settle") then settle_printed else codes "'" ++ (verb ++ codes "' is a word of scripts of one host, which 'ncp host' plays")

-- a verb with these words after it
abbrev pub asked_printed : List (List ℕ) → Verb → List ℕ
asked_printed words verb =
    option_map_or (with_form (form_printed verb.0 verb.1)) (arguments_printed verb.1 words)
    (if bytes_eq verb.0 (codes "feed") then codes "'feed' needs a line feed after it, and then a message file" else codes "a host that it names is none of the first line's")

-- a verb of any script, in a script of this kind
abbrev pub verb_printed : ScriptKind → List ℕ → List (List ℕ) → List ℕ
verb_printed kind name words = option_map_or (asked_printed words) (verb_named kind name) (other_verb_printed kind name)

-- one text about a verb, and another about a word that is none
abbrev pub PrintsByVerb : List ℕ → Type 0 → Type 0 → Type 0
PrintsByVerb word of_verb of_other = (Contains all_verb_words word × of_verb) ⊎ (¬ (Contains all_verb_words word) × of_other)

-- what is wrong with the words after the side or the host
abbrev pub PrintsDeed : ScriptKind → List (List ℕ) → List ℕ → Type 0
PrintsDeed kind words printed =
    MatchOption (slice_get words 0) (printed ≡ codes "there is no verb after the side or the host")
    (λ verb. PrintsByVerb verb (printed ≡ verb_printed kind verb (drop 1 words)) (PrintsNoVerb verb printed))

-- a word that is no side
abbrev pub PrintsNoSide : List ℕ → List ℕ → Type 0
PrintsNoSide word printed =
    PrintsByVerb word (printed ≡ codes "the side is missing: a line begins with a or b, as in 'a " ++ (word ++ codes "'")) (printed ≡ codes "'" ++ (word ++ codes "' is no side: a line begins with a or b"))

-- what is wrong with a line that begins with this word, if sides name the two hosts
abbrev pub PrintsSide : List ℕ → List (List ℕ) → List ℕ → Type 0
PrintsSide side deed printed = MatchBool (bytes_eq side (codes "a") || bytes_eq side (codes "b")) (PrintsDeed Sides deed printed) (PrintsNoSide side printed)

-- the same if numbers name these hosts
abbrev pub PrintsHost : List (List ℕ) → List ℕ → List (List ℕ) → List ℕ → Type 0
PrintsHost hosts host deed printed =
    MatchBool (is_some (number_in 255 host) && is_named host hosts) (PrintsDeed Numbers deed printed)
    (printed ≡ codes "'" ++ (host ++ (codes "' is none of the hosts " ++ (join_by (λ one. one) (codes " ") hosts ++ codes ": a line begins with the number of one"))))

-- the hosts whose numbers begin later lines, if numbers do: the words after `many`, before the word `watch`
abbrev pub numbers_named : List ℕ → Option (List (List ℕ))
numbers_named first = if starts_with nat_eq first (codes "many ") then Some (words_to_watch (drop 1 (words_of first))) else None

-- what is wrong with a line of a script of several hosts, which numbers name, or sides
abbrev pub PrintsOfWorld : Option (List (List ℕ)) → List (List ℕ) → List ℕ → Type 0
PrintsOfWorld hosts words printed =
    MatchOption (slice_get words 0) (printed ≡ codes "the line is empty")
    (λ word. MatchBool (bytes_eq word (codes "settle")) (printed ≡ settle_printed) (MatchOption hosts (PrintsSide word (drop 1 words) printed) (λ named. PrintsHost named word (drop 1 words) printed)))
