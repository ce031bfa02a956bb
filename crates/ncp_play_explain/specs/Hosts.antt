-- What is wrong with the hosts of a first line.
use Rattle.std.specs.Prelude.{◌||◌, ◌&&◌, ◌-◌, ◌+◌, Bool, not, ℕ, List, [], ◌∷◌, ◌++◌, length, drop, take, slice_get, Option, None, Some, is_none, option_map, bytes_eq, codes, decimal, nat_eq, nat_le, nat_lt, unwrap_or, if◌then◌else◌}
use Rattle.std.specs.List.{find, list_any, position_or_len}
use Rattle.std.specs.Option.{option_eq, option_or, option_map_or}
use Rattle.ncp_play_explain.specs.declared.usage.Player.{Player}
use Rattle.ncp_play_explain.specs.declared.usage.Player.TheVariants.{Host, World}
use Rattle.ncp_play_explain.specs.Arguments.{arguments_printed, number_in, number_printed, with_form}
use Rattle.ncp_play_explain.specs.Verbs.{socket_arguments, sender_arguments}

-- the first of these words that is no number of a host, if there is one
abbrev pub no_number : List (List ℕ) → Option (List ℕ)
no_number words = find (λ word. is_none (number_in 255 word)) words

-- whether one of these words has the number of this one
abbrev pub is_named : List ℕ → List (List ℕ) → Bool
is_named word named = list_any (λ other. option_eq nat_eq (number_in 255 other) (number_in 255 word)) named

-- the first of these words whose number was named before, if there is one
abbrev pub named_again : List (List ℕ) → List (List ℕ) → Option (List ℕ)
named_again named [] = None
named_again named (word ∷ more) = if is_named word named then Some word else named_again (named ++ word ∷ []) more

-- what is wrong with the numbers of hosts, if anything
abbrev pub numbers_printed : List (List ℕ) → Option (List ℕ)
numbers_printed words =
    option_map_or (number_printed (codes "the number of a host") 255) (no_number words)
    (option_map (λ word. codes "host " ++ (word ++ codes " is named twice")) (named_again [] words))

-- the same of the hosts after `host`, and else of how many they are
abbrev pub one_printed : List (List ℕ) → List ℕ
one_printed words =
    with_form (codes "host ME PEER ..") (unwrap_or (numbers_printed words) (codes "a host has one to 8 peers, and here are " ++ decimal (length words - 1)))

-- the first of these words whose number no host has, if there is one
abbrev pub no_host : List (List ℕ) → List (List ℕ) → Option (List ℕ)
no_host named words = find (λ word. not (is_named word named)) words

-- what is wrong with the host and the peer of a sender to watch, unless they are two of these hosts
abbrev pub ends_printed : List (List ℕ) → List (List ℕ) → Option (List ℕ)
ends_printed named ends =
    option_map_or (λ word. Some (codes "host " ++ (word ++ codes " is none of these hosts"))) (no_host named ends)
    (option_map (λ word. codes "H and P are both host " ++ (word ++ codes ", and a host is no peer of itself")) (named_again [] ends))

-- what is wrong with the words of a sender to watch of these hosts, if anything: its host and its peer, and its sockets
abbrev pub sender_arguments_printed : List (List ℕ) → List (List ℕ) → Option (List ℕ)
sender_arguments_printed named words = option_or (arguments_printed sender_arguments words) (ends_printed named (take 2 words))

-- the explanation of words that are no sender to watch
abbrev pub sender_printed : List (List ℕ) → List (List ℕ) → List ℕ
sender_printed named words =
    option_map_or (with_form (codes "many N1 N2 .. watch H P LOCAL REMOTE")) (sender_arguments_printed named words) (codes "a sender is watched: LOCAL is odd, and REMOTE is even")

-- how many words come before the word `watch`
abbrev pub before_watch : List (List ℕ) → ℕ
before_watch words = position_or_len (λ word. bytes_eq word (codes "watch")) words

-- the words before the word `watch`, or all if there is none; after `many` they name the hosts
abbrev pub words_to_watch : List (List ℕ) → List (List ℕ)
words_to_watch words = take (before_watch words) words

-- what is wrong with the words after `many`: with the numbers before the word `watch`, else with how many
-- they are, else with the sender after it
abbrev pub many_printed : List (List ℕ) → List ℕ
many_printed words =
    let count = before_watch words in
    let named = words_to_watch words in
    option_map_or (with_form (codes "many N1 N2 ..")) (numbers_printed named)
    (if nat_lt count (length words) && nat_le 2 count && nat_le count 8 then sender_printed named (drop (count + 1) words)
    else with_form (codes "many N1 N2 ..") (codes "there are two to 8 hosts, and here are " ++ decimal count))

-- what is wrong with a sender to watch: its side, and its sockets
abbrev pub watch_printed : List (List ℕ) → List ℕ
watch_printed words =
    let side = unwrap_or (slice_get words 0) [] in
    if bytes_eq side (codes "a") || bytes_eq side (codes "b") then option_map_or (with_form (codes "hosts A B watch SIDE LOCAL REMOTE")) (arguments_printed socket_arguments (drop 1 words)) (codes "a sender is watched: LOCAL is odd, and REMOTE is even")
    else codes "SIDE is '" ++ (side ++ codes "', and has to be a or b: hosts A B watch SIDE LOCAL REMOTE")

-- what is wrong after two hosts
abbrev pub after_two_printed : List (List ℕ) → List ℕ
after_two_printed words =
    option_map_or (λ word. if bytes_eq word (codes "watch") then watch_printed (drop 1 words) else codes "'" ++ (word ++ codes "' is one word too many: hosts A B; for more hosts many N1 N2 .."))
    (slice_get words 0) (codes "it names no two hosts: hosts A B")

-- what is wrong after `hosts`
abbrev pub two_printed : List (List ℕ) → List ℕ
two_printed words =
    option_map_or (with_form (codes "hosts A B")) (numbers_printed (take 2 words))
    (if nat_lt (length words) 2 then codes "two hosts have to be named: hosts A B" else after_two_printed (drop 2 words))

-- what is wrong after the first word of a first line
abbrev pub hosts_printed : Player → List ℕ → List (List ℕ) → List ℕ
hosts_printed Host head words =
    if bytes_eq head (codes "host") then one_printed words else codes "this is a script of several hosts: ncp world plays it"
hosts_printed World head words =
    if bytes_eq head (codes "hosts") then two_printed words
    else if bytes_eq head (codes "many") then many_printed words
    else codes "this is a script of one host: ncp host plays it"
