-- The first line of a script (this profile): the hosts that it names.
use Rattle.std.specs.Prelude.{ℕ, ◌==◌, nat_le, Bool, false, List, [], ◌∷◌, length, Option, Some, None, option_map, codes, if◌then◌else◌}
use Rattle.std.specs.Str.{bytes_eq}
use Rattle.ncp_host.specs.declared.limits.TheConstants.{MAX_PEERS}
use Rattle.ncp_host.specs.Host.{are_peers}
use Rattle.ncp_play_script.specs.declared.first_lines.HostAndPeers.{HostAndPeers}
use Rattle.ncp_play_script.specs.declared.first_lines.TwoHosts.{TwoHosts}
use Rattle.ncp_play_script.specs.Words.{number_first, number_of_word, largest_u8}
use Rattle.ncp_play_script.specs.Calls.{Read, behind}

-- a host and its peers, in the order of the line
pub record Named : Type 0 where
  pub me : ℕ
  pub peers : List ℕ

-- the same from the code's value
abbrev pub named_in : HostAndPeers → Named
named_in hosts = record { me = hosts.me; peers = hosts.peers.items }

-- numbers preceded by a number, if all of them are valid
abbrev pub with_number : Option ℕ → Option (List ℕ) → Option (List ℕ)
with_number None numbers = None
with_number (Some number) numbers = option_map (λ behind. number ∷ behind) numbers

-- the numbers in the words
abbrev pub numbers_of_words : List (List ℕ) → Option (List ℕ)
numbers_of_words [] = Some []
numbers_of_words (word ∷ words) = with_number (number_of_word largest_u8 word) (numbers_of_words words)

-- at most as many as a host can have peers
abbrev pub few : Option (List ℕ) → Option (List ℕ)
few None = None
few (Some numbers) = if nat_le (length numbers) MAX_PEERS then Some numbers else None

-- the peers in the words after the host
abbrev pub with_peers : Option (ℕ × List (List ℕ)) → Option Named
with_peers None = None
with_peers (Some (me, words)) = option_map (λ peers. record { me = me; peers = peers }) (few (numbers_of_words words))

-- the word `host`, then a host and its peers
abbrev pub host_named : List (List ℕ) → Option Named
host_named [] = None
host_named (word ∷ words) = if bytes_eq (codes "host") word then with_peers (number_first largest_u8 words) else None

-- the host can have these peers
abbrev pub if_peers : Option Named → Option Named
if_peers None = None
if_peers (Some named) = if are_peers named.me named.peers then Some named else None

-- the first line of a script of one host
abbrev pub first_of_host : List (List ℕ) → Option Named
first_of_host words = if_peers (host_named words)

-- words that begin with the word `many`
abbrev pub is_many : List (List ℕ) → Bool
is_many [] = false
is_many (word ∷ words) = bytes_eq (codes "many") word

-- a number, and the numbers read after it
abbrev pub number_before : Option ℕ → Read (List ℕ) → Read (List ℕ)
number_before None numbers = None
number_before (Some number) numbers = option_map (λ found. (number ∷ found.0, found.1)) numbers

-- the numbers in the words up to the word `watch`, or in all
abbrev pub numbers_first : List (List ℕ) → Read (List ℕ)
numbers_first [] = Some ([], [])
numbers_first (word ∷ words) = if bytes_eq (codes "watch") word then Some ([], word ∷ words) else number_before (number_of_word largest_u8 word) (numbers_first words)

-- at most as many as a host can have peers, with the words after them
abbrev pub few_first : Read (List ℕ) → Read (List ℕ)
few_first None = None
few_first (Some (numbers, words)) = if nat_le (length numbers) MAX_PEERS then Some (numbers, words) else None

-- the start of the first line of a script of two to eight hosts: the word `many` and numbers, up to the
-- word `watch`; whether hosts can have them is not checked
abbrev pub many_first : List (List ℕ) → Read (List ℕ)
many_first [] = None
many_first (word ∷ words) = if bytes_eq (codes "many") word then few_first (numbers_first words) else None

-- two numbers, in the first words
abbrev pub two_first : List (List ℕ) → Read TwoHosts
two_first words = behind (number_first largest_u8 words) (λ a words. behind (number_first largest_u8 words) (λ b words. Some (record { a = a; b = b }, words)))

-- the two hosts, if they differ
abbrev pub if_distinct : Read TwoHosts → Read TwoHosts
if_distinct None = None
if_distinct (Some (hosts, words)) = if hosts.a == hosts.b then None else Some (hosts, words)

-- the start of the first line of a script of two hosts: the word `hosts` and two distinct numbers
abbrev pub hosts_first : List (List ℕ) → Read TwoHosts
hosts_first [] = None
hosts_first (word ∷ words) = if bytes_eq (codes "hosts") word then if_distinct (two_first words) else None
