-- The explanation of a wrong header of a message file.
use Rattle.std.specs.Prelude.{◌==◌, ◌||◌, Bool, ℕ, List, [], ◌∷◌, ◌++◌, length, slice_index, codes, decimal, nat_eq, nat_lt, if◌then◌else◌}
use Rattle.std.specs.List.{starts_with, list_all}
use Rattle.std.specs.Char.{is_ascii_hexdigit, is_ascii_whitespace}
use Rattle.ncp_play_explain.specs.Bytes.{hex_glyphs}

-- the letters that a message file begins with
abbrev pub wanted : List ℕ
wanted = codes "a message file begins with the letters NCPH, NCPI or NCPJ"

-- bytes of a hexadecimal dump of a file
abbrev pub is_hexadecimal : List ℕ → Bool
is_hexadecimal head = list_all (λ byte. is_ascii_hexdigit byte || is_ascii_whitespace byte || byte == 35) head

-- the explanation of an unknown file by its first four bytes
abbrev pub beginning : ℕ → ℕ → ℕ → ℕ → List ℕ
beginning one two three four =
    codes "it begins with the bytes " ++ hex_glyphs one ++ codes " " ++ hex_glyphs two ++ codes " " ++ hex_glyphs three ++ codes " "
    ++ hex_glyphs four ++ codes ": " ++ wanted

-- and the number of bytes, if there are fewer
abbrev pub unknown_header : List ℕ → List ℕ
unknown_header head =
    if nat_lt (length head) 4 then codes "there are " ++ decimal (length head) ++ codes " bytes: " ++ wanted
    else beginning (slice_index head 0) (slice_index head 1) (slice_index head 2) (slice_index head 3)

-- a wrong header that begins no packet capture
abbrev pub message_header_printed : List ℕ → List ℕ
message_header_printed head =
    if length head == 0 then codes "the file is empty: " ++ wanted
    else if starts_with nat_eq head (codes "host ") then codes "this is a script of one host: ncp host plays it"
    else if starts_with nat_eq head (codes "hosts ") || starts_with nat_eq head (codes "many ") then codes "this is a script of several hosts: ncp world plays it"
    else if is_hexadecimal head then codes "this is hexadecimal text; 'xxd -r -p' makes bytes of it: " ++ wanted
    else unknown_header head

-- the first bytes of a packet capture: the type of the first block of a pcapng, 0A0D0D0A; the magic
-- number of a pcap, A1B2C3D4 with times in microseconds and A1B23C4D in nanoseconds, in either byte order
abbrev pub is_pcapng : List ℕ → Bool
is_pcapng head = starts_with nat_eq head (10 ∷ 13 ∷ 13 ∷ 10 ∷ [])

abbrev pub is_pcap : List ℕ → Bool
is_pcap head =
    starts_with nat_eq head (161 ∷ 178 ∷ 195 ∷ 212 ∷ []) || starts_with nat_eq head (212 ∷ 195 ∷ 178 ∷ 161 ∷ [])
    || starts_with nat_eq head (161 ∷ 178 ∷ 60 ∷ 77 ∷ []) || starts_with nat_eq head (77 ∷ 60 ∷ 178 ∷ 161 ∷ [])

-- a wrong header
abbrev pub header_printed : List ℕ → List ℕ
header_printed head =
    if is_pcapng head then codes "this is a pcapng, a capture of network packets: wireshark/messages makes a message file of it"
    else if is_pcap head then codes "this is a pcap, a capture of network packets: wireshark/messages makes a message file of it"
    else message_header_printed head
