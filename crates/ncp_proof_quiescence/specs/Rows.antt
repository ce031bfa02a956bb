-- Example messages of host 1 for the definitions.
use Rattle.std.specs.Prelude.{Bool, List, [], ◌∷◌}
use Rattle.ncp_numbers.specs.Bytes.{bits_of_bytes}

-- a control message with an RST, and one with an RTS of sockets 2 and 3 on link 2
abbrev pub with_rst : List Bool
with_rst = bits_of_bytes (0 ∷ 1 ∷ 0 ∷ 0 ∷ 0 ∷ 8 ∷ 0 ∷ 1 ∷ 0 ∷ 12 ∷ [])

abbrev pub with_rts : List Bool
with_rts = bits_of_bytes (0 ∷ 1 ∷ 0 ∷ 0 ∷ 0 ∷ 8 ∷ 0 ∷ 10 ∷ 0 ∷ 1 ∷ 0 ∷ 0 ∷ 0 ∷ 2 ∷ 0 ∷ 0 ∷ 0 ∷ 3 ∷ 2 ∷ [])

-- one with an ECO, followed by an undefined opcode
abbrev pub with_fault : List Bool
with_fault = bits_of_bytes (0 ∷ 1 ∷ 0 ∷ 0 ∷ 0 ∷ 8 ∷ 0 ∷ 3 ∷ 0 ∷ 9 ∷ 65 ∷ 14 ∷ [])

-- a text of one byte on link 2; then: on link 1, which carries none
abbrev pub text_on_link_2 : List Bool
text_on_link_2 = bits_of_bytes (0 ∷ 1 ∷ 2 ∷ 0 ∷ 0 ∷ 8 ∷ 0 ∷ 1 ∷ 0 ∷ 255 ∷ [])

abbrev pub on_link_1 : List Bool
on_link_1 = bits_of_bytes (0 ∷ 1 ∷ 1 ∷ 0 ∷ 0 ∷ 8 ∷ 0 ∷ 1 ∷ 0 ∷ 255 ∷ [])
