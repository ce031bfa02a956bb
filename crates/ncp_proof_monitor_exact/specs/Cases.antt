-- Captures of the interface of host 1, by the bytes of their messages: one that breaks no rule, and for
-- each of thirteen rules one that breaks it. Opcodes and layouts are those of NIC 8246, leaders those of
-- BBN Report 1822.
use Rattle.std.specs.Prelude.{ℕ, Bool, List, [], ◌∷◌, ◌++◌}
use Rattle.ncp_numbers.specs.Bytes.{bits_of_bytes}
use Rattle.ncp_interface.specs.declared.imp_direction.ImpDirection.{ImpDirection}
use Rattle.ncp_interface.specs.declared.imp_direction.ImpDirection.TheVariants.{ToImp, FromImp}

abbrev pub Capture : Type 0
Capture = List (ℕ × ImpDirection × List Bool)

-- A regular message between the hosts 1 and 2, by link, byte size, byte count and text: type 0, the number of the other host,
-- the link, and then the prefix, with a byte of zeros before and after size and count.
abbrev pub message : ℕ → ℕ → ℕ → List ℕ → List ℕ
message link size count text = 0 ∷ 2 ∷ link ∷ 0 ∷ 0 ∷ size ∷ 0 ∷ count ∷ 0 ∷ text

-- a control message: on link 0, of bytes of 8 bits
abbrev pub control : ℕ → List ℕ → List ℕ
control count text = message 0 8 count text

abbrev pub rfnm : ℕ → List ℕ
rfnm link = 5 ∷ 2 ∷ link ∷ 0 ∷ []

abbrev pub incomplete : ℕ → List ℕ
incomplete link = 9 ∷ 2 ∷ link ∷ 0 ∷ []

-- host 1 sends a message, or receives one
abbrev pub sends : List ℕ → ℕ × ImpDirection × List Bool
sends bytes = (1, ToImp, bits_of_bytes bytes)

abbrev pub receives : List ℕ → ℕ × ImpDirection × List Bool
receives bytes = (1, FromImp, bits_of_bytes bytes)

-- the commands, by their opcodes; sockets are those of host 1 and host 2

abbrev pub nop : List ℕ
nop = 0 ∷ []

abbrev pub rts_of_2 : List ℕ
rts_of_2 = 1 ∷ 0 ∷ 0 ∷ 0 ∷ 2 ∷ 0 ∷ 0 ∷ 0 ∷ 3 ∷ 2 ∷ []

abbrev pub str_of_1 : List ℕ
str_of_1 = 2 ∷ 0 ∷ 0 ∷ 0 ∷ 3 ∷ 0 ∷ 0 ∷ 0 ∷ 2 ∷ 8 ∷ []

abbrev pub cls_of_1 : List ℕ
cls_of_1 = 3 ∷ 0 ∷ 0 ∷ 0 ∷ 3 ∷ 0 ∷ 0 ∷ 0 ∷ 2 ∷ []

abbrev pub all_of_8_bits : List ℕ
all_of_8_bits = 4 ∷ 2 ∷ 0 ∷ 1 ∷ 0 ∷ 0 ∷ 0 ∷ 8 ∷ []

abbrev pub eco : List ℕ
eco = 9 ∷ 1 ∷ []

abbrev pub rst : List ℕ
rst = 12 ∷ []

abbrev pub rrp : List ℕ
rrp = 13 ∷ []

-- ---- no rule is broken

-- host 1 resets, and host 2 replies
abbrev pub reset : Capture
reset = sends (control 1 rst) ∷ receives (rfnm 0) ∷ receives (control 1 rrp) ∷ []

-- then a connection opens from socket 3 of host 1 to socket 2 of host 2 on link 2, and a text of one byte is sent
abbrev pub opened : Capture
opened =
    reset
    ++ receives (control 10 rts_of_2)
    ∷ sends (control 10 str_of_1)
    ∷ receives (rfnm 0)
    ∷ receives (control 8 all_of_8_bits)
    ∷ sends (message 2 8 1 (1 ∷ []))
    ∷ []

-- ---- one rule is broken

-- the leader names host 1 itself
abbrev pub to_itself : Capture
to_itself = sends (0 ∷ 1 ∷ 0 ∷ 0 ∷ []) ∷ []

-- a message of type 5
abbrev pub wrong_type : Capture
wrong_type = sends (5 ∷ 2 ∷ 0 ∷ 0 ∷ []) ∷ []

-- on link 1
abbrev pub wrong_link : Capture
wrong_link = sends (message 1 8 1 nop) ∷ []

-- a control message of 16-bit bytes
abbrev pub wrong_size : Capture
wrong_size = sends (message 0 16 1 (12 ∷ 13 ∷ [])) ∷ []

-- the flags of the leader are 1
abbrev pub with_flags : Capture
with_flags = sends (16 ∷ 2 ∷ 0 ∷ 0 ∷ 0 ∷ 8 ∷ 0 ∷ 1 ∷ 0 ∷ rst) ∷ []

-- a second message on link 0 before the answer
abbrev pub busy_link : Capture
busy_link = reset ++ sends (control 1 nop) ∷ sends (control 1 nop) ∷ []

-- a message other than the undelivered one
abbrev pub other_message : Capture
other_message = reset ++ sends (control 1 nop) ∷ receives (incomplete 0) ∷ sends (control 2 (0 ∷ 0 ∷ [])) ∷ []

-- no command has opcode 14
abbrev pub bad_opcode : Capture
bad_opcode = reset ++ sends (control 1 (14 ∷ [])) ∷ []

-- an RST while the text is unacknowledged
abbrev pub reset_while_busy : Capture
reset_while_busy = opened ++ sends (control 1 rst) ∷ []

-- an RST before the RRP that the text delayed
abbrev pub reset_before_reply : Capture
reset_before_reply = opened ++ receives (control 1 rst) ∷ receives (rfnm 2) ∷ sends (control 1 rst) ∷ []

-- an RST instead of the owed RRP
abbrev pub reply_omitted : Capture
reply_omitted = reset ++ receives (control 1 rst) ∷ sends (control 1 rst) ∷ []

-- a NOP instead of the owed ERP
abbrev pub echo_omitted : Capture
echo_omitted = reset ++ receives (control 2 eco) ∷ sends (control 1 nop) ∷ []

-- a CLS while the text is unacknowledged
abbrev pub closed_while_busy : Capture
closed_while_busy = opened ++ sends (control 9 cls_of_1) ∷ []
