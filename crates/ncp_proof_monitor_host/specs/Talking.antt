-- Recordings at the interface of host 1, examples for the law.
use Rattle.std.specs.Prelude.{Bool, true, false, List, [], ◌∷◌, ◌++◌, replicate}
use Rattle.ncp_proof_runs.specs.Examples.{byte_of_two, message_on_0, message_on_2}
use Rattle.ncp_interface.specs.declared.imp_direction.ImpDirection.{ImpDirection}
use Rattle.ncp_interface.specs.declared.imp_direction.ImpDirection.TheVariants.{ToImp, FromImp}

abbrev pub four_of : Bool → Bool → Bool → Bool → List Bool
four_of a b c d = a ∷ b ∷ c ∷ d ∷ []

-- a control message on link 0 between its leader and its text: an unused byte, the size 8, the count of 1
-- or of 4 bytes, and an unused byte
abbrev pub front_of_one : List Bool
front_of_one = replicate 8 false ++ replicate 4 false ++ four_of true false false false ++ replicate 12 false ++ four_of false false false true ++ replicate 8 false

abbrev pub front_of_four : List Bool
front_of_four = replicate 8 false ++ replicate 4 false ++ four_of true false false false ++ replicate 12 false ++ four_of false true false false ++ replicate 8 false

-- RST and RRP are 12 and 13, ECO is 9

abbrev pub rst_alone : List Bool
rst_alone = message_on_0 ++ front_of_one ++ replicate 4 false ++ four_of true true false false

abbrev pub rrp_alone : List Bool
rrp_alone = message_on_0 ++ front_of_one ++ replicate 4 false ++ four_of true true false true

-- RFNM of host 2 on link 0
abbrev pub taken_by_2 : List Bool
taken_by_2 = replicate 4 false ++ four_of false true false true ++ byte_of_two ++ replicate 16 false

-- ECO of 1, and ECO of 2
abbrev pub echo_and_echo : List Bool
echo_and_echo =
    message_on_0 ++ front_of_four ++ replicate 4 false ++ four_of true false false true ++ replicate 4 false ++ four_of false false false true
    ++ replicate 4 false ++ four_of true false false true ++ replicate 4 false ++ four_of false false true false

-- an answered reset; then two echoes in one message
abbrev pub echo_before_its_reply : List (ImpDirection × List Bool)
echo_before_its_reply = (ToImp, rst_alone) ∷ (FromImp, taken_by_2) ∷ (FromImp, rrp_alone) ∷ (ToImp, echo_and_echo) ∷ []

-- an answered reset; then a text of one byte on link 2, which no connection has
abbrev pub text_to_nobody : List (ImpDirection × List Bool)
text_to_nobody = (ToImp, rst_alone) ∷ (FromImp, taken_by_2) ∷ (FromImp, rrp_alone) ∷ (ToImp, message_on_2 ++ front_of_one ++ byte_of_two) ∷ []
