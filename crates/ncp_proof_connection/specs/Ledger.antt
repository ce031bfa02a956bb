-- The relation between the two ends of a connection and the commands and text underway between them.
use Rattle.std.specs.Prelude.{◌≡◌, ℕ, ◌+◌, Bool, true, false, List, [], ◌∷◌, ◌++◌, length}
use Rattle.ncp_wire.specs.declared.command.Command.{Command}
use Rattle.ncp_model.specs.Endpoint.{Endpoint, is_open, is_live, or_new}
use Rattle.ncp_proof_connection.specs.Connections.{Text, No_text, Away, Here, Connection}
use Rattle.ncp_proof_endpoint.specs.Histories.{IsPrefix}
use Rattle.ncp_model.specs.declared.amounts.Amount.{Amount}
use Rattle.ncp_model.specs.Amounts.{amount, ◌⊕◌, allowance, granted, returned}

-- The amounts underway (queued or in flight), in messages and in bits.

abbrev pub sum_of : (Command → ℕ) → List Command → ℕ
sum_of f [] = 0
sum_of f (c ∷ cs) = f c + sum_of f cs

-- the sum of the amounts that commands grant or return
abbrev pub total : (Command → Amount) → List Command → Amount
total f cs = amount (sum_of (λ c. (f c).messages) cs) (sum_of (λ c. (f c).bits) cs)

-- a text that was sent and is not delivered
abbrev pub text_messages : Text → ℕ
text_messages No_text = 0
text_messages (Away on of_size bits) = 1
text_messages (Here on) = 0

abbrev pub text_bits : Text → List Bool
text_bits No_text = []
text_bits (Away on of_size bits) = bits
text_bits (Here on) = []

abbrev pub text_amount : Text → Amount
text_amount t = amount (text_messages t) (length (text_bits t))

-- a text is unacknowledged: from its sending to its RFNM
abbrev pub is_text_out : Text → Bool
is_text_out No_text = false
is_text_out (Away on of_size bits) = true
is_text_out (Here on) = true

abbrev pub sending : Connection → Endpoint
sending w = or_new w.sender.end

abbrev pub receiving : Connection → Endpoint
receiving w = or_new w.receiver.end

abbrev pub BothOpenOnConnection : Connection → Type 0
BothOpenOnConnection w = (is_open (sending w) ≡ true) × (is_open (receiving w) ≡ true)

-- The receiver's outstanding allocation is the sum of the sender's counters and the amounts of ALL
-- underway, the undelivered text and RET underway (NIC 8246, ALL, GVB and RET).

abbrev pub AmountsAgreeOnConnection : Connection → Type 0
AmountsAgreeOnConnection w = allowance (receiving w) ≡ allowance (sending w) ⊕ total granted w.to_sender ⊕ text_amount w.text ⊕ total returned w.to_receiver

-- all text given was got, is in flight, or is stored at the sender
abbrev pub PartedOnConnection : Connection → Type 0
PartedOnConnection w = w.sender.past.given ≡ w.receiver.past.got ++ (text_bits w.text ++ (sending w).stored)

-- while the receiver is live and has not left, all text it got was taken or is held
abbrev pub Held : Connection → Type 0
Held w = is_live w.receiver.end ≡ true → (receiving w).left ≡ false → w.receiver.past.got ≡ w.receiver.past.taken ++ (receiving w).stored

-- while the receiver is live, the text it got is a prefix of the text given since the sender last opened
abbrev pub BeginsOnConnection : Connection → Type 0
BeginsOnConnection w = is_live w.receiver.end ≡ true → IsPrefix w.receiver.past.got w.sender.past.given

-- the text that the receiver's user took since the last ask is a prefix of the text given since the
-- sender last opened, regardless of the state of either end
abbrev pub TakenBeginsOnConnection : Connection → Type 0
TakenBeginsOnConnection w = IsPrefix w.receiver.past.taken w.sender.past.given

-- while a text is unacknowledged both ends have opened
abbrev pub OutIsOpened : Connection → Type 0
OutIsOpened w = is_text_out w.text ≡ true → (is_live w.sender.end ≡ true) × (is_live w.receiver.end ≡ true)
