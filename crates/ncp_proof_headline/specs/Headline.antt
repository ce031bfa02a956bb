-- Properties of two hosts, for all calls, losses, holds and orders between links, and all times at which
-- a host resets or goes down. Each is stated for the direction from this host to that one; the other
-- direction is that of the swapped world. A pair is named as at the sender's host, except when its
-- receiver opens. Commands and text underway (queued or in flight) are read off the hosts and links;
-- Ledger has the same for one connection.
use Rattle.std.specs.Prelude.{◌≡◌, ℕ, ◌+◌, ◌==◌, Bool, true, false, if◌then◌else◌, List, [], ◌∷◌, ◌++◌, length, Option, None, Some}
use Rattle.std.specs.FinMap.{get}
use Rattle.ncp_wire.specs.declared.command.Command.{Command}
use Rattle.ncp_model.specs.declared.pair.Pair.{Pair}
use Rattle.ncp_model.specs.Endpoint.{Endpoint, is_open, is_live, or_new}
use Rattle.ncp_model.specs.Ends.{hears_link, uses_link, link_of}
use Rattle.ncp_model.specs.Demux.{passes}
use Rattle.ncp_proof_endpoint.specs.Histories.{opens, IsPrefix}
use Rattle.ncp_proof_endpoint.specs.Books.{BooksAt}
use Rattle.ncp_proof_machine.specs.Delivery.{Accepted}
pub use Rattle.ncp_proof_machine.specs.Delivery.{message_not_come}
use Rattle.ncp_proof_machine.specs.Resets.{commands_underway}
use Rattle.ncp_proof_machine.specs.Hosts.{TextOut, Node, TwoNodes, nodes_swapped, past_of, is_empty, node_hears, node_hears_all}
use Rattle.ncp_model.specs.Pairs.{counterpart}
use Rattle.ncp_model.specs.declared.amounts.Amount.{Amount}
use Rattle.ncp_model.specs.Amounts.{amount, ◌⊕◌, allowance, granted, returned}

-- The two ends of a pair.

abbrev pub sender_in_model : Pair → TwoNodes → Endpoint
sender_in_model pair w = or_new (get w.this.ends pair)

abbrev pub receiver_in_model : Pair → TwoNodes → Endpoint
receiver_in_model pair w = or_new (get w.that.ends (counterpart pair))

abbrev pub BothOpenInModel : Pair → TwoNodes → Type 0
BothOpenInModel pair w = (is_open (sender_in_model pair w) ≡ true) × (is_open (receiver_in_model pair w) ≡ true)

-- The amounts in commands that name a link.

abbrev pub names_link : ℕ → Option ℕ → Bool
names_link on None = false
names_link on (Some link) = link == on

abbrev pub sum_on : ℕ → (Command → ℕ) → List Command → ℕ
sum_on on f [] = 0
sum_on on f (c ∷ cs) = (if names_link on (link_of c) then f c else 0) + sum_on on f cs

-- the sum of the amounts they grant or return
abbrev pub total_on : ℕ → (Command → Amount) → List Command → Amount
total_on on f cs = amount (sum_on on (λ c. (f c).messages) cs) (sum_on on (λ c. (f c).bits) cs)

-- the number of messages, and the bits, of the undelivered text of a link

abbrev pub how_many_texts : Option TextOut → ℕ
how_many_texts None = 0
how_many_texts (Some t) = 1

abbrev pub bits_of_text : Option TextOut → List Bool
bits_of_text None = []
bits_of_text (Some t) = t.bits

abbrev pub amount_of_text : Option TextOut → Amount
amount_of_text t = amount (how_many_texts t) (length (bits_of_text t))

-- the text underway on the pair's link
abbrev pub text_underway : Pair → TwoNodes → Option TextOut
text_underway pair w = let on = (sender_in_model pair w).link in message_not_come (w.this.texts on).slot (w.this.texts on).subnet

-- the commands underway from the sender's host, and from the receiver's

abbrev pub commands_there : TwoNodes → List Command
commands_there w = commands_underway w.this.host w.this.control

abbrev pub commands_back : TwoNodes → List Command
commands_back w = commands_underway w.that.host w.that.control

-- the amounts of ALL and RET underway on the pair's link

abbrev pub granted_underway : Pair → TwoNodes → Amount
granted_underway pair w = total_on (sender_in_model pair w).link granted (commands_back w)

abbrev pub returned_underway : Pair → TwoNodes → Amount
returned_underway pair w = total_on (sender_in_model pair w).link returned (commands_there w)

-- While both ends are open: the receiver's outstanding allocation is the sum of the sender's counters and
-- the amounts of ALL underway, the undelivered text and RET underway, each on the pair's link.

abbrev pub AmountsAgreeInModel : Pair → TwoNodes → Type 0
AmountsAgreeInModel pair w = BothOpenInModel pair w
    → allowance (receiver_in_model pair w)
    ≡ allowance (sender_in_model pair w) ⊕ granted_underway pair w ⊕ amount_of_text (text_underway pair w) ⊕ returned_underway pair w

-- While both ends are open, they are on one link; and all text given was got, is underway, or is stored
-- at the sender.

abbrev pub OnOneLink : Pair → TwoNodes → Type 0
OnOneLink pair w = BothOpenInModel pair w → (sender_in_model pair w).link ≡ (receiver_in_model pair w).link

abbrev pub PartedInModel : Pair → TwoNodes → Type 0
PartedInModel pair w = BothOpenInModel pair w
    → (past_of w.this.pasts pair).given ≡ (past_of w.that.pasts (counterpart pair)).got ++ (bits_of_text (text_underway pair w) ++ (sender_in_model pair w).stored)

-- While the receiver is live and has not left, all text it got was taken, or is held.
abbrev pub TakenOrHeld : Pair → TwoNodes → Type 0
TakenOrHeld pair w = is_live (get w.that.ends (counterpart pair)) ≡ true → (receiver_in_model pair w).left ≡ false
    → (past_of w.that.pasts (counterpart pair)).got ≡ (past_of w.that.pasts (counterpart pair)).taken ++ (receiver_in_model pair w).stored

-- At a receiver that has opened, the outstanding allocation is what was granted, less what was returned
-- and used: so it never uses more than was granted.
abbrev pub WithinAllocationInModel : Pair → TwoNodes → Type 0
WithinAllocationInModel pair w = BooksAt (get w.that.ends (counterpart pair)) (past_of w.that.pasts (counterpart pair))

-- While the receiver is live, the text it got is a prefix of the text given since the sender last opened,
-- regardless of what the sender has done since.
abbrev pub BeginsInModel : Pair → TwoNodes → Type 0
BeginsInModel pair w = is_live (get w.that.ends (counterpart pair)) ≡ true → IsPrefix (past_of w.that.pasts (counterpart pair)).got (past_of w.this.pasts pair).given

-- A text on a link is unacknowledged, from its sending to its RFNM, before a step and after it.
abbrev pub StaysOut : ℕ → TwoNodes → TwoNodes → Type 0
StaysOut on w after = (is_empty (w.this.texts on).slot ≡ false) × (is_empty (after.this.texts on).slot ≡ false)

-- A pair with that link opens in the step: at the sender's host, or at the receiver's, where the pair is
-- named as at that host. A command of a control message may open one too, even if a later one of the same
-- message ends it again.

abbrev pub SenderOpensAt : ℕ → Pair → Node → Node → Type 0
SenderOpensAt on pair n after = (opens (get n.ends pair) (get after.ends pair) ≡ true) × (passes (hears_link on) pair (get after.ends pair) ≡ true)

abbrev pub ReceiverOpensAt : ℕ → Pair → Node → Node → Type 0
ReceiverOpensAt on pair n after = (opens (get n.ends pair) (get after.ends pair) ≡ true) × (passes (uses_link on) pair (get after.ends pair) ≡ true)

abbrev pub SenderOpens : ℕ → Pair → TwoNodes → TwoNodes → Type 0
SenderOpens on pair w after = SenderOpensAt on pair w.this after.this

abbrev pub ReceiverOpens : ℕ → Pair → TwoNodes → TwoNodes → Type 0
ReceiverOpens on pair w after = ReceiverOpensAt on pair w.that after.that

-- No pair opens, at either host, with a link on which a text of this host stays unacknowledged: not in a
-- step, and not by a command of the message in flight to this host, regardless of its later commands.

abbrev pub NoPairOpens : TwoNodes → TwoNodes → Type 0
NoPairOpens w after = (pair : Pair) (on : ℕ) → StaysOut on w after → (SenderOpens on pair w after → ⊥) × (ReceiverOpens on pair w after → ⊥)

abbrev pub NoCommandOpens : TwoNodes → Type 0
NoCommandOpens w = (done rest : List Command) (c : Command) → w.that.control.subnet ≡ Accepted (done ++ c ∷ rest)
    → (let n = node_hears_all done w.this in
    (pair : Pair) (on : ℕ) → (is_empty (w.this.texts on).slot ≡ false → SenderOpensAt on pair n (node_hears c n) → ⊥) × (is_empty (w.that.texts on).slot ≡ false → ReceiverOpensAt on pair n (node_hears c n) → ⊥))

-- it holds in both directions: from this host to that one, and back
abbrev pub BothWaysInModel : (TwoNodes → Type 0) → TwoNodes → Type 0
BothWaysInModel P w = P w × P (nodes_swapped w)
