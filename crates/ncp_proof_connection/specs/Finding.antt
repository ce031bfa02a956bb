-- A command that names sockets or a link identifies the endpoint for which it was made. `Shared` is all
-- connections from one host (the senders') to another (the receivers'), with the commands underway
-- (queued or in flight) to each. Connections are named by their pairs at the senders' host; `sends q`
-- says that `q` is one of them, and not of the other direction, whose commands are in the same two lists.
-- A statement about a command is about the first one underway to a host, which arrives next. The laws on
-- links (src/sharing.rt) are about a host that was not cleared, that is, has not dropped all its
-- endpoints; only the last two statements say so themselves.
use Rattle.std.specs.Prelude.{◌≡◌, ℕ, Bool, true, List, ◌∷◌, Option, None, Some}
use Rattle.ncp_wire.specs.declared.command.Command.{Command}
use Rattle.ncp_wire.specs.declared.command.Command.TheVariants.{Rts}
use Rattle.ncp_model.specs.declared.pair.Pair.{Pair}
use Rattle.ncp_model.specs.Pairs.{sends, counterpart}
use Rattle.ncp_model.specs.Ends.{Ends, demux_command, link_of, names_sockets}
use Rattle.ncp_proof_endpoint.specs.Histories.{opens}
use Rattle.ncp_proof_connection.specs.Connections.{Text, No_text, Away, Here}
use Rattle.ncp_proof_connection.specs.Sharing.{Tagged, Shared, hears_at, uses_at}

-- the link of a text that has no RFNM yet, if there is one: it was sent and has not arrived (`Away`), or
-- it arrived at the receivers' host (`Here`)
abbrev pub link_out : Text → Option ℕ
link_out No_text = None
link_out (Away on of_size bits) = Some on
link_out (Here on) = Some on

-- If the next command to the senders' host names sockets (an RTS, STR or CLS), the host finds the
-- connection for which it was made (`demux_command`), whichever endpoints `m` it has.
abbrev pub SocketsFindSender : Shared → Type 0
SocketsFindSender s = (q : Pair) (c : Command) (rest : List Tagged) (m : Ends) → s.to_senders ≡ record { pair = q; command = c } ∷ rest
    → sends q ≡ true → names_sockets c ≡ true → demux_command c m ≡ Some q

-- The same at the receivers' host. It names the connection by the counterpart of `q`: the same two
-- sockets, its own first.
abbrev pub SocketsFindReceiver : Shared → Type 0
SocketsFindReceiver s = (q : Pair) (c : Command) (rest : List Tagged) (m : Ends) → s.to_receivers ≡ record { pair = q; command = c } ∷ rest
    → sends q ≡ true → names_sockets c ≡ true → demux_command c m ≡ Some (counterpart q)

-- the pair passes the test, and no other does
abbrev pub Only : (Pair → Bool) → Pair → Type 0
Only test q = (test q ≡ true) × ((p : Pair) → test p ≡ true → p ≡ q)

-- If the next command to the senders' host names only a link (`link_of`: ALL, GVB, RET, INR or INS, and
-- no RTS), the sending end of its connection, and no other, has received an RTS with this link
-- (`hears_at`).
abbrev pub GrantFinds : Shared → Type 0
GrantFinds s = (q : Pair) (c : Command) (on : ℕ) (rest : List Tagged) → s.to_senders ≡ record { pair = q; command = c } ∷ rest
    → sends q ≡ true → link_of c ≡ Some on → Only (hears_at s on) q

-- The same at the receivers' host: the receiving end of its connection, and no other, asked with this
-- link (`uses_at`, which takes the pair as at the senders' host).
abbrev pub ReturnFinds : Shared → Type 0
ReturnFinds s = (q : Pair) (c : Command) (on : ℕ) (rest : List Tagged) → s.to_receivers ≡ record { pair = q; command = c } ∷ rest
    → sends q ≡ true → link_of c ≡ Some on → Only (uses_at s on) q

-- if the next command to the senders' host is an RTS, no sending end there has received an RTS with its
-- link
abbrev pub RequestFits : Shared → Type 0
RequestFits s = (q : Pair) (receive send on : ℕ) (rest : List Tagged) → s.to_senders ≡ record { pair = q; command = Rts receive send on } ∷ rest
    → sends q ≡ true → (p : Pair) → hears_at s on p ≡ true → ⊥

-- if a text of a connection on a link has no RFNM yet, the sending end of this connection, and no other,
-- has received an RTS with this link
abbrev pub SenderHoldsLink : Shared → Type 0
SenderHoldsLink s = (q : Pair) (on : ℕ) → link_out (s.text q) ≡ Some on → sends q ≡ true → Only (hears_at s on) q

-- if a text of a connection on a link has no RFNM yet, the receiving end of this connection, and no
-- other, asked with this link
abbrev pub ReceiverHoldsLink : Shared → Type 0
ReceiverHoldsLink s = (q : Pair) (on : ℕ) → link_out (s.text q) ≡ Some on → sends q ≡ true → Only (uses_at s on) q

-- from the state `s` to `t` a connection opens at the senders' host (its end there is live in `t` only),
-- and in `t` this end has received an RTS with this link
abbrev pub SenderOpensOn : ℕ → Pair → Shared → Shared → Type 0
SenderOpensOn on p s t = (opens (s.sender p).end (t.sender p).end ≡ true) × (hears_at t on p ≡ true)

-- the same at the receivers' host, whose end asked with this link
abbrev pub ReceiverOpensOn : ℕ → Pair → Shared → Shared → Type 0
ReceiverOpensOn on p s t = (opens (s.receiver p).end (t.receiver p).end ≡ true) × (uses_at t on p ≡ true)

-- in each of two states a connection has a text on this link that has no RFNM yet; they may be two texts
abbrev pub StaysOutFor : ℕ → Pair → Shared → Shared → Type 0
StaysOutFor on q s t = (sends q ≡ true) × (link_out (s.text q) ≡ Some on) × (link_out (t.text q) ≡ Some on)

-- If in both states a connection has a text on a link that has no RFNM yet, and the senders' host was not
-- cleared (the field `sends`), no connection opens there on this link from `s` to `t`: not this one
-- either. The law has this of two states with one event between them.
abbrev pub NoSenderOpens : Shared → Shared → Type 0
NoSenderOpens s t = (p q : Pair) (on : ℕ) → StaysOutFor on q s t → s.sends ≡ true → t.sends ≡ true → SenderOpensOn on p s t → ⊥

-- the same at the receivers' host (the field `receives`)
abbrev pub NoReceiverOpens : Shared → Shared → Type 0
NoReceiverOpens s t = (p q : Pair) (on : ℕ) → StaysOutFor on q s t → s.receives ≡ true → t.receives ≡ true → ReceiverOpensOn on p s t → ⊥
