-- One endpoint of a connection: what one host knows of it (NIC 8246, connections). The words opened,
-- leaving and live, and that it ends with both CLSs, are this profile's.
use Rattle.std.specs.Prelude.{ℕ, Bool, false, not, ◌&&◌, ◌||◌, List, [], Option, None, Some}

-- Its pair of sockets decides whether it sends or receives. The flags record what happened since it was
-- created.
pub record Endpoint : Type 0 where
  pub asked : Bool  -- the local request (STR of a sender, RTS of a receiver) was made
  pub heard : Bool  -- the peer's request was received
  pub opened : Bool  -- both requests met before either side closed
  pub leaving : Bool  -- a CLS is due
  pub left : Bool  -- the CLS was made
  pub cls : Bool  -- the peer's CLS was received
  pub link : ℕ  -- chosen by the receiver in its RTS; 0 until then
  pub size : ℕ  -- bits per byte, chosen by the sender in its STR; 0 until then
  pub messages : ℕ  -- a sender's counters, a receiver's outstanding allocation
  pub bits : ℕ
  pub stored : List Bool  -- a sender's bits to send, a receiver's held bits
  pub room : ℕ  -- the most bits that may be stored; 0 until the local request
  pub busy : Bool  -- a sender's text was sent and has had no RFNM
  pub recall : Bool  -- a receiver's GVB is unanswered
  pub interrupts : ℕ  -- the number of interrupts received

-- the state of a new endpoint
abbrev pub new_end : Endpoint
new_end = record {
  asked = false;
  heard = false;
  opened = false;
  leaving = false;
  left = false;
  cls = false;
  link = 0;
  size = 0;
  messages = 0;
  bits = 0;
  stored = [];
  room = 0;
  busy = false;
  recall = false;
  interrupts = 0;
}

-- the endpoint if there is one, else a new one
abbrev pub or_new : Option Endpoint → Endpoint
or_new None = new_end
or_new (Some e) = e

-- closing: its CLS is due or was made
abbrev pub is_closing : Endpoint → Bool
is_closing e = e.leaving || e.left

-- both requests were made, and it is not closing (NIC 8246, establishment)
abbrev pub is_open : Endpoint → Bool
is_open e = e.asked && e.heard && not (is_closing e)

-- opened, and not ended; an ended endpoint does not exist
abbrev pub is_live : Option Endpoint → Bool
is_live None = false
is_live (Some e) = e.opened

-- its CLS was made, and the peer's arrived: the connection is over here (NIC 8246, termination)
abbrev pub is_ended : Endpoint → Bool
is_ended e = e.left && e.cls
