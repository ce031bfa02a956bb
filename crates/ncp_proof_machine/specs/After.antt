-- Two hosts after a schedule: quantifiers over schedules, and the ends, histories and links that the
-- theorems refer to.
use Rattle.std.specs.Prelude.{◌≡◌, ◌||◌, ℕ, Bool, true, false, List, [], ◌∷◌, ◌++◌, Option}
use Rattle.std.specs.FinMap.{get}
use Rattle.ncp_model.specs.declared.pair.Pair.{Pair}
use Rattle.ncp_model.specs.Echo.{hear_err}
use Rattle.ncp_model.specs.Endpoint.{Endpoint}
use Rattle.ncp_model.specs.Ends.{Ends}
use Rattle.ncp_model.specs.Demux.{passes}
use Rattle.ncp_model.specs.Rows.{outward, inward, ones, err}
use Rattle.ncp_proof_machine.specs.Delivery.{Travelling, Held, Free, Accepted, Link}
use Rattle.ncp_proof_machine.specs.Resets.{is_up}
use Rattle.ncp_proof_machine.specs.Hosts.{Node, NodeEvent, TextOut, TwoNodes, past_of, run}

-- it holds for two hosts after every schedule; then: if both are up
abbrev pub AfterAll : (TwoNodes → Type 0) → Type 0
AfterAll holds = (events : List NodeEvent) → holds (run events)

abbrev pub WhereBothAreUp : (TwoNodes → Type 0) → Type 0
WhereBothAreUp holds =
    (events : List NodeEvent) → is_up (run events).this.host ≡ true → is_up (run events).that.host ≡ true → holds (run events)

-- at most one end passes the test of each link
abbrev pub AreDistinct : (ℕ → Pair × Endpoint → Bool) → Ends → Type 0
AreDistinct test m =
    (on : ℕ) (p q : Pair) → passes (test on) p (get m p) ≡ true → passes (test on) q (get m q) ≡ true → p ≡ q

-- after a schedule: this host's end of the connection from its socket 3 to socket 2; then: that host's
abbrev pub sender_after : List NodeEvent → Option Endpoint
sender_after events = get (run events).this.ends outward

abbrev pub receiver_after : List NodeEvent → Option Endpoint
receiver_after events = get (run events).that.ends inward

-- the text its receiver got; then: the text taken of it
abbrev pub got_after : List NodeEvent → List Bool
got_after events = (past_of (run events).that.pasts inward).got

abbrev pub taken_after : List NodeEvent → List Bool
taken_after events = (past_of (run events).that.pasts inward).taken

-- a text of two bytes of ones; then: unacknowledged on a link; and held, because its destination was dead
abbrev pub two_bytes_out : TextOut
two_bytes_out = record { of_size = 8; bits = ones 16 }

abbrev pub travelling_text : Link TextOut
travelling_text = record { slot = Travelling two_bytes_out; subnet = Accepted two_bytes_out }

abbrev pub held_text : Link TextOut
held_text = record { slot = Held two_bytes_out; subnet = Free }

-- it holds for each ERR received by a host that is up; then: the host after storing the error, and
-- nothing else
abbrev pub OfErrorsWhileUp : (ℕ → List ℕ → Node → Type 0) → Type 0
OfErrorsWhileUp holds = (code : ℕ) (data_bytes : List ℕ) (n : Node) → is_up n.host ≡ true → holds code data_bytes n

abbrev pub keeps_error : ℕ → List ℕ → Node → Node
keeps_error code data_bytes n = record n {
  host = record n.host { came = n.host.came ++ err code data_bytes ∷ [] };
  echoes = hear_err (record { code = code; bytes = data_bytes }) n.echoes;
  violated = n.violated || false;
}
