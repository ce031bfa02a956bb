-- What two hosts said to each other: what the one saw, and what of the other is on its way to it; what the other saw, and what of
-- the one is on its way there; and the texts of both that are on their way. When all commands have come both have seen the same,
-- and of each connection the receiver counts no less than its sender.
use Rattle.std.proofs.Common.{◌≡◌, ℕ, ◌==◌, Bool, true, false, not, if◌then◌else◌, List, Option, None, Some}
use Rattle.ncp_wire.specs.declared.command.Command.{Command}
use Rattle.ncp_wire.specs.declared.command.Command.TheVariants.{Cls}
use Rattle.ncp_monitor.proofs.LinkOrder.{Sockets}
use Rattle.ncp_proof_monitor_allocation.proofs.Words.{Count}
use Rattle.ncp_proof_monitor_network.specs.Owing.{Owing}
use Rattle.ncp_proof_monitor_network.proofs.Tallied.{left_by, Faces, owed_messages, owed_bits, MatchesOwed}
use Rattle.ncp_proof_monitor_network.proofs.Said.{Said, takes_by, number_by, LegalRun, after_run, facing_shape, facing_user}
use Rattle.ncp_proof_monitor_network.proofs.UsersSaid.{IsConnected, link_between}
use Rattle.ncp_proof_monitor_network.proofs.PendingOwed.{OwesRightly}

-- ---- the texts of a side that have gone out and not come, by link: the size, and the bits

abbrev pub Afloat : Type 0
Afloat = ℕ → Option (ℕ × ℕ)

abbrev pub with_float : ℕ → Option (ℕ × ℕ) → Afloat → Afloat
with_float link o t l = if l == link then o else t l

abbrev pub float_messages : Option (ℕ × ℕ) → ℕ
float_messages None = 0
float_messages (Some text) = 1

abbrev pub float_bits : Option (ℕ × ℕ) → ℕ
float_bits None = 0
float_bits (Some text) = text.1

-- on the link of a connection
abbrev pub messages_afloat : Option ℕ → Afloat → ℕ
messages_afloat None t = 0
messages_afloat (Some link) t = float_messages (t link)

abbrev pub bits_afloat : Option ℕ → Afloat → ℕ
bits_afloat None t = 0
bits_afloat (Some link) t = float_bits (t link)

-- ---- what each of the two has seen when all commands have come: the one's is the other's, turned

-- of a connection of the one who owes this, with a text on this link
abbrev pub FacesOn : Sockets → Count → Count → List Owing → Option ℕ → Afloat → Type 0
FacesOn v received sent owing link t = Faces received sent (owed_messages v owing) (owed_bits v owing) (messages_afloat link t) (bits_afloat link t)

pub record Mirrors (x y : Said) (tx ty : Afloat) : Type 0 where
  pub shapes : (u : Sockets) → x.shapes u ≡ facing_shape (y.shapes (u.1, u.0))
  pub users : (s : Bool) (link : ℕ) → x.users s link ≡ facing_user (y.users (not s) link)
  -- where the one receives, and where it sends
  pub here : (u : Sockets) → takes_by true u ≡ true → FacesOn (u.1, u.0) (x.counts u) (y.counts (u.1, u.0)) (y.owing true) (link_between u (x.shapes u)) ty
  pub there : (u : Sockets) → takes_by false u ≡ true → FacesOn u (y.counts (u.1, u.0)) (x.counts u) (x.owing true) (link_between u (x.shapes u)) tx
  pub mine : MatchesOwed (x.owing false) (y.owing true)
  pub theirs : MatchesOwed (y.owing false) (x.owing true)

-- ---- a text that is on its way: its sender has the connection, and has not left it

pub record Sending (link size : ℕ) (x : Said) : Type 0 where
  pub by : Sockets
  pub used : x.users false link ≡ Some by
  pub asked : number_by true (x.shapes by) ≡ Some size
  pub unleft : left_by true (x.shapes by) ≡ false

abbrev pub AllSending : Said → Afloat → Type 0
AllSending x t = (link size bits : ℕ) → t link ≡ Some (size, bits) → Sending link size x

-- ---- what holds of all that was said, as either sees it

pub record Sane (x : Said) : Type 0 where
  pub fit : IsConnected x
  pub owes : (s : Bool) → OwesRightly s x.shapes x.users x.counts (x.owing s)

-- ---- x: what the one saw; hs: its commands on their way, and tx its texts; y, ks, ty: of the other

pub record ConsistentViews (x : Said) (hs : List Command) (tx : Afloat) (y : Said) (ks : List Command) (ty : Afloat) : Type 0 where
  pub here : LegalRun false ks x
  pub there : LegalRun false hs y
  pub meet : Mirrors (after_run false ks x) (after_run false hs y) tx ty
  pub goes : AllSending x tx
  pub comes : AllSending y ty
  pub sane : Sane x
  pub sane_there : Sane y

-- a sender's CLS is sent after its text has arrived
abbrev pub LeavesNoText : Command → Said → Afloat → Type 0
LeavesNoText (Cls my your) x t = (link : ℕ) → x.users false link ≡ Some (my, your) → t link ≡ None
LeavesNoText c x t = Unit {0}
