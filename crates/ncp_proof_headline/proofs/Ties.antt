-- Meant for other crates too: they cite what is public here.
--
-- Two hosts, and two machines of many connections: g has the connections from n to m, and back those
-- from m to n. Each host's ends, pasts and texts are what these machines say.
use Rattle.std.proofs.Common.{◌≡◌, ℕ, Bool, true, false, List, [], ◌∷◌, ◌++◌, Option, None, Some, refl, sym, ap, ◌∙◌, subst}
use Rattle.std.specs.FinMap.{get}
use Rattle.ncp_wire.specs.declared.command.Command.{Command}
use Rattle.ncp_model.specs.declared.pair.Pair.{Pair}
use Rattle.ncp_model.specs.Pairs.{sends, is_proper, counterpart}
use Rattle.ncp_model.specs.Effect.{is_data_link}
use Rattle.ncp_proof_machine.specs.Delivery.{Slot, Empty, Ready, Travelling, Held, MessageTransit, Free, Accepted, Delivered, Lost, Dead, Link, idle}
use Rattle.ncp_proof_connection.specs.Connections.{Text, No_text, Away, Here}
use Rattle.ncp_proof_connection.specs.Sharing.{Tagged, Shared, new_shared, Shared_event, shared_occurs, shared_from, shared, MayHappen, AllMayHappen}
use Rattle.ncp_proof_connection.specs.Finding.{link_out}
use Rattle.ncp_proof_machine.specs.Hosts.{TextOut, Node}
use Rattle.ncp_proof_headline.specs.Tied.{watched_at}

-- a machine that came about by events that may happen
abbrev pub Reached : Shared → Type 0
Reached g = record { events : List Shared_event; is_it : shared events ≡ g; may : AllMayHappen events new_shared }

-- The text that a data link carries, for the machine that knows no slots.

abbrev pub in_subnet : ℕ → TextOut → MessageTransit TextOut → Text
in_subnet on t Free = No_text
in_subnet on t (Accepted u) = Away on u.of_size u.bits
in_subnet on t Delivered = Here on
in_subnet on t Lost = Away on t.of_size t.bits
in_subnet on t Dead = Away on t.of_size t.bits

abbrev pub text_on : ℕ → Slot TextOut → MessageTransit TextOut → Text
text_on on Empty s = No_text
text_on on (Ready t) s = Away on t.of_size t.bits
text_on on (Held t) s = Away on t.of_size t.bits
text_on on (Travelling t) s = in_subnet on t s

-- something is on the link, and the subnet holds it where it travels
abbrev pub Carried : Slot TextOut → MessageTransit TextOut → Type 0
Carried (Ready t) Free = Unit {0}
Carried (Held t) Free = Unit {0}
Carried (Travelling t) (Accepted u) = u ≡ t
Carried (Travelling t) Delivered = Unit {0}
Carried (Travelling t) Lost = Unit {0}
Carried (Travelling t) Dead = Unit {0}
Carried slot subnet = ⊥

-- a link is idle, or carries a text of the pair that owns it
abbrev pub Owned : ℕ → Option Pair → Link TextOut → (Pair → Text) → Type 0
Owned on None l texts = l ≡ idle
Owned on (Some p) l texts = record {
  sending : sends p ≡ true;
  data_link : is_data_link on ≡ true;
  carried : Carried l.slot l.subnet;
  text : texts p ≡ text_on on l.slot l.subnet;
}

abbrev pub Owners : Type 0
Owners = ℕ → Option Pair

abbrev pub Texts : Owners → (ℕ → Link TextOut) → (Pair → Text) → Type 0
Texts own links texts = record {
  owned : (on : ℕ) → Owned on (own on) (links on) texts;
  out : (p : Pair) (on : ℕ) → link_out (texts p) ≡ Some on → own on ≡ Some p;
}

-- one way: g has the senders of n and the receivers of m; a and b tell whether n and m are alive. An
-- end is of a proper pair
abbrev pub Way : Bool → Bool → Owners → Node → Node → Shared → Type 0
Way a b own n m g = record {
  alive : g.sends ≡ a;
  alive_too : g.receives ≡ b;
  sender : (p : Pair) → sends p ≡ true → g.sender p ≡ watched_at n p;
  receiver : (p : Pair) → sends p ≡ true → g.receiver p ≡ watched_at m (counterpart p);
  texts : Texts own n.texts g.text;
  proper : (p : Pair) → is_proper p ≡ false → get n.ends p ≡ None;
}

-- What is underway to a host that is alive, the same in both machines but that there each pair is
-- named as the other host has it. What is of no connection leads nowhere.

abbrev pub commands_of : List Tagged → List Command
commands_of [] = []
commands_of (c ∷ cs) = c.command ∷ commands_of cs

abbrev pub turn : Tagged → Tagged
turn c = record { pair = counterpart c.pair; command = c.command }

abbrev pub turn_all : List Tagged → List Tagged
turn_all [] = []
turn_all (c ∷ cs) = turn c ∷ turn_all cs

abbrev pub demuxes_nowhere : Command → Bool
demuxes_nowhere (Command.Rts receive send on) = false
demuxes_nowhere (Command.Str send receive of_size) = false
demuxes_nowhere (Command.Cls my your) = false
demuxes_nowhere (Command.All on of_messages of_bits) = false
demuxes_nowhere (Command.Gvb on of_messages of_bits) = false
demuxes_nowhere (Command.Ret on of_messages of_bits) = false
demuxes_nowhere (Command.Inr on) = false
demuxes_nowhere (Command.Ins on) = false
demuxes_nowhere c = true

abbrev pub Apt : List Tagged → Type 0
Apt [] = Unit {0}
Apt (c ∷ cs) = (is_proper c.pair ≡ false → demuxes_nowhere c.command ≡ true) × Apt cs

abbrev pub Flow : Bool → List Command → List Tagged → List Tagged → Type 0
Flow b u here there = b ≡ true → record { commands : commands_of here ≡ u; same : there ≡ turn_all here; apt : Apt here }

-- u is what lives on its way from n to m, and v on its way from m to n
abbrev pub Ties : Bool → Bool → Owners → Owners → Node → Node → List Command → List Command → Type 0
Ties a b own own' n m u v = record {
  g : Shared;
  back : Shared;
  reached : Reached g;
  reached_back : Reached back;
  there : Way a b own n m g;
  here : Way b a own' m n back;
  going : Flow b u g.to_receivers back.to_senders;
  coming : Flow a v back.to_receivers g.to_senders;
}

pub ties-counterpart : (a b : Bool) (own own' : Owners) (n m : Node) (u v : List Command) → Ties a b own own' n m u v → Ties b a own' own m n v u
ties-counterpart a b own own' n m u v t = record { g = t.back; back = t.g; reached = t.reached_back; reached_back = t.reached; there = t.here; here = t.there; going = t.coming; coming = t.going }

-- one more event
from_more : (events : List Shared_event) (e : Shared_event) (s : Shared) → shared_from (events ++ e ∷ []) s ≡ shared_occurs e (shared_from events s)
from_more [] e s = refl
from_more (d ∷ events) e s = from_more events e (shared_occurs d s)

may_more : (events : List Shared_event) (e : Shared_event) (s : Shared) → AllMayHappen events s → MayHappen e (shared_from events s) → AllMayHappen (events ++ e ∷ []) s
may_more [] e s p m = (m, tt)
may_more (d ∷ events) e s p m = (p.0, may_more events e (shared_occurs d s) p.1 m)

pub further : (g : Shared) (e : Shared_event) → Reached g → MayHappen e g → Reached (shared_occurs e g)
further g e r m = record {
  events = r.events ++ e ∷ [];
  is_it = from_more r.events e new_shared ∙ ap (shared_occurs e) r.is_it;
  may = may_more r.events e new_shared r.may (subst (MayHappen e) (sym r.is_it) m);
}

pub reached-same : (g h : Shared) → g ≡ h → Reached g → Reached h
reached-same g h e r = record { events = r.events; is_it = r.is_it ∙ e; may = r.may }
