-- A command comes to a host, and is heard by the end to which it leads: the host and the machines
-- stay tied.
use Rattle.std.proofs.Common.{◌≡◌, ℕ, Bool, true, false, cond, List, [], ◌∷◌, ◌++◌, Option, None, Some, refl, sym, ap, ◌∙◌, subst, arith}
use Rattle.std.specs.Ordering.{eq_by_cmp}
use Rattle.std.specs.FinMap.{get, insert, get-insert}
use Rattle.std.proofs.lemmas.Bool.{both_ways}
use Rattle.std.proofs.lemmas.List.{append-nil}
use Rattle.std.proofs.lemmas.Map.Views.{tells_apart}
use Rattle.ncp_wire.specs.declared.command.Command.{Command}
use Rattle.ncp_model.specs.declared.pair.Pair.{Pair}
use Rattle.ncp_model.specs.declared.outcomes.Heard.{Heard}
use Rattle.ncp_model.specs.Pairs.{pair_cmp, sends, receives, is_proper, counterpart}
use Rattle.ncp_model.specs.Endpoint.{Endpoint, or_new}
use Rattle.ncp_model.specs.Effect.{Effect, answer, made_by_hearing}
use Rattle.ncp_model.specs.Commands.{hear_rts, hear_str}
use Rattle.ncp_model.specs.Ends.{Ends, count, any, is_by_peer, hears_link, uses_link, demux_command, hear, map_after, map_after_at}
use Rattle.ncp_model.specs.Demux.{passes, comes}
use Rattle.ncp_model.specs.EndpointEvents.{EndpointEvent, Outcome, Transition, happens, happened, of_reply, of_hearing, is_violation}
use Rattle.ncp_proof_endpoint.specs.Histories.{EndpointWithHistory, PairHistory, watches}
use Rattle.ncp_proof_machine.specs.Delivery.{Link}
use Rattle.ncp_proof_connection.specs.Connections.{Text, Connection, text_after_outcome, command_comes}
use Rattle.ncp_proof_connection.specs.Finding.{link_out, Only}
use Rattle.ncp_proof_connection.specs.Sharing.{Tagged, Shared, set_at_pair, only, connection_at, shared_occurs, Next_to_senders, Next_to_receivers, hears_at, uses_at}
use Rattle.ncp_proof_machine.specs.Hosts.{Pasts, TextOut, Node, or_no_past, past_of, past_after, pasts_after, pasts_after_at, is_full_up, echo_replies}
use Rattle.ncp_model.proofs.PairOrder.{pairs_exact, pairs_total}
use Rattle.ncp_model.proofs.LinksDemux.{itself, command-led, hearer-sends, user-receives}
use Rattle.ncp_model.proofs.Lookups.{leads-there, none-any}
use Rattle.ncp_proof_machine.proofs.EndsGood.{Changes, act-changes}
use Rattle.ncp_proof_connection.proofs.Joint.{to_sender_kind, to_receiver_kind}
use Rattle.ncp_proof_connection.proofs.Lines.{Alien}
use Rattle.ncp_proof_connection.proofs.Whole.{alien_to_sender, alien_to_receiver}
use Rattle.ncp_proof_connection.proofs.Outliving.{Fit}
use Rattle.ncp_proof_connection.proofs.Projecting.{same_refl}
use Rattle.ncp_proof_connection.proofs.Found.{grant_finds, return_finds, request_fits}
use Rattle.ncp_proof_connection.proofs.Named.{AllNamed, names_ever, sockets_find_sender, sockets_find_receiver}
use Rattle.ncp_proof_headline.specs.Tied.{watched_at}
use Rattle.ncp_proof_headline.proofs.Ties.{Reached, Owned, Owners, Texts, commands_of, turn_all, demuxes_nowhere, Apt, Flow, Ties, further, reached-same}
use Rattle.ncp_proof_headline.proofs.TiesCalls.{ties-echo}
use Rattle.ncp_proof_headline.proofs.TiesBase.{Sees, all-fit, all-linked, set_same, sender_did, receiver_did, sender-acts, receiver-acts}

-- What holds of a machine that came about by events that may happen.

all-named : (g : Shared) → Reached g → AllNamed g
all-named g r = subst AllNamed r.is_it (names_ever r.events)

-- no command comes first that is not one for a sender, or for a receiver

alien-fits : (q : Pair) (sq : sends q ≡ true) (b : Bool) (c : Command) (cs : List Command) (w : Connection) → to_sender_kind c ≡ Alien → Fit q true b (record w { to_sender = c ∷ cs }) → ⊥
alien-fits q sq true c cs w d k = alien_to_sender q sq c cs w d k.core
alien-fits q sq false c cs w d k = alien_to_sender q sq c (cs ++ k.lost) (record w { receiver = k.ghost; to_receiver = k.to_ghost }) d k.inv.core

alien-fits-too : (q : Pair) (sq : sends q ≡ true) (a : Bool) (c : Command) (cs : List Command) (w : Connection) → to_receiver_kind c ≡ Alien → Fit q a true (record w { to_receiver = c ∷ cs }) → ⊥
alien-fits-too q sq true c cs w d k = alien_to_receiver q sq c cs w d k.core
alien-fits-too q sq false c cs w d k = alien_to_receiver q sq c (cs ++ k.lost) (record w { sender = k.ghost; to_sender = k.to_ghost }) d k.inv.core

no-alien : (g : Shared) (q : Pair) (c : Command) (rest : List Tagged) → Reached g → g.sends ≡ true → sends q ≡ true → g.to_senders ≡ record { pair = q; command = c } ∷ rest → to_sender_kind c ≡ Alien → ⊥
no-alien g q c rest r a sq e d =
    alien-fits q sq g.receives c (only q rest) (connection_at q g) d
    (subst (λ (x : Bool). Fit q x g.receives (record (connection_at q g) { to_sender = c ∷ only q rest })) a
    (rw (same_refl q) at (subst (λ (xs : List Tagged). Fit q g.sends g.receives (record (connection_at q g) { to_sender = only q xs })) e (all-fit g r q sq))))

no-alien-too : (g : Shared) (q : Pair) (c : Command) (rest : List Tagged) → Reached g → g.receives ≡ true → sends q ≡ true → g.to_receivers ≡ record { pair = q; command = c } ∷ rest → to_receiver_kind c ≡ Alien → ⊥
no-alien-too g q c rest r a sq e d =
    alien-fits-too q sq g.sends c (only q rest) (connection_at q g) d
    (subst (λ (x : Bool). Fit q g.sends x (record (connection_at q g) { to_receiver = c ∷ only q rest })) a
    (rw (same_refl q) at (subst (λ (xs : List Tagged). Fit q g.sends g.receives (record (connection_at q g) { to_receiver = only q xs })) e (all-fit g r q sq))))

-- The events of the machines.

hears-sender : (g : Shared) (r : Pair) (c : Command) (rest : List Tagged) (what : EndpointEvent) → Reached g → g.sends ≡ true → sends r ≡ true
    → g.to_senders ≡ record { pair = r; command = c } ∷ rest → command_comes 0 c ≡ Some what
    → Reached (sender_did r what (text_after_outcome (or_new (g.sender r).end).link (happens r what (g.sender r).end).outcome (g.text r)) (record g { to_senders = rest }))
hears-sender g r c rest what k a s e h = reached-same (shared_occurs (Next_to_senders 0) g) (sender_did r what (text_after_outcome (or_new (g.sender r).end).link (happens r what (g.sender r).end).outcome (g.text r)) (record g { to_senders = rest })) so (further g (Next_to_senders 0) k tt)
  where
    so : shared_occurs (Next_to_senders 0) g ≡ sender_did r what (text_after_outcome (or_new (g.sender r).end).link (happens r what (g.sender r).end).outcome (g.text r)) (record g { to_senders = rest })
    so = rw (e, s, a, h) refl

hears-receiver : (g : Shared) (q : Pair) (c : Command) (rest : List Tagged) (what : EndpointEvent) → Reached g → g.receives ≡ true → sends q ≡ true
    → g.to_receivers ≡ record { pair = q; command = c } ∷ rest → command_comes 0 c ≡ Some what
    → Reached (receiver_did q what (g.text q) (record g { to_receivers = rest }))
hears-receiver g q c rest what k a s e h = reached-same (shared_occurs (Next_to_receivers 0) g) (receiver_did q what (g.text q) (record g { to_receivers = rest })) so (further g (Next_to_receivers 0) k tt)
  where
    so : shared_occurs (Next_to_receivers 0) g ≡ receiver_did q what (g.text q) (record g { to_receivers = rest })
    so = rw (e, s, a, h) refl

pops-sender : (g : Shared) (r : Pair) (c : Command) (rest : List Tagged) → Reached g → sends r ≡ false → g.to_senders ≡ record { pair = r; command = c } ∷ rest → Reached (record g { to_senders = rest })
pops-sender g r c rest k s e = reached-same (shared_occurs (Next_to_senders 0) g) (record g { to_senders = rest }) so (further g (Next_to_senders 0) k tt)
  where
    so : shared_occurs (Next_to_senders 0) g ≡ record g { to_senders = rest }
    so = rw (e, s) refl

pops-receiver : (g : Shared) (q : Pair) (c : Command) (rest : List Tagged) → Reached g → sends q ≡ false → g.to_receivers ≡ record { pair = q; command = c } ∷ rest → Reached (record g { to_receivers = rest })
pops-receiver g q c rest k s e = reached-same (shared_occurs (Next_to_receivers 0) g) (record g { to_receivers = rest }) so (further g (Next_to_receivers 0) k tt)
  where
    so : shared_occurs (Next_to_receivers 0) g ≡ record g { to_receivers = rest }
    so = rw (e, s) refl

-- Where a command leads: the look-up goes over the host's ends, which are the machine's.

-- of a host's senders, and of its receivers
abbrev Senders : Shared → Node → Type 0
Senders g n = (p : Pair) → sends p ≡ true → g.sender p ≡ watched_at n p

abbrev Receivers : Shared → Node → Type 0
Receivers g n = (p : Pair) → sends p ≡ true → g.receiver p ≡ watched_at n (counterpart p)

passes-some : (test : Pair × Endpoint → Bool) (p : Pair) (o : Option Endpoint) → passes test p o ≡ true → test (p, or_new o) ≡ true
passes-some test p None h = absurd (cc h)
passes-some test p (Some e) h = h

some-passes : (test : Pair × Endpoint → Bool) (p : Pair) (o : Option Endpoint) → test (p, or_new None) ≡ false → test (p, or_new o) ≡ true → passes test p o ≡ true
some-passes test p None n h = absurd (both_ways (test (p, or_new None)) n h)
some-passes test p (Some e) n h = h

no-hearer : (on : ℕ) (p : Pair) → hears_link on (p, or_new None) ≡ false
no-hearer on p = grind arith

no-user : (on : ℕ) (p : Pair) → uses_link on (p, or_new None) ≡ false
no-user on p = grind arith

counterpart-sends : (p : Pair) → receives p ≡ true → sends (counterpart p) ≡ true
counterpart-sends p r = grind arith

-- an end sends at one of both hosts at most; where it does at neither, it is of no proper pair
one-sends : (p : Pair) → sends p ≡ true → sends (counterpart p) ≡ false
one-sends p s = grind arith

neither : (p : Pair) → sends p ≡ false → sends (counterpart p) ≡ false → is_proper p ≡ false
neither p s d = grind arith

module _ (g : Shared) (n : Node) (w : Senders g n) where
  hears-there : (on : ℕ) (p : Pair) → passes (hears_link on) p (get n.ends p) ≡ true → hears_at g on p ≡ true
  hears-there on p h =
      subst (λ (x : EndpointWithHistory). hears_link on (p, or_new x.end) ≡ true) (sym (w p (hearer-sends on p (get n.ends p) h))) (passes-some (hears_link on) p (get n.ends p) h)

  hears-here : (on : ℕ) (p : Pair) → sends p ≡ true → hears_at g on p ≡ true → passes (hears_link on) p (get n.ends p) ≡ true
  hears-here on p s h = some-passes (hears_link on) p (get n.ends p) (no-hearer on p) (subst (λ (x : EndpointWithHistory). hears_link on (p, or_new x.end) ≡ true) (w p s) h)

  none-hears : (on : ℕ) → ((p : Pair) → hears_at g on p ≡ true → ⊥) → any (hears_link on) n.ends ≡ false
  none-hears on f = none-any (hears_link on) n.ends (λ p. by_test p (passes (hears_link on) p (get n.ends p)) refl)
    where
      by_test : (p : Pair) (b : Bool) → passes (hears_link on) p (get n.ends p) ≡ b → b ≡ false
      by_test p true e = absurd (f p (hears-there on p e))
      by_test p false e = refl

  module _ (k : Reached g) (a : g.sends ≡ true) (r : Pair) (s : sends r ≡ true) (rest : List Tagged) where
    by-grant : (c : Command) (on : ℕ) → g.to_senders ≡ record { pair = r; command = c } ∷ rest → Only (hears_at g on) r → demux_command (Command.Inr on) n.ends ≡ Some r
    by-grant c on e o = leads-there (hears_link on) n.ends r (hears-here on r s o.0) (λ p h. o.1 p (hears-there on p h))

    leads-sender : (c : Command) (what : EndpointEvent) → g.to_senders ≡ record { pair = r; command = c } ∷ rest → command_comes 0 c ≡ Some what → demux_command c n.ends ≡ Some r
    leads-sender (Command.Rts x y on) what e h = sockets_find_sender g (all-named g k) r (Command.Rts x y on) rest n.ends e s refl
    leads-sender (Command.Str x y z) what e h = sockets_find_sender g (all-named g k) r (Command.Str x y z) rest n.ends e s refl
    leads-sender (Command.Cls x y) what e h = sockets_find_sender g (all-named g k) r (Command.Cls x y) rest n.ends e s refl
    leads-sender (Command.All on x y) what e h = by-grant (Command.All on x y) on e (grant_finds g (all-fit g k) (all-linked g k) a r (Command.All on x y) on rest e s refl)
    leads-sender (Command.Gvb on x y) what e h = by-grant (Command.Gvb on x y) on e (grant_finds g (all-fit g k) (all-linked g k) a r (Command.Gvb on x y) on rest e s refl)
    leads-sender (Command.Inr on) what e h = by-grant (Command.Inr on) on e (grant_finds g (all-fit g k) (all-linked g k) a r (Command.Inr on) on rest e s refl)
    leads-sender (Command.Ret on x y) what e h = absurd (no-alien g r (Command.Ret on x y) rest k a s e refl)
    leads-sender (Command.Ins on) what e h = absurd (no-alien g r (Command.Ins on) rest k a s e refl)
    leads-sender c what e h = absurd (cc h)

    -- a request's link is on no sender here
    request-free : (c : Command) → g.to_senders ≡ record { pair = r; command = c } ∷ rest → (x y on : ℕ) → c ≡ Command.Rts x y on → any (hears_link on) n.ends ≡ false
    request-free c e x y on d =
        none-hears on (request_fits g (all-fit g k) (all-linked g k) a r x y on rest (subst (λ (f : Command). g.to_senders ≡ record { pair = r; command = f } ∷ rest) d e) s)

module _ (g : Shared) (n : Node) (w : Receivers g n) where
  uses-there : (on : ℕ) (p : Pair) → passes (uses_link on) p (get n.ends p) ≡ true → uses_at g on (counterpart p) ≡ true
  uses-there on p h =
      subst (λ (x : EndpointWithHistory). uses_link on (p, or_new x.end) ≡ true) (sym (w (counterpart p) (counterpart-sends p (user-receives on p (get n.ends p) h)))) (passes-some (uses_link on) p (get n.ends p) h)

  uses-here : (on : ℕ) (q : Pair) → sends q ≡ true → uses_at g on q ≡ true → passes (uses_link on) (counterpart q) (get n.ends (counterpart q)) ≡ true
  uses-here on q s h = some-passes (uses_link on) (counterpart q) (get n.ends (counterpart q)) (no-user on (counterpart q)) (subst (λ (x : EndpointWithHistory). uses_link on (counterpart q, or_new x.end) ≡ true) (w q s) h)

  module _ (k : Reached g) (a : g.receives ≡ true) (q : Pair) (s : sends q ≡ true) (rest : List Tagged) where
    by-return : (on : ℕ) → Only (uses_at g on) q → demux_command (Command.Ins on) n.ends ≡ Some (counterpart q)
    by-return on o = leads-there (uses_link on) n.ends (counterpart q) (uses-here on q s o.0) (λ p h. ap counterpart (o.1 (counterpart p) (uses-there on p h)))

    leads-receiver : (c : Command) (what : EndpointEvent) → g.to_receivers ≡ record { pair = q; command = c } ∷ rest → command_comes 0 c ≡ Some what → demux_command c n.ends ≡ Some (counterpart q)
    leads-receiver (Command.Rts x y on) what e h = sockets_find_receiver g (all-named g k) q (Command.Rts x y on) rest n.ends e s refl
    leads-receiver (Command.Str x y z) what e h = sockets_find_receiver g (all-named g k) q (Command.Str x y z) rest n.ends e s refl
    leads-receiver (Command.Cls x y) what e h = sockets_find_receiver g (all-named g k) q (Command.Cls x y) rest n.ends e s refl
    leads-receiver (Command.Ret on x y) what e h = by-return on (return_finds g (all-fit g k) (all-linked g k) a q (Command.Ret on x y) on rest e s refl)
    leads-receiver (Command.Ins on) what e h = by-return on (return_finds g (all-fit g k) (all-linked g k) a q (Command.Ins on) on rest e s refl)
    leads-receiver (Command.All on x y) what e h = absurd (no-alien-too g q (Command.All on x y) rest k a s e refl)
    leads-receiver (Command.Gvb on x y) what e h = absurd (no-alien-too g q (Command.Gvb on x y) rest k a s e refl)
    leads-receiver (Command.Inr on) what e h = absurd (no-alien-too g q (Command.Inr on) rest k a s e refl)
    leads-receiver c what e h = absurd (cc h)

    -- no request for a sender comes to a receiver
    no-request : (c : Command) → g.to_receivers ≡ record { pair = q; command = c } ∷ rest → (x y on : ℕ) → c ≡ Command.Rts x y on → ⊥
    no-request c e x y on d = no-alien-too g q (Command.Rts x y on) rest k a s (subst (λ (f : Command). g.to_receivers ≡ record { pair = q; command = f } ∷ rest) d e) refl

-- What is heard at the end, for the host and for the machine: a machine counts no other ends, and
-- where the host is not full the count makes no difference.

few-rts : (pair : Pair) (on k : ℕ) (before : Option Endpoint) → is_full_up (answer (hear_rts pair on false k before)) ≡ false → hear_rts pair on false k before ≡ hear_rts pair on false 0 before
few-rts pair on k None f = grind arith
few-rts pair on k (Some e) f = refl

few-str : (pair : Pair) (size k : ℕ) (before : Option Endpoint) → is_full_up (answer (hear_str pair size k before)) ≡ false → hear_str pair size k before ≡ hear_str pair size 0 before
few-str pair size k None f = grind arith
few-str pair size k (Some e) f = refl

-- a command leads to this pair, where this happens by it
record Meets (c : Command) (m : Ends) (pair : Pair) (what : EndpointEvent) : Type 0 where
  led : demux_command c m ≡ Some pair
  its : EndpointEvent
  comes_as : comes c m ≡ Some its
  agree : happens pair what (get m pair) ≡ happened (get m pair) (hear c m) made_by_hearing of_hearing
  past : (past : PairHistory) → past_after (get m pair) its (happens pair its (get m pair)) past ≡ past_after (get m pair) what (happens pair what (get m pair)) past

-- of a command that is for the host what it is for the machine
plainly : (c : Command) (m : Ends) (pair : Pair) (what : EndpointEvent) → demux_command c m ≡ Some pair → comes c m ≡ Some what → Meets c m pair what
plainly c m pair what e f = record { led = e; its = what; comes_as = f; agree = (command-led m c pair what e f).1; past = λ past. refl }

rts-meets : (x y on : ℕ) (m : Ends) → any (hears_link on) m ≡ false → is_full_up (answer (hear (Command.Rts x y on) m)) ≡ false
    → Meets (Command.Rts x y on) m (record { local = y; remote = x }) (EndpointEvent.Rts_comes on false 0)
rts-meets x y on m t f = record {
  led = refl;
  its = EndpointEvent.Rts_comes on (any (hears_link on) m) (count is_by_peer m);
  comes_as = refl;
  agree = ap (λ (act : Effect Heard). happened (get m pair) act made_by_hearing of_hearing) same_act;
  past = λ past. ap (λ (act : Effect Heard). past_after (get m pair) (EndpointEvent.Rts_comes on false 0) (happened (get m pair) act made_by_hearing of_hearing) past) (sym same_act);
}
  where
    pair : Pair
    pair = record { local = y; remote = x }

    same_act : hear_rts pair on false 0 (get m pair) ≡ hear_rts pair on (any (hears_link on) m) (count is_by_peer m) (get m pair)
    same_act = sym (ap (λ (b : Bool). hear_rts pair on b (count is_by_peer m) (get m pair)) t
        ∙ few-rts pair on (count is_by_peer m) (get m pair) (subst (λ (b : Bool). is_full_up (answer (hear_rts pair on b (count is_by_peer m) (get m pair))) ≡ false) t f))

str-meets : (x y size : ℕ) (m : Ends) → is_full_up (answer (hear (Command.Str x y size) m)) ≡ false
    → Meets (Command.Str x y size) m (record { local = y; remote = x }) (EndpointEvent.Str_comes size 0)
str-meets x y size m f = record {
  led = refl;
  its = EndpointEvent.Str_comes size (count is_by_peer m);
  comes_as = refl;
  agree = ap (λ (act : Effect Heard). happened (get m pair) act made_by_hearing of_hearing) same_act;
  past = λ past. ap (λ (act : Effect Heard). past_after (get m pair) (EndpointEvent.Str_comes size 0) (happened (get m pair) act made_by_hearing of_hearing) past) (sym same_act);
}
  where
    pair : Pair
    pair = record { local = y; remote = x }

    same_act : hear_str pair size 0 (get m pair) ≡ hear_str pair size (count is_by_peer m) (get m pair)
    same_act = sym (few-str pair size (count is_by_peer m) (get m pair) f)

becomes : (c : Command) (m : Ends) (p pair : Pair) (w what : EndpointEvent) → Some p ≡ Some pair → Some w ≡ Some what → Meets c m p w → Meets c m pair what
becomes c m p pair w what e f h =
    let s : p ≡ pair = cc e in
    let t : w ≡ what = cc f in
    subst (λ q. Meets c m q what) s (subst (λ v. Meets c m p v) t h)

meets : (c : Command) (m : Ends) (pair : Pair) (what : EndpointEvent) → demux_command c m ≡ Some pair → command_comes 0 c ≡ Some what → is_full_up (answer (hear c m)) ≡ false
    → ((x y on : ℕ) → c ≡ Command.Rts x y on → any (hears_link on) m ≡ false) → Meets c m pair what
meets (Command.Rts x y on) m pair what e h f t = becomes (Command.Rts x y on) m (record { local = y; remote = x }) pair (EndpointEvent.Rts_comes on false 0) what e h (rts-meets x y on m (t x y on refl) f)
meets (Command.Str x y size) m pair what e h f t = becomes (Command.Str x y size) m (record { local = y; remote = x }) pair (EndpointEvent.Str_comes size 0) what e h (str-meets x y size m f)
meets (Command.Cls x y) m pair what e h f t = plainly (Command.Cls x y) m pair what e h
meets (Command.All on x y) m pair what e h f t = plainly (Command.All on x y) m pair what e h
meets (Command.Gvb on x y) m pair what e h f t = plainly (Command.Gvb on x y) m pair what e h
meets (Command.Ret on x y) m pair what e h f t = plainly (Command.Ret on x y) m pair what e h
meets (Command.Inr on) m pair what e h f t = plainly (Command.Inr on) m pair what e h
meets (Command.Ins on) m pair what e h f t = plainly (Command.Ins on) m pair what e h
meets c m pair what e h f t = absurd (cc h)

-- The host afterwards.

abbrev heard_by : Command → Node → Node
heard_by c n = record n { ends = map_after_at n.ends (demux_command c n.ends) (hear c n.ends); pasts = pasts_after_at (demux_command c n.ends) (comes c n.ends) n.ends n.pasts }

-- the histories after one was put at a pair
past-at : (pasts : Pasts) (pair : Pair) (x : PairHistory) → past_of (insert pasts pair x) pair ≡ x
past-at pasts pair x = ap or_no_past (get-insert pairs_total pasts pair x pair ∙ ap (λ b. cond b (Some x) (get pasts pair)) (itself pair))

past-beside : (pasts : Pasts) (pair : Pair) (x : PairHistory) (q : Pair) → ((q ≡ pair) → ⊥) → past_of (insert pasts pair x) q ≡ past_of pasts q
past-beside pasts pair x q d = ap or_no_past (get-insert pairs_total pasts pair x q ∙ ap (λ b. cond b (Some x) (get pasts q)) (other (eq_by_cmp pair_cmp q pair) refl))
  where
    other : (b : Bool) → eq_by_cmp pair_cmp q pair ≡ b → eq_by_cmp pair_cmp q pair ≡ false
    other true t = absurd (d (tells_apart pairs_exact q pair t))
    other false t = t

both-watched : (x y : EndpointWithHistory) → x.end ≡ y.end → x.past ≡ y.past → x ≡ y
both-watched x y e f = ap with_end e ∙ ap with_past f
  where
    with_end : Option Endpoint → EndpointWithHistory
    with_end o = record { end = o; past = x.past }

    with_past : PairHistory → EndpointWithHistory
    with_past o = record { end = y.end; past = o }

sees-act : (n : Node) (pair : Pair) (what its : EndpointEvent) (act : Effect Heard) → happens pair what (get n.ends pair) ≡ happened (get n.ends pair) act made_by_hearing of_hearing
    → ((past : PairHistory) → past_after (get n.ends pair) its (happens pair its (get n.ends pair)) past ≡ past_after (get n.ends pair) what (happens pair what (get n.ends pair)) past)
    → Sees n (record n { ends = map_after n.ends pair act; pasts = pasts_after pair its n.ends n.pasts }) pair what
sees-act n pair what its act e f = record { at_it = at_it; beside = beside }
  where
    ch : Changes n.ends (map_after n.ends pair act) pair what
    ch = act-changes n.ends pair what act (ap (λ (d : Transition). d.after) e)

    new : PairHistory
    new = past_after (get n.ends pair) its (happens pair its (get n.ends pair)) (past_of n.pasts pair)

    at_it : watched_at (record n { ends = map_after n.ends pair act; pasts = pasts_after pair its n.ends n.pasts }) pair ≡ watches pair what (watched_at n pair)
    at_it = both-watched (watched_at (record n { ends = map_after n.ends pair act; pasts = pasts_after pair its n.ends n.pasts }) pair) (watches pair what (watched_at n pair)) ch.there (past-at n.pasts pair new ∙ f (past_of n.pasts pair))

    beside : (q : Pair) → ((q ≡ pair) → ⊥) → watched_at (record n { ends = map_after n.ends pair act; pasts = pasts_after pair its n.ends n.pasts }) q ≡ watched_at n q
    beside q d = both-watched (watched_at (record n { ends = map_after n.ends pair act; pasts = pasts_after pair its n.ends n.pasts }) q) (watched_at n q) (ch.elsewhere q d) (past-beside n.pasts pair new q d)

sees : (n : Node) (c : Command) (pair : Pair) (what : EndpointEvent) → Meets c n.ends pair what → Sees n (heard_by c n) pair what
sees n c pair what k =
    subst (λ (o : Option Pair). Sees n (record n { ends = map_after_at n.ends o (hear c n.ends); pasts = pasts_after_at o (comes c n.ends) n.ends n.pasts }) pair what) (sym k.led)
    (subst (λ (o : Option EndpointEvent). Sees n (record n { ends = map_after n.ends pair (hear c n.ends); pasts = pasts_after_at (Some pair) o n.ends n.pasts }) pair what) (sym k.comes_as)
    (sees-act n pair what k.its (hear c n.ends) k.agree k.past))

-- What is heard sends no text.

reply-text : (on : ℕ) (c : Command) (t : Text) → text_after_outcome on (of_reply c) t ≡ t
reply-text on (Command.Err code bytes) t = refl
reply-text on c t = refl

hearing-text : (on : ℕ) (h : Heard) (t : Text) → text_after_outcome on (of_hearing h) t ≡ t
hearing-text on Heard.Nothing t = refl
hearing-text on (Heard.Reply c) t = reply-text on c t
hearing-text on Heard.Late t = refl
hearing-text on Heard.Full t = refl

-- texts that are the same for each pair
same-owned : (on : ℕ) (o : Option Pair) (l : Link TextOut) (f h : Pair → Text) → ((p : Pair) → h p ≡ f p) → Owned on o l f → Owned on o l h
same-owned on None l f h e x = x
same-owned on (Some p) l f h e x = record { sending = x.sending; data_link = x.data_link; carried = x.carried; text = e p ∙ x.text }

same-texts : (own : Owners) (links : ℕ → Link TextOut) (f h : Pair → Text) → ((p : Pair) → h p ≡ f p) → Texts own links f → Texts own links h
same-texts own links f h e x = record {
  owned = λ on. same-owned on (own on) (links on) f h e (x.owned on);
  out = λ p on k. x.out p on (ap link_out (sym (e p)) ∙ k);
}

set-text : (p : Pair) (t : Text) (f : Pair → Text) → t ≡ f p → (q : Pair) → set_at_pair p t f q ≡ f q
set-text p t f e q = ap (λ (s : Text). set_at_pair p s f q) e ∙ set_same p q f

-- What leads nowhere does nothing at an end; an ECO is answered.

no-reply : (c : Command) (what : EndpointEvent) → command_comes 0 c ≡ Some what → echo_replies c ≡ []
no-reply (Command.Eco byte) what h = absurd (cc h)
no-reply c what h = refl

-- the host hears a command, and stays tied
abbrev Hears : Bool → Bool → Owners → Owners → Node → Node → List Command → List Command → Command → Type 0
Hears a b own own' n m u v c = record {
  ties : Ties a b own own' (record n { ends = map_after_at n.ends (demux_command c n.ends) (hear c n.ends); pasts = pasts_after_at (demux_command c n.ends) (comes c n.ends) n.ends n.pasts }) m (u ++ (made_by_hearing (answer (hear c n.ends)) ++ echo_replies c)) v;
  safe : is_violation (of_hearing (answer (hear c n.ends))) ≡ false;
}

module _ (a b : Bool) (own own' : Owners) (n m : Node) (u v : List Command) where
  silent : (u' : List Command) → u' ≡ [] → Ties a b own own' n m u v → Ties a b own own' n m (u ++ u') v
  silent u' e t = subst (λ (l : List Command). Ties a b own own' n m l v) (sym (ap (λ (l : List Command). u ++ l) e ∙ append-nil u)) t

  heard-nowhere : (c : Command) → demuxes_nowhere c ≡ true → Ties a b own own' n m u v → Hears a b own own' n m u v c
  heard-nowhere (Command.Eco byte) e t = record { ties = ties-echo a b own own' n m u v (Command.Erp byte) refl t; safe = refl }
  heard-nowhere (Command.Rts x y z) e t = absurd (cc e)
  heard-nowhere (Command.Str x y z) e t = absurd (cc e)
  heard-nowhere (Command.Cls x y) e t = absurd (cc e)
  heard-nowhere (Command.All x y z) e t = absurd (cc e)
  heard-nowhere (Command.Gvb x y z) e t = absurd (cc e)
  heard-nowhere (Command.Ret x y z) e t = absurd (cc e)
  heard-nowhere (Command.Inr x) e t = absurd (cc e)
  heard-nowhere (Command.Ins x) e t = absurd (cc e)
  heard-nowhere c e t = record { ties = silent [] refl t; safe = refl }

  -- what happened at the pair is what was heard
  as-heard : (c : Command) (pair : Pair) (what : EndpointEvent) → Meets c n.ends pair what → command_comes 0 c ≡ Some what
      → record { ties : Ties a b own own' (heard_by c n) m (u ++ (happens pair what (get n.ends pair)).made) v; safe : is_violation (happens pair what (get n.ends pair)).outcome ≡ false }
      → Hears a b own own' n m u v c
  as-heard c pair what k h t = record {
    ties = subst (λ (l : List Command). Ties a b own own' (heard_by c n) m (u ++ l) v) made t.ties;
    safe = subst (λ (o : Outcome). is_violation o ≡ false) (ap (λ (d : Transition). d.outcome) k.agree) t.safe;
  }
    where
      made : (happens pair what (get n.ends pair)).made ≡ made_by_hearing (answer (hear c n.ends)) ++ echo_replies c
      made = ap (λ (d : Transition). d.made) k.agree ∙ (sym (append-nil (made_by_hearing (answer (hear c n.ends)))) ∙ ap (λ (l : List Command). made_by_hearing (answer (hear c n.ends)) ++ l) (sym (no-reply c what h)))

  module _ (c : Command) (up : a ≡ true) (fit : is_full_up (answer (hear c n.ends)) ≡ false) (t : Ties a b own own' n m u (c ∷ v)) (q : Pair) (rest : List Tagged)
      (e : t.back.to_receivers ≡ record { pair = q; command = c } ∷ rest) where
    f : record { commands : commands_of t.back.to_receivers ≡ c ∷ v; same : t.g.to_senders ≡ turn_all t.back.to_receivers; apt : Apt t.back.to_receivers }
    f = t.coming up

    -- what comes to the senders of n
    e' : t.g.to_senders ≡ record { pair = counterpart q; command = c } ∷ turn_all rest
    e' = f.same ∙ ap turn_all e

    apt : Apt (record { pair = q; command = c } ∷ rest)
    apt = subst Apt e f.apt

    -- what else comes
    later : Flow a v rest (turn_all rest)
    later k = record { commands = tails (sym (ap commands_of e) ∙ f.commands); same = refl; apt = apt.1 }
      where
        tails : c ∷ commands_of rest ≡ c ∷ v → commands_of rest ≡ v
        tails d = cc d

    g_sends : t.g.sends ≡ true
    g_sends = t.there.alive ∙ up

    back_receives : t.back.receives ≡ true
    back_receives = t.here.alive_too ∙ up

    -- it is for a sender of n
    to-sender : (what : EndpointEvent) → command_comes 0 c ≡ Some what → sends (counterpart q) ≡ true → sends q ≡ false → Hears a b own own' n m u v c
    to-sender what h s d =
        let r : Pair = counterpart q in
        let x : Text = text_after_outcome (or_new (t.g.sender r).end).link (happens r what (t.g.sender r).end).outcome (t.g.text r) in
        let g1 : Shared = record t.g { to_senders = turn_all rest } in
        let back1 : Shared = record t.back { to_receivers = rest } in
        let l : demux_command c n.ends ≡ Some r = leads-sender t.g n t.there.sender t.reached g_sends r s (turn_all rest) c what e' h in
        let k : Meets c n.ends r what = meets c n.ends r what l h fit (request-free t.g n t.there.sender t.reached g_sends r s (turn_all rest) c e') in
        let o : (happens r what (t.g.sender r).end).outcome ≡ of_hearing (answer (hear c n.ends)) = ap (λ (y : EndpointWithHistory). (happens r what y.end).outcome) (t.there.sender r s) ∙ ap (λ (y : Transition). y.outcome) k.agree in
        let still : x ≡ t.g.text r = ap (λ (y : Outcome). text_after_outcome (or_new (t.g.sender r).end).link y (t.g.text r)) o ∙ hearing-text (or_new (t.g.sender r).end).link (answer (hear c n.ends)) (t.g.text r) in
        as-heard c r what k h
        (sender-acts a b own own' n (heard_by c n) m u v what g1 back1 r x own s t.there t.here t.going later
        (hears-sender t.g r c (turn_all rest) what t.reached g_sends s e' h) (pops-receiver t.back q c rest t.reached_back d e)
        (sees n c r what k) (same-texts own n.texts t.g.text (set_at_pair r x t.g.text) (set-text r x t.g.text still) t.there.texts))

    -- it is for a receiver of n
    to-receiver : (what : EndpointEvent) → command_comes 0 c ≡ Some what → sends q ≡ true → sends (counterpart q) ≡ false → Hears a b own own' n m u v c
    to-receiver what h s d =
        let g1 : Shared = record t.g { to_senders = turn_all rest } in
        let back1 : Shared = record t.back { to_receivers = rest } in
        let l : demux_command c n.ends ≡ Some (counterpart q) = leads-receiver t.back n t.here.receiver t.reached_back back_receives q s rest c what e h in
        let k : Meets c n.ends (counterpart q) what = meets c n.ends (counterpart q) what l h fit (λ x y on i. absurd (no-request t.back n t.here.receiver t.reached_back back_receives q s rest c e x y on i)) in
        as-heard c (counterpart q) what k h
        (receiver-acts a b own own' n (heard_by c n) m u v what g1 back1 m q (t.back.text q) own' s t.there t.here t.going later
        (pops-sender t.g (counterpart q) c (turn_all rest) t.reached d e') (hears-receiver t.back q c rest what t.reached_back back_receives s e h)
        (sees n c (counterpart q) what k) (λ p. refl) t.there.texts
        (same-texts own' m.texts t.back.text (set_at_pair q (t.back.text q) t.back.text) (set-text q (t.back.text q) t.back.text refl) t.here.texts))

    -- it is for neither
    to-none : sends q ≡ false → sends (counterpart q) ≡ false → Hears a b own own' n m u v c
    to-none d d' = heard-nowhere c (apt.0 (neither q d d')) (record {
      g = record t.g { to_senders = turn_all rest };
      back = record t.back { to_receivers = rest };
      reached = pops-sender t.g (counterpart q) c (turn_all rest) t.reached d' e';
      reached_back = pops-receiver t.back q c rest t.reached_back d e;
      there = t.there;
      here = t.here;
      going = t.going;
      coming = later;
    })

    -- what leads nowhere is for neither
    not-to-sender : command_comes 0 c ≡ None → sends (counterpart q) ≡ true → ⊥
    not-to-sender h s = no-alien t.g (counterpart q) c (turn_all rest) t.reached g_sends s e' (alien c h)
      where
        alien : (c : Command) → command_comes 0 c ≡ None → to_sender_kind c ≡ Alien
        alien c h = grind arith

    not-to-receiver : command_comes 0 c ≡ None → sends q ≡ true → ⊥
    not-to-receiver h s = no-alien-too t.back q c rest t.reached_back back_receives s e (alien c h)
      where
        alien : (c : Command) → command_comes 0 c ≡ None → to_receiver_kind c ≡ Alien
        alien c h = grind arith

    to-any : Hears a b own own' n m u v c
    to-any = go (command_comes 0 c) refl (sends q) refl (sends (counterpart q)) refl
      where
        go : (o : Option EndpointEvent) → command_comes 0 c ≡ o → (x : Bool) → sends q ≡ x → (y : Bool) → sends (counterpart q) ≡ y → Hears a b own own' n m u v c
        go o h true s true s' = absurd (both_ways (sends (counterpart q)) (one-sends q s) s')
        go o h false s false s' = to-none s s'
        go (Some what) h true s false s' = to-receiver what h s s'
        go (Some what) h false s true s' = to-sender what h s' s
        go None h true s false s' = absurd (not-to-receiver h s)
        go None h false s true s' = absurd (not-to-sender h s')

-- A command comes, and the host is not full.
pub ties-hears : (a b : Bool) (own own' : Owners) (n m : Node) (u v : List Command) (c : Command) → a ≡ true → is_full_up (answer (hear c n.ends)) ≡ false → Ties a b own own' n m u (c ∷ v)
    → record {
      ties : Ties a b own own' (record n { ends = map_after_at n.ends (demux_command c n.ends) (hear c n.ends); pasts = pasts_after_at (demux_command c n.ends) (comes c n.ends) n.ends n.pasts }) m (u ++ (made_by_hearing (answer (hear c n.ends)) ++ echo_replies c)) v;
      safe : is_violation (of_hearing (answer (hear c n.ends))) ≡ false;
    }
ties-hears a b own own' n m u v c up fit t = go t.back.to_receivers refl
  where
    go : (xs : List Tagged) → t.back.to_receivers ≡ xs → Hears a b own own' n m u v c
    go [] e = let k : [] ≡ c ∷ v = sym (ap commands_of e) ∙ (t.coming up).commands in absurd (cc k)
    go (x ∷ rest) e =
        let k : x.command ∷ commands_of rest ≡ c ∷ v = sym (ap commands_of e) ∙ (t.coming up).commands in
        let one : x.command ≡ c = cc k in
        to-any a b own own' n m u v c up fit t x.pair rest (e ∙ ap (λ (d : Command). record { pair = x.pair; command = d } ∷ rest) one)
