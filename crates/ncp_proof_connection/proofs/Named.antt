-- Meant for other crates too: they cite what is public here.
--
-- What names sockets names those of the connection for which it was made.
use Rattle.std.proofs.Common.{◌≡◌, ℕ, ◌==◌, Bool, true, false, ◌&&◌, nat_lt, if◌then◌else◌, List, [], ◌∷◌, ◌++◌, take, Option, None, Some, refl, subst, arith, zero, suc}
use Rattle.std.specs.Bool.{⊤}
use Rattle.std.proofs.lemmas.Bool.{both_ways, and_parts, eqb-true}
use Rattle.ncp_wire.specs.declared.command.Command.{Command}
use Rattle.ncp_wire.specs.declared.command.Command.TheVariants.{Rts, Str, Cls, All, Gvb, Ret, Inr, Ins}
use Rattle.ncp_model.specs.declared.pair.Pair.{Pair}
use Rattle.ncp_model.specs.declared.limits.TheConstants.{MAX_BY_PEER}
use Rattle.ncp_model.specs.Pairs.{sends, counterpart}
use Rattle.ncp_model.specs.Endpoint.{Endpoint}
use Rattle.ncp_model.specs.Ends.{Ends, demux_command, names_sockets}
use Rattle.ncp_model.specs.Texts.{Rfnm, Incomplete, Dead}
use Rattle.ncp_model.specs.EndpointEvents.{EndpointEvent, happens}
use Rattle.ncp_proof_endpoint.specs.Histories.{EndpointWithHistory}
use Rattle.ncp_proof_connection.specs.Connections.{Text, No_text, Away, Here, Connection, sender_does, receiver_does, is_call, command_comes, ConnectionEvent, Sender_calls, Receiver_calls, Comes_to_sender, Comes_to_receiver, Text_goes_out, Text_comes, Text_is_answered, sender_hears, receiver_hears, comes_to_sender, comes_to_receiver, occurs}
use Rattle.ncp_proof_connection.specs.Clearings.{Hosted, Occurs, changes, is_at_sender, misses, text_over, text_dropped}
use Rattle.ncp_proof_connection.specs.Finding.{SocketsFindSender, SocketsFindReceiver}
use Rattle.ncp_proof_connection.specs.Sharing.{Tagged, Shared, new_shared, tag, bringing, put_hosted, Shared_event, On, Next_to_senders, Next_to_receivers, Other_to_senders, Other_to_receivers, Senders_are_cleared, Receivers_are_cleared, All_start_empty, next_to_senders, next_to_receivers, shared_occurs, shared_from, shared}

-- this end's sockets, its own first, if any
abbrev pub is_named : Pair → Command → Bool
is_named pair (Rts receive send on) = receive == pair.local && send == pair.remote
is_named pair (Str send receive of_size) = send == pair.local && receive == pair.remote
is_named pair (Cls my your) = my == pair.local && your == pair.remote
is_named pair c = true

abbrev pub all_named : Pair → List Command → Bool
all_named pair [] = true
all_named pair (c ∷ cs) = is_named pair c && all_named pair cs

names_made : (pair : Pair) (what : EndpointEvent) (before : Option Endpoint) → all_named pair (happens pair what before).made ≡ true
names_made pair (EndpointEvent.Asks_to_send a b n full) None = grind arith
names_made pair (EndpointEvent.Asks_to_send a b n full) (Some e) = grind arith
names_made pair (EndpointEvent.Asks_to_receive a on n full) None = grind arith
names_made pair (EndpointEvent.Asks_to_receive a on n full) (Some e) = grind arith
names_made pair (EndpointEvent.Closes full) None = refl
names_made pair (EndpointEvent.Closes full) (Some e) = grind arith
names_made pair (EndpointEvent.Gives text) before = refl
names_made pair (EndpointEvent.Takes n) None = refl
names_made pair (EndpointEvent.Takes n) (Some e) = grind arith
names_made pair (EndpointEvent.Allocates a b full) None = refl
names_made pair (EndpointEvent.Allocates a b full) (Some e) = grind arith
names_made pair (EndpointEvent.Calls_back a b full) None = refl
names_made pair (EndpointEvent.Calls_back a b full) (Some e) = grind arith
names_made pair (EndpointEvent.Interrupts full) None = refl
names_made pair (EndpointEvent.Interrupts full) (Some e) = grind arith
names_made pair (EndpointEvent.Rts_comes on taken n) None = grind arith
names_made pair (EndpointEvent.Rts_comes on taken n) (Some e) = grind arith
names_made pair (EndpointEvent.Str_comes a n) None = grind arith
names_made pair (EndpointEvent.Str_comes a n) (Some e) = grind arith
names_made pair EndpointEvent.Cls_comes None = grind arith
names_made pair EndpointEvent.Cls_comes (Some e) = grind arith
names_made pair (EndpointEvent.All_comes on a b) None = refl
names_made pair (EndpointEvent.All_comes on a b) (Some e) = grind arith
names_made pair (EndpointEvent.Gvb_comes on a b) None = refl
names_made pair (EndpointEvent.Gvb_comes on a b) (Some e) = grind arith
names_made pair (EndpointEvent.Ret_comes on a b) None = refl
names_made pair (EndpointEvent.Ret_comes on a b) (Some e) = grind arith
names_made pair (EndpointEvent.Inr_comes on) None = refl
names_made pair (EndpointEvent.Inr_comes on) (Some e) = grind arith
names_made pair (EndpointEvent.Ins_comes on) None = refl
names_made pair (EndpointEvent.Ins_comes on) (Some e) = grind arith
names_made pair (EndpointEvent.Text_comes head n text) None = refl
names_made pair (EndpointEvent.Text_comes head n text) (Some e) = grind arith
names_made pair EndpointEvent.Text_goes_out before = refl
names_made pair (EndpointEvent.Is_answered Rfnm) None = refl
names_made pair (EndpointEvent.Is_answered Rfnm) (Some e) = grind arith
names_made pair (EndpointEvent.Is_answered Incomplete) before = refl
names_made pair (EndpointEvent.Is_answered Dead) before = refl
names_made pair EndpointEvent.Is_cleared before = refl

-- what a connection makes with nothing underway
record Names (q : Pair) (w : Connection) : Type 0 where
  there : all_named q w.to_receiver ≡ true
  back : all_named (counterpart q) w.to_sender ≡ true

module _ (q : Pair) (s r : EndpointWithHistory) where
  idle : (t : Text) (v : Bool) → Names q (record { sender = s; receiver = r; to_receiver = []; to_sender = []; text = t; violated = v })
  idle t v = record { there = refl; back = refl }

  sender_names : (what : EndpointEvent) (t : Text) (v : Bool) → Names q (sender_does q what (record { sender = s; receiver = r; to_receiver = []; to_sender = []; text = t; violated = v }))
  sender_names what t v = record { there = names_made q what s.end; back = refl }

  receiver_names : (what : EndpointEvent) (t : Text) (v : Bool) → Names q (receiver_does q what (record { sender = s; receiver = r; to_receiver = []; to_sender = []; text = t; violated = v }))
  receiver_names what t v = record { there = refl; back = names_made (counterpart q) what r.end }

  either : (c : Bool) (x y : Connection) → Names q x → Names q y → Names q (if c then x else y)
  either true x y k m = k
  either false x y k m = m

  names : (e : ConnectionEvent) (a b : Bool) (t : Text) (v : Bool)
      → let w : Connection = record { sender = s; receiver = r; to_receiver = []; to_sender = []; text = t; violated = v } in
      Names q (if (if is_at_sender e then a else b) then occurs q e w else misses e w)
  names (Sender_calls what) false b t v = idle t v
  names (Sender_calls what) true b t v = either (is_call what) _ _ (sender_names what t v) (idle t v)
  names (Receiver_calls what) a false t v = idle t v
  names (Receiver_calls what) a true t v = either (is_call what) _ _ (receiver_names what t v) (idle t v)
  names (Comes_to_sender m) false b t v = idle t v
  names (Comes_to_sender m) true b t v = either (nat_lt m MAX_BY_PEER) _ _ (idle t v) (idle t v)
  names (Comes_to_receiver m) a false t v = idle t v
  names (Comes_to_receiver m) a true t v = either (nat_lt m MAX_BY_PEER) _ _ (idle t v) (idle t v)
  names Text_goes_out false b t v = idle t v
  names Text_goes_out true b t v = sender_names EndpointEvent.Text_goes_out t v
  names (Text_comes head) a false t v = idle (text_dropped t) v
  names (Text_comes head) a true No_text v = idle No_text v
  names (Text_comes head) a true (Away li m bits) v = receiver_names (EndpointEvent.Text_comes head m bits) (Here li) v
  names (Text_comes head) a true (Here li) v = idle (Here li) v
  names (Text_is_answered how) false b t v = idle (text_over how t) v
  names (Text_is_answered Rfnm) true b No_text v = idle No_text v
  names (Text_is_answered Rfnm) true b (Away li m bits) v = idle (Away li m bits) v
  names (Text_is_answered Rfnm) true b (Here li) v = sender_names (EndpointEvent.Is_answered Rfnm) No_text v
  names (Text_is_answered Incomplete) true b No_text v = idle No_text v
  names (Text_is_answered Incomplete) true b (Away li m bits) v = sender_names (EndpointEvent.Is_answered Incomplete) (Away li m bits) v
  names (Text_is_answered Incomplete) true b (Here li) v = idle (Here li) v
  names (Text_is_answered Dead) true b No_text v = idle No_text v
  names (Text_is_answered Dead) true b (Away li m bits) v = sender_names (EndpointEvent.Is_answered Dead) (Away li m bits) v
  names (Text_is_answered Dead) true b (Here li) v = idle (Here li) v

  by_happening : (o : Option EndpointEvent) (t : Text) (v : Bool) → Names q (sender_hears q o (record { sender = s; receiver = r; to_receiver = []; to_sender = []; text = t; violated = v }))
  by_happening None t v = idle t v
  by_happening (Some what) t v = sender_names what t v

  by_happening_there : (o : Option EndpointEvent) (t : Text) (v : Bool) → Names q (receiver_hears q o (record { sender = s; receiver = r; to_receiver = []; to_sender = []; text = t; violated = v }))
  by_happening_there None t v = idle t v
  by_happening_there (Some what) t v = receiver_names what t v

  names_to_sender : (n : ℕ) (c : Command) (a : Bool) (t : Text) (v : Bool) → nat_lt n MAX_BY_PEER ≡ true
      → let w : Connection = record { sender = s; receiver = r; to_receiver = []; to_sender = c ∷ []; text = t; violated = v } in
      Names q (if a then (if nat_lt n MAX_BY_PEER then comes_to_sender q n (c ∷ []) w else w) else record w { to_sender = [] })
  names_to_sender n c false t v few = idle t v
  names_to_sender n c true t v few = rw few (by_happening (command_comes n c) t v)

  names_to_receiver : (n : ℕ) (c : Command) (b : Bool) (t : Text) (v : Bool) → nat_lt n MAX_BY_PEER ≡ true
      → let w : Connection = record { sender = s; receiver = r; to_receiver = c ∷ []; to_sender = []; text = t; violated = v } in
      Names q (if b then (if nat_lt n MAX_BY_PEER then comes_to_receiver q n (c ∷ []) w else w) else record w { to_receiver = [] })
  names_to_receiver n c false t v few = idle t v
  names_to_receiver n c true t v few = rw few (by_happening_there (command_comes n c) t v)

-- What is underway.

abbrev pub Named : (Pair → Pair) → List Tagged → Type 0
Named maker [] = ⊤
Named maker (c ∷ cs) = (sends c.pair ≡ true → is_named (maker c.pair) c.command ≡ true) × Named maker cs

named_more : (maker : Pair → Pair) (xs ys : List Tagged) → Named maker xs → Named maker ys → Named maker (xs ++ ys)
named_more maker [] ys k m = m
named_more maker (c ∷ xs) ys k m = (k.0, named_more maker xs ys k.1 m)

named_tag : (maker : Pair → Pair) (q : Pair) (cs : List Command) → all_named (maker q) cs ≡ true → Named maker (tag q cs)
named_tag maker q [] k = tt
named_tag maker q (c ∷ cs) k = (let f = and_parts (is_named (maker q) c) (all_named (maker q) cs) k in (λ _. f.0, named_tag maker q cs f.1))

named_cut : (maker : Pair → Pair) (n : ℕ) (xs : List Tagged) → Named maker xs → Named maker (take n xs)
named_cut maker zero [] k = tt
named_cut maker zero (c ∷ xs) k = tt
named_cut maker (suc n) [] k = tt
named_cut maker (suc n) (c ∷ xs) k = (k.0, named_cut maker n xs k.1)

pub record AllNamed (s : Shared) : Type 0 where
  pub there : Named (λ p. p) s.to_receivers
  pub back : Named counterpart s.to_senders

put_named : (q : Pair) (h : Hosted) (s : Shared) → Names q h.connection → AllNamed s → AllNamed (put_hosted q h s)
put_named q h s f k = record {
  there = named_more (λ p. p) s.to_receivers (tag q h.connection.to_receiver) k.there (named_tag (λ p. p) q h.connection.to_receiver f.there);
  back = named_more counterpart s.to_senders (tag q h.connection.to_sender) k.back (named_tag counterpart q h.connection.to_sender f.back);
}

to_senders_named : (n : ℕ) (xs : List Tagged) (s : Shared) → nat_lt n MAX_BY_PEER ≡ true → AllNamed (record s { to_senders = xs }) → AllNamed (next_to_senders n xs (record s { to_senders = xs }))
to_senders_named n [] s few k = k
to_senders_named n (c ∷ rest) s few k = go (sends c.pair)
  where
    k1 : AllNamed (record s { to_senders = rest })
    k1 = record { there = k.there; back = k.back.1 }

    h : Hosted
    h = changes c.pair (Occurs (Comes_to_sender n)) (bringing c.pair [] (c.command ∷ []) (record s { to_senders = c ∷ rest }))

    go : (b : Bool) → AllNamed (if b then put_hosted c.pair h (record s { to_senders = rest }) else record s { to_senders = rest })
    go true = put_named c.pair h (record s { to_senders = rest }) (names_to_sender c.pair (s.sender c.pair) (s.receiver c.pair) n c.command s.sends (s.text c.pair) (s.violated c.pair) few) k1
    go false = k1

to_receivers_named : (n : ℕ) (xs : List Tagged) (s : Shared) → nat_lt n MAX_BY_PEER ≡ true → AllNamed (record s { to_receivers = xs }) → AllNamed (next_to_receivers n xs (record s { to_receivers = xs }))
to_receivers_named n [] s few k = k
to_receivers_named n (c ∷ rest) s few k = go (sends c.pair)
  where
    k1 : AllNamed (record s { to_receivers = rest })
    k1 = record { there = k.there.1; back = k.back }

    h : Hosted
    h = changes c.pair (Occurs (Comes_to_receiver n)) (bringing c.pair (c.command ∷ []) [] (record s { to_receivers = c ∷ rest }))

    go : (b : Bool) → AllNamed (if b then put_hosted c.pair h (record s { to_receivers = rest }) else record s { to_receivers = rest })
    go true = put_named c.pair h (record s { to_receivers = rest }) (names_to_receiver c.pair (s.sender c.pair) (s.receiver c.pair) n c.command s.receives (s.text c.pair) (s.violated c.pair) few) k1
    go false = k1

names_keep : (e : Shared_event) (s : Shared) → AllNamed s → AllNamed (shared_occurs e s)
names_keep (On q e) s k = go (sends q)
  where
    go : (b : Bool) → AllNamed (if b then put_hosted q (changes q (Occurs e) (bringing q [] [] s)) s else s)
    go true = put_named q (changes q (Occurs e) (bringing q [] [] s)) s (names q (s.sender q) (s.receiver q) e s.sends s.receives (s.text q) (s.violated q)) k
    go false = k
names_keep (Next_to_senders n) s k = go (nat_lt n MAX_BY_PEER) refl
  where
    go : (b : Bool) → nat_lt n MAX_BY_PEER ≡ b → AllNamed (if b then next_to_senders n s.to_senders s else s)
    go true few = to_senders_named n s.to_senders s few k
    go false few = k
names_keep (Next_to_receivers n) s k = go (nat_lt n MAX_BY_PEER) refl
  where
    go : (b : Bool) → nat_lt n MAX_BY_PEER ≡ b → AllNamed (if b then next_to_receivers n s.to_receivers s else s)
    go true few = to_receivers_named n s.to_receivers s few k
    go false few = k
names_keep (Other_to_senders c) s k = go (sends c.pair) refl
  where
    go : (b : Bool) → sends c.pair ≡ b → AllNamed (if b then s else record s { to_senders = s.to_senders ++ c ∷ [] })
    go true d = k
    go false d = record { there = k.there; back = named_more counterpart s.to_senders (c ∷ []) k.back (λ e. absurd (both_ways (sends c.pair) d e), tt) }
names_keep (Other_to_receivers c) s k = go (sends c.pair) refl
  where
    go : (b : Bool) → sends c.pair ≡ b → AllNamed (if b then s else record s { to_receivers = s.to_receivers ++ c ∷ [] })
    go true d = k
    go false d = record { there = named_more (λ p. p) s.to_receivers (c ∷ []) k.there (λ e. absurd (both_ways (sends c.pair) d e), tt); back = k.back }
names_keep (Senders_are_cleared n) s k = record { there = named_cut (λ p. p) n s.to_receivers k.there; back = k.back }
names_keep (Receivers_are_cleared n) s k = record { there = k.there; back = named_cut counterpart n s.to_senders k.back }
names_keep All_start_empty s k = record { there = tt; back = tt }

names_from : (es : List Shared_event) (s : Shared) → AllNamed s → AllNamed (shared_from es s)
names_from [] s k = k
names_from (e ∷ es) s k = names_from es (shared_occurs e s) (names_keep e s k)

pub names_ever : (es : List Shared_event) → AllNamed (shared es)
names_ever es = names_from es new_shared (record { there = tt; back = tt })

-- What names sockets leads to its pair.

leads : (maker : Pair) (c : Command) (m : Ends) → is_named maker c ≡ true → names_sockets c ≡ true → demux_command c m ≡ Some (counterpart maker)
leads maker (Rts a b on) m n k = (let f = and_parts (a == maker.local) (b == maker.remote) n in rw (eqb-true a maker.local f.0, eqb-true b maker.remote f.1) refl)
leads maker (Str a b n2) m n k = (let f = and_parts (a == maker.local) (b == maker.remote) n in rw (eqb-true a maker.local f.0, eqb-true b maker.remote f.1) refl)
leads maker (Cls a b) m n k = (let f = and_parts (a == maker.local) (b == maker.remote) n in rw (eqb-true a maker.local f.0, eqb-true b maker.remote f.1) refl)
leads maker (All on x y) m n k = absurd (both_ways false refl k)
leads maker (Gvb on x y) m n k = absurd (both_ways false refl k)
leads maker (Ret on x y) m n k = absurd (both_ways false refl k)
leads maker (Inr on) m n k = absurd (both_ways false refl k)
leads maker (Ins on) m n k = absurd (both_ways false refl k)
leads maker Command.Nop m n k = absurd (both_ways false refl k)
leads maker (Command.Eco b) m n k = absurd (both_ways false refl k)
leads maker (Command.Erp b) m n k = absurd (both_ways false refl k)
leads maker (Command.Err b d) m n k = absurd (both_ways false refl k)
leads maker Command.Rst m n k = absurd (both_ways false refl k)
leads maker Command.Rrp m n k = absurd (both_ways false refl k)

pub sockets_find_sender : (s : Shared) → AllNamed s → SocketsFindSender s
sockets_find_sender s k q c rest m e sq n = leads (counterpart q) c m ((subst (λ (xs : List Tagged). Named counterpart xs) e k.back).0 sq) n

pub sockets_find_receiver : (s : Shared) → AllNamed s → SocketsFindReceiver s
sockets_find_receiver s k q c rest m e sq n = leads q c m ((subst (λ (xs : List Tagged). Named (λ p. p) xs) e k.there).0 sq) n
