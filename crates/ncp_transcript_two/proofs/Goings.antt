-- A message goes out: the model sends the same.
use Rattle.std.proofs.Common.{◌≡◌, ◌<◌, ◌≤◌, ℕ, ◌+◌, ◌^◌, ◌==◌, Bool, true, false, if◌then◌else◌, List, [], ◌∷◌, length, take, drop, slice_range, not, nat_le, ◌-◌, All, Option, None, Some, refl, sym, ap, ◌∙◌, arith, subst}
use Rattle.std.specs.List.{list_all}
use Rattle.std.proofs.lemmas.Bool.{both_ways, eqb-true, leb-true}
use Rattle.ncp_numbers.specs.Bytes.{bits_of_bytes}
use Rattle.ncp_wire.specs.declared.command.Command.{Command}
use Rattle.ncp_wire.specs.Spelling.{spellings}
use Rattle.ncp_slot.specs.Slots.{LinkSlot}
use Rattle.ncp_slot.specs.declared.slot.Slot.TheVariants as slots
use Rattle.ncp_slot.proofs.Places.{slot_at-with_slot_same}
use Rattle.ncp_peer.specs.Hearing.{is_wrong_link}
use Rattle.ncp_peer.specs.Output.{message_to, first_or, first_output, output_on, output_by, made_on, control_message, text_message, after_by, after_output, links, next_of}
use Rattle.ncp_slot.specs.Slots.{LinkSlots, slot_at, with_slot}
use Rattle.ncp_proof_machine.specs.Delivery.{Link}
use Rattle.ncp_proof_machine.specs.Delivery as model
use Rattle.ncp_proof_machine.specs.Resets.{This}
use Rattle.ncp_model.specs.Peers.{Peer}
use Rattle.ncp_model.specs.Peers as peers
use Rattle.ncp_proof_machine.specs.Hosts.{TextOut, Node, set_link, peer_of}
use Rattle.ncp_proof_machine.specs.Hosts as hosts
use Rattle.ncp_peer.specs.PeerState.{PeerState}
use Rattle.ncp_transcript_two.specs.Subnet.{Accepted, TransitByLink, set_at}
use Rattle.ncp_transcript_two.specs.World.{World, Out}
use Rattle.ncp_proof_machine.specs.Moving.{put_if_any, first_waiting, as_text}
use Rattle.ncp_slot.specs.Slot.{ready_message}
use Rattle.ncp_transcript_two.specs.Tie.{Nowhere, Goes, model_of, control_bits, text_as_message, AreCommands, IsTextOn, Represents, IsReachable, Goes_on, Refines}
use Rattle.ncp_transcript_two.proofs.Ties.{Follows}
use Rattle.ncp_transcript_two.proofs.Well.{sends-well, cuts-well, cut-written, EndsWell}
use Rattle.ncp_transcript_two.proofs.Reaching.{good-here}
use Rattle.ncp_transcript_two.proofs.Comings.{small}
use Rattle.ncp_numbers.specs.Numbers.{number_of, bits_of}
use Rattle.ncp_numbers.proofs.Fields.{number_of-fitting}
use Rattle.ncp_model.specs.Sending.{fitting, next_commands}
use Rattle.ncp_proof_machine.specs.Resets as resets
use Rattle.std.proofs.lemmas.Bool.{and_parts}
use Rattle.std.proofs.lemmas.List.{length-append}
use Rattle.std.proofs.lemmas.List.Elements.{All-take}
use Rattle.ncp_model.specs.Effect.{answer}
use Rattle.ncp_model.specs.Ends.{cut_in, map_after_at, pair_of, sender_on}
use Rattle.ncp_wire.specs.Spelling.{spelling, IsCommand}
use Rattle.ncp_transcript_two.specs.Subnet.{link_in}
use Rattle.ncp_transcript_two.specs.Tie.{FieldsInRange}
use Rattle.ncp_transcript_two.proofs.Links.{carried, nothing, Again, again, texts_changed, set_at-apart, set_at-same, set_link-apart, set_link-same, with_slot-apart, zero_distinct}

-- the message that goes out is one that is ready on its link

abbrev pub Found : ℕ → PeerState → ℕ × List Bool → Type 0
Found number s out = (not (is_wrong_link out.0) ≡ true) × (output_on number out.0 s ≡ Some out.1)

pub found : (number : ℕ) (ons : List ℕ) (s : PeerState) (out : ℕ × List Bool) → first_output number ons s ≡ Some out → list_all (λ (k : ℕ). not (is_wrong_link k)) ons ≡ true → Found number s out
unfolding first_output
found number [] s out e l = absurd (cc e)
found number (on ∷ ons) s out e l = go (output_on number on s) refl e (λ d. found number ons s out d (and_parts (not (is_wrong_link on)) (list_all (λ (k : ℕ). not (is_wrong_link k)) ons) l).1)
  where
    go : (o : Option (List Bool)) → output_on number on s ≡ o → first_or on o (first_output number ons s) ≡ Some out → (first_output number ons s ≡ Some out → Found number s out) → Found number s out
    go None q e rest = rest e
    go (Some m) q e rest =
        let p : (on, m) ≡ out = cc e in
        subst (λ (o : ℕ × List Bool). Found number s o) p ((and_parts (not (is_wrong_link on)) (list_all (λ (k : ℕ). not (is_wrong_link k)) ons) l).0, q)

pub not_true : (b : Bool) → not b ≡ true → b ≡ false
not_true true e = absurd (cc e)
not_true false e = refl

pub links-right : list_all (λ (k : ℕ). not (is_wrong_link k)) links ≡ true
links-right = refl

-- the link of what was written

at_link : (number on size : ℕ) (text : List Bool) → slice_range (message_to number on size text) 16 24 ≡ bits_of 8 on
unfolding bits_of
at_link number on size text = refl

pub link-of : (number on size : ℕ) (text : List Bool) → on < 2 ^ 8 → link_in (message_to number on size text) ≡ on
link-of number on size text o = ap number_of (at_link number on size text) ∙ number_of-fitting 8 on o

-- the commands of a message are the first that wait, and few

fitting-take : (room : ℕ) (cs : List Command) → fitting room cs ≡ take (length (fitting room cs)) cs
fitting-take room [] = refl
fitting-take room (c ∷ cs) = go (nat_le (length (spelling c)) room) (fitting-take (room - length (spelling c)) cs)
  where
    go : (b : Bool) → fitting (room - length (spelling c)) cs ≡ take (length (fitting (room - length (spelling c)) cs)) cs → (if b then c ∷ fitting (room - length (spelling c)) cs else []) ≡ take (length (if b then c ∷ fitting (room - length (spelling c)) cs else [])) (c ∷ cs)
    go true r = ap (λ (ds : List Command). c ∷ ds) r
    go false r = refl

fitting-few : (room : ℕ) (cs : List Command) → length (spellings (fitting room cs)) ≤ room
fitting-few room [] = omega arith
fitting-few room (c ∷ cs) = go (nat_le (length (spelling c)) room) refl (fitting-few (room - length (spelling c)) cs)
  where
    go : (b : Bool) → nat_le (length (spelling c)) room ≡ b → length (spellings (fitting (room - length (spelling c)) cs)) ≤ room - length (spelling c) → length (spellings (if b then c ∷ fitting (room - length (spelling c)) cs else [])) ≤ room
    go true e more =
        let few : length (spelling c) ≤ room = leb-true (length (spelling c)) room e in
        let sum = length-append (spelling c) (spellings (fitting (room - length (spelling c)) cs)) in
        omega (arith, few, more, sum)
    go false e more = omega arith

next-are : (cs : List Command) → All IsCommand cs → AreCommands (next_commands cs)
next-are cs a = (subst (λ (ds : List Command). All IsCommand ds) (sym (fitting-take 120 cs)) (All-take IsCommand (length (next_commands cs)) cs a), fitting-few 120 cs)

-- how a host stands once a message is out

control-out : (w : hosts.TwoNodes) (v : World) → Refines w v → (n : Node) (cs : List Command) (p : Peer) (m : List Bool)
    → n.control ≡ model_of (Goes cs) → n.texts ≡ w.this.texts → m ≡ control_bits v.there cs → AreCommands cs → p ≡ peer_of n → FieldsInRange p
    → Represents v.there n (record v.this { slots = with_slot v.this.slots 0 (slots.Travelling m); peer = p }) (set_at (link_in m) (Accepted m) v.going)
control-out w v t n cs p m c x e a q well =
    let l : link_in m ≡ 0 = ap link_in e ∙ link-of v.there 0 8 (bits_of_bytes (spellings cs)) (omega arith) in
    let u : TransitByLink = set_at 0 (Accepted m) v.going in
    let sl : LinkSlots = with_slot v.this.slots 0 (slots.Travelling m) in
    subst (λ (k : ℕ). Represents v.there n (record v.this { slots = sl; peer = p }) (set_at k (Accepted m) v.going)) (sym l) (record {
      number = t.this.number;
      peer = q;
      control = record { place = Goes cs; model = c; in_slot = slot_at-with_slot_same v.this.slots 0 (slots.Travelling m) ∙ ap (λ (x : List Bool). slots.Travelling x) e; in_subnet = ap Accepted e; fits = a };
      texts = texts_changed v.there 0 w.this.texts n.texts v.this.slots sl v.going u
          (λ k _. ap (λ (f : ℕ → Link TextOut). f k) x) (with_slot-apart 0 (slots.Travelling m) v.this.slots) (set_at-apart 0 (Accepted m) v.going) (λ f. absurd (both_ways true f refl)) t.this.texts;
      well = well;
    })

text-out : (w : hosts.TwoNodes) (v : World) → Refines w v → (on : ℕ) → (on == 0) ≡ false → (n : Node) (x : TextOut) (p : Peer) (m : List Bool)
    → n.control ≡ w.this.control → n.texts ≡ set_link on (model_of (Goes x)) w.this.texts → m ≡ text_as_message v.there on x → IsTextOn on x → p ≡ peer_of n → FieldsInRange p
    → Represents v.there n (record v.this { slots = with_slot v.this.slots on (slots.Travelling m); peer = p }) (set_at (link_in m) (Accepted m) v.going)
text-out w v t on z n x p m c y e a q well =
    let l : link_in m ≡ on = ap link_in e ∙ link-of v.there on x.of_size x.bits (small on a.0) in
    let u : TransitByLink = set_at on (Accepted m) v.going in
    let sl : LinkSlots = with_slot v.this.slots on (slots.Travelling m) in
    let g : Link TextOut = model_of (Goes x) in
    subst (λ (k : ℕ). Represents v.there n (record v.this { slots = sl; peer = p }) (set_at k (Accepted m) v.going)) (sym l) (record {
      number = t.this.number;
      peer = q;
      control = carried (control_bits v.there) AreCommands w.this.control n.control (slot_at v.this.slots 0) (slot_at sl 0) (v.going 0) (u 0) c (with_slot-apart on (slots.Travelling m) v.this.slots 0 (zero_distinct on z)) (set_at-apart on (Accepted m) v.going 0 (zero_distinct on z)) t.this.control;
      texts = texts_changed v.there on w.this.texts n.texts v.this.slots sl v.going u
          (λ k f. ap (λ (g : ℕ → Link TextOut). g k) y ∙ set_link-apart on g w.this.texts k f) (with_slot-apart on (slots.Travelling m) v.this.slots) (set_at-apart on (Accepted m) v.going)
          (λ _. record { place = Goes x; model = ap (λ (g : ℕ → Link TextOut). g on) y ∙ set_link-same on g w.this.texts; in_slot = slot_at-with_slot_same v.this.slots on (slots.Travelling m) ∙ ap (λ (x : List Bool). slots.Travelling x) e; in_subnet = set_at-same on (Accepted m) v.going ∙ ap Accepted e; fits = a }) t.this.texts;
      well = well;
    })

-- what follows of the world

abbrev pub GoneOut : hosts.TwoNodes → World → ℕ → List Bool → Type 0
GoneOut w v on m = Follows (Out m) w (record v { this = after_output on m v.this; going = set_at (link_in m) (Accepted m) v.going })

abbrev OutBy : hosts.TwoNodes → World → ℕ → List Bool → LinkSlot → Type 0
OutBy w v on m s = Follows (Out m) w (record v { this = record v.this { slots = with_slot v.this.slots on (slots.Travelling m); peer = after_by s on v.this.peer }; going = set_at (link_in m) (Accepted m) v.going })

-- what is ready stays so, and what waits is put in

ready-again : {M : Type 0} (o : Option M) (r : M) → ready_message (put_if_any o (model.Ready r)) ≡ Some r
ready-again None r = refl
ready-again (Some m) r = refl

ready-new : (q : List Command) (c : Command) (cs : List Command) (k : ℕ) → next_commands q ≡ c ∷ cs → (ds : List Command) × (ready_message (put_if_any (first_waiting k q) model.Empty) ≡ Some ds)
ready-new [] c cs k d = absurd (cc d)
ready-new (x ∷ xs) c cs k d = (take (k + 1) (x ∷ xs), refl)

-- the control message again
control-again : (w : hosts.TwoNodes) (v : World) (m r : List Bool) → Refines w v → slot_at v.this.slots 0 ≡ slots.Ready r → Some r ≡ Some m → OutBy w v 0 m (slots.Ready r)
control-again w v m r t s e =
    let a : Again (control_bits v.there) AreCommands w.this.control r = again (control_bits v.there) AreCommands w.this.control (slot_at v.this.slots 0) (v.going 0) r t.this.control s in
    let x : r ≡ m = cc e in
    let n : Node = record w.this { control = model_of (Goes a.what) } in
    let led : hosts.node_at This (hosts.Sends 0) w ≡ record w { this = n } = ap (λ (l : Link (List Command)). (let o : hosts.TwoNodes = record w { this = hosts.node_moved (resets.reset_sends l.slot w.this.host.phase.waiting 0 (record { this = w.this.host; that = w.that.host; going = l; coming = w.that.control })) w.this } in o)) a.there in (
      record w { this = n },
      record {
        reached = subst IsReachable led (Goes_on t.reached This (hosts.Sends 0));
        this = control-out w v t n a.what v.this.peer m refl refl (sym x ∙ a.written) a.fits t.this.peer t.this.well;
        that = t.that;
      },
      refl,
      refl,
      (This, hosts.Sends 0, (a.what, ap (λ (l : Link (List Command)). ready_message (put_if_any (first_waiting 0 w.this.host.phase.waiting) l.slot)) a.there ∙ ready-again (first_waiting 0 w.this.host.phase.waiting) a.what), led),
    )

-- a text again
text-again : (on : ℕ) (w : hosts.TwoNodes) (v : World) (m r : List Bool) → (on == 0) ≡ false → Refines w v → slot_at v.this.slots on ≡ slots.Ready r → Some r ≡ Some m → OutBy w v on m (slots.Ready r)
text-again on w v m r z t s e =
    let a : Again (text_as_message v.there on) (IsTextOn on) (w.this.texts on) r = again (text_as_message v.there on) (IsTextOn on) (w.this.texts on) (slot_at v.this.slots on) (v.going on) r (t.this.texts on z) s in
    let x : r ≡ m = cc e in
    let n : Node = hosts.node_goes_out on a.what w.this in
    let led : hosts.node_at This (hosts.Sends_text on) w ≡ record w { this = n } = ap (λ (l : Link TextOut). (let o : hosts.TwoNodes = record w { this = hosts.node_sends_text on l.slot w.this } in o)) a.there in (
      record w { this = n },
      record {
        reached = subst IsReachable led (Goes_on t.reached This (hosts.Sends_text on));
        this = text-out w v t on z n a.what v.this.peer m refl refl (sym x ∙ a.written) a.fits t.this.peer t.this.well;
        that = t.that;
      },
      refl,
      refl,
      (This, hosts.Sends_text on, ((z, a.fits.0), a.what, ap (λ (l : Link TextOut). ready_message (put_if_any (as_text (answer (cut_in on w.this.ends))) l.slot)) a.there ∙ ready-again (as_text (answer (cut_in on w.this.ends))) a.what), led),
    )

-- a control message of what waits

sends-new : (q : List Command) (c : Command) (cs : List Command) (k : ℕ) (b : resets.ResetWorld) → next_commands q ≡ c ∷ cs
    → resets.reset_sends slots.Empty q k b ≡ (let ds : List Command = b.this.phase.waiting in record b {
      this = record b.this { phase = record b.this.phase { waiting = drop (k + 1) ds } };
      going = record { slot = slots.Travelling (take (k + 1) ds); subnet = model.Accepted (take (k + 1) ds) };
    })
sends-new [] c cs k b d = absurd (cc d)
sends-new (x ∷ xs) c cs k b d = refl

control-new : (w : hosts.TwoNodes) (v : World) (m : List Bool) → Refines w v → slot_at v.this.slots 0 ≡ slots.Empty → made_on v.there 0 v.this.peer ≡ Some m → OutBy w v 0 m slots.Empty
control-new w v m t s e = go (next_commands q) refl (ap (λ (p : Peer). control_message v.there (next_commands p.phase.waiting)) (sym t.this.peer) ∙ e)
  where
    q : List Command
    q = w.this.host.phase.waiting

    none : w.this.control ≡ model_of Nowhere
    none = nothing (control_bits v.there) AreCommands w.this.control (slot_at v.this.slots 0) (v.going 0) t.this.control s

    go : (ds : List Command) → next_commands q ≡ ds → control_message v.there ds ≡ Some m → OutBy w v 0 m slots.Empty
    go [] d e = absurd (cc e)
    go (c ∷ cs) d e =
        let x : control_bits v.there (c ∷ cs) ≡ m = cc e in
        let k : ℕ = length cs in
        let long : length (c ∷ cs) ≡ k + 1 = omega arith in
        let as_many : length (next_commands q) ≡ k + 1 = ap length d ∙ long in
        let front : take (k + 1) q ≡ c ∷ cs = ap (λ (j : ℕ). take j q) (sym as_many) ∙ sym (fitting-take 120 q) ∙ d in
        let n : Node = record w.this { host = record w.this.host { phase = record w.this.host.phase { waiting = drop (k + 1) q } }; control = model_of (Goes (take (k + 1) q)) } in
        let led : hosts.node_at This (hosts.Sends k) w ≡ record w { this = n } = ap (λ (l : Link (List Command)). (let o : hosts.TwoNodes = record w { this = hosts.node_moved (resets.reset_sends l.slot q k (record { this = w.this.host; that = w.that.host; going = l; coming = w.that.control })) w.this } in o)) none ∙ ap (λ (b : resets.ResetWorld). (let o : hosts.TwoNodes = record w { this = hosts.node_moved b w.this } in o)) (sends-new q c cs k (record { this = w.this.host; that = w.that.host; going = model.idle; coming = w.that.control }) d) in (
          record w { this = n },
          record {
            reached = subst IsReachable led (Goes_on t.reached This (hosts.Sends k));
            this = control-out w v t n (c ∷ cs) (peers.peer_sends v.this.peer) m (ap (λ (ds : List Command). model_of (Goes ds)) front) refl (sym x)
                (subst AreCommands d (next-are q (subst (λ (p : Peer). All IsCommand p.phase.waiting) t.this.peer t.this.well.waiting)))
                (ap peers.peer_sends t.this.peer ∙ ap (λ (j : ℕ). (let p : Peer = record (peer_of w.this) { phase = record w.this.host.phase { waiting = drop j q } } in p)) as_many)
                (sends-well v.this.peer t.this.well);
            that = t.that;
          },
          refl,
          refl,
          (This, hosts.Sends k, (let r = ready-new q c cs k d in (r.0, ap (λ (l : Link (List Command)). ready_message (put_if_any (first_waiting k q) l.slot)) none ∙ r.1)), led),
        )

-- a text of what waits

pub made-text : (number on : ℕ) (p : Peer) → (on == 0) ≡ false → made_on number on p ≡ text_message number on (answer (cut_in on p.ends))
made-text number on p z = rw z refl

text-new : (on : ℕ) (w : hosts.TwoNodes) (v : World) (m : List Bool) → (on == 0) ≡ false → is_wrong_link on ≡ false → Refines w v → slot_at v.this.slots on ≡ slots.Empty → made_on v.there on v.this.peer ≡ Some m → OutBy w v on m slots.Empty
text-new on w v m z f t s e = go (answer (cut_in on w.this.ends)) refl (ap (λ (p : Peer). text_message v.there on (answer (cut_in on p.ends))) (sym t.this.peer) ∙ sym (made-text v.there on v.this.peer z) ∙ e)
  where
    none : w.this.texts on ≡ model_of Nowhere
    none = nothing (text_as_message v.there on) (IsTextOn on) (w.this.texts on) (slot_at v.this.slots on) (v.going on) (t.this.texts on z) s

    go : (o : Option (ℕ × List Bool)) → answer (cut_in on w.this.ends) ≡ o → text_message v.there on o ≡ Some m → OutBy w v on m slots.Empty
    go None d e = absurd (cc e)
    go (Some text) d e =
        let x : message_to v.there on text.0 text.1 ≡ m = cc e in
        let y : TextOut = record { of_size = text.0; bits = text.1 } in
        let n : Node = hosts.node_goes_out on y (record w.this { ends = map_after_at w.this.ends (pair_of (sender_on on w.this.ends)) (cut_in on w.this.ends) }) in
        let led : hosts.node_at This (hosts.Sends_text on) w ≡ record w { this = n } = ap (λ (l : Link TextOut). (let o : hosts.TwoNodes = record w { this = hosts.node_sends_text on l.slot w.this } in o)) none ∙ ap (λ (p : Option (ℕ × List Bool)). (let o : hosts.TwoNodes = record w { this = hosts.node_cuts on p w.this } in o)) d in (
          record w { this = n },
          record {
            reached = subst IsReachable led (Goes_on t.reached This (hosts.Sends_text on));
            this = subst (λ (b : Bool). Represents v.there n (record v.this { slots = with_slot v.this.slots on (slots.Travelling m); peer = if b then peers.peer_sends v.this.peer else peers.cuts on v.this.peer }) (set_at (link_in m) (Accepted m) v.going)) (sym z)
                (text-out w v t on z n y (peers.cuts on v.this.peer) m refl refl (sym x) (f, cut-written on w.this.ends text (good-here w t.reached) (subst (λ (p : Peer). EndsWell p.ends) t.this.peer t.this.well.ends) d) (ap (peers.cuts on) t.this.peer) (cuts-well on v.this.peer t.this.well));
            that = t.that;
          },
          refl,
          refl,
          (This, hosts.Sends_text on, ((z, f), y, ap (λ (l : Link TextOut). ready_message (put_if_any (as_text (answer (cut_in on w.this.ends))) l.slot)) none ∙ ap (λ (o : Option (ℕ × List Bool)). ready_message (put_if_any (as_text o) model.Empty)) d), led),
        )

-- what is ready on a link

by-control : (w : hosts.TwoNodes) (v : World) (m : List Bool) (s : LinkSlot) → Refines w v → slot_at v.this.slots 0 ≡ s → output_by s v.there 0 v.this.peer ≡ Some m → OutBy w v 0 m s
by-control w v m slots.Empty t s e = control-new w v m t s e
by-control w v m (slots.Ready r) t s e = control-again w v m r t s e
by-control w v m (slots.Travelling r) t s e = absurd (cc e)
by-control w v m (slots.Held r) t s e = absurd (cc e)

by-text : (on : ℕ) (w : hosts.TwoNodes) (v : World) (m : List Bool) (s : LinkSlot) → (on == 0) ≡ false → is_wrong_link on ≡ false → Refines w v → slot_at v.this.slots on ≡ s → output_by s v.there on v.this.peer ≡ Some m → OutBy w v on m s
by-text on w v m slots.Empty z f t s e = text-new on w v m z f t s e
by-text on w v m (slots.Ready r) z f t s e = text-again on w v m r z t s e
by-text on w v m (slots.Travelling r) z f t s e = absurd (cc e)
by-text on w v m (slots.Held r) z f t s e = absurd (cc e)

ready-out : (on : ℕ) (w : hosts.TwoNodes) (v : World) (m : List Bool) → is_wrong_link on ≡ false → Refines w v → output_on v.there on v.this ≡ Some m → GoneOut w v on m
ready-out on w v m f t e = go (on == 0) refl
  where
    go : (b : Bool) → (on == 0) ≡ b → GoneOut w v on m
    go true z = subst (λ (k : ℕ). output_on v.there k v.this ≡ Some m → GoneOut w v k m) (sym (eqb-true on 0 z)) (by-control w v m (slot_at v.this.slots 0) t refl) e
    go false z = by-text on w v m (slot_at v.this.slots on) z f t refl e

pub out-ties : (w : hosts.TwoNodes) (v : World) (out : ℕ × List Bool) → Refines w v → next_of v.there v.this ≡ Some out → GoneOut w v out.0 out.1
out-ties w v out t e = let f : Found v.there v.this out = found v.there links v.this out e links-right in ready-out out.0 w v out.1 (not_true (is_wrong_link out.0) f.0) t f.1
