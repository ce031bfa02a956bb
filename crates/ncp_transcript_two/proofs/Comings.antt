-- A message is delivered: the model hears the same.
use Rattle.std.proofs.Common.{◌≡◌, ◌<◌, ◌≤◌, ℕ, ◌^◌, ◌==◌, Bool, true, false, ◌||◌, List, [], ◌∷◌, length, take, Result, Ok, refl, sym, ap, ◌∙◌, arith, subst}
use Rattle.std.proofs.lemmas.Bool.{both_ways, eqb-true, ltb-false}
use Rattle.ncp_numbers.specs.Bytes.{bits_of_bytes}
use Rattle.ncp_wire.specs.declared.command.Command.{Command}
use Rattle.ncp_wire.specs.Spelling.{spellings}
use Rattle.ncp_leader.specs.declared.regular.TheConstants.{FRONT_BITS}
use Rattle.ncp_leader.specs.declared.fault.MessageFault.{MessageFault}
use Rattle.ncp_leader.specs.Message.{Message, message_with}
use Rattle.ncp_peer.specs.Hearing.{is_wrong_link}
use Rattle.ncp_peer.specs.Output.{leader_to, message_to}
use Rattle.ncp_slot.specs.Slots.{slot_at, is_quiet}
use Rattle.ncp_wire.specs.declared.links.TheConstants.{LAST_LINK}
use Rattle.ncp_proof_machine.specs.Delivery.{Link}
use Rattle.ncp_proof_machine.specs.Delivery as model
use Rattle.ncp_proof_machine.specs.Resets.{That}
use Rattle.ncp_model.specs.Peers.{Peer}
use Rattle.ncp_model.specs.Peers as peers
use Rattle.ncp_proof_machine.specs.Hosts.{TextOut, Node, set_link}
use Rattle.ncp_proof_machine.specs.Hosts as hosts
use Rattle.ncp_peer.specs.PeerState.{PeerState}
use Rattle.ncp_peer.specs.Hearing as hearing
use Rattle.ncp_transcript_two.specs.Subnet.{Accepted, Delivered, TransitByLink, set_at, from_host}
use Rattle.ncp_transcript_two.specs.World.{World, In, state_after_received, received}
use Rattle.ncp_transcript_two.specs.Tie.{control_bits, text_as_message, AreCommands, IsTextOn, Represents, IsReachable, Goes_on, Refines}
use Rattle.ncp_transcript_two.proofs.Ties.{quiet-is, stays}
use Rattle.ncp_numbers.specs.Numbers.{bits_of}
use Rattle.std.proofs.lemmas.List.Elements.{All-head, All-tail}
use Rattle.std.specs.Prelude.{All}
use Rattle.ncp_wire.specs.Spelling.{IsCommand}
use Rattle.ncp_proof_machine.proofs.EndsGood.{EndsInvariant}
use Rattle.ncp_proof_machine.proofs.HostsStand.{hearing-stands}
use Rattle.ncp_proof_machine.proofs.HostsStand.{NodesStand as ModelStands}
use Rattle.ncp_transcript_two.proofs.Reaching.{stands-there}
use Rattle.ncp_transcript_two.proofs.Well.{hears-well, text-well}
use Rattle.ncp_proof_machine.proofs.Seeing.{hears_agree, texts_agree}
use Rattle.ncp_transcript_two.proofs.Unmoved.{hears-unmoved, text-unmoved}
use Rattle.ncp_proof_machine.specs.Hosts.{Pasts}
use Rattle.ncp_transcript_two.specs.Watch.{of_command, of_commands, pasts_after_text, pasts_after_message}
use Rattle.ncp_transcript_two.proofs.Histories.{hears-pasts, text-pasts}
use Rattle.ncp_transcript_two.proofs.Ties.{FollowsWith}
use Rattle.ncp_leader.specs.Message.{message_in}
use Rattle.ncp_numbers.proofs.Packing.{bytes_of-bits_of_bytes}
use Rattle.ncp_control.specs.Reading.{commands_in}
use Rattle.ncp_control.proofs.Reading.{spellings_small, spelled_alone}
use Rattle.ncp_transcript_two.proofs.Written.{read, control_text, from_host-message, control_comes, comes}
use Rattle.ncp_transcript_two.proofs.Links.{carried, Comes, delivered, texts_changed, all_distinct, set_at-apart, set_at-same, set_link-apart, set_link-same, zero_distinct}

-- a control message

pub hears-stands : (there : ℕ) (c : Command) (n : Node) (s : PeerState) (u : TransitByLink) → IsCommand c → ModelStands n → Represents there n s u → Represents there (hosts.node_hears c n) (hearing.state_hears c s) u
hears-stands there c n s u f g k = stays there n (hosts.node_hears c n) s (hearing.state_hears c s) u k (hears-unmoved c n) refl
    (ap (λ (b : Bool). peers.hears b c s.peer) (quiet-is there n.texts s.slots u k.texts) ∙ ap (peers.hears (hosts.quiet n) c) k.peer ∙ sym (hears_agree c n))
    (hears-well (is_quiet s.slots) c s.peer f (subst (λ (p : Peer). EndsInvariant p.ends) (sym k.peer) g.good) k.well)

hears_all-stands : (there : ℕ) (cs : List Command) (n : Node) (s : PeerState) (u : TransitByLink) → All IsCommand cs → ModelStands n → Represents there n s u → Represents there (hosts.node_hears_all cs n) (hearing.state_hears_all cs s) u
hears_all-stands there [] n s u f g k = k
hears_all-stands there (c ∷ cs) n s u f g k = hears_all-stands there cs (hosts.node_hears c n) (hearing.state_hears c s) u (All-tail IsCommand c cs f) (hearing-stands c n g) (hears-stands there c n s u (All-head IsCommand c cs f) g k)

-- what comes on link 0 is heard as the commands that the model has there
pub control-heard : (w : hosts.TwoNodes) (v : World) (m : List Bool) (t : Refines w v)
    → (c : Comes (control_bits v.there) AreCommands w.this.control (slot_at v.this.slots 0) m) → state_after_received (from_host v.here m) v.that ≡ hearing.state_hears_all c.what v.that
control-heard w v m t c =
    ap (λ (x : List Bool). state_after_received (from_host v.here x) v.that) c.written
    ∙ ap (λ (x : List Bool). state_after_received x v.that) (from_host-message v.here v.there 0 8 (bits_of_bytes (spellings c.what)))
    ∙ control_comes v.here c.what v.that t.that.number c.fits

-- the histories after it

abbrev pub Heard : ℕ → hosts.TwoNodes → World → List Bool → World → Type 0
Heard on w v m x = FollowsWith (In on (from_host v.here m) (received (from_host v.here m) v.that)) w w.this.pasts (pasts_after_message on (from_host v.here m) (message_in (from_host v.here m)) v.that w.that.pasts) x

hears_all-pasts : (there : ℕ) (cs : List Command) (n : Node) (s : PeerState) (u : TransitByLink) → All IsCommand cs → ModelStands n → Represents there n s u → (hosts.node_hears_all cs n).pasts ≡ of_commands cs s n.pasts
hears_all-pasts there [] n s u f g k = refl
hears_all-pasts there (c ∷ cs) n s u f g k =
    hears_all-pasts there cs (hosts.node_hears c n) (hearing.state_hears c s) u (All-tail IsCommand c cs f) (hearing-stands c n g) (hears-stands there c n s u (All-head IsCommand c cs f) g k)
    ∙ ap (of_commands cs (hearing.state_hears c s)) (hears-pasts c n ∙ ap (λ (p : Peer). of_command c p n.pasts) (sym k.peer))

control-told : (w : hosts.TwoNodes) (v : World) (m : List Bool) (t : Refines w v) → (c : Comes (control_bits v.there) AreCommands w.this.control (slot_at v.this.slots 0) m) → (pasts : Pasts)
    → pasts_after_message 0 (from_host v.here m) (message_in (from_host v.here m)) v.that pasts ≡ of_commands c.what v.that pasts
control-told w v m t c pasts =
    let text : List Bool = bits_of_bytes (spellings c.what) in
    ap (λ (x : List Bool). pasts_after_message 0 (from_host v.here x) (message_in (from_host v.here x)) v.that pasts) c.written
    ∙ ap (λ (x : List Bool). pasts_after_message 0 x (message_in x) v.that pasts) (from_host-message v.here v.there 0 8 text)
    ∙ ap (λ (r : Result Message MessageFault). pasts_after_message 0 (message_to v.here 0 8 text) r v.that pasts) (read v.here 0 8 text t.that.number (omega arith) (control_text c.what c.fits))
    ∙ ap (λ (bs : List ℕ). of_commands (commands_in bs) v.that pasts) (bytes_of-bits_of_bytes (spellings c.what) (spellings_small c.what c.fits.0))
    ∙ ap (λ (cs : List Command). of_commands cs v.that pasts) (spelled_alone c.what c.fits.0).0

deliver-control : (w : hosts.TwoNodes) (v : World) (m : List Bool) → Refines w v → v.going 0 ≡ Accepted m → Heard 0 w v m (record v { that = state_after_received (from_host v.here m) v.that; going = set_at 0 Delivered v.going })
deliver-control w v m t e = (
  after,
  record {
    reached = subst IsReachable led (Goes_on t.reached That hosts.Hears);
    this = record {
      number = t.this.number;
      peer = t.this.peer;
      control = c.after;
      texts = texts_changed v.there 0 w.this.texts w.this.texts v.this.slots v.this.slots v.going (set_at 0 Delivered v.going)
          (all_distinct 0 w.this.texts) (all_distinct 0 (slot_at v.this.slots)) (set_at-apart 0 Delivered v.going) (λ f. absurd (both_ways true f refl)) t.this.texts;
      well = t.this.well;
    };
    that = subst (λ (s : PeerState). Represents v.here (hosts.node_hears_all c.what w.that) s v.coming) (sym (control-heard w v m t c)) (hears_all-stands v.here c.what w.that v.that v.coming c.fits.0 (stands-there w t.reached) t.that);
  },
  refl,
  hears_all-pasts v.here c.what w.that v.that v.coming c.fits.0 (stands-there w t.reached) t.that ∙ sym (control-told w v m t c w.that.pasts),
  (That, hosts.Hears, (c.what, c.there), led),
)
  where
    c : Comes (control_bits v.there) AreCommands w.this.control (slot_at v.this.slots 0) m
    c = delivered (control_bits v.there) AreCommands w.this.control (slot_at v.this.slots 0) (v.going 0) m t.this.control e

    after : hosts.TwoNodes
    after = record {
      this = record w.this { control = record w.this.control { subnet = model.Delivered } };
      that = hosts.node_hears_all c.what w.that;
    }

    led : hosts.node_at That hosts.Hears w ≡ after
    led = ap (λ (x : model.MessageTransit (List Command)). hosts.nodes_swapped (hosts.message_comes x (hosts.nodes_swapped w))) c.there

-- a text

or_right : (a b : Bool) → (a || b) ≡ false → b ≡ false
or_right true b e = absurd (cc e)
or_right false b e = e

pub small : (on : ℕ) → is_wrong_link on ≡ false → on < 2 ^ 8
small on f = let l : on ≤ LAST_LINK = ltb-false LAST_LINK on (or_right (on == 1) _ f) in omega (arith, l)

text-after : (on : ℕ) (bits : List Bool) (m : Message) (s : PeerState) → is_wrong_link on ≡ false → (on == 0) ≡ false → hearing.message_after on bits (Ok m) s ≡ hearing.state_after_text on (take FRONT_BITS bits) m s
text-after on bits m s f z = rw (f, z) refl

pub text-heard : (on : ℕ) (w : hosts.TwoNodes) (v : World) (m : List Bool) (t : Refines w v) (z : (on == 0) ≡ false)
    → (c : Comes (text_as_message v.there on) (IsTextOn on) (w.this.texts on) (slot_at v.this.slots on) m)
    → state_after_received (from_host v.here m) v.that ≡ hearing.state_after_text on (take FRONT_BITS (text_as_message v.here on c.what)) (message_with (leader_to v.here on) c.what.of_size c.what.bits) v.that
text-heard on w v m t z c =
    ap (λ (x : List Bool). state_after_received (from_host v.here x) v.that) c.written
    ∙ ap (λ (x : List Bool). state_after_received x v.that) (from_host-message v.here v.there on c.what.of_size c.what.bits)
    ∙ comes v.here on c.what.of_size c.what.bits v.that t.that.number (small on c.fits.0) c.fits.1
    ∙ text-after on (text_as_message v.here on c.what) (message_with (leader_to v.here on) c.what.of_size c.what.bits) v.that c.fits.0 z

not-control : (on : ℕ) (bits : List Bool) (m : Message) (s : PeerState) (pasts : Pasts) → (on == 0) ≡ false → pasts_after_message on bits (Ok m) s pasts ≡ pasts_after_text on (take FRONT_BITS bits) m s.peer pasts
not-control on bits m s pasts z = rw z refl

text-told : (on : ℕ) (w : hosts.TwoNodes) (v : World) (m : List Bool) (t : Refines w v) (z : (on == 0) ≡ false)
    → (c : Comes (text_as_message v.there on) (IsTextOn on) (w.this.texts on) (slot_at v.this.slots on) m) → (pasts : Pasts)
    → pasts_after_message on (from_host v.here m) (message_in (from_host v.here m)) v.that pasts ≡ pasts_after_text on (take FRONT_BITS (text_as_message v.here on c.what)) (message_with (leader_to v.here on) c.what.of_size c.what.bits) v.that.peer pasts
text-told on w v m t z c pasts =
    ap (λ (x : List Bool). pasts_after_message on (from_host v.here x) (message_in (from_host v.here x)) v.that pasts) c.written
    ∙ ap (λ (x : List Bool). pasts_after_message on x (message_in x) v.that pasts) (from_host-message v.here v.there on c.what.of_size c.what.bits)
    ∙ ap (λ (r : Result Message MessageFault). pasts_after_message on (text_as_message v.here on c.what) r v.that pasts) (read v.here on c.what.of_size c.what.bits t.that.number (small on c.fits.0) c.fits.1)
    ∙ not-control on (text_as_message v.here on c.what) (message_with (leader_to v.here on) c.what.of_size c.what.bits) v.that pasts z

front-long : (number on : ℕ) (x : TextOut) → length (take FRONT_BITS (text_as_message number on x)) ≡ 72
unfolding bits_of
front-long number on x = refl

deliver-text : (on : ℕ) (w : hosts.TwoNodes) (v : World) (m : List Bool) → (on == 0) ≡ false → Refines w v → v.going on ≡ Accepted m → Heard on w v m (record v { that = state_after_received (from_host v.here m) v.that; going = set_at on Delivered v.going })
deliver-text on w v m z t e = (
  after,
  record {
    reached = subst IsReachable led (Goes_on t.reached That (hosts.Hears_text on head));
    this = record {
      number = t.this.number;
      peer = t.this.peer;
      control = carried (control_bits v.there) AreCommands w.this.control w.this.control (slot_at v.this.slots 0) (slot_at v.this.slots 0) (v.going 0) (set_at on Delivered v.going 0) refl refl (set_at-apart on Delivered v.going 0 (zero_distinct on z)) t.this.control;
      texts = texts_changed v.there on w.this.texts (set_link on l w.this.texts) v.this.slots v.this.slots v.going (set_at on Delivered v.going)
          (set_link-apart on l w.this.texts) (all_distinct on (slot_at v.this.slots)) (set_at-apart on Delivered v.going)
          (λ _. carried (text_as_message v.there on) (IsTextOn on) l (set_link on l w.this.texts on) (slot_at v.this.slots on) (slot_at v.this.slots on) Delivered (set_at on Delivered v.going on) (set_link-same on l w.this.texts) refl (set_at-same on Delivered v.going) c.after)
          t.this.texts;
      well = t.this.well;
    };
    that = subst (λ (s : PeerState). Represents v.here (hosts.node_hears_text on head c.what w.that) s v.coming) (sym (text-heard on w v m t z c))
        (stays v.here w.that (hosts.node_hears_text on head c.what w.that) v.that heard v.coming t.that (text-unmoved on head c.what w.that) refl
        (ap (peers.hears_text on head c.what.of_size c.what.bits) t.that.peer ∙ sym (texts_agree on head c.what w.that))
        (text-well on head c.what.of_size c.what.bits v.that.peer (front-long v.here on c.what) (subst (λ (p : Peer). EndsInvariant p.ends) (sym t.that.peer) (stands-there w t.reached).good) t.that.well));
  },
  refl,
  text-pasts on head c.what w.that ∙ ap (λ (p : Peer). pasts_after_text on head (message_with (leader_to v.here on) c.what.of_size c.what.bits) p w.that.pasts) (sym t.that.peer) ∙ sym (text-told on w v m t z c w.that.pasts),
  (That, hosts.Hears_text on head, ((z, c.fits.0), c.what, c.there), led),
)
  where
    c : Comes (text_as_message v.there on) (IsTextOn on) (w.this.texts on) (slot_at v.this.slots on) m
    c = delivered (text_as_message v.there on) (IsTextOn on) (w.this.texts on) (slot_at v.this.slots on) (v.going on) m (t.this.texts on z) e

    head : List Bool
    head = take FRONT_BITS (text_as_message v.here on c.what)

    heard : PeerState
    heard = hearing.state_after_text on head (message_with (leader_to v.here on) c.what.of_size c.what.bits) v.that

    l : Link TextOut
    l = record (w.this.texts on) { subnet = model.Delivered }

    after : hosts.TwoNodes
    after = record {
      this = record w.this { texts = set_link on l w.this.texts };
      that = hosts.node_hears_text on head c.what w.that;
    }

    led : hosts.node_at That (hosts.Hears_text on head) w ≡ after
    led = ap (λ (x : model.MessageTransit TextOut). hosts.nodes_swapped (hosts.node_text_comes on head x (hosts.nodes_swapped w))) c.there

pub deliver-ties : (on : ℕ) (w : hosts.TwoNodes) (v : World) (m : List Bool) → Refines w v → v.going on ≡ Accepted m → Heard on w v m (record v { that = state_after_received (from_host v.here m) v.that; going = set_at on Delivered v.going })
deliver-ties on w v m t e = go (on == 0) refl
  where
    go : (b : Bool) → (on == 0) ≡ b → Heard on w v m (record v { that = state_after_received (from_host v.here m) v.that; going = set_at on Delivered v.going })
    go true z = subst (λ (k : ℕ). v.going k ≡ Accepted m → Heard k w v m (record v { that = state_after_received (from_host v.here m) v.that; going = set_at k Delivered v.going })) (sym (eqb-true on 0 z)) (deliver-control w v m t) e
    go false z = deliver-text on w v m z t e
