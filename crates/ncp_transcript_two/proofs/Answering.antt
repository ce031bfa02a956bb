-- A message is answered: the model is answered alike.
use Rattle.std.proofs.Common.{◌≡◌, ℕ, ◌==◌, Bool, true, false, if◌then◌else◌, List, refl, sym, ap, ◌∙◌, arith, subst}
use Rattle.std.proofs.lemmas.Bool.{both_ways, eqb-true}
use Rattle.ncp_wire.specs.declared.command.Command.{Command}
use Rattle.ncp_slot.specs.Slots.{LinkSlot}
use Rattle.ncp_slot.specs.declared.slot.Slot.TheVariants as slots
use Rattle.ncp_wire.specs.declared.answer.Answer.{Answer}
use Rattle.ncp_wire.specs.declared.answer.Answer.TheVariants.{Rfnm, Incomplete}
use Rattle.ncp_wire.specs.declared.answer.Answer.TheVariants as answer_kinds
use Rattle.ncp_slot.specs.Slot.{is_travelling}
use Rattle.ncp_slot.specs.Slot as slot
use Rattle.ncp_slot.proofs.Places.{slot_at-with_slot_same}
use Rattle.ncp_peer.specs.Hearing.{rfnm, incomplete, destination_dead}
use Rattle.ncp_transcript_two.specs.Subnet.{answer_bits}
use Rattle.ncp_slot.specs.Slots.{LinkSlots, slot_at, with_slot, is_quiet}
use Rattle.ncp_proof_machine.specs.Delivery.{Link, answer_of_transit}
use Rattle.ncp_proof_machine.specs.Delivery as model
use Rattle.ncp_proof_machine.specs.Resets.{This}
use Rattle.ncp_model.specs.Peers.{Peer}
use Rattle.ncp_model.specs.Peers as peers
use Rattle.ncp_proof_machine.specs.Hosts.{TextOut, set_link}
use Rattle.ncp_proof_machine.specs.Hosts as hosts
use Rattle.ncp_peer.specs.Counting.{one_more}
use Rattle.ncp_peer.specs.PeerState.{PeerState}
use Rattle.ncp_peer.specs.PeerState as states
use Rattle.ncp_transcript_two.specs.Subnet.{Free, Delivered, Lost, Dead, TransitByLink, set_at}
use Rattle.ncp_transcript_two.specs.World.{World, Answered, state_after_received, received}
use Rattle.ncp_transcript_two.specs.Tie.{Nowhere, Waits, Came, Failed, Died, Kept, model_of, control_bits, text_as_message, AreCommands, IsTextOn, Represents, IsReachable, Goes_on, Refines}
use Rattle.ncp_transcript_two.proofs.Ties.{Follows, quiet-is}
use Rattle.ncp_proof_machine.proofs.EndsGood.{EndsInvariant}
use Rattle.ncp_transcript_two.proofs.Reaching.{good-here}
use Rattle.ncp_transcript_two.proofs.Well.{settles-well, frees-well}
use Rattle.ncp_proof_machine.proofs.Seeing.{frees_agree}
use Rattle.ncp_transcript_two.proofs.Comings.{small}
use Rattle.ncp_transcript_two.proofs.Written.{answer_comes-is}
use Rattle.ncp_transcript_two.proofs.Links.{carried, Answers, taken, refused, found_dead, Texts, texts_changed, all_distinct, set_at-apart, set_at-same, set_link-apart, set_link-same, with_slot-apart, zero_distinct}

-- what the answer to a message that is out does
pub answered-is : (on : ℕ) (how : Answer) (m : List Bool) (s : PeerState) → slot_at s.slots on ≡ slots.Travelling m
    → states.answer_comes on how s ≡ (let sl = with_slot s.slots on (slot.answered how (slots.Travelling m)) in record s { slots = sl; peer = states.after_answer on how sl s.peer })
answered-is on how m s e =
    ap (λ (b : Bool). if b then states.answer_taken on how s else (let r : PeerState = record s { counts = record s.counts { stray = one_more s.counts.stray } } in r)) (ap (λ (x : LinkSlot). is_travelling x) e)
    ∙ ap (λ (x : LinkSlot). (let sl : LinkSlots = with_slot s.slots on (slot.answered how x) in let r : PeerState = record s { slots = sl; peer = states.after_answer on how sl s.peer } in r)) e

-- a control message

control-taken : (w : hosts.TwoNodes) (v : World) → Refines w v → v.going 0 ≡ Delivered → Follows (Answered 0 Rfnm (received (answer_bits rfnm v.there 0) v.this)) w (record v { this = state_after_received (answer_bits rfnm v.there 0) v.this; going = set_at 0 Free v.going })
control-taken w v t e = (
  after,
  record {
    reached = subst IsReachable led (Goes_on t.reached This hosts.Is_answered);
    this = subst (λ (s : PeerState). Represents v.there after.this s u) (sym state) (record {
      number = t.this.number;
      peer = ap (λ (b : Bool). peers.settles b v.this.peer) (quiet-is v.there w.this.texts sl u texts) ∙ ap (peers.settles (hosts.quiet w.this)) t.this.peer;
      control = record { place = Nowhere; model = refl; in_slot = slot_at-with_slot_same v.this.slots 0 slots.Empty; in_subnet = refl; fits = tt };
      texts = texts;
      well = settles-well (is_quiet sl) v.this.peer t.this.well;
    });
    that = t.that;
  },
  refl,
  refl,
  (This, hosts.Is_answered, (a.what, Rfnm, ap (λ (l : Link (List Command)). l.slot) a.there, ap (λ (l : Link (List Command)). answer_of_transit l.subnet) a.there), led),
)
  where
    a : Answers (control_bits v.there) AreCommands Came w.this.control (slot_at v.this.slots 0)
    a = taken (control_bits v.there) AreCommands w.this.control (slot_at v.this.slots 0) (v.going 0) t.this.control e

    sl : LinkSlots
    sl = with_slot v.this.slots 0 slots.Empty

    u : TransitByLink
    u = set_at 0 Free v.going

    after : hosts.TwoNodes
    after = record w { this = hosts.node_settles (record w.this { control = model.idle }) }

    led : hosts.node_at This hosts.Is_answered w ≡ after
    led = ap (λ (l : Link (List Command)). (let x : hosts.TwoNodes = record w { this = hosts.control_answered l.slot l.subnet w.this } in x)) a.there

    texts : Texts v.there w.this.texts sl u
    texts = texts_changed v.there 0 w.this.texts w.this.texts v.this.slots sl v.going u
        (all_distinct 0 w.this.texts) (with_slot-apart 0 slots.Empty v.this.slots) (set_at-apart 0 Free v.going) (λ f. absurd (both_ways true f refl)) t.this.texts

    state : state_after_received (answer_bits rfnm v.there 0) v.this ≡ record v.this { slots = sl; peer = peers.settles (is_quiet sl) v.this.peer }
    state = (answer_comes-is v.there 0 v.this t.this.number (omega arith)).0 ∙ answered-is 0 Rfnm (control_bits v.there a.what) v.this a.written

control-refused : (w : hosts.TwoNodes) (v : World) → Refines w v → v.going 0 ≡ Lost → Follows (Answered 0 Incomplete (received (answer_bits incomplete v.there 0) v.this)) w (record v { this = state_after_received (answer_bits incomplete v.there 0) v.this; going = set_at 0 Free v.going })
control-refused w v t e = (
  after,
  record {
    reached = subst IsReachable led (Goes_on t.reached This hosts.Is_answered);
    this = subst (λ (s : PeerState). Represents v.there after.this s u) (sym state) (record {
      number = t.this.number;
      peer = t.this.peer;
      control = record { place = Waits a.what; model = refl; in_slot = slot_at-with_slot_same v.this.slots 0 (slots.Ready (control_bits v.there a.what)); in_subnet = refl; fits = a.fits };
      texts = texts_changed v.there 0 w.this.texts w.this.texts v.this.slots sl v.going u
          (all_distinct 0 w.this.texts) (with_slot-apart 0 (slots.Ready (control_bits v.there a.what)) v.this.slots) (set_at-apart 0 Free v.going) (λ f. absurd (both_ways true f refl)) t.this.texts;
      well = t.this.well;
    });
    that = t.that;
  },
  refl,
  refl,
  (This, hosts.Is_answered, (a.what, Incomplete, ap (λ (l : Link (List Command)). l.slot) a.there, ap (λ (l : Link (List Command)). answer_of_transit l.subnet) a.there), led),
)
  where
    a : Answers (control_bits v.there) AreCommands Failed w.this.control (slot_at v.this.slots 0)
    a = refused (control_bits v.there) AreCommands w.this.control (slot_at v.this.slots 0) (v.going 0) t.this.control e

    sl : LinkSlots
    sl = with_slot v.this.slots 0 (slots.Ready (control_bits v.there a.what))

    u : TransitByLink
    u = set_at 0 Free v.going

    after : hosts.TwoNodes
    after = record w { this = record w.this { control = model_of (Waits a.what) } }

    led : hosts.node_at This hosts.Is_answered w ≡ after
    led = ap (λ (l : Link (List Command)). (let x : hosts.TwoNodes = record w { this = hosts.control_answered l.slot l.subnet w.this } in x)) a.there

    state : state_after_received (answer_bits incomplete v.there 0) v.this ≡ record v.this { slots = sl; peer = v.this.peer }
    state = (answer_comes-is v.there 0 v.this t.this.number (omega arith)).1 ∙ answered-is 0 Incomplete (control_bits v.there a.what) v.this a.written

-- a text

text-taken : (on : ℕ) (w : hosts.TwoNodes) (v : World) → (on == 0) ≡ false → Refines w v → v.going on ≡ Delivered → Follows (Answered on Rfnm (received (answer_bits rfnm v.there on) v.this)) w (record v { this = state_after_received (answer_bits rfnm v.there on) v.this; going = set_at on Free v.going })
text-taken on w v z t e = (
  after,
  record {
    reached = subst IsReachable led (Goes_on t.reached This (hosts.Text_is_answered on));
    this = subst (λ (s : PeerState). Represents v.there after.this s u) (sym state) (record {
      number = t.this.number;
      peer = ap (λ (b : Bool). peers.settles b (peers.frees on v.this.peer)) (quiet-is v.there (hosts.node_frees on w.this).texts sl u texts)
          ∙ ap (λ (p : Peer). peers.settles (hosts.quiet (hosts.node_frees on w.this)) (peers.frees on p)) t.this.peer
          ∙ ap (peers.settles (hosts.quiet (hosts.node_frees on w.this))) (sym (frees_agree on w.this));
      control = carried (control_bits v.there) AreCommands w.this.control w.this.control (slot_at v.this.slots 0) (slot_at sl 0) (v.going 0) (u 0) refl (with_slot-apart on slots.Empty v.this.slots 0 (zero_distinct on z)) (set_at-apart on Free v.going 0 (zero_distinct on z)) t.this.control;
      texts = texts;
      well = settles-well (is_quiet sl) (peers.frees on v.this.peer) (frees-well on v.this.peer (subst (λ (p : Peer). EndsInvariant p.ends) (sym t.this.peer) (good-here w t.reached)) t.this.well);
    });
    that = t.that;
  },
  refl,
  refl,
  (This, hosts.Text_is_answered on, ((z, a.fits.0), a.what, Rfnm, ap (λ (l : Link TextOut). l.slot) a.there, ap (λ (l : Link TextOut). answer_of_transit l.subnet) a.there), led),
)
  where
    a : Answers (text_as_message v.there on) (IsTextOn on) Came (w.this.texts on) (slot_at v.this.slots on)
    a = taken (text_as_message v.there on) (IsTextOn on) (w.this.texts on) (slot_at v.this.slots on) (v.going on) (t.this.texts on z) e

    sl : LinkSlots
    sl = with_slot v.this.slots on slots.Empty

    u : TransitByLink
    u = set_at on Free v.going

    after : hosts.TwoNodes
    after = record w { this = hosts.node_settles (hosts.node_frees on w.this) }

    led : hosts.node_at This (hosts.Text_is_answered on) w ≡ after
    led = ap (λ (l : Link TextOut). (let x : hosts.TwoNodes = record w { this = hosts.text_answered on l.slot l.subnet w.this } in x)) a.there

    texts : Texts v.there (set_link on model.idle w.this.texts) sl u
    texts = texts_changed v.there on w.this.texts (set_link on model.idle w.this.texts) v.this.slots sl v.going u
        (set_link-apart on model.idle w.this.texts) (with_slot-apart on slots.Empty v.this.slots) (set_at-apart on Free v.going)
        (λ _. record { place = Nowhere; model = set_link-same on model.idle w.this.texts; in_slot = slot_at-with_slot_same v.this.slots on slots.Empty; in_subnet = set_at-same on Free v.going; fits = tt }) t.this.texts

    state : state_after_received (answer_bits rfnm v.there on) v.this ≡ record v.this { slots = sl; peer = peers.settles (is_quiet sl) (peers.frees on v.this.peer) }
    state = (answer_comes-is v.there on v.this t.this.number (small on a.fits.0)).0 ∙ answered-is on Rfnm (text_as_message v.there on a.what) v.this a.written
        ∙ ap (λ (b : Bool). (let r : PeerState = record v.this { slots = sl; peer = peers.settles (is_quiet sl) (if b then v.this.peer else peers.frees on v.this.peer) } in r)) z

text-refused : (on : ℕ) (w : hosts.TwoNodes) (v : World) → (on == 0) ≡ false → Refines w v → v.going on ≡ Lost → Follows (Answered on Incomplete (received (answer_bits incomplete v.there on) v.this)) w (record v { this = state_after_received (answer_bits incomplete v.there on) v.this; going = set_at on Free v.going })
text-refused on w v z t e = (
  after,
  record {
    reached = subst IsReachable led (Goes_on t.reached This (hosts.Text_is_answered on));
    this = subst (λ (s : PeerState). Represents v.there after.this s u) (sym state) (record {
      number = t.this.number;
      peer = t.this.peer;
      control = carried (control_bits v.there) AreCommands w.this.control w.this.control (slot_at v.this.slots 0) (slot_at sl 0) (v.going 0) (u 0) refl (with_slot-apart on (slots.Ready b) v.this.slots 0 (zero_distinct on z)) (set_at-apart on Free v.going 0 (zero_distinct on z)) t.this.control;
      texts = texts_changed v.there on w.this.texts (set_link on (model_of (Waits a.what)) w.this.texts) v.this.slots sl v.going u
          (set_link-apart on (model_of (Waits a.what)) w.this.texts) (with_slot-apart on (slots.Ready b) v.this.slots) (set_at-apart on Free v.going)
          (λ _. record { place = Waits a.what; model = set_link-same on (model_of (Waits a.what)) w.this.texts; in_slot = slot_at-with_slot_same v.this.slots on (slots.Ready b); in_subnet = set_at-same on Free v.going; fits = a.fits }) t.this.texts;
      well = t.this.well;
    });
    that = t.that;
  },
  refl,
  refl,
  (This, hosts.Text_is_answered on, ((z, a.fits.0), a.what, Incomplete, ap (λ (l : Link TextOut). l.slot) a.there, ap (λ (l : Link TextOut). answer_of_transit l.subnet) a.there), led),
)
  where
    a : Answers (text_as_message v.there on) (IsTextOn on) Failed (w.this.texts on) (slot_at v.this.slots on)
    a = refused (text_as_message v.there on) (IsTextOn on) (w.this.texts on) (slot_at v.this.slots on) (v.going on) (t.this.texts on z) e

    b : List Bool
    b = text_as_message v.there on a.what

    sl : LinkSlots
    sl = with_slot v.this.slots on (slots.Ready b)

    u : TransitByLink
    u = set_at on Free v.going

    after : hosts.TwoNodes
    after = record w { this = record w.this { texts = set_link on (model_of (Waits a.what)) w.this.texts } }

    led : hosts.node_at This (hosts.Text_is_answered on) w ≡ after
    led = ap (λ (l : Link TextOut). (let x : hosts.TwoNodes = record w { this = hosts.text_answered on l.slot l.subnet w.this } in x)) a.there

    state : state_after_received (answer_bits incomplete v.there on) v.this ≡ record v.this { slots = sl; peer = v.this.peer }
    state = (answer_comes-is v.there on v.this t.this.number (small on a.fits.0)).1 ∙ answered-is on Incomplete b v.this a.written

control-dead : (w : hosts.TwoNodes) (v : World) → Refines w v → v.going 0 ≡ Dead → Follows (Answered 0 answer_kinds.Dead (received (answer_bits destination_dead v.there 0) v.this)) w (record v { this = state_after_received (answer_bits destination_dead v.there 0) v.this; going = set_at 0 Free v.going })
control-dead w v t e = (
  after,
  record {
    reached = subst IsReachable led (Goes_on t.reached This hosts.Is_answered);
    this = subst (λ (s : PeerState). Represents v.there after.this s u) (sym state) (record {
      number = t.this.number;
      peer = t.this.peer;
      control = record { place = Kept a.what; model = refl; in_slot = slot_at-with_slot_same v.this.slots 0 (slots.Held (control_bits v.there a.what)); in_subnet = refl; fits = a.fits };
      texts = texts_changed v.there 0 w.this.texts w.this.texts v.this.slots sl v.going u
          (all_distinct 0 w.this.texts) (with_slot-apart 0 (slots.Held (control_bits v.there a.what)) v.this.slots) (set_at-apart 0 Free v.going) (λ f. absurd (both_ways true f refl)) t.this.texts;
      well = t.this.well;
    });
    that = t.that;
  },
  refl,
  refl,
  (This, hosts.Is_answered, (a.what, answer_kinds.Dead, ap (λ (l : Link (List Command)). l.slot) a.there, ap (λ (l : Link (List Command)). answer_of_transit l.subnet) a.there), led),
)
  where
    a : Answers (control_bits v.there) AreCommands Died w.this.control (slot_at v.this.slots 0)
    a = found_dead (control_bits v.there) AreCommands w.this.control (slot_at v.this.slots 0) (v.going 0) t.this.control e

    sl : LinkSlots
    sl = with_slot v.this.slots 0 (slots.Held (control_bits v.there a.what))

    u : TransitByLink
    u = set_at 0 Free v.going

    after : hosts.TwoNodes
    after = record w { this = record w.this { control = model_of (Kept a.what) } }

    led : hosts.node_at This hosts.Is_answered w ≡ after
    led = ap (λ (l : Link (List Command)). (let x : hosts.TwoNodes = record w { this = hosts.control_answered l.slot l.subnet w.this } in x)) a.there

    state : state_after_received (answer_bits destination_dead v.there 0) v.this ≡ record v.this { slots = sl; peer = v.this.peer }
    state = (answer_comes-is v.there 0 v.this t.this.number (omega arith)).2 ∙ answered-is 0 answer_kinds.Dead (control_bits v.there a.what) v.this a.written

text-dead : (on : ℕ) (w : hosts.TwoNodes) (v : World) → (on == 0) ≡ false → Refines w v → v.going on ≡ Dead → Follows (Answered on answer_kinds.Dead (received (answer_bits destination_dead v.there on) v.this)) w (record v { this = state_after_received (answer_bits destination_dead v.there on) v.this; going = set_at on Free v.going })
text-dead on w v z t e = (
  after,
  record {
    reached = subst IsReachable led (Goes_on t.reached This (hosts.Text_is_answered on));
    this = subst (λ (s : PeerState). Represents v.there after.this s u) (sym state) (record {
      number = t.this.number;
      peer = t.this.peer;
      control = carried (control_bits v.there) AreCommands w.this.control w.this.control (slot_at v.this.slots 0) (slot_at sl 0) (v.going 0) (u 0) refl (with_slot-apart on (slots.Held b) v.this.slots 0 (zero_distinct on z)) (set_at-apart on Free v.going 0 (zero_distinct on z)) t.this.control;
      texts = texts_changed v.there on w.this.texts (set_link on (model_of (Kept a.what)) w.this.texts) v.this.slots sl v.going u
          (set_link-apart on (model_of (Kept a.what)) w.this.texts) (with_slot-apart on (slots.Held b) v.this.slots) (set_at-apart on Free v.going)
          (λ _. record { place = Kept a.what; model = set_link-same on (model_of (Kept a.what)) w.this.texts; in_slot = slot_at-with_slot_same v.this.slots on (slots.Held b); in_subnet = set_at-same on Free v.going; fits = a.fits }) t.this.texts;
      well = t.this.well;
    });
    that = t.that;
  },
  refl,
  refl,
  (This, hosts.Text_is_answered on, ((z, a.fits.0), a.what, answer_kinds.Dead, ap (λ (l : Link TextOut). l.slot) a.there, ap (λ (l : Link TextOut). answer_of_transit l.subnet) a.there), led),
)
  where
    a : Answers (text_as_message v.there on) (IsTextOn on) Died (w.this.texts on) (slot_at v.this.slots on)
    a = found_dead (text_as_message v.there on) (IsTextOn on) (w.this.texts on) (slot_at v.this.slots on) (v.going on) (t.this.texts on z) e

    b : List Bool
    b = text_as_message v.there on a.what

    sl : LinkSlots
    sl = with_slot v.this.slots on (slots.Held b)

    u : TransitByLink
    u = set_at on Free v.going

    after : hosts.TwoNodes
    after = record w { this = record w.this { texts = set_link on (model_of (Kept a.what)) w.this.texts } }

    led : hosts.node_at This (hosts.Text_is_answered on) w ≡ after
    led = ap (λ (l : Link TextOut). (let x : hosts.TwoNodes = record w { this = hosts.text_answered on l.slot l.subnet w.this } in x)) a.there

    state : state_after_received (answer_bits destination_dead v.there on) v.this ≡ record v.this { slots = sl; peer = v.this.peer }
    state = (answer_comes-is v.there on v.this t.this.number (small on a.fits.0)).2 ∙ answered-is on answer_kinds.Dead b v.this a.written

-- on any link

pub taken-ties : (on : ℕ) (w : hosts.TwoNodes) (v : World) → Refines w v → v.going on ≡ Delivered → Follows (Answered on Rfnm (received (answer_bits rfnm v.there on) v.this)) w (record v { this = state_after_received (answer_bits rfnm v.there on) v.this; going = set_at on Free v.going })
taken-ties on w v t e = go (on == 0) refl
  where
    go : (b : Bool) → (on == 0) ≡ b → Follows (Answered on Rfnm (received (answer_bits rfnm v.there on) v.this)) w (record v { this = state_after_received (answer_bits rfnm v.there on) v.this; going = set_at on Free v.going })
    go true z = subst (λ (k : ℕ). v.going k ≡ Delivered → Follows (Answered k Rfnm (received (answer_bits rfnm v.there k) v.this)) w (record v { this = state_after_received (answer_bits rfnm v.there k) v.this; going = set_at k Free v.going })) (sym (eqb-true on 0 z)) (control-taken w v t) e
    go false z = text-taken on w v z t e

pub refused-ties : (on : ℕ) (w : hosts.TwoNodes) (v : World) → Refines w v → v.going on ≡ Lost → Follows (Answered on Incomplete (received (answer_bits incomplete v.there on) v.this)) w (record v { this = state_after_received (answer_bits incomplete v.there on) v.this; going = set_at on Free v.going })
refused-ties on w v t e = go (on == 0) refl
  where
    go : (b : Bool) → (on == 0) ≡ b → Follows (Answered on Incomplete (received (answer_bits incomplete v.there on) v.this)) w (record v { this = state_after_received (answer_bits incomplete v.there on) v.this; going = set_at on Free v.going })
    go true z = subst (λ (k : ℕ). v.going k ≡ Lost → Follows (Answered k Incomplete (received (answer_bits incomplete v.there k) v.this)) w (record v { this = state_after_received (answer_bits incomplete v.there k) v.this; going = set_at k Free v.going })) (sym (eqb-true on 0 z)) (control-refused w v t) e
    go false z = text-refused on w v z t e

pub dead-ties : (on : ℕ) (w : hosts.TwoNodes) (v : World) → Refines w v → v.going on ≡ Dead → Follows (Answered on answer_kinds.Dead (received (answer_bits destination_dead v.there on) v.this)) w (record v { this = state_after_received (answer_bits destination_dead v.there on) v.this; going = set_at on Free v.going })
dead-ties on w v t e = go (on == 0) refl
  where
    go : (b : Bool) → (on == 0) ≡ b → Follows (Answered on answer_kinds.Dead (received (answer_bits destination_dead v.there on) v.this)) w (record v { this = state_after_received (answer_bits destination_dead v.there on) v.this; going = set_at on Free v.going })
    go true z = subst (λ (k : ℕ). v.going k ≡ Dead → Follows (Answered k answer_kinds.Dead (received (answer_bits destination_dead v.there k) v.this)) w (record v { this = state_after_received (answer_bits destination_dead v.there k) v.this; going = set_at k Free v.going })) (sym (eqb-true on 0 z)) (control-dead w v t) e
    go false z = text-dead on w v z t e
