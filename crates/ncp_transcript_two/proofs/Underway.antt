-- What is underway in the world of bits is what is underway in the model.
use Rattle.std.proofs.Common.{◌≡◌, ◌<◌, ◌≤◌, ℕ, ◌^◌, ◌==◌, Bool, true, false, nat_le, List, [], ◌++◌, length, Option, None, Some, Result, refl, sym, ap, ◌∙◌, arith, subst}
use Rattle.std.proofs.lemmas.Bool.{and_parts, leb-true, ne_eqb}
use Rattle.std.specs.FinMap.{get}
use Rattle.ncp_numbers.specs.Bytes.{bytes_of, bits_of_bytes}
use Rattle.ncp_numbers.proofs.Packing.{bytes_of-bits_of_bytes}
use Rattle.ncp_leader.specs.declared.fault.MessageFault.{MessageFault}
use Rattle.ncp_leader.specs.Message.{Message}
use Rattle.ncp_wire.specs.declared.command.Command.{Command}
use Rattle.ncp_wire.specs.Spelling.{spellings}
use Rattle.ncp_control.specs.Reading.{commands_in}
use Rattle.ncp_control.proofs.Reading.{spellings_small, spelled_alone}
use Rattle.ncp_slot.specs.Slots.{LinkSlot}
use Rattle.ncp_slot.specs.Slots.{slot_at}
use Rattle.ncp_model.specs.declared.pair.Pair.{Pair}
use Rattle.ncp_wire.specs.declared.links.TheConstants.{LAST_LINK}
use Rattle.ncp_model.specs.Pairs.{sends, counterpart}
use Rattle.ncp_model.specs.Effect.{is_data_link}
use Rattle.ncp_model.specs.Endpoint.{Endpoint, is_open, or_new}
use Rattle.ncp_model.specs.Ends.{Ends}
use Rattle.ncp_proof_machine.specs.Delivery.{Link}
use Rattle.ncp_proof_machine.specs.Delivery as model
use Rattle.ncp_proof_endpoint.specs.Limits.{InLimitsAt}
use Rattle.ncp_proof_endpoint.specs.Sound.{SoundAt}
use Rattle.ncp_model.specs.Peers.{Peer}
use Rattle.std.specs.List.{filter}
use Rattle.ncp_model.specs.Phase.{up, is_reset}
use Rattle.ncp_proof_machine.specs.Resets.{is_up}
use Rattle.ncp_proof_machine.proofs.ResetRuns.{agreeing}
use Rattle.ncp_proof_machine.specs.Resets as resets
use Rattle.ncp_proof_machine.specs.Hosts.{TextOut, Node, NodeEvent, run, past_of}
use Rattle.ncp_proof_machine.specs.Hosts as hosts
use Rattle.ncp_proof_headline.specs.Headline.{total_on}
use Rattle.ncp_proof_headline.specs.Headline as headline
use Rattle.ncp_proof_machine.proofs.EndsGood.{EndsInvariant}
use Rattle.ncp_proof_headline.proofs.HostsHeld.{ever}
use Rattle.ncp_proof_headline.proofs.HostsHeadline.{amounts_agree, parted}
use Rattle.ncp_peer.specs.PeerState.{PeerState}
use Rattle.ncp_transcript_two.specs.Subnet.{Holds, TransitByLink}
use Rattle.ncp_transcript_two.specs.World.{World}
use Rattle.ncp_transcript_two.specs.Watch.{Both}
use Rattle.ncp_transcript_two.specs.Tie.{MessageState, Nowhere, Waits, Goes, Came, Failed, Died, Kept, model_of, slot_of, holds_of, OfMessage, LinkRefines, control_bits, text_as_message, AreCommands, IsTextOn, Represents, IsReachable}
use Rattle.ncp_transcript_two.specs.Underway.{text_read, text_of, commands_of, not_come, commands_out, underway, how_many, bits_out, sender_at, text_out, AmountsAgree, Parted, NoResetUnderway}
use Rattle.ncp_transcript_two.proofs.Written.{read, control_text}
use Rattle.ncp_transcript_two.proofs.Comings.{small}
use Rattle.ncp_transcript_two.proofs.Reaching.{of-reached, good-here}
use Rattle.ncp_transcript_two.proofs.Runs.{OfModelWith, both}
use Rattle.ncp_model.specs.Amounts.{amount, ◌⊕◌, allowance, granted, returned}

commands-read : (there : ℕ) (cs : List Command) → there < 2 ^ 8 → AreCommands cs → commands_of (control_bits there cs) ≡ cs
commands-read there cs n a =
    ap (λ (r : Result Message MessageFault). commands_in (bytes_of (text_read r))) (read there 0 8 (bits_of_bytes (spellings cs)) n (omega arith) (control_text cs a))
    ∙ ap commands_in (bytes_of-bits_of_bytes (spellings cs) (spellings_small cs a.0))
    ∙ (spelled_alone cs a.0).0

text-is-read : (there on : ℕ) (t : TextOut) → there < 2 ^ 8 → IsTextOn on t → text_of (text_as_message there on t) ≡ t.bits
text-is-read there on t n a = ap text_read (read there on t.of_size t.bits n (small on a.0) a.1)

on-line : (there : ℕ) (l : Link (List Command)) (s : LinkSlot) (h : Holds) → there < 2 ^ 8 → LinkRefines (control_bits there) AreCommands l s h → commands_out (not_come s h) ≡ resets.on_line l.slot l.subnet
on-line there l s h n c =
    ap (λ (x : LinkSlot). commands_out (not_come x h)) c.in_slot ∙ ap (λ (x : Holds). commands_out (not_come (slot_of (control_bits there) c.place) x)) c.in_subnet
    ∙ go c.place c.fits ∙ sym (ap (λ (k : Link (List Command)). resets.on_line k.slot k.subnet) c.model)
  where
    go : (p : MessageState (List Command)) → OfMessage AreCommands p → commands_out (not_come (slot_of (control_bits there) p) (holds_of (control_bits there) p)) ≡ resets.on_line (model_of p).slot (model_of p).subnet
    go Nowhere f = refl
    go (Waits m) f = commands-read there m n f
    go (Goes m) f = commands-read there m n f
    go (Came m) f = refl
    go (Failed m) f = commands-read there m n f
    go (Died m) f = commands-read there m n f
    go (Kept m) f = commands-read there m n f

text-line : (there on : ℕ) (l : Link TextOut) (s : LinkSlot) (h : Holds) → there < 2 ^ 8 → LinkRefines (text_as_message there on) (IsTextOn on) l s h
    → (how_many (not_come s h) ≡ headline.how_many_texts (model.message_not_come l.slot l.subnet)) × (bits_out (not_come s h) ≡ headline.bits_of_text (model.message_not_come l.slot l.subnet))
text-line there on l s h n c =
    let g = go c.place c.fits in
    (over {A = ℕ} how_many headline.how_many_texts g.0, over {A = List Bool} bits_out headline.bits_of_text g.1)
  where
    over : {A : Type 0} (f : Option (List Bool) → A) (k : Option TextOut → A)
        → f (not_come (slot_of (text_as_message there on) c.place) (holds_of (text_as_message there on) c.place)) ≡ k (model.message_not_come (model_of c.place).slot (model_of c.place).subnet)
        → f (not_come s h) ≡ k (model.message_not_come l.slot l.subnet)
    over f k e = ap (λ (x : LinkSlot). f (not_come x h)) c.in_slot ∙ ap (λ (x : Holds). f (not_come (slot_of (text_as_message there on) c.place) x)) c.in_subnet ∙ e ∙ sym (ap (λ (j : Link TextOut). k (model.message_not_come j.slot j.subnet)) c.model)

    go : (p : MessageState TextOut) → OfMessage (IsTextOn on) p
        → (how_many (not_come (slot_of (text_as_message there on) p) (holds_of (text_as_message there on) p)) ≡ headline.how_many_texts (model.message_not_come (model_of p).slot (model_of p).subnet))
        × (bits_out (not_come (slot_of (text_as_message there on) p) (holds_of (text_as_message there on) p)) ≡ headline.bits_of_text (model.message_not_come (model_of p).slot (model_of p).subnet))
    go Nowhere f = (refl, refl)
    go (Waits m) f = (refl, text-is-read there on m n f)
    go (Goes m) f = (refl, text-is-read there on m n f)
    go (Came m) f = (refl, refl)
    go (Failed m) f = (refl, text-is-read there on m n f)
    go (Died m) f = (refl, text-is-read there on m n f)
    go (Kept m) f = (refl, text-is-read there on m n f)

-- all that is underway from a host
pub underway-is : (there : ℕ) (n : Node) (s : PeerState) (u : TransitByLink) → Represents there n s u → underway s u ≡ resets.commands_underway n.host n.control
underway-is there n s u k =
    ap (λ (cs : List Command). cs ++ s.peer.phase.waiting) (on-line there n.control (slot_at s.slots 0) (u 0) k.number k.control)
    ∙ ap (λ (p : Peer). resets.on_line n.control.slot n.control.subnet ++ p.phase.waiting) k.peer

-- an open sender is on a data link

not_zero : (l : ℕ) → is_data_link l ≡ true → (l == 0) ≡ false
not_zero l d = let two : 2 ≤ l = leb-true 2 l (and_parts (nat_le 2 l) (nat_le l LAST_LINK) d).0 in ne_eqb l 0 (λ (e : l ≡ 0). omega (arith, e, two))

on-data-link : (pair : Pair) (m : Ends) → sends pair ≡ true → EndsInvariant m → is_open (or_new (get m pair)) ≡ true → ((or_new (get m pair)).link == 0) ≡ false
on-data-link pair m s g = go (get m pair) (g.limits pair) (g.sound pair)
  where
    go : (o : Option Endpoint) → InLimitsAt pair o → SoundAt pair o → is_open (or_new o) ≡ true → ((or_new o).link == 0) ≡ false
    go None l k x = absurd (cc x)
    go (Some e) l k x = not_zero e.link (l.link s (k.heard (k.opens x)))

module _ (pair : Pair) (s : sends pair ≡ true) (v : World) (p : Both) (t : OfModelWith p v) where
  -- the ends are the same
  this-ends : v.this.peer.ends ≡ t.0.this.ends
  this-ends = ap (λ (q : Peer). q.ends) t.1.this.peer

  that-ends : v.that.peer.ends ≡ t.0.that.ends
  that-ends = ap (λ (q : Peer). q.ends) t.1.that.peer

  -- what is said of the ends, of what is underway each way, and of the text on the pair's link
  moved : (P : Ends → Ends → List Command → List Command → ℕ → List Bool → Both → Type 0)
      → ((is_open (headline.sender_in_model pair t.0) ≡ true) → P t.0.this.ends t.0.that.ends (headline.commands_there t.0) (headline.commands_back t.0) (headline.how_many_texts (headline.text_underway pair t.0)) (headline.bits_of_text (headline.text_underway pair t.0)) (both t.0))
      → is_open (sender_at pair v) ≡ true
      → P v.this.peer.ends v.that.peer.ends (underway v.this v.going) (underway v.that v.coming) (how_many (text_out pair v)) (bits_out (text_out pair v)) p
  moved P k o =
      let open_ : is_open (headline.sender_in_model pair t.0) ≡ true = ap (λ (m : Ends). is_open (or_new (get m pair))) (sym this-ends) ∙ o in
      let on : ℕ = (headline.sender_in_model pair t.0).link in
      let z : (on == 0) ≡ false = on-data-link pair t.0.this.ends s (good-here t.0 t.1.reached) open_ in
      let line = text-line v.there on (t.0.this.texts on) (slot_at v.this.slots on) (v.going on) t.1.this.number (t.1.this.texts on z) in
      let same : (sender_at pair v).link ≡ on = ap (λ (m : Ends). (or_new (get m pair)).link) this-ends in
      let many : how_many (text_out pair v) ≡ headline.how_many_texts (headline.text_underway pair t.0) = ap (λ (k : ℕ). how_many (not_come (slot_at v.this.slots k) (v.going k))) same ∙ line.0 in
      let bits : bits_out (text_out pair v) ≡ headline.bits_of_text (headline.text_underway pair t.0) = ap (λ (k : ℕ). bits_out (not_come (slot_at v.this.slots k) (v.going k))) same ∙ line.1 in
      let there : underway v.this v.going ≡ headline.commands_there t.0 = underway-is v.there t.0.this v.this v.going t.1.this in
      let back : underway v.that v.coming ≡ headline.commands_back t.0 = underway-is v.here t.0.that v.that v.coming t.1.that in
      subst (λ (m : Ends). P m v.that.peer.ends (underway v.this v.going) (underway v.that v.coming) (how_many (text_out pair v)) (bits_out (text_out pair v)) p) (sym this-ends)
      (subst (λ (m : Ends). P t.0.this.ends m (underway v.this v.going) (underway v.that v.coming) (how_many (text_out pair v)) (bits_out (text_out pair v)) p) (sym that-ends)
      (subst (λ (cs : List Command). P t.0.this.ends t.0.that.ends cs (underway v.that v.coming) (how_many (text_out pair v)) (bits_out (text_out pair v)) p) (sym there)
      (subst (λ (cs : List Command). P t.0.this.ends t.0.that.ends (headline.commands_there t.0) cs (how_many (text_out pair v)) (bits_out (text_out pair v)) p) (sym back)
      (subst (λ (n : ℕ). P t.0.this.ends t.0.that.ends (headline.commands_there t.0) (headline.commands_back t.0) n (bits_out (text_out pair v)) p) (sym many)
      (subst (λ (xs : List Bool). P t.0.this.ends t.0.that.ends (headline.commands_there t.0) (headline.commands_back t.0) (headline.how_many_texts (headline.text_underway pair t.0)) xs p) (sym bits)
      (subst (λ (b : Both). P t.0.this.ends t.0.that.ends (headline.commands_there t.0) (headline.commands_back t.0) (headline.how_many_texts (headline.text_underway pair t.0)) (headline.bits_of_text (headline.text_underway pair t.0)) b) t.2 (k open_)))))))

  pub amounts-carried : AmountsAgree pair v
  amounts-carried o = moved
      (λ a b there back n xs q. (is_open (or_new (get a pair)) ≡ true) × (is_open (or_new (get b (counterpart pair))) ≡ true)
      → allowance (or_new (get b (counterpart pair))) ≡ allowance (or_new (get a pair)) ⊕ total_on (or_new (get a pair)).link granted back ⊕ amount n (length xs) ⊕ total_on (or_new (get a pair)).link returned there)
      (λ _. of-reached (λ (w : hosts.TwoNodes). headline.AmountsAgreeInModel pair w) (λ (es : List NodeEvent). let t = ever es in amounts_agree t.own t.own' (run es) t.holds t.stand pair s) t.0 t.1.reached) o.0 o

  pub parted-carried : Parted pair v p
  parted-carried o = moved
      (λ a b there back n xs q. (is_open (or_new (get a pair)) ≡ true) × (is_open (or_new (get b (counterpart pair))) ≡ true)
      → (past_of q.this pair).given ≡ (past_of q.that (counterpart pair)).got ++ (xs ++ (or_new (get a pair)).stored))
      (λ _. of-reached (λ (w : hosts.TwoNodes). headline.PartedInModel pair w) (λ (es : List NodeEvent). let t = ever es in parted t.own t.own' (run es) t.holds t.stand pair s) t.0 t.1.reached) o.0 o

-- no RST or RRP is underway between two that are up

no-reset : (w : hosts.TwoNodes) → IsReachable w → is_up w.this.host ≡ true → is_up w.that.host ≡ true → filter is_reset (resets.commands_underway w.this.host w.this.control) ≡ []
no-reset w r = of-reached (λ (w : hosts.TwoNodes). is_up w.this.host ≡ true → is_up w.that.host ≡ true → filter is_reset (resets.commands_underway w.this.host w.this.control) ≡ [])
    (λ (es : List NodeEvent) a b. let k = (ever es).holds.joined.kept in let x = run es in (agreeing x.this.host x.that.host (resets.commands_underway x.this.host x.this.control) (resets.commands_underway x.that.host x.that.control) a b k.there k.here).0) w r

pub no-reset-carried : (v : World) (p : Both) → OfModelWith p v → NoResetUnderway v
no-reset-carried v p t a b =
    ap (λ (cs : List Command). filter is_reset cs) (underway-is v.there t.0.this v.this v.going t.1.this)
    ∙ no-reset t.0 t.1.reached (ap (λ (q : Peer). up q.phase) (sym t.1.this.peer) ∙ a) (ap (λ (q : Peer). up q.phase) (sym t.1.that.peer) ∙ b)
