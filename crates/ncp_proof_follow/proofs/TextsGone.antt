-- A sent text is reported for the connection that has its link, and it is from the front of the text
-- stored there.
use Rattle.std.proofs.Common.{◌≡◌, ◌<◌, ◌≤◌, inr, ℕ, ◌*◌, ◌==◌, Bool, true, false, ◌&&◌, if◌then◌else◌, List, [], length, take, Option, None, Some, is_some, refl, sym, ap, ◌∙◌, subst, arith}
use Rattle.std.specs.FinMap.{get}
use Rattle.std.proofs.lemmas.List.{length-take-le}
use Rattle.std.proofs.lemmas.List.Quantifiers.{position-Some}
use Rattle.ncp_leader.specs.Message.{Message}
use Rattle.ncp_wire.specs.declared.command.Command.{Command}
use Rattle.ncp_slot.specs.declared.slot.Slot.{Slot}
use Rattle.ncp_slot.specs.Slots.{LinkSlot, slot_at}
use Rattle.ncp_model.specs.declared.pair.Pair.{Pair}
use Rattle.ncp_model.specs.Effect.{answer, Stays}
use Rattle.ncp_model.specs.Endpoint.{Endpoint, is_live}
use Rattle.ncp_model.specs.Ends.{Ends, pair_of, sender_on, cut_at, cut_in}
use Rattle.ncp_model.specs.Pairs.{sends, receives}
use Rattle.ncp_model.specs.Texts.{bytes_to_send, can_send, cut_bits}
use Rattle.ncp_proof_endpoint.specs.Sound.{SoundEnd, SoundAt}
use Rattle.ncp_proof_machine.specs.Hosts.{past_of, Pasts}
use Rattle.ncp_proof_machine.proofs.EndsGood.{EndsInvariant}
use Rattle.ncp_peer.specs.PeerState.{PeerState}
use Rattle.ncp_peer.specs.Output.{after_output}
use Rattle.ncp_monitor.specs.declared.conn_state.ConnState.{ConnState}
use Rattle.ncp_monitor.specs.declared.conn_state.FactKind.{FactKind}
use Rattle.ncp_monitor.specs.ConnStates.{SeenTables, unasked_conn, conn_at_index, is_marked}
use Rattle.ncp_monitor.specs.Texts.{text_target}
use Rattle.ncp_monitor.proofs.BooksAt.{HasSockets}
use Rattle.ncp_follow.specs.declared.followed_conn.FollowedConn.{FollowedConn}
use Rattle.ncp_follow.specs.declared.tables.Tables.{Tables}
use Rattle.ncp_follow.specs.declared.observation.Observation.{Observation}
use Rattle.ncp_follow.specs.Tracks.{new_track, is_used, takes_bits, track_at}
use Rattle.ncp_follow.specs.Tables.{index_at_link, said_at, after_text}
use Rattle.ncp_proof_monitor_allocation.proofs.LinksReach.{Led, led_sender}
use Rattle.ncp_proof_monitor_allocation.proofs.OwnMoves.{sockets_of}
use Rattle.ncp_proof_monitor_allocation.proofs.TidyBooks.{Tidy}
use Rattle.ncp_proof_monitor_allocation.proofs.LinkPlaces.{OpensAt}
use Rattle.ncp_proof_monitor_replies.proofs.LinksGo.{own_flow}
use Rattle.ncp_proof_monitor_replies.proofs.TextGoes.{MaySend, may_send_is, SentOf, sent_of, opens, open_rules_none}
use Rattle.ncp_proof_monitor_host.proofs.Spoken.{Tells}
use Rattle.ncp_proof_follow_tables.proofs.Besides.{besides_length, besides_at}
use Rattle.ncp_proof_follow_tables.proofs.SameConns.{SameConn}
use Rattle.ncp_proof_follow_tables.proofs.Calmly.{none_suspended}
use Rattle.ncp_proof_follow_tables.proofs.SameCommands.{Same}
use Rattle.ncp_proof_follow_tables.proofs.SameTexts.{TextLed, text_led, text_index}
use Rattle.ncp_proof_follow_tables.proofs.OtherAt.{first_here}
use Rattle.ncp_proof_follow_tables.proofs.OpensSo.{AllOpened}
use Rattle.ncp_proof_follow_tables.proofs.Placed.{Name, has_name, text_named, Placed}
use Rattle.ncp_proof_follow_tables.proofs.PlacedSteps.{SaidSo, said_so}
use Rattle.ncp_proof_follow.proofs.PeerLives.{SoundAll, mine, text_cut}
use Rattle.ncp_proof_follow.proofs.HostLives.{HostLives, gone_by, out_lives}
use Rattle.ncp_proof_follow.proofs.HostAsks.{out_steady}
use Rattle.ncp_proof_follow.proofs.Telling.{got_step, given_step, with_none}
use Rattle.ncp_proof_follow.proofs.ControlComes.{AtHost}
use Rattle.ncp_proof_follow.proofs.TextsOpened.{one_way, named_so, grown, others, begins, takes_it, covers_it}

-- what is cut: of the end that the link leads to, as it may send
record CutFrom (on : ℕ) (m : Ends) (t : ℕ × List Bool) : Type 0 where
  pub pair : Pair
  pub e : Endpoint
  pub led : sender_on on m ≡ Some (pair, e)
  pub may : can_send pair e ≡ true
  pub size : t.0 ≡ e.size
  pub text : t.1 ≡ take (bytes_to_send e * e.size) e.stored

cut_from : (on : ℕ) (m : Ends) (t : ℕ × List Bool) → answer (cut_in on m) ≡ Some t → CutFrom on m t
cut_from on m t a = go (sender_on on m) refl a
  where
    go : (o : Option (Pair × Endpoint)) → sender_on on m ≡ o → answer (cut_at o) ≡ Some t → CutFrom on m t
    go None l a = absurd (cc a)
    go (Some (pair, e)) l a = by (can_send pair e) refl a
      where
        by : (x : Bool) → can_send pair e ≡ x → answer (if x then cut_bits (bytes_to_send e * e.size) e else Stays None) ≡ Some t → CutFrom on m t
        by false k a = absurd (cc a)
        by true k a =
            let is : (e.size, take (bytes_to_send e * e.size) e.stored) ≡ t = cc a in
            record { pair = pair; e = e; led = l; may = k; size = ap (λ (x : ℕ × List Bool). x.0) (sym is); text = ap (λ (x : ℕ × List Bool). x.1) (sym is) }

stored_enough : (e : Endpoint) → bytes_to_send e * e.size ≤ length e.stored
stored_enough e = grind arith

module _ (number me n : ℕ) (s : PeerState) (pasts : Pasts) (sound : SoundAll s.peer.ends) (good : EndsInvariant s.peer.ends) (b : SeenTables) (t : Tables) (same : Same b t) (tidy : Tidy b) (room : b.full ≡ false) (placed : Placed t) (all : AllOpened t.tracks)
    (awaited : Bool) (w : List Command) (tells : Tells me n s.peer.ends awaited w b) (on : ℕ) (message : Message) (out : List Bool) (cut : ℕ × List Bool) (made : answer (cut_in on s.peer.ends) ≡ Some cut)
    (sized : message.size ≡ cut.0) (worded : message.text ≡ cut.1)
    (covered : (p : ℕ) → is_some (track_at t.tracks p).place ≡ true → ((conn_at_index b.conns p).messages ≤ (track_at t.tracks p).left.messages) × ((conn_at_index b.conns p).bits ≤ (track_at t.tracks p).left.bits)) where
  abbrev sent : Observation
  sent = record { number = number; at = me; peer = n; sent = true }

  abbrev now : Tables
  now = after_text sent on message.size message.text t

  abbrev name : Pair → Name
  name q = record { at = me; peer = n; pair = q }

  c : CutFrom on s.peer.ends cut
  c = cut_from on s.peer.ends cut made

  l : Led s.peer.ends on (sends c.pair) c.e.heard c.pair c.e
  l = led_sender s.peer.ends on c.pair c.e c.led

  may : MaySend c.pair c.e
  may = may_send_is c.pair c.e c.may

  end_sound : SoundEnd c.pair c.e
  end_sound = subst (SoundAt c.pair) l.there (good.sound c.pair)

  long : length message.text ≡ bytes_to_send c.e * c.e.size
  long = ap length (worded ∙ c.text) ∙ length-take-le (bytes_to_send c.e * c.e.size) c.e.stored (stored_enough c.e)

  unmarked : is_marked me n (FactKind.LinkSuspended false on) b ≡ false
  unmarked = none_suspended me n false on b same.calm

  of_it : SentOf me n on b (sockets_of c.pair) c.e
  of_it = sent_of me n on s.peer.ends w b c.pair c.e l.there l.its_link may end_sound tells.held tells.meets.tally.pairs tells.counted unmarked

  open_at : OpensAt me n false on b (text_target (own_flow me n) on b) (sockets_of c.pair)
  open_at = opens me n on s.peer.ends w b c.pair c.e l.there l.its_link may end_sound tells.held tells.meets.tally.pairs tells.counted message (sized ∙ c.size) long tidy tells.meets.unique unmarked

  k : TextLed (own_flow me n) on message b
  k =
      text_led (own_flow me n) on message b (λ host link. none_suspended me n host link b same.calm) room
      (open_rules_none me n on s.peer.ends w b c.pair c.e l.there l.its_link may end_sound tells.held tells.meets.tally.pairs tells.counted message (sized ∙ c.size) long tidy tells.meets.unique unmarked)

  abbrev judged : ConnState
  judged = conn_at_index b.conns k.place

  abbrev told : FollowedConn
  told = track_at t.tracks k.place

  is_place : open_at.user.place ≡ k.place
  is_place = cc (sym open_at.leads ∙ k.target)

  judged_is : judged ≡ of_it.conn
  judged_is = ap (conn_at_index b.conns) (sym is_place) ∙ same_conn
    where
      same_conn : conn_at_index b.conns open_at.user.place ≡ of_it.conn
      same_conn = cc (sym open_at.user.seen ∙ of_it.seen)

  found : index_at_link me n true on t.tracks ≡ Some k.place
  found = text_index (own_flow me n) on message b t k same.conns

  within : k.place < length t.tracks
  within = (position-Some (is_used me n true on) t.tracks k.place (new_track 0 0 0 0) found).0

  one : SameConn judged told
  one = besides_at SameConn b.conns t.tracks k.place (unasked_conn 0 0 0 0) (new_track 0 0 0 0) (subst (λ (x : ℕ). k.place < x) (besides_length SameConn b.conns t.tracks same.conns) within) same.conns

  so : SaidSo sent t placed told message.size message.text now
  so = subst (λ (o : Option ℕ). SaidSo sent t placed told message.size message.text (said_at message.size message.text t o)) (sym found) (said_so sent t placed true on message.size message.text k.place found)

  is_its : has_name (name c.pair) told ≡ true
  is_its = named_so me n c.pair.local c.pair.remote told (one.at ∙ here.at) (one.peer ∙ here.peer) (one.local ∙ here.local) (one.remote ∙ here.remote)
    where
      here : HasSockets me n c.pair.local c.pair.remote judged
      here = subst (λ (p : ℕ). HasSockets me n c.pair.local c.pair.remote (conn_at_index b.conns p)) is_place open_at.user.sockets

  taken : (is_some told.place && takes_bits told message.size (length message.text)) ≡ true
  taken =
      takes_it told message.size (length message.text) (ap (λ (o : Option ℕ). is_some o) (one.link ∙ ap (λ (x : ConnState). x.link) judged_is ∙ of_it.given))
      (one.size ∙ ap (λ (x : ConnState). x.size) judged_is ∙ of_it.sized ∙ ap (λ (x : ℕ). Some x) (sym (sized ∙ c.size))) (one.host_left ∙ ap (λ (x : ConnState). x.host_left) judged_is ∙ of_it.left)
      (one.peer_left ∙ ap (λ (x : ConnState). x.peer_left) judged_is ∙ of_it.cls)
      (all (name c.pair) told (first_here (has_name (name c.pair)) t.tracks k.place (new_track 0 0 0 0) within (placed.unique (name c.pair)) is_its))
      (λ e. let d = covered k.place e in covers_it judged told (length message.text) k.enough d.0 d.1)

  module _ (slot : slot_at s.slots on ≡ Slot.Empty) (z : (on == 0) ≡ false) where
    conns : (q : Pair) → HostLives q s (after_output on out s) pasts pasts [] [] (mine q (Some c.pair) message.text) false
    conns q =
        subst (λ (xs : List Bool). HostLives q s (after_output on out s) pasts pasts [] [] xs false)
        (ap (λ (x : LinkSlot). gone_by s pasts sound q x on) slot ∙ ap (λ (x : Bool). if x then [] else mine q (pair_of (sender_on on s.peer.ends)) (text_cut (answer (cut_in on s.peer.ends)))) z
        ∙ ap (λ (o : Option (Pair × Endpoint)). mine q (pair_of o) (text_cut (answer (cut_in on s.peer.ends)))) c.led ∙ ap (λ (o : Option (ℕ × List Bool)). mine q (Some c.pair) (text_cut o)) made
        ∙ ap (mine q (Some c.pair)) (sym worded))
        (out_lives s pasts sound q on out)

    pub text_goes_opened : AtHost me n s pasts t → AtHost me n (after_output on out s) pasts now
    text_goes_opened at = record {
      got = λ q r.
          got_step q (get s.peer.ends q) (get (after_output on out s).peer.ends q) (past_of pasts q) (past_of pasts q) [] [] (mine q (Some c.pair) message.text) false (conns q) (text q t) (text q now)
          (λ a i g. others me n sent t now placed c.pair told message.size message.text so is_its q (apart q r) ∙ sym (with_none (text q t))) (λ a i. begins me n sent t now placed c.pair told message.size message.text so is_its q) (anew q) (at.got q r);
      given = λ q r.
          given_step q (get s.peer.ends q) (get (after_output on out s).peer.ends q) (past_of pasts q) (past_of pasts q) [] [] (mine q (Some c.pair) message.text) false (conns q) (text q t) (text q now) r (inr (out_steady s sound q on out))
          (λ a i. grown me n sent t now placed c.pair told message.size message.text so is_its taken q) (anew q) (at.given q r);
    }
      where
        text : Pair → Tables → List Bool
        text q x = text_named (name q) x

        anew : (q : Pair) → is_live (get s.peer.ends q) ≡ false → is_live (get (after_output on out s).peer.ends q) ≡ true → text q now ≡ []
        anew q a i = let nay : false ≡ true = (conns q).begins a i in absurd (cc nay)

        apart : (q : Pair) → receives q ≡ true → (q ≡ c.pair) → ⊥
        apart q r d = one_way c.pair may.sends (ap receives (sym d) ∙ r)
