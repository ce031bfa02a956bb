-- A message that a host sends, and the texts reported at its interface after it: the same for each live
-- end, except that the sender of a text gains the text.
use Rattle.std.proofs.Common.{◌≡◌, ◌≤◌, ℕ, ◌+◌, ◌-◌, ◌==◌, Bool, true, false, not, if◌then◌else◌, List, [], ◌∷◌, ◌++◌, length, map, All, Option, None, Some, is_some, Result, Ok, refl, sym, ap, ◌∙◌, subst, arith}
use Rattle.std.specs.Prelude.{nat_le}
use Rattle.std.specs.FinMap.{get, get-empty}
use Rattle.std.proofs.lemmas.Bool.{eqb-true}
use Rattle.ncp_numbers.specs.Bytes.{bits_of_bytes}
use Rattle.ncp_leader.specs.declared.fault.MessageFault.{MessageFault}
use Rattle.ncp_leader.specs.Leader.{leader_in}
use Rattle.ncp_leader.specs.Message.{Message, message_in, message_with}
use Rattle.ncp_wire.specs.declared.command.Command.{Command}
use Rattle.ncp_wire.specs.declared.fault.CommandFault.{CommandFault}
use Rattle.ncp_wire.specs.Spelling.{IsCommand, spelling, spellings}
use Rattle.ncp_control.specs.Texts.{items_of}
use Rattle.ncp_slot.specs.declared.slot.Slot.{Slot}
use Rattle.ncp_slot.specs.Slot.{is_empty}
use Rattle.ncp_slot.specs.Slots.{is_quiet, LinkSlot, slot_at}
use Rattle.ncp_model.specs.declared.pair.Pair.{Pair}
use Rattle.ncp_model.specs.declared.limits.TheConstants.{MAX_CONTROL}
use Rattle.ncp_model.specs.Pairs.{pair_cmp}
use Rattle.ncp_model.specs.Effect.{answer}
use Rattle.ncp_model.specs.Endpoint.{Endpoint, is_live}
use Rattle.ncp_model.specs.Ends.{Ends, cut_in}
use Rattle.ncp_model.specs.Phase.{up}
use Rattle.ncp_model.specs.Sending.{fitting, next_commands}
use Rattle.ncp_model.proofs.ResetLists.{rsts, rsts-append}
use Rattle.ncp_proof_endpoint.specs.Sound.{SoundAt}
use Rattle.ncp_proof_machine.specs.Hosts.{Pasts}
use Rattle.ncp_peer.specs.PeerState.{PeerState}
use Rattle.ncp_peer.specs.Hearing.{is_wrong_link}
use Rattle.ncp_peer.specs.Output.{leader_to, message_to, control_message, text_message, output_by, after_next, after_output}
use Rattle.ncp_host.specs.Turns.{next_output, after_next_output}
use Rattle.ncp_transcript_two.specs.Tie.{AreCommands, IsText}
use Rattle.ncp_transcript_two.specs.Between.{Hosts}
use Rattle.ncp_transcript_two.specs.Seen.{had_for}
use Rattle.ncp_transcript_two.proofs.Comings.{small}
use Rattle.ncp_transcript_two.proofs.OnePeer.{had-sent}
use Rattle.ncp_transcript_two.proofs.Well.{cut-written}
use Rattle.ncp_transcript_two.proofs.Written.{read, control_text}
use Rattle.ncp_interface.specs.declared.message_class.MessageClass.{MessageClass}
use Rattle.ncp_monitor.specs.declared.monitor.Monitor.{Monitor}
use Rattle.ncp_interface.specs.declared.imp_direction.ImpDirection.TheVariants.{ToImp}
use Rattle.ncp_monitor.specs.ConnStates.{conn_at_index}
use Rattle.ncp_interface.specs.Slots.{position_of, gone_out, with_out}
use Rattle.ncp_interface.specs.Contents.{message_class}
use Rattle.ncp_monitor.specs.Tables.{view_in}
use Rattle.ncp_monitor.specs.Judged.{sees, fresh_out, record_findings, after_record}
use Rattle.ncp_monitor.proofs.LinkOrder.{about}
use Rattle.ncp_follow.specs.declared.follower.Follower.{Follower}
use Rattle.ncp_follow.specs.declared.followed_conn.FollowedConn.{FollowedConn}
use Rattle.ncp_follow.specs.declared.session.Session.{Session}
use Rattle.ncp_follow.specs.declared.tables.Tables.{Tables}
use Rattle.ncp_follow.specs.declared.observation.Observation.{Observation}
use Rattle.ncp_follow.specs.Tracks.{track_at}
use Rattle.ncp_follow.specs.Sessions.{session_of, is_heard}
use Rattle.ncp_follow.specs.Tables.{after_text}
use Rattle.ncp_follow.specs.Followed.{tables_after_all, read_tables, follower_after_said, follower_after_record}
use Rattle.ncp_proof_monitor.proofs.Phased.{none_queued}
use Rattle.ncp_proof_monitor.proofs.Laid.{weighs, fitting_all}
use Rattle.ncp_proof_monitor.proofs.PhaseSeen.{Seen}
use Rattle.ncp_proof_monitor_allocation.proofs.OwnMoves.{all_says}
use Rattle.ncp_proof_monitor_host.proofs.Spoken.{Tells}
use Rattle.ncp_proof_monitor_messages.proofs.AsRead.{items, control_of}
use Rattle.ncp_proof_monitor_messages.proofs.Between.{Leaves, leaves}
use Rattle.ncp_proof_monitor_messages.proofs.Both.{control_said}
use Rattle.ncp_proof_monitor_messages.proofs.Both
use Rattle.ncp_proof_monitor_messages.proofs.OwnOut
use Rattle.ncp_proof_monitor_network.proofs.SessionInvariants.{Known}
use Rattle.ncp_proof_follow_tables.proofs.SameSessions.{few_room}
use Rattle.ncp_proof_follow.proofs.SameRecords.{tables_out, heard_out}
use Rattle.ncp_proof_follow_tables.proofs.OpensSo.{AllOpened}
use Rattle.ncp_proof_follow_tables.proofs.Placed.{named, text_named, Placed}
use Rattle.ncp_proof_follow.proofs.PeerLives.{SoundAll}
use Rattle.ncp_proof_follow.proofs.HostLives.{HostLives, gone_by, out_lives}
use Rattle.ncp_proof_follow.proofs.HostAsks.{live_heard}
use Rattle.ncp_proof_follow.proofs.HostMeets.{leaves_in, none_over}
use Rattle.ncp_proof_follow.proofs.ControlComes.{AtHost, none_lives, still_opened}
use Rattle.ncp_proof_follow.proofs.ControlGoes.{IsSaid, GoneOut, gone_begins, all_go}
use Rattle.ncp_proof_follow.proofs.TextsGone.{text_goes_opened}
use Rattle.ncp_proof_follow.proofs.BothFollowed.{Beside, roomy, waits, b_a}

-- the commands of a control message are from the front of those that wait
front : (space : ℕ) (cs : List Command) → (rest : List Command) × (cs ≡ fitting space cs ++ rest)
front space [] = ([], refl)
front space (c ∷ cs) = go (nat_le (length (spelling c)) space) (front (space - length (spelling c)) cs)
  where
    go : (b : Bool) → (rest : List Command) × (cs ≡ fitting (space - length (spelling c)) cs ++ rest) → (rest : List Command) × ((c ∷ cs) ≡ (if b then c ∷ fitting (space - length (spelling c)) cs else []) ++ rest)
    go false r = (c ∷ cs, refl)
    go true r = (r.0, ap (λ (xs : List Command). c ∷ xs) r.1)

items_ok : (cs : List Command) → items_of cs None ≡ map Ok cs
items_ok [] = refl
items_ok (c ∷ cs) = ap (λ (xs : List (Result Command CommandFault)). Ok c ∷ xs) (items_ok cs)

-- a host that is up has no RST to say
none_said : (w : List Command) → rsts w ≡ 0 → IsSaid w Command.Rst → ⊥
none_said w e (before, after, is) =
    let parts : rsts w ≡ rsts before + rsts (Command.Rst ∷ after) = ap rsts is ∙ rsts-append before (Command.Rst ∷ after) in
    let some : 1 ≤ rsts (Command.Rst ∷ after) = omega arith in
    too_few (rsts w) (rsts before) (rsts (Command.Rst ∷ after)) e parts some
  where
    too_few : (x y z : ℕ) → x ≡ 0 → x ≡ y + z → 1 ≤ z → ⊥
    too_few x y z a b c = omega arith

module _ (w : Hosts) (u : Monitor) (k : Known w u) (unfull : u.full ≡ false) (room : u.conn_tables.full ≡ false) (number : ℕ) (f : Follower) (beside : Beside w.number_a w.number_b u f) (placed : Placed f.tables) (all : AllOpened f.tables.tracks)
    (covered : (p : ℕ) → is_some (track_at f.tables.tracks p).place ≡ true → ((conn_at_index u.conn_tables.conns p).messages ≤ (track_at f.tables.tracks p).left.messages) × ((conn_at_index u.conn_tables.conns p).bits ≤ (track_at f.tables.tracks p).left.bits))
    (m : List Bool) (q : next_output w.a ≡ Some m) (full : (after_record u ToImp w.number_a m).full ≡ false) (after_room : (after_record u ToImp w.number_a m).conn_tables.full ≡ false) (unfound : record_findings u ToImp w.number_a m ≡ []) (pasts : Pasts) where
  abbrev a : ℕ
  a = w.number_a

  abbrev b : ℕ
  b = w.number_b

  abbrev st : PeerState
  st = had_for w.number_b w.a

  l : Leaves w m
  l = leaves w m k.0.joined q

  seen : Seen st (view_in u.views a b)
  seen = Both.own_seen w u k.0 unfull

  sound : SoundAll st.peer.ends
  sound = (Both.is_ready w u k.0).fine.good.sound

  suspended : (view_in u.views a b).suspended ≡ false
  suspended = beside.this.touch.awake.suspended

  abbrev now : Tables
  now = (follower_after_record number true a m f).tables

  abbrev σ : Session
  σ = session_of false f.sessions a b

  abbrev sent_on : ℕ → Follower
  sent_on on = record f { outs = with_out f.outs (position_of a b on f.outs) (gone_out a b on m) }

  abbrev saying : Observation
  saying = record { number = number; at = a; peer = b; sent = true }

  abbrev After : ℕ → Tables → Type 0
  After on t = AtHost a b st pasts f.tables → AtHost a b (after_output on m st) pasts t

  -- nothing is sent, and the same is reported for each live end
  kept_on : (on : ℕ) (t : Tables) → ((p : Pair) → gone_by st pasts sound p (slot_at st.slots on) on ≡ []) → ((p : Pair) → is_live (get st.peer.ends p) ≡ true → text_named (record { at = a; peer = b; pair = p }) t ≡ text_named (record { at = a; peer = b; pair = p }) f.tables) → After on t
  kept_on on t none stays at =
      still_opened a b st (after_output on m st) pasts pasts f.tables t (λ p. []) (λ p. false) conns (λ p x y. stays p x) (λ p x y. let nay : false ≡ true = (conns p).begins x y in absurd (cc nay)) at
    where
      conns : (p : Pair) → HostLives p st (after_output on m st) pasts pasts [] [] [] false
      conns p = subst (λ (xs : List Bool). HostLives p st (after_output on m st) pasts pasts [] [] xs false) (none p) (out_lives st pasts sound p on m)

  -- a host that is not up has no end
  down_on : (on : ℕ) (t : Tables) → up st.peer.phase ≡ false → After on t
  down_on on t d at = none_lives a b (after_output on m st) pasts t (λ p. dead p (is_live (get (after_output on m st).peer.ends p)) refl)
    where
      none : (p : Pair) → is_live (get st.peer.ends p) ≡ false
      none p = ap (λ (x : Ends). is_live (get x p)) (seen.stands.down d) ∙ ap is_live (get-empty pair_cmp p)

      dead : (p : Pair) (x : Bool) → is_live (get (after_output on m st).peer.ends p) ≡ x → is_live (get (after_output on m st).peer.ends p) ≡ false
      dead p false e = e
      dead p true e = let nay : false ≡ true = (out_lives st pasts sound p on m).begins (none p) e in absurd (cc nay)

  module _ (on : ℕ) (led : leader_in m ≡ Ok (leader_to b on)) (ready : output_by (slot_at st.slots on) b on st.peer ≡ Some m) where
    abbrev fresh : Bool
    fresh = fresh_out (sees u a) a b on m

    is_fresh : fresh ≡ is_empty (slot_at st.slots on)
    is_fresh =
        OwnOut.is_fresh_out a b on m (slot_at st.slots on) st.peer u (b_a w u k unfull room number f beside) k.0.joined.stand.fits_a k.0.joined.stand.fits_b k.0.ways.sound.long led ready seen.stands.phased.told seen.stands.phased.known
        (λ g. (k.0.at_a.watched.follows g).agrees w.number_b st (Both.there w u k.0) on) full

    tables_now : now ≡ (if fresh then (follower_after_said saying (message_in m) (sent_on on)).tables else f.tables)
    tables_now =
        tables_out number a b k.0.joined.stand.fits_a k.0.joined.stand.fits_b roomy on m u f beside.this (b_a w u k unfull room number f beside) k.0.ways.sound.long seen.stands.phased.known (waits w u k unfull room number f beside) (λ e. few_room a b f.sessions beside.few) led full room
        after_room unfound

    abbrev Gone : Tables → Type 0
    Gone t = AtHost a b st pasts f.tables → AtHost a b (after_output on m st) pasts t

    sent_again : (r : List Bool) → slot_at st.slots on ≡ Slot.Ready r → Gone now
    sent_again r e =
        subst Gone (sym (tables_now ∙ ap (λ (x : Bool). (if x then (follower_after_said saying (message_in m) (sent_on on)).tables else f.tables)) (is_fresh ∙ ap is_empty e)))
        (kept_on on f.tables (λ p. ap (λ (x : LinkSlot). gone_by st pasts sound p x on) e) (λ p x. refl))

    -- it is read
    read_now : (x : Message) → slot_at st.slots on ≡ Slot.Empty → message_in m ≡ Ok x → now ≡ read_tables (message_class x) saying x σ f.tables
    read_now x e reads =
        tables_now ∙ ap (λ (y : Bool). (if y then (follower_after_said saying (message_in m) (sent_on on)).tables else f.tables)) (is_fresh ∙ ap is_empty e)
        ∙ ap (λ (r : Result Message MessageFault). (follower_after_said saying r (sent_on on)).tables) reads ∙ ap (λ (p : Bool). read_tables (message_class x) saying x (session_of p f.sessions a b) f.tables) beside.this.part

    module _ (u_up : up st.peer.phase ≡ true) where
      no_resets : rsts st.peer.phase.waiting ≡ 0
      no_resets = none_queued st.peer.phase (is_quiet st.slots) (view_in u.views a b) u_up beside.this.touch.awake.own_even seen.stands.phased

      tells : Tells a b st.peer.ends st.peer.echoes.awaited st.peer.phase.waiting u.conn_tables
      tells = (k.1.talks_a.spoken unfull room b st (Both.there w u k.0)).tells suspended no_resets u_up

      over : (p : Pair) (conn : FollowedConn) → is_live (get st.peer.ends p) ≡ true → named (record { at = a; peer = b; pair = p }) f.tables.tracks ≡ Some conn → conn.peer_left ≡ true → leaves_in (about (p.local, p.remote) (all_says st.peer.phase.waiting)) ≡ true → ⊥
      over p conn live there left waiting = go (get st.peer.ends p) refl live
        where
          go : (o : Option Endpoint) → get st.peer.ends p ≡ o → is_live o ≡ true → ⊥
          go None e i = absurd (cc i)
          go (Some x) e i =
              none_over a b st.peer.ends st.peer.echoes.awaited st.peer.phase.waiting u.conn_tables f.tables tells beside.this.same p x conn e (live_heard p x (subst (SoundAt p) e (sound p)) i) there left waiting

      -- commands
      commands_go : on ≡ 0 → slot_at st.slots on ≡ Slot.Empty → Gone now
      commands_go z e =
          subst Gone (sym is)
          (kept_on on (tables_after_all saying (map Ok cs) σ f.tables) (λ p. ap (λ (x : LinkSlot). gone_by st pasts sound p x on) e ∙ ap (λ (j : ℕ). gone_by st pasts sound p Slot.Empty j) z) (λ p x. gone.texts p x))
        where
          cs : List Command
          cs = next_commands st.peer.phase.waiting

          ready_at : control_message b cs ≡ Some m
          ready_at = sym (ap (λ (x : LinkSlot). output_by x b on st.peer) e ∙ ap (λ (j : ℕ). output_by Slot.Empty b j st.peer) z) ∙ ready

          each : All IsCommand cs
          each = fitting_all MAX_CONTROL st.peer.phase.waiting (Both.is_ready w u k.0).fine.well.waiting

          fits : AreCommands cs
          fits = (each, weighs MAX_CONTROL st.peer.phase.waiting)

          reads : message_in m ≡ Ok (control_of b cs)
          reads = ap message_in (control_said b cs m ready_at).0 ∙ read b 0 8 (bits_of_bytes (spellings cs)) k.0.joined.stand.fits_b (omega arith) (control_text cs fits)

          is : now ≡ tables_after_all saying (map Ok cs) σ f.tables
          is = read_now (control_of b cs) e reads ∙ ap (λ (xs : List (Result Command CommandFault)). tables_after_all saying xs σ f.tables) (items cs each ∙ items_ok cs)

          rest : (rest : List Command) × (st.peer.phase.waiting ≡ cs ++ rest)
          rest = front MAX_CONTROL st.peer.phase.waiting

          gone : GoneOut number a b st.peer.ends st.peer.phase.waiting f.tables (tables_after_all saying (map Ok cs) σ f.tables)
          gone =
              all_go number a b st.peer.ends st.peer.phase.waiting f.tables over (λ y p. absurd (none_said st.peer.phase.waiting no_resets y)) cs rest.0 f.tables σ [] rest.1 (gone_begins number a b st.peer.ends st.peer.phase.waiting f.tables placed)

      -- a text
      text_go : (on == 0) ≡ false → is_wrong_link on ≡ false → slot_at st.slots on ≡ Slot.Empty → Gone now
      text_go z right e = by_text (answer (cut_in on st.peer.ends)) refl said
        where
          said : text_message b on (answer (cut_in on st.peer.ends)) ≡ Some m
          said = sym (ap (λ (x : Bool). if x then control_message b (next_commands st.peer.phase.waiting) else text_message b on (answer (cut_in on st.peer.ends))) z) ∙ ap (λ (x : LinkSlot). output_by x b on st.peer) (sym e) ∙ ready

          by_text : (o : Option (ℕ × List Bool)) → answer (cut_in on st.peer.ends) ≡ o → text_message b on o ≡ Some m → Gone now
          by_text None g r = absurd (cc r)
          by_text (Some t) g r =
              subst Gone (sym is)
              (text_goes_opened number a b st pasts sound (Both.is_ready w u k.0).fine.good u.conn_tables f.tables beside.this.same (k.1.talks_a.tidy room) room placed all st.peer.echoes.awaited st.peer.phase.waiting tells on x m t g refl refl covered e z)
            where
              x : Message
              x = message_with (leader_to b on) t.0 t.1

              fits : IsText t.0 t.1
              fits = cut-written on st.peer.ends t (Both.is_ready w u k.0).fine.good (Both.is_ready w u k.0).fine.well.ends g

              written : message_to b on t.0 t.1 ≡ m
              written = cc r

              reads : message_in m ≡ Ok x
              reads = ap message_in (sym written) ∙ read b on t.0 t.1 k.0.joined.stand.fits_b (small on right) fits

              is_text : message_class x ≡ MessageClass.Text
              is_text = ap (λ (y : Bool). if y then MessageClass.Stop else if not (on == 0) then MessageClass.Text else if t.0 == 8 then MessageClass.Control else MessageClass.Stop) right ∙ ap (λ (y : Bool). if not y then MessageClass.Text else if t.0 == 8 then MessageClass.Control else MessageClass.Stop) z

              heard : is_heard σ true ≡ true
              heard =
                  heard_out number a b k.0.joined.stand.fits_a k.0.joined.stand.fits_b roomy on m u f beside.this (b_a w u k unfull room number f beside) k.0.ways.sound.long seen.stands.phased.known (waits w u k unfull room number f beside) (λ e. few_room a b f.sessions beside.few) led
                  full room after_room unfound (is_fresh ∙ ap is_empty e) x reads is_text

              is : now ≡ after_text saying on t.0 t.1 f.tables
              is =
                  read_now x e reads ∙ ap (λ (y : MessageClass). read_tables y saying x σ f.tables) is_text
                  ∙ ap (λ (y : Bool). if y then after_text saying on t.0 t.1 f.tables else f.tables) heard

    gone_on : is_wrong_link on ≡ false → Gone now
    gone_on right = by_up (up st.peer.phase) refl
      where
        by_slot : up st.peer.phase ≡ true → (slot : LinkSlot) → slot_at st.slots on ≡ slot → (z : Bool) → (on == 0) ≡ z → Gone now
        by_slot g Slot.Empty e true z = commands_go g (eqb-true on 0 z) e
        by_slot g Slot.Empty e false z = text_go g z right e
        by_slot g (Slot.Ready r) e z y = sent_again r e
        by_slot g (Slot.Travelling r) e z y = let nay : None ≡ Some m = ap (λ (x : LinkSlot). output_by x b on st.peer) (sym e) ∙ ready in absurd (cc nay)
        by_slot g (Slot.Held r) e z y = let nay : None ≡ Some m = ap (λ (x : LinkSlot). output_by x b on st.peer) (sym e) ∙ ready in absurd (cc nay)

        by_up : (g : Bool) → up st.peer.phase ≡ g → Gone now
        by_up true g = by_slot g (slot_at st.slots on) refl (on == 0) refl
        by_up false g = down_on on now g

  -- the sent message
  pub goes_opened : AtHost a b st pasts f.tables → AtHost a b (had_for b (after_next_output w.a)) pasts now
  goes_opened at = subst (λ (x : PeerState). AtHost a b x pasts now) (sym state) (gone_on l.on l.led l.ready l.right at)
    where
      state : had_for b (after_next_output w.a) ≡ after_output l.on m st
      state = had-sent b w.a k.0.joined.stand.a ∙ ap (λ (o : Option (ℕ × List Bool)). after_next o st) l.next
