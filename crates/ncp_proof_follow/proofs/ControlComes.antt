-- The commands of a peer are received: after each of them the texts reported for the connections of a
-- host match the histories of its ends.
use Rattle.std.proofs.Common.{◌≡◌, ◌⊎◌, inl, inr, ℕ, ◌==◌, eq-eqb, Bool, true, false, not, ◌&&◌, ◌||◌, if◌then◌else◌, List, [], ◌∷◌, ◌++◌, map, Option, None, Some, is_some, Ok, option_map, option_to_list, append-nil, refl, sym, ap, ◌∙◌, subst, arith}
use Rattle.std.specs.FinMap.{get, get-empty}
use Rattle.std.specs.Prelude.{nat_lt}
use Rattle.std.specs.List.{filter}
use Rattle.std.proofs.lemmas.Bool.{eqb-true, and_parts}
use Rattle.std.proofs.lemmas.List.Quantifiers.{position-Some}
use Rattle.ncp_wire.specs.declared.command.Command.{Command}
use Rattle.ncp_slot.specs.Slots.{is_quiet}
use Rattle.ncp_model.specs.declared.pair.Pair.{Pair}
use Rattle.ncp_model.specs.Pairs.{pair_cmp, sends, receives, is_proper}
use Rattle.ncp_model.specs.Pairs
use Rattle.ncp_model.specs.Endpoint.{Endpoint, is_live}
use Rattle.ncp_model.specs.Ends.{Ends, demux_command}
use Rattle.ncp_model.specs.Phase.{up, Phase, is_other}
use Rattle.ncp_model.specs.Peers.{Peer, hears, hears_other}
use Rattle.ncp_proof_endpoint.specs.Sound.{SoundAt}
use Rattle.ncp_proof_machine.specs.Hosts.{Pasts, past_of}
use Rattle.ncp_proof_machine.proofs.EndsGood.{EndsInvariant}
use Rattle.ncp_peer.specs.PeerState.{PeerState}
use Rattle.ncp_peer.specs.Hearing.{state_hears}
use Rattle.ncp_transcript_two.specs.Watch.{of_command}
use Rattle.ncp_monitor.specs.declared.conn_tables.TheConstants.{MAX_TABLE_ROWS}
use Rattle.ncp_interface.specs.declared.sent_message.SentMessage.{SentMessage}
use Rattle.ncp_monitor.specs.declared.conn_state.ConnState.{ConnState}
use Rattle.ncp_interface.specs.declared.request.Request.{Request}
use Rattle.ncp_interface.specs.declared.request.Request.TheVariants.{Link, Size}
use Rattle.ncp_monitor.specs.declared.view.View.{View}
use Rattle.ncp_monitor.specs.Views.{awaits_reply}
use Rattle.ncp_monitor.specs.ConnStates.{SeenTables, is_of_sockets, conn_at_index, conn_found, conn_of, index_with_sockets, unasked_conn, is_conn_between}
use Rattle.ncp_follow.specs.declared.followed_conn.FollowedConn.{FollowedConn}
use Rattle.ncp_follow.specs.declared.tracks.TheConstants.{MAX_TRACKS}
use Rattle.ncp_follow.specs.declared.session.Session.{Session}
use Rattle.ncp_follow.specs.declared.tables.Tables.{Tables}
use Rattle.ncp_follow.specs.Tracks.{new_track, has_chosen, track_at, is_pair}
use Rattle.ncp_follow.specs.Tables.{pair_index, index_at_link, after_request, is_right, is_of_receiver, after_asking, closed_at, after_clearing}
use Rattle.ncp_proof_follow_tables.proofs.Besides.{besides_at, front_none, rest_none}
use Rattle.ncp_proof_follow_tables.proofs.SameConns.{SameConn, SameConns, requested_is, place_same}
use Rattle.ncp_proof_follow_tables.proofs.SameAsked.{AskedRight, asked_right}
use Rattle.ncp_proof_follow_tables.proofs.SameCommands.{Same}
use Rattle.ncp_proof_follow_tables.proofs.TextsAt.{text_at}
use Rattle.ncp_proof_follow_tables.proofs.Placed.{Name, has_name, named, place_in, text_named, Placed, Stays, stays_same}
use Rattle.ncp_proof_follow_tables.proofs.PlacedSteps.{unopened, after_request_stays, IsOver, ClosedSo, closed_so, granted_stays, returned_stays, cleared_so}
use Rattle.ncp_monitor.proofs.Firsts.{first, found_first, none_first}
use Rattle.std.proofs.Math.Bool.{beq}
use Rattle.ncp_monitor.specs.declared.finding.Finding.{Finding}
use Rattle.ncp_monitor.specs.declared.finding.Rule.{Rule}
use Rattle.ncp_monitor.specs.declared.finding.ItemKind.{ItemKind}
use Rattle.ncp_monitor.specs.declared.phase.MessageContext.{MessageContext}
use Rattle.ncp_monitor.specs.declared.observed_flow.ObservedFlow.{ObservedFlow}
use Rattle.ncp_monitor.specs.Phases.{broken_by, is_early, is_acted_on, early_finding}
use Rattle.ncp_monitor.specs.Requests.{broken, request_acceptance}
use Rattle.ncp_interface.specs.Sockets.{is_of_sexes}
use Rattle.ncp_monitor.specs.Speaking.{command_rule, spoken_rule, spoken_numbers}
use Rattle.ncp_monitor.specs.Talked.{reaches, all_findings}
use Rattle.ncp_monitor.proofs.Shapes.{Shape, Say, Ask, Leave, Agrees}
use Rattle.ncp_monitor.proofs.LinkOrder.{about}
use Rattle.ncp_monitor.proofs.Seeing.{of_conn, seen}
use Rattle.ncp_follow.specs.declared.connection.EndReason.TheVariants.{ReplyCame}
use Rattle.ncp_follow.specs.declared.observation.Observation.{Observation}
use Rattle.ncp_follow.specs.Sessions.{is_heard}
use Rattle.ncp_follow.specs.Followed.{after_command, heard_after, end_of_reset, ends_reset, tables_after}
use Rattle.ncp_proof_monitor.proofs.PhaseSteps.{Stands}
use Rattle.ncp_proof_monitor_allocation.proofs.KeptEnds.{of_end, kept}
use Rattle.ncp_proof_monitor_allocation.proofs.OwnMoves.{all_says}
use Rattle.ncp_proof_monitor_allocation.proofs.Changed.{kept_of}
use Rattle.ncp_proof_monitor_allocation.proofs.SeenTables.{conn_seen, is_suspended}
use Rattle.ncp_proof_monitor_allocation.proofs.Proper.{ProperEnds}
use Rattle.ncp_proof_monitor_host.proofs.Spoken.{Tells}
use Rattle.ncp_proof_monitor_network.proofs.NeverSuspended.{IsThing, by_kind, none_early}
use Rattle.ncp_proof_follow.proofs.SameItems.{Followed, heard_is}
use Rattle.ncp_proof_follow_tables.proofs.Calmly.{none_suspended}
use Rattle.ncp_proof_follow.proofs.HostMeets.{NamedBoth, Neither, Each, named_both}
use Rattle.ncp_proof_follow.proofs.PeerLives.{SoundAll, is_mine, is_request_of, rst_clears, cls_over}
use Rattle.ncp_proof_follow.proofs.HostLives.{heard_lives, HostLives}
use Rattle.ncp_proof_follow.proofs.Telling.{Got, Given, got_step, given_step, with_none}

-- ---- a host with its peer: its ends, their histories, and the texts reported at its interface

pub record AtHost (me n : ℕ) (s : PeerState) (pasts : Pasts) (t : Tables) : Type 0 where
  pub got : (q : Pair) → receives q ≡ true → Got (get s.peer.ends q) (past_of pasts q) (text_named (record { at = me; peer = n; pair = q }) t)
  pub given : (q : Pair) → sends q ≡ true → Given (get s.peer.ends q) (past_of pasts q) (text_named (record { at = me; peer = n; pair = q }) t)

-- where no end lives nothing has to be so
pub none_lives : (me n : ℕ) (s : PeerState) (pasts : Pasts) (t : Tables) → ((q : Pair) → is_live (get s.peer.ends q) ≡ false) → AtHost me n s pasts t
none_lives me n s pasts t none = record {
  got = λ q r. record { is = λ l g. absurd (nay q l); begins = λ l. absurd (nay q l) };
  given = λ q r l. absurd (nay q l);
}
  where
    nay : (q : Pair) → is_live (get s.peer.ends q) ≡ true → ⊥
    nay q l = let no : false ≡ true = sym (none q) ∙ l in cc no

-- nothing is received or sent, and the text of each live end stays; an end that becomes live has none
pub still_opened : (me n : ℕ) (s now : PeerState) (pasts then_pasts : Pasts) (t then_tables : Tables) (given : Pair → List Bool) (asked : Pair → Bool)
    → ((q : Pair) → HostLives q s now pasts then_pasts (given q) [] [] (asked q))
    → ((q : Pair) → is_live (get s.peer.ends q) ≡ true → is_live (get now.peer.ends q) ≡ true → text_named (record { at = me; peer = n; pair = q }) then_tables ≡ text_named (record { at = me; peer = n; pair = q }) t)
    → ((q : Pair) → is_live (get s.peer.ends q) ≡ false → is_live (get now.peer.ends q) ≡ true → text_named (record { at = me; peer = n; pair = q }) then_tables ≡ [])
    → AtHost me n s pasts t → AtHost me n now then_pasts then_tables
still_opened me n s now pasts then_pasts t then_tables given asked conns stays anew k = record {
  got = λ q r.
      got_step q (get s.peer.ends q) (get now.peer.ends q) (past_of pasts q) (past_of then_pasts q) (given q) [] [] (asked q) (conns q) (text q t) (text q then_tables)
      (λ a l g. stays q a l ∙ sym (with_none (text q t))) (λ a l. ([], append-nil (text q t) ∙ sym (stays q a l))) (anew q) (k.got q r);
  given = λ q r.
      given_step q (get s.peer.ends q) (get now.peer.ends q) (past_of pasts q) (past_of then_pasts q) (given q) [] [] (asked q) (conns q) (text q t) (text q then_tables) r (inl refl)
      (λ a l. stays q a l ∙ sym (with_none (text q t))) (anew q) (k.given q r);
}
  where
    text : Pair → Tables → List Bool
    text q x = text_named (record { at = me; peer = n; pair = q }) x

-- ---- a right request: nothing was reported for its connection

pub asked_silent : (number at peer : ℕ) (sent : Bool) (local remote : ℕ) (right : Bool) (c : Command) (request : Request) (b : SeenTables) (t : Tables) → SameConns b.conns t.tracks → Placed t → AskedRight number at peer sent c local remote right request b
    → text_named (record { at = at; peer = peer; pair = record { local = local; remote = remote } }) t ≡ []
asked_silent number at peer sent local remote right c request b t same placed k = go (index_with_sockets at peer local remote b.conns) refl
  where
    name : Name
    name = record { at = at; peer = peer; pair = record { local = local; remote = remote } }

    go : (o : Option ℕ) → index_with_sockets at peer local remote b.conns ≡ o → text_named name t ≡ []
    go None e = ap (λ (o : Option FollowedConn). text_at t.told (place_in o)) (none_first (has_name name) t.tracks (place_same at peer local remote b.conns t.tracks same ∙ e))
    go (Some p) e =
        let there : pair_index at peer local remote t.tracks ≡ Some p = place_same at peer local remote b.conns t.tracks same ∙ e in
        let inside = position-Some (has_name name) t.tracks p (new_track 0 0 0 0) there in
        let one : SameConn (conn_at_index b.conns p) (track_at t.tracks p) = besides_at SameConn b.conns t.tracks p (unasked_conn 0 0 0 0) (new_track 0 0 0 0) (position-Some (is_of_sockets at peer local remote) b.conns p (unasked_conn 0 0 0 0) e).0 same in
        let may = k.may (conn_at_index b.conns p) (ap (conn_found b.conns) e) in
        let unasked : has_chosen (track_at t.tracks p) request ≡ false = requested_is (conn_at_index b.conns p) (track_at t.tracks p) request one ∙ may.1 in
        let unplaced : (track_at t.tracks p).place ≡ None = unopened (record { number = number; at = at; peer = peer; sent = sent }) t placed p request inside.0 unasked in
        ap (λ (o : Option FollowedConn). text_at t.told (place_in o)) (found_first (has_name name) t.tracks p (new_track 0 0 0 0) there) ∙ ap (text_at t.told) unplaced

-- a host that is up waits for no reply
unwaiting : (p : Phase) → up p ≡ true → p.wait ≡ false
unwaiting p u = grind arith

-- ---- names and pairs

abbrev pub pair_with : ℕ → ℕ → Pair
pair_with local remote = record { local = local; remote = remote }

-- who is named has the name
pub first_named : (name : Name) (conns : List FollowedConn) (conn : FollowedConn) → named name conns ≡ Some conn → has_name name conn ≡ true
first_named name [] conn e = absurd (cc e)
first_named name (x ∷ conns) conn e = go (has_name name x) refl e (λ f. first_named name conns conn f)
  where
    go : (b : Bool) → has_name name x ≡ b → (if b then Some x else named name conns) ≡ Some conn → (named name conns ≡ Some conn → has_name name conn ≡ true) → has_name name conn ≡ true
    go true h e rest = let is : x ≡ conn = cc e in ap (has_name name) (sym is) ∙ h
    go false h e rest = rest e

pub its_pair : (at peer : ℕ) (q : Pair) (local remote : ℕ) (conn : FollowedConn) → is_pair at peer q.local q.remote conn ≡ true → is_pair at peer local remote conn ≡ true → q ≡ record { local = local; remote = remote }
its_pair at peer q local remote conn e f =
    let a = and_parts (conn.at == at && conn.peer == peer && conn.local == q.local) (conn.remote == q.remote) e in
    let c = and_parts (conn.at == at && conn.peer == peer) (conn.local == q.local) a.0 in
    let d = and_parts (conn.at == at && conn.peer == peer && conn.local == local) (conn.remote == remote) f in
    let g = and_parts (conn.at == at && conn.peer == peer) (conn.local == local) d.0 in
    ap (λ (x : ℕ). pair_with x q.remote) (sym (eqb-true conn.local q.local c.1) ∙ eqb-true conn.local local g.1) ∙ ap (λ (x : ℕ). pair_with local x) (sym (eqb-true conn.remote q.remote a.1) ∙ eqb-true conn.remote remote d.1)

-- nothing is between two hosts: no connection of theirs is found
none_between : (at peer : ℕ) (q : Pair) (conns : List ConnState) → (filter (is_conn_between at peer) conns ≡ []) → first (is_of_sockets at peer q.local q.remote) conns ≡ None
none_between at peer q [] e = refl
none_between at peer q (l ∷ conns) e = go (l.at == at) (l.peer == peer) e (none_between at peer q conns)
  where
    go : (x y : Bool) → (if x && y then l ∷ filter (is_conn_between at peer) conns else filter (is_conn_between at peer) conns) ≡ [] → ((filter (is_conn_between at peer) conns ≡ []) → first (is_of_sockets at peer q.local q.remote) conns ≡ None)
        → (if x && y && (l.local == q.local) && (l.remote == q.remote) then Some l else first (is_of_sockets at peer q.local q.remote) conns) ≡ None
    go true true e rest = absurd (cc e)
    go true false e rest = rest e
    go false y e rest = rest e

-- ---- an end that the host left, as it is seen: it is left

module _ (me n : ℕ) (m : Ends) (awaited : Bool) (w : List Command) (b : SeenTables) (t : Tables) (tells : Tells me n m awaited w b) (same : Same b t) where
  pub left_there : (q : Pair) (x : FollowedConn) → named (record { at = me; peer = n; pair = q }) t.tracks ≡ Some x → x.host_left ≡ true → (e : Endpoint) × ((get m q ≡ Some e) × (e.left ≡ true))
  left_there q x f l = go (named_both me n q b.conns t.tracks same.conns)
    where
      by : (s : Shape) (qs : List Say) (o : Option Endpoint) → s.left ≡ true → Agrees qs (kept (sends q) o) (Some s) → (e : Endpoint) × ((o ≡ Some e) × (e.left ≡ true))
      by s [] None sl a = absurd (cc a)
      by s [] (Some e) sl a = let is : s ≡ of_end (sends q) e = cc a in (e, (refl, ap (λ (y : Shape). y.left) (sym is) ∙ sl))
      by s (Ask k ∷ qs) o sl (r, a) = let nay : false ≡ true = sym (off (not (is_some s.own)) s.left sl) ∙ r in absurd (cc nay)
        where
          off : (x y : Bool) → y ≡ true → (x && not y) ≡ false
          off true true e = refl
          off false true e = refl
          off x false e = absurd (cc e)
      by s (Leave ∷ qs) o sl (r, a) = let nay : false ≡ true = sym (ap not sl) ∙ r in absurd (cc nay)

      go : NamedBoth (conn_seen me n b (q.local, q.remote)) (named (record { at = me; peer = n; pair = q }) t.tracks) → (e : Endpoint) × ((get m q ≡ Some e) × (e.left ≡ true))
      go (Neither y z) = let nay : Some x ≡ None = sym f ∙ z in absurd (cc nay)
      go (Each u z lived told one) =
          let is : x ≡ z = cc (sym f ∙ told) in
          let left : (of_conn u).left ≡ true = sym one.host_left ∙ ap (λ (v : FollowedConn). v.host_left) (sym is) ∙ l in
          by (of_conn u) (about (q.local, q.remote) (all_says w)) (get m q) left
          (subst (λ (o : Option ConnState). Agrees (about (q.local, q.remote) (all_says w)) (kept_of m (q.local, q.remote)) (seen o)) lived
          (tells.meets.tally.pairs (q.local, q.remote) (ap is_suspended lived ∙ one.awake)))

-- ---- one command of the peer

module _ (number me n : ℕ) (busy : Option ℕ) (zero : Bool) (kept : List SentMessage) (roomy : (i : ℕ) → nat_lt i MAX_TABLE_ROWS ≡ true → nat_lt i MAX_TRACKS ≡ true) where
  abbrev pub from_peer : MessageContext
  from_peer = record { by = n; sent = false; busy = busy; zero = zero }

  abbrev pub their_flow : ObservedFlow
  their_flow = record { at = me; peer = n; sent = false }

  abbrev pub heard : Observation
  heard = record { number = number; at = me; peer = n; sent = false }

  module _ (s : PeerState) (pasts : Pasts) (v : View) (b : SeenTables) (σ : Session) (t : Tables) (k : Followed me n v b σ t) (placed : Placed t) (good : EndsInvariant s.peer.ends) (proper : ProperEnds s.peer.ends) (stands : Stands s.peer (is_quiet s.slots) v)
      (tells : up s.peer.phase ≡ true → Tells me n s.peer.ends s.peer.echoes.awaited s.peer.phase.waiting b) (room : b.full ≡ false) (at : AtHost me n s pasts t) where
    -- what is known after it
    abbrev pub After : Command → Type 0
    After c = AtHost me n (state_hears c s) (of_command c s.peer pasts) (tables_after heard (Ok c) σ t) × Placed (tables_after heard (Ok c) σ t)

    sound : SoundAll s.peer.ends
    sound q = good.sound q

    conns : (c : Command) (q : Pair) → HostLives q s (state_hears c s) pasts (of_command c s.peer pasts) [] [] [] (is_mine q (demux_command c s.peer.ends) (is_request_of c))
    conns c q = heard_lives s pasts sound q c

    -- an RST
    rst_after : After Command.Rst
    rst_after = (none_lives me n (state_hears Command.Rst s) (of_command Command.Rst s.peer pasts) (tables_after heard (Ok Command.Rst) σ t) (λ q. ap is_live (rst_clears (is_quiet s.slots) s.peer q)), (cleared_so heard t placed (end_of_reset false)).placed)

    -- an RRP: while the host waits for it, nothing is reported for any connection
    rrp_after : After Command.Rrp
    rrp_after = go (ends_reset heard σ) refl
      where
        on : Bool → Tables
        on x = if x then after_clearing heard ReplyCame t else t

        anew : (q : Pair) → is_live (get s.peer.ends q) ≡ false → is_live (get (state_hears Command.Rrp s).peer.ends q) ≡ true → (x : List Bool) → x ≡ []
        anew q a l x = let nay : false ≡ true = sym a ∙ l in absurd (cc nay)

        none_named : σ.host_waits ≡ true → (q : Pair) → named (record { at = me; peer = n; pair = q }) t.tracks ≡ None
        none_named w q = by (named_both me n q b.conns t.tracks k.same.conns)
          where
            empty : first (is_of_sockets me n q.local q.remote) b.conns ≡ None
            empty = none_between me n q b.conns (k.none (sym k.touch.host_waits ∙ w))

            by : NamedBoth (first (is_of_sockets me n q.local q.remote) b.conns) (named (record { at = me; peer = n; pair = q }) t.tracks) → named (record { at = me; peer = n; pair = q }) t.tracks ≡ None
            by (Neither e f) = f
            by (Each l x e f one) = let nay : None ≡ Some l = sym empty ∙ e in absurd (cc nay)

        go : (x : Bool) → ends_reset heard σ ≡ x → AtHost me n (state_hears Command.Rrp s) pasts (on x) × Placed (on x)
        go false e = (still_opened me n s (state_hears Command.Rrp s) pasts pasts t t (λ q. []) (λ q. false) (λ q. conns Command.Rrp q) (λ q a l. refl) (λ q a l. anew q a l (text_named (record { at = me; peer = n; pair = q }) t)) at, placed)
        go true e =
            let cleared = cleared_so heard t placed ReplyCame in (
              still_opened me n s (state_hears Command.Rrp s) pasts pasts t (on true) (λ q. []) (λ q. false) (λ q. conns Command.Rrp q)
                  (λ q a l. cleared.none (record { at = me; peer = n; pair = q }) (rw (eq-eqb me me refl, eq-eqb n n refl) refl) ∙ sym (ap (λ (o : Option FollowedConn). text_at t.told (place_in o)) (none_named e q)))
                  (λ q a l. anew q a l (text_named (record { at = me; peer = n; pair = q }) (on true))) at,
              cleared.placed,
            )

    -- while the host is not up it has no end, and keeps none
    down_after : (c : Command) → IsThing c → up s.peer.phase ≡ false → (q : Pair) → is_live (get (state_hears c s).peer.ends q) ≡ false
    down_after c i d q = by_kind (λ c. is_other c ≡ true → is_live (get (hears (is_quiet s.slots) c s.peer).ends q) ≡ false) (λ o. absurd (cc o)) (λ o. absurd (cc o)) (λ c j o. at_thing c j) c i.is
      where
        none : is_live (get s.peer.ends q) ≡ false
        none = ap (λ (m : Ends). is_live (get m q)) (stands.down d) ∙ ap is_live (get-empty pair_cmp q)

        still : (x : Peer) → is_live (get (if up s.peer.phase then x else s.peer).ends q) ≡ false
        still x = ap (λ (z : Bool). is_live (get (if z then x else s.peer).ends q)) d ∙ none

        at_thing : (c : Command) → IsThing c → is_live (get (hears (is_quiet s.slots) c s.peer).ends q) ≡ false
        at_thing Command.Rst j = absurd (cc j.act)
        at_thing Command.Rrp j = absurd (cc j.act)
        at_thing c j = still (hears_other (is_quiet s.slots) c s.peer)

    -- ---- what is neither, while the host is up: it is heard

    none_asked : (q : Pair) (o : Option Pair) → is_mine q o false ≡ false
    none_asked q None = refl
    none_asked q (Some p) = off (Pairs.same q p)
      where
        off : (x : Bool) → (x && false) ≡ false
        off true = refl
        off false = refl

    -- it is no request, and of each end that lives the text stays
    unasked_after : (c : Command) (now : Tables) → is_request_of c ≡ false → Placed now
        → ((q : Pair) → is_live (get s.peer.ends q) ≡ true → is_live (get (state_hears c s).peer.ends q) ≡ true → text_named (record { at = me; peer = n; pair = q }) now ≡ text_named (record { at = me; peer = n; pair = q }) t)
        → AtHost me n (state_hears c s) (of_command c s.peer pasts) now × Placed now
    unasked_after c now none p stays = (
      still_opened me n s (state_hears c s) pasts (of_command c s.peer pasts) t now (λ q. []) (λ q. is_mine q (demux_command c s.peer.ends) (is_request_of c)) (conns c) stays
          (λ q a l.
          let begins : is_mine q (demux_command c s.peer.ends) (is_request_of c) ≡ true = (conns c q).begins a l in
          let nay : false ≡ true = sym (ap (λ (x : Bool). is_mine q (demux_command c s.peer.ends) x) none ∙ none_asked q (demux_command c s.peer.ends)) ∙ begins in absurd (cc nay))
          at,
      p,
    )

    -- a request of these sockets, that is right
    asked_after : (c : Command) (local remote : ℕ) (now : Tables) → is_request_of c ≡ true → demux_command c s.peer.ends ≡ Some (record { local = local; remote = remote }) → Stays t now
        → text_named (record { at = me; peer = n; pair = record { local = local; remote = remote } }) t ≡ [] → AtHost me n (state_hears c s) (of_command c s.peer pasts) now × Placed now
    asked_after c local remote now is leads stays silent = (
      still_opened me n s (state_hears c s) pasts (of_command c s.peer pasts) t now (λ q. []) (λ q. is_mine q (demux_command c s.peer.ends) (is_request_of c)) (conns c)
          (λ q a l. stays.texts (record { at = me; peer = n; pair = q }))
          (λ q a l.
          let begins : is_mine q (demux_command c s.peer.ends) (is_request_of c) ≡ true = (conns c q).begins a l in
          let mine : Pairs.same q (record { local = local; remote = remote }) ≡ true = (and_parts (Pairs.same q (record { local = local; remote = remote })) (is_request_of c) (sym (ap (λ (o : Option Pair). is_mine q o (is_request_of c)) leads) ∙ begins)).0 in
          stays.texts (record { at = me; peer = n; pair = q }) ∙ ap (λ (x : Pair). text_named (record { at = me; peer = n; pair = x }) t) (same_pair q local remote mine) ∙ silent)
          at,
      stays.placed,
    )
      where
        same_pair : (q : Pair) (local remote : ℕ) → Pairs.same q (record { local = local; remote = remote }) ≡ true → q ≡ record { local = local; remote = remote }
        same_pair q local remote e =
            let parts = and_parts (q.local == local) (q.remote == remote) e in
            ap (λ (x : ℕ). pair_with x q.remote) (eqb-true q.local local parts.0) ∙ ap (λ (x : ℕ). pair_with local x) (eqb-true q.remote remote parts.1)

    -- a CLS of the other
    cls_after : (my your : ℕ) → up s.peer.phase ≡ true → AtHost me n (state_hears (Command.Cls my your) s) (of_command (Command.Cls my your) s.peer pasts) (after_command heard (Command.Cls my your) t) × Placed (after_command heard (Command.Cls my your) t)
    cls_after my your u = unasked_after (Command.Cls my your) now refl so.placed (λ q a l. by q l (so.each (record { at = me; peer = n; pair = q })))
      where
        now : Tables
        now = closed_at heard t (pair_index me n your my t.tracks)

        so : ClosedSo heard t placed your my now
        so = closed_so heard t placed your my (pair_index me n your my t.tracks) refl

        by : (q : Pair) → is_live (get (state_hears (Command.Cls my your) s).peer.ends q) ≡ true
            → (text_named (record { at = me; peer = n; pair = q }) now ≡ text_named (record { at = me; peer = n; pair = q }) t) ⊎ IsOver heard t placed your my (record { at = me; peer = n; pair = q }) now
            → text_named (record { at = me; peer = n; pair = q }) now ≡ text_named (record { at = me; peer = n; pair = q }) t
        by q l (inl e) = e
        by q l (inr over) =
            let name : Name = record { at = me; peer = n; pair = q } in
            let its = first_named name t.tracks over.track over.was in
            let is : q ≡ record { local = your; remote = my } = its_pair me n q your my over.track its over.pair in
            let there = left_there me n s.peer.ends s.peer.echoes.awaited s.peer.phase.waiting b t (tells u) k.same q over.track over.was over.other_left in
            let e : Endpoint = there.0 in
            let at_it : get s.peer.ends (record { local = your; remote = my }) ≡ Some e = ap (get s.peer.ends) (sym is) ∙ there.1.0 in
            let right : is_proper (record { local = your; remote = my }) ≡ true = proper (record { local = your; remote = my }) (ap is_some at_it) in
            let gone : get (state_hears (Command.Cls my your) s).peer.ends (record { local = your; remote = my }) ≡ None =
            cls_over (is_quiet s.slots) my your s.peer e u right (subst (SoundAt (record { local = your; remote = my })) at_it (good.sound (record { local = your; remote = my }))) at_it there.1.1 in
            let nay : false ≡ true = sym (ap (λ (x : Pair). is_live (get (state_hears (Command.Cls my your) s).peer.ends x)) is ∙ ap is_live gone) ∙ l in absurd (cc nay)

    -- ---- each

    -- nothing is found in it
    module _ (c : Command) (what : ItemKind) (early : is_early from_peer what v ≡ false) (u : up s.peer.phase ≡ true)
        (ruled : option_to_list (if reaches from_peer what v then option_map (broken_by from_peer) (spoken_rule their_flow kept (Ok c) b) else None) ≡ []) where
      heard_so : is_heard σ false ≡ true
      heard_so =
          heard_is number me n n false busy zero kept roomy what v σ k.touch early
          ∙ go v.told (is_early from_peer what v) v.suspended (awaits_reply v.host.wait) k.touch.awake.told early k.touch.awake.suspended (awaits (awaits_reply v.host.wait) refl)
        where
          awaits : (x : Bool) → awaits_reply v.host.wait ≡ x → awaits_reply v.host.wait ≡ false
          awaits true e = let nay : true ≡ false = sym (stands.phased.waits e) ∙ unwaiting s.peer.phase u in absurd (cc nay)
          awaits false e = e

          go : (x y z w : Bool) → x ≡ true → y ≡ false → z ≡ false → w ≡ false → (x && (not y || is_acted_on from_peer v) && not z && not (not false && w)) ≡ true
          go true false false false a d e f = refl
          go false y z w a d e f = absurd (cc a)
          go true true z w a d e f = absurd (cc d)
          go true false true w a d e f = absurd (cc e)
          go true false false true a d e f = absurd (cc f)

      rule_none : command_rule their_flow kept c b ≡ None
      rule_none = sym (ap (λ (x : Bool). if x then None else command_rule their_flow kept c b) room) ∙ go (reaches from_peer what v) (sym (heard_is number me n n false busy zero kept roomy what v σ k.touch early) ∙ heard_so) ruled
        where
          no_rule : (o : Option Rule) → option_to_list (option_map (broken_by from_peer) o) ≡ [] → o ≡ None
          no_rule None e = refl
          no_rule (Some r) e = absurd (cc e)

          go : (x : Bool) → x ≡ true → option_to_list (if x then option_map (broken_by from_peer) (spoken_rule their_flow kept (Ok c) b) else None) ≡ [] → spoken_rule their_flow kept (Ok c) b ≡ None
          go true e r = no_rule (spoken_rule their_flow kept (Ok c) b) r
          go false e r = absurd (cc e)

      -- what is heard
      obeys : AtHost me n (state_hears c s) (of_command c s.peer pasts) (after_command heard c t) × Placed (after_command heard c t)
          → AtHost me n (state_hears c s) (of_command c s.peer pasts) (heard_after heard c σ t) × Placed (heard_after heard c σ t)
      obeys x = subst (λ (b : Bool). AtHost me n (state_hears c s) (of_command c s.peer pasts) (if b then after_command heard c t else t) × Placed (if b then after_command heard c t else t)) (sym heard_so) x

    asked_rule : (c : Command) (local remote : ℕ) (right : Bool) (request : Request) → broken (request_acceptance their_flow c local remote right request b) ≡ None → AskedRight number me n false c local remote right request b
    asked_rule c local remote right request e = asked_right number me n false c local remote b right request (λ host link. none_suspended me n host link b k.same.calm) (awake_conn (conn_of me n local remote b.conns) refl) e
      where
        awake_conn : (o : Option ConnState) → conn_of me n local remote b.conns ≡ o → (conn : ConnState) → conn_of me n local remote b.conns ≡ Some conn → conn.suspended ≡ false
        awake_conn o is conn e = by (index_with_sockets me n local remote b.conns) refl e
          where
            by : (o : Option ℕ) → index_with_sockets me n local remote b.conns ≡ o → conn_found b.conns o ≡ Some conn → conn.suspended ≡ false
            by None p f = absurd (cc f)
            by (Some p) q f =
                let one : SameConn (conn_at_index b.conns p) (track_at t.tracks p) =
                besides_at SameConn b.conns t.tracks p (unasked_conn 0 0 0 0) (new_track 0 0 0 0) (position-Some (is_of_sockets me n local remote) b.conns p (unasked_conn 0 0 0 0) q).0 k.same.conns in
                let same : conn_at_index b.conns p ≡ conn = cc f in ap (λ (x : ConnState). x.suspended) (sym same) ∙ one.awake

    asking_stays : (receive send : ℕ) (request : Request) → Stays t (after_asking heard receive send request t)
    asking_stays receive send request = go (is_right receive send request) (beq (is_of_receiver request) false)
      where
        go : (x y : Bool) → Stays t (if not x then t else if y then after_request heard receive send request t else after_request heard send receive request t)
        go false y = stays_same t placed
        go true true = after_request_stays heard t placed receive send request
        go true false = after_request_stays heard t placed send receive request

    -- by what is found of it
    abbrev NoneFound : Command → ItemKind → Type 0
    NoneFound c what =
        (option_to_list (early_finding from_peer what v) ≡ []) × (option_to_list (if reaches from_peer what v then option_map (broken_by from_peer) (spoken_rule their_flow kept (Ok c) b) else None) ≡ [])

    early_none : (what : ItemKind) → option_to_list (early_finding from_peer what v) ≡ [] → is_early from_peer what v ≡ false
    early_none what e = none_early from_peer what v k.touch.awake.told e

    -- it is heard, or the host is not up
    thing_after : (c : Command) (what : ItemKind) → IsThing c → NoneFound c what
        → (up s.peer.phase ≡ true → command_rule their_flow kept c b ≡ None → AtHost me n (state_hears c s) (of_command c s.peer pasts) (after_command heard c t) × Placed (after_command heard c t))
        → Placed (after_command heard c t) → AtHost me n (state_hears c s) (of_command c s.peer pasts) (heard_after heard c σ t) × Placed (heard_after heard c σ t)
    thing_after c what i none obeyed p = by (up s.peer.phase) refl
      where
        placed_if : (x : Bool) → Placed (if x then after_command heard c t else t)
        placed_if true = p
        placed_if false = placed

        by : (x : Bool) → up s.peer.phase ≡ x → AtHost me n (state_hears c s) (of_command c s.peer pasts) (heard_after heard c σ t) × Placed (heard_after heard c σ t)
        by true u = obeys c what (early_none what none.0) u none.1 (obeyed u (rule_none c what (early_none what none.0) u none.1))
        by false d = (none_lives me n (state_hears c s) (of_command c s.peer pasts) (heard_after heard c σ t) (down_after c i d), placed_if (is_heard σ false))

    idle_after : (c : Command) (what : ItemKind) → IsThing c → NoneFound c what → is_request_of c ≡ false → after_command heard c t ≡ t → AtHost me n (state_hears c s) (of_command c s.peer pasts) (heard_after heard c σ t) × Placed (heard_after heard c σ t)
    idle_after c what i none un same =
        thing_after c what i none
        (λ u r. subst (λ (x : Tables). AtHost me n (state_hears c s) (of_command c s.peer pasts) x × Placed x) (sym same) (unasked_after c t un placed (λ q a l. refl)))
        (subst Placed (sym same) placed)

    kept_after : (c : Command) (what : ItemKind) → IsThing c → NoneFound c what → is_request_of c ≡ false → Stays t (after_command heard c t) → AtHost me n (state_hears c s) (of_command c s.peer pasts) (heard_after heard c σ t) × Placed (heard_after heard c σ t)
    kept_after c what i none un st =
        thing_after c what i none (λ u r. unasked_after c (after_command heard c t) un st.placed (λ q a l. st.texts (record { at = me; peer = n; pair = q }))) st.placed

    pub command_after : (c : Command) → all_findings from_peer their_flow kept (Ok c) v b ≡ [] → After c
    command_after c none = by_kind P (λ e. rst_after) (λ e. rrp_after) thing c none
      where
        P : Command → Type 0
        P c = all_findings from_peer their_flow kept (Ok c) v b ≡ [] → After c

        found_parts : (c : Command) (what : ItemKind)
            → option_to_list (early_finding from_peer what v) ++ option_to_list (if reaches from_peer what v then option_map (broken_by from_peer) (spoken_rule their_flow kept (Ok c) b) else None)
            ++ (if reaches from_peer what v then map (broken_by from_peer) (spoken_numbers their_flow (Ok c) b) else []) ≡ [] → NoneFound c what
        found_parts c what e =
            let f : List Finding = option_to_list (early_finding from_peer what v) in
            let r : List Finding = option_to_list (if reaches from_peer what v then option_map (broken_by from_peer) (spoken_rule their_flow kept (Ok c) b) else None) in
            let both = front_none (f ++ r) (if reaches from_peer what v then map (broken_by from_peer) (spoken_numbers their_flow (Ok c) b) else []) e in
            (front_none f r both, rest_none f r both)

        thing : (c : Command) → IsThing c → P c
        thing Command.Rst i e = absurd (cc i.act)
        thing Command.Rrp i e = absurd (cc i.act)
        thing Command.Nop i e = idle_after Command.Nop ItemKind.Nop i (found_parts Command.Nop ItemKind.Nop e) refl refl
        thing (Command.Gvb x y z) i e = idle_after (Command.Gvb x y z) ItemKind.Gvb i (found_parts (Command.Gvb x y z) ItemKind.Gvb e) refl refl
        thing (Command.Inr x) i e = idle_after (Command.Inr x) ItemKind.Inr i (found_parts (Command.Inr x) ItemKind.Inr e) refl refl
        thing (Command.Ins x) i e = idle_after (Command.Ins x) ItemKind.Ins i (found_parts (Command.Ins x) ItemKind.Ins e) refl refl
        thing (Command.Eco x) i e = idle_after (Command.Eco x) ItemKind.Eco i (found_parts (Command.Eco x) ItemKind.Eco e) refl refl
        thing (Command.Erp x) i e = idle_after (Command.Erp x) ItemKind.Erp i (found_parts (Command.Erp x) ItemKind.Erp e) refl refl
        thing (Command.Err x y) i e = idle_after (Command.Err x y) ItemKind.Err i (found_parts (Command.Err x y) ItemKind.Err e) refl refl
        thing (Command.All x y z) i e = kept_after (Command.All x y z) ItemKind.All i (found_parts (Command.All x y z) ItemKind.All e) refl (granted_stays heard t placed true x y z (index_at_link me n true x t.tracks) refl)
        thing (Command.Ret x y z) i e = kept_after (Command.Ret x y z) ItemKind.Ret i (found_parts (Command.Ret x y z) ItemKind.Ret e) refl (returned_stays heard t placed false x y z (index_at_link me n false x t.tracks) refl)
        thing (Command.Cls x y) i e = thing_after (Command.Cls x y) ItemKind.Cls i (found_parts (Command.Cls x y) ItemKind.Cls e) (λ u r. cls_after x y u) (closed_so heard t placed y x (pair_index me n y x t.tracks) refl).placed
        thing (Command.Rts receive send link) i e =
            let st = asking_stays receive send (Request.Link link) in
            thing_after (Command.Rts receive send link) ItemKind.Rts i (found_parts (Command.Rts receive send link) ItemKind.Rts e)
            (λ u r. asked_after (Command.Rts receive send link) send receive (after_command heard (Command.Rts receive send link) t) refl refl st
            (asked_silent number me n false send receive (is_of_sexes receive send) (Command.Rts receive send link) (Link link) b t k.same.conns placed (asked_rule (Command.Rts receive send link) send receive (is_of_sexes receive send) (Link link) r)))
            st.placed
        thing (Command.Str send receive size) i e =
            let st = asking_stays receive send (Request.Size size) in
            thing_after (Command.Str send receive size) ItemKind.Str i (found_parts (Command.Str send receive size) ItemKind.Str e)
            (λ u r. asked_after (Command.Str send receive size) receive send (after_command heard (Command.Str send receive size) t) refl refl st
            (asked_silent number me n false receive send (is_of_sexes receive send) (Command.Str send receive size) (Size size) b t k.same.conns placed (asked_rule (Command.Str send receive size) receive send (is_of_sexes receive send) (Size size) r)))
            st.placed
