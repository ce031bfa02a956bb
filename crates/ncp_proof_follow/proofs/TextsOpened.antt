-- A received text is reported for the connection that has its link, and it is the text that the end there
-- gets. A text that arrives after the host closed may be reported, but is not got.
use Rattle.std.proofs.Common.{◌≡◌, ◌<◌, ◌≤◌, ◌⊎◌, inl, inr, ℕ, ◌-◌, ◌%◌, ◌==◌, eq-eqb, Bool, true, false, not, ◌&&◌, ◌||◌, if◌then◌else◌, List, [], ◌++◌, length, take, append-nil, Option, Some, is_some, refl, sym, ap, ◌∙◌, subst, arith}
use Rattle.std.specs.Prelude.{nat_lt, nat_le}
use Rattle.std.specs.FinMap.{get}
use Rattle.std.proofs.lemmas.Bool.{eqb-true, and_parts}
use Rattle.std.proofs.lemmas.Bool.Decides.{nat_tests}
use Rattle.std.proofs.lemmas.List.Quantifiers.{position-Some}
use Rattle.ncp_bits.specs.declared.bits.TheConstants.{MAX_BITS}
use Rattle.ncp_leader.specs.Message.{Message}
use Rattle.ncp_wire.specs.declared.command.Command.{Command}
use Rattle.ncp_model.specs.declared.pair.Pair.{Pair}
use Rattle.ncp_model.specs.Effect.{answer, Stays, Becomes}
use Rattle.ncp_model.specs.Endpoint.{Endpoint, or_new, is_live, is_closing}
use Rattle.ncp_model.specs.Ends.{pair_of, receiver_on, text_in}
use Rattle.ncp_model.specs.Pairs.{is_send, is_receive, sends, receives}
use Rattle.ncp_model.specs.Phase.{up}
use Rattle.ncp_model.specs.declared.outcomes.Took.{Took}
use Rattle.ncp_proof_endpoint.specs.Histories.{IsPrefix}
use Rattle.ncp_proof_machine.specs.Hosts.{past_of, Pasts}
use Rattle.ncp_proof_machine.proofs.EndsGood.{EndsInvariant}
use Rattle.ncp_peer.specs.PeerState.{PeerState}
use Rattle.ncp_peer.specs.Hearing.{state_after_text}
use Rattle.ncp_transcript_two.specs.Watch.{pasts_after_text}
use Rattle.ncp_monitor.specs.declared.conn_state.ConnState.{ConnState}
use Rattle.ncp_monitor.specs.ConnStates.{SeenTables, unasked_conn, conn_at_index}
use Rattle.ncp_monitor.specs.Texts.{uses_too_much}
use Rattle.ncp_follow.specs.declared.followed_conn.FollowedConn.{FollowedConn}
use Rattle.ncp_follow.specs.declared.tables.Tables.{Tables}
use Rattle.ncp_follow.specs.declared.observation.Observation.{Observation}
use Rattle.ncp_follow.specs.Amounts.{covers}
use Rattle.ncp_follow.specs.Connections.{text_with}
use Rattle.ncp_follow.specs.Tracks.{new_track, is_used, nobody_left, is_whole, takes_bits, track_at}
use Rattle.ncp_interface.specs.Sockets.{is_number_given}
use Rattle.ncp_follow.specs.Tables.{index_at_link, said_at, after_text}
use Rattle.ncp_proof_monitor_allocation.proofs.Proper.{ProperEnds}
use Rattle.ncp_proof_monitor_host.proofs.Spoken.{Tells}
use Rattle.ncp_proof_follow_tables.proofs.Besides.{besides_length, besides_at}
use Rattle.ncp_proof_follow_tables.proofs.SameConns.{SameConn}
use Rattle.ncp_proof_follow_tables.proofs.SameCommands.{Same}
use Rattle.ncp_proof_follow_tables.proofs.SameTexts.{TextLed, text_index}
use Rattle.ncp_proof_follow_tables.proofs.OtherAt.{first_here}
use Rattle.ncp_proof_follow_tables.proofs.OpensSo.{AllOpened}
use Rattle.ncp_proof_follow_tables.proofs.Placed.{Name, has_name, text_named, Placed, name_is}
use Rattle.ncp_proof_follow_tables.proofs.PlacedSteps.{SaidSo, said_so}
use Rattle.ncp_proof_follow.proofs.PeerLives.{SoundAll, mine, text_took}
use Rattle.ncp_proof_follow.proofs.HostLives.{HostLives, got_lives}
use Rattle.ncp_proof_follow.proofs.Telling.{got_step, given_step, with_none}
use Rattle.ncp_proof_follow.proofs.HostMeets.{TextIn, text_comes_so}
use Rattle.ncp_proof_follow.proofs.ControlComes.{AtHost}

-- no pair both sends and receives
pub one_way : (q : Pair) → sends q ≡ true → receives q ≡ true → ⊥
one_way q a b =
    let x : q.local % 2 ≡ 1 = eqb-true (q.local % 2) 1 (and_parts (is_send q.local) (is_receive q.remote) a).0 in
    let y : q.local % 2 ≡ 0 = eqb-true (q.local % 2) 0 (and_parts (is_receive q.local) (is_send q.remote) b).0 in
    let no : 1 ≡ 0 = sym x ∙ y in cc no

all_same : (a b c d : ℕ) → (a == a && b == b && c == c && d == d) ≡ true
all_same a b c d = rw (eq-eqb a a refl, eq-eqb b b refl, eq-eqb c c refl, eq-eqb d d refl) refl

-- the name of a connection, by its sockets
pub named_so : (me n c d : ℕ) (m : FollowedConn) → m.at ≡ me → m.peer ≡ n → m.local ≡ c → m.remote ≡ d → has_name (record { at = me; peer = n; pair = record { local = c; remote = d } }) m ≡ true
named_so me n c d m at peer local remote =
    ap (λ (z : ℕ). z == me && m.peer == n && m.local == c && m.remote == d) at ∙ ap (λ (z : ℕ). me == me && z == n && m.local == c && m.remote == d) peer
    ∙ ap (λ (z : ℕ). me == me && n == n && z == c && m.remote == d) local ∙ ap (λ (z : ℕ). me == me && n == n && c == c && z == d) remote ∙ all_same me n c d

-- ---- the report, if a text is of the connection of this pair

module _ (me n : ℕ) (observation : Observation) (t now : Tables) (placed : Placed t) (its_pair : Pair) (conn : FollowedConn) (size : ℕ) (text : List Bool) (said : SaidSo observation t placed conn size text now) where
  abbrev name : Pair → Name
  name q = record { at = me; peer = n; pair = q }

  module _ (its : has_name (name its_pair) conn ≡ true) where
    only : (q : Pair) → has_name (name q) conn ≡ true → q ≡ its_pair
    only q e = ap (λ (x : Name). x.pair) (name_is (name q) conn e ∙ sym (name_is (name its_pair) conn its))

    -- the report for the pair
    abbrev ReportsPair : Pair → Bool → Type 0
    ReportsPair q b = text_named (name q) now ≡ text_with (text_named (name q) t) (if b then text else [])

    same_true : (q : Pair) → q ≡ its_pair → (q.local == its_pair.local && q.remote == its_pair.remote) ≡ true
    same_true q e = ap (λ (x : Pair). x.local == its_pair.local && x.remote == its_pair.remote) e ∙ rw (eq-eqb its_pair.local its_pair.local refl, eq-eqb its_pair.remote its_pair.remote refl) refl

    same_false : (q : Pair) → has_name (name q) conn ≡ false → (q.local == its_pair.local && q.remote == its_pair.remote) ≡ false
    same_false q e = go (q.local == its_pair.local && q.remote == its_pair.remote) refl
      where
        go : (b : Bool) → (q.local == its_pair.local && q.remote == its_pair.remote) ≡ b → (q.local == its_pair.local && q.remote == its_pair.remote) ≡ false
        go false f = f
        go true f =
            let k = and_parts (q.local == its_pair.local) (q.remote == its_pair.remote) f in
            let l : q.local ≡ its_pair.local = eqb-true q.local its_pair.local k.0 in
            let r : q.remote ≡ its_pair.remote = eqb-true q.remote its_pair.remote k.1 in
            let is : q ≡ its_pair = ap (λ (x : ℕ). (let y : Pair = record { local = x; remote = q.remote } in y)) l ∙ ap (λ (x : ℕ). (let y : Pair = record { local = its_pair.local; remote = x } in y)) r in
            let nay : true ≡ false = sym (ap (λ (x : Pair). has_name (name x) conn) is ∙ its) ∙ e in absurd (cc nay)

    abbrev takes : Bool
    takes = is_some conn.place && takes_bits conn size (length text)

    pub grown : takes ≡ true → (q : Pair) → text_named (name q) now ≡ text_with (text_named (name q) t) (mine q (Some its_pair) text)
    grown e q = go (has_name (name q) conn) refl
      where
        go : (b : Bool) → has_name (name q) conn ≡ b → text_named (name q) now ≡ text_with (text_named (name q) t) (mine q (Some its_pair) text)
        go true f = subst (ReportsPair q) (sym (same_true q (only q f))) (said.taken (name q) f e)
        go false f = subst (ReportsPair q) (sym (same_false q f)) (said.others (name q) f ∙ sym (with_none (text_named (name q) t)))

    pub others : (q : Pair) → ((q ≡ its_pair) → ⊥) → text_named (name q) now ≡ text_named (name q) t
    others q d = go (has_name (name q) conn) refl
      where
        go : (b : Bool) → has_name (name q) conn ≡ b → text_named (name q) now ≡ text_named (name q) t
        go true f = absurd (d (only q f))
        go false f = said.others (name q) f

    pub begins : (q : Pair) → IsPrefix (text_named (name q) t) (text_named (name q) now)
    begins q = go (has_name (name q) conn) takes refl refl
      where
        go : (b c : Bool) → has_name (name q) conn ≡ b → takes ≡ c → IsPrefix (text_named (name q) t) (text_named (name q) now)
        go false c f g = ([], append-nil (text_named (name q) t) ∙ sym (said.others (name q) f))
        go true false f g = ([], append-nil (text_named (name q) t) ∙ sym (said.late (name q) f g))
        go true true f g = (take (MAX_BITS - length (text_named (name q) t)) text, sym (said.taken (name q) f g))

-- ---- when it is taken

open_one : (x y : Bool) → (x || (false && y)) ≡ false → x ≡ false
open_one true y e = absurd (cc e)
open_one false y e = refl

pub covers_it : (l : ConnState) (m : FollowedConn) (bits : ℕ) → uses_too_much bits l ≡ false → l.messages ≤ m.left.messages → l.bits ≤ m.left.bits → covers m.left bits ≡ true
covers_it l m bits e a b = go (l.messages == 0) refl (nat_lt l.bits bits) refl e
  where
    some : (l.messages == 0) ≡ false → 0 < l.messages
    some f = grind (arith, nat_tests)

    go : (x : Bool) → (l.messages == 0) ≡ x → (y : Bool) → nat_lt l.bits bits ≡ y → (x || y) ≡ false → covers m.left bits ≡ true
    go true f y g e = absurd (cc e)
    go false f true g e = absurd (cc e)
    go false f false g e =
        let one : nat_lt 0 m.left.messages ≡ true = by (some f) in
        let two : nat_le bits m.left.bits ≡ true = grind (arith, nat_tests) in
        rw (one, two) refl
      where
        by : 0 < l.messages → nat_lt 0 m.left.messages ≡ true
        by k = grind (arith, nat_tests)

-- a connection as it is followed, that is whole and has so much left
pub takes_it : (m : FollowedConn) (size bits : ℕ) → is_some m.link ≡ true → m.size ≡ Some size → m.host_left ≡ false → m.peer_left ≡ false → (is_whole m ≡ true → is_some m.place ≡ true) → (is_some m.place ≡ true → covers m.left bits ≡ true)
    → (is_some m.place && takes_bits m size bits) ≡ true
takes_it m size bits link sized host peer opened covered =
    ap (λ (x : Bool). x && takes_bits m size bits) place
    ∙ ap (λ (x : Bool). x && is_number_given m.size size && covers m.left bits) nobody ∙ ap (λ (x : Option ℕ). is_number_given x size && covers m.left bits) sized ∙ ap (λ (x : Bool). x && covers m.left bits) (eq-eqb size size refl)
    ∙ covered place
  where
    nobody : nobody_left m ≡ true
    nobody = ap (λ (x : Bool). not x && not m.peer_left) host ∙ ap not peer

    whole : is_whole m ≡ true
    whole = ap (λ (x : Bool). x && is_some m.size && nobody_left m) link ∙ ap (λ (x : Option ℕ). is_some x && nobody_left m) sized ∙ nobody

    place : is_some m.place ≡ true
    place = opened whole

-- ---- it comes

module _ (number me n : ℕ) (s : PeerState) (pasts : Pasts) (sound : SoundAll s.peer.ends) (good : EndsInvariant s.peer.ends) (b : SeenTables) (t : Tables) (same : Same b t) (placed : Placed t) (all : AllOpened t.tracks)
    (awaited : Bool) (w : List Command) (tells : Tells me n s.peer.ends awaited w b) (on : ℕ) (head : List Bool) (message : Message) (k : TextLed (record { at = me; peer = n; sent = false }) on message b)
    (covered : is_some (track_at t.tracks k.place).place ≡ true → ((conn_at_index b.conns k.place).messages ≤ (track_at t.tracks k.place).left.messages) × ((conn_at_index b.conns k.place).bits ≤ (track_at t.tracks k.place).left.bits)) where
  abbrev heard : Observation
  heard = record { number = number; at = me; peer = n; sent = false }

  abbrev judged : ConnState
  judged = conn_at_index b.conns k.place

  abbrev told : FollowedConn
  told = track_at t.tracks k.place

  abbrev now : Tables
  now = after_text heard on message.size message.text t

  found : index_at_link me n false on t.tracks ≡ Some k.place
  found = text_index (record { at = me; peer = n; sent = false }) on message b t k same.conns

  within : k.place < length t.tracks
  within = (position-Some (is_used me n false on) t.tracks k.place (new_track 0 0 0 0) found).0

  one : SameConn judged told
  one = besides_at SameConn b.conns t.tracks k.place (unasked_conn 0 0 0 0) (new_track 0 0 0 0) (subst (λ (x : ℕ). k.place < x) (besides_length SameConn b.conns t.tracks same.conns) within) same.conns

  so : SaidSo heard t placed told message.size message.text now
  so = subst (λ (o : Option ℕ). SaidSo heard t placed told message.size message.text (said_at message.size message.text t o)) (sym found) (said_so heard t placed false on message.size message.text k.place found)

  module _ (proper : ProperEnds s.peer.ends) (u : up s.peer.phase ≡ true) where
    abbrev x : TextIn me n s.peer.ends awaited w b t tells same on message k
    x = text_comes_so me n s.peer.ends awaited w b t tells same good proper on message k

    abbrev its : Pair
    its = record { local = x.u.0; remote = x.u.1 }

    is_its : has_name (record { at = me; peer = n; pair = its }) told ≡ true
    is_its = named_so me n x.u.0 x.u.1 told (one.at ∙ x.sockets.at) (one.peer ∙ x.sockets.peer) (one.local ∙ x.sockets.local) (one.remote ∙ x.sockets.remote)

    conns : (q : Pair) (what : Took) → answer (text_in on message.size message.text s.peer.ends) ≡ what
        → HostLives q s (state_after_text on head message s) pasts (pasts_after_text on head message s.peer pasts) [] (mine q (Some its) (text_took what message.text)) [] false
    conns q what e =
        subst (λ (xs : List Bool). HostLives q s (state_after_text on head message s) pasts (pasts_after_text on head message s.peer pasts) [] xs [] false)
        (ap (λ (z : Bool). if z then mine q (pair_of (receiver_on on s.peer.ends)) (text_took (answer (text_in on message.size message.text s.peer.ends)) message.text) else []) u
        ∙ ap (λ (o : Option (Pair × Endpoint)). mine q (pair_of o) (text_took (answer (text_in on message.size message.text s.peer.ends)) message.text)) x.led
        ∙ ap (λ (z : Took). mine q (Some its) (text_took z message.text)) e)
        (got_lives s pasts sound q on head message)

    -- the report for each end, and the text that each gets
    with_lives : (what : Took) → answer (text_in on message.size message.text s.peer.ends) ≡ what
        → ((q : Pair) → is_closing (or_new (get s.peer.ends q)) ≡ false → text_named (record { at = me; peer = n; pair = q }) now ≡ text_with (text_named (record { at = me; peer = n; pair = q }) t) (mine q (Some its) (text_took what message.text)))
        → AtHost me n s pasts t → AtHost me n (state_after_text on head message s) (pasts_after_text on head message s.peer pasts) now
    with_lives what e grows at = record {
      got = λ q r.
          got_step q (get s.peer.ends q) (get (state_after_text on head message s).peer.ends q) (past_of pasts q) (past_of (pasts_after_text on head message s.peer pasts) q) [] (mine q (Some its) (text_took what message.text)) [] false (conns q what e)
          (text q t) (text q now) (λ a l g. grows q g) (λ a l. begins me n heard t now placed its told message.size message.text so is_its q) (anew q) (at.got q r);
      given = λ q r.
          given_step q (get s.peer.ends q) (get (state_after_text on head message s).peer.ends q) (past_of pasts q) (past_of (pasts_after_text on head message s.peer pasts) q) [] (mine q (Some its) (text_took what message.text)) [] false (conns q what e)
          (text q t) (text q now) r (inl refl) (λ a l. others me n heard t now placed its told message.size message.text so is_its q (apart q r) ∙ sym (with_none (text q t))) (anew q) (at.given q r);
    }
      where
        text : Pair → Tables → List Bool
        text q z = text_named (record { at = me; peer = n; pair = q }) z

        anew : (q : Pair) → is_live (get s.peer.ends q) ≡ false → is_live (get (state_after_text on head message s).peer.ends q) ≡ true → text q now ≡ []
        anew q a l = let nay : false ≡ true = (conns q what e).begins a l in absurd (cc nay)

        apart : (q : Pair) → sends q ≡ true → (q ≡ its) → ⊥
        apart q r d = one_way its (ap sends (sym d) ∙ r) x.receiver

    pub text_comes_opened : AtHost me n s pasts t → AtHost me n (state_after_text on head message s) (pasts_after_text on head message s.peer pasts) now
    text_comes_opened = go x.outcome
      where
        go : ((is_closing x.end ≡ true) × (text_in on message.size message.text s.peer.ends ≡ Stays Took.Late))
            ⊎ ((is_closing x.end ≡ false) × ((conn_at_index b.conns k.place).host_left ≡ false)
            × (text_in on message.size message.text s.peer.ends ≡ Becomes (record x.end { messages = x.end.messages - 1; bits = x.end.bits - length message.text; stored = x.end.stored ++ message.text }) Took.Admitted))
            → AtHost me n s pasts t → AtHost me n (state_after_text on head message s) (pasts_after_text on head message s.peer pasts) now
        go (inl (going, late)) =
            with_lives Took.Late (ap answer late)
            (λ q g. others me n heard t now placed its told message.size message.text so is_its q (goes q g) ∙ sym (with_none (text_named (record { at = me; peer = n; pair = q }) t)) ∙ ap (text_with (text_named (record { at = me; peer = n; pair = q }) t)) (sym (nothing q)))
          where
            goes : (q : Pair) → is_closing (or_new (get s.peer.ends q)) ≡ false → (q ≡ its) → ⊥
            goes q g d = let nay : true ≡ false = sym going ∙ ap (λ (o : Option Endpoint). is_closing (or_new o)) (sym x.there) ∙ ap (λ (z : Pair). is_closing (or_new (get s.peer.ends z))) (sym d) ∙ g in cc nay

            nothing : (q : Pair) → mine q (Some its) [] ≡ []
            nothing q = by (q.local == its.local && q.remote == its.remote)
              where
                by : (z : Bool) → ◌≡◌ {A = List Bool} (if z then [] else []) []
                by true = refl
                by false = refl
        go (inr (opened, host, admitted)) = with_lives Took.Admitted (ap answer admitted) (λ q g. grown me n heard t now placed its told message.size message.text so is_its taken q)
          where
            taken : (is_some told.place && takes_bits told message.size (length message.text)) ≡ true
            taken =
                takes_it told message.size (length message.text) (ap (λ (o : Option ℕ). is_some o) one.link ∙ k.linked) (one.size ∙ k.size) (one.host_left ∙ host) (one.peer_left ∙ open_one judged.peer_left judged.peer_left k.stays)
                (all (record { at = me; peer = n; pair = its }) told (first_here (has_name (record { at = me; peer = n; pair = its })) t.tracks k.place (new_track 0 0 0 0) within (placed.unique (record { at = me; peer = n; pair = its })) is_its))
                (λ e. let c = covered e in covers_it judged told (length message.text) k.enough c.0 c.1)
