-- A request of the other that the books refuse is refused by the host too: it makes the ERR, and nothing else happens.
use Rattle.std.proofs.Common.{◌≡◌, ℕ, ◌==◌, Bool, true, false, not, ◌&&◌, ◌||◌, if◌then◌else◌, List, [], ◌∷◌, Option, None, Some, is_some, eq-eqb, refl, sym, ap, ◌∙◌, arith}
use Rattle.std.specs.Prelude.{nat_le, is_none}
use Rattle.std.specs.FinMap.{get}
use Rattle.std.proofs.Math.Bool.{beq}
use Rattle.std.proofs.lemmas.Bool.{eqb-true, and_parts}
use Rattle.ncp_wire.specs.declared.command.Command.{Command}
use Rattle.ncp_wire.specs.declared.command.Command.TheVariants.{Rts, Str}
use Rattle.ncp_model.specs.declared.pair.Pair.{Pair}
use Rattle.ncp_model.specs.declared.limits.TheConstants.{MAX_BY_PEER}
use Rattle.ncp_model.specs.declared.outcomes.Heard.TheVariants.{Nothing, Full}
use Rattle.ncp_model.specs.Pairs.{sends, receives, is_proper}
use Rattle.ncp_model.specs.Endpoint.{Endpoint, or_new}
use Rattle.ncp_model.specs.Effect.{Stays, Becomes, is_data_link, wrong_parameters}
use Rattle.ncp_model.specs.Commands.{errs, wrong_rts, wrong_str, heard_link, heard_size}
use Rattle.ncp_model.specs.Ends.{Ends, any, count, is_by_peer, hears_link, hear}
use Rattle.ncp_model.specs.Demux.{passes}
use Rattle.ncp_model.proofs.Lookups.{any-none}
use Rattle.ncp_monitor.specs.declared.finding.Rule.{Rule}
use Rattle.ncp_monitor.specs.declared.conn_state.ConnState.{ConnState}
use Rattle.ncp_interface.specs.declared.request.Request.{Request}
use Rattle.ncp_interface.specs.declared.request.Request.TheVariants.{Link, Size}
use Rattle.ncp_monitor.specs.declared.conn_state.FactKind.{FactKind}
use Rattle.ncp_monitor.specs.declared.observed_flow.ObservedFlow.{ObservedFlow}
use Rattle.ncp_monitor.specs.declared.observed_flow.Acceptance.TheVariants.{Refused, Unclear}
use Rattle.ncp_monitor.specs.ConnStates.{SeenTables, is_of_sockets, is_conn_between, has_link, has_sent_request, conn_of, user_of, is_marked}
use Rattle.ncp_interface.specs.Sockets.{is_senders, is_number_given, is_of_sexes}
use Rattle.ncp_monitor.specs.Requests.{range_rule, link_suspended, used_acceptance, link_acceptance, conn_acceptance, ranged_acceptance, request_acceptance}
use Rattle.ncp_monitor.proofs.Shapes.{HasAsked, others_of, is_closed, still_asked}
use Rattle.ncp_monitor.proofs.LinkOrder.{Sockets, about}
use Rattle.ncp_monitor.proofs.Firsts.{first, Unique}
use Rattle.ncp_monitor.proofs.BooksAt.{conn_first, has_sockets}
use Rattle.ncp_monitor.proofs.Seeing.{of_conn, seen, is_of}
use Rattle.ncp_proof_monitor_allocation.proofs.KeptEnds.{kept, number_if}
use Rattle.ncp_proof_monitor_allocation.proofs.OwnMoves.{all_says}
use Rattle.ncp_proof_monitor_allocation.proofs.Changed.{pair_at, kept_of}
use Rattle.ncp_proof_monitor_allocation.proofs.SeenTables.{conn_seen, seen_of, is_suspended, suspended_of}
use Rattle.ncp_proof_monitor_allocation.proofs.Users.{first_passes, found_at_first}
use Rattle.ncp_proof_monitor_allocation.proofs.Meets.{Meets}
use Rattle.ncp_proof_monitor_allocation.proofs.Refusals.{receives_same, sexes_same, wrong_sexes, wrong_link, wrong_heard, wrong_taken, heard_before}

-- ---- why it is refused

pub data WhyRefused (me n : ℕ) (b : SeenTables) (c : Command) (p : Sockets) (right : Bool) (request : Request) : Type 0 where
  OfWrongSexes : right ≡ false → WhyRefused me n b c p right request
  OutOfRange : (wrong : Rule) → range_rule c request ≡ Some wrong → WhyRefused me n b c p right request
  AskedBefore : (number : ℕ) → suspended_of me n b p ≡ false → HasAsked number (seen_of me n b p) → WhyRefused me n b c p right request
  OfUsedLink : (link : ℕ) (user : ConnState) → request ≡ Link link → is_marked me n (FactKind.LinkSuspended false link) b ≡ false → user_of me n false link b.conns ≡ Some user → user.peer_left ≡ false → WhyRefused me n b c p right request

module _ (me n : ℕ) (b : SeenTables) (c : Command) (p : Sockets) (right : Bool) where
  abbrev from_other : ObservedFlow
  from_other = record { at = me; peer = n; sent = false }

  -- its number is seen
  number_seen : (conn : ConnState) (request : Request) → conn_seen me n b p ≡ Some conn → is_of (is_senders p.0) false request ≡ true → conn.suspended ≡ false → conn.peer_left ≡ false → has_sent_request conn request ≡ true → WhyRefused me n b c p right request
  number_seen conn request e k r l a = go request (ap is_senders (sym local)) k a
    where
      local : conn.local ≡ p.0
      local = (has_sockets me n p.0 p.1 conn (first_passes (is_of_sockets me n p.0 p.1) b.conns conn e)).local

      calm : suspended_of me n b p ≡ false
      calm = ap is_suspended e ∙ r

      asked : (request : Request) (number : ℕ) → (of_conn conn).others ≡ Some number → WhyRefused me n b c p right request
      asked request number o = AskedBefore number calm (record { asked = ap (λ (x : Option ConnState). others_of (seen x)) e ∙ o; unclosed = ap (λ (x : Option ConnState). is_closed (seen x)) e ∙ l })

      go : (request : Request) → is_senders p.0 ≡ is_senders conn.local → is_of (is_senders p.0) false request ≡ true → has_sent_request conn request ≡ true → WhyRefused me n b c p right request
      go (Link link) s k a = by conn.link refl a
        where
          by : (o : Option ℕ) → conn.link ≡ o → is_some o ≡ true → WhyRefused me n b c p right (Link link)
          by None x a = absurd (cc a)
          by (Some number) x a = asked (Link link) number (ap (λ (y : Bool). if y then conn.link else conn.size) (sym s ∙ k) ∙ x)
      go (Size size) s k a = by conn.size refl a
        where
          unsending : (x : Bool) → not x ≡ true → x ≡ false
          unsending true e = absurd (cc e)
          unsending false e = refl

          by : (o : Option ℕ) → conn.size ≡ o → is_some o ≡ true → WhyRefused me n b c p right (Size size)
          by None x a = absurd (cc a)
          by (Some number) x a = asked (Size size) number (ap (λ (y : Bool). if y then conn.link else conn.size) (sym s ∙ unsending (is_senders p.0) k) ∙ x)

  used : (request : Request) (wrong : Rule) → link_suspended from_other request b ≡ false → link_acceptance from_other c request b ≡ Refused wrong → WhyRefused me n b c p right request
  used (Size size) wrong z v = absurd (cc v)
  used (Link link) wrong z v = go (user_of me n false link b.conns) refl v
    where
      go : (o : Option ConnState) → user_of me n false link b.conns ≡ o → used_acceptance from_other c o ≡ Refused wrong → WhyRefused me n b c p right (Link link)
      go None e v = absurd (cc v)
      go (Some user) e v = by user.peer_left refl v
        where
          by : (x : Bool) → user.peer_left ≡ x → (if x then Unclear (Some (Rule.LinkUsed c user.local user.remote)) else Refused (Rule.LinkUsed c user.local user.remote)) ≡ Refused wrong → WhyRefused me n b c p right (Link link)
          by true k v = absurd (cc v)
          by false k v = OfUsedLink link user refl z e k

  pub why_refused : (request : Request) (wrong : Rule) → is_of (is_senders p.0) false request ≡ true → request_acceptance from_other c p.0 p.1 right request b ≡ Refused wrong → WhyRefused me n b c p right request
  why_refused request wrong sex v = by_sex right refl v
    where
      by_conn : (o : Option ConnState) → conn_seen me n b p ≡ o → link_suspended from_other request b ≡ false → conn_acceptance from_other c request b o ≡ Refused wrong → WhyRefused me n b c p right request
      by_conn None e z v = used request wrong z v
      by_conn (Some conn) e z v = go conn.suspended conn.peer_left (has_sent_request conn request) refl refl refl v
        where
          go : (r l a : Bool) → conn.suspended ≡ r → conn.peer_left ≡ l → has_sent_request conn request ≡ a
              → (if r then Unclear None else if l then Unclear (Some (Rule.Unended c conn.since)) else if a then Refused (Rule.AskedAgain c conn.since) else link_acceptance from_other c request b) ≡ Refused wrong → WhyRefused me n b c p right request
          go true l a x y w v = absurd (cc v)
          go false true a x y w v = absurd (cc v)
          go false false true x y w v = number_seen conn request e sex x y w
          go false false false x y w v = used request wrong z v

      by_link : (k : Bool) → link_suspended from_other request b ≡ k → (if k then Unclear None else conn_acceptance from_other c request b (conn_of me n p.0 p.1 b.conns)) ≡ Refused wrong → WhyRefused me n b c p right request
      by_link true z v = absurd (cc v)
      by_link false z v = by_conn (conn_seen me n b p) refl z (sym (ap (conn_acceptance from_other c request b) (conn_first me n p.0 p.1 b.conns)) ∙ v)

      by_range : (o : Option Rule) → range_rule c request ≡ o → ranged_acceptance from_other c p.0 p.1 request b o ≡ Refused wrong → WhyRefused me n b c p right request
      by_range (Some rule) z v = OutOfRange rule z
      by_range None z v = by_link (link_suspended from_other request b) refl v

      by_sex : (x : Bool) → right ≡ x → (if not x then Refused (Rule.Sex c) else ranged_acceptance from_other c p.0 p.1 request b (range_rule c request)) ≡ Refused wrong → WhyRefused me n b c p right request
      by_sex false z v = OfWrongSexes z
      by_sex true z v = by_range (range_rule c request) refl v

-- ---- the user of a link, which is open, has heard it at the host

-- what passes a test, and passes another that one alone passes, is the first of that
pub first_alone : {A : Type 0} (t s : A → Bool) (xs : List A) (z : A) → first t xs ≡ Some z → s z ≡ true → Unique s xs → first s xs ≡ Some z
first_alone t s [] z e k u = absurd (cc e)
first_alone {A} t s (x ∷ xs) z e k (h, u) = go (t x) e (λ f. first_alone t s xs z f k u)
  where
    here : (b : Bool) → s x ≡ b → first s xs ≡ Some z → (if b then Some x else first s xs) ≡ Some z
    here true i f = let nay : None ≡ Some z = sym (h i) ∙ f in absurd (cc nay)
    here false i f = f

    go : (b : Bool) → (if b then Some x else first t xs) ≡ Some z → (first t xs ≡ Some z → first s xs ≡ Some z) → (if s x then Some x else first s xs) ≡ Some z
    go true f rest = let is : x ≡ z = cc f in ap (λ (b : Bool). if b then Some x else first s xs) (ap s is ∙ k) ∙ f
    go false f rest = here (s x) refl (rest f)

module _ (me n link : ℕ) (m : Ends) (w : List Command) (b : SeenTables) where
  pub user_heard : (user : ConnState) → is_marked me n (FactKind.LinkSuspended false link) b ≡ false → user_of me n false link b.conns ≡ Some user → user.peer_left ≡ false → ((pair : Pair) → is_some (get m pair) ≡ true → is_proper pair ≡ true) → Meets me n m w b → any (hears_link link) m ≡ true
  user_heard user unmarked e unshut proper meets = go (any (hears_link link) m) refl
    where
      u : Sockets
      u = (user.local, user.remote)

      found : first (has_link me n false link) b.conns ≡ Some user
      found = sym (found_at_first (has_link me n false link) b.conns) ∙ e

      its : ((is_conn_between me n user && not (beq (is_senders user.local) false)) ≡ true) × (is_number_given user.link link ≡ true)
      its = and_parts (is_conn_between me n user && not (beq (is_senders user.local) false)) (is_number_given user.link link) (first_passes (has_link me n false link) b.conns user found)

      between : (is_conn_between me n user ≡ true) × (not (beq (is_senders user.local) false) ≡ true)
      between = and_parts (is_conn_between me n user) (not (beq (is_senders user.local) false)) its.0

      sender : is_senders user.local ≡ true
      sender = by (is_senders user.local) between.1
        where
          by : (x : Bool) → not (beq x false) ≡ true → x ≡ true
          by true k = refl
          by false k = absurd (cc k)

      has : user.link ≡ Some link
      has = by user.link its.1
        where
          by : (o : Option ℕ) → is_number_given o link ≡ true → o ≡ Some link
          by None k = absurd (cc k)
          by (Some given) k = ap (λ (x : ℕ). Some x) (eqb-true given link k)

      own : is_of_sockets me n user.local user.remote user ≡ true
      own =
          ap (λ (x : Bool). x && (user.local == user.local) && (user.remote == user.remote)) between.0
          ∙ ap (λ (x : Bool). true && x && (user.remote == user.remote)) (eq-eqb user.local user.local refl)
          ∙ eq-eqb user.remote user.remote refl

      there : conn_seen me n b u ≡ Some user
      there = first_alone (has_link me n false link) (is_of_sockets me n user.local user.remote) b.conns user found own (meets.unique u)

      calm : user.suspended ≡ false
      calm = by user.suspended refl
        where
          by : (x : Bool) → user.suspended ≡ x → user.suspended ≡ false
          by false k = k
          by true k =
              let marked : is_marked me n (FactKind.LinkSuspended false link) b ≡ true = ap (λ (x : Bool). is_marked me n (FactKind.LinkSuspended (not x) link) b) (sym sender) ∙ meets.linked u user link there k has in
              let nay : true ≡ false = sym marked ∙ unmarked in absurd (cc nay)

      shape : others_of (kept_of m u) ≡ Some link
      shape = (still_asked (about u (all_says w)) (kept_of m u) (seen_of me n b u) link (record { asked = ap (λ (x : Option ConnState). others_of (seen x)) there ∙ ap (λ (x : Bool). if x then user.link else user.size) sender ∙ has; unclosed = ap (λ (x : Option ConnState). is_closed (seen x)) there ∙ unshut })
          (meets.tally.pairs u (ap is_suspended there ∙ calm))).asked

      -- of such sockets only a sender is there
      sending : (pair : Pair) → is_senders pair.local ≡ true → is_proper pair ≡ true → sends pair ≡ true
      sending pair k p = grind arith

      passing : passes (hears_link link) (pair_at u) (get m (pair_at u)) ≡ true
      passing = by_end (get m (pair_at u)) (proper (pair_at u)) shape
        where
          by_end : (o : Option Endpoint) → (is_some o ≡ true → is_proper (pair_at u) ≡ true) → others_of (kept (sends (pair_at u)) o) ≡ Some link → passes (hears_link link) (pair_at u) o ≡ true
          by_end None p k = absurd (cc k)
          by_end (Some x) p k =
              let s = sending (pair_at u) sender (p refl) in
              ap (λ (y : Bool). y && x.heard && (x.link == link)) s ∙ by x.heard (sym (ap (λ (y : Bool). others_of (kept y (Some x))) s) ∙ k)
            where
              by : (y : Bool) → number_if y x.link ≡ Some link → (y && (x.link == link)) ≡ true
              by false k = absurd (cc k)
              by true k = let is : x.link ≡ link = cc k in eq-eqb x.link link is

      go : (x : Bool) → any (hears_link link) m ≡ x → any (hears_link link) m ≡ true
      go true k = k
      go false k = let nay : true ≡ false = sym passing ∙ any-none (hears_link link) m k (pair_at u) in absurd (cc nay)

-- ---- so it is refused

out_of_range : (c : Command) (link : ℕ) (wrong : Rule) → range_rule c (Link link) ≡ Some wrong → is_data_link link ≡ false
out_of_range c link wrong e = go (nat_le 2 link && nat_le link 71) e
  where
    go : (x : Bool) → (if x then None else Some (Rule.LinkRange c)) ≡ Some wrong → x ≡ false
    go true e = absurd (cc e)
    go false e = refl

of_no_size : (c : Command) (size : ℕ) (wrong : Rule) → range_rule c (Size size) ≡ Some wrong → (size == 0) ≡ true
of_no_size c size wrong e = go (size == 0) e
  where
    go : (x : Bool) → (if x then Some (Rule.SizeZero c) else None) ≡ Some wrong → x ≡ true
    go true e = refl
    go false e = absurd (cc e)

module _ (me n : ℕ) (m : Ends) (w : List Command) (b : SeenTables) where
  abbrev heard_flow : ObservedFlow
  heard_flow = record { at = me; peer = n; sent = false }

  pub rts_refused_too : (receive send link : ℕ) (wrong : Rule) → request_acceptance heard_flow (Rts receive send link) send receive (is_of_sexes receive send) (Link link) b ≡ Refused wrong → ((pair : Pair) → is_some (get m pair) ≡ true → is_proper pair ≡ true) → Meets me n m w b
      → hear (Rts receive send link) m ≡ errs wrong_parameters (Rts receive send link)
  rts_refused_too receive send link wrong v proper meets = ap (λ (x : Bool). if x then errs wrong_parameters c else if is_none (get m pair) && nat_le MAX_BY_PEER (count is_by_peer m) then Stays Full else Becomes (heard_link link (or_new (get m pair))) Nothing) (sexes (is_of_sexes receive send) refl)
    where
      c : Command
      c = Rts receive send link

      pair : Pair
      pair = record { local = send; remote = receive }

      taken : Bool
      taken = any (hears_link link) m

      by : WhyRefused me n b c (send, receive) (is_of_sexes receive send) (Link link) → wrong_rts pair link taken (get m pair) ≡ true
      by (OfWrongSexes e) = wrong_sexes pair link taken (get m pair) (sym (sexes_same receive send) ∙ e)
      by (OutOfRange rule e) = wrong_link pair link taken (get m pair) (out_of_range c link rule e)
      by (AskedBefore number r h) = wrong_heard pair link taken (get m pair) (heard_before me n number m w b (send, receive) r h meets)
      by (OfUsedLink used user e unmarked found unshut) =
          let is : link ≡ used = cc e in
          wrong_taken pair link taken (get m pair) (ap (λ (x : ℕ). any (hears_link x) m) is ∙ user_heard me n used m w b user unmarked found unshut proper meets)

      sexes : (x : Bool) → is_of_sexes receive send ≡ x → wrong_rts pair link taken (get m pair) ≡ true
      sexes false e = wrong_sexes pair link taken (get m pair) (sym (sexes_same receive send) ∙ e)
      sexes true e = by (why_refused me n b c (send, receive) (is_of_sexes receive send) (Link link) wrong (and_parts (not (is_senders receive)) (is_senders send) e).1 v)

  wrong_size : (pair : Pair) (size : ℕ) (before : Option Endpoint) → receives pair ≡ false → wrong_str pair size before ≡ true
  wrong_size pair size before e = ap (λ (x : Bool). not x || size == 0 || (or_new before).heard) e

  pub str_refused_too : (send receive size : ℕ) (wrong : Rule) → request_acceptance heard_flow (Str send receive size) receive send (is_of_sexes receive send) (Size size) b ≡ Refused wrong → Meets me n m w b
      → hear (Str send receive size) m ≡ errs wrong_parameters (Str send receive size)
  str_refused_too send receive size wrong v meets = ap (λ (x : Bool). if x then errs wrong_parameters c else if is_none (get m pair) && nat_le MAX_BY_PEER (count is_by_peer m) then Stays Full else Becomes (heard_size size (or_new (get m pair))) Nothing) (sexes (is_of_sexes receive send) refl)
    where
      c : Command
      c = Str send receive size

      pair : Pair
      pair = record { local = receive; remote = send }

      same_sexes : receives pair ≡ is_of_sexes receive send
      same_sexes = ap (λ (x : Bool). x && is_senders send) (receives_same receive)

      zero_size : (x y h : Bool) → y ≡ true → (not x || y || h) ≡ true
      zero_size true true h e = refl
      zero_size true false h e = absurd (cc e)
      zero_size false y h e = refl

      heard_so : (x y h : Bool) → h ≡ true → (not x || y || h) ≡ true
      heard_so true true h e = refl
      heard_so true false h e = e
      heard_so false y h e = refl

      by : WhyRefused me n b c (receive, send) (is_of_sexes receive send) (Size size) → wrong_str pair size (get m pair) ≡ true
      by (OfWrongSexes e) = wrong_size pair size (get m pair) (same_sexes ∙ e)
      by (OutOfRange rule e) = zero_size (receives pair) (size == 0) (or_new (get m pair)).heard (of_no_size c size rule e)
      by (AskedBefore number r h) = heard_so (receives pair) (size == 0) (or_new (get m pair)).heard (heard_before me n number m w b (receive, send) r h meets)
      by (OfUsedLink used user e unmarked found unshut) = absurd (cc e)

      sexes : (x : Bool) → is_of_sexes receive send ≡ x → wrong_str pair size (get m pair) ≡ true
      sexes false e = wrong_size pair size (get m pair) (same_sexes ∙ e)
      sexes true e = by (why_refused me n b c (receive, send) (is_of_sexes receive send) (Size size) wrong (and_parts (not (is_senders receive)) (is_senders send) e).0 v)
