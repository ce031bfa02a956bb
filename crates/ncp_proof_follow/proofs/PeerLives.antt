-- The effect of a host's step on each end with one peer and on its history: the text given, received and
-- sent, and whether the connection opens.
use Rattle.std.proofs.Common.{◌≡◌, ◌⊎◌, inl, inr, ℕ, ◌==◌, eq-eqb, Bool, true, false, cond, ◌&&◌, if◌then◌else◌, List, [], ◌∷◌, Option, None, Some, Result, Ok, Err, refl, sym, ap, ◌∙◌, subst, arith}
use Rattle.std.specs.FinMap.{get, insert, get-insert, get-empty}
use Rattle.std.specs.Ordering.{eq_by_cmp}
use Rattle.std.proofs.lemmas.Bool.{eqb-true, and_parts}
use Rattle.std.proofs.lemmas.List.{append-nil}
use Rattle.std.proofs.lemmas.Map.Views.{tells_apart}
use Rattle.ncp_wire.specs.declared.command.Command.{Command}
use Rattle.ncp_wire.specs.declared.fault.CommandFault.{CommandFault}
use Rattle.ncp_model.specs.declared.pair.Pair.{Pair}
use Rattle.ncp_model.specs.declared.call_fault.CallFault.{CallFault}
use Rattle.ncp_model.specs.declared.outcomes.Heard.{Heard}
use Rattle.ncp_model.specs.declared.outcomes.Took.{Took}
use Rattle.ncp_model.specs.Pairs.{same, is_proper, pair_cmp}
use Rattle.ncp_model.specs.Endpoint.{Endpoint, or_new}
use Rattle.ncp_model.specs.Effect.{answer, end_after, made_by_hearing, made_if_any}
use Rattle.ncp_model.specs.Commands.{hear_cls}
use Rattle.ncp_model.specs.Texts.{Rfnm, hear_text, made_by_text}
use Rattle.ncp_model.specs.Ends.{Ends, uses_link, sender_on, receiver_on, end_of, pair_of, demux_command, hear, text_in, cut_in, answered_in, map_after, map_after_at, no_ends, put}
use Rattle.ncp_model.specs.EndpointEvents.{EndpointEvent, Outcome, Transition, happens, happened, outcome_of_call, of_take, of_reply, of_hearing, outcome_of_text, of_cut}
use Rattle.ncp_model.specs.Demux.{suits, passes, leads, comes}
use Rattle.ncp_model.specs.Phase.{up, is_resetting, makes_all, resets}
use Rattle.ncp_model.specs.Sending.{is_full}
use Rattle.ncp_model.specs.Peers.{Peer, PairCall, Ask_to_send, Ask_to_receive, Give, Take, called, happened_at, calls_up, calls, echo_called, calls_echo, cleared, calls_reset, makes, hears_other, hears, hears_fault, takes_text, hears_text, frees_up, frees, cuts}
use Rattle.ncp_model.proofs.PairOrder.{pairs_exact, pairs_total}
use Rattle.ncp_model.proofs.EndsAfter.{after-at}
use Rattle.ncp_model.proofs.LinksDemux.{itself, led, command-led, cut-led, answered-led, suits-led, user-receives}
use Rattle.ncp_proof_endpoint.specs.Histories.{PairHistory}
use Rattle.ncp_proof_endpoint.specs.Sound.{SoundAt}
use Rattle.ncp_proof_machine.specs.Hosts.{Pasts, past_of, or_no_past, past_after, pasts_after, pasts_after_at}
use Rattle.ncp_proof_machine.proofs.EndsGood.{Changes, same_or, put-changes, act-changes, called-suits}
use Rattle.ncp_transcript_two.specs.Watch.{of_command}
use Rattle.ncp_proof_follow.proofs.EndLives.{EndLives, end_lives, text_given, text_come, text_gone, is_request}

abbrev pub SoundAll : Ends → Type 0
SoundAll m = (q : Pair) → SoundAt q (get m q)

-- of the end to which a step leads

abbrev pub mine : Pair → Option Pair → List Bool → List Bool
mine q None text = []
mine q (Some p) text = if same q p then text else []

abbrev pub is_mine : Pair → Option Pair → Bool → Bool
is_mine q None b = false
is_mine q (Some p) b = same q p && b

same_is : (q p : Pair) → q ≡ p → same q p ≡ true
same_is q p e = ap (λ (x : Pair). x.local == p.local && x.remote == p.remote) e ∙ ap (λ (b : Bool). b && (p.remote == p.remote)) (eq-eqb p.local p.local refl) ∙ eq-eqb p.remote p.remote refl

pub same_pair : (q p : Pair) → same q p ≡ true → q ≡ p
same_pair q p e =
    let k = and_parts (q.local == p.local) (q.remote == p.remote) e in
    let l : q.local ≡ p.local = eqb-true q.local p.local k.0 in
    let r : q.remote ≡ p.remote = eqb-true q.remote p.remote k.1 in
    ap (λ (x : ℕ). (let y : Pair = record { local = x; remote = q.remote } in y)) l ∙ ap (λ (x : ℕ). (let y : Pair = record { local = p.local; remote = x } in y)) r

same_isnt : (q p : Pair) → ((q ≡ p) → ⊥) → same q p ≡ false
same_isnt q p d = go (same q p) refl
  where
    go : (b : Bool) → same q p ≡ b → same q p ≡ false
    go false e = e
    go true e = absurd (d (same_pair q p e))

-- ---- nothing happens, and nothing is left

module _ (q : Pair) where
  pub lives_stay : (o : Option Endpoint) (past : PairHistory) (asked : Bool) → EndLives q o o past past [] [] [] asked
  lives_stay o past asked = record {
    gives = λ l. sym (append-nil past.given);
    gets = λ l. sym (append-nil past.got);
    stores = λ s l k g. append-nil (or_new o).stored;
    going_stays = λ g l. g;
    left_stays = λ g l. g;
    going_gives = λ g. refl;
    going_gets = λ g. refl;
    going_sends = λ g. refl;
    begins = λ n l. absurd (cc (n, l));
    none_given = λ n l. absurd (cc (n, l));
    none_got = λ n l. absurd (cc (n, l));
    none_stored = λ n l. absurd (cc (n, l));
  }

  -- it no longer exists
  lives_gone : (before after : Option Endpoint) (past now : PairHistory) (given come gone : List Bool) (asked : Bool) → EndLives q before after past now given come gone asked → EndLives q before None past now given come gone asked
  lives_gone before after past now given come gone asked e = record {
    gives = e.gives;
    gets = e.gets;
    stores = λ s l k g. absurd (cc k);
    going_stays = λ g l. absurd (cc l);
    left_stays = λ g l. absurd (cc l);
    going_gives = e.going_gives;
    going_gets = e.going_gets;
    going_sends = e.going_sends;
    begins = λ n l. absurd (cc l);
    none_given = λ n l. absurd (cc l);
    none_got = λ n l. absurd (cc l);
    none_stored = λ n l. absurd (cc l);
  }

  -- what does not open adds nothing to its history
  lives_unwatched : (before after : Option Endpoint) (past now : PairHistory) (gone : List Bool) → EndLives q before after past now [] [] gone false → EndLives q before after past past [] [] gone false
  lives_unwatched before after past now gone e = record {
    gives = λ l. sym (append-nil past.given);
    gets = λ l. sym (append-nil past.got);
    stores = e.stores;
    going_stays = e.going_stays;
    left_stays = e.left_stays;
    going_gives = e.going_gives;
    going_gets = e.going_gets;
    going_sends = e.going_sends;
    begins = e.begins;
    none_given = λ n l. let nay : false ≡ true = e.begins n l in absurd (cc nay);
    none_got = λ n l. let nay : false ≡ true = e.begins n l in absurd (cc nay);
    none_stored = e.none_stored;
  }

  -- the same, by its parts
  lives_as : (before after after2 : Option Endpoint) (past now now2 : PairHistory) (given given2 come come2 gone gone2 : List Bool) (asked asked2 : Bool) → after ≡ after2 → now ≡ now2 → given ≡ given2 → come ≡ come2 → gone ≡ gone2 → asked ≡ asked2
      → EndLives q before after past now given come gone asked → EndLives q before after2 past now2 given2 come2 gone2 asked2
  lives_as before after after2 past now now2 given given2 come come2 gone gone2 asked asked2 a n g c o k e =
      subst (λ (x : Bool). EndLives q before after2 past now2 given2 come2 gone2 x) k
      (subst (λ (x : List Bool). EndLives q before after2 past now2 given2 come2 x asked) o
      (subst (λ (x : List Bool). EndLives q before after2 past now2 given2 x gone asked) c
      (subst (λ (x : List Bool). EndLives q before after2 past now2 x come gone asked) g
      (subst (λ (x : PairHistory). EndLives q before after2 past x given come gone asked) n
      (subst (λ (x : Option Endpoint). EndLives q before x past now given come gone asked) a e)))))

  -- of ends that stay where the host is up still
  lives_kept : (b : Bool) (before : Option Endpoint) (m : Ends) (past now : PairHistory) (given come gone : List Bool) (asked : Bool) → EndLives q before (get m q) past now given come gone asked
      → EndLives q before (get (if b then m else no_ends) q) past now given come gone asked
  lives_kept true before m past now given come gone asked e = e
  lives_kept false before m past now given come gone asked e =
      subst (λ (x : Option Endpoint). EndLives q before x past now given come gone asked) (sym (get-empty pair_cmp q)) (lives_gone before (get m q) past now given come gone asked e)

-- ---- something happens at one end

-- the histories

past_put : (pasts : Pasts) (p : Pair) (past : PairHistory) (q : Pair) (b : Bool) → eq_by_cmp pair_cmp q p ≡ b → past_of (insert pasts p past) q ≡ (if b then past else past_of pasts q)
past_put pasts p past q b e = ap or_no_past (get-insert pairs_total pasts p past q) ∙ by b e
  where
    by : (b : Bool) → eq_by_cmp pair_cmp q p ≡ b → or_no_past (cond (eq_by_cmp pair_cmp q p) (Some past) (get pasts q)) ≡ (if b then past else past_of pasts q)
    by true e = ap (λ (x : Bool). or_no_past (cond x (Some past) (get pasts q))) e
    by false e = ap (λ (x : Bool). or_no_past (cond x (Some past) (get pasts q))) e

past_here : (pasts : Pasts) (p : Pair) (past : PairHistory) → past_of (insert pasts p past) p ≡ past
past_here pasts p past = past_put pasts p past p true (itself p)

past_there : (pasts : Pasts) (p : Pair) (past : PairHistory) (q : Pair) → ((q ≡ p) → ⊥) → past_of (insert pasts p past) q ≡ past_of pasts q
past_there pasts p past q d = past_put pasts p past q false (go (eq_by_cmp pair_cmp q p) refl)
  where
    go : (b : Bool) → eq_by_cmp pair_cmp q p ≡ b → eq_by_cmp pair_cmp q p ≡ false
    go false e = e
    go true e = absurd (d (tells_apart pairs_exact q p e))

module _ (m now : Ends) (p : Pair) (what : EndpointEvent) (changes : Changes m now p what) (suited : suits p what ≡ true) (sound : SoundAll m) (pasts : Pasts) (q : Pair) where
  abbrev did : Transition
  did = happens p what (get m p)

  lives_at : EndLives q (get m q) (get now q) (past_of pasts q) (past_of (pasts_after p what m pasts) q) (mine q (Some p) (text_given what did.outcome)) (mine q (Some p) (text_come what did.outcome)) (mine q (Some p) (text_gone did.outcome))
      (is_mine q (Some p) (is_request what))
  lives_at = go (same_or q p)
    where
      after : PairHistory
      after = past_after (get m p) what did (past_of pasts p)

      go : ((q ≡ p) ⊎ ((q ≡ p) → ⊥))
          → EndLives q (get m q) (get now q) (past_of pasts q) (past_of (pasts_after p what m pasts) q) (mine q (Some p) (text_given what did.outcome)) (mine q (Some p) (text_come what did.outcome)) (mine q (Some p) (text_gone did.outcome))
          (is_mine q (Some p) (is_request what))
      go (inl e) =
          subst
          (λ (x : Pair). EndLives x (get m x) (get now x) (past_of pasts x) (past_of (pasts_after p what m pasts) x) (mine x (Some p) (text_given what did.outcome)) (mine x (Some p) (text_come what did.outcome)) (mine x (Some p) (text_gone did.outcome))
          (is_mine x (Some p) (is_request what)))
          (sym e)
          (lives_as p (get m p) did.after (get now p) (past_of pasts p) after (past_of (pasts_after p what m pasts) p) (text_given what did.outcome) (mine p (Some p) (text_given what did.outcome)) (text_come what did.outcome)
          (mine p (Some p) (text_come what did.outcome)) (text_gone did.outcome) (mine p (Some p) (text_gone did.outcome)) (is_request what) (is_mine p (Some p) (is_request what)) (sym changes.there) (sym (past_here pasts p after))
          (sym (ap (λ (b : Bool). if b then text_given what did.outcome else []) k)) (sym (ap (λ (b : Bool). if b then text_come what did.outcome else []) k)) (sym (ap (λ (b : Bool). if b then text_gone did.outcome else []) k))
          (sym (ap (λ (b : Bool). b && is_request what) k)) (end_lives p what (get m p) (past_of pasts p) suited (sound p)))
        where
          k : same p p ≡ true
          k = same_is p p refl
      go (inr d) =
          lives_as q (get m q) (get m q) (get now q) (past_of pasts q) (past_of pasts q) (past_of (pasts_after p what m pasts) q) [] (mine q (Some p) (text_given what did.outcome)) [] (mine q (Some p) (text_come what did.outcome)) []
          (mine q (Some p) (text_gone did.outcome)) false (is_mine q (Some p) (is_request what)) (sym (changes.elsewhere q d)) (sym (past_there pasts p after q d)) (sym (ap (λ (b : Bool). if b then text_given what did.outcome else []) k))
          (sym (ap (λ (b : Bool). if b then text_come what did.outcome else []) k)) (sym (ap (λ (b : Bool). if b then text_gone did.outcome else []) k)) (sym (ap (λ (b : Bool). b && is_request what) k))
          (lives_stay q (get m q) (past_of pasts q) false)
        where
          k : same q p ≡ false
          k = same_isnt q p d

none_mine : (q : Pair) (o : Option Pair) (text : List Bool) → text ≡ [] → mine q o text ≡ []
none_mine q None text e = refl
none_mine q (Some p) text e = go (same q p)
  where
    go : (b : Bool) → (if b then text else []) ≡ []
    go true = e
    go false = refl

-- ---- of a host and a peer

abbrev pub PeerLives : Pair → Peer → Peer → Pasts → Pasts → List Bool → List Bool → List Bool → Bool → Type 0
PeerLives q p now pasts then_past given come gone asked = EndLives q (get p.ends q) (get now.ends q) (past_of pasts q) (past_of then_past q) given come gone asked

pub peer_stays : (q : Pair) (p : Peer) (pasts : Pasts) (asked : Bool) → PeerLives q p p pasts pasts [] [] [] asked
peer_stays q p pasts asked = lives_stay q (get p.ends q) (past_of pasts q) asked

-- all ends go
pub peer_cleared : (q : Pair) (p now : Peer) (pasts : Pasts) → now.ends ≡ no_ends → PeerLives q p now pasts pasts [] [] [] false
peer_cleared q p now pasts e =
    subst (λ (m : Ends). EndLives q (get p.ends q) (get m q) (past_of pasts q) (past_of pasts q) [] [] [] false) (sym e)
    (lives_kept q false (get p.ends q) p.ends (past_of pasts q) (past_of pasts q) [] [] [] false (peer_stays q p pasts false))

-- ---- a call

abbrev pub is_ask : PairCall → Bool
is_ask (Ask_to_send of_size with_room) = true
is_ask (Ask_to_receive with_room) = true
is_ask call = false

-- what it gives
abbrev pub given_by : PairCall → Outcome → List Bool
given_by (Give text) o = text_given (EndpointEvent.Gives text) o
given_by call o = []

module _ (full : Bool) (m : Ends) (o : Outcome) where
  call_given : (call : PairCall) → text_given (called call full m) o ≡ given_by call o
  call_given (Ask_to_send of_size with_room) = refl
  call_given call = refl

  call_come : (call : PairCall) → text_come (called call full m) o ≡ []
  call_come (Ask_to_send of_size with_room) = refl
  call_come call = refl

  call_asks : (call : PairCall) → is_request (called call full m) ≡ is_ask call
  call_asks (Ask_to_send of_size with_room) = refl
  call_asks call = refl

none_called : {A : Type 0} (r : Result A CallFault) → text_gone (outcome_of_call r) ≡ []
none_called (Ok a) = refl
none_called (Err fault) = refl

none_taken : (r : Result (List Bool × Option Command) CallFault) → text_gone (of_take r) ≡ []
none_taken (Ok a) = refl
none_taken (Err fault) = refl

call_gone : (pair : Pair) (full : Bool) (m : Ends) (before : Option Endpoint) (call : PairCall) → text_gone (happens pair (called call full m) before).outcome ≡ []
call_gone pair full m before (Take bytes) = none_taken _
call_gone pair full m before call = none_called _

pub call_lives : (pair : Pair) (call : PairCall) (p : Peer) (pasts : Pasts) → SoundAll p.ends → (q : Pair)
    → PeerLives q p (calls pair call p) pasts (if up p.phase then pasts_after pair (called call (is_full p.phase) p.ends) p.ends pasts else pasts)
    (if up p.phase then mine q (Some pair) (given_by call (happened_at pair call p).outcome) else []) [] [] (up p.phase && is_mine q (Some pair) (is_ask call))
call_lives pair call p pasts sound q = go (up p.phase)
  where
    what : EndpointEvent
    what = called call (is_full p.phase) p.ends

    did_it : Transition
    did_it = happened_at pair call p

    then_past : PairHistory
    then_past = past_of (pasts_after pair what p.ends pasts) q

    asked : EndLives q (get p.ends q) (get (put p.ends pair did_it.after) q) (past_of pasts q) then_past (mine q (Some pair) (given_by call did_it.outcome)) [] [] (is_mine q (Some pair) (is_ask call))
    asked =
        let after = get (put p.ends pair did_it.after) q in
        lives_as q (get p.ends q) after after (past_of pasts q) then_past then_past (mine q (Some pair) (text_given what did_it.outcome)) (mine q (Some pair) (given_by call did_it.outcome)) (mine q (Some pair) (text_come what did_it.outcome)) []
        (mine q (Some pair) (text_gone did_it.outcome)) [] (is_mine q (Some pair) (is_request what)) (is_mine q (Some pair) (is_ask call)) refl refl
        (ap (mine q (Some pair)) (call_given (is_full p.phase) p.ends did_it.outcome call)) (none_mine q (Some pair) (text_come what did_it.outcome) (call_come (is_full p.phase) p.ends did_it.outcome call))
        (none_mine q (Some pair) (text_gone did_it.outcome) (call_gone pair (is_full p.phase) p.ends (get p.ends pair) call)) (ap (is_mine q (Some pair)) (call_asks (is_full p.phase) p.ends did_it.outcome call))
        (lives_at p.ends (put p.ends pair did_it.after) pair what (put-changes p.ends pair what) (called-suits pair call (is_full p.phase) p.ends) sound pasts q)

    go : (b : Bool)
        → PeerLives q p (if b then calls_up pair call p else p) pasts (if b then pasts_after pair what p.ends pasts else pasts) (if b then mine q (Some pair) (given_by call did_it.outcome) else []) [] [] (b && is_mine q (Some pair) (is_ask call))
    go true =
        lives_kept q (up (makes_all did_it.made p.phase)) (get p.ends q) (put p.ends pair did_it.after) (past_of pasts q) then_past (mine q (Some pair) (given_by call did_it.outcome)) [] [] (is_mine q (Some pair) (is_ask call)) asked
    go false = peer_stays q p pasts false

pub echo_lives : (byte : ℕ) (p : Peer) (pasts : Pasts) (q : Pair) → PeerLives q p (calls_echo byte p) pasts pasts [] [] [] false
echo_lives byte p pasts q = go (up p.phase)
  where
    go : (b : Bool) → PeerLives q p (if b then echo_called byte p else p) pasts pasts [] [] [] false
    go true = lives_kept q (up (echo_called byte p).phase) (get p.ends q) p.ends (past_of pasts q) (past_of pasts q) [] [] [] false (peer_stays q p pasts false)
    go false = peer_stays q p pasts false

pub reset_lives : (quiet : Bool) (p : Peer) (pasts : Pasts) (q : Pair) → PeerLives q p (calls_reset quiet p) pasts pasts [] [] [] false
reset_lives quiet p pasts q = go (is_resetting p.phase)
  where
    go : (b : Bool) → PeerLives q p (if b then p else cleared (resets quiet p.phase) p) pasts pasts [] [] [] false
    go true = peer_stays q p pasts false
    go false = peer_cleared q p (cleared (resets quiet p.phase) p) pasts refl

-- ---- a command comes

-- a request
abbrev pub is_request_of : Command → Bool
is_request_of (Command.Rts receive send on) = true
is_request_of (Command.Str send receive of_size) = true
is_request_of c = false

came_with : (c : Command) (m : Ends) (pair : Pair) → demux_command c m ≡ Some pair → comes c m ≡ None → ⊥
came_with (Command.Rts receive send on) m pair e f = cc f
came_with (Command.Str send receive of_size) m pair e f = cc f
came_with (Command.Cls my your) m pair e f = cc f
came_with (Command.All on a b) m pair e f = cc f
came_with (Command.Gvb on a b) m pair e f = cc f
came_with (Command.Ret on a b) m pair e f = cc f
came_with (Command.Inr on) m pair e f = cc f
came_with (Command.Ins on) m pair e f = cc f
came_with c m pair e f = cc e

-- what comes by a command
pub record ByCommand (c : Command) (what : EndpointEvent) : Type 0 where
  pub given : (o : Outcome) → text_given what o ≡ []
  pub come : (o : Outcome) → text_come what o ≡ []
  pub asked : is_request what ≡ is_request_of c

by_command : (c : Command) (m : Ends) (what : EndpointEvent) → comes c m ≡ Some what → ByCommand c what
by_command c m what e = record { given = λ o. given c e o; come = λ o. come c e o; asked = asked c e }
  where
    given : (c : Command) → comes c m ≡ Some what → (o : Outcome) → text_given what o ≡ []
    given c e o = grind arith

    come : (c : Command) → comes c m ≡ Some what → (o : Outcome) → text_come what o ≡ []
    come c e o = grind arith

    asked : (c : Command) → comes c m ≡ Some what → is_request what ≡ is_request_of c
    asked c e = grind arith

none_replied : (c : Command) → text_gone (of_reply c) ≡ []
none_replied c = grind arith

none_heard : (h : Heard) → text_gone (of_hearing h) ≡ []
none_heard Heard.Nothing = refl
none_heard (Heard.Reply c) = none_replied c
none_heard Heard.Late = refl
none_heard Heard.Full = refl

module _ (quiet : Bool) (c : Command) (p : Peer) (pasts : Pasts) (sound : SoundAll p.ends) (q : Pair) where
  abbrev asked_it : Bool
  asked_it = is_mine q (demux_command c p.ends) (is_request_of c)

  command_at : (o : Option Pair) → demux_command c p.ends ≡ o → (w : Option EndpointEvent) → comes c p.ends ≡ w
      → EndLives q (get p.ends q) (get (map_after_at p.ends o (hear c p.ends)) q) (past_of pasts q) (past_of (pasts_after_at o w p.ends pasts) q) [] [] [] (is_mine q o (is_request_of c))
  command_at None e w f = lives_stay q (get p.ends q) (past_of pasts q) false
  command_at (Some pair) e None f = absurd (came_with c p.ends pair e f)
  command_at (Some pair) e (Some what) f =
      lives_as q (get p.ends q) after after (past_of pasts q) then_past then_past (mine q (Some pair) (text_given what did_it.outcome)) [] (mine q (Some pair) (text_come what did_it.outcome)) [] (mine q (Some pair) (text_gone did_it.outcome)) []
      (is_mine q (Some pair) (is_request what)) (is_mine q (Some pair) (is_request_of c)) refl refl (none_mine q (Some pair) (text_given what did_it.outcome) (by.given did_it.outcome))
      (none_mine q (Some pair) (text_come what did_it.outcome) (by.come did_it.outcome))
      (none_mine q (Some pair) (text_gone did_it.outcome) (ap (λ (h : Transition). text_gone h.outcome) is.1 ∙ none_heard (answer (hear c p.ends)))) (ap (is_mine q (Some pair)) by.asked)
      (lives_at p.ends (map_after p.ends pair (hear c p.ends)) pair what (act-changes p.ends pair what (hear c p.ends) (ap (λ (h : Transition). h.after) is.1)) (suits-led pair what (get p.ends pair) is.0) sound pasts q)
    where
      is : (leads pair what (get p.ends pair) ≡ true) × (happens pair what (get p.ends pair) ≡ happened (get p.ends pair) (hear c p.ends) made_by_hearing of_hearing)
      is = command-led p.ends c pair what e f

      by : ByCommand c what
      by = by_command c p.ends what f

      did_it : Transition
      did_it = happens pair what (get p.ends pair)

      after : Option Endpoint
      after = get (map_after p.ends pair (hear c p.ends)) q

      then_past : PairHistory
      then_past = past_of (pasts_after pair what p.ends pasts) q

  other_lives : PeerLives q p (if up p.phase then hears_other quiet c p else p) pasts (if up p.phase then pasts_after_at (demux_command c p.ends) (comes c p.ends) p.ends pasts else pasts) [] [] [] asked_it
  other_lives = go (up p.phase)
    where
      go : (b : Bool) → PeerLives q p (if b then hears_other quiet c p else p) pasts (if b then pasts_after_at (demux_command c p.ends) (comes c p.ends) p.ends pasts else pasts) [] [] [] asked_it
      go true =
          lives_kept q (up (hears_other quiet c p).phase) (get p.ends q) (map_after_at p.ends (demux_command c p.ends) (hear c p.ends)) (past_of pasts q) (past_of (pasts_after_at (demux_command c p.ends) (comes c p.ends) p.ends pasts) q) [] [] [] asked_it
          (command_at (demux_command c p.ends) refl (comes c p.ends) refl)
      go false = peer_stays q p pasts asked_it

pub command_lives : (quiet : Bool) (c : Command) (p : Peer) (pasts : Pasts) → SoundAll p.ends → (q : Pair) → PeerLives q p (hears quiet c p) pasts (of_command c p pasts) [] [] [] (is_mine q (demux_command c p.ends) (is_request_of c))
command_lives quiet Command.Rst p pasts sound q = peer_cleared q p (hears quiet Command.Rst p) pasts refl
command_lives quiet Command.Rrp p pasts sound q = peer_stays q p pasts false
command_lives quiet c p pasts sound q = other_lives quiet c p pasts sound q

-- an RST leaves no end
pub rst_clears : (quiet : Bool) (p : Peer) (q : Pair) → get (hears quiet Command.Rst p).ends q ≡ None
rst_clears quiet p q = get-empty pair_cmp q

-- the CLS of the other ends what was left
cls_ends : (q : Pair) (e : Endpoint) → is_proper q ≡ true → SoundAt q (Some e) → e.left ≡ true → end_after (Some e) (hear_cls q (Some e)) ≡ None
cls_ends q e proper s l = grind arith

pub cls_over : (quiet : Bool) (my your : ℕ) (p : Peer) (e : Endpoint) → up p.phase ≡ true → is_proper (record { local = your; remote = my }) ≡ true → SoundAt (record { local = your; remote = my }) (Some e)
    → get p.ends (record { local = your; remote = my }) ≡ Some e → e.left ≡ true → get (hears quiet (Command.Cls my your) p).ends (record { local = your; remote = my }) ≡ None
cls_over quiet my your p e u proper s there l =
    ap (λ (b : Bool). get (if b then hears_other quiet c p else p).ends q) u ∙ kept (up (hears_other quiet c p).phase)
  where
    c : Command
    c = Command.Cls my your

    q : Pair
    q = record { local = your; remote = my }

    at_it : get (map_after p.ends q (hear_cls q (get p.ends q))) q ≡ None
    at_it = after-at p.ends q (hear_cls q (get p.ends q)) ∙ ap (λ (o : Option Endpoint). end_after o (hear_cls q o)) there ∙ cls_ends q e proper s l

    kept : (b : Bool) → get (if b then map_after p.ends q (hear_cls q (get p.ends q)) else no_ends) q ≡ None
    kept true = at_it
    kept false = get-empty pair_cmp q

pub fault_lives : (fault : CommandFault) (p : Peer) (pasts : Pasts) (q : Pair) → PeerLives q p (hears_fault fault p) pasts pasts [] [] [] false
fault_lives fault p pasts q = go (up p.phase)
  where
    go : (b : Bool) → PeerLives q p (if b then makes (Command.Err fault.code fault.bytes ∷ []) p else p) pasts pasts [] [] [] false
    go true = lives_kept q (up (makes (Command.Err fault.code fault.bytes ∷ []) p).phase) (get p.ends q) p.ends (past_of pasts q) (past_of pasts q) [] [] [] false (peer_stays q p pasts false)
    go false = peer_stays q p pasts false

-- ---- a text comes

-- what is got
abbrev pub text_took : Took → List Bool → List Bool
text_took Took.Admitted text = text
text_took it text = []

took_come : (head : List Bool) (of_size : ℕ) (text : List Bool) (t : Took) → text_come (EndpointEvent.Text_comes head of_size text) (outcome_of_text t) ≡ text_took t text
took_come head of_size text Took.Admitted = refl
took_come head of_size text Took.Late = refl
took_come head of_size text Took.WrongSize = refl
took_come head of_size text Took.Over = refl
took_come head of_size text Took.NotOpen = refl

took_gone : (t : Took) → text_gone (outcome_of_text t) ≡ []
took_gone Took.Admitted = refl
took_gone Took.Late = refl
took_gone Took.WrongSize = refl
took_gone Took.Over = refl
took_gone Took.NotOpen = refl

module _ (on : ℕ) (head : List Bool) (of_size : ℕ) (text : List Bool) (p : Peer) (pasts : Pasts) (sound : SoundAll p.ends) (q : Pair) where
  abbrev the_text : EndpointEvent
  the_text = EndpointEvent.Text_comes head of_size text

  abbrev took_it : Took
  took_it = answer (text_in on of_size text p.ends)

  text_lives_at : (o : Option Pair) → pair_of (receiver_on on p.ends) ≡ o
      → EndLives q (get p.ends q) (get (map_after_at p.ends o (text_in on of_size text p.ends)) q) (past_of pasts q) (past_of (pasts_after_at o (Some the_text) p.ends pasts) q) [] (mine q o (text_took took_it text)) [] false
  text_lives_at None e = lives_stay q (get p.ends q) (past_of pasts q) false
  text_lives_at (Some pair) e =
      lives_as q (get p.ends q) after after (past_of pasts q) then_past then_past (mine q (Some pair) []) [] (mine q (Some pair) (text_come the_text did_it.outcome)) (mine q (Some pair) (text_took took_it text)) (mine q (Some pair) (text_gone did_it.outcome)) []
      (is_mine q (Some pair) false) false refl refl (none_mine q (Some pair) [] refl) (ap (λ (h : Transition). mine q (Some pair) (text_come the_text h.outcome)) is ∙ ap (mine q (Some pair)) (took_come head of_size text took_it))
      (none_mine q (Some pair) (text_gone did_it.outcome) (ap (λ (h : Transition). text_gone h.outcome) is ∙ took_gone took_it)) (no_ask (same q pair))
      (lives_at p.ends (map_after p.ends pair (text_in on of_size text p.ends)) pair the_text (act-changes p.ends pair the_text (text_in on of_size text p.ends) (ap (λ (h : Transition). h.after) is)) (user-receives on pair (get p.ends pair) found.1) sound
      pasts q)
    where
      found : (get p.ends pair ≡ end_of (receiver_on on p.ends)) × (passes (uses_link on) pair (get p.ends pair) ≡ true)
      found = led (uses_link on) p.ends pair e

      is : happens pair the_text (get p.ends pair) ≡ happened (get p.ends pair) (text_in on of_size text p.ends) (made_by_text head text) outcome_of_text
      is = ap (λ (o : Option Endpoint). happened (get p.ends pair) (hear_text of_size text o) (made_by_text head text) outcome_of_text) found.0

      did_it : Transition
      did_it = happens pair the_text (get p.ends pair)

      after : Option Endpoint
      after = get (map_after p.ends pair (text_in on of_size text p.ends)) q

      then_past : PairHistory
      then_past = past_of (pasts_after pair the_text p.ends pasts) q

      no_ask : (b : Bool) → (b && false) ≡ false
      no_ask true = refl
      no_ask false = refl

  pub text_lives : PeerLives q p (hears_text on head of_size text p) pasts (if up p.phase then pasts_after_at (pair_of (receiver_on on p.ends)) (Some the_text) p.ends pasts else pasts) []
      (if up p.phase then mine q (pair_of (receiver_on on p.ends)) (text_took took_it text) else []) [] false
  text_lives = go (up p.phase)
    where
      go : (b : Bool) → PeerLives q p (if b then takes_text on head of_size text p else p) pasts (if b then pasts_after_at (pair_of (receiver_on on p.ends)) (Some the_text) p.ends pasts else pasts) []
          (if b then mine q (pair_of (receiver_on on p.ends)) (text_took took_it text) else []) [] false
      go true =
          lives_kept q (up (takes_text on head of_size text p).phase) (get p.ends q) (map_after_at p.ends (pair_of (receiver_on on p.ends)) (text_in on of_size text p.ends)) (past_of pasts q)
          (past_of (pasts_after_at (pair_of (receiver_on on p.ends)) (Some the_text) p.ends pasts) q) [] (mine q (pair_of (receiver_on on p.ends)) (text_took took_it text)) [] false (text_lives_at (pair_of (receiver_on on p.ends)) refl)
      go false = peer_stays q p pasts false

-- ---- a text is sent, and is answered

abbrev pub text_cut : Option (ℕ × List Bool) → List Bool
text_cut None = []
text_cut (Some text) = text.1

cut_gone : (o : Option (ℕ × List Bool)) → text_gone (of_cut o) ≡ text_cut o
cut_gone None = refl
cut_gone (Some text) = refl

module _ (on : ℕ) (p : Peer) (pasts : Pasts) (sound : SoundAll p.ends) (q : Pair) where
  none_asks : (b : Bool) → (b && false) ≡ false
  none_asks true = refl
  none_asks false = refl

  cut_lives_at : (o : Option Pair) → pair_of (sender_on on p.ends) ≡ o
      → EndLives q (get p.ends q) (get (map_after_at p.ends o (cut_in on p.ends)) q) (past_of pasts q) (past_of pasts q) [] [] (mine q o (text_cut (answer (cut_in on p.ends)))) false
  cut_lives_at None e = lives_stay q (get p.ends q) (past_of pasts q) false
  cut_lives_at (Some pair) e =
      lives_unwatched q (get p.ends q) after (past_of pasts q) then_past (mine q (Some pair) (text_cut (answer (cut_in on p.ends))))
      (lives_as q (get p.ends q) after after (past_of pasts q) then_past then_past (mine q (Some pair) []) [] (mine q (Some pair) []) [] (mine q (Some pair) (text_gone did_it.outcome)) (mine q (Some pair) (text_cut (answer (cut_in on p.ends))))
      (is_mine q (Some pair) false) false refl refl (none_mine q (Some pair) [] refl) (none_mine q (Some pair) [] refl) (ap (λ (h : Transition). mine q (Some pair) (text_gone h.outcome)) is.1 ∙ ap (mine q (Some pair)) (cut_gone (answer (cut_in on p.ends))))
      (none_asks (same q pair))
      (lives_at p.ends (map_after p.ends pair (cut_in on p.ends)) pair EndpointEvent.Text_goes_out (act-changes p.ends pair EndpointEvent.Text_goes_out (cut_in on p.ends) (ap (λ (h : Transition). h.after) is.1))
      (suits-led pair EndpointEvent.Text_goes_out (get p.ends pair) is.0) sound pasts q))
    where
      is : (leads pair EndpointEvent.Text_goes_out (get p.ends pair) ≡ true) × (happens pair EndpointEvent.Text_goes_out (get p.ends pair) ≡ happened (get p.ends pair) (cut_in on p.ends) (λ _. []) of_cut)
      is = cut-led p.ends on pair e

      did_it : Transition
      did_it = happens pair EndpointEvent.Text_goes_out (get p.ends pair)

      after : Option Endpoint
      after = get (map_after p.ends pair (cut_in on p.ends)) q

      then_past : PairHistory
      then_past = past_of (pasts_after pair EndpointEvent.Text_goes_out p.ends pasts) q

  pub cut_lives : PeerLives q p (cuts on p) pasts pasts [] [] (mine q (pair_of (sender_on on p.ends)) (text_cut (answer (cut_in on p.ends)))) false
  cut_lives = cut_lives_at (pair_of (sender_on on p.ends)) refl

  answered_lives_at : (o : Option Pair) → pair_of (sender_on on p.ends) ≡ o → EndLives q (get p.ends q) (get (map_after_at p.ends o (answered_in on Rfnm p.ends)) q) (past_of pasts q) (past_of pasts q) [] [] [] false
  answered_lives_at None e = lives_stay q (get p.ends q) (past_of pasts q) false
  answered_lives_at (Some pair) e =
      lives_unwatched q (get p.ends q) after (past_of pasts q) then_past []
      (lives_as q (get p.ends q) after after (past_of pasts q) then_past then_past (mine q (Some pair) []) [] (mine q (Some pair) []) [] (mine q (Some pair) (text_gone did_it.outcome)) [] (is_mine q (Some pair) false) false refl refl
      (none_mine q (Some pair) [] refl) (none_mine q (Some pair) [] refl) (none_mine q (Some pair) (text_gone did_it.outcome) (ap (λ (h : Transition). text_gone h.outcome) is.1)) (none_asks (same q pair))
      (lives_at p.ends (map_after p.ends pair (answered_in on Rfnm p.ends)) pair (EndpointEvent.Is_answered Rfnm) (act-changes p.ends pair (EndpointEvent.Is_answered Rfnm) (answered_in on Rfnm p.ends) (ap (λ (h : Transition). h.after) is.1))
      (suits-led pair (EndpointEvent.Is_answered Rfnm) (get p.ends pair) is.0) sound pasts q))
    where
      is : (leads pair (EndpointEvent.Is_answered Rfnm) (get p.ends pair) ≡ true) × (happens pair (EndpointEvent.Is_answered Rfnm) (get p.ends pair) ≡ happened (get p.ends pair) (answered_in on Rfnm p.ends) made_if_any (λ _. Outcome.Accepted))
      is = answered-led p.ends on Rfnm pair e

      did_it : Transition
      did_it = happens pair (EndpointEvent.Is_answered Rfnm) (get p.ends pair)

      after : Option Endpoint
      after = get (map_after p.ends pair (answered_in on Rfnm p.ends)) q

      then_past : PairHistory
      then_past = past_of (pasts_after pair (EndpointEvent.Is_answered Rfnm) p.ends pasts) q

  pub answered_lives : PeerLives q p (frees on p) pasts pasts [] [] [] false
  answered_lives = go (up p.phase)
    where
      go : (b : Bool) → PeerLives q p (if b then frees_up on p else p) pasts pasts [] [] [] false
      go true =
          lives_kept q (up (frees_up on p).phase) (get p.ends q) (map_after_at p.ends (pair_of (sender_on on p.ends)) (answered_in on Rfnm p.ends)) (past_of pasts q) (past_of pasts q) [] [] [] false
          (answered_lives_at (pair_of (sender_on on p.ends)) refl)
      go false = peer_stays q p pasts false
