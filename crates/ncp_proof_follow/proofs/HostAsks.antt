-- If an end becomes live by a call, the other host had asked for it, and the call is the local request.
-- Sending a message closes no end.
use Rattle.std.proofs.Common.{◌≡◌, ◌⊎◌, inl, inr, ℕ, ◌==◌, Bool, true, false, ◌&&◌, if◌then◌else◌, List, [], Option, None, Some, refl, sym, ap, ◌∙◌, subst, arith}
use Rattle.std.specs.FinMap.{get, get-empty}
use Rattle.std.proofs.lemmas.Bool.{and_parts}
use Rattle.ncp_slot.specs.declared.slot.Slot.TheVariants.{Empty, Ready, Travelling, Held}
use Rattle.ncp_slot.specs.Slots.{LinkSlot, slot_at}
use Rattle.ncp_model.specs.declared.pair.Pair.{Pair}
use Rattle.ncp_model.specs.Pairs.{same, pair_cmp}
use Rattle.ncp_model.specs.Endpoint.{Endpoint, or_new, is_live, is_closing}
use Rattle.ncp_model.specs.Effect.{end_after}
use Rattle.ncp_model.specs.Calls.{ask_send, ask_receive}
use Rattle.ncp_model.specs.Ends.{Ends, count, has_asked, free_link, sender_on, pair_of, cut_in, map_after, map_after_at, no_ends, put}
use Rattle.ncp_model.specs.EndpointEvents.{EndpointEvent, Transition, happens, happened, of_cut}
use Rattle.ncp_model.specs.Demux.{leads}
use Rattle.ncp_model.specs.Phase.{up, makes_all}
use Rattle.ncp_model.specs.Sending.{is_full}
use Rattle.ncp_model.specs.Peers.{PairCall, Ask_to_send, Ask_to_receive, Close, Give, Take, Allocate, Call_back, Interrupt, called, happened_at, calls_up, peer_sends, cuts}
use Rattle.ncp_model.proofs.LinksDemux.{cut-led}
use Rattle.ncp_proof_endpoint.specs.Sound.{SoundAt}
use Rattle.ncp_proof_machine.specs.Hosts.{Pasts}
use Rattle.ncp_proof_machine.proofs.EndsGood.{Changes, same_or, put-changes, act-changes}
use Rattle.ncp_peer.specs.PeerState.{PeerState, control_link}
use Rattle.ncp_peer.specs.Output.{after_by, after_output}
use Rattle.ncp_transcript.specs.Asked.{Asked, Asks, Asks_echo, Asks_reset, Asks_wake, state_after_asked}
use Rattle.ncp_proof_follow.proofs.PeerLives.{SoundAll, same_pair, is_ask}
use Rattle.ncp_proof_follow.proofs.HostLives.{asked_lives, asks_for}

pub live_heard : (q : Pair) (e : Endpoint) → SoundAt q (Some e) → e.opened ≡ true → e.heard ≡ true
live_heard q e s o = s.heard o

-- ---- at an end

-- the other had asked
abbrev pub IsHeard : Option Endpoint → Type 0
IsHeard o = (e : Endpoint) × ((o ≡ Some e) × (e.heard ≡ true) × (e.asked ≡ false))

send_begins : (pair : Pair) (of_size with_room own : ℕ) (full : Bool) (e : Endpoint) → e.opened ≡ false → is_live (end_after (Some e) (ask_send pair of_size with_room own full (Some e))) ≡ true → (e.heard ≡ true) × (e.asked ≡ false)
send_begins pair of_size with_room own full e o l = go e.asked e.heard refl refl
  where
    go : (a h : Bool) → e.asked ≡ a → e.heard ≡ h → (e.heard ≡ true) × (e.asked ≡ false)
    go false true i j = (j, i)
    go true true i j = absurd (grind arith)
    go true false i j = absurd (grind arith)
    go false false i j = absurd (grind arith)

receive_begins : (pair : Pair) (with_room on own : ℕ) (full : Bool) (e : Endpoint) → e.opened ≡ false → is_live (end_after (Some e) (ask_receive pair with_room on own full (Some e))) ≡ true → (e.heard ≡ true) × (e.asked ≡ false)
receive_begins pair with_room on own full e o l = go e.asked e.heard refl refl
  where
    go : (a h : Bool) → e.asked ≡ a → e.heard ≡ h → (e.heard ≡ true) × (e.asked ≡ false)
    go false true i j = (j, i)
    go true true i j = absurd (grind arith)
    go true false i j = absurd (grind arith)
    go false false i j = absurd (grind arith)

none_sends : (pair : Pair) (of_size with_room own : ℕ) (full : Bool) → is_live (end_after None (ask_send pair of_size with_room own full None)) ≡ true → ⊥
none_sends pair of_size with_room own full l = grind arith

none_receives : (pair : Pair) (with_room on own : ℕ) (full : Bool) → is_live (end_after None (ask_receive pair with_room on own full None)) ≡ true → ⊥
none_receives pair with_room on own full l = grind arith

-- by an own request alone
call_begins : (pair : Pair) (call : PairCall) (full : Bool) (m : Ends) (before : Option Endpoint) → is_ask call ≡ true → is_live before ≡ false → is_live (happens pair (called call full m) before).after ≡ true → IsHeard before
call_begins pair (Ask_to_send of_size with_room) full m None a o l = absurd (none_sends pair of_size with_room (count has_asked m) full l)
call_begins pair (Ask_to_send of_size with_room) full m (Some e) a o l = let k = send_begins pair of_size with_room (count has_asked m) full e o l in (e, (refl, k.0, k.1))
call_begins pair (Ask_to_receive with_room) full m None a o l = absurd (none_receives pair with_room (free_link m) (count has_asked m) full l)
call_begins pair (Ask_to_receive with_room) full m (Some e) a o l = let k = receive_begins pair with_room (free_link m) (count has_asked m) full e o l in (e, (refl, k.0, k.1))
call_begins pair Close full m before a o l = absurd (cc a)
call_begins pair (Give text) full m before a o l = absurd (cc a)
call_begins pair (Take bytes) full m before a o l = absurd (cc a)
call_begins pair (Allocate of_messages of_bits) full m before a o l = absurd (cc a)
call_begins pair (Call_back of_messages of_bits) full m before a o l = absurd (cc a)
call_begins pair Interrupt full m before a o l = absurd (cc a)

-- ---- at a host

module _ (s : PeerState) (sound : SoundAll s.peer.ends) (q : Pair) where
  -- so the host is up
  pub begins_up : (pasts : Pasts) (asked : Asked) → is_live (get s.peer.ends q) ≡ false → is_live (get (state_after_asked asked s).peer.ends q) ≡ true → up s.peer.phase ≡ true
  begins_up pasts asked o l = by asked ((asked_lives s pasts sound q asked).begins o l)
    where
      by : (asked : Asked) → asks_for q asked s ≡ true → up s.peer.phase ≡ true
      by (Asks pair call) e = (and_parts (up s.peer.phase) (same q pair && is_ask call) e).0
      by (Asks_echo byte) e = absurd (cc e)
      by Asks_reset e = absurd (cc e)
      by Asks_wake e = absurd (cc e)

  pub asked_begins : (pasts : Pasts) (asked : Asked) → is_live (get s.peer.ends q) ≡ false → is_live (get (state_after_asked asked s).peer.ends q) ≡ true → IsHeard (get s.peer.ends q)
  asked_begins pasts asked o l = by asked ((asked_lives s pasts sound q asked).begins o l) l
    where
      by : (asked : Asked) → asks_for q asked s ≡ true → is_live (get (state_after_asked asked s).peer.ends q) ≡ true → IsHeard (get s.peer.ends q)
      by (Asks_echo byte) e l = absurd (cc e)
      by Asks_reset e l = absurd (cc e)
      by Asks_wake e l = absurd (cc e)
      by (Asks pair call) e l = subst (λ (x : Pair). IsHeard (get s.peer.ends x)) (sym it) (call_begins pair call (is_full s.peer.phase) s.peer.ends (get s.peer.ends pair) both.1 none then_live)
        where
          ups : (up s.peer.phase ≡ true) × ((same q pair && is_ask call) ≡ true)
          ups = and_parts (up s.peer.phase) (same q pair && is_ask call) e

          both : (same q pair ≡ true) × (is_ask call ≡ true)
          both = and_parts (same q pair) (is_ask call) ups.1

          it : q ≡ pair
          it = same_pair q pair both.0

          did : Transition
          did = happened_at pair call s.peer

          none : is_live (get s.peer.ends pair) ≡ false
          none = ap (λ (x : Pair). is_live (get s.peer.ends x)) (sym it) ∙ o

          kept : (b : Bool) → is_live (get (if b then put s.peer.ends pair did.after else no_ends) pair) ≡ true → is_live did.after ≡ true
          kept true k = ap is_live (sym (put-changes s.peer.ends pair (called call (is_full s.peer.phase) s.peer.ends)).there) ∙ k
          kept false k = let nay : false ≡ true = sym (ap is_live (get-empty pair_cmp pair)) ∙ k in absurd (cc nay)

          at_pair : is_live (get (calls_up pair call s.peer).ends pair) ≡ true
          at_pair = sym (ap (λ (b : Bool). is_live (get (if b then calls_up pair call s.peer else s.peer).ends pair)) ups.0) ∙ ap (λ (x : Pair). is_live (get (state_after_asked (Asks pair call) s).peer.ends x)) (sym it) ∙ l

          then_live : is_live did.after ≡ true
          then_live = kept (up (makes_all did.made s.peer.phase)) at_pair

-- ---- sent messages

cut_steady : (q : Pair) (o : Option Endpoint) → SoundAt q o → is_closing (or_new (happens q EndpointEvent.Text_goes_out o).after) ≡ is_closing (or_new o)
cut_steady q None s = refl
cut_steady q (Some e) s = grind arith

module _ (s : PeerState) (sound : SoundAll s.peer.ends) (q : Pair) where
  abbrev IsSteady : Ends → Type 0
  IsSteady now = is_closing (or_new (get now q)) ≡ is_closing (or_new (get s.peer.ends q))

  cut_at_steady : (on : ℕ) (o : Option Pair) → pair_of (sender_on on s.peer.ends) ≡ o → IsSteady (map_after_at s.peer.ends o (cut_in on s.peer.ends))
  cut_at_steady on None e = refl
  cut_at_steady on (Some pair) e = go (same_or q pair)
    where
      is : (leads pair EndpointEvent.Text_goes_out (get s.peer.ends pair) ≡ true) × (happens pair EndpointEvent.Text_goes_out (get s.peer.ends pair) ≡ happened (get s.peer.ends pair) (cut_in on s.peer.ends) (λ _. []) of_cut)
      is = cut-led s.peer.ends on pair e

      changes : Changes s.peer.ends (map_after s.peer.ends pair (cut_in on s.peer.ends)) pair EndpointEvent.Text_goes_out
      changes = act-changes s.peer.ends pair EndpointEvent.Text_goes_out (cut_in on s.peer.ends) (ap (λ (h : Transition). h.after) is.1)

      go : ((q ≡ pair) ⊎ ((q ≡ pair) → ⊥)) → IsSteady (map_after s.peer.ends pair (cut_in on s.peer.ends))
      go (inl i) =
          ap (λ (x : Pair). is_closing (or_new (get (map_after s.peer.ends pair (cut_in on s.peer.ends)) x))) i ∙ ap (λ (x : Option Endpoint). is_closing (or_new x)) changes.there
          ∙ cut_steady pair (get s.peer.ends pair) (sound pair) ∙ ap (λ (x : Pair). is_closing (or_new (get s.peer.ends x))) (sym i)
      go (inr d) = ap (λ (x : Option Endpoint). is_closing (or_new x)) (changes.elsewhere q d)

  out_by_steady : (slot : LinkSlot) (on : ℕ) → IsSteady (after_by slot on s.peer).ends
  out_by_steady Empty on = go (on == control_link)
    where
      go : (b : Bool) → IsSteady (if b then peer_sends s.peer else cuts on s.peer).ends
      go true = refl
      go false = cut_at_steady on (pair_of (sender_on on s.peer.ends)) refl
  out_by_steady (Ready message) on = refl
  out_by_steady (Travelling message) on = refl
  out_by_steady (Held message) on = refl

  pub out_steady : (on : ℕ) (message : List Bool) → is_closing (or_new (get (after_output on message s).peer.ends q)) ≡ is_closing (or_new (get s.peer.ends q))
  out_steady on message = out_by_steady (slot_at s.slots on) on
