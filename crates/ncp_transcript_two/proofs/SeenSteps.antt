-- What a note says happens to the hosts and the subnet is what the rules say happens to what is seen of them.
-- Each is shown of side A; side B is side A with the hosts turned.
use Rattle.std.proofs.Common.{◌≡◌, ◌≢◌, ◌<◌, ℕ, ◌==◌, ◌^◌, Bool, true, false, if◌then◌else◌, [], ◌∷◌, Option, None, Some, Ok, refl, sym, ap, ◌∙◌, subst}
use Rattle.std.proofs.lemmas.Bool.{both_ways, eq-eqb, eqb-true}
use Rattle.ncp_model.specs.Peers.{Take}
use Rattle.ncp_peer.specs.PeerState.{PeerState}
use Rattle.ncp_host.specs.Host.{Host, numbers_of, state_of, changed}
use Rattle.ncp_subnet.specs.Ways.{OnLink}
use Rattle.ncp_subnet.specs.Subnet.{has_way, transit_at, with_transit}
use Rattle.ncp_subnet.proofs.Places.{transit_at-same, transit_at-others}
use Rattle.ncp_transcript.specs.declared.call.Call.{Call}
use Rattle.ncp_transcript.specs.declared.note.HostNote.{HostNote}
use Rattle.ncp_transcript.specs.Noting.{CallNoted}
use Rattle.ncp_transcript.proofs.AskedCalls.{CallOutcome, Was_done, Was_taken, Was_refused, Was_read, outcome-noted, reads-stays}
use Rattle.ncp_transcript_two.specs.Subnet.{set_at}
use Rattle.ncp_transcript.specs.Asked.{Asked, Asks, Reply, Replied, Took, state_after_asked, host_after_asked, reply_to}
use Rattle.ncp_transcript_two.specs.World.{World, NoteBody, Called, Call_is_made, moves}
use Rattle.ncp_transcript_two.specs.World as worlds
use Rattle.ncp_transcript_two.specs.Tie.{IsAsked, IsMove}
use Rattle.ncp_transcript_two.specs.declared.side.Side.TheVariants.{A}
use Rattle.ncp_transcript_two.specs.Between.{Hosts, host_notes_it}
use Rattle.ncp_transcript_two.specs.Seen.{state_or_new, had_for, seen, done, call_body, NoteFits}
use Rattle.ncp_transcript_two.proofs.Fitting.{reads-untold}
use Rattle.ncp_transcript_two.proofs.OnePeer.{only-peer, had-changed}

-- the hosts are each other's only peers, and messages go between them
pub record Stand (w : Hosts) : Type 0 where
  pub differ : w.number_a ≢ w.number_b
  pub fits_a : w.number_a < 2 ^ 8
  pub fits_b : w.number_b < 2 ^ 8
  pub a : numbers_of w.a.peers ≡ w.number_b ∷ []
  pub b : numbers_of w.b.peers ≡ w.number_a ∷ []
  pub to_b : has_way w.subnet w.number_a w.number_b ≡ true
  pub to_a : has_way w.subnet w.number_b w.number_a ≡ true

-- what was told happens by the rules, on this side; where nothing was told nothing changes
abbrev pub Does : Option NoteBody → World → World → Type 0
Does None v x = x ≡ v
Does (Some told) v x = (st : worlds.WorldStep) × IsMove st × (moves st v ≡ (x, told))

-- The subnet, seen by its links.

seen_going : (w : Hosts) (link : ℕ) (t : OnLink) (on : ℕ) → transit_at (with_transit w.subnet w.number_a w.number_b link t) w.number_a w.number_b on ≡ set_at link t (seen w).going on
seen_going w link t on = go (on == link) refl
  where
    go : (b : Bool) → (on == link) ≡ b → transit_at (with_transit w.subnet w.number_a w.number_b link t) w.number_a w.number_b on ≡ (if b then t else transit_at w.subnet w.number_a w.number_b on)
    go true e = ap (λ (k : ℕ). transit_at (with_transit w.subnet w.number_a w.number_b link t) w.number_a w.number_b k) (eqb-true on link e) ∙ transit_at-same w.subnet w.number_a w.number_b link t
    go false e = transit_at-others w.subnet w.number_a w.number_b link t w.number_a w.number_b on (λ is. both_ways (on == link) e (eq-eqb on link is.2))

seen_coming : (w : Hosts) → w.number_a ≢ w.number_b → (link : ℕ) (t : OnLink) (on : ℕ) → transit_at (with_transit w.subnet w.number_a w.number_b link t) w.number_b w.number_a on ≡ (seen w).coming on
seen_coming w differ link t on = transit_at-others w.subnet w.number_a w.number_b link t w.number_b w.number_a on (λ is. differ (sym is.0))

-- something comes to be in transit on a link of side A, and side A and side B come to have this
pub seen_with : (w : Hosts) → w.number_a ≢ w.number_b → (link : ℕ) (t : OnLink) (a b : Host) (this that : PeerState) → had_for w.number_b a ≡ this → had_for w.number_a b ≡ that
    → seen (record w { a = a; b = b; subnet = with_transit w.subnet w.number_a w.number_b link t }) ≡ record (seen w) { this = this; that = that; going = set_at link t (seen w).going }
seen_with w differ link t a b this that p q = λ i. record {
  here = w.number_a;
  there = w.number_b;
  this = p i;
  that = q i;
  going = λ on. seen_going w link t on i;
  coming = λ on. seen_coming w differ link t on i;
}

-- A call.

module _ (w : Hosts) (k : Stand w) where
  the_state : (peer : ℕ) (s : PeerState) → state_of w.a peer ≡ Some s → had_for w.number_b w.a ≡ s
  the_state peer s e = ap (λ (n : ℕ). state_or_new (state_of w.a n)) (sym (only-peer w.number_b peer s w.a.peers k.a e)) ∙ ap state_or_new e

  had_after : (peer : ℕ) (s : PeerState) (f : PeerState → PeerState) → state_of w.a peer ≡ Some s → had_for w.number_b (changed peer f w.a) ≡ f (had_for w.number_b w.a)
  had_after peer s f e = ap (λ (n : ℕ). had_for w.number_b (changed n f w.a)) (only-peer w.number_b peer s w.a.peers k.a e) ∙ had-changed w.number_b f w.a k.a

  -- what is asked is done by the rules
  asked-does : (asked : Asked) (reply : Reply) (peer : ℕ) (s : PeerState) → state_of w.a peer ≡ Some s → reply_to asked s ≡ reply → IsAsked asked → Does (Some (Called asked reply)) (seen w) (seen (record w { a = changed peer (state_after_asked asked) w.a }))
  asked-does asked reply peer s at says fits =
      let p : state_after_asked asked (had_for w.number_b w.a) ≡ had_for w.number_b (changed peer (state_after_asked asked) w.a) = sym (had_after peer s (state_after_asked asked) at) in
      let q : reply_to asked (had_for w.number_b w.a) ≡ reply = ap (reply_to asked) (the_state peer s at) ∙ says in
      (Call_is_made asked, fits, λ i. (record (seen w) { this = p i }, Called asked (q i)))

  pub call-does : (call : Call) (note : HostNote) → CallNoted call note w.a → NoteFits (call_body note) → Does (call_body note) (seen w) (seen (host_notes_it A note w))
  call-does call note noted fits = go note (outcome-noted call note w.a noted) fits
    where
      go : (n : HostNote) → CallOutcome call w.a n → NoteFits (call_body n) → Does (call_body n) (seen w) (seen (host_notes_it A n w))
      go n (Was_done peer asked s at says by) fits =
          subst (λ (o : Option (ℕ × Asked)). NoteFits (done o) → Does (done o) (seen w) (seen (record w { a = host_after_asked o w.a }))) (sym by) (asked-does asked (Replied (Ok tt)) peer s at says) fits
      go n (Was_taken peer pair bytes text s at says is) fits = asked-does (Asks pair (Take bytes)) (Took (Ok text)) peer s at says fits
      go n (Was_refused fault why) fits = refl
      go n (Was_read read by) fits =
          subst (λ (o : Option NoteBody). Does o (seen w) (seen (host_notes_it A read w))) (sym (reads-untold read call by)) (ap (λ (h : Host). seen (record w { a = h })) (reads-stays read call w.a by))
