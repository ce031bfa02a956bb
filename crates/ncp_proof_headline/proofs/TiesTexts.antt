-- Meant for other crates too: they cite what is public here.
--
-- A text is sent, received, and answered: the relation between the hosts and the machines is preserved.
use Rattle.std.proofs.Common.{◌≡◌, ◌⊎◌, inl, inr, ℕ, ◌==◌, Bool, true, false, ◌&&◌, cond, if◌then◌else◌, List, [], ◌++◌, Option, None, Some, refl, sym, ap, ◌∙◌, subst, arith}
use Rattle.std.specs.FinMap.{get, insert, get-insert}
use Rattle.std.specs.Ordering.{eq_by_cmp}
use Rattle.std.proofs.lemmas.Bool.{both_ways, eqb-true, eq-eqb}
use Rattle.std.proofs.lemmas.List.{append-nil}
use Rattle.std.proofs.lemmas.Map.Views.{tells_apart}
use Rattle.ncp_wire.specs.declared.command.Command.{Command}
use Rattle.ncp_model.specs.declared.pair.Pair.{Pair}
use Rattle.ncp_model.specs.Pairs.{pair_cmp, sends, receives, counterpart, same}
use Rattle.ncp_model.specs.Endpoint.{Endpoint, or_new}
use Rattle.ncp_model.specs.Effect.{answer, is_data_link, made_if_any}
use Rattle.ncp_model.specs.Texts.{hear_text, made_by_text, Rfnm}
use Rattle.ncp_model.specs.Ends.{Ends, hears_link, uses_link, sender_on, receiver_on, pair_of, text_in, cut_in, cut_at, answered_in, map_after_at}
use Rattle.ncp_model.specs.EndpointEvents.{EndpointEvent, Outcome, Transition, happens, happened, outcome_of_text, of_cut, is_violation}
use Rattle.ncp_model.specs.Demux.{passes}
use Rattle.ncp_proof_endpoint.specs.Limits.{InLimitsAt}
use Rattle.ncp_proof_endpoint.specs.Histories.{PairHistory, EndpointWithHistory, adds, opens, reopened}
use Rattle.ncp_proof_machine.specs.Delivery.{Slot, Empty, Ready, Travelling, Held, MessageTransit, Free, Accepted, Delivered, Lost, Dead, Link, idle}
use Rattle.ncp_proof_connection.specs.Connections.{Text, No_text, Away, Here, text_after_outcome, Text_goes_out, Text_comes, Text_is_answered}
use Rattle.ncp_proof_connection.specs.Sharing.{Tagged, Shared, set_at_pair, On, shared_occurs, hears_at, uses_at}
use Rattle.ncp_proof_connection.specs.Finding.{link_out, Only, SenderHoldsLink, ReceiverHoldsLink}
use Rattle.ncp_proof_machine.specs.Hosts.{TextOut, Node, past_of, or_no_past, pasts_after, pasts_after_at, set_link}
use Rattle.ncp_model.proofs.PairOrder.{pairs_exact, pairs_total}
use Rattle.ncp_proof_machine.proofs.EndsGood.{same_or, Changes, act-changes}
use Rattle.ncp_model.proofs.LinksDemux.{led, itself, cut-led, answered-led, hearer-sends}
use Rattle.ncp_model.proofs.Lookups.{leads-there}
use Rattle.ncp_proof_connection.proofs.Linking.{hears_parts, uses_parts}
use Rattle.ncp_proof_connection.proofs.Projecting.{same_refl, same_true}
use Rattle.ncp_proof_connection.proofs.Found.{sender_holds, receiver_holds}
use Rattle.ncp_proof_headline.proofs.Ties.{Reached, text_on, Carried, Owned, Owners, Texts, Way, Flow, Ties, further, reached-same}
use Rattle.ncp_proof_headline.proofs.TiesBase.{all-fit, all-linked, Sees, sender_did, receiver_did, sender-acts, receiver-acts, set_same}

-- from now on the link has this owner
abbrev pub owned_by : ℕ → Option Pair → Owners → Owners
owned_by on p own k = if k == on then p else own k

-- Functions of pairs.

set-own : {A : Type 0} → (p : Pair) (x : A) (f : Pair → A) → set_at_pair p x f p ≡ x
set-own p x f = rw (same_refl p) refl

set-other : {A : Type 0} → (p q : Pair) (x : A) (f : Pair → A) → ((q ≡ p) → ⊥) → set_at_pair p x f q ≡ f q
set-other p q x f d = go (same p q) refl
  where
    go : (b : Bool) → same p q ≡ b → (if b then x else f q) ≡ f q
    go true e = absurd (d (sym (same_true p q e)))
    go false e = refl

-- as it was
-- Texts and links.

-- a text that is carried is unacknowledged on the link
carried-out : (on : ℕ) (slot : Slot TextOut) (subnet : MessageTransit TextOut) → Carried slot subnet → link_out (text_on on slot subnet) ≡ Some on
carried-out on Empty subnet c = absurd c
carried-out on (Ready t) subnet c = refl
carried-out on (Held t) subnet c = refl
carried-out on (Travelling t) Free c = absurd c
carried-out on (Travelling t) (Accepted u) c = refl
carried-out on (Travelling t) Delivered c = refl
carried-out on (Travelling t) Lost c = refl
carried-out on (Travelling t) Dead c = refl

module _ (own : Owners) (links : ℕ → Link TextOut) (texts : Pair → Text) (x : Texts own links texts) where
  -- of a link that a pair owns
  owned-at : (on : ℕ) (p : Pair) → own on ≡ Some p → Owned on (Some p) (links on) texts
  owned-at on p e = subst (λ o. Owned on o (links on) texts) e (x.owned on)

  owned-out : (on : ℕ) (p : Pair) → own on ≡ Some p → link_out (texts p) ≡ Some on
  owned-out on p e = let k = owned-at on p e in ap link_out k.text ∙ carried-out on (links on).slot (links on).subnet k.carried

  -- nobody owns a link on which nothing is
  empty-free : (on : ℕ) (p : Pair) → (links on).slot ≡ Empty → own on ≡ Some p → ⊥
  empty-free on p e o = subst (λ s. Carried s (links on).subnet) e (owned-at on p o).carried

  -- a link that is not idle has an owner
  owner-of : (on : ℕ) → ((links on ≡ idle) → ⊥) → (p : Pair) × (own on ≡ Some p)
  owner-of on d = go (own on) refl
    where
      go : (o : Option Pair) → own on ≡ o → (p : Pair) × (own on ≡ Some p)
      go None e = absurd (d (subst (λ o. Owned on o (links on) texts) e (x.owned on)))
      go (Some p) e = (p, e)

  -- a text that comes is its owner's
  accepted-text : (on : ℕ) (p : Pair) (t : TextOut) → own on ≡ Some p → (links on).subnet ≡ Accepted t → texts p ≡ Away on t.of_size t.bits
  accepted-text on p t o s = go (links on).slot (links on).subnet s (owned-at on p o).carried (owned-at on p o).text
    where
      go : (slot : Slot TextOut) (subnet : MessageTransit TextOut) → subnet ≡ Accepted t → Carried slot subnet → texts p ≡ text_on on slot subnet → texts p ≡ Away on t.of_size t.bits
      go (Travelling u) (Accepted w) s c e = let k : w ≡ t = cc s in e ∙ ap (λ (y : TextOut). Away on y.of_size y.bits) k
      go Empty subnet s c e = absurd c
      go (Ready u) (Accepted w) s c e = absurd c
      go (Held u) (Accepted w) s c e = absurd c
      go slot Free s c e = absurd (cc s)
      go slot Delivered s c e = absurd (cc s)
      go slot Lost s c e = absurd (cc s)
      go slot Dead s c e = absurd (cc s)

  -- and one that came is here
  delivered-text : (on : ℕ) (p : Pair) (t : TextOut) → own on ≡ Some p → (links on).slot ≡ Travelling t → (links on).subnet ≡ Delivered → texts p ≡ Here on
  delivered-text on p t o f s = (owned-at on p o).text ∙ rw (f, s) refl

  -- another link is another pair's
  beside-owned : (on k : ℕ) (p : Pair) (t : Text) → ((k ≡ on) → ⊥) → link_out (texts p) ≡ Some on → (q : Pair) → own k ≡ Some q → set_at_pair p t texts q ≡ texts q
  beside-owned on k p t d e q o = set-other p q t texts (λ f. d (let h : Some k ≡ Some on = sym (owned-out k q o) ∙ ap (λ (y : Pair). link_out (texts y)) f ∙ e in cc h))

-- an owner whose text stays
still-owned : (on : ℕ) (o : Option Pair) (l : Link TextOut) (texts texts' : Pair → Text) → ((q : Pair) → o ≡ Some q → texts' q ≡ texts q) → Owned on o l texts → Owned on o l texts'
still-owned on None l texts texts' f k = k
still-owned on (Some q) l texts texts' f k = record { sending = k.sending; data_link = k.data_link; carried = k.carried; text = f q refl ∙ k.text }

not-equal : (k on : ℕ) → (k == on) ≡ false → (k ≡ on) → ⊥
not-equal k on f e = both_ways (k == on) f (eq-eqb k on e)

-- The owner, the text of one link and of one pair change.
module _ (own : Owners) (links : ℕ → Link TextOut) (texts : Pair → Text) (x : Texts own links texts) (on : ℕ) (p : Pair) (o : Option Pair) (l : Link TextOut) (t : Text) where
  moved : Owned on o l (set_at_pair p t texts)
      → ((k : ℕ) (q : Pair) → ((k ≡ on) → ⊥) → own k ≡ Some q → set_at_pair p t texts q ≡ texts q)
      → ((k : ℕ) → link_out t ≡ Some k → (k ≡ on) × (o ≡ Some p))
      → ((q : Pair) → ((q ≡ p) → ⊥) → own on ≡ Some q → ⊥)
      → Texts (owned_by on o own) (set_link on l links) (set_at_pair p t texts)
  moved here beside out others = record { owned = λ k. owned_at k (k == on) refl; out = λ q k e. out_at q k (same_or q p) e }
    where
      owned_at : (k : ℕ) (b : Bool) → (k == on) ≡ b → Owned k (if b then o else own k) (if b then l else links k) (set_at_pair p t texts)
      owned_at k true e = subst (λ (i : ℕ). Owned i o l (set_at_pair p t texts)) (sym (eqb-true k on e)) here
      owned_at k false e = still-owned k (own k) (links k) texts (set_at_pair p t texts) (λ q f. beside k q (not-equal k on e) f) (x.owned k)

      out_at : (q : Pair) (k : ℕ) → (q ≡ p) ⊎ ((q ≡ p) → ⊥) → link_out (set_at_pair p t texts q) ≡ Some k → owned_by on o own k ≡ Some q
      out_at q k (inl e) h =
          let r = out k (ap link_out (sym (set-own p t texts)) ∙ ap (λ (y : Pair). link_out (set_at_pair p t texts y)) (sym e) ∙ h) in
          rw (eq-eqb k on r.0) (r.1 ∙ ap (λ (y : Pair). Some y) (sym e))
      out_at q k (inr d) h = by_link (k == on) refl (x.out q k (ap link_out (sym (set-other p q t texts d)) ∙ h))
        where
          by_link : (b : Bool) → (k == on) ≡ b → own k ≡ Some q → (if b then o else own k) ≡ Some q
          by_link true e f = absurd (others q d (subst (λ (i : ℕ). own i ≡ Some q) (eqb-true k on e) f))
          by_link false e f = f

module _ (own : Owners) (links : ℕ → Link TextOut) (texts : Pair → Text) (x : Texts own links texts) (on : ℕ) (p : Pair) where
  -- a text is sent
  texts-start : (t : TextOut) → sends p ≡ true → is_data_link on ≡ true → texts p ≡ No_text → (links on).slot ≡ Empty
      → Texts (owned_by on (Some p) own) (set_link on (record { slot = Travelling t; subnet = Accepted t }) links) (set_at_pair p (Away on t.of_size t.bits) texts)
  texts-start t s d n e = moved own links texts x on p (Some p) (record { slot = Travelling t; subnet = Accepted t }) (Away on t.of_size t.bits)
      (record { sending = s; data_link = d; carried = refl; text = set-own p (Away on t.of_size t.bits) texts })
      (λ k q f o. set-other p q (Away on t.of_size t.bits) texts (λ g. absurd (cc (ap (λ (y : Pair). link_out (texts y)) g ∙ ap link_out n, owned-out own links texts x k q o))))
      (λ k f. (cc f, refl))
      (λ q d o. empty-free own links texts x on q e o)

  -- it comes
  texts-come : (t : TextOut) → own on ≡ Some p → (links on).subnet ≡ Accepted t
      → Texts (owned_by on (Some p) own) (set_link on (record (links on) { subnet = Delivered }) links) (set_at_pair p (Here on) texts)
  texts-come t o s = moved own links texts x on p (Some p) (record (links on) { subnet = Delivered }) (Here on)
      (record { sending = k.sending; data_link = k.data_link; carried = came.0; text = set-own p (Here on) texts ∙ came.1 })
      (λ i q d f. beside-owned own links texts x on i p (Here on) d (owned-out own links texts x on p o) q f)
      (λ i f. (cc f, refl))
      (λ q d f. d (let h : Some q ≡ Some p = sym f ∙ o in cc h))
    where
      k : Owned on (Some p) (links on) texts
      k = owned-at own links texts x on p o

      came : Carried (links on).slot Delivered × (Here on ≡ text_on on (links on).slot Delivered)
      came = go (links on).slot (subst (λ u. Carried (links on).slot u) s k.carried)
        where
          go : (slot : Slot TextOut) → Carried slot (Accepted t) → Carried slot Delivered × (Here on ≡ text_on on slot Delivered)
          go Empty c = absurd c
          go (Ready u) c = absurd c
          go (Held u) c = absurd c
          go (Travelling u) c = (tt, refl)

  -- it is answered
  texts-end : own on ≡ Some p → Texts (owned_by on None own) (set_link on idle links) (set_at_pair p No_text texts)
  texts-end o = moved own links texts x on p None idle No_text
      refl
      (λ i q d f. beside-owned own links texts x on i p No_text d (owned-out own links texts x on p o) q f)
      (λ i f. absurd (cc f))
      (λ q d f. d (let h : Some q ≡ Some p = sym f ∙ o in cc h))

-- the owner stays
same-owners : (own : Owners) (on : ℕ) (p : Pair) (links : ℕ → Link TextOut) (texts : Pair → Text) → own on ≡ Some p → Texts (owned_by on (Some p) own) links texts → Texts own links texts
same-owners own on p links texts e x = record { owned = λ k. subst (λ o. Owned k o (links k) texts) (as_before k (k == on) refl) (x.owned k); out = λ q k h. sym (as_before k (k == on) refl) ∙ x.out q k h }
  where
    as_before : (k : ℕ) (b : Bool) → (k == on) ≡ b → (if b then Some p else own k) ≡ own k
    as_before k true f = sym e ∙ ap own (sym (eqb-true k on f))
    as_before k false f = refl

-- The step of a machine when a text is sent, received or answered.

goes_out_event : (p : Pair) (g : Shared) → sends p ≡ true → g.sends ≡ true
    → shared_occurs (On p Text_goes_out) g ≡ sender_did p EndpointEvent.Text_goes_out (text_after_outcome (or_new (g.sender p).end).link (happens p EndpointEvent.Text_goes_out (g.sender p).end).outcome (g.text p)) g
goes_out_event p g s a = rw (s, a) refl

comes_event : (p : Pair) (head : List Bool) (on of_size : ℕ) (bits : List Bool) (g : Shared) → sends p ≡ true → g.receives ≡ true → g.text p ≡ Away on of_size bits
    → shared_occurs (On p (Text_comes head)) g ≡ receiver_did p (EndpointEvent.Text_comes head of_size bits) (Here on) g
comes_event p head on of_size bits g s a t = rw (s, a, t) refl

answered_event : (p : Pair) (on : ℕ) (g : Shared) → sends p ≡ true → g.sends ≡ true → g.text p ≡ Here on
    → shared_occurs (On p (Text_is_answered Rfnm)) g ≡ sender_did p (EndpointEvent.Is_answered Rfnm) No_text g
answered_event p on g s a t = rw (s, a, t) refl

-- only the text of a pair changes
abbrev text_did : Pair → Text → Shared → Shared
text_did p t g = record g {
  sender = set_at_pair p (g.sender p) g.sender;
  receiver = set_at_pair p (g.receiver p) g.receiver;
  text = set_at_pair p t g.text;
  violated = set_at_pair p (g.violated p) g.violated;
  to_receivers = g.to_receivers ++ [];
  to_senders = g.to_senders ++ [];
}

drops_event : (p : Pair) (head : List Bool) (on of_size : ℕ) (bits : List Bool) (g : Shared) → sends p ≡ true → g.receives ≡ false → g.text p ≡ Away on of_size bits
    → shared_occurs (On p (Text_comes head)) g ≡ text_did p (Here on) g
drops_event p head on of_size bits g s a t = rw (s, a, t) refl

gone_event : (p : Pair) (on : ℕ) (g : Shared) → sends p ≡ true → g.sends ≡ false → g.text p ≡ Here on
    → shared_occurs (On p (Text_is_answered Rfnm)) g ≡ text_did p No_text g
gone_event p on g s a t = rw (s, a, t) refl

-- one more event, that is this
by_event : (g h : Shared) (p : Pair) → Reached g → shared_occurs (On p Text_goes_out) g ≡ h → Reached h
by_event g h p r e = reached-same (shared_occurs (On p Text_goes_out) g) h e (further g (On p Text_goes_out) r tt)

by_coming : (g h : Shared) (p : Pair) (head : List Bool) → Reached g → shared_occurs (On p (Text_comes head)) g ≡ h → Reached h
by_coming g h p head r e = reached-same (shared_occurs (On p (Text_comes head)) g) h e (further g (On p (Text_comes head)) r tt)

by_answer : (g h : Shared) (p : Pair) → Reached g → shared_occurs (On p (Text_is_answered Rfnm)) g ≡ h → Reached h
by_answer g h p r e = reached-same (shared_occurs (On p (Text_is_answered Rfnm)) g) h e (further g (On p (Text_is_answered Rfnm)) r tt)

-- While a text is unacknowledged, the ends of its connection hold its link.

sender-holds : (g : Shared) → Reached g → g.sends ≡ true → SenderHoldsLink g
sender-holds g r = sender_holds g (all-fit g r) (all-linked g r)

receiver-holds : (g : Shared) → Reached g → g.receives ≡ true → ReceiverHoldsLink g
receiver-holds g r = receiver_holds g (all-fit g r) (all-linked g r)

-- of an end, or of none
hears-new : (on : ℕ) (p : Pair) (o : Option Endpoint) → hears_link on (p, or_new o) ≡ passes (hears_link on) p o
hears-new on p None = go (sends p)
  where
    go : (b : Bool) → (b && false && (0 == on)) ≡ false
    go true = refl
    go false = refl
hears-new on p (Some e) = refl

uses-new : (on : ℕ) (p : Pair) (o : Option Endpoint) → uses_link on (p, or_new o) ≡ passes (uses_link on) p o
uses-new on p None = go (receives p)
  where
    go : (b : Bool) → (b && false && (0 == on)) ≡ false
    go true = refl
    go false = refl
uses-new on p (Some e) = refl

module _ (a b : Bool) (own : Owners) (n m : Node) (g : Shared) (w : Way a b own n m g) where
  -- the machine and the host agree on who hears a link, and who uses it
  hears-as : (on : ℕ) (p : Pair) → sends p ≡ true → hears_at g on p ≡ passes (hears_link on) p (get n.ends p)
  hears-as on p s = ap (λ (x : EndpointWithHistory). hears_link on (p, or_new x.end)) (w.sender p s) ∙ hears-new on p (get n.ends p)

  uses-as : (on : ℕ) (p : Pair) → sends p ≡ true → uses_at g on p ≡ passes (uses_link on) (counterpart p) (get m.ends (counterpart p))
  uses-as on p s = ap (λ (x : EndpointWithHistory). uses_link on (counterpart p, or_new x.end)) (w.receiver p s) ∙ uses-new on (counterpart p) (get m.ends (counterpart p))

  -- the link of an unacknowledged text identifies the end that sent it, and the end that it is for
  sender-out : Reached g → a ≡ true → (on : ℕ) (p : Pair) → own on ≡ Some p → Only (λ q. passes (hears_link on) q (get n.ends q)) p
  sender-out r t on p o =
      let s = (owned-at own n.texts g.text w.texts on p o).sending in
      let h = sender-holds g r (w.alive ∙ t) p on (owned-out own n.texts g.text w.texts on p o) s in
      (sym (hears-as on p s) ∙ h.0, λ q k. h.1 q (hears-as on q (hearer-sends on q (get n.ends q) k) ∙ k))

  receiver-out : Reached g → b ≡ true → (on : ℕ) (p : Pair) → own on ≡ Some p → Only (λ q. passes (uses_link on) q (get m.ends q)) (counterpart p)
  receiver-out r t on p o =
      let s = (owned-at own n.texts g.text w.texts on p o).sending in
      let h = receiver-holds g r (w.alive_too ∙ t) p on (owned-out own n.texts g.text w.texts on p o) s in
      (sym (uses-as on p s) ∙ h.0, λ q k. by_user q k (user-sends q (get m.ends q) k) h.1)
    where
      user-sends : (q : Pair) (e : Option Endpoint) → passes (uses_link on) q e ≡ true → sends (counterpart q) ≡ true
      user-sends q None k = absurd (cc k)
      user-sends q (Some e) k = (uses_parts on (counterpart q) e k).0

      by_user : (q : Pair) → passes (uses_link on) q (get m.ends q) ≡ true → sends (counterpart q) ≡ true → ((q : Pair) → uses_at g on q ≡ true → q ≡ p) → q ≡ counterpart p
      by_user q k s only = ap counterpart (only (counterpart q) (uses-as on (counterpart q) s ∙ k))

pub text-out-stands : (a b : Bool) (own own' : Owners) (n m : Node) (u v : List Command) (on : ℕ) (p : Pair) → a ≡ true → own' on ≡ Some p → Ties a b own own' n m u v → passes (uses_link on) (counterpart p) (get n.ends (counterpart p)) ≡ true
text-out-stands a b own own' n m u v on p t o k = (receiver-out b a own' m n k.back k.here k.reached_back t on p o).0

pub text-out-stands-here : (a b : Bool) (own own' : Owners) (n m : Node) (u v : List Command) (on : ℕ) (p : Pair) → a ≡ true → own on ≡ Some p → Ties a b own own' n m u v → passes (hears_link on) p (get n.ends p) ≡ true
text-out-stands-here a b own own' n m u v on p t o k = (sender-out a b own n m k.g k.there k.reached t on p o).0

-- What happened at one pair of a host is seen there.

abbrev known : Option Endpoint → PairHistory → EndpointWithHistory
known end past = record { end = end; past = past }

-- the history is as it was
sees-still : (n n' : Node) (p : Pair) (what : EndpointEvent) → Changes n.ends n'.ends p what → n'.pasts ≡ n.pasts
    → opens (get n.ends p) (happens p what (get n.ends p)).after ≡ false → ((o : Outcome) (x : PairHistory) → adds what o x ≡ x) → Sees n n' p what
sees-still n n' p what c e f k = record {
  at_it = ap (λ x. known x (past_of n'.pasts p)) c.there ∙ ap (λ x. known (happens p what (get n.ends p)).after x) (ap (λ x. past_of x p) e ∙ past_same);
  beside = λ q d. ap (λ x. known x (past_of n'.pasts q)) (c.elsewhere q d) ∙ ap (λ x. known (get n.ends q) (past_of x q)) e;
}
  where
    past_same : past_of n.pasts p ≡ adds what (happens p what (get n.ends p)).outcome (if opens (get n.ends p) (happens p what (get n.ends p)).after then reopened (past_of n.pasts p) else past_of n.pasts p)
    past_same = rw f (sym (k (happens p what (get n.ends p)).outcome (past_of n.pasts p)))

-- it is kept with all others
sees-kept : (n n' : Node) (p : Pair) (what : EndpointEvent) → Changes n.ends n'.ends p what → n'.pasts ≡ pasts_after p what n.ends n.pasts → Sees n n' p what
sees-kept n n' p what c e = record {
  at_it = ap (λ x. known x (past_of n'.pasts p)) c.there ∙ ap (λ x. known (happens p what (get n.ends p)).after x) (ap (λ x. past_of x p) e ∙ past_at (adds what (happens p what (get n.ends p)).outcome (if opens (get n.ends p) (happens p what (get n.ends p)).after then reopened (past_of n.pasts p) else past_of n.pasts p)));
  beside = λ q d. ap (λ x. known x (past_of n'.pasts q)) (c.elsewhere q d) ∙ ap (λ x. known (get n.ends q) x) (ap (λ x. past_of x q) e ∙ past_beside q d (adds what (happens p what (get n.ends p)).outcome (if opens (get n.ends p) (happens p what (get n.ends p)).after then reopened (past_of n.pasts p) else past_of n.pasts p)));
}
  where
    past_at : (x : PairHistory) → past_of (insert n.pasts p x) p ≡ x
    past_at x = ap or_no_past (get-insert pairs_total n.pasts p x p ∙ ap (λ b. cond b (Some x) (get n.pasts p)) (itself p))

    other : (q : Pair) → ((q ≡ p) → ⊥) → (b : Bool) → eq_by_cmp pair_cmp q p ≡ b → b ≡ false
    other q d true t = absurd (d (tells_apart pairs_exact q p t))
    other q d false t = refl

    past_beside : (q : Pair) → ((q ≡ p) → ⊥) → (x : PairHistory) → past_of (insert n.pasts p x) q ≡ past_of n.pasts q
    past_beside q d x = ap or_no_past (get-insert pairs_total n.pasts p x q ∙ ap (λ b. cond b (Some x) (get n.pasts q)) (other q d (eq_by_cmp pair_cmp q p) refl))

-- No end opens when a text is sent or answered.

cut-opens : (p : Pair) (o : Option Endpoint) → opens o (happens p EndpointEvent.Text_goes_out o).after ≡ false
cut-opens p None = refl
cut-opens p (Some e) = grind arith

answer-opens : (p : Pair) (o : Option Endpoint) → opens o (happens p (EndpointEvent.Is_answered Rfnm) o).after ≡ false
answer-opens p None = refl
answer-opens p (Some e) = grind arith

-- A cleared host: only the text of the machine changes.

way-text : (a b : Bool) (own own1 : Owners) (n m : Node) (g : Shared) (p : Pair) (t : Text) (links : ℕ → Link TextOut) → Texts own1 links (set_at_pair p t g.text)
    → Way a b own n m g → Way a b own1 (record n { texts = links }) m (text_did p t g)
way-text a b own own1 n m g p t links x w = record {
  alive = w.alive;
  alive_too = w.alive_too;
  sender = λ q s. set_same p q g.sender ∙ w.sender q s;
  receiver = λ q s. set_same p q g.receiver ∙ w.receiver q s;
  texts = x;
  proper = w.proper;
}

flow-here : (b : Bool) (u : List Command) (xs ys : List Tagged) → Flow b u xs ys → Flow b u (xs ++ []) ys
flow-here b u xs ys f = subst (λ (zs : List Tagged). Flow b u zs ys) (sym (append-nil xs)) f

flow-there : (b : Bool) (u : List Command) (xs ys : List Tagged) → Flow b u xs ys → Flow b u xs (ys ++ [])
flow-there b u xs ys f = subst (λ (zs : List Tagged). Flow b u xs zs) (sym (append-nil ys)) f

accepted-not-idle : (l : Link TextOut) (t : TextOut) → l.subnet ≡ Accepted t → (l ≡ idle) → ⊥
accepted-not-idle l t s e = absurd (cc (ap (λ (x : Link TextOut). x.subnet) e, s))

pub ties-text-drops : (b : Bool) (own own' : Owners) (n m : Node) (u v : List Command) (on : ℕ) (t : TextOut) → (m.texts on).subnet ≡ Accepted t → Ties false b own own' n m u v → Ties false b own own' n (record m { texts = set_link on (record (m.texts on) { subnet = Delivered }) m.texts }) u v
ties-text-drops b own own' n m u v on t s k = go (owner-of own' m.texts k.back.text k.here.texts on (accepted-not-idle (m.texts on) t s))
  where
    go : (p : Pair) × (own' on ≡ Some p) → Ties false b own own' n (record m { texts = set_link on (record (m.texts on) { subnet = Delivered }) m.texts }) u v
    go (p, o) =
        let sent = (owned-at own' m.texts k.back.text k.here.texts on p o).sending in
        let away = accepted-text own' m.texts k.back.text k.here.texts on p t o s in
        let x = same-owners own' on p (set_link on (record (m.texts on) { subnet = Delivered }) m.texts) (set_at_pair p (Here on) k.back.text) o (texts-come own' m.texts k.back.text k.here.texts on p t o s) in
        record {
          g = k.g;
          back = text_did p (Here on) k.back;
          reached = k.reached;
          reached_back = by_coming k.back (text_did p (Here on) k.back) p [] k.reached_back (drops_event p [] on t.of_size t.bits k.back sent k.here.alive_too away);
          there = k.there;
          here = way-text b false own' own' m n k.back p (Here on) (set_link on (record (m.texts on) { subnet = Delivered }) m.texts) x k.here;
          going = flow-there b u k.g.to_receivers k.back.to_senders k.going;
          coming = flow-here false v k.back.to_receivers k.g.to_senders k.coming;
        }

travelling-not-idle : (l : Link TextOut) (t : TextOut) → l.slot ≡ Travelling t → (l ≡ idle) → ⊥
travelling-not-idle l t s e = absurd (cc (ap (λ (x : Link TextOut). x.slot) e, s))

pub ties-answered-gone : (b : Bool) (own own' : Owners) (n m : Node) (u v : List Command) (on : ℕ) (t : TextOut) → (n.texts on).slot ≡ Travelling t → (n.texts on).subnet ≡ Delivered → Ties false b own own' n m u v → Ties false b (owned_by on None own) own' (record n { texts = set_link on idle n.texts }) m u v
ties-answered-gone b own own' n m u v on t f s k = go (owner-of own n.texts k.g.text k.there.texts on (travelling-not-idle (n.texts on) t f))
  where
    go : (p : Pair) × (own on ≡ Some p) → Ties false b (owned_by on None own) own' (record n { texts = set_link on idle n.texts }) m u v
    go (p, o) =
        let sent = (owned-at own n.texts k.g.text k.there.texts on p o).sending in
        let came = delivered-text own n.texts k.g.text k.there.texts on p t o f s in
        record {
          g = text_did p No_text k.g;
          back = k.back;
          reached = by_answer k.g (text_did p No_text k.g) p k.reached (gone_event p on k.g sent k.there.alive came);
          reached_back = k.reached_back;
          there = way-text false b own (owned_by on None own) n m k.g p No_text (set_link on idle n.texts) (texts-end own n.texts k.g.text k.there.texts on p o) k.there;
          here = k.here;
          going = flow-here b u k.g.to_receivers k.back.to_senders k.going;
          coming = flow-there false v k.back.to_receivers k.g.to_senders k.coming;
        }

-- A text is sent.

no-text : (t : Text) → ((on : ℕ) → link_out t ≡ Some on → ⊥) → t ≡ No_text
no-text No_text f = refl
no-text (Away on of_size bits) f = absurd (f on refl)
no-text (Here on) f = absurd (f on refl)

-- an end heard no two links
same-link : (on k : ℕ) (p : Pair) (o : Option Endpoint) → passes (hears_link on) p o ≡ true → passes (hears_link k) p o ≡ true → k ≡ on
same-link on k p None h i = absurd (cc h)
same-link on k p (Some e) h i = sym (hears_parts k p e i).2 ∙ (hears_parts on p e h).2

-- the link of an end that may send carries connections
heard-data-link : (on : ℕ) (p : Pair) (o : Option Endpoint) → InLimitsAt p o → passes (hears_link on) p o ≡ true → is_data_link on ≡ true
heard-data-link on p None l h = absurd (cc h)
heard-data-link on p (Some e) l h = let k = hears_parts on p e h in subst (λ (i : ℕ). is_data_link i ≡ true) k.2 (l.link k.0 k.1)

-- the text is sent on its end's link
text-of-cut : (on : ℕ) (p : Pair) (o : Option Endpoint) (out : Outcome) (text : ℕ × List Bool) (t : Text) → passes (hears_link on) p o ≡ true → out ≡ Outcome.Sent text.0 text.1 → text_after_outcome (or_new o).link out t ≡ Away on text.0 text.1
text-of-cut on p None out text t h e = absurd (cc h)
text-of-cut on p (Some x) out text t h e = rw e (ap (λ (i : ℕ). Away i text.0 text.1) (hears_parts on p x h).2)

-- the host, where the look-up by link led there
abbrev after_cut : Node → ℕ → ℕ × List Bool → Option Pair → Node
after_cut n on text o = record n {
  ends = map_after_at n.ends o (cut_in on n.ends);
  texts = set_link on (record { slot = Travelling (record { of_size = text.0; bits = text.1 }); subnet = Accepted (record { of_size = text.0; bits = text.1 }) }) n.texts;
}

module _ (b : Bool) (own own' : Owners) (n m : Node) (u v : List Command) (on : ℕ) (text : ℕ × List Bool) where
  -- from the end to which the link leads
  goes-out-from : (p : Pair) → pair_of (sender_on on n.ends) ≡ Some p → InLimitsAt p (get n.ends p) → answer (cut_in on n.ends) ≡ Some text → (n.texts on).slot ≡ Empty
      → (a : Bool) → a ≡ true → Ties a b own own' n m u v → Ties a b (owned_by on (Some p) own) own' (after_cut n on text (Some p)) m u v
  goes-out-from p e limits cuts free a alive k = subst (λ (x : List Command). Ties a b (owned_by on (Some p) own) own' (after_cut n on text (Some p)) m x v) (append-nil u) acts.ties
    where
      passed : passes (hears_link on) p (get n.ends p) ≡ true
      passed = (led (hears_link on) n.ends p e).1

      sent : sends p ≡ true
      sent = hearer-sends on p (get n.ends p) passed

      none : k.g.text p ≡ No_text
      none = no-text (k.g.text p) (λ i h.
          let o = k.there.texts.out p i h in
          let same = same-link on i p (get n.ends p) passed (sender-out a b own n m k.g k.there k.reached alive i p o).0 in
          empty-free own n.texts k.g.text k.there.texts on p free (subst (λ (j : ℕ). own j ≡ Some p) same o))

      outcome : (happens p EndpointEvent.Text_goes_out (get n.ends p)).outcome ≡ Outcome.Sent text.0 text.1
      outcome = ap (λ (d : Transition). d.outcome) (cut-led n.ends on p e).1 ∙ ap of_cut cuts

      goes : text_after_outcome (or_new (k.g.sender p).end).link (happens p EndpointEvent.Text_goes_out (k.g.sender p).end).outcome (k.g.text p) ≡ Away on text.0 text.1
      goes = rw (k.there.sender p sent) (text-of-cut on p (get n.ends p) (happens p EndpointEvent.Text_goes_out (get n.ends p)).outcome text (k.g.text p) passed outcome)

      reaches : Reached (sender_did p EndpointEvent.Text_goes_out (Away on text.0 text.1) k.g)
      reaches = by_event k.g (sender_did p EndpointEvent.Text_goes_out (Away on text.0 text.1) k.g) p k.reached (goes_out_event p k.g sent (k.there.alive ∙ alive) ∙ ap (λ (t : Text). sender_did p EndpointEvent.Text_goes_out t k.g) goes)

      sees : Sees n (after_cut n on text (Some p)) p EndpointEvent.Text_goes_out
      sees = sees-still n (after_cut n on text (Some p)) p EndpointEvent.Text_goes_out
          (act-changes n.ends p EndpointEvent.Text_goes_out (cut_in on n.ends) (ap (λ (d : Transition). d.after) (cut-led n.ends on p e).1))
          refl (cut-opens p (get n.ends p)) (λ o x. refl)

      acts : record { ties : Ties a b (owned_by on (Some p) own) own' (after_cut n on text (Some p)) m (u ++ []) v; safe : is_violation (happens p EndpointEvent.Text_goes_out (get n.ends p)).outcome ≡ false }
      acts = sender-acts a b own own' n (after_cut n on text (Some p)) m u v EndpointEvent.Text_goes_out k.g k.back p (Away on text.0 text.1) (owned_by on (Some p) own) sent
          k.there k.here k.going k.coming reaches k.reached_back sees
          (texts-start own n.texts k.g.text k.there.texts on p (record { of_size = text.0; bits = text.1 }) sent (heard-data-link on p (get n.ends p) limits passed) none free)

pub ties-goes-out : (a b : Bool) (own own' : Owners) (n m : Node) (u v : List Command) (on : ℕ) (text : ℕ × List Bool) → a ≡ true → ((p : Pair) → InLimitsAt p (get n.ends p)) → answer (cut_in on n.ends) ≡ Some text → (n.texts on).slot ≡ Empty → Ties a b own own' n m u v → Ties a b (owned_by on (pair_of (sender_on on n.ends)) own) own' (record n { ends = map_after_at n.ends (pair_of (sender_on on n.ends)) (cut_in on n.ends); texts = set_link on (record { slot = Travelling (record { of_size = text.0; bits = text.1 }); subnet = Accepted (record { of_size = text.0; bits = text.1 }) }) n.texts }) m u v
ties-goes-out a b own own' n m u v on text alive limits cuts free k = go (pair_of (sender_on on n.ends)) refl
  where
    nobody : (o : Option (Pair × Endpoint)) → pair_of o ≡ None → answer (cut_at o) ≡ Some text → ⊥
    nobody None e c = absurd (cc c)
    nobody (Some q) e c = absurd (cc e)

    go : (o : Option Pair) → pair_of (sender_on on n.ends) ≡ o → Ties a b (owned_by on (pair_of (sender_on on n.ends)) own) own' (after_cut n on text (pair_of (sender_on on n.ends))) m u v
    go None e = absurd (nobody (sender_on on n.ends) e cuts)
    go (Some p) e = subst (λ (o : Option Pair). Ties a b (owned_by on o own) own' (after_cut n on text o) m u v) (sym e)
        (goes-out-from b own own' n m u v on text p e (limits p) cuts free a alive k)

-- A text comes.

-- what it does where its link leads
came-led : (on : ℕ) (head : List Bool) (of_size : ℕ) (bits : List Bool) (m : Ends) (q : Pair) → pair_of (receiver_on on m) ≡ Some q
    → happens q (EndpointEvent.Text_comes head of_size bits) (get m q) ≡ happened (get m q) (text_in on of_size bits m) (made_by_text head bits) outcome_of_text
came-led on head of_size bits m q e = ap (λ o. happened (get m q) (hear_text of_size bits o) (made_by_text head bits) outcome_of_text) (led (uses_link on) m q e).0

-- the host to which it comes, where the look-up by link led there, and the host that sent it
abbrev after_coming : Node → ℕ → List Bool → TextOut → Option Pair → Node
after_coming n on head t o = record n {
  ends = map_after_at n.ends o (text_in on t.of_size t.bits n.ends);
  pasts = pasts_after_at o (Some (EndpointEvent.Text_comes head t.of_size t.bits)) n.ends n.pasts;
}

abbrev after_delivery : Node → ℕ → Node
after_delivery m on = record m { texts = set_link on (record (m.texts on) { subnet = Delivered }) m.texts }

abbrev Came : Bool → Bool → Owners → Owners → Node → Node → List Command → List Command → ℕ → List Bool → TextOut → Option Pair → Type 0
Came a b own own' n m u v on head t o = record {
  ties : Ties a b own own' (after_coming n on head t o) (after_delivery m on) (u ++ made_by_text head t.bits (answer (text_in on t.of_size t.bits n.ends))) v;
  safe : is_violation (outcome_of_text (answer (text_in on t.of_size t.bits n.ends))) ≡ false;
}

module _ (a b : Bool) (own own' : Owners) (n m : Node) (u v : List Command) (on : ℕ) (head : List Bool) (t : TextOut) where
  -- from the owner of the link
  comes-from : (p : Pair) → own' on ≡ Some p → a ≡ true → (m.texts on).subnet ≡ Accepted t → Ties a b own own' n m u v → Came a b own own' n m u v on head t (Some (counterpart p))
  comes-from p o alive s k = record {
    ties = subst (λ (d : Transition). Ties a b own own' (after_coming n on head t (Some (counterpart p))) (after_delivery m on) (u ++ d.made) v) does acts.ties;
    safe = ap (λ (d : Transition). is_violation d.outcome) (sym does) ∙ acts.safe;
  }
    where
      sent : sends p ≡ true
      sent = (owned-at own' m.texts k.back.text k.here.texts on p o).sending

      found : Only (λ q. passes (uses_link on) q (get n.ends q)) (counterpart p)
      found = receiver-out b a own' m n k.back k.here k.reached_back alive on p o

      leads : pair_of (receiver_on on n.ends) ≡ Some (counterpart p)
      leads = leads-there (uses_link on) n.ends (counterpart p) found.0 found.1

      does : happens (counterpart p) (EndpointEvent.Text_comes head t.of_size t.bits) (get n.ends (counterpart p)) ≡ happened (get n.ends (counterpart p)) (text_in on t.of_size t.bits n.ends) (made_by_text head t.bits) outcome_of_text
      does = came-led on head t.of_size t.bits n.ends (counterpart p) leads

      reaches : Reached (receiver_did p (EndpointEvent.Text_comes head t.of_size t.bits) (Here on) k.back)
      reaches = by_coming k.back (receiver_did p (EndpointEvent.Text_comes head t.of_size t.bits) (Here on) k.back) p head k.reached_back
          (comes_event p head on t.of_size t.bits k.back sent (k.here.alive_too ∙ alive) (accepted-text own' m.texts k.back.text k.here.texts on p t o s))

      sees : Sees n (after_coming n on head t (Some (counterpart p))) (counterpart p) (EndpointEvent.Text_comes head t.of_size t.bits)
      sees = sees-kept n (after_coming n on head t (Some (counterpart p))) (counterpart p) (EndpointEvent.Text_comes head t.of_size t.bits)
          (act-changes n.ends (counterpart p) (EndpointEvent.Text_comes head t.of_size t.bits) (text_in on t.of_size t.bits n.ends) (ap (λ (d : Transition). d.after) does)) refl

      acts : record {
        ties : Ties a b own own' (after_coming n on head t (Some (counterpart p))) (after_delivery m on) (u ++ (happens (counterpart p) (EndpointEvent.Text_comes head t.of_size t.bits) (get n.ends (counterpart p))).made) v;
        safe : is_violation (happens (counterpart p) (EndpointEvent.Text_comes head t.of_size t.bits) (get n.ends (counterpart p))).outcome ≡ false;
      }
      acts = receiver-acts a b own own' n (after_coming n on head t (Some (counterpart p))) m u v (EndpointEvent.Text_comes head t.of_size t.bits) k.g k.back (after_delivery m on) p (Here on) own' sent
          k.there k.here k.going k.coming k.reached reaches sees (λ q. refl) k.there.texts
          (same-owners own' on p (set_link on (record (m.texts on) { subnet = Delivered }) m.texts) (set_at_pair p (Here on) k.back.text) o (texts-come own' m.texts k.back.text k.here.texts on p t o s))

pub ties-text-comes : (a b : Bool) (own own' : Owners) (n m : Node) (u v : List Command) (on : ℕ) (head : List Bool) (t : TextOut) → a ≡ true → (m.texts on).subnet ≡ Accepted t → Ties a b own own' n m u v → record { ties : Ties a b own own' (record n { ends = map_after_at n.ends (pair_of (receiver_on on n.ends)) (text_in on t.of_size t.bits n.ends); pasts = pasts_after_at (pair_of (receiver_on on n.ends)) (Some (EndpointEvent.Text_comes head t.of_size t.bits)) n.ends n.pasts }) (record m { texts = set_link on (record (m.texts on) { subnet = Delivered }) m.texts }) (u ++ made_by_text head t.bits (answer (text_in on t.of_size t.bits n.ends))) v; safe : is_violation (outcome_of_text (answer (text_in on t.of_size t.bits n.ends))) ≡ false }
ties-text-comes a b own own' n m u v on head t alive s k = go (owner-of own' m.texts k.back.text k.here.texts on (accepted-not-idle (m.texts on) t s))
  where
    go : (p : Pair) × (own' on ≡ Some p) → Came a b own own' n m u v on head t (pair_of (receiver_on on n.ends))
    go (p, o) =
        let found = receiver-out b a own' m n k.back k.here k.reached_back alive on p o in
        subst (λ (x : Option Pair). Came a b own own' n m u v on head t x) (sym (leads-there (uses_link on) n.ends (counterpart p) found.0 found.1)) (comes-from a b own own' n m u v on head t p o alive s k)

-- It is answered.

-- the host, where the look-up by link led there
abbrev after_answer : Node → ℕ → Option Pair → Node
after_answer n on o = record n { ends = map_after_at n.ends o (answered_in on Rfnm n.ends); texts = set_link on idle n.texts }

module _ (a b : Bool) (own own' : Owners) (n m : Node) (u v : List Command) (on : ℕ) (t : TextOut) where
  -- from the owner of the link, to which the link leads
  answered-from : (p : Pair) → own on ≡ Some p → a ≡ true → (n.texts on).slot ≡ Travelling t → (n.texts on).subnet ≡ Delivered → pair_of (sender_on on n.ends) ≡ Some p → Ties a b own own' n m u v
      → Ties a b (owned_by on None own) own' (after_answer n on (Some p)) m (u ++ made_if_any (answer (answered_in on Rfnm n.ends))) v
  answered-from p o alive f s leads k = subst (λ (d : Transition). Ties a b (owned_by on None own) own' (after_answer n on (Some p)) m (u ++ d.made) v) does acts.ties
    where
      sent : sends p ≡ true
      sent = (owned-at own n.texts k.g.text k.there.texts on p o).sending

      does : happens p (EndpointEvent.Is_answered Rfnm) (get n.ends p) ≡ happened (get n.ends p) (answered_in on Rfnm n.ends) made_if_any (λ _. Outcome.Accepted)
      does = (answered-led n.ends on Rfnm p leads).1

      reaches : Reached (sender_did p (EndpointEvent.Is_answered Rfnm) No_text k.g)
      reaches = by_answer k.g (sender_did p (EndpointEvent.Is_answered Rfnm) No_text k.g) p k.reached
          (answered_event p on k.g sent (k.there.alive ∙ alive) (delivered-text own n.texts k.g.text k.there.texts on p t o f s))

      sees : Sees n (after_answer n on (Some p)) p (EndpointEvent.Is_answered Rfnm)
      sees = sees-still n (after_answer n on (Some p)) p (EndpointEvent.Is_answered Rfnm)
          (act-changes n.ends p (EndpointEvent.Is_answered Rfnm) (answered_in on Rfnm n.ends) (ap (λ (d : Transition). d.after) does))
          refl (answer-opens p (get n.ends p)) (λ o x. refl)

      acts : record {
        ties : Ties a b (owned_by on None own) own' (after_answer n on (Some p)) m (u ++ (happens p (EndpointEvent.Is_answered Rfnm) (get n.ends p)).made) v;
        safe : is_violation (happens p (EndpointEvent.Is_answered Rfnm) (get n.ends p)).outcome ≡ false;
      }
      acts = sender-acts a b own own' n (after_answer n on (Some p)) m u v (EndpointEvent.Is_answered Rfnm) k.g k.back p No_text (owned_by on None own) sent
          k.there k.here k.going k.coming reaches k.reached_back sees (texts-end own n.texts k.g.text k.there.texts on p o)

pub ties-answered : (a b : Bool) (own own' : Owners) (n m : Node) (u v : List Command) (on : ℕ) (t : TextOut) → a ≡ true → (n.texts on).slot ≡ Travelling t → (n.texts on).subnet ≡ Delivered → Ties a b own own' n m u v → Ties a b (owned_by on None own) own' (record n { ends = map_after_at n.ends (pair_of (sender_on on n.ends)) (answered_in on Rfnm n.ends); texts = set_link on idle n.texts }) m (u ++ made_if_any (answer (answered_in on Rfnm n.ends))) v
ties-answered a b own own' n m u v on t alive f s k = go (owner-of own n.texts k.g.text k.there.texts on (travelling-not-idle (n.texts on) t f))
  where
    go : (p : Pair) × (own on ≡ Some p) → Ties a b (owned_by on None own) own' (after_answer n on (pair_of (sender_on on n.ends))) m (u ++ made_if_any (answer (answered_in on Rfnm n.ends))) v
    go (p, o) =
        let found = sender-out a b own n m k.g k.there k.reached alive on p o in
        let leads = leads-there (hears_link on) n.ends p found.0 found.1 in
        subst (λ (x : Option Pair). Ties a b (owned_by on None own) own' (after_answer n on x) m (u ++ made_if_any (answer (answered_in on Rfnm n.ends))) v) (sym leads) (answered-from a b own own' n m u v on t p o alive f s leads k)
