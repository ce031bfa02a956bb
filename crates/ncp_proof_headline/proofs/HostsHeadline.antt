-- Meant for other crates too: they cite what is public here.
--
-- What holds of two hosts follows from what holds of the connections between them.
use Rattle.std.proofs.Common.{◌≡◌, ℕ, Bool, true, false, not, List, [], ◌∷◌, ◌++◌, length, Option, None, Some, refl, sym, ap, ◌∙◌, subst, arith}
use Rattle.std.specs.FinMap.{get, get-empty}
use Rattle.std.proofs.lemmas.Bool.{both_ways, and_parts, not-true}
use Rattle.ncp_wire.specs.declared.command.Command.{Command}
use Rattle.ncp_wire.specs.declared.command.Command.TheVariants.{Rst, Rrp}
use Rattle.ncp_model.specs.declared.pair.Pair.{Pair}
use Rattle.ncp_model.specs.Pairs.{pair_cmp, sends, counterpart}
use Rattle.ncp_model.specs.Endpoint.{Endpoint, or_new, is_open, is_live}
use Rattle.ncp_model.specs.Ends.{Ends, no_ends, hears_link, uses_link}
use Rattle.ncp_model.specs.Demux.{passes}
use Rattle.ncp_proof_endpoint.specs.Histories.{EndpointWithHistory, IsPrefix}
use Rattle.ncp_proof_machine.specs.Delivery.{Slot, MessageTransit, Accepted, Link}
use Rattle.ncp_proof_endpoint.specs.Books.{BooksAt}
use Rattle.ncp_proof_connection.specs.Connections.{Text, No_text, Away, Here}
use Rattle.ncp_proof_connection.specs.Ledger.{total, text_messages, text_bits, text_amount, is_text_out, AmountsAgreeOnConnection, BothOpenOnConnection, PartedOnConnection}
use Rattle.ncp_proof_connection.specs.Sharing.{Shared, only, connection_at}
use Rattle.ncp_proof_connection.specs.Finding.{link_out}
use Rattle.ncp_proof_machine.specs.Resets.{ResetHost, is_up}
use Rattle.ncp_proof_machine.specs.Hosts.{TextOut, Node, TwoNodes, past_of, is_empty, node_hears, node_hears_all}
use Rattle.ncp_proof_headline.specs.Headline.{BothOpenInModel, sender_in_model, receiver_in_model, total_on, message_not_come, how_many_texts, bits_of_text, amount_of_text, text_underway, commands_there, commands_back, granted_underway, returned_underway, AmountsAgreeInModel, OnOneLink, WithinAllocationInModel, PartedInModel, TakenOrHeld, BeginsInModel, StaysOut, SenderOpens, ReceiverOpens, SenderOpensAt, ReceiverOpensAt}
use Rattle.ncp_proof_connection.proofs.Outliving.{fit_open, fit_held, fit_begins, fit_books, fit_opened}
use Rattle.ncp_model.proofs.ResetLists.{bit, rsts, rrps}
use Rattle.ncp_proof_headline.proofs.Lives.{live, fronts}
use Rattle.ncp_proof_machine.proofs.EndsGood.{EndsInvariant}
use Rattle.ncp_proof_headline.proofs.OpensNot.{none-live-heard}
use Rattle.ncp_proof_machine.proofs.HostsBase.{hears_all-texts}
use Rattle.ncp_proof_machine.proofs.HostsStand.{BothStand, hearing-stands, hearing_all-stands}
use Rattle.ncp_proof_headline.specs.Tied.{watched_at}
use Rattle.ncp_proof_headline.proofs.Ties.{Owners, Carried, Owned, ties-counterpart, text_on, commands_of}
use Rattle.ncp_proof_headline.proofs.TiesBase.{all-fit}
use Rattle.ncp_proof_headline.proofs.TiesTexts.{text-out-stands, text-out-stands-here}
use Rattle.ncp_proof_headline.proofs.HostsJoined.{lives, is_alive, Joined, joined-counterpart, up_alive, up_waits}
use Rattle.ncp_proof_headline.proofs.HostsHeld.{Holds, Ever, accepted, x, y}
use Rattle.ncp_proof_headline.proofs.HostsSteps.{hears-keeps, hears_front, Follows, owner-of}
use Rattle.ncp_proof_headline.proofs.LinkSums.{same-link, granted-all, returned-all}
use Rattle.ncp_model.specs.declared.amounts.Amount.{Amount}
use Rattle.ncp_model.specs.Amounts.{amount, ◌⊕◌, allowance, granted, returned}

-- with no RST and no RRP underway, all lives
fronts_all : (u : List Command) → rsts u ≡ 0 → rrps u ≡ 0 → fronts u ≡ u
fronts_all [] r p = refl
fronts_all (Rst ∷ u) r p = absurd (omega arith)
fronts_all (Rrp ∷ u) r p = absurd (omega arith)
fronts_all (c ∷ u) r p = ap (λ (l : List Command). c ∷ l) (fronts_all u (omega arith) (omega arith))

-- what has not come of the text on a link, its messages and its bits
text-not-come : (on : ℕ) (slot : Slot TextOut) (subnet : MessageTransit TextOut) → (text_messages (text_on on slot subnet) ≡ how_many_texts (message_not_come slot subnet)) × (text_bits (text_on on slot subnet) ≡ bits_of_text (message_not_come slot subnet))
text-not-come on slot subnet = (grind arith, grind arith)

-- an end that is open is there, and holds its link

open-there : (m : Ends) (p : Pair) → is_open (or_new (get m p)) ≡ true → m ≡ no_ends → ⊥
open-there m p o e = absurd (cc (o, ap (λ (d : Ends). is_open (or_new (get d p))) e ∙ ap (λ (b : Option Endpoint). is_open (or_new b)) (get-empty pair_cmp p)))

live-there : (m : Ends) (p : Pair) → is_live (get m p) ≡ true → m ≡ no_ends → ⊥
live-there m p o e = absurd (cc (o, ap (λ (d : Ends). is_live (get d p)) e ∙ ap is_live (get-empty pair_cmp p)))

open-hears : (p : Pair) (b : Option Endpoint) → sends p ≡ true → is_open (or_new b) ≡ true → passes (hears_link (or_new b).link) p b ≡ true
open-hears p None s o = absurd (cc o)
open-hears p (Some e) s o = grind arith

hears-once : (on : ℕ) (p : Pair) (b : Option Endpoint) → passes (hears_link on) p b ≡ true → (or_new b).link ≡ on
hears-once on p None h = absurd (cc h)
hears-once on p (Some e) h = grind arith

by_up : {A : Type 0} (h : ResetHost) → (is_up h ≡ true → A) → (is_up h ≡ false → A) → A
by_up {A} h f g = go (is_up h) refl
  where
    go : (b : Bool) → is_up h ≡ b → A
    go true e = f e
    go false e = g e

module _ (own own' : Owners) (w : TwoNodes) (k : Holds own own' w) (b : BothStand w) (p : Pair) (sp : sends p ≡ true) where
  abbrev g : Shared
  g = k.joined.ties.g

  abbrev back : Shared
  back = k.joined.ties.back

  -- the two ends and their pasts
  sender_is : g.sender p ≡ watched_at w.this p
  sender_is = k.joined.ties.there.sender p sp

  receiver_is : g.receiver p ≡ watched_at w.that (counterpart p)
  receiver_is = k.joined.ties.there.receiver p sp

  pub held_all : TakenOrHeld p w
  held_all = subst (λ (o : EndpointWithHistory). is_live o.end ≡ true → (or_new o.end).left ≡ false → o.past.got ≡ o.past.taken ++ (or_new o.end).stored) receiver_is
      (fit_held p sp g.sends g.receives (connection_at p g) (all-fit g k.joined.ties.reached p sp))

  pub begins : BeginsInModel p w
  begins = subst (λ (o : EndpointWithHistory). is_live o.end ≡ true → IsPrefix o.past.got (past_of w.this.pasts p).given) receiver_is
      (subst (λ (o : EndpointWithHistory). is_live (g.receiver p).end ≡ true → IsPrefix (g.receiver p).past.got o.past.given) sender_is
      (fit_begins p sp g.sends g.receives (connection_at p g) (all-fit g k.joined.ties.reached p sp)))

  pub within : WithinAllocationInModel p w
  within = subst (λ (o : EndpointWithHistory). BooksAt o.end o.past) receiver_is (fit_books p sp g.sends g.receives (connection_at p g) (all-fit g k.joined.ties.reached p sp))

  this_up : is_open (sender_in_model p w) ≡ true → is_up w.this.host ≡ true
  this_up o = by_up w.this.host (λ e. e) (λ e. absurd (open-there w.this.ends p o (k.joined.this.none e)))

  that_up : is_open (receiver_in_model p w) ≡ true → is_up w.that.host ≡ true
  that_up o = by_up w.that.host (λ e. e) (λ e. absurd (open-there w.that.ends (counterpart p) o (k.joined.that.none e)))

  alive : is_up w.this.host ≡ true → is_alive w.this w.that (y w) ≡ true
  alive e = up_alive w.this.host (rrps (y w ++ w.that.host.phase.waiting)) e

  alive_there : is_up w.that.host ≡ true → is_alive w.that w.this (x w) ≡ true
  alive_there e = up_alive w.that.host (rrps (x w ++ w.this.host.phase.waiting)) e

  -- both are up: all that is underway lives

  lives_there : is_up w.this.host ≡ true → is_up w.that.host ≡ true → lives w.this w.that (x w) ≡ commands_there w
  lives_there e f = ap (λ (c : Bool). live c (commands_there w)) (up_waits w.that.host f) ∙ fronts_all (commands_there w) (omega (arith, k.joined.kept.there.count, ap (λ (c : Bool). bit c) (up_waits w.this.host e))) (omega (arith, k.joined.kept.here.count, ap (λ (c : Bool). bit c) (up_waits w.that.host f)))

  lives_back : is_up w.this.host ≡ true → is_up w.that.host ≡ true → lives w.that w.this (y w) ≡ commands_back w
  lives_back e f = ap (λ (c : Bool). live c (commands_back w)) (up_waits w.this.host e) ∙ fronts_all (commands_back w) (omega (arith, k.joined.kept.here.count, ap (λ (c : Bool). bit c) (up_waits w.that.host f))) (omega (arith, k.joined.kept.there.count, ap (λ (c : Bool). bit c) (up_waits w.this.host e)))

  -- the text of the pair is the one on its link
  module _ (o : is_open (sender_in_model p w) ≡ true) where
    abbrev its_link : ℕ
    its_link = (sender_in_model p w).link

    stands : (q : Pair) (l : ℕ) → own l ≡ Some q → passes (hears_link l) q (get w.this.ends q) ≡ true
    stands q l e = text-out-stands-here (is_alive w.this w.that (y w)) (is_alive w.that w.this (x w)) own own' w.this w.that (lives w.this w.that (x w)) (lives w.that w.this (y w)) l q (alive (this_up o)) e k.joined.ties

    text_is : g.text p ≡ text_on its_link (w.this.texts its_link).slot (w.this.texts its_link).subnet
    text_is = go (own its_link) refl (k.joined.ties.there.texts.owned its_link)
      where
        none : own its_link ≡ None → (t : Text) → g.text p ≡ t → t ≡ No_text
        none e No_text f = refl
        none e (Away l n bits) f =
            let h = k.joined.ties.there.texts.out p l (ap link_out f) in
            let same : its_link ≡ l = hears-once l p (get w.this.ends p) (stands p l h) in
            absurd (cc (e, ap own same ∙ h))
        none e (Here l) f =
            let h = k.joined.ties.there.texts.out p l (ap link_out f) in
            let same : its_link ≡ l = hears-once l p (get w.this.ends p) (stands p l h) in
            absurd (cc (e, ap own same ∙ h))

        go : (r : Option Pair) → own its_link ≡ r → Owned its_link r (w.this.texts its_link) g.text → g.text p ≡ text_on its_link (w.this.texts its_link).slot (w.this.texts its_link).subnet
        go None e l = none e (g.text p) refl ∙ ap (λ (i : Link TextOut). text_on its_link i.slot i.subnet) (sym l)
        go (Some q) e l =
            let same : q ≡ p = b.0.good.heard its_link q p (stands q its_link e) (open-hears p (get w.this.ends p) sp o) in
            subst (λ (r : Pair). g.text r ≡ text_on its_link (w.this.texts its_link).slot (w.this.texts its_link).subnet) same l.text

    messages_out : text_messages (g.text p) ≡ how_many_texts (text_underway p w)
    messages_out = ap text_messages text_is ∙ (text-not-come its_link (w.this.texts its_link).slot (w.this.texts its_link).subnet).0

    bits_out : text_bits (g.text p) ≡ bits_of_text (text_underway p w)
    bits_out = ap text_bits text_is ∙ (text-not-come its_link (w.this.texts its_link).slot (w.this.texts its_link).subnet).1

  module _ (both : BothOpenInModel p w) where
    here_up : is_up w.this.host ≡ true
    here_up = this_up both.0

    there_up : is_up w.that.host ≡ true
    there_up = that_up both.1

    are_open : BothOpenOnConnection (connection_at p g)
    are_open = (subst (λ (o : EndpointWithHistory). is_open (or_new o.end) ≡ true) (sym sender_is) both.0, subst (λ (o : EndpointWithHistory). is_open (or_new o.end) ≡ true) (sym receiver_is) both.1)

    agree : AmountsAgreeOnConnection (connection_at p g) × PartedOnConnection (connection_at p g)
    agree = fit_open p sp g.sends g.receives (connection_at p g) (all-fit g k.joined.ties.reached p sp) are_open

    counted : (f : Command → Amount) (cs ds : List Command) → cs ≡ ds → total_on (or_new (g.sender p).end).link f cs ≡ total_on (sender_in_model p w).link f ds
    counted f cs ds e = ap (λ (o : EndpointWithHistory). total_on (or_new o.end).link f cs) sender_is ∙ ap (total_on (sender_in_model p w).link f) e

    -- of ALL, and of RET
    grants : total granted (only p g.to_senders) ≡ granted_underway p w
    grants =
        let c = k.joined.ties.coming (alive here_up) in
        let same = c.commands ∙ lives_back here_up there_up in
        let e = granted-all g back p back.to_receivers k.joined.ties.reached k.joined.ties.reached_back (k.joined.ties.there.alive ∙ alive here_up) (k.joined.ties.there.alive_too ∙ alive_there there_up) (k.joined.ties.here.alive ∙ alive_there there_up) (k.joined.ties.here.alive_too ∙ alive here_up) c.same refl c.apt sp are_open in
        sym e ∙ counted granted (commands_of back.to_receivers) (commands_back w) same

    returns : total returned (only p g.to_receivers) ≡ returned_underway p w
    returns =
        let c = k.joined.ties.going (alive_there there_up) in
        let same = c.commands ∙ lives_there here_up there_up in
        let e = returned-all g back p g.to_receivers k.joined.ties.reached k.joined.ties.reached_back (k.joined.ties.there.alive ∙ alive here_up) (k.joined.ties.there.alive_too ∙ alive_there there_up) (k.joined.ties.here.alive ∙ alive_there there_up) (k.joined.ties.here.alive_too ∙ alive here_up) refl c.same c.apt sp are_open in
        sym e ∙ counted returned (commands_of g.to_receivers) (commands_there w) same

    texts : text_amount (g.text p) ≡ amount_of_text (text_underway p w)
    texts = ap (λ (n : ℕ). amount n (length (text_bits (g.text p)))) (messages_out both.0) ∙ ap (λ (xs : List Bool). amount (how_many_texts (text_underway p w)) (length xs)) (bits_out both.0)

  pub on_one_link : OnOneLink p w
  on_one_link o =
      subst (λ (v : EndpointWithHistory). (sender_in_model p w).link ≡ (or_new v.end).link) receiver_is
      (subst (λ (v : EndpointWithHistory). (or_new v.end).link ≡ (or_new (g.receiver p).end).link) sender_is
      (same-link g back p g.to_receivers k.joined.ties.reached k.joined.ties.reached_back (k.joined.ties.there.alive ∙ alive (here_up o)) (k.joined.ties.there.alive_too ∙ alive_there (there_up o)) (k.joined.ties.here.alive ∙ alive_there (there_up o)) (k.joined.ties.here.alive_too ∙ alive (here_up o)) sp (are_open o)))

  pub amounts_agree : AmountsAgreeInModel p w
  amounts_agree o =
      sym (ap (λ (v : EndpointWithHistory). allowance (or_new v.end)) receiver_is)
      ∙ (agree o).0
      ∙ ap (λ (v : EndpointWithHistory). allowance (or_new v.end) ⊕ total granted (only p g.to_senders) ⊕ text_amount (g.text p) ⊕ total returned (only p g.to_receivers)) sender_is
      ∙ ap (λ (a : Amount). allowance (sender_in_model p w) ⊕ a ⊕ text_amount (g.text p) ⊕ total returned (only p g.to_receivers)) (grants o)
      ∙ ap (λ (a : Amount). allowance (sender_in_model p w) ⊕ granted_underway p w ⊕ a ⊕ total returned (only p g.to_receivers)) (texts o)
      ∙ ap (λ (a : Amount). allowance (sender_in_model p w) ⊕ granted_underway p w ⊕ amount_of_text (text_underway p w) ⊕ a) (returns o)

  pub parted : PartedInModel p w
  parted o =
      subst (λ (v : EndpointWithHistory). v.past.given ≡ (past_of w.that.pasts (counterpart p)).got ++ (bits_of_text (text_underway p w) ++ (or_new v.end).stored)) sender_is
      (subst (λ (t : List Bool). (g.sender p).past.given ≡ (past_of w.that.pasts (counterpart p)).got ++ (t ++ (or_new (g.sender p).end).stored)) (bits_out o.0)
      (subst (λ (v : EndpointWithHistory). (g.sender p).past.given ≡ v.past.got ++ (text_bits (g.text p) ++ (or_new (g.sender p).end).stored)) receiver_is (agree o).1))

-- No pair opens on a link while a text is unacknowledged on it.

carried_out : (on : ℕ) (slot : Slot TextOut) (subnet : MessageTransit TextOut) → Carried slot subnet → is_text_out (text_on on slot subnet) ≡ true
carried_out on slot subnet c = grind arith

-- the owner of a link with an unacknowledged text is live, and has the link, at each host that is up
module _ (own own' : Owners) (n m : Node) (x y : List Command) (k : Joined own own' n m x y) (on : ℕ) (p : Pair) (e : own on ≡ Some p) where
  is_owned : Owned on (Some p) (n.texts on) k.ties.g.text
  is_owned = subst (λ (o : Option Pair). Owned on o (n.texts on) k.ties.g.text) e (k.ties.there.texts.owned on)

  owner_up : is_up n.host ≡ true → is_alive n m y ≡ true
  owner_up u = up_alive n.host (rrps (y ++ m.host.phase.waiting)) u

  peer_up : is_up m.host ≡ true → is_alive m n x ≡ true
  peer_up u = up_alive m.host (rrps (x ++ n.host.phase.waiting)) u

  out_opened : (k.ties.g.sends ≡ true → is_live (k.ties.g.sender p).end ≡ true) × (k.ties.g.receives ≡ true → is_live (k.ties.g.receiver p).end ≡ true)
  out_opened = fit_opened p is_owned.sending k.ties.g.sends k.ties.g.receives (connection_at p k.ties.g) (all-fit k.ties.g k.ties.reached p is_owned.sending)
      (ap is_text_out is_owned.text ∙ carried_out on (n.texts on).slot (n.texts on).subnet is_owned.carried)

  sender_live : is_up n.host ≡ true → is_live (get n.ends p) ≡ true
  sender_live u = sym (ap (λ (o : EndpointWithHistory). is_live o.end) (k.ties.there.sender p is_owned.sending)) ∙ out_opened.0 (k.ties.there.alive ∙ owner_up u)

  receiver_live : is_up m.host ≡ true → is_live (get m.ends (counterpart p)) ≡ true
  receiver_live u = sym (ap (λ (o : EndpointWithHistory). is_live o.end) (k.ties.there.receiver p is_owned.sending)) ∙ out_opened.1 (k.ties.there.alive_too ∙ peer_up u)

  sender_has : is_up n.host ≡ true → passes (hears_link on) p (get n.ends p) ≡ true
  sender_has u = text-out-stands-here (is_alive n m y) (is_alive m n x) own own' n m (lives n m x) (lives m n y) on p (owner_up u) e k.ties

  receiver_has : is_up m.host ≡ true → passes (uses_link on) (counterpart p) (get m.ends (counterpart p)) ≡ true
  receiver_has u = text-out-stands (is_alive m n x) (is_alive n m y) own' own m n (lives m n y) (lives n m x) on p (peer_up u) e
      (ties-counterpart (is_alive n m y) (is_alive m n x) own own' n m (lives n m x) (lives m n y) k.ties)

-- Two hosts before and after an event, in which a link with an unacknowledged text kept its owner: any
-- pair with that link is the owner, and it was live. At a host that is not up nothing is live.
module _ (own own' own1 own1' : Owners) (n m n1 m1 : Node) (x y x1 y1 : List Command) (k : Joined own own' n m x y) (k1 : Joined own1 own1' n1 m1 x1 y1)
    (on : ℕ) (q : Pair) (e : own on ≡ Some q) (e1 : own1 on ≡ Some q) where
  sender-kept : EndsInvariant n1.ends → (n.ends ≡ no_ends → (p : Pair) → is_live (get n1.ends p) ≡ false) → (p : Pair) → SenderOpensAt on p n n1 → ⊥
  sender-kept good none p o =
      let lived = and_parts (not (is_live (get n.ends p))) (is_live (get n1.ends p)) o.0 in
      by_up n.host
      (λ u. by_up n1.host
      (λ d.
      let same : p ≡ q = good.heard on p q o.1 (sender_has own1 own1' n1 m1 x1 y1 k1 on q e1 d) in
      let before : is_live (get n.ends p) ≡ true = subst (λ (r : Pair). is_live (get n.ends r) ≡ true) (sym same) (sender_live own own' n m x y k on q e u) in
      both_ways (is_live (get n.ends p)) (not-true (is_live (get n.ends p)) lived.0) before)
      (λ d. live-there n1.ends p lived.1 (k1.this.none d)))
      (λ u. both_ways (is_live (get n1.ends p)) (none (k.this.none u) p) lived.1)

  receiver-kept : EndsInvariant m1.ends → (m.ends ≡ no_ends → (p : Pair) → is_live (get m1.ends p) ≡ false) → (p : Pair) → ReceiverOpensAt on p m m1 → ⊥
  receiver-kept good none p o =
      let lived = and_parts (not (is_live (get m.ends p))) (is_live (get m1.ends p)) o.0 in
      by_up m.host
      (λ u. by_up m1.host
      (λ d.
      let same : p ≡ counterpart q = good.asked on p (counterpart q) o.1 (receiver_has own1 own1' n1 m1 x1 y1 k1 on q e1 d) in
      let before : is_live (get m.ends p) ≡ true = subst (λ (r : Pair). is_live (get m.ends r) ≡ true) (sym same) (receiver_live own own' n m x y k on q e u) in
      both_ways (is_live (get m.ends p)) (not-true (is_live (get m.ends p)) lived.0) before)
      (λ d. live-there m1.ends p lived.1 (k1.that.none d)))
      (λ u. both_ways (is_live (get m1.ends p)) (none (k.that.none u) p) lived.1)

-- what owns a link with a text out
out-owner : (own own' : Owners) (n m : Node) (x y : List Command) → Joined own own' n m x y → (on : ℕ) → is_empty (n.texts on).slot ≡ false → (p : Pair) × (own on ≡ Some p)
out-owner own own' n m x y k on f = owner-of own n.texts k.ties.g.text on k.ties.there.texts (λ z. both_ways (is_empty (n.texts on).slot) f (ap is_empty z))

-- of two worlds, a step apart
module _ (w after : TwoNodes) (t : Ever w) (t1 : Ever after) (f : Follows t.own t1.own w.this.texts after.this.texts)
    (none : w.this.ends ≡ no_ends → (p : Pair) → is_live (get after.this.ends p) ≡ false) (none_there : w.that.ends ≡ no_ends → (p : Pair) → is_live (get after.that.ends p) ≡ false)
    (on : ℕ) (out : StaysOut on w after) where
  owner : (p : Pair) × (t.own on ≡ Some p)
  owner = out-owner t.own t.own' w.this w.that (x w) (y w) t.holds.joined on out.0

  owner_after : t1.own on ≡ Some owner.0
  owner_after = f on out.0 out.1 ∙ owner.1

  pub sender-opens-not : (p : Pair) → SenderOpens on p w after → ⊥
  sender-opens-not = sender-kept t.own t.own' t1.own t1.own' w.this w.that after.this after.that (x w) (y w) (x after) (y after) t.holds.joined t1.holds.joined on owner.0 owner.1 owner_after t1.stand.0.good none

  pub receiver-opens-not : (p : Pair) → ReceiverOpens on p w after → ⊥
  receiver-opens-not = receiver-kept t.own t.own' t1.own t1.own' w.this w.that after.this after.that (x w) (y w) (x after) (y after) t.holds.joined t1.holds.joined on owner.0 owner.1 owner_after t1.stand.1.good none_there

-- of the host that hears a message, before a command of it and after that
module _ (w : TwoNodes) (t : Ever w) (done rest : List Command) (c : Command) (s : w.that.control.subnet ≡ Accepted (done ++ c ∷ rest)) where
  abbrev heard : Node
  heard = node_hears_all done w.this

  before : Joined t.own t.own' heard w.that (x w) (c ∷ rest)
  before = hears_front t.own t.own' w.this w.that (x w) done (c ∷ rest)
      (accepted t.own t.own' w.this w.that w.this.control.slot w.that.control.slot w.this.control.subnet w.that.control.subnet (done ++ c ∷ rest) t.holds s)

  beyond : Joined t.own t.own' (node_hears c heard) w.that (x w) rest
  beyond = hears-keeps t.own t.own' heard w.that (x w) rest c before

  stays_good : EndsInvariant (node_hears c heard).ends
  stays_good = (hearing-stands c heard (hearing_all-stands done w.this t.stand.0)).good

  pub sender-hears-not : (on : ℕ) → is_empty (w.this.texts on).slot ≡ false → (p : Pair) → SenderOpensAt on p heard (node_hears c heard) → ⊥
  sender-hears-not on f =
      let q = out-owner t.own t.own' heard w.that (x w) (c ∷ rest) before on (ap (λ (l : ℕ → Link TextOut). is_empty (l on).slot) (hears_all-texts done w.this) ∙ f) in
      sender-kept t.own t.own' t.own t.own' heard w.that (node_hears c heard) w.that (x w) (c ∷ rest) (x w) rest before beyond on q.0 q.1 q.1 stays_good (λ z p. none-live-heard c heard p z)

  pub receiver-hears-not : (on : ℕ) → is_empty (w.that.texts on).slot ≡ false → (p : Pair) → ReceiverOpensAt on p heard (node_hears c heard) → ⊥
  receiver-hears-not on f =
      let k = joined-counterpart t.own t.own' heard w.that (x w) (c ∷ rest) before in
      let k1 = joined-counterpart t.own t.own' (node_hears c heard) w.that (x w) rest beyond in
      let q = out-owner t.own' t.own w.that heard (c ∷ rest) (x w) k on f in
      receiver-kept t.own' t.own t.own' t.own w.that heard w.that (node_hears c heard) (c ∷ rest) (x w) rest (x w) k k1 on q.0 q.1 q.1 stays_good (λ z p. none-live-heard c heard p z)
