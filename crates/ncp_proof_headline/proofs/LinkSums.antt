-- While both ends of a pair are open, what is underway on its link, of the commands that are counted,
-- is what is underway for that pair.
use Rattle.std.proofs.Common.{◌≡◌, ℕ, ◌+◌, ◌==◌, Bool, true, false, cond, if◌then◌else◌, List, [], ◌∷◌, Option, Some, refl, sym, ap, ◌∙◌, subst, arith}
use Rattle.std.proofs.lemmas.Bool.{both_ways, eqb-true, eq-eqb}
use Rattle.ncp_wire.specs.declared.command.Command.{Command}
use Rattle.ncp_wire.specs.declared.command.Command.TheVariants.{All, Ret}
use Rattle.ncp_model.specs.declared.pair.Pair.{Pair}
use Rattle.ncp_model.specs.Pairs.{sends, is_proper, counterpart, same}
use Rattle.ncp_model.specs.Endpoint.{Endpoint, or_new}
use Rattle.ncp_proof_connection.specs.Connections.{Connection}
use Rattle.ncp_proof_connection.specs.Ledger.{sum_of, total, BothOpenOnConnection}
use Rattle.ncp_proof_headline.specs.Headline.{names_link, sum_on, total_on}
use Rattle.ncp_proof_connection.specs.Sharing.{Tagged, Shared, only, connection_at, hears_at, uses_at}
use Rattle.ncp_proof_connection.proofs.Lines.{Kind, Request, Close, Data, Alien, Comes, Passes, comes_asked, comes_closed, same_number}
use Rattle.ncp_proof_connection.proofs.Joint.{to_sender_kind, to_receiver_kind, kinds, sender_marks, receiver_marks, Place, Together, Sender_ahead, Receiver_ahead, Joint, live_got}
use Rattle.ncp_proof_connection.proofs.Senders.{going_parts}
use Rattle.ncp_proof_connection.proofs.Whole.{Inv, open_parts}
use Rattle.ncp_proof_connection.proofs.Outliving.{Fit}
use Rattle.ncp_proof_connection.proofs.Projecting.{same_refl, same_true}
use Rattle.ncp_proof_connection.proofs.Clear.{Clear, Free, holds, still_left}
use Rattle.ncp_proof_connection.proofs.Linking.{hears_from, uses_from, asks_at}
use Rattle.ncp_proof_headline.proofs.TiesBase.{all-fit, all-linked}
use Rattle.ncp_proof_headline.proofs.Ties.{Reached, commands_of, turn, turn_all, demuxes_nowhere, Apt}
use Rattle.ncp_model.specs.declared.amounts.Amount.{Amount}
use Rattle.ncp_model.specs.Amounts.{amount, no_amount, granted, returned}
use Rattle.ncp_model.specs.Ends.{link_of}

-- What is counted: ALL on its way to the sender, RET on its way to the receiver.

abbrev pub is_all : Command → Bool
is_all (All on of_messages of_bits) = true
is_all c = false

abbrev pub is_ret : Command → Bool
is_ret (Ret on of_messages of_bits) = true
is_ret c = false

no_grant : (c : Command) → is_all c ≡ false → granted c ≡ no_amount
no_grant (All on of_messages of_bits) n = absurd (cc n)
no_grant c n = refl

no_return : (c : Command) → is_ret c ≡ false → returned c ≡ no_amount
no_return (Ret on of_messages of_bits) n = absurd (cc n)
no_return c n = refl

-- amounts that have as many messages and as many bits
same_amount : {a b c d : ℕ} → a ≡ b → c ≡ d → amount a c ≡ amount b d
same_amount e f = rw (e, f) refl

-- such a command names a link; no end makes it the other way, and it leads somewhere
record Counted (there back : Command → Kind) (b : Bool) (c : Command) : Type 0 where
  on : ℕ
  link : link_of c ≡ Some on
  kind : there c ≡ Data b on
  alien : back c ≡ Alien
  leads : demuxes_nowhere c ≡ false

all-counted : (c : Command) → is_all c ≡ true → Counted to_sender_kind to_receiver_kind true c
all-counted (All on m b) e = record { on = on; link = refl; kind = refl; alien = refl; leads = refl }
all-counted c e = absurd (cc e)

ret-counted : (c : Command) → is_ret c ≡ true → Counted to_receiver_kind to_sender_kind false c
ret-counted (Ret on m b) e = record { on = on; link = refl; kind = refl; alien = refl; leads = refl }
ret-counted c e = absurd (cc e)

-- The sums agree where each command that is counted names the link exactly where it is tagged p.

abbrev Each : (Command → Bool) → ℕ → Pair → List Tagged → Type 0
Each test on p [] = Unit {0}
Each test on p (c ∷ cs) = (test c.command ≡ true → names_link on (link_of c.command) ≡ same c.pair p) × Each test on p cs

sums : (test : Command → Bool) (f : Command → ℕ) → ((c : Command) → test c ≡ false → f c ≡ 0) → (on : ℕ) (p : Pair) (cs : List Tagged) → Each test on p cs → sum_on on f (commands_of cs) ≡ sum_of f (only p cs)
sums test f none on p [] e = refl
sums test f none on p (c ∷ cs) e = go (same c.pair p) (names_link on (link_of c.command)) (test c.command) refl e.0 (sums test f none on p cs e.1)
  where
    nothing : (t : Bool) → test c.command ≡ t → (t ≡ true → ⊥) → f c.command ≡ 0
    nothing true d h = absurd (h refl)
    nothing false d h = none c.command d

    go : (s i t : Bool) → test c.command ≡ t → (t ≡ true → i ≡ s) → sum_on on f (commands_of cs) ≡ sum_of f (only p cs)
        → cond i (f c.command) 0 + sum_on on f (commands_of cs) ≡ sum_of f (cond s (c.command ∷ only p cs) (only p cs))
    go true true t d h k = ap (λ (x : ℕ). f c.command + x) k
    go false false t d h k = omega (arith, k)
    go true false t d h k = omega (arith, k, nothing t d (λ x. both_ways false refl (h x)))
    go false true t d h k = omega (arith, k, nothing t d (λ x. both_ways true (h x) refl))

false_if : (b : Bool) → (b ≡ true → ⊥) → b ≡ false
false_if true f = absurd (f refl)
false_if false f = refl

-- it names the link, or not
names : (on m : ℕ) (o : Option ℕ) (b : Bool) → o ≡ Some m → (b ≡ true → m ≡ on) → (b ≡ false → m ≡ on → ⊥) → names_link on o ≡ b
names on m o true e f h = rw e (eq-eqb m on (f refl))
names on m o false e f h = rw e (false_if (m == on) (λ x. h refl (eqb-true m on x)))

its : (b : Bool) (on x y : ℕ) → on ≡ (if b then x else y) → b ≡ true → on ≡ x
its true on x y e k = e
its false on x y e k = absurd (both_ways false refl k)

own : (b : Bool) (on x y : ℕ) → on ≡ (if b then x else y) → b ≡ false → on ≡ y
own true on x y e k = absurd (both_ways true k refl)
own false on x y e k = e

-- What comes to a sender names the link that it heard (h, x).

abbrev Hears : Bool → ℕ → List Kind → Type 0
Hears h x [] = Unit {0}
Hears h x (Request m g ∷ ks) = Hears true m ks
Hears h x (Close ∷ ks) = Hears false 0 ks
Hears h x (Data b on ∷ ks) = (h ≡ true) × (b ≡ true → on ≡ x) × Hears h x ks
Hears h x (Alien ∷ ks) = ⊥

hears-comes : (h c : Bool) (x y : ℕ) (ks : List Kind) (a o l : Bool) (n : ℕ) → Comes h c x y ks a o l n → Hears h x ks
hears-comes h c x y [] a o l n k = tt
hears-comes h c x y (Request m g ∷ ks) a o l n k = hears-comes true c m y ks a o l n k.3
hears-comes h c x y (Close ∷ ks) a o l n k = subst (λ (z : List Kind). Hears false 0 z) (sym (comes_closed h x y ks a o l n k.2).0) tt
hears-comes h c x y (Data b on ∷ ks) a o l n k = (k.0, its b on x y k.3, hears-comes h c x y ks a o l n k.4)
hears-comes h c x y (Alien ∷ ks) a o l n k = absurd k

hears-passes : (g h : Bool) (x y : ℕ) (ks : List Kind) (a o l : Bool) (n : ℕ) → Passes g h x y ks a o l n → Hears h x ks
hears-passes g h x y [] a o l n k = absurd k
hears-passes g h x y (Request m u ∷ ks) a o l n k = hears-passes g true m y ks a o l n k.2
hears-passes g h x y (Close ∷ ks) a o l n k = hears-comes false false 0 0 ks a o l n k
hears-passes g h x y (Data b on ∷ ks) a o l n k = (k.0, its b on x y k.2, hears-passes g h x y ks a o l n k.3)
hears-passes g h x y (Alien ∷ ks) a o l n k = absurd k

-- What comes to a receiver names the link with which it asked (r, y).

abbrev Tells : Bool → ℕ → List Kind → Type 0
Tells r y [] = Unit {0}
Tells r y (Request m g ∷ ks) = Tells r y ks
Tells r y (Close ∷ ks) = Tells r y ks
Tells r y (Data b on ∷ ks) = (b ≡ false → (r ≡ true) × (on ≡ y)) × Tells r y ks
Tells r y (Alien ∷ ks) = ⊥

tells-comes : (r : Bool) (y : ℕ) (h c : Bool) (x z : ℕ) (ks : List Kind) (a o l : Bool) (n : ℕ) → (o ≡ true → (r ≡ true) × (z ≡ y)) → Comes h c x z ks a o l n → Tells r y ks
tells-comes r y h c x z [] a o l n f k = tt
tells-comes r y h c x z (Request m g ∷ ks) a o l n f k = tells-comes r y true c m z ks a o l n f k.3
tells-comes r y h c x z (Close ∷ ks) a o l n f k = tells-comes r y h true x z ks a o l n f k.2
tells-comes r y h c x z (Data b on ∷ ks) a o l n f k = (λ e. ((f k.2).0, own b on x z k.3 e ∙ (f k.2).1), tells-comes r y h c x z ks a o l n f k.4)
tells-comes r y h c x z (Alien ∷ ks) a o l n f k = absurd k

tells-passes : (g h : Bool) (x y : ℕ) (ks : List Kind) (a o l : Bool) (n : ℕ) → o ≡ false → Passes g h x y ks a o l n → Tells g y ks
tells-passes g h x y [] a o l n f k = absurd k
tells-passes g h x y (Request m u ∷ ks) a o l n f k = tells-passes g true m y ks a o l n f k.2
tells-passes g h x y (Close ∷ ks) a o l n f k = tells-comes g y false false 0 0 ks a o l n (λ e. absurd (both_ways o f e)) k
tells-passes g h x y (Data b on ∷ ks) a o l n f k = (λ e. (k.1, own b on x y k.2 e), tells-passes g h x y ks a o l n f k.3)
tells-passes g h x y (Alien ∷ ks) a o l n f k = absurd k

-- To an open sender, from an open receiver, nothing comes but what names its link (x).

abbrev Own : ℕ → List Kind → Type 0
Own x [] = Unit {0}
Own x (Request m g ∷ ks) = ⊥
Own x (Close ∷ ks) = ⊥
Own x (Data b on ∷ ks) = (b ≡ true → on ≡ x) × Own x ks
Own x (Alien ∷ ks) = ⊥

own-comes : (h c : Bool) (x y : ℕ) (ks : List Kind) (a o l : Bool) (n : ℕ) → h ≡ true → l ≡ false → Comes h c x y ks a o l n → Own x ks
own-comes h c x y [] a o l n e f k = tt
own-comes h c x y (Request m g ∷ ks) a o l n e f k = absurd (both_ways h k.0 e)
own-comes h c x y (Close ∷ ks) a o l n e f k = absurd (both_ways l f (comes_closed h x y ks a o l n k.2).1)
own-comes h c x y (Data b on ∷ ks) a o l n e f k = (its b on x y k.3, own-comes h c x y ks a o l n e f k.4)
own-comes h c x y (Alien ∷ ks) a o l n e f k = absurd k

-- nothing comes that no end makes
abbrev Known : List Kind → Type 0
Known [] = Unit {0}
Known (Request m g ∷ ks) = Known ks
Known (Close ∷ ks) = Known ks
Known (Data b on ∷ ks) = Known ks
Known (Alien ∷ ks) = ⊥

known-hears : (h : Bool) (x : ℕ) (ks : List Kind) → Hears h x ks → Known ks
known-hears h x [] k = tt
known-hears h x (Request m g ∷ ks) k = known-hears true m ks k
known-hears h x (Close ∷ ks) k = known-hears false 0 ks k
known-hears h x (Data b on ∷ ks) k = known-hears h x ks k.2
known-hears h x (Alien ∷ ks) k = k

known-tells : (r : Bool) (y : ℕ) (ks : List Kind) → Tells r y ks → Known ks
known-tells r y [] k = tt
known-tells r y (Request m g ∷ ks) k = known-tells r y ks k
known-tells r y (Close ∷ ks) k = known-tells r y ks k
known-tells r y (Data b on ∷ ks) k = known-tells r y ks k.1
known-tells r y (Alien ∷ ks) k = k

-- One connection.

module _ (q : Pair) (sq : sends q ≡ true) (w : Connection) (k : Inv q w) where
  abbrev s : Endpoint
  s = or_new w.sender.end

  abbrev r : Endpoint
  r = or_new w.receiver.end

  to-sender : Hears s.heard s.link (kinds to_sender_kind w.to_sender)
  to-sender = go k.core.place k.core.joint
    where
      go : (d : Place) → Joint d s w.sender.past.given r (live_got w.receiver.end w.receiver.past) w.to_receiver w.to_sender w.text → Hears s.heard s.link (kinds to_sender_kind w.to_sender)
      go Together j = hears-comes s.heard s.cls s.link s.size (kinds to_sender_kind w.to_sender) r.asked r.heard r.left r.link j.0.back
      go Sender_ahead j = subst (λ (z : List Kind). Hears s.heard s.link z) (sym j.none) tt
      go Receiver_ahead j = hears-passes s.asked s.heard s.link s.size (kinds to_sender_kind w.to_sender) r.asked r.heard r.left r.link j.passes

  to-receiver : Tells r.asked r.link (kinds to_receiver_kind w.to_receiver)
  to-receiver = go k.core.place k.core.joint
    where
      go : (d : Place) → Joint d s w.sender.past.given r (live_got w.receiver.end w.receiver.past) w.to_receiver w.to_sender w.text → Tells r.asked r.link (kinds to_receiver_kind w.to_receiver)
      go Together j = tells-comes r.asked r.link r.heard r.cls r.size r.link (kinds to_receiver_kind w.to_receiver) s.asked s.heard s.left s.size
          (λ e. (comes_asked s.heard s.cls s.link s.size (kinds to_sender_kind w.to_sender) r.asked r.heard r.left r.link e j.0.back, refl)) j.0.there
      go Sender_ahead j = tells-passes r.asked r.heard r.size r.link (kinds to_receiver_kind w.to_receiver) s.asked s.heard s.left s.size j.unheard j.passes
      go Receiver_ahead j = subst (λ (z : List Kind). Tells r.asked r.link z) (sym j.none) tt

  -- both its ends are open
  abbrev Joined : Type 0
  Joined = record { heard : s.heard ≡ true; asked : r.asked ≡ true; link : s.link ≡ r.link; own : Own s.link (kinds to_sender_kind w.to_sender) }

  joined : BothOpenOnConnection w → Joined
  joined o = go k.core.place k.core.joint
    where
      so : (s.asked ≡ true) × (s.heard ≡ true) × (s.left ≡ false)
      so = (let u = open_parts q sq s o.0 in (u.0, u.1, (going_parts s u.2).1))

      ro : (r.asked ≡ true) × (r.heard ≡ true) × (r.left ≡ false)
      ro = (let u = open_parts q sq r o.1 in (u.0, u.1, (going_parts r u.2).1))

      go : (d : Place) → Joint d s w.sender.past.given r (live_got w.receiver.end w.receiver.past) w.to_receiver w.to_sender w.text → Joined
      go Together j = record {
        heard = so.1;
        asked = ro.0;
        link = same_number (sender_marks s) (receiver_marks r) (kinds to_receiver_kind w.to_receiver) (kinds to_sender_kind w.to_sender) so.1 j.0;
        own = own-comes s.heard s.cls s.link s.size (kinds to_sender_kind w.to_sender) r.asked r.heard r.left r.link so.1 ro.2 j.0.back;
      }
      go Sender_ahead j = absurd (both_ways r.left ro.2 j.left)
      go Receiver_ahead j = absurd (both_ways s.left so.2 j.left)

-- What is tagged with a pair that does not send is a command of the other way, and not counted.

abbrev Beside : (Command → Bool) → List Tagged → Type 0
Beside test [] = Unit {0}
Beside test (c ∷ cs) = (sends c.pair ≡ false → test c.command ≡ false) × Beside test cs

improper : (p : Pair) → sends p ≡ false → sends (counterpart p) ≡ false → is_proper p ≡ false
improper p e f = grind arith

known-later : (back : Command → Kind) (q : Pair) (c : Tagged) (cs : List Tagged) → Known (kinds back (only q (c ∷ cs))) → Known (kinds back (only q cs))
known-later back q c cs k = go (same c.pair q) k
  where
    at_own : (z : Kind) → Known (z ∷ kinds back (only q cs)) → Known (kinds back (only q cs))
    at_own (Request m g) k = k
    at_own Close k = k
    at_own (Data b on) k = k
    at_own Alien k = absurd k

    go : (b : Bool) → Known (kinds back (cond b (c.command ∷ only q cs) (only q cs))) → Known (kinds back (only q cs))
    go true k = at_own (back c.command) k
    go false k = k

module _ (test : Command → Bool) (there back : Command → Kind) (b : Bool) (counted : (c : Command) → test c ≡ true → Counted there back b c) where
  beside : (cs : List Tagged) → Apt cs → ((q : Pair) → sends q ≡ true → Known (kinds back (only q (turn_all cs)))) → Beside test cs
  beside [] a k = tt
  beside (c ∷ cs) a k = (λ e. false_if (test c.command) (other (sends (counterpart c.pair)) refl e), beside cs a.1 (λ q sq. known-later back q (turn c) (turn_all cs) (k q sq)))
    where
      other : (t : Bool) → sends (counterpart c.pair) ≡ t → sends c.pair ≡ false → test c.command ≡ true → ⊥
      other true d e m =
          let u : Known (back c.command ∷ kinds back (only (counterpart c.pair) (turn_all cs))) = rw (same_refl (counterpart c.pair)) at (k (counterpart c.pair) d) in
          subst (λ (z : Kind). Known (z ∷ kinds back (only (counterpart c.pair) (turn_all cs)))) (counted c.command m).alien u
      other false d e m = both_ways (demuxes_nowhere c.command) (counted c.command m).leads (a.0 (improper c.pair e d))

-- The commands to the senders.

-- no request of another pair takes the link
abbrev Spared : ℕ → Kind → Type 0
Spared on (Request m g) = m ≡ on → ⊥
Spared on z = Unit {0}

abbrev Untaken : ℕ → Pair → List Tagged → Type 0
Untaken on p [] = Unit {0}
Untaken on p (c ∷ cs) = (same c.pair p ≡ false → sends c.pair ≡ true → Spared on (to_sender_kind c.command)) × Untaken on p cs

own-later : (on : ℕ) (p : Pair) (c : Tagged) (cs : List Tagged) → Own on (kinds to_sender_kind (only p (c ∷ cs))) → Own on (kinds to_sender_kind (only p cs))
own-later on p c cs k = go (same c.pair p) k
  where
    at_own : (z : Kind) → Own on (z ∷ kinds to_sender_kind (only p cs)) → Own on (kinds to_sender_kind (only p cs))
    at_own (Request m g) k = absurd k
    at_own Close k = absurd k
    at_own (Data b m) k = k.1
    at_own Alien k = absurd k

    go : (b : Bool) → Own on (kinds to_sender_kind (cond b (c.command ∷ only p cs) (only p cs))) → Own on (kinds to_sender_kind (only p cs))
    go true k = at_own (to_sender_kind c.command) k
    go false k = k

untaken : (on : ℕ) (p : Pair) (cs : List Tagged) (l a : Bool) → Own on (kinds to_sender_kind (only p cs)) → Clear p on cs true l a → Untaken on p cs
untaken on p [] l a o k = tt
untaken on p (c ∷ cs) l a o k = (free, untaken on p cs l a (own-later on p c cs o) (go (same c.pair p) o k.1))
  where
    spared : (z : Kind) → Free z true on true → Spared on z
    spared (Request m g) f = λ e. both_ways true (f e) refl
    spared Close f = tt
    spared (Data b m) f = tt
    spared Alien f = tt

    free : same c.pair p ≡ false → sends c.pair ≡ true → Spared on (to_sender_kind c.command)
    free d e = spared (to_sender_kind c.command) (rw (d, e) at k.0)

    at_own : (z : Kind) → Own on (z ∷ kinds to_sender_kind (only p cs)) → Clear p on cs (holds z true on l true) (still_left z true l) a → Clear p on cs true l a
    at_own (Request m g) o k = absurd o
    at_own Close o k = absurd o
    at_own (Data b m) o k = k
    at_own Alien o k = absurd o

    at_other : (z : Kind) → Clear p on cs (holds z false on l true) (still_left z false l) a → Clear p on cs true l a
    at_other (Request m g) k = k
    at_other Close k = k
    at_other (Data b m) k = k
    at_other Alien k = k

    go : (b : Bool) → Own on (kinds to_sender_kind (cond b (c.command ∷ only p cs) (only p cs))) → Clear p on cs (holds (to_sender_kind c.command) b on l true) (still_left (to_sender_kind c.command) b l) a → Clear p on cs true l a
    go true o k = at_own (to_sender_kind c.command) o k
    go false o k = at_other (to_sender_kind c.command) k

-- a pair whose sender, as these come, has heard another link, or none
record Apart (on : ℕ) (q : Pair) (cs : List Tagged) : Type 0 where
  heard : Bool
  link : ℕ
  other : heard ≡ true → link ≡ on → ⊥
  hears : Hears heard link (kinds to_sender_kind (only q cs))

apart-later : (on : ℕ) (q : Pair) (c : Tagged) (cs : List Tagged) → (same c.pair q ≡ true → Spared on (to_sender_kind c.command)) → Apart on q (c ∷ cs) → Apart on q cs
apart-later on q c cs f k = go (same c.pair q) refl k.hears
  where
    at_own : (z : Kind) → Spared on z → Hears k.heard k.link (z ∷ kinds to_sender_kind (only q cs)) → Apart on q cs
    at_own (Request m g) s h = record { heard = true; link = m; other = λ _. s; hears = h }
    at_own Close s h = record { heard = false; link = 0; other = λ e. absurd (both_ways false refl e); hears = h }
    at_own (Data b m) s h = record { heard = k.heard; link = k.link; other = k.other; hears = h.2 }
    at_own Alien s h = absurd h

    go : (b : Bool) → same c.pair q ≡ b → Hears k.heard k.link (kinds to_sender_kind (cond b (c.command ∷ only q cs) (only q cs))) → Apart on q cs
    go true e h = at_own (to_sender_kind c.command) (f e) h
    go false e h = record { heard = k.heard; link = k.link; other = k.other; hears = h }

alls : (on : ℕ) (p : Pair) (cs : List Tagged) → Own on (kinds to_sender_kind (only p cs)) → Untaken on p cs → Beside is_all cs → ((q : Pair) → sends q ≡ true → same q p ≡ false → Apart on q cs) → Each is_all on p cs
alls on p [] o u b f = tt
alls on p (c ∷ cs) o u b f = (first, alls on p cs (own-later on p c cs o) u.1 b.1 (λ q sq d. apart-later on q c cs (λ e. later q sq d (same_true c.pair q e)) (f q sq d)))
  where
    later : (q : Pair) → sends q ≡ true → same q p ≡ false → c.pair ≡ q → Spared on (to_sender_kind c.command)
    later q sq d e = u.0 (subst (λ (x : Pair). same x p ≡ false) (sym e) d) (subst (λ (x : Pair). sends x ≡ true) (sym e) sq)

    first : is_all c.command ≡ true → names_link on (link_of c.command) ≡ same c.pair p
    first e = names on n.on (link_of c.command) (same c.pair p) n.link mine others
      where
        n : Counted to_sender_kind to_receiver_kind true c.command
        n = all-counted c.command e

        mine : same c.pair p ≡ true → n.on ≡ on
        mine d =
            let v : Own on (to_sender_kind c.command ∷ kinds to_sender_kind (only p cs)) = rw d at o in
            (subst (λ (z : Kind). Own on (z ∷ kinds to_sender_kind (only p cs))) n.kind v).0 refl

        of_sender : same c.pair p ≡ false → sends c.pair ≡ true → n.on ≡ on → ⊥
        of_sender d sc x =
            let a : Apart on c.pair (c ∷ cs) = f c.pair sc d in
            let h : Hears a.heard a.link (to_sender_kind c.command ∷ kinds to_sender_kind (only c.pair cs)) = rw (same_refl c.pair) at a.hears in
            let v = subst (λ (z : Kind). Hears a.heard a.link (z ∷ kinds to_sender_kind (only c.pair cs))) n.kind h in
            a.other v.0 (sym (v.1 refl) ∙ x)

        others : same c.pair p ≡ false → n.on ≡ on → ⊥
        others d x = by_pair (sends c.pair) refl
          where
            by_pair : (t : Bool) → sends c.pair ≡ t → ⊥
            by_pair true sc = of_sender d sc x
            by_pair false sc = both_ways (is_all c.command) (b.0 sc) e

-- The commands to the receivers.

tells-later : (r : Bool) (y : ℕ) (q : Pair) (c : Tagged) (cs : List Tagged) → Tells r y (kinds to_receiver_kind (only q (c ∷ cs))) → Tells r y (kinds to_receiver_kind (only q cs))
tells-later r y q c cs k = go (same c.pair q) k
  where
    at_own : (z : Kind) → Tells r y (z ∷ kinds to_receiver_kind (only q cs)) → Tells r y (kinds to_receiver_kind (only q cs))
    at_own (Request m g) k = k
    at_own Close k = k
    at_own (Data b m) k = k.1
    at_own Alien k = absurd k

    go : (b : Bool) → Tells r y (kinds to_receiver_kind (cond b (c.command ∷ only q cs) (only q cs))) → Tells r y (kinds to_receiver_kind (only q cs))
    go true k = at_own (to_receiver_kind c.command) k
    go false k = k

module _ (g : Shared) (alone : (p q : Pair) (on : ℕ) → uses_at g on p ≡ true → uses_at g on q ≡ true → p ≡ q) (on : ℕ) (p : Pair) (mine : (or_new (g.receiver p).end).link ≡ on) (uses : uses_at g on p ≡ true) (sp : sends p ≡ true) where
  abbrev AllTell : List Tagged → Type 0
  AllTell cs = (q : Pair) → sends q ≡ true → Tells (or_new (g.receiver q).end).asked (or_new (g.receiver q).end).link (kinds to_receiver_kind (only q cs))

  rets : (cs : List Tagged) → Beside is_ret cs → AllTell cs → Each is_ret on p cs
  rets [] b f = tt
  rets (c ∷ cs) b f = (first, rets cs b.1 (λ q sq. tells-later (or_new (g.receiver q).end).asked (or_new (g.receiver q).end).link q c cs (f q sq)))
    where
      first : is_ret c.command ≡ true → names_link on (link_of c.command) ≡ same c.pair p
      first e = by_pair (sends c.pair) refl
        where
          n : Counted to_receiver_kind to_sender_kind false c.command
          n = ret-counted c.command e

          there : sends c.pair ≡ true → ((or_new (g.receiver c.pair).end).asked ≡ true) × (n.on ≡ (or_new (g.receiver c.pair).end).link)
          there sc =
              let y : Endpoint = or_new (g.receiver c.pair).end in
              let h : Tells y.asked y.link (to_receiver_kind c.command ∷ kinds to_receiver_kind (only c.pair cs)) = rw (same_refl c.pair) at (f c.pair sc) in
              (subst (λ (z : Kind). Tells y.asked y.link (z ∷ kinds to_receiver_kind (only c.pair cs))) n.kind h).0 refl

          apart : sends c.pair ≡ true → same c.pair p ≡ false → n.on ≡ on → ⊥
          apart sc d x =
              let v = there sc in
              let m : c.pair ≡ p = alone c.pair p on (uses_from on c.pair (or_new (g.receiver c.pair).end) sc v.0 (sym v.1 ∙ x)) uses in
              both_ways (same c.pair p) d (subst (λ (z : Pair). same c.pair z ≡ true) m (same_refl c.pair))

          by_pair : (t : Bool) → sends c.pair ≡ t → names_link on (link_of c.command) ≡ same c.pair p
          by_pair true sc = names on n.on (link_of c.command) (same c.pair p) n.link
              (λ d. (there sc).1 ∙ (ap (λ (z : Pair). (or_new (g.receiver z).end).link) (same_true c.pair p d) ∙ mine)) (apart sc)
          by_pair false sc = absurd (both_ways (is_ret c.command) (b.0 sc) e)

-- A machine that came about.

inv-at : (g : Shared) → Reached g → g.sends ≡ true → g.receives ≡ true → (q : Pair) → sends q ≡ true → Inv q (connection_at q g)
inv-at g r a b q sq = subst (λ (x : Bool). Fit q x true (connection_at q g)) a (subst (λ (x : Bool). Fit q g.sends x (connection_at q g)) b (all-fit g r q sq))

-- the same commands, with each pair as the other host has it

commands-counterpart : (cs : List Tagged) → commands_of (turn_all cs) ≡ commands_of cs
commands-counterpart [] = refl
commands-counterpart (c ∷ cs) = ap (λ (l : List Command). c.command ∷ l) (commands-counterpart cs)

counterpart-twice : (cs : List Tagged) → turn_all (turn_all cs) ≡ cs
counterpart-twice [] = refl
counterpart-twice (c ∷ cs) = ap (λ (l : List Tagged). c ∷ l) (counterpart-twice cs)

proper-counterpart : (p : Pair) → is_proper (counterpart p) ≡ false → is_proper p ≡ false
proper-counterpart p e = grind arith

apt-counterpart : (cs : List Tagged) → Apt cs → Apt (turn_all cs)
apt-counterpart [] a = tt
apt-counterpart (c ∷ cs) a = (λ e. a.0 (proper-counterpart c.pair e), apt-counterpart cs a.1)

module _ (g back : Shared) (p : Pair) (ts : List Tagged) (r : Reached g) (r' : Reached back) (a : g.sends ≡ true) (b : g.receives ≡ true) (a' : back.sends ≡ true) (b' : back.receives ≡ true) where
  pub same-link : sends p ≡ true → BothOpenOnConnection (connection_at p g) → (or_new (g.sender p).end).link ≡ (or_new (g.receiver p).end).link
  same-link sp o = (joined p sp (connection_at p g) (inv-at g r a b p sp) o).link

  -- of ALL, to the senders of g
  pub grants-on : g.to_senders ≡ turn_all ts → back.to_receivers ≡ ts → Apt ts → sends p ≡ true → BothOpenOnConnection (connection_at p g) → (f : Command → ℕ) → ((c : Command) → is_all c ≡ false → f c ≡ 0)
      → sum_on (or_new (g.sender p).end).link f (commands_of ts) ≡ sum_of f (only p g.to_senders)
  grants-on e e' t sp o f none = ap (λ (l : List Command). sum_on on f l) (sym (commands-counterpart ts) ∙ ap commands_of (sym e)) ∙ sums is_all f none on p g.to_senders each
    where
      on : ℕ
      on = (or_new (g.sender p).end).link

      j : Joined p sp (connection_at p g) (inv-at g r a b p sp)
      j = joined p sp (connection_at p g) (inv-at g r a b p sp) o

      holds_it : hears_at g on p ≡ true
      holds_it = hears_from on p (or_new (g.sender p).end) sp j.heard refl

      clear : Clear p on g.to_senders true (or_new (g.sender p).end).left (asks_at g on p)
      clear = subst (λ (x : Bool). Clear p on g.to_senders x (or_new (g.sender p).end).left (asks_at g on p)) holds_it ((all-linked g r).clear a p on sp)

      apart : (q : Pair) → sends q ≡ true → same q p ≡ false → Apart on q g.to_senders
      apart q sq d = record {
        heard = (or_new (g.sender q).end).heard;
        link = (or_new (g.sender q).end).link;
        other = λ h x. both_ways (same q p) d (subst (λ (z : Pair). same q z ≡ true) ((all-linked g r).senders a q p on (hears_from on q (or_new (g.sender q).end) sq h x) holds_it) (same_refl q));
        hears = to-sender q sq (connection_at q g) (inv-at g r a b q sq);
      }

      known : (q : Pair) → sends q ≡ true → Known (kinds to_receiver_kind (only q (turn_all (turn_all ts))))
      known q sq = subst (λ (l : List Tagged). Known (kinds to_receiver_kind (only q l))) (e' ∙ sym (counterpart-twice ts))
          (known-tells (or_new (back.receiver q).end).asked (or_new (back.receiver q).end).link (kinds to_receiver_kind (only q back.to_receivers)) (to-receiver q sq (connection_at q back) (inv-at back r' a' b' q sq)))

      each : Each is_all on p g.to_senders
      each = alls on p g.to_senders j.own (untaken on p g.to_senders (or_new (g.sender p).end).left (asks_at g on p) j.own clear)
          (subst (λ (l : List Tagged). Beside is_all l) (sym e) (beside is_all to_sender_kind to_receiver_kind true all-counted (turn_all ts) (apt-counterpart ts t) known)) apart

  pub granted-all : g.to_senders ≡ turn_all ts → back.to_receivers ≡ ts → Apt ts → sends p ≡ true → BothOpenOnConnection (connection_at p g)
      → total_on (or_new (g.sender p).end).link granted (commands_of ts) ≡ total granted (only p g.to_senders)
  granted-all e e' t sp o =
      same_amount (grants-on e e' t sp o (λ c. (granted c).messages) (λ c n. ap (λ (a : Amount). a.messages) (no_grant c n)))
      (grants-on e e' t sp o (λ c. (granted c).bits) (λ c n. ap (λ (a : Amount). a.bits) (no_grant c n)))

  -- of RET, to the receivers of g
  pub returns-on : g.to_receivers ≡ ts → back.to_senders ≡ turn_all ts → Apt ts → sends p ≡ true → BothOpenOnConnection (connection_at p g) → (f : Command → ℕ) → ((c : Command) → is_ret c ≡ false → f c ≡ 0)
      → sum_on (or_new (g.sender p).end).link f (commands_of ts) ≡ sum_of f (only p g.to_receivers)
  returns-on e e' t sp o f none = ap (λ (l : List Tagged). sum_on on f (commands_of l)) (sym e) ∙ sums is_ret f none on p g.to_receivers each
    where
      on : ℕ
      on = (or_new (g.sender p).end).link

      j : Joined p sp (connection_at p g) (inv-at g r a b p sp)
      j = joined p sp (connection_at p g) (inv-at g r a b p sp) o

      uses : uses_at g on p ≡ true
      uses = uses_from on p (or_new (g.receiver p).end) sp j.asked (sym j.link)

      known : (q : Pair) → sends q ≡ true → Known (kinds to_sender_kind (only q (turn_all ts)))
      known q sq = subst (λ (l : List Tagged). Known (kinds to_sender_kind (only q l))) e'
          (known-hears (or_new (back.sender q).end).heard (or_new (back.sender q).end).link (kinds to_sender_kind (only q back.to_senders)) (to-sender q sq (connection_at q back) (inv-at back r' a' b' q sq)))

      each : Each is_ret on p g.to_receivers
      each = rets g ((all-linked g r).receivers b) on p (sym j.link) uses sp g.to_receivers
          (subst (λ (l : List Tagged). Beside is_ret l) (sym e) (beside is_ret to_receiver_kind to_sender_kind false ret-counted ts t known))
          (λ q sq. to-receiver q sq (connection_at q g) (inv-at g r a b q sq))

  pub returned-all : g.to_receivers ≡ ts → back.to_senders ≡ turn_all ts → Apt ts → sends p ≡ true → BothOpenOnConnection (connection_at p g)
      → total_on (or_new (g.sender p).end).link returned (commands_of ts) ≡ total returned (only p g.to_receivers)
  returned-all e e' t sp o =
      same_amount (returns-on e e' t sp o (λ c. (returned c).messages) (λ c n. ap (λ (a : Amount). a.messages) (no_return c n)))
      (returns-on e e' t sp o (λ c. (returned c).bits) (λ c n. ap (λ (a : Amount). a.bits) (no_return c n)))
