-- Meant for other crates too: they cite what is public here.
--
-- What happens at an end of a host, and the same at the end of its connection in a machine: the host
-- and the machines stay tied.
use Rattle.std.proofs.Common.{◌≡◌, Bool, true, false, ◌||◌, if◌then◌else◌, List, [], ◌∷◌, ◌++◌, refl, sym, ap, ◌∙◌, subst, arith}
use Rattle.std.proofs.lemmas.Bool.{both_ways}
use Rattle.std.proofs.lemmas.List.{append-nil, append_assoc}
use Rattle.std.specs.FinMap.{get}
use Rattle.ncp_wire.specs.declared.command.Command.{Command}
use Rattle.ncp_model.specs.declared.pair.Pair.{Pair}
use Rattle.ncp_model.specs.Pairs.{sends, is_proper, counterpart, same}
use Rattle.ncp_model.specs.EndpointEvents.{EndpointEvent, happens, is_violation}
use Rattle.ncp_proof_endpoint.specs.Histories.{EndpointWithHistory, watches}
use Rattle.ncp_proof_connection.specs.Connections.{Text}
use Rattle.ncp_proof_connection.specs.Sharing.{Shared, connection_at, set_at_pair, tag, Tagged, Other_to_senders, Other_to_receivers, shared_occurs}
use Rattle.ncp_proof_machine.specs.Hosts.{Node}
use Rattle.ncp_proof_connection.proofs.Outliving.{fit_safe}
use Rattle.ncp_proof_connection.proofs.Linking.{LinkFits}
use Rattle.ncp_proof_connection.proofs.LinkSteps.{links_ever}
use Rattle.ncp_proof_connection.proofs.Projecting.{same_refl, same_true, AllFit, fits_ever}
use Rattle.ncp_proof_headline.specs.Tied.{watched_at}
use Rattle.ncp_proof_headline.proofs.Ties.{Reached, Owners, Texts, Way, commands_of, turn, turn_all, Apt, Flow, Ties, further, reached-same}

-- this happened at one pair of a host, and nothing at the others
abbrev pub Sees : Node → Node → Pair → EndpointEvent → Type 0
Sees n n' pair what = record {
  at_it : watched_at n' pair ≡ watches pair what (watched_at n pair);
  beside : (q : Pair) → ((q ≡ pair) → ⊥) → watched_at n' q ≡ watched_at n q;
}

-- a machine after this happened at a sender, or at a receiver, of pair p, whose text is now t
abbrev pub sender_did : Pair → EndpointEvent → Text → Shared → Shared
sender_did p what t g = record g {
  sender = set_at_pair p (watches p what (g.sender p)) g.sender;
  receiver = set_at_pair p (g.receiver p) g.receiver;
  text = set_at_pair p t g.text;
  violated = set_at_pair p (g.violated p || is_violation (happens p what (g.sender p).end).outcome) g.violated;
  to_receivers = g.to_receivers ++ tag p (happens p what (g.sender p).end).made;
  to_senders = g.to_senders ++ [];
}

abbrev pub receiver_did : Pair → EndpointEvent → Text → Shared → Shared
receiver_did p what t g = record g {
  sender = set_at_pair p (g.sender p) g.sender;
  receiver = set_at_pair p (watches (counterpart p) what (g.receiver p)) g.receiver;
  text = set_at_pair p t g.text;
  violated = set_at_pair p (g.violated p || is_violation (happens (counterpart p) what (g.receiver p).end).outcome) g.violated;
  to_receivers = g.to_receivers ++ [];
  to_senders = g.to_senders ++ tag p (happens (counterpart p) what (g.receiver p).end).made;
}

-- the commands of other connections join what is underway
pub others-to-senders : (g : Shared) (p : Pair) (cs : List Command) → sends p ≡ false → Reached g → Reached (record g { to_senders = g.to_senders ++ tag p cs })
others-to-senders g p [] s r = reached-same g (record g { to_senders = g.to_senders ++ [] }) (ap (λ (l : List Tagged). record g { to_senders = l }) (sym (append-nil g.to_senders))) r
others-to-senders g p (c ∷ cs) s r =
    let one : Tagged = record { pair = p; command = c } in
    let h : Shared = record g { to_senders = g.to_senders ++ one ∷ [] } in
    let e : shared_occurs (Other_to_senders one) g ≡ h = rw s refl in
    reached-same (record g { to_senders = (g.to_senders ++ one ∷ []) ++ tag p cs }) (record g { to_senders = g.to_senders ++ one ∷ tag p cs })
    (ap (λ (l : List Tagged). record g { to_senders = l }) (append_assoc g.to_senders (one ∷ []) (tag p cs)))
    (others-to-senders h p cs s (reached-same (shared_occurs (Other_to_senders one) g) h e (further g (Other_to_senders one) r tt)))

pub others-to-receivers : (g : Shared) (p : Pair) (cs : List Command) → sends p ≡ false → Reached g → Reached (record g { to_receivers = g.to_receivers ++ tag p cs })
others-to-receivers g p [] s r = reached-same g (record g { to_receivers = g.to_receivers ++ [] }) (ap (λ (l : List Tagged). record g { to_receivers = l }) (sym (append-nil g.to_receivers))) r
others-to-receivers g p (c ∷ cs) s r =
    let one : Tagged = record { pair = p; command = c } in
    let h : Shared = record g { to_receivers = g.to_receivers ++ one ∷ [] } in
    let e : shared_occurs (Other_to_receivers one) g ≡ h = rw s refl in
    reached-same (record g { to_receivers = (g.to_receivers ++ one ∷ []) ++ tag p cs }) (record g { to_receivers = g.to_receivers ++ one ∷ tag p cs })
    (ap (λ (l : List Tagged). record g { to_receivers = l }) (append_assoc g.to_receivers (one ∷ []) (tag p cs)))
    (others-to-receivers h p cs s (reached-same (shared_occurs (Other_to_receivers one) g) h e (further g (Other_to_receivers one) r tt)))

-- Pairs.

-- the peer's end of one that sends does not send
pub counterpart-not : (p : Pair) → sends p ≡ true → sends (counterpart p) ≡ false
counterpart-not p s = grind arith

pub proper-sender : (p : Pair) → sends p ≡ true → is_proper p ≡ true
proper-sender p s = grind arith

pub proper-counterpart : (p : Pair) → sends p ≡ true → is_proper (counterpart p) ≡ true
proper-counterpart p s = grind arith

apart-of : (q p : Pair) → sends q ≡ true → sends p ≡ false → (q ≡ p) → ⊥
apart-of q p s r e = absurd (both_ways (sends p) r (subst (λ (x : Pair). sends x ≡ true) e s))

improper-apart : (q p : Pair) → is_proper q ≡ false → is_proper p ≡ true → (q ≡ p) → ⊥
improper-apart q p s r e = absurd (both_ways (is_proper p) (subst (λ (x : Pair). is_proper x ≡ false) e s) r)

-- What a machine has at a pair, after that was set at one.

differs : (p q : Pair) → same p q ≡ false → (q ≡ p) → ⊥
differs p q d e = absurd (both_ways (same p q) d (subst (λ (x : Pair). same x q ≡ true) e (same_refl q)))

pub set_cases : {A : Type 0} → (P : A → Type 0) (p q : Pair) (x : A) (f : Pair → A) → (p ≡ q → P x) → (((q ≡ p) → ⊥) → P (f q)) → P (set_at_pair p x f q)
set_cases {A} P p q x f h k = go (same p q) refl
  where
    go : (b : Bool) → same p q ≡ b → P (if b then x else f q)
    go true e = h (same_true p q e)
    go false e = k (differs p q e)

pub set_same : {A : Type 0} → (p q : Pair) (f : Pair → A) → set_at_pair p (f p) f q ≡ f q
set_same {A} p q f = set_cases (λ (x : A). x ≡ f q) p q (f p) f (λ e. ap f e) (λ d. refl)

pub set_own : {A : Type 0} → (p : Pair) (x : A) (f : Pair → A) → set_at_pair p x f p ≡ x
set_own {A} p x f = ap (λ b. if b then x else f p) (same_refl p)

-- What joins what is underway.

commands_of_more : (cs : List Tagged) (p : Pair) (more : List Command) → commands_of (cs ++ tag p more) ≡ commands_of cs ++ more
commands_of_more [] p [] = refl
commands_of_more [] p (c ∷ more) = ap (λ (l : List Command). c ∷ l) (commands_of_more [] p more)
commands_of_more (d ∷ cs) p more = ap (λ (l : List Command). d.command ∷ l) (commands_of_more cs p more)

turn_all_more : (cs : List Tagged) (p : Pair) (more : List Command) → turn_all (cs ++ tag p more) ≡ turn_all cs ++ tag (counterpart p) more
turn_all_more [] p [] = refl
turn_all_more [] p (c ∷ more) = ap (λ (l : List Tagged). record { pair = counterpart p; command = c } ∷ l) (turn_all_more [] p more)
turn_all_more (d ∷ cs) p more = ap (λ (l : List Tagged). turn d ∷ l) (turn_all_more cs p more)

apt_more : (cs : List Tagged) (p : Pair) (more : List Command) → is_proper p ≡ true → Apt cs → Apt (cs ++ tag p more)
apt_more [] p [] s a = tt
apt_more [] p (c ∷ more) s a = (λ e. absurd (both_ways (is_proper p) e s), apt_more [] p more s tt)
apt_more (d ∷ cs) p more s a = (a.0, apt_more cs p more s a.1)

pub flow-more : (b : Bool) (u : List Command) (here there : List Tagged) (p : Pair) (more : List Command) → is_proper p ≡ true → Flow b u here there → Flow b (u ++ more) (here ++ tag p more) (there ++ tag (counterpart p) more)
flow-more b u here there p more s f e =
    let k = f e in
    record {
      commands = commands_of_more here p more ∙ ap (λ (l : List Command). l ++ more) k.commands;
      same = ap (λ (l : List Tagged). l ++ tag (counterpart p) more) k.same ∙ sym (turn_all_more here p more);
      apt = apt_more here p more s k.apt;
    }

-- of these lists, written otherwise
pub flow-same : (b : Bool) (u : List Command) (here here' there there' : List Tagged) → here ≡ here' → there ≡ there' → Flow b u here there → Flow b u here' there'
flow-same b u here here' there there' p q f = subst (λ (l : List Tagged). Flow b u l there') p (subst (λ (l : List Tagged). Flow b u here l) q f)

-- What holds of each connection, and of links.

pub all-fit : (g : Shared) → Reached g → AllFit g
all-fit g r = subst AllFit r.is_it (fits_ever r.events r.may)

pub all-linked : (g : Shared) → Reached g → LinkFits g
all-linked g r = subst LinkFits r.is_it (links_ever r.events r.may)

-- no end ever answers its peer as against the protocol
pub safe-ever : (g : Shared) (p : Pair) → sends p ≡ true → Reached g → g.violated p ≡ false
safe-ever g p s r = fit_safe p s g.sends g.receives (connection_at p g) (all-fit g r p s)

second : (a b : Bool) → (a || b) ≡ false → b ≡ false
second true b e = absurd (cc e)
second false b e = e

module _ (a b : Bool) (own own' : Owners) (n n' m : Node) (u v : List Command) (what : EndpointEvent) (g back : Shared) where
  -- at a sender of n, pair p
  pub sender-acts : (p : Pair) (t : Text) (own1 : Owners) → sends p ≡ true
      → Way a b own n m g → Way b a own' m n back → Flow b u g.to_receivers back.to_senders → Flow a v back.to_receivers g.to_senders
      → Reached (sender_did p what t g) → Reached back
      → Sees n n' p what → Texts own1 n'.texts (set_at_pair p t g.text)
      → record { ties : Ties a b own1 own' n' m (u ++ (happens p what (get n.ends p)).made) v; safe : is_violation (happens p what (get n.ends p)).outcome ≡ false }
  sender-acts p t own1 s w w' f f' r r' e x = record {
    ties = record {
      g = sender_did p what t g;
      back = record back { to_senders = back.to_senders ++ tag (counterpart p) made };
      reached = r;
      reached_back = others-to-senders back (counterpart p) made (counterpart-not p s) r';
      there = record {
        alive = w.alive;
        alive_too = w.alive_too;
        sender = λ q sq. set_cases (λ (x : EndpointWithHistory). x ≡ watched_at n' q) p q (watches p what (g.sender p)) g.sender
            (λ k. ap (watches p what) (w.sender p s) ∙ (sym e.at_it ∙ ap (watched_at n') k)) (λ d. w.sender q sq ∙ sym (e.beside q d));
        receiver = λ q sq. set_same p q g.receiver ∙ w.receiver q sq;
        texts = x;
        proper = λ q i. ap (λ (x : EndpointWithHistory). x.end) (e.beside q (improper-apart q p i (proper-sender p s))) ∙ w.proper q i;
      };
      here = record {
        alive = w'.alive;
        alive_too = w'.alive_too;
        sender = w'.sender;
        receiver = λ q sq. w'.receiver q sq ∙ sym (e.beside (counterpart q) (λ k. apart-of p (counterpart q) s (counterpart-not q sq) (sym k)));
        texts = w'.texts;
        proper = w'.proper;
      };
      going = flow-same b (u ++ made) (g.to_receivers ++ tag p made) (g.to_receivers ++ tag p (happens p what (g.sender p).end).made) (back.to_senders ++ tag (counterpart p) made) (back.to_senders ++ tag (counterpart p) made)
          (ap (λ (o : EndpointWithHistory). g.to_receivers ++ tag p (happens p what o.end).made) (sym (w.sender p s))) refl
          (flow-more b u g.to_receivers back.to_senders p made (proper-sender p s) f);
      coming = flow-same a v back.to_receivers back.to_receivers g.to_senders (g.to_senders ++ []) refl (sym (append-nil g.to_senders)) f';
    };
    safe =
        let k = second (g.violated p) (is_violation (happens p what (g.sender p).end).outcome) (sym (set_own p (g.violated p || is_violation (happens p what (g.sender p).end).outcome) g.violated) ∙ safe-ever (sender_did p what t g) p s r) in
        subst (λ (o : EndpointWithHistory). is_violation (happens p what o.end).outcome ≡ false) (w.sender p s) k;
  }
    where
      made : List Command
      made = (happens p what (get n.ends p)).made

  -- at a receiver of n: p is the pair as m has it, which sends; only texts of m change
  pub receiver-acts : (m' : Node) (p : Pair) (t : Text) (own1 : Owners) → sends p ≡ true
      → Way a b own n m g → Way b a own' m n back → Flow b u g.to_receivers back.to_senders → Flow a v back.to_receivers g.to_senders
      → Reached g → Reached (receiver_did p what t back)
      → Sees n n' (counterpart p) what → ((q : Pair) → watched_at m' q ≡ watched_at m q)
      → Texts own n'.texts g.text → Texts own1 m'.texts (set_at_pair p t back.text)
      → record { ties : Ties a b own own1 n' m' (u ++ (happens (counterpart p) what (get n.ends (counterpart p))).made) v; safe : is_violation (happens (counterpart p) what (get n.ends (counterpart p))).outcome ≡ false }
  receiver-acts m' p t own1 s w w' f f' r r' e k x x' = record {
    ties = record {
      g = record g { to_receivers = g.to_receivers ++ tag (counterpart p) made };
      back = receiver_did p what t back;
      reached = others-to-receivers g (counterpart p) made (counterpart-not p s) r;
      reached_back = r';
      there = record {
        alive = w.alive;
        alive_too = w.alive_too;
        sender = λ q sq. w.sender q sq ∙ sym (e.beside q (apart-of q (counterpart p) sq (counterpart-not p s)));
        receiver = λ q sq. w.receiver q sq ∙ sym (k (counterpart q));
        texts = x;
        proper = λ q i. ap (λ (x : EndpointWithHistory). x.end) (e.beside q (improper-apart q (counterpart p) i (proper-counterpart p s))) ∙ w.proper q i;
      };
      here = record {
        alive = w'.alive;
        alive_too = w'.alive_too;
        sender = λ q sq. set_same p q back.sender ∙ (w'.sender q sq ∙ sym (k q));
        receiver = λ q sq. set_cases (λ (x : EndpointWithHistory). x ≡ watched_at n' (counterpart q)) p q (watches (counterpart p) what (back.receiver p)) back.receiver
            (λ j. ap (watches (counterpart p) what) (w'.receiver p s) ∙ (sym e.at_it ∙ ap (λ (i : Pair). watched_at n' (counterpart i)) j))
            (λ d. w'.receiver q sq ∙ sym (e.beside (counterpart q) (λ j. d (ap counterpart j))));
        texts = x';
        proper = λ q i. ap (λ (x : EndpointWithHistory). x.end) (k q) ∙ w'.proper q i;
      };
      going = flow-same b (u ++ made) (g.to_receivers ++ tag (counterpart p) made) (g.to_receivers ++ tag (counterpart p) made) (back.to_senders ++ tag p made) (back.to_senders ++ tag p (happens (counterpart p) what (back.receiver p).end).made)
          refl (ap (λ (o : EndpointWithHistory). back.to_senders ++ tag p (happens (counterpart p) what o.end).made) (sym (w'.receiver p s)))
          (flow-more b u g.to_receivers back.to_senders (counterpart p) made (proper-counterpart p s) f);
      coming = flow-same a v back.to_receivers (back.to_receivers ++ []) g.to_senders g.to_senders (sym (append-nil back.to_receivers)) refl f';
    };
    safe =
        let j = second (back.violated p) (is_violation (happens (counterpart p) what (back.receiver p).end).outcome) (sym (set_own p (back.violated p || is_violation (happens (counterpart p) what (back.receiver p).end).outcome) back.violated) ∙ safe-ever (receiver_did p what t back) p s r') in
        subst (λ (o : EndpointWithHistory). is_violation (happens (counterpart p) what o.end).outcome ≡ false) (w'.receiver p s) j;
  }
    where
      made : List Command
      made = (happens (counterpart p) what (get n.ends (counterpart p))).made
