-- Meant for other crates too: they cite what is public here.
--
-- Each thing that happens at a host keeps two hosts joined.
use Rattle.std.proofs.Common.{◌≡◌, ℕ, ◌==◌, Bool, true, false, ◌||◌, if◌then◌else◌, List, [], ◌∷◌, ◌++◌, Option, None, Some, Ok, Err, refl, sym, ap, ◌∙◌, subst, arith}
use Rattle.std.specs.FinMap.{get, get-empty}
use Rattle.std.proofs.lemmas.Bool.{both_ways, cond_both, eqb-true}
use Rattle.std.proofs.lemmas.List.{append-nil}
use Rattle.ncp_wire.specs.declared.command.Command.{Command}
use Rattle.ncp_wire.specs.declared.command.Command.TheVariants.{Rst, Rrp, Eco}
use Rattle.ncp_model.specs.declared.pair.Pair.{Pair}
use Rattle.ncp_model.specs.declared.call_fault.CallFault.{CallFault}
use Rattle.ncp_model.specs.Pairs.{pair_cmp, counterpart}
use Rattle.ncp_model.specs.Endpoint.{Endpoint}
use Rattle.ncp_model.specs.Effect.{answer, made_by_hearing, made_if_any, made_by_call}
use Rattle.ncp_model.specs.Texts.{made_by_text, Rfnm}
use Rattle.ncp_model.specs.Ends.{Ends, no_ends, uses_link, hears_link, hear, demux_command, text_in, cut_in, answered_in, sender_on, receiver_on, pair_of, map_after_at, put}
use Rattle.ncp_model.specs.EndpointEvents.{EndpointEvent, happens, of_hearing, outcome_of_text, is_violation, Transition}
use Rattle.ncp_model.specs.Demux.{passes, comes}
use Rattle.ncp_proof_endpoint.specs.Limits.{InLimitsAt}
use Rattle.ncp_model.specs.Phase.{is_other}
use Rattle.ncp_model.specs.Sending.{is_full}
use Rattle.ncp_proof_machine.specs.Delivery.{Slot, Empty, Ready, Travelling, Held, MessageTransit, Accepted, Delivered, Link, idle, link_answered}
use Rattle.ncp_model.specs.Echo.{Echoes, echo_answer, echo_asked}
use Rattle.ncp_proof_machine.specs.Resets.{ResetHost, is_up, host_falls, host_makes_all, host_hears}
use Rattle.ncp_proof_connection.specs.Connections.{Text}
use Rattle.ncp_proof_machine.specs.Hosts.{TextOut, Node, set_link, is_empty, node_kept, node_kept_echoes, pasts_after, pasts_after_at, PairCall, called, happens_at, node_calls, node_echo_called, node_calls_echo, is_full_up, echo_replies, echoes_after, node_reaction, node_hears, node_hears_all, node_takes_text, node_hears_text, node_goes_out, node_cuts, node_sends_text, node_frees, text_answered}
use Rattle.ncp_model.proofs.ResetLists.{rrps}
use Rattle.ncp_proof_machine.proofs.ResetKept.{falling, came_up, dropped}
use Rattle.ncp_proof_machine.proofs.Standing.{nothing_out}
use Rattle.ncp_proof_headline.proofs.Lives.{live, fronts_other, after_other, alive}
use Rattle.ncp_proof_headline.proofs.Ties.{Owners, Carried, Owned, Texts, Ties}
use Rattle.ncp_proof_headline.proofs.TiesClear.{SameText, ties-to, ties-links, one-link, same-ready, same-answered}
use Rattle.ncp_proof_headline.proofs.TiesFull.{full-safe, full-pasts, ties-pasts, hear-other, text-other, answered-other, called-other, gone-answer}
use Rattle.ncp_proof_headline.proofs.TiesCalls.{ties-echo, ties-calls}
use Rattle.ncp_proof_headline.proofs.TiesHears.{ties-hears}
use Rattle.ncp_proof_headline.proofs.TiesTexts.{owned_by, ties-goes-out, ties-text-comes, ties-text-drops, text-out-stands, text-out-stands-here, ties-answered, ties-answered-gone}
use Rattle.ncp_proof_headline.proofs.HostsJoined.{lives, is_alive, Whole, Joined, up_alive, up_waits, not_alive, clears, settles-keeps, hears_rst-keeps, hears_rrp-keeps, pending}

-- of a host that is up this is all that is asked
whole-up : (own : Owners) (n : Node) → is_up n.host ≡ true → n.violated ≡ false → Whole own n
whole-up own n e w = record { none = λ f. absurd (both_ways (is_up n.host) f e); quiet = λ f. absurd (both_ways n.host.phase.wait (up_waits n.host e) f); safe = w }

neither : (a b : Bool) → a ≡ false → b ≡ false → (a || b) ≡ false
neither a b e f = rw (e, f) refl

-- Calls.

pub calls-keeps : (own own' : Owners) (n m : Node) (x y : List Command) (pair : Pair) (call : PairCall) → Joined own own' n m x y → Joined own own' (node_calls pair call n) m x y
calls-keeps own own' n m x y pair call k =
    cond_both (is_up n.host) (happens_at pair what n) n (λ (o : Node). Joined own own' o m x y)
    (λ e. let t = ties-calls (is_alive n m y) (is_alive m n x) own own' n m (lives n m x) (lives m n y) pair call (is_full n.host.phase) (up_alive n.host (rrps (y ++ m.host.phase.waiting)) e) k.ties in
    pending did.made (node_kept_echoes (host_makes_all did.made n.host) n.echoes) own own' after m x y (called-other pair what (get n.ends pair)) e k.kept t.ties
    (whole-up own after e (neither n.violated (is_violation did.outcome) k.this.safe t.safe)) k.that)
    (λ e. k)
  where
    what : EndpointEvent
    what = called call (is_full n.host.phase) n.ends

    did : Transition
    did = happens pair what (get n.ends pair)

    after : Node
    after = record n { ends = put n.ends pair did.after; pasts = pasts_after pair what n.ends n.pasts; violated = n.violated || is_violation did.outcome }

-- an echo is asked for, or the call is refused
echo-made : (byte : ℕ) (full : Bool) (s : Echoes) (P : List Command → Type 0) → P [] → P (Eco byte ∷ []) → P (made_by_call (echo_answer byte full s))
echo-made byte full s P p q = go s.awaited full
  where
    go : (a f : Bool) → P (made_by_call (if a then Err CallFault.Busy else if f then Err CallFault.QueueFull else Ok (Eco byte)))
    go true f = p
    go false true = p
    go false false = q

pub echo-keeps : (own own' : Owners) (n m : Node) (x y : List Command) (byte : ℕ) → Joined own own' n m x y → Joined own own' (node_calls_echo byte n) m x y
echo-keeps own own' n m x y byte k =
    cond_both (is_up n.host) (node_echo_called byte n) n (λ (o : Node). Joined own own' o m x y)
    (λ e. echo-made byte (is_full n.host.phase) n.echoes (λ (cs : List Command). Joined own own' (record n { host = host_makes_all cs n.host; ends = node_kept (host_makes_all cs n.host) n.ends; echoes = node_kept_echoes (host_makes_all cs n.host) (echo_asked (is_full n.host.phase) n.echoes) }) m x y)
    (pending [] (node_kept_echoes n.host (echo_asked (is_full n.host.phase) n.echoes)) own own' n m x y tt e k.kept
    (subst (λ (l : List Command). Ties (is_alive n m y) (is_alive m n x) own own' n m l (lives m n y)) (sym (append-nil (lives n m x))) k.ties) k.this k.that)
    (pending (Eco byte ∷ []) (node_kept_echoes (host_makes_all (Eco byte ∷ []) n.host) (echo_asked (is_full n.host.phase) n.echoes)) own own' n m x y (refl, tt) e k.kept
    (ties-echo (is_alive n m y) (is_alive m n x) own own' n m (lives n m x) (lives m n y) (Eco byte) refl k.ties) k.this k.that))
    (λ e. k)

-- A command comes.

rrps_other : (c : Command) (u : List Command) → is_other c ≡ true → rrps (c ∷ u) ≡ rrps u
rrps_other c u o = grind arith

module _ (own own' : Owners) (n m : Node) (x y : List Command) (c : Command) (o : is_other c ≡ true) (k : Joined own own' n m x (c ∷ y)) where
  counted : is_alive n m (c ∷ y) ≡ is_alive n m y
  counted = ap (alive n.host) (rrps_other c (y ++ m.host.phase.waiting) o)

  ties : Ties (is_alive n m y) (is_alive m n x) own own' n m (lives n m x) (live n.host.phase.wait (c ∷ (y ++ m.host.phase.waiting)))
  ties = subst (λ (a : Bool). Ties a (is_alive m n x) own own' n m (lives n m x) (live n.host.phase.wait (c ∷ (y ++ m.host.phase.waiting)))) counted k.ties

  -- while the host is not up it is dropped
  drops : is_up n.host ≡ false → Joined own own' n m x y
  drops e = record {
    kept = dropped n.host m.host x y c e o k.kept;
    ties = go n.host.phase.wait refl ties;
    this = k.this;
    that = k.that;
  }
    where
      go : (w : Bool) → n.host.phase.wait ≡ w → Ties (is_alive n m y) (is_alive m n x) own own' n m (lives n m x) (live w (c ∷ (y ++ m.host.phase.waiting))) → Ties (is_alive n m y) (is_alive m n x) own own' n m (lives n m x) (live w (y ++ m.host.phase.waiting))
      go true f t = subst (λ (l : List Command). Ties (is_alive n m y) (is_alive m n x) own own' n m (lives n m x) l) (after_other c (y ++ m.host.phase.waiting) o) t
      go false f t = ties-to (is_alive n m y) (is_alive m n x) own own' n m (lives n m x) (live false (c ∷ (y ++ m.host.phase.waiting))) (lives n m x) (live false (y ++ m.host.phase.waiting)) (λ _. refl) (λ z. absurd (both_ways (is_alive n m y) (not_alive n.host (rrps (y ++ m.host.phase.waiting)) e f) z)) t

  -- else it comes to the end to which it leads
  first : is_up n.host ≡ true → Ties (is_alive n m y) (is_alive m n x) own own' n m (lives n m x) (c ∷ lives m n y)
  first e =
      let w = up_waits n.host e in
      subst (λ (l : List Command). Ties (is_alive n m y) (is_alive m n x) own own' n m (lives n m x) l)
      (ap (λ (b : Bool). live b (c ∷ (y ++ m.host.phase.waiting))) w ∙ (fronts_other c (y ++ m.host.phase.waiting) o ∙ ap (λ (b : Bool). c ∷ live b (y ++ m.host.phase.waiting)) (sym w))) ties

  abbrev came : ResetHost
  came = record n.host { came = n.host.came ++ c ∷ [] }

  -- the host after it, with any phase
  abbrev after : ResetHost → Node
  after h = record n {
    host = h;
    ends = node_kept h (map_after_at n.ends (demux_command c n.ends) (hear c n.ends));
    echoes = node_kept_echoes h (echoes_after c n.echoes);
    pasts = pasts_after_at (demux_command c n.ends) (comes c n.ends) n.ends n.pasts;
    violated = n.violated || is_violation (of_hearing (answer (hear c n.ends)));
  }

  fills : is_up n.host ≡ true → is_full_up (answer (hear c n.ends)) ≡ true → Joined own own' (after (host_falls n.host)) m x y
  fills e f =
      let j = clears own own' n m x (c ∷ y) y (host_falls n.host) refl refl refl (falling came m.host x y (came_up n.host m.host x y c e o k.kept)) k in
      record {
        kept = j.kept;
        ties = ties-pasts (is_alive (after (host_falls n.host)) m y) (alive m.host (rrps (x ++ (host_falls n.host).phase.waiting))) own own' (record n { ends = no_ends }) m (live m.host.phase.wait (x ++ (host_falls n.host).phase.waiting)) (live n.host.phase.wait (y ++ m.host.phase.waiting)) (pasts_after_at (demux_command c n.ends) (comes c n.ends) n.ends n.pasts) (full-pasts c n f) j.ties;
        this = record { none = λ _. refl; quiet = j.this.quiet; safe = neither n.violated (is_violation (of_hearing (answer (hear c n.ends)))) k.this.safe (full-safe c n.ends f) };
        that = j.that;
      }

  acts : is_up n.host ≡ true → is_full_up (answer (hear c n.ends)) ≡ false → Joined own own' (after (host_makes_all (made_by_hearing (answer (hear c n.ends)) ++ echo_replies c) came)) m x y
  acts e f =
      let t = ties-hears (is_alive n m y) (is_alive m n x) own own' n m (lives n m x) (lives m n y) c (up_alive n.host (rrps (y ++ m.host.phase.waiting)) e) f (first e) in
      pending (made_by_hearing (answer (hear c n.ends)) ++ echo_replies c) (node_kept_echoes (host_makes_all (made_by_hearing (answer (hear c n.ends)) ++ echo_replies c) came) (echoes_after c n.echoes)) own own'
      (record n { host = came; ends = map_after_at n.ends (demux_command c n.ends) (hear c n.ends); pasts = pasts_after_at (demux_command c n.ends) (comes c n.ends) n.ends n.pasts; violated = n.violated || is_violation (of_hearing (answer (hear c n.ends))) }) m x y
      (hear-other c n.ends) e (came_up n.host m.host x y c e o k.kept) t.ties
      (record { none = λ z. absurd (both_ways (is_up n.host) z e); quiet = λ z. absurd (both_ways n.host.phase.wait (up_waits n.host e) z); safe = neither n.violated (is_violation (of_hearing (answer (hear c n.ends)))) k.this.safe t.safe }) k.that

  pub comes-up : (h : ResetHost) → h ≡ (if is_up n.host then (if is_full_up (answer (hear c n.ends)) then host_falls n.host else host_makes_all (made_by_hearing (answer (hear c n.ends)) ++ echo_replies c) came) else n.host) → Joined own own' (if is_up n.host then after h else n) m x y
  comes-up h e = go (is_up n.host) refl (is_full_up (answer (hear c n.ends))) refl e
    where
      go : (u : Bool) → is_up n.host ≡ u → (f : Bool) → is_full_up (answer (hear c n.ends)) ≡ f → h ≡ (if u then (if f then host_falls n.host else host_makes_all (made_by_hearing (answer (hear c n.ends)) ++ echo_replies c) came) else n.host) → Joined own own' (if u then after h else n) m x y
      go false p f q e = drops p
      go true p true q e = subst (λ (h : ResetHost). Joined own own' (after h) m x y) (sym e) (fills p q)
      go true p false q e = subst (λ (h : ResetHost). Joined own own' (after h) m x y) (sym e) (acts p q)

pub hears-keeps : (own own' : Owners) (n m : Node) (x y : List Command) (c : Command) → Joined own own' n m x (c ∷ y) → Joined own own' (node_hears c n) m x y
hears-keeps own own' n m x y Rst k = hears_rst-keeps own own' n m x y k
hears-keeps own own' n m x y Rrp k = hears_rrp-keeps own own' n m x y k
hears-keeps own own' n m x y c k = comes-up own own' n m x y c refl k (host_hears c (node_reaction c n) n.host) refl

pub hears_all-keeps : (own own' : Owners) (n m : Node) (x cs : List Command) → Joined own own' n m x cs → Joined own own' (node_hears_all cs n) m x []
hears_all-keeps own own' n m x [] k = k
hears_all-keeps own own' n m x (c ∷ cs) k = hears_all-keeps own own' (node_hears c n) m x cs (hears-keeps own own' n m x cs c k)

-- a message is heard in part
pub hears_front : (own own' : Owners) (n m : Node) (x done rest : List Command) → Joined own own' n m x (done ++ rest) → Joined own own' (node_hears_all done n) m x rest
hears_front own own' n m x [] rest k = k
hears_front own own' n m x (c ∷ cs) rest k = hears_front own own' (node_hears c n) m x cs rest (hears-keeps own own' n m x (cs ++ rest) c k)

-- Texts.

-- what is on a link is its owner's
pub owner-of : (own : Owners) (links : ℕ → Link TextOut) (texts : Pair → Text) (on : ℕ) → Texts own links texts → ((links on).slot ≡ Empty → ⊥) → (p : Pair) × (own on ≡ Some p)
owner-of own links texts on t f = go (own on) refl (t.owned on)
  where
    go : (o : Option Pair) → own on ≡ o → Owned on o (links on) texts → (p : Pair) × (own on ≡ Some p)
    go None e l = absurd (f (ap (λ (k : Link TextOut). k.slot) l))
    go (Some p) e l = (p, e)

none_passes : (test : Pair × Endpoint → Bool) (p : Pair) (m : Ends) → m ≡ no_ends → passes test p (get m p) ≡ true → ⊥
none_passes test p m e h = absurd (cc (ap (λ (d : Ends). passes test p (get d p)) (sym e) ∙ h, ap (passes test p) (get-empty pair_cmp p)))

-- a link whose text the subnet has is not empty
accepted-there : (own : Owners) (links : ℕ → Link TextOut) (texts : Pair → Text) (on : ℕ) (t : TextOut) → Texts own links texts → (links on).subnet ≡ Accepted t → (links on).slot ≡ Empty → ⊥
accepted-there own links texts on t f e s = go (own on) (f.owned on)
  where
    go : (o : Option Pair) → Owned on o (links on) texts → ⊥
    go None l = absurd (cc (e, ap (λ (k : Link TextOut). k.subnet) l))
    go (Some p) l = let z = l.carried in absurd (subst (λ (s : Slot TextOut). Carried s (links on).subnet) s z)

-- a text that comes
module _ (own own' : Owners) (n m : Node) (x y : List Command) (on : ℕ) (head : List Bool) (t : TextOut) (s : (m.texts on).subnet ≡ Accepted t) (k : Joined own own' n m x y) where
  abbrev brought : Node
  brought = record m { texts = set_link on (record (m.texts on) { subnet = Delivered }) m.texts }

  abbrev took : Node
  took = record n {
    ends = map_after_at n.ends (pair_of (receiver_on on n.ends)) (text_in on t.of_size t.bits n.ends);
    pasts = pasts_after_at (pair_of (receiver_on on n.ends)) (Some (EndpointEvent.Text_comes head t.of_size t.bits)) n.ends n.pasts;
    violated = n.violated || is_violation (outcome_of_text (answer (text_in on t.of_size t.bits n.ends)));
  }

  abbrev replied : List Command
  replied = made_by_text head t.bits (answer (text_in on t.of_size t.bits n.ends))

  text-heard : is_up n.host ≡ true → Joined own own' (node_takes_text on head t n) brought x y
  text-heard e =
      let r = ties-text-comes (is_alive n m y) (is_alive m n x) own own' n m (lives n m x) (lives m n y) on head t (up_alive n.host (rrps (y ++ m.host.phase.waiting)) e) s k.ties in
      pending replied (node_kept_echoes (host_makes_all replied n.host) n.echoes) own own' took brought x y (text-other head on t.of_size t.bits n.ends) e k.kept r.ties
      (whole-up own took e (neither n.violated (is_violation (outcome_of_text (answer (text_in on t.of_size t.bits n.ends)))) k.this.safe r.safe)) k.that

  text-dropped : is_up n.host ≡ false → Joined own own' n brought x y
  text-dropped e = record { kept = k.kept; ties = go (is_alive n m y) refl; this = k.this; that = k.that }
    where
      owner : (p : Pair) × (own' on ≡ Some p)
      owner = owner-of own' m.texts k.ties.back.text on k.ties.here.texts (accepted-there own' m.texts k.ties.back.text on t k.ties.here.texts s)

      go : (a : Bool) → is_alive n m y ≡ a → Ties (is_alive n m y) (is_alive m n x) own own' n brought (lives n m x) (lives m n y)
      go true f = absurd (none_passes (uses_link on) (counterpart owner.0) n.ends (k.this.none e) (text-out-stands (is_alive n m y) (is_alive m n x) own own' n m (lives n m x) (lives m n y) on owner.0 f owner.1 k.ties))
      go false f = subst (λ (a : Bool). Ties a (is_alive m n x) own own' n brought (lives n m x) (lives m n y)) (sym f)
          (ties-text-drops (is_alive m n x) own own' n m (lives n m x) (lives m n y) on t s (subst (λ (a : Bool). Ties a (is_alive m n x) own own' n m (lives n m x) (lives m n y)) f k.ties))

  pub text-keeps : Joined own own' (node_hears_text on head t n) brought x y
  text-keeps = cond_both (is_up n.host) (node_takes_text on head t n) n (λ (o : Node). Joined own own' o brought x y) text-heard text-dropped

-- While a text is unacknowledged, its link has one owner.

abbrev pub Follows : Owners → Owners → (ℕ → Link TextOut) → (ℕ → Link TextOut) → Type 0
Follows own own1 links links1 = (on : ℕ) → is_empty (links on).slot ≡ false → is_empty (links1 on).slot ≡ false → own1 on ≡ own on

-- the hosts after a step of this one
abbrev pub Moved : Owners → Owners → Node → Node → Node → List Command → List Command → Type 0
Moved own own' n n1 m x y = record { own1 : Owners; joined : Joined own1 own' n1 m x y; follows : Follows own own1 n.texts n1.texts }

pub unmoved : (own own' : Owners) (n n1 m : Node) (x y : List Command) → Joined own own' n1 m x y → Moved own own' n n1 m x y
unmoved own own' n n1 m x y k = record { own1 = own; joined = k; follows = λ on p q. refl }

-- of a link that has an owner now, or none
set_follows : (own : Owners) (o : Option Pair) (on : ℕ) (links : ℕ → Link TextOut) (l : Link TextOut) → (is_empty (links on).slot ≡ false → is_empty l.slot ≡ false → ⊥) → Follows own (owned_by on o own) links (set_link on l links)
set_follows own o on links l f i = go (i == on) refl
  where
    go : (b : Bool) → (i == on) ≡ b → is_empty (links i).slot ≡ false → is_empty (if b then l else links i).slot ≡ false → (if b then o else own i) ≡ own i
    go true e p q = absurd (f (subst (λ (j : ℕ). is_empty (links j).slot ≡ false) (eqb-true i on e) p) q)
    go false e p q = refl

module _ (own own' : Owners) (n m : Node) (x y : List Command) (on : ℕ) (k : Joined own own' n m x y) where
  a_link : (l : Link TextOut) → SameText on (n.texts on) l → Joined own own' (record n { texts = set_link on l n.texts }) m x y
  a_link l s = record {
    kept = k.kept;
    ties = ties-links (is_alive n m y) (is_alive m n x) own own' n m (lives n m x) (lives m n y) (set_link on l n.texts) (one-link on l n.texts s) k.ties;
    this = k.this;
    that = k.that;
  }

  -- a text is sent
  cutting : ((p : Pair) → InLimitsAt p (get n.ends p)) → (n.texts on).slot ≡ Empty → (o : Option (ℕ × List Bool)) → answer (cut_in on n.ends) ≡ o → Moved own own' n (node_cuts on o n) m x y
  cutting f s None e = unmoved own own' n n m x y k
  cutting f s (Some text) e = go (is_up n.host) refl
    where
      go : (u : Bool) → is_up n.host ≡ u → Moved own own' n (node_cuts on (Some text) n) m x y
      go false u = absurd (cc (sym e ∙ (ap (λ (d : Ends). answer (cut_in on d)) (k.this.none u) ∙ nothing_out on)))
      go true u = record {
        own1 = owned_by on (pair_of (sender_on on n.ends)) own;
        joined = record {
          kept = k.kept;
          ties = ties-goes-out (is_alive n m y) (is_alive m n x) own own' n m (lives n m x) (lives m n y) on text (up_alive n.host (rrps (y ++ m.host.phase.waiting)) u) f e s k.ties;
          this = record { none = λ z. absurd (both_ways (is_up n.host) z u); quiet = λ z. absurd (both_ways n.host.phase.wait (up_waits n.host u) z); safe = k.this.safe };
          that = k.that;
        };
        follows = set_follows own (pair_of (sender_on on n.ends)) on n.texts _ (λ p q. absurd (both_ways (is_empty (n.texts on).slot) p (ap is_empty s)));
      }

  pub sends_text-keeps : ((p : Pair) → InLimitsAt p (get n.ends p)) → (slot : Slot TextOut) → (n.texts on).slot ≡ slot → Moved own own' n (node_sends_text on slot n) m x y
  sends_text-keeps f Empty e = cutting f e (answer (cut_in on n.ends)) refl
  sends_text-keeps f (Ready t) e = unmoved own own' n (node_goes_out on t n) m x y
      (a_link (record { slot = Travelling t; subnet = Accepted t }) (subst (λ (s : Slot TextOut). SameText on (record { slot = s; subnet = (n.texts on).subnet }) (record { slot = Travelling t; subnet = Accepted t })) (sym e) (same-ready on t (n.texts on).subnet)))
  sends_text-keeps f (Travelling t) e = unmoved own own' n n m x y k
  sends_text-keeps f (Held t) e = unmoved own own' n n m x y k

  -- the answer to one that came
  abbrev freed : Node
  freed = record n { ends = map_after_at n.ends (pair_of (sender_on on n.ends)) (answered_in on Rfnm n.ends); texts = set_link on idle n.texts }

  freeing : (t : TextOut) → (n.texts on).slot ≡ Travelling t → (n.texts on).subnet ≡ Delivered → Joined (owned_by on None own) own' (node_frees on n) m x y
  freeing t s d = go (is_up n.host) refl
    where
      made : List Command
      made = made_if_any (answer (answered_in on Rfnm n.ends))

      owner : (p : Pair) × (own on ≡ Some p)
      owner = owner-of own n.texts k.ties.g.text on k.ties.there.texts (λ z. absurd (cc (z, s)))

      still_none : ((l : ℕ) → own l ≡ None) → (l : ℕ) → owned_by on None own l ≡ None
      still_none f l = by_link (l == on)
        where
          by_link : (b : Bool) → (if b then None else own l) ≡ None
          by_link true = refl
          by_link false = f l

      idle_ties : is_up n.host ≡ false → (a : Bool) → is_alive n m y ≡ a → Ties (is_alive n m y) (is_alive m n x) (owned_by on None own) own' (record n { texts = set_link on idle n.texts }) m (lives n m x) (lives m n y)
      idle_ties e true f = absurd (none_passes (hears_link on) owner.0 n.ends (k.this.none e) (text-out-stands-here (is_alive n m y) (is_alive m n x) own own' n m (lives n m x) (lives m n y) on owner.0 f owner.1 k.ties))
      idle_ties e false f = subst (λ (a : Bool). Ties a (is_alive m n x) (owned_by on None own) own' (record n { texts = set_link on idle n.texts }) m (lives n m x) (lives m n y)) (sym f)
          (ties-answered-gone (is_alive m n x) own own' n m (lives n m x) (lives m n y) on t s d (subst (λ (a : Bool). Ties a (is_alive m n x) own own' n m (lives n m x) (lives m n y)) f k.ties))

      nothing : is_up n.host ≡ false → made ≡ []
      nothing e = ap made_if_any (ap (λ (d : Ends). answer (answered_in on Rfnm d)) (k.this.none e) ∙ gone-answer on)

      at_up : Bool → List Command → Node
      at_up b cs =
          let host : ResetHost = host_makes_all cs n.host in
          record n { host = host; ends = if b then node_kept host freed.ends else n.ends; echoes = if b then node_kept_echoes host n.echoes else n.echoes; texts = set_link on idle n.texts }

      go : (u : Bool) → is_up n.host ≡ u → Joined (owned_by on None own) own' (node_frees on n) m x y
      go true e = subst (λ (b : Bool). Joined (owned_by on None own) own' (at_up b made) m x y) (sym e) (pending made (node_kept_echoes (host_makes_all made n.host) n.echoes) (owned_by on None own) own' freed m x y (answered-other on n.ends) e k.kept
          (ties-answered (is_alive n m y) (is_alive m n x) own own' n m (lives n m x) (lives m n y) on t (up_alive n.host (rrps (y ++ m.host.phase.waiting)) e) s d k.ties)
          (whole-up (owned_by on None own) freed e k.this.safe) k.that)
      go false e = subst (λ (b : Bool). Joined (owned_by on None own) own' (at_up b made) m x y) (sym e)
          (subst (λ (cs : List Command). Joined (owned_by on None own) own' (at_up false cs) m x y) (sym (nothing e))
          (record { kept = k.kept; ties = idle_ties e (is_alive n m y) refl; this = record { none = k.this.none; quiet = λ w. still_none (k.this.quiet w); safe = k.this.safe }; that = k.that }))

  pub text_answered-keeps : (slot : Slot TextOut) (subnet : MessageTransit TextOut) → (n.texts on).slot ≡ slot → (n.texts on).subnet ≡ subnet → Moved own own' n (text_answered on slot subnet n) m x y
  text_answered-keeps (Travelling t) Delivered e f = record {
    own1 = owned_by on None own;
    joined = settles-keeps (owned_by on None own) own' (node_frees on n) m x y (freeing t e f);
    follows = set_follows own None on n.texts idle (λ p q. absurd (cc q));
  }
  text_answered-keeps slot subnet e f = unmoved own own' n (text_answered on slot subnet n) m x y
      (a_link (link_answered slot subnet) (subst (λ (s : Slot TextOut). SameText on (record { slot = s; subnet = (n.texts on).subnet }) (link_answered slot subnet)) (sym e)
      (subst (λ (b : MessageTransit TextOut). SameText on (record { slot = slot; subnet = b }) (link_answered slot subnet)) (sym f) (same-answered on slot subnet refl))))
