-- Meant for other crates too: they cite what is public here.
--
-- A host at which nothing moves any more is at rest.
use Rattle.std.proofs.Common.{◌≡◌, ℕ, Bool, true, false, List, [], ◌++◌, Option, None, Some, refl, sym, ap, ◌∙◌, subst, arith}
use Rattle.std.specs.FinMap.{get, get-empty}
use Rattle.std.proofs.lemmas.Bool.{both_ways}
use Rattle.ncp_wire.specs.declared.command.Command.{Command}
use Rattle.ncp_model.specs.declared.pair.Pair.{Pair}
use Rattle.ncp_model.specs.Pairs.{pair_cmp, sends, receives, is_proper}
use Rattle.ncp_model.specs.Endpoint.{Endpoint, or_new}
use Rattle.ncp_model.specs.Effect.{is_data_link}
use Rattle.ncp_model.specs.Ends.{Ends, no_ends}
use Rattle.ncp_model.proofs.ResetLists.{bit, rsts, rrps}
use Rattle.ncp_proof_endpoint.specs.Histories.{EndpointWithHistory}
use Rattle.ncp_proof_endpoint.specs.Sound.{SoundAt}
use Rattle.ncp_proof_connection.specs.Connections.{Text, No_text, Away, Here, Connection}
use Rattle.ncp_proof_connection.specs.Ledger.{is_text_out}
use Rattle.ncp_proof_connection.proofs.Outliving.{Fit}
use Rattle.ncp_proof_connection.specs.Sharing.{Shared, connection_at}
use Rattle.ncp_proof_connection.specs.Finding.{link_out}
use Rattle.ncp_proof_machine.specs.Delivery.{Link, idle}
use Rattle.ncp_proof_machine.specs.Resets.{ResetHost, is_up, on_line}
use Rattle.ncp_proof_machine.proofs.ResetKept.{Kept}
use Rattle.ncp_proof_machine.specs.Hosts.{TextOut, TwoNodes, peer_of}
use Rattle.ncp_proof_headline.proofs.Ties.{Owners, Carried, Owned, Texts}
use Rattle.ncp_proof_headline.proofs.TiesBase.{all-fit}
use Rattle.ncp_proof_headline.proofs.HostsJoined.{up_alive}
use Rattle.ncp_proof_headline.proofs.HostsHeld.{Ever, x, y}
use Rattle.ncp_proof_progress.specs.Idle.{LeavingAt, IsIdle}
use Rattle.ncp_proof_progress.proofs.Echoes.{Shut}
use Rattle.ncp_proof_progress.specs.Finished.{EndQuiescent, EndQuiescentAt, IsAtRest}

pub false_or : (b : Bool) → (b ≡ true → ⊥) → b ≡ false
false_or true f = absurd (f refl)
false_or false f = refl

pub by_up : {A : Type 0} (h : ResetHost) → (is_up h ≡ true → A) → (is_up h ≡ false → A) → A
by_up {A} h f g = go (is_up h) refl
  where
    go : (b : Bool) → is_up h ≡ b → A
    go true e = f e
    go false e = g e

-- no RST and no RRP is underway, and no RRP is owed: so a host waits for none

clear-bit : (b : Bool) → bit b ≡ 0 → b ≡ false
clear-bit true e = absurd (omega (arith, e))
clear-bit false e = refl

no-wait : (h k : ResetHost) (u v : List Command) → Kept h k u v → u ++ h.phase.waiting ≡ [] → v ++ k.phase.waiting ≡ [] → k.phase.owe ≡ false → h.phase.wait ≡ false
no-wait h k u v p e f o =
    let a : rsts (u ++ h.phase.waiting) ≡ 0 = ap rsts e in
    let b : rrps (v ++ k.phase.waiting) ≡ 0 = ap rrps f in
    let c : bit k.phase.owe ≡ 0 = ap bit o in
    let d = p.there.count in
    clear-bit h.phase.wait (omega (arith, a, b, c, d))

down-not-up : (h : ResetHost) → h.phase.down ≡ true → is_up h ≡ false
down-not-up h e = grind arith

-- where no data link has a text, no pair has one out

idle-owned : (on : ℕ) (o : Option Pair) (l : Link TextOut) (f : Pair → Text) → (is_data_link on ≡ true → l ≡ idle) → Owned on o l f → o ≡ None
idle-owned on None l f e w = refl
idle-owned on (Some p) l f e w = absurd (subst (λ (k : Link TextOut). Carried k.slot k.subnet) (e w.data_link) w.carried)

pub none-out : (own : Owners) (links : ℕ → Link TextOut) (f : Pair → Text) → ((on : ℕ) → is_data_link on ≡ true → links on ≡ idle) → Texts own links f → (p : Pair) → f p ≡ No_text
none-out own links f e x p = go (f p) (x.out p)
  where
    none : (on : ℕ) → own on ≡ None
    none on = idle-owned on (own on) (links on) f (e on) (x.owned on)

    go : (t : Text) → ((on : ℕ) → link_out t ≡ Some on → own on ≡ Some p) → t ≡ No_text
    go No_text k = refl
    go (Away on of_size bits) k = absurd (cc (none on, k on refl))
    go (Here on) k = absurd (cc (none on, k on refl))

-- a sender whose host is alive is busy where its text is out
sender-out : (pair : Pair) (b : Bool) (c : Connection) → Fit pair true b c → (or_new c.sender.end).busy ≡ is_text_out c.text
sender-out pair true c k = k.core.out
sender-out pair false c k = k.inv.core.out

proper-receives : (pair : Pair) → is_proper pair ≡ true → sends pair ≡ false → receives pair ≡ true
proper-receives pair p s = grind arith

-- an end
quiescent : (pair : Pair) (o : Option Endpoint) → SoundAt pair o → LeavingAt pair o → (is_proper pair ≡ false → o ≡ None) → (sends pair ≡ true → (or_new o).busy ≡ false) → EndQuiescentAt pair o
quiescent pair None s l p b = tt
quiescent pair (Some e) s l p b = go (sends pair) refl
  where
    stays : sends pair ≡ true → e.leaving ≡ false
    stays t = false_or e.leaving (λ g. both_ways e.busy (b t) (l.busy g t))

    proper : (t : Bool) → is_proper pair ≡ t → is_proper pair ≡ true
    proper true q = q
    proper false q = absurd (cc (p q))

    go : (t : Bool) → sends pair ≡ t → EndQuiescent pair e
    go true t = record { busy = b t; sender = λ u. stays t; receiver = λ g. absurd (both_ways e.leaving (stays t) g) }
    go false t =
        let r : receives pair ≡ true = proper-receives pair (proper (is_proper pair) refl) t in
        record {
          busy = false_or e.busy (λ h. both_ways (sends pair) t (s.sender h));
          sender = λ u. absurd (both_ways (sends pair) t u);
          receiver = λ g. (l.shut g r, l.holds g r);
        }

none-there : (m : Ends) (pair : Pair) → m ≡ no_ends → get m pair ≡ None
none-there m pair e = ap (λ (d : Ends). get d pair) e ∙ get-empty pair_cmp pair

-- a host
module _ (w : TwoNodes) (t : Ever w) (i : IsIdle w.this) (j : IsIdle w.that) where
  pub none-going : x w ++ w.this.host.phase.waiting ≡ []
  none-going = ap (λ (k : Link (List Command)). on_line k.slot k.subnet ++ w.this.host.phase.waiting) i.control ∙ i.waiting

  pub none-coming : y w ++ w.that.host.phase.waiting ≡ []
  none-coming = ap (λ (k : Link (List Command)). on_line k.slot k.subnet ++ w.that.host.phase.waiting) j.control ∙ j.waiting

  pub no-text : (pair : Pair) → t.holds.joined.ties.g.text pair ≡ No_text
  no-text pair = none-out t.own w.this.texts t.holds.joined.ties.g.text i.texts t.holds.joined.ties.there.texts pair

  pub sends-live : is_up w.this.host ≡ true → t.holds.joined.ties.g.sends ≡ true
  sends-live e = t.holds.joined.ties.there.alive ∙ up_alive w.this.host (rrps (y w ++ w.that.host.phase.waiting)) e

  not-busy : (pair : Pair) → sends pair ≡ true → (or_new (get w.this.ends pair)).busy ≡ false
  not-busy pair s = by_up w.this.host
      (λ e.
      let g : Shared = t.holds.joined.ties.g in
      let k : Fit pair true g.receives (connection_at pair g) = subst (λ (b : Bool). Fit pair b g.receives (connection_at pair g)) (sends-live e) (all-fit g t.holds.joined.ties.reached pair s) in
      sym (ap (λ (o : EndpointWithHistory). (or_new o.end).busy) (t.holds.joined.ties.there.sender pair s)) ∙ (sender-out pair g.receives (connection_at pair g) k ∙ ap is_text_out (no-text pair)))
      (λ e. ap (λ (o : Option Endpoint). (or_new o).busy) (none-there w.this.ends pair (t.holds.joined.this.none e)))

  pub at-rest : Shut (peer_of w.this) → ((pair : Pair) → LeavingAt pair (get w.this.ends pair)) → IsAtRest w.this
  at-rest f l = record {
    idle = i;
    wait = no-wait w.this.host w.that.host (x w) (y w) t.holds.joined.kept none-going none-coming j.owe;
    down = λ d. t.holds.joined.this.none (down-not-up w.this.host d);
    echo = λ d. f (down-not-up w.this.host d);
    ends = λ pair. quiescent pair (get w.this.ends pair) (t.stand.0.good.sound pair) (l pair) (t.holds.joined.ties.there.proper pair) (not-busy pair);
  }
