-- Meant for other crates too: they cite what is public here.
--
-- Where nothing moves any more, each pair of ends is in one of five states.
use Rattle.std.proofs.Common.{◌≡◌, ℕ, Bool, true, false, cond, ◌||◌, ◌&&◌, nat_le, List, [], ◌∷◌, ◌++◌, Option, None, Some, refl, sym, ap, ◌∙◌, subst, arith}
use Rattle.std.specs.FinMap.{get}
use Rattle.std.proofs.lemmas.Bool.{both_ways}
use Rattle.ncp_wire.specs.declared.command.Command.{Command}
use Rattle.ncp_model.specs.declared.pair.Pair.{Pair}
use Rattle.ncp_model.specs.Pairs.{sends, receives, counterpart}
use Rattle.ncp_model.specs.Endpoint.{Endpoint, new_end, is_open, is_closing}
use Rattle.ncp_model.specs.Ends.{Ends, hears_link, sender_on, pair_of, cut_in}
use Rattle.ncp_model.specs.Effect.{answer, is_data_link}
use Rattle.ncp_model.specs.Texts.{can_send}
use Rattle.ncp_model.specs.Demux.{passes}
use Rattle.ncp_model.specs.EndpointEvents.{Transition, Outcome, happens, of_cut, EndpointEvent}
use Rattle.ncp_model.proofs.ResetLists.{rrps}
use Rattle.ncp_model.proofs.LinksDemux.{cut-led}
use Rattle.ncp_model.proofs.Lookups.{leads-there}
use Rattle.ncp_proof_endpoint.specs.Histories.{PairHistory, EndpointWithHistory}
use Rattle.ncp_proof_endpoint.specs.Limits.{InLimitsAt}
use Rattle.ncp_proof_connection.specs.Connections.{Text, No_text, Connection}
use Rattle.ncp_proof_connection.proofs.Joint.{Place, Together, Sender_ahead, Receiver_ahead, Joint, EndpointInvariant, live_got, unasked, unheard}
use Rattle.ncp_proof_connection.proofs.Whole.{Inv, s_firm, r_firm}
use Rattle.ncp_proof_connection.proofs.Outliving.{Fit}
use Rattle.ncp_proof_connection.specs.Sharing.{Shared, Tagged, only, connection_at}
use Rattle.ncp_proof_machine.specs.Resets.{is_up}
use Rattle.ncp_proof_machine.specs.Hosts.{TwoNodes, nodes_swapped, NodeEvent, run, past_of}
use Rattle.ncp_proof_machine.proofs.EndsGood.{EndsInvariant}
use Rattle.ncp_proof_headline.specs.Tied.{watched_at}
use Rattle.ncp_proof_headline.proofs.Lives.{live, fronts}
use Rattle.ncp_proof_headline.proofs.Ties.{commands_of, turn_all}
use Rattle.ncp_proof_headline.proofs.TiesBase.{all-fit}
use Rattle.ncp_proof_headline.proofs.HostsJoined.{lives, up_alive, up_waits}
use Rattle.ncp_proof_headline.proofs.HostsHeld.{Ever, ever, ever-swapped, x, y}
use Rattle.ncp_proof_progress.specs.Idle.{LeavingAt, IsSettledInModel, IsIdle}
use Rattle.ncp_proof_progress.proofs.LeavingEnds.{leaving-ever}
use Rattle.ncp_proof_progress.proofs.Settled.{ever-idle}
use Rattle.ncp_proof_progress.specs.Finished.{EndQuiescentAt, PairFinished, Nobody, Sender_asked, Receiver_asked, Both_open, Receiver_holds, PairIsFinishedInModel, IsFinished}
use Rattle.ncp_proof_progress.proofs.Echoes.{ever-shut}
use Rattle.ncp_proof_progress.proofs.AtRest.{false_or, none-going, none-coming, no-text, sends-live, at-rest}

-- a text that may not go

open-hears : (p : Pair) (e : Endpoint) → sends p ≡ true → is_open e ≡ true → passes (hears_link e.link) p (Some e) ≡ true
open-hears p e s o = grind arith

heard-open : (e : Endpoint) → is_open e ≡ true → e.heard ≡ true
heard-open e o = grind arith

cut-accepted : (p : Pair) (e : Endpoint) → (happens p EndpointEvent.Text_goes_out (Some e)).outcome ≡ Outcome.Accepted → can_send p e ≡ false
cut-accepted p e h = go (can_send p e) refl
  where
    go : (b : Bool) → can_send p e ≡ b → can_send p e ≡ false
    go true m = absurd (grind arith)
    go false m = m

stays-waiting : (m : Ends) (p : Pair) (e : Endpoint) → EndsInvariant m → sends p ≡ true → get m p ≡ Some e → is_open e ≡ true → ((on : ℕ) → is_data_link on ≡ true → answer (cut_in on m) ≡ None) → can_send p e ≡ false
stays-waiting m p e g s f o n =
    let there : passes (hears_link e.link) p (get m p) ≡ true = subst (λ (q : Option Endpoint). passes (hears_link e.link) p q ≡ true) (sym f) (open-hears p e s o) in
    let one : pair_of (sender_on e.link m) ≡ Some p = leads-there (hears_link e.link) m p there (λ q h. g.heard e.link q p h there) in
    let d : is_data_link e.link ≡ true = limit f in
    let l = cut-led m e.link p one in
    cut-accepted p e (ap (λ (q : Option Endpoint). (happens p EndpointEvent.Text_goes_out q).outcome) (sym f) ∙ (ap (λ (h : Transition). h.outcome) l.1 ∙ ap of_cut (n e.link d)))
  where
    limit : get m p ≡ Some e → is_data_link e.link ≡ true
    limit z = (subst (λ (q : Option Endpoint). InLimitsAt p q) z (g.limits p)).link s (heard-open e o)

-- where nothing is underway, neither end is ahead of the other
together : (place : Place) (s : Endpoint) (g : List Bool) (r : Endpoint) (h : List Bool) (t : Text) → Joint place s g r h [] [] t → Joint Together s g r h [] [] t
together Together s g r h t j = j
together Sender_ahead s g r h t j = absurd j.passes
together Receiver_ahead s g r h t j = absurd j.passes

-- an end that has not opened is not on its way out
unopened : (e : Endpoint) → EndpointInvariant e → e.opened ≡ false → (e.leaving ≡ false) × (e.cls ≡ false)
unopened e f o =
    let l : e.leaving ≡ false = (f.zero o).4 in
    (l, false_or e.cls (λ c. both_ways e.leaving l (f.cls c)))

-- an end is there by a request
no-request : (e : Endpoint) → ((e.asked || e.heard) && nat_le e.room 65536) ≡ true → e.asked ≡ false → e.heard ≡ false → ⊥
no-request e s q h = both_ways true (sym s ∙ ap (λ (b : Bool). (b || e.heard) && nat_le e.room 65536) q ∙ ap (λ (b : Bool). b && nat_le e.room 65536) h) refl

-- Two ends, with nothing underway between them.

abbrev between : Option Endpoint → PairHistory → Option Endpoint → PairHistory → Bool → Connection
between s a r b v = record { sender = record { end = s; past = a }; receiver = record { end = r; past = b }; to_receiver = []; to_sender = []; text = No_text; violated = v }

module _ (p : Pair) (sp : sends p ≡ true) (rp : receives (counterpart p) ≡ true) where
  finish-both : (e f : Endpoint) (a b : PairHistory) (v : Bool) → Inv p (between (Some e) a (Some f) b v) → EndQuiescentAt p (Some e) → LeavingAt (counterpart p) (Some f) → (is_open e ≡ true → can_send p e ≡ false) → PairFinished p (Some e) (Some f) a.given b.got
  finish-both e f a b v i l n waits = go e.asked refl e.heard refl
    where
      fe : EndpointInvariant e
      fe = s_firm p sp (between (Some e) a (Some f) b v) i.local

      ff : EndpointInvariant f
      ff = r_firm p sp (between (Some e) a (Some f) b v) i.local

      j : Joint Together e a.given f (live_got (Some f) b) [] [] No_text
      j = together i.core.place e a.given f (live_got (Some f) b) No_text i.core.joint

      e-stays : e.leaving ≡ false
      e-stays = l.sender sp

      e-cls : e.cls ≡ false
      e-cls = false_or e.cls (λ c. both_ways e.leaving e-stays (fe.cls c))

      f-left : f.left ≡ false
      f-left = sym j.0.back.1 ∙ e-cls

      opened : e.asked ≡ true → e.heard ≡ true → (t : Bool) → e.left ≡ t → PairFinished p (Some e) (Some f) a.given b.got
      opened q h true t =
          let c : f.cls ≡ true = j.0.there.1 ∙ t in
          let g : f.leaving ≡ true = ff.cls c in
          Receiver_holds e f refl refl (t, e-cls, e-stays) (g, c, n.holds g rp)
      opened q h false t =
          let c : f.cls ≡ false = j.0.there.1 ∙ t in
          let g : f.leaving ≡ false = false_or f.leaving (λ g. both_ways f.cls c (n.shut g rp)) in
          let fa : f.asked ≡ true = sym j.0.back.0 ∙ h in
          let fh : f.heard ≡ true = j.0.there.0 ∙ q in
          let ge : is_closing e ≡ false = rw (e-stays, t) refl in
          let gf : is_closing f ≡ false = rw (g, f-left) refl in
          let oe : is_open e ≡ true = rw (q, h, e-stays, t) refl in
          let of : is_open f ≡ true = rw (fa, fh, g, f-left) refl in
          let fo : f.opened ≡ true = ff.opens gf fa fh in
          let got : live_got (Some f) b ≡ b.got = ap (λ (o : Bool). cond o b.got []) fo in
          let m = j.1.messages gf ge in
          let k = j.1.bits gf ge in
          Both_open e f refl refl (record {
            sender = oe;
            receiver = of;
            link = j.0.back.2 h;
            size = j.0.there.2 fh;
            messages = omega (arith, m);
            bits = omega (arith, k);
            text = j.1.parted gf ge (fe.opens ge q h) ∙ ap (λ (xs : List Bool). xs ++ e.stored) got;
            waits = waits oe;
          })

      go : (q : Bool) → e.asked ≡ q → (h : Bool) → e.heard ≡ h → PairFinished p (Some e) (Some f) a.given b.got
      go true q true h = opened q h e.left refl
      go true q false h =
          let fa : f.asked ≡ false = sym j.0.back.0 ∙ h in
          let fh : f.heard ≡ true = j.0.there.0 ∙ q in
          let oe = unheard e fe h in
          let of = unasked f ff fa in
          let ce = unopened e fe oe in
          let cf = unopened f ff of in
          Sender_asked e f refl refl
          (record { asked = q; heard = h; opened = oe; leaving = ce.0; left = sym j.0.there.1 ∙ cf.1; cls = ce.1 })
          (record { asked = fa; heard = fh; opened = of; leaving = cf.0; left = sym j.0.back.1 ∙ ce.1; cls = cf.1 })
          (j.0.there.2 fh)
      go false q true h =
          let fa : f.asked ≡ true = sym j.0.back.0 ∙ h in
          let fh : f.heard ≡ false = j.0.there.0 ∙ q in
          let oe = unasked e fe q in
          let of = unheard f ff fh in
          let ce = unopened e fe oe in
          let cf = unopened f ff of in
          Receiver_asked e f refl refl
          (record { asked = q; heard = h; opened = oe; leaving = ce.0; left = sym j.0.there.1 ∙ cf.1; cls = ce.1 })
          (record { asked = fa; heard = fh; opened = of; leaving = cf.0; left = sym j.0.back.1 ∙ ce.1; cls = cf.1 })
          (j.0.back.2 h)
      go false q false h = absurd (no-request e (i.local.s_stands) q h)

  finish : (s r : Option Endpoint) (a b : PairHistory) (v : Bool) → Inv p (between s a r b v) → EndQuiescentAt p s → LeavingAt (counterpart p) r → ((e : Endpoint) → s ≡ Some e → is_open e ≡ true → can_send p e ≡ false) → PairFinished p s r a.given b.got
  finish None None a b v i l n waits = Nobody refl refl
  finish (Some e) (Some f) a b v i l n waits = finish-both e f a b v i l n (waits e refl)
  finish None (Some f) a b v i l n waits =
      let j = together i.core.place new_end a.given f (live_got (Some f) b) No_text i.core.joint in
      absurd (no-request f i.local.r_stands (sym j.0.back.0) j.0.there.0)
  finish (Some e) None a b v i l n waits =
      let j = together i.core.place e a.given new_end (live_got None b) No_text i.core.joint in
      absurd (no-request e i.local.s_stands (sym j.0.there.0) j.0.back.0)

-- Two hosts.

none-tagged : (cs : List Tagged) → commands_of cs ≡ [] → cs ≡ []
none-tagged [] e = refl
none-tagged (c ∷ cs) e = absurd (cc e)

counterpart-receives : (p : Pair) → sends p ≡ true → receives (counterpart p) ≡ true
counterpart-receives p s = grind arith

module _ (w : TwoNodes) (t : Ever w) (i : IsIdle w.this) (j : IsIdle w.that) (u : is_up w.this.host ≡ true) (v : is_up w.that.host ≡ true) where
  abbrev g : Shared
  g = t.holds.joined.ties.g

  abbrev made : Pair → EndpointWithHistory → EndpointWithHistory → List Command → List Command → Text → Connection
  made p s r k q m = record { sender = s; receiver = r; to_receiver = k; to_sender = q; text = m; violated = g.violated p }

  receives-live : g.receives ≡ true
  receives-live = t.holds.joined.ties.there.alive_too ∙ up_alive w.that.host (rrps (x w ++ w.this.host.phase.waiting)) v

  none-there : lives w.this w.that (x w) ≡ []
  none-there = ap (λ (c : Bool). live c (x w ++ w.this.host.phase.waiting)) (up_waits w.that.host v) ∙ ap fronts (none-going w t i j)

  none-back : lives w.that w.this (y w) ≡ []
  none-back = ap (λ (c : Bool). live c (y w ++ w.that.host.phase.waiting)) (up_waits w.this.host u) ∙ ap fronts (none-coming w t i j)

  no-receivers : g.to_receivers ≡ []
  no-receivers = none-tagged g.to_receivers ((t.holds.joined.ties.going (up_alive w.that.host (rrps (x w ++ w.this.host.phase.waiting)) v)).commands ∙ none-there)

  no-senders : g.to_senders ≡ []
  no-senders =
      let f = t.holds.joined.ties.coming (up_alive w.this.host (rrps (y w ++ w.that.host.phase.waiting)) u) in
      f.same ∙ ap turn_all (none-tagged t.holds.joined.ties.back.to_receivers (f.commands ∙ none-back))

  pub pair-finished : ((pair : Pair) → EndQuiescentAt pair (get w.this.ends pair)) → ((pair : Pair) → LeavingAt pair (get w.that.ends pair)) → (p : Pair) → sends p ≡ true → PairIsFinishedInModel p w
  pair-finished l n p sp = finish p sp (counterpart-receives p sp) (get w.this.ends p) (get w.that.ends (counterpart p)) (past_of w.this.pasts p) (past_of w.that.pasts (counterpart p)) (g.violated p) inv (l p) (n (counterpart p))
      (λ e f o. stays-waiting w.this.ends p e t.stand.0.good sp f o i.sendable)
    where
      fit : Fit p true true (connection_at p g)
      fit = subst (λ (b : Bool). Fit p true b (connection_at p g)) receives-live (subst (λ (b : Bool). Fit p b g.receives (connection_at p g)) (sends-live w t i j u) (all-fit g t.holds.joined.ties.reached p sp))

      inv : Inv p (between (get w.this.ends p) (past_of w.this.pasts p) (get w.that.ends (counterpart p)) (past_of w.that.pasts (counterpart p)) (g.violated p))
      inv =
          subst (λ (s : EndpointWithHistory). Inv p (made p s (watched_at w.that (counterpart p)) [] [] No_text)) (t.holds.joined.ties.there.sender p sp)
          (subst (λ (r : EndpointWithHistory). Inv p (made p (g.sender p) r [] [] No_text)) (t.holds.joined.ties.there.receiver p sp)
          (subst (λ (m : Text). Inv p (made p (g.sender p) (g.receiver p) [] [] m)) (no-text w t i j p)
          (subst (λ (q : List Tagged). Inv p (made p (g.sender p) (g.receiver p) [] (only p q) (g.text p))) no-senders
          (subst (λ (k : List Tagged). Inv p (made p (g.sender p) (g.receiver p) (only p k) (only p g.to_senders) (g.text p))) no-receivers fit))))

pub ever-finished : (es : List NodeEvent) → IsSettledInModel (run es) → IsFinished (run es)
ever-finished es s =
    let w : TwoNodes = run es in
    let t : Ever w = ever es in
    let r : Ever (nodes_swapped w) = ever-swapped w t in
    let i = ever-idle es s in
    let this = at-rest w t i.0 i.1 (ever-shut es).0 (λ pair. (leaving-ever es pair).0) in
    let that = at-rest (nodes_swapped w) r i.1 i.0 (ever-shut es).1 (λ pair. (leaving-ever es pair).1) in
    record {
      this = this;
      that = that;
      pairs = λ u v p sp. (
        pair-finished w t i.0 i.1 u v this.ends (λ pair. (leaving-ever es pair).1) p sp,
        pair-finished (nodes_swapped w) r i.1 i.0 v u that.ends (λ pair. (leaving-ever es pair).0) p sp,
      );
    }
