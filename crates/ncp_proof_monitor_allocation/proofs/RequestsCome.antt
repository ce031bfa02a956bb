-- A request of the other comes that is right by the books: the host takes it, or its table is full and it goes down.
use Rattle.std.proofs.Common.{◌≡◌, ℕ, ◌==◌, Bool, true, false, not, ◌&&◌, if◌then◌else◌, List, None, Some, ◌⊎◌, inl, inr, refl, sym, ap, ◌∙◌, subst}
use Rattle.std.specs.FinMap.{get}
use Rattle.std.specs.Prelude.{nat_le}
use Rattle.std.proofs.lemmas.Bool.{and_parts}
use Rattle.ncp_wire.specs.declared.command.Command.{Command}
use Rattle.ncp_wire.specs.declared.command.Command.TheVariants.{Rts, Str}
use Rattle.ncp_model.specs.declared.pair.Pair.{Pair}
use Rattle.ncp_model.specs.declared.outcomes.Heard.{Heard}
use Rattle.ncp_model.specs.declared.outcomes.Heard.TheVariants.{Nothing, Full}
use Rattle.ncp_model.specs.Pairs.{receives, sends}
use Rattle.ncp_model.specs.Effect.{Effect, answer, end_after, is_data_link}
use Rattle.ncp_model.specs.Commands.{hear_rts}
use Rattle.ncp_model.specs.Ends.{Ends, any, count, is_by_peer, hears_link, hear, map_after}
use Rattle.ncp_model.proofs.EndsAfter.{after-at, after-elsewhere}
use Rattle.ncp_proof_endpoint.specs.Sound.{SoundAt}
use Rattle.ncp_monitor.specs.declared.finding.Rule.{Rule}
use Rattle.ncp_interface.specs.declared.request.Request.TheVariants.{Link, Size}
use Rattle.ncp_monitor.specs.declared.observed_flow.ObservedFlow.{ObservedFlow}
use Rattle.ncp_monitor.specs.declared.observed_flow.Acceptance.TheVariants.{Right}
use Rattle.ncp_monitor.specs.ConnStates.{SeenTables}
use Rattle.ncp_interface.specs.Sockets.{is_senders, is_of_sexes}
use Rattle.ncp_monitor.specs.Requests.{range_rule, request_acceptance, tables_after_request}
use Rattle.ncp_monitor.proofs.Shapes.{Ask, their_legal, their_step}
use Rattle.ncp_monitor.proofs.LinkOrder.{Sockets}
use Rattle.ncp_proof_monitor_allocation.proofs.KeptEnds.{kept}
use Rattle.ncp_proof_monitor_allocation.proofs.OwnMoves.{no_sender}
use Rattle.ncp_proof_monitor_allocation.proofs.HeardMoves.{Taken, Takes, Overfull, rts_taken, str_taken}
use Rattle.ncp_proof_monitor_allocation.proofs.Changed.{kept_of, OneEnd}
use Rattle.ncp_proof_monitor_allocation.proofs.Meets.{Meets}
use Rattle.ncp_proof_monitor_allocation.proofs.Comes.{TheirRequest, their_request, may_be_heard, request_meets}
use Rattle.ncp_proof_monitor_allocation.proofs.Untaken.{Held, untaken}
use Rattle.ncp_proof_monitor_allocation.proofs.Refusals.{receives_same, sexes_same}

pub one_end : {A : Type 0} → (m : Ends) (pair : Pair) (act : Effect A) → OneEnd m (map_after m pair act) pair (end_after (get m pair) act)
one_end m pair act = record { there = after-at m pair act; elsewhere = λ q d. after-elsewhere m pair q act d }

sized : (c : Command) (size : ℕ) → range_rule c (Size size) ≡ None → (size == 0) ≡ false
sized c size e = go (size == 0) e
  where
    go : (x : Bool) → (if x then Some (Rule.SizeZero c) else None) ≡ None → x ≡ false
    go true e = absurd (cc e)
    go false e = refl

ranged : (c : Command) (link : ℕ) → range_rule c (Link link) ≡ None → is_data_link link ≡ true
ranged c link e = go (nat_le 2 link && nat_le link 71) e
  where
    go : (x : Bool) → (if x then None else Some (Rule.LinkRange c)) ≡ None → x ≡ true
    go true e = refl
    go false e = absurd (cc e)

module _ (me n : ℕ) (m : Ends) (w : List Command) (b : SeenTables) where
  abbrev heard_flow : ObservedFlow
  heard_flow = record { at = me; peer = n; sent = false }

  pub str_comes : (send receive size : ℕ) → SoundAt (record { local = receive; remote = send }) (get m (record { local = receive; remote = send }))
      → request_acceptance heard_flow (Str send receive size) receive send (is_of_sexes receive send) (Size size) b ≡ Right
      → (tables_after_request heard_flow (Str send receive size) receive send (Size size) Right b).full ≡ false → Meets me n m w b
      → (answer (hear (Str send receive size) m) ≡ Full)
      ⊎ ((answer (hear (Str send receive size) m) ≡ Nothing)
      × Meets me n (map_after m (record { local = receive; remote = send }) (hear (Str send receive size) m)) w (tables_after_request heard_flow (Str send receive size) receive send (Size size) Right b))
  str_comes send receive size sound v room meets = go (str_taken pair size (count is_by_peer m) (get m pair) sound receiver (sized c size q.range) (subst (λ (x : Bool). their_legal (Ask size) (kept x (get m pair)) ≡ true) (no_sender pair receiver) may))
    where
      c : Command
      c = Str send receive size

      pair : Pair
      pair = record { local = receive; remote = send }

      p : Sockets
      p = (receive, send)

      sexes : is_of_sexes receive send ≡ true
      sexes = (their_request me n m w b c p (is_of_sexes receive send) (Size size) (sex (is_of_sexes receive send) refl) v).sexes
        where
          -- where the sexes are wrong it is not right
          sex : (x : Bool) → is_of_sexes receive send ≡ x → not (is_senders receive) ≡ true
          sex true e = (and_parts (not (is_senders receive)) (is_senders send) e).0
          sex false e = absurd (cc (sym (ap (λ (y : Bool). request_acceptance heard_flow c receive send y (Size size) b) e) ∙ v))

      its : not (is_senders receive) ≡ true
      its = (and_parts (not (is_senders receive)) (is_senders send) sexes).0

      q : TheirRequest me n m w b c p (is_of_sexes receive send) (Size size)
      q = their_request me n m w b c p (is_of_sexes receive send) (Size size) its v

      receiver : receives pair ≡ true
      receiver = ap (λ (x : Bool). x && is_senders send) (receives_same receive) ∙ sexes

      may : their_legal (Ask size) (kept_of m p) ≡ true
      may = may_be_heard me n m w b p (Ask size) q.calm q.legal meets

      act : Effect Heard
      act = hear c m

      go : Taken false (Ask size) (get m pair) act
          → (answer act ≡ Full) ⊎ ((answer act ≡ Nothing) × Meets me n (map_after m pair act) w (tables_after_request heard_flow c receive send (Size size) Right b))
      go (Overfull f) = inl f
      go (Takes e s) =
          inr (
            e,
            request_meets me n m w b (map_after m pair act) c p (is_of_sexes receive send) (Size size) (end_after (get m pair) act) its q (one_end m pair act)
                (subst (λ (x : Bool). kept x (end_after (get m pair) act) ≡ their_step (Ask size) (kept x (get m pair))) (sym (no_sender pair receiver)) s) room meets,
          )

  pub rts_comes : (receive send link : ℕ) → SoundAt (record { local = send; remote = receive }) (get m (record { local = send; remote = receive })) → Held me n m b
      → request_acceptance heard_flow (Rts receive send link) send receive (is_of_sexes receive send) (Link link) b ≡ Right
      → (tables_after_request heard_flow (Rts receive send link) send receive (Link link) Right b).full ≡ false → Meets me n m w b
      → (answer (hear (Rts receive send link) m) ≡ Full)
      ⊎ ((answer (hear (Rts receive send link) m) ≡ Nothing)
      × Meets me n (map_after m (record { local = send; remote = receive }) (hear (Rts receive send link) m)) w (tables_after_request heard_flow (Rts receive send link) send receive (Link link) Right b))
  rts_comes receive send link sound held v room meets =
      go
      (subst (λ (x : Bool). Taken true (Ask link) (get m pair) (hear_rts pair link x (count is_by_peer m) (get m pair))) (sym free)
      (rts_taken pair link (count is_by_peer m) (get m pair) sound sender (ranged c link q.range) (subst (λ (x : Bool). their_legal (Ask link) (kept x (get m pair)) ≡ true) sender may)))
    where
      c : Command
      c = Rts receive send link

      pair : Pair
      pair = record { local = send; remote = receive }

      p : Sockets
      p = (send, receive)

      its : is_senders send ≡ true
      its = sex (is_of_sexes receive send) refl
        where
          sex : (x : Bool) → is_of_sexes receive send ≡ x → is_senders send ≡ true
          sex true e = (and_parts (not (is_senders receive)) (is_senders send) e).1
          sex false e = absurd (cc (sym (ap (λ (y : Bool). request_acceptance heard_flow c send receive y (Link link) b) e) ∙ v))

      q : TheirRequest me n m w b c p (is_of_sexes receive send) (Link link)
      q = their_request me n m w b c p (is_of_sexes receive send) (Link link) its v

      sender : sends pair ≡ true
      sender = sym (sexes_same receive send) ∙ q.sexes

      free : any (hears_link link) m ≡ false
      free = untaken me n link m w b c q.unused q.unmarked held meets

      may : their_legal (Ask link) (kept_of m p) ≡ true
      may = may_be_heard me n m w b p (Ask link) q.calm q.legal meets

      act : Effect Heard
      act = hear c m

      go : Taken true (Ask link) (get m pair) act
          → (answer act ≡ Full) ⊎ ((answer act ≡ Nothing) × Meets me n (map_after m pair act) w (tables_after_request heard_flow c send receive (Link link) Right b))
      go (Overfull f) = inl f
      go (Takes e s) =
          inr (
            e,
            request_meets me n m w b (map_after m pair act) c p (is_of_sexes receive send) (Link link) (end_after (get m pair) act) its q (one_end m pair act)
                (subst (λ (x : Bool). kept x (end_after (get m pair) act) ≡ their_step (Ask link) (kept x (get m pair))) (sym sender) s) room meets,
          )
