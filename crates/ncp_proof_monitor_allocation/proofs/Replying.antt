-- What is said between two hosts meets what the one keeps, through ECO, ERP and ERR of both.
use Rattle.std.proofs.Common.{◌≡◌, ℕ, ◌==◌, Bool, true, false, not, ◌&&◌, ◌||◌, if◌then◌else◌, List, [], ◌∷◌, refl, sym, ap, ◌∙◌}
use Rattle.std.specs.List.{filter, list_any}
use Rattle.std.proofs.lemmas.Bool.{and_parts}
use Rattle.ncp_wire.specs.declared.command.Command.{Command}
use Rattle.ncp_model.specs.Ends.{Ends}
use Rattle.ncp_monitor.specs.declared.conn_state.Fact.{Fact}
use Rattle.ncp_monitor.specs.declared.conn_state.FactKind.{FactKind}
use Rattle.ncp_monitor.specs.declared.observed_flow.ObservedFlow.{ObservedFlow}
use Rattle.ncp_monitor.specs.ConnStates.{SeenTables, same_topic, is_topic, is_marked, facts_no_more}
use Rattle.ncp_monitor.specs.Replies.{is_due_of, is_wanted, pending_left}
use Rattle.ncp_monitor.specs.Speaking.{after_reply}
use Rattle.ncp_proof_monitor_allocation.proofs.Meets.{Meets, same_conns}

-- ---- marks that are taken away

pub any_fewer : (s t : Fact → Bool) (xs : List Fact) → ((x : Fact) → t x ≡ true → s x ≡ false) → list_any s (filter (λ x. not (t x)) xs) ≡ list_any s xs
any_fewer s t [] w = refl
any_fewer s t (x ∷ xs) w = go (t x) refl (any_fewer s t xs w)
  where
    go : (b : Bool) → t x ≡ b → list_any s (filter (λ x. not (t x)) xs) ≡ list_any s xs
        → list_any s (if not b then x ∷ filter (λ x. not (t x)) xs else filter (λ x. not (t x)) xs) ≡ (s x || list_any s xs)
    go true e rest = rest ∙ sym (ap (λ (b : Bool). b || list_any s xs) (w x e))
    go false e rest = ap (λ (b : Bool). s x || b) rest

pub none_fewer : (t : Fact → Bool) (xs : List Fact) → list_any t (filter (λ x. not (t x)) xs) ≡ false
none_fewer t [] = refl
none_fewer t (x ∷ xs) = go (t x) refl (none_fewer t xs)
  where
    go : (b : Bool) → t x ≡ b → list_any t (filter (λ x. not (t x)) xs) ≡ false → list_any t (if not b then x ∷ filter (λ x. not (t x)) xs else filter (λ x. not (t x)) xs) ≡ false
    go true e rest = rest
    go false e rest = ap (λ (b : Bool). b || list_any t (filter (λ x. not (t x)) xs)) e ∙ rest

-- an echo is no link
asks_distinct : (host on : Bool) (link : ℕ) (x : FactKind) → same_topic x (FactKind.Asks host) ≡ true → same_topic x (FactKind.LinkSuspended on link) ≡ false
asks_distinct host on link (FactKind.LinkSuspended a b) e = absurd (cc e)
asks_distinct host on link (FactKind.EchoesRest a) e = refl
asks_distinct host on link (FactKind.Asks a) e = refl
asks_distinct host on link (FactKind.Admits a bytes) e = absurd (cc e)

pub links_stay : (me n : ℕ) (host on : Bool) (link : ℕ) (b : SeenTables) → is_marked me n (FactKind.LinkSuspended on link) (facts_no_more me n (FactKind.Asks host) b) ≡ is_marked me n (FactKind.LinkSuspended on link) b
links_stay me n host on link b = any_fewer (is_topic me n (FactKind.LinkSuspended on link)) (is_topic me n (FactKind.Asks host)) b.known_facts apart
  where
    apart : (x : Fact) → is_topic me n (FactKind.Asks host) x ≡ true → is_topic me n (FactKind.LinkSuspended on link) x ≡ false
    apart x e = go (x.at == me && x.peer == n) (asks_distinct host on link x.fact_kind (and_parts (x.at == me && x.peer == n) (same_topic x.fact_kind (FactKind.Asks host)) e).1)
      where
        go : (y : Bool) → same_topic x.fact_kind (FactKind.LinkSuspended on link) ≡ false → (y && same_topic x.fact_kind (FactKind.LinkSuspended on link)) ≡ false
        go true f = f
        go false f = refl

-- ---- replies of the host, and of the other

module _ (me n : ℕ) (m : Ends) where
  reply_conns : (flow : ObservedFlow) (c : Command) (b : SeenTables) → ((after_reply flow c b).conns ≡ b.conns) × ((after_reply flow c b).known_facts ≡ b.known_facts)
  reply_conns flow c b = go (is_wanted (is_due_of flow.at flow.peer flow.sent) c b.pending_replies)
    where
      go : (x : Bool)
          → ((if x then record b { pending_replies = pending_left (is_due_of flow.at flow.peer flow.sent) c b.pending_replies } else b).conns ≡ b.conns) × ((if x then record b { pending_replies = pending_left (is_due_of flow.at flow.peer flow.sent) c b.pending_replies } else b).known_facts ≡ b.known_facts)
      go true = (refl, refl)
      go false = (refl, refl)

  -- a reply of the host is sent, or one of the other host is received
  pub reply_meets : (flow : ObservedFlow) (c : Command) (w : List Command) (b : SeenTables) → Meets me n m w b → Meets me n m w (after_reply flow c b)
  reply_meets flow c w b meets =
      same_conns me n m w w b (after_reply flow c b) (reply_conns flow c b).0 (λ on link k. ap (list_any (is_topic me n (FactKind.LinkSuspended on link))) (reply_conns flow c b).1 ∙ k) refl meets
