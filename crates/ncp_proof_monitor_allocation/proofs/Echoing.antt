-- The ECOs of a host: one that is queued, or that was observed to have no ERP yet, is the one that it
-- awaits. So no sent ECO is a second one.
use Rattle.std.proofs.Common.{◌≡◌, ℕ, ◌+◌, ◌≤◌, ◌==◌, Bool, true, false, not, ◌&&◌, ◌||◌, if◌then◌else◌, List, [], ◌∷◌, ◌++◌, length, None, Some, refl, sym, ap, ◌∙◌, subst, arith}
use Rattle.std.specs.Prelude.{nat_lt}
use Rattle.std.specs.List.{list_any}
use Rattle.std.proofs.lemmas.Bool.{and_parts}
use Rattle.ncp_wire.specs.declared.command.Command.{Command}
use Rattle.ncp_wire.specs.declared.command.Command.TheVariants.{Eco}
use Rattle.ncp_model.proofs.ResetLists.{bit}
use Rattle.ncp_monitor.specs.declared.conn_tables.TheConstants.{MAX_TABLE_ROWS}
use Rattle.ncp_monitor.specs.declared.pending_reply.ExpectedReply.{ExpectedReply}
use Rattle.ncp_monitor.specs.declared.finding.Rule.{Rule}
use Rattle.ncp_monitor.specs.declared.conn_state.Fact.{Fact}
use Rattle.ncp_monitor.specs.declared.conn_state.FactKind.{FactKind}
use Rattle.ncp_monitor.specs.declared.observed_flow.ObservedFlow.{ObservedFlow}
use Rattle.ncp_monitor.specs.ConnStates.{SeenTables, same_topic, is_topic, is_marked, facts_now, facts_no_more}
use Rattle.ncp_monitor.specs.Speaking.{eco_rule, after_eco, answers_echo}
use Rattle.ncp_proof_monitor_allocation.proofs.Resting.{any_after, fact_made, due_with}
use Rattle.ncp_proof_monitor_allocation.proofs.Replying.{any_fewer, none_fewer}

abbrev pub is_eco : Command → Bool
is_eco (Eco byte) = true
is_eco c = false

abbrev pub ecos : List Command → ℕ
ecos [] = 0
ecos (c ∷ w) = bit (is_eco c) + ecos w

pub ecos_append : (w u : List Command) → ecos (w ++ u) ≡ ecos w + ecos u
ecos_append [] u = omega arith
ecos_append (c ∷ w) u = omega (arith, ecos_append w u)

-- awaited: the host awaits an ERP
abbrev pub Echoing : ℕ → ℕ → Bool → List Command → SeenTables → Type 0
Echoing me n awaited w b = is_marked me n (FactKind.EchoesRest true) b ≡ false → ecos w + bit (is_marked me n (FactKind.Asks true) b) ≤ bit awaited

-- ---- a mark of another topic

pub fact_other : (me n : ℕ) (what other : FactKind) (b : SeenTables) → same_topic what other ≡ false → is_marked me n other (facts_now me n what b) ≡ is_marked me n other b
fact_other me n what other b d = go (is_marked me n what b) (nat_lt (length b.known_facts) MAX_TABLE_ROWS)
  where
    one : Fact
    one = record { at = me; peer = n; fact_kind = what }

    none : (x y : Bool) → (x && y && same_topic what other) ≡ false
    none true true = d
    none true false = refl
    none false y = refl

    or_none : (x : Bool) → (x || false) ≡ x
    or_none true = refl
    or_none false = refl

    go : (k r : Bool) → is_marked me n other (if k then b else if r then record b { known_facts = b.known_facts ++ one ∷ [] } else record b { full = true }) ≡ is_marked me n other b
    go true r = refl
    go false true =
        any_after (is_topic me n other) b.known_facts one
        ∙ ap (λ (x : Bool). list_any (is_topic me n other) b.known_facts || x) (none (me == me) (n == n))
        ∙ or_none (list_any (is_topic me n other) b.known_facts)
    go false false = refl

-- one that is taken away
asks_are_others : (x : FactKind) → same_topic x (FactKind.Asks true) ≡ true → same_topic x (FactKind.EchoesRest true) ≡ false
asks_are_others (FactKind.LinkSuspended a l) e = absurd (cc e)
asks_are_others (FactKind.EchoesRest a) e = absurd (cc e)
asks_are_others (FactKind.Asks a) e = refl
asks_are_others (FactKind.Admits a bytes) e = absurd (cc e)

rest_stays : (me n : ℕ) (b : SeenTables) → is_marked me n (FactKind.EchoesRest true) (facts_no_more me n (FactKind.Asks true) b) ≡ is_marked me n (FactKind.EchoesRest true) b
rest_stays me n b = any_fewer (is_topic me n (FactKind.EchoesRest true)) (is_topic me n (FactKind.Asks true)) b.known_facts apart
  where
    apart : (x : Fact) → is_topic me n (FactKind.Asks true) x ≡ true → is_topic me n (FactKind.EchoesRest true) x ≡ false
    apart x e = go (x.at == me && x.peer == n) (asks_are_others x.fact_kind (and_parts (x.at == me && x.peer == n) (same_topic x.fact_kind (FactKind.Asks true)) e).1)
      where
        go : (y : Bool) → same_topic x.fact_kind (FactKind.EchoesRest true) ≡ false → (y && same_topic x.fact_kind (FactKind.EchoesRest true)) ≡ false
        go true f = f
        go false f = refl

-- ---- the numbers

-- an echo is asked for, where none is awaited
pub echo_waits : (me n byte : ℕ) (w : List Command) (b : SeenTables) → Echoing me n false w b → Echoing me n true (w ++ Eco byte ∷ []) b
echo_waits me n byte w b h r = let e = ecos_append w (Eco byte ∷ []) in let k = h r in omega (arith, e, k)

-- what is no ECO waits
pub others_wait : (me n : ℕ) (awaited : Bool) (w u : List Command) (b : SeenTables) → ecos u ≡ 0 → Echoing me n awaited w b → Echoing me n awaited (w ++ u) b
others_wait me n awaited w u b z h r = let e = ecos_append w u in let k = h r in omega (arith, e, k, z)

bit_small : (x : Bool) → bit x ≤ 1
bit_small true = omega arith
bit_small false = omega arith

module _ (me n byte : ℕ) (awaited : Bool) (w : List Command) (b : SeenTables) where
  abbrev from_host : ObservedFlow
  from_host = record { at = me; peer = n; sent = true }

  -- an ECO is sent: it is no second one
  pub eco_right : Echoing me n awaited (Eco byte ∷ w) b → eco_rule from_host byte b ≡ None
  eco_right h = go (is_marked me n (FactKind.Asks true) b) (is_marked me n (FactKind.EchoesRest true) b) h
    where
      go : (x y : Bool) → (y ≡ false → 1 + ecos w + bit x ≤ bit awaited) → (if x && not y then Some (Rule.EcoAgain byte) else None) ≡ None
      go true true h = refl
      go true false h = let k = h refl in let s = bit_small awaited in absurd (omega (arith, k, s))
      go false y h = refl

  pub eco_goes : (after_eco from_host byte b).full ≡ false → Echoing me n awaited (Eco byte ∷ w) b → Echoing me n awaited w (after_eco from_host byte b)
  eco_goes room h r =
      let mid = facts_now me n (FactKind.Asks true) b in
      let is = due_with mid (record { at = me; peer = n; host = false; wanted = ExpectedReply.Echo byte; mandatory = true }) room in
      let rest : is_marked me n (FactKind.EchoesRest true) b ≡ false = sym (ap (list_any (is_topic me n (FactKind.EchoesRest true))) is.1.1 ∙ fact_other me n (FactKind.Asks true) (FactKind.EchoesRest true) b refl) ∙ r in
      let k = h rest in
      let s = bit_small (is_marked me n (FactKind.Asks true) (after_eco from_host byte b)) in
      omega (arith, k, s)

-- an ERP of the other comes: none is awaited then
pub erp_comes : (me n : ℕ) (awaited : Bool) (w : List Command) (b : SeenTables) → (answers_echo (record { at = me; peer = n; sent = false }) b).full ≡ false → Echoing me n awaited w b
    → Echoing me n false w (answers_echo (record { at = me; peer = n; sent = false }) b)
erp_comes me n awaited w b room h = go (is_marked me n (FactKind.Asks true) b) refl room
  where
    go : (x : Bool) → is_marked me n (FactKind.Asks true) b ≡ x → (if x then facts_no_more me n (FactKind.Asks true) b else facts_now me n (FactKind.EchoesRest true) b).full ≡ false
        → Echoing me n false w (if x then facts_no_more me n (FactKind.Asks true) b else facts_now me n (FactKind.EchoesRest true) b)
    go true e room r =
        let k : ecos w + 1 ≤ bit awaited = subst (λ (x : Bool). ecos w + bit x ≤ bit awaited) e (h (sym (rest_stays me n b) ∙ r)) in
        let none : is_marked me n (FactKind.Asks true) (facts_no_more me n (FactKind.Asks true) b) ≡ false = none_fewer (is_topic me n (FactKind.Asks true)) b.known_facts in
        let s = bit_small awaited in
        subst (λ (x : Bool). ecos w + bit x ≤ 0) (sym none) (omega (arith, k, s))
    go false e room r = let nay : true ≡ false = sym (fact_made me n (FactKind.EchoesRest true) b room) ∙ r in absurd (cc nay)
