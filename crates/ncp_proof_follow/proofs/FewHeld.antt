-- The entries in the connection tables between two hosts are few: each observed connection has an end, or
-- a queued CLS; for each connection each host owes at most one RET, and one ERP; and the only other fact
-- is whether an echo is requested.
use Rattle.std.proofs.Common.{◌≡◌, ℕ, suc, ◌+◌, ◌≤◌, ◌==◌, Bool, true, false, cond, not, ◌&&◌, ◌||◌, if◌then◌else◌, List, [], ◌∷◌, ◌++◌, map, length, Option, None, Some, is_some, eq-eqb, refl, sym, ap, ◌∙◌, subst, arith}
use Rattle.std.specs.List.{filter, list_any}
use Rattle.std.specs.FinMap.{entries, get, get-entries}
use Rattle.std.specs.FinMap.Entries.{find}
use Rattle.std.specs.Ordering.{eq_by_cmp}
use Rattle.std.proofs.Math.Bool.{beq}
use Rattle.std.proofs.lemmas.Bool.{eqb-true, and_parts}
use Rattle.std.proofs.lemmas.List.{length-map, length-append}
use Rattle.std.proofs.lemmas.Map.Views.{tells_apart}
use Rattle.ncp_wire.specs.declared.command.Command.{Command}
use Rattle.ncp_wire.specs.declared.command.Command.TheVariants.{Rst}
use Rattle.ncp_model.specs.declared.pair.Pair.{Pair}
use Rattle.ncp_model.specs.Pairs.{pair_cmp, sends}
use Rattle.ncp_model.specs.Endpoint.{Endpoint}
use Rattle.ncp_model.specs.Ends.{Ends}
use Rattle.ncp_model.proofs.PairOrder.{pairs_exact}
use Rattle.ncp_monitor.specs.declared.pending_reply.PendingReply.{PendingReply}
use Rattle.ncp_monitor.specs.declared.conn_state.ConnState.{ConnState}
use Rattle.ncp_monitor.specs.declared.conn_state.Fact.{Fact}
use Rattle.ncp_monitor.specs.declared.conn_state.FactKind.{FactKind}
use Rattle.ncp_monitor.specs.ConnStates.{SeenTables, is_of_sockets, same_bytes, same_topic, is_topic, is_conn_between, is_fact_between, is_due_between}
use Rattle.ncp_monitor.specs.Replies.{is_due_of}
use Rattle.ncp_monitor.proofs.Firsts.{first, drop_first, Unique}
use Rattle.ncp_monitor.proofs.Shapes.{Shape, Say, Agrees}
use Rattle.ncp_monitor.proofs.LinkOrder.{Sockets, same, same_is, about}
use Rattle.ncp_monitor.proofs.Seeing.{seen}
use Rattle.ncp_proof_monitor_allocation.proofs.KeptEnds.{kept}
use Rattle.ncp_proof_monitor_allocation.proofs.Changed.{pair_at, kept_of}
use Rattle.ncp_proof_monitor_allocation.proofs.OwnMoves.{all_says}
use Rattle.ncp_proof_monitor_allocation.proofs.SeenTables.{seen_of, suspended_of, step}
use Rattle.ncp_proof_monitor_allocation.proofs.Counted.{PairsAgree}
use Rattle.ncp_proof_monitor_network.specs.Owing.{Owing, Echoes, Returning, has_echo, is_owed_of}
use Rattle.ncp_proof_monitor_network.proofs.Tallied.{has_both, receives_by}
use Rattle.ncp_proof_monitor_network.proofs.Said.{Said, say_of, after_say, after_said_by, after_run, facing_shape}
use Rattle.ncp_proof_monitor_network.proofs.Diamond.{same_back}
use Rattle.ncp_proof_monitor_network.proofs.UsersSaid.{same_self, one_side}
use Rattle.ncp_proof_monitor_network.proofs.PendingOwed.{AreDue, OwesRightly}
use Rattle.ncp_proof_monitor_network.proofs.ReadAs.{ReadAs}
use Rattle.ncp_proof_monitor_network.proofs.ConsistentViews.{Afloat, ConsistentViews}

-- ---- lists

either : (a b : Bool) → (a || b) ≡ false → (a ≡ false) × (b ≡ false)
either true b e = absurd (cc e)
either false b e = (refl, e)

or_right : (a : Bool) {b : Bool} → b ≡ true → (a || b) ≡ true
or_right true e = refl
or_right false e = e

-- what passes the one test passes one of two others
pub by_two : {A : Type 0} (q p r : A → Bool) (xs : List A) → list_any (λ x. q x && not (p x || r x)) xs ≡ false → length (filter q xs) ≤ length (filter p xs) + length (filter r xs)
by_two q p r [] e = omega arith
by_two {A} q p r (x ∷ xs) e =
    let rest = by_two q p r xs (either (q x && not (p x || r x)) (list_any (λ y. q y && not (p y || r y)) xs) e).1 in
    go (q x) (p x) (r x) (either (q x && not (p x || r x)) (list_any (λ y. q y && not (p y || r y)) xs) e).0 rest
  where
    go : (a b c : Bool) → (a && not (b || c)) ≡ false → length (filter q xs) ≤ length (filter p xs) + length (filter r xs)
        → length (if a then x ∷ filter q xs else filter q xs) ≤ length (if b then x ∷ filter p xs else filter p xs) + length (if c then x ∷ filter r xs else filter r xs)
    go true true true k l = omega (arith, l)
    go true true false k l = omega (arith, l)
    go true false true k l = omega (arith, l)
    go true false false k l = absurd (cc k)
    go false true true k l = omega (arith, l)
    go false true false k l = omega (arith, l)
    go false false true k l = omega (arith, l)
    go false false false k l = l

-- all of them
pub each_two : {A : Type 0} (p r : A → Bool) (xs : List A) → list_any (λ x. not (p x || r x)) xs ≡ false → length xs ≤ length (filter p xs) + length (filter r xs)
each_two p r [] e = omega arith
each_two {A} p r (x ∷ xs) e = go (p x) (r x) (either (not (p x || r x)) (list_any (λ y. not (p y || r y)) xs) e).0 (each_two p r xs (either (not (p x || r x)) (list_any (λ y. not (p y || r y)) xs) e).1)
  where
    go : (b c : Bool) → not (b || c) ≡ false → length xs ≤ length (filter p xs) + length (filter r xs) → suc (length xs) ≤ length (if b then x ∷ filter p xs else filter p xs) + length (if c then x ∷ filter r xs else filter r xs)
    go true true k l = omega (arith, l)
    go true false k l = omega (arith, l)
    go false true k l = omega (arith, l)
    go false false k l = absurd (cc k)

-- an item that occurs once
once : {A : Type 0} (t : A → Bool) (xs : List A) → Unique t xs → length (filter t xs) ≤ 1
once t [] u = omega arith
once {A} t (x ∷ xs) (h, u) = go (t x) refl (once t xs u)
  where
    none : (ys : List A) → first t ys ≡ None → filter t ys ≡ []
    none [] e = refl
    none (y ∷ ys) e = by (t y) refl e (none ys)
      where
        by : (b : Bool) → t y ≡ b → (if b then Some y else first t ys) ≡ None → (first t ys ≡ None → filter t ys ≡ []) → (if b then y ∷ filter t ys else filter t ys) ≡ []
        by true k e rest = absurd (cc e)
        by false k e rest = rest e

    go : (b : Bool) → t x ≡ b → length (filter t xs) ≤ 1 → length (if b then x ∷ filter t xs else filter t xs) ≤ 1
    go true k l = let z = ap length (none xs (h k)) in omega (arith, z)
    go false k l = l

-- ---- sockets without repetition, each of them among others

abbrev pub Distinct : List Sockets → Type 0
Distinct [] = Unit {0}
Distinct (u ∷ us) = (list_any (same u) us ≡ false) × Distinct us

abbrev pub AreAmong : List Sockets → List Sockets → Type 0
AreAmong [] all = Unit {0}
AreAmong (u ∷ us) all = (list_any (same u) all ≡ true) × AreAmong us all

dropped_length : (u : Sockets) (all : List Sockets) → list_any (same u) all ≡ true → suc (length (drop_first (same u) all)) ≡ length all
dropped_length u [] e = absurd (cc e)
dropped_length u (v ∷ all) e = go (same u v) e (dropped_length u all)
  where
    go : (b : Bool) → (b || list_any (same u) all) ≡ true → (list_any (same u) all ≡ true → suc (length (drop_first (same u) all)) ≡ length all) → suc (length (if b then all else v ∷ drop_first (same u) all)) ≡ suc (length all)
    go true e rest = refl
    go false e rest = ap (λ (n : ℕ). suc n) (rest e)

among_dropped : (u v : Sockets) (all : List Sockets) → same v u ≡ false → list_any (same v) all ≡ true → list_any (same v) (drop_first (same u) all) ≡ true
among_dropped u v [] d e = e
among_dropped u v (w ∷ all) d e = go (same u w) refl (among_dropped u v all d)
  where
    later : (c : Bool) → same u w ≡ true → same v w ≡ c → (c || list_any (same v) all) ≡ true → list_any (same v) all ≡ true
    later true k x y = let nay : true ≡ false = sym x ∙ ap (same v) (sym (same_is u w k)) ∙ d in absurd (cc nay)
    later false k x y = y

    kept_on : (c : Bool) → (c || list_any (same v) all) ≡ true → (list_any (same v) all ≡ true → list_any (same v) (drop_first (same u) all) ≡ true) → (c || list_any (same v) (drop_first (same u) all)) ≡ true
    kept_on true y rest = refl
    kept_on false y rest = rest y

    go : (b : Bool) → same u w ≡ b → (list_any (same v) all ≡ true → list_any (same v) (drop_first (same u) all) ≡ true) → list_any (same v) (if b then all else w ∷ drop_first (same u) all) ≡ true
    go true k rest = later (same v w) k refl e
    go false k rest = kept_on (same v w) e rest

pub few_among : (us all : List Sockets) → Distinct us → AreAmong us all → length us ≤ length all
few_among [] all d a = omega arith
few_among (u ∷ us) all (d, ds) (a, more) =
    let rest = few_among us (drop_first (same u) all) ds (each us d more) in
    let l = dropped_length u all a in omega (arith, rest, l)
  where
    each : (vs : List Sockets) → list_any (same u) vs ≡ false → AreAmong vs all → AreAmong vs (drop_first (same u) all)
    each [] e k = tt
    each (v ∷ vs) e (k, ks) =
        let apart = either (same u v) (list_any (same u) vs) e in
        (among_dropped u v all (same_back u v apart.0) k, each vs apart.1 ks)

any_append : {A : Type 0} (t : A → Bool) (xs ys : List A) → list_any t (xs ++ ys) ≡ (list_any t xs || list_any t ys)
any_append t [] ys = refl
any_append t (x ∷ xs) ys = go (t x) (any_append t xs ys)
  where
    go : (b : Bool) → list_any t (xs ++ ys) ≡ (list_any t xs || list_any t ys) → (b || list_any t (xs ++ ys)) ≡ ((b || list_any t xs) || list_any t ys)
    go true e = refl
    go false e = e

-- ---- the connections that are seen

abbrev pub sockets_of_conn : ConnState → Sockets
sockets_of_conn conn = (conn.local, conn.remote)

module _ (me n : ℕ) where
  of_its_own : (conn : ConnState) → is_conn_between me n conn ≡ true → is_of_sockets me n conn.local conn.remote conn ≡ true
  of_its_own conn e =
      ap (λ (b : Bool). b && conn.local == conn.local && conn.remote == conn.remote) e
      ∙ ap (λ (b : Bool). b && conn.remote == conn.remote) (eq-eqb conn.local conn.local refl) ∙ eq-eqb conn.remote conn.remote refl

  -- one of these sockets, by them
  of_them : (u : Sockets) (conn : ConnState) → is_of_sockets me n u.0 u.1 conn ≡ true → (is_conn_between me n conn ≡ true) × (u ≡ sockets_of_conn conn)
  of_them u conn e =
      let ends = and_parts (is_conn_between me n conn && conn.local == u.0) (conn.remote == u.1) e in
      let front = and_parts (is_conn_between me n conn) (conn.local == u.0) ends.0 in
      (front.0, go (sym (eqb-true conn.local u.0 front.1)) (sym (eqb-true conn.remote u.1 ends.1)))
    where
      go : u.0 ≡ conn.local → u.1 ≡ conn.remote → u ≡ (conn.local, conn.remote)
      go a b = ap (λ (i : ℕ). (i, u.1)) a ∙ ap (λ (i : ℕ). (conn.local, i)) b

  abbrev pub sockets_seen : List ConnState → List Sockets
  sockets_seen conns = map sockets_of_conn (filter (is_conn_between me n) conns)

  not_seen : (u : Sockets) (conns : List ConnState) → first (is_of_sockets me n u.0 u.1) conns ≡ None → list_any (same u) (sockets_seen conns) ≡ false
  not_seen u [] e = refl
  not_seen u (conn ∷ conns) e = go (is_of_sockets me n u.0 u.1 conn) refl e (not_seen u conns)
    where
      other : (b : Bool) → is_conn_between me n conn ≡ b → is_of_sockets me n u.0 u.1 conn ≡ false → list_any (same u) (sockets_seen conns) ≡ false → list_any (same u) (map sockets_of_conn (if b then conn ∷ filter (is_conn_between me n) conns else filter (is_conn_between me n) conns)) ≡ false
      other false k d rest = rest
      other true k d rest = by (same u (sockets_of_conn conn)) refl
        where
          by : (c : Bool) → same u (sockets_of_conn conn) ≡ c → (c || list_any (same u) (sockets_seen conns)) ≡ false
          by true s =
              let is = same_is u (sockets_of_conn conn) s in
              let nay : true ≡ false = sym (of_its_own conn k) ∙ ap (λ (v : Sockets). is_of_sockets me n v.0 v.1 conn) (sym is) ∙ d in absurd (cc nay)
          by false s = rest

      go : (b : Bool) → is_of_sockets me n u.0 u.1 conn ≡ b → (if b then Some conn else first (is_of_sockets me n u.0 u.1) conns) ≡ None
          → (first (is_of_sockets me n u.0 u.1) conns ≡ None → list_any (same u) (sockets_seen conns) ≡ false) → list_any (same u) (sockets_seen (conn ∷ conns)) ≡ false
      go true d e rest = absurd (cc e)
      go false d e rest = other (is_conn_between me n conn) refl d (rest e)

  distinct_seen : (conns : List ConnState) → ((u : Sockets) → Unique (is_of_sockets me n u.0 u.1) conns) → Distinct (sockets_seen conns)
  distinct_seen [] u = tt
  distinct_seen (conn ∷ conns) u = go (is_conn_between me n conn) refl (distinct_seen conns (λ v. (u v).1))
    where
      go : (b : Bool) → is_conn_between me n conn ≡ b → Distinct (sockets_seen conns) → Distinct (map sockets_of_conn (if b then conn ∷ filter (is_conn_between me n) conns else filter (is_conn_between me n) conns))
      go true k rest = (not_seen (sockets_of_conn conn) conns ((u (sockets_of_conn conn)).0 (of_its_own conn k)), rest)
      go false k rest = rest

  are_among : (all : List Sockets) (conns : List ConnState) → ((u : Sockets) → is_some (first (is_of_sockets me n u.0 u.1) conns) ≡ true → list_any (same u) all ≡ true) → AreAmong (sockets_seen conns) all
  are_among all [] f = tt
  are_among all (conn ∷ conns) f = go (is_conn_between me n conn) refl (are_among all conns (λ u e. f u (later u (is_of_sockets me n u.0 u.1 conn) e)))
    where
      later : (u : Sockets) (b : Bool) → is_some (first (is_of_sockets me n u.0 u.1) conns) ≡ true → is_some (if b then Some conn else first (is_of_sockets me n u.0 u.1) conns) ≡ true
      later u true e = refl
      later u false e = e

      go : (b : Bool) → is_conn_between me n conn ≡ b → AreAmong (sockets_seen conns) all → AreAmong (map sockets_of_conn (if b then conn ∷ filter (is_conn_between me n) conns else filter (is_conn_between me n) conns)) all
      go true k rest = (f (sockets_of_conn conn) (ap (λ (b : Bool). is_some (if b then Some conn else first (is_of_sockets me n conn.local conn.remote) conns)) (of_its_own conn k)), rest)
      go false k rest = rest

  -- an observed one is in the list
  seen_there : (u : Sockets) (conns : List ConnState) → is_some (first (is_of_sockets me n u.0 u.1) conns) ≡ true → list_any (same u) (sockets_seen conns) ≡ true
  seen_there u [] e = absurd (cc e)
  seen_there u (conn ∷ conns) e = go (is_of_sockets me n u.0 u.1 conn) refl e (seen_there u conns)
    where
      following_it : (b : Bool) → list_any (same u) (sockets_seen conns) ≡ true → list_any (same u) (map sockets_of_conn (if b then conn ∷ filter (is_conn_between me n) conns else filter (is_conn_between me n) conns)) ≡ true
      following_it true r = or_right (same u (sockets_of_conn conn)) r
      following_it false r = r

      go : (b : Bool) → is_of_sockets me n u.0 u.1 conn ≡ b → is_some (if b then Some conn else first (is_of_sockets me n u.0 u.1) conns) ≡ true
          → (is_some (first (is_of_sockets me n u.0 u.1) conns) ≡ true → list_any (same u) (sockets_seen conns) ≡ true) → list_any (same u) (sockets_seen (conn ∷ conns)) ≡ true
      go true d e rest =
          let it = of_them u conn d in
          ap (λ (b : Bool). list_any (same u) (map sockets_of_conn (if b then conn ∷ filter (is_conn_between me n) conns else filter (is_conn_between me n) conns))) it.0
          ∙ ap (λ (v : Sockets). same u v || list_any (same u) (sockets_seen conns)) (sym it.1) ∙ ap (λ (b : Bool). b || list_any (same u) (sockets_seen conns)) (same_self u)
      go false d e rest = following_it (is_conn_between me n conn) (rest e)

  seen_some : (o : Option ConnState) → is_some (seen o) ≡ is_some o
  seen_some None = refl
  seen_some (Some conn) = refl

  pub few_seen : (b : SeenTables) (all : List Sockets) → ((u : Sockets) → Unique (is_of_sockets me n u.0 u.1) b.conns) → ((u : Sockets) → is_some (seen_of me n b u) ≡ true → list_any (same u) all ≡ true)
      → length (filter (is_conn_between me n) b.conns) ≤ length all
  few_seen b all u f =
      let few = few_among (sockets_seen b.conns) all (distinct_seen b.conns u) (are_among all b.conns (λ v e. f v (seen_some (first (is_of_sockets me n v.0 v.1) b.conns) ∙ e))) in
      let l = length-map (filter (is_conn_between me n) b.conns) sockets_of_conn in omega (arith, few, l)

-- ---- a host that is up: each connection has an end, or a CLS of it waits

abbrev sockets_of_ends : List (Pair × Endpoint) → List Sockets
sockets_of_ends es = map (λ e. (e.0.local, e.0.remote)) es

end_there : (u : Sockets) (es : List (Pair × Endpoint)) → is_some (find pair_cmp (pair_at u) es) ≡ true → list_any (same u) (sockets_of_ends es) ≡ true
end_there u [] e = absurd (cc e)
end_there u (x ∷ es) e = go (eq_by_cmp pair_cmp (pair_at u) x.0) refl e (end_there u es)
  where
    go : (b : Bool) → eq_by_cmp pair_cmp (pair_at u) x.0 ≡ b → is_some (cond b (Some x.1) (find pair_cmp (pair_at u) es)) ≡ true → (is_some (find pair_cmp (pair_at u) es) ≡ true → list_any (same u) (sockets_of_ends es) ≡ true)
        → (same u (x.0.local, x.0.remote) || list_any (same u) (sockets_of_ends es)) ≡ true
    go true k e rest =
        let is : pair_at u ≡ x.0 = tells_apart pairs_exact (pair_at u) x.0 k in
        ap (λ (q : Pair). same u (q.local, q.remote) || list_any (same u) (sockets_of_ends es)) (sym is) ∙ ap (λ (b : Bool). b || list_any (same u) (sockets_of_ends es)) (same_self u)
    go false k e rest = or_right (same u (x.0.local, x.0.remote)) (rest e)

abbrev sockets_said : List (Sockets × Say) → List Sockets
sockets_said w = map (λ s. s.0) w

unsaid : (u : Sockets) (w : List (Sockets × Say)) → list_any (same u) (sockets_said w) ≡ false → about u w ≡ []
unsaid u [] e = refl
unsaid u ((p, c) ∷ w) e =
    let apart = either (same u p) (list_any (same u) (sockets_said w)) e in
    ap (λ (b : Bool). if b then c ∷ about u w else about u w) apart.0 ∙ unsaid u w apart.1

said_length : (w : List Command) → length (all_says w) ≤ length w
said_length [] = omega arith
said_length (Rst ∷ w) = let rest = said_length w in omega (arith, rest)
said_length (c ∷ w) = let rest = said_length w in omega (arith, rest)

pub few_lives_up : (me n : ℕ) (m : Ends) (w : List Command) (b : SeenTables) → ((u : Sockets) → Unique (is_of_sockets me n u.0 u.1) b.conns) → ((u : Sockets) → suspended_of me n b u ≡ false) → PairsAgree me n m w b
    → length (filter (is_conn_between me n) b.conns) ≤ length (entries m) + length w
few_lives_up me n m w b unique calm agree =
    let few = few_seen me n b all unique there in
    let a = length-append (sockets_of_ends (entries m)) (sockets_said (all_says w)) in
    let i = length-map {B = Sockets} (entries m) (λ (e : Pair × Endpoint). (e.0.local, e.0.remote)) in
    let j = length-map {B = Sockets} (all_says w) (λ (s : Sockets × Say). s.0) in
    let k = said_length w in omega (arith, few, a, i, j, k)
  where
    all : List Sockets
    all = sockets_of_ends (entries m) ++ sockets_said (all_says w)

    there : (u : Sockets) → is_some (seen_of me n b u) ≡ true → list_any (same u) all ≡ true
    there u e = any_append (same u) (sockets_of_ends (entries m)) (sockets_said (all_says w)) ∙ go (get m (pair_at u)) refl (list_any (same u) (sockets_said (all_says w))) refl
      where
        go : (o : Option Endpoint) → get m (pair_at u) ≡ o → (c : Bool) → list_any (same u) (sockets_said (all_says w)) ≡ c → (list_any (same u) (sockets_of_ends (entries m)) || list_any (same u) (sockets_said (all_says w))) ≡ true
        go (Some x) d c k = ap (λ (y : Bool). y || list_any (same u) (sockets_said (all_says w))) (end_there u (entries m) (ap is_some (sym (get-entries m (pair_at u)) ∙ d)))
        go None d true k = or_at k
          where
            or_at : list_any (same u) (sockets_said (all_says w)) ≡ true → (list_any (same u) (sockets_of_ends (entries m)) || list_any (same u) (sockets_said (all_says w))) ≡ true
            or_at r = or_right (list_any (same u) (sockets_of_ends (entries m))) r
        go None d false k =
            let none : Agrees [] None (seen_of me n b u) =
            subst (λ (o : Option Endpoint). Agrees [] (kept (is_sending u) o) (seen_of me n b u)) d (subst (λ (q : List Say). Agrees q (kept_of m u) (seen_of me n b u)) (unsaid u (all_says w) k) (agree u (calm u))) in
            let nay : false ≡ true = sym (ap is_some none) ∙ e in absurd (cc nay)
          where
            is_sending : Sockets → Bool
            is_sending v = sends (pair_at v)

-- ---- what the two saw of each other: each connection that the one sees the other sees too, but for what is on its way

-- of whom commands say something

abbrev named : Option (Sockets × Say) → List Sockets → List Sockets
named None us = us
named (Some (p, a)) us = p ∷ us

abbrev sockets_named : Bool → List Command → List Sockets
sockets_named s [] = []
sockets_named s (c ∷ cs) = named (say_of s c) (sockets_named s cs)

named_length : (s : Bool) (cs : List Command) → length (sockets_named s cs) ≤ length cs
named_length s [] = omega arith
named_length s (c ∷ cs) = let rest = named_length s cs in go (say_of s c) rest
  where
    go : (o : Option (Sockets × Say)) → length (sockets_named s cs) ≤ length cs → length (named o (sockets_named s cs)) ≤ suc (length cs)
    go None l = omega (arith, l)
    go (Some (p, a)) l = omega (arith, l)

unnamed : (s : Bool) (cs : List Command) (x : Said) (u : Sockets) → list_any (same u) (sockets_named s cs) ≡ false → (after_run s cs x).shapes u ≡ x.shapes u
unnamed s [] x u e = refl
unnamed s (c ∷ cs) x u e =
    let apart = go (say_of s c) e in
    unnamed s cs (after_said_by s c x) u apart.1 ∙ still (say_of s c) apart.0
  where
    Apart : Option (Sockets × Say) → Type 0
    Apart None = Unit {0}
    Apart (Some (p, a)) = same u p ≡ false

    go : (o : Option (Sockets × Say)) → list_any (same u) (named o (sockets_named s cs)) ≡ false → Apart o × (list_any (same u) (sockets_named s cs) ≡ false)
    go None e = (tt, e)
    go (Some (p, a)) e = either (same u p) (list_any (same u) (sockets_named s cs)) e

    still : (o : Option (Sockets × Say)) → Apart o → after_say s o x.shapes u ≡ x.shapes u
    still None k = refl
    still (Some (p, a)) k = ap (λ (b : Bool). if b then step s a (x.shapes p) else x.shapes u) k

abbrev counterpart : List Sockets → List Sockets
counterpart us = map (λ u. (u.1, u.0)) us

facing_some : (m : Option Shape) → is_some (facing_shape m) ≡ is_some m
facing_some None = refl
facing_some (Some m) = refl

pub few_lives_there : (h k : ℕ) (b : SeenTables) {x y : Said} {hs ks : List Command} {tx ty : Afloat} → ConsistentViews x hs tx y ks ty → ReadAs h k b x → ReadAs k h b y
    → length (filter (is_conn_between h k) b.conns) ≤ length (filter (is_conn_between k h) b.conns) + length hs + length ks
few_lives_there h k b {x} {y} {hs} {ks} {tx} {ty} a rx ry =
    let few = few_seen h k b all rx.unique there in
    let i = length-append (counterpart (sockets_seen k h b.conns) ++ counterpart (sockets_named false hs)) (sockets_named false ks) in
    let j = length-append (counterpart (sockets_seen k h b.conns)) (counterpart (sockets_named false hs)) in
    let l = length-map {B = Sockets} (sockets_seen k h b.conns) (λ (u : Sockets). (u.1, u.0)) in
    let m = length-map {B = Sockets} (sockets_named false hs) (λ (u : Sockets). (u.1, u.0)) in
    let n = length-map (filter (is_conn_between k h) b.conns) sockets_of_conn in
    let p = named_length false hs in
    let q = named_length false ks in omega (arith, few, i, j, l, m, n, p, q)
  where
    all : List Sockets
    all = (counterpart (sockets_seen k h b.conns) ++ counterpart (sockets_named false hs)) ++ sockets_named false ks

    turned_there : (u : Sockets) (us : List Sockets) → list_any (same (u.1, u.0)) us ≡ true → list_any (same u) (counterpart us) ≡ true
    turned_there u [] e = absurd (cc e)
    turned_there u (v ∷ us) e = go (same (u.1, u.0) v) refl e (turned_there u us)
      where
        go : (c : Bool) → same (u.1, u.0) v ≡ c → (c || list_any (same (u.1, u.0)) us) ≡ true → (list_any (same (u.1, u.0)) us ≡ true → list_any (same u) (counterpart us) ≡ true) → (same u (v.1, v.0) || list_any (same u) (counterpart us)) ≡ true
        go true d e rest = ap (λ (w : Sockets). same u (w.1, w.0) || list_any (same u) (counterpart us)) (sym (same_is (u.1, u.0) v d)) ∙ ap (λ (c : Bool). c || list_any (same u) (counterpart us)) (same_self u)
        go false d e rest = or_right (same u (v.1, v.0)) (rest e)

    there : (u : Sockets) → is_some (seen_of h k b u) ≡ true → list_any (same u) all ≡ true
    there u e =
        any_append (same u) (counterpart (sockets_seen k h b.conns) ++ counterpart (sockets_named false hs)) (sockets_named false ks)
        ∙ go (list_any (same u) (sockets_named false ks)) refl (list_any (same (u.1, u.0)) (sockets_named false hs)) refl
      where
        first_part : Bool
        first_part = list_any (same u) (counterpart (sockets_seen k h b.conns) ++ counterpart (sockets_named false hs))

        by_first : first_part ≡ true → (first_part || list_any (same u) (sockets_named false ks)) ≡ true
        by_first d = ap (λ (c : Bool). c || list_any (same u) (sockets_named false ks)) d

        go : (c : Bool) → list_any (same u) (sockets_named false ks) ≡ c → (d : Bool) → list_any (same (u.1, u.0)) (sockets_named false hs) ≡ d → (first_part || list_any (same u) (sockets_named false ks)) ≡ true
        go true i d j = or_right first_part i
        go false i true j =
            by_first (any_append (same u) (counterpart (sockets_seen k h b.conns)) (counterpart (sockets_named false hs)) ∙ or_right (list_any (same u) (counterpart (sockets_seen k h b.conns))) (turned_there u (sockets_named false hs) j))
        go false i false j =
            let here : is_some (x.shapes u) ≡ true = ap is_some (sym (rx.shapes u)) ∙ e in
            let last : is_some ((after_run false ks x).shapes u) ≡ true = ap is_some (unnamed false ks x u i) ∙ here in
            let far : is_some ((after_run false hs y).shapes (u.1, u.0)) ≡ true = sym (facing_some ((after_run false hs y).shapes (u.1, u.0))) ∙ sym (ap is_some (a.meet.shapes u)) ∙ last in
            let seen_far : is_some (seen_of k h b (u.1, u.0)) ≡ true = ap is_some (ry.shapes (u.1, u.0)) ∙ sym (ap is_some (unnamed false hs y (u.1, u.0) j)) ∙ far in
            let stands = seen_there k h (u.1, u.0) b.conns (sym (seen_some k h (first (is_of_sockets k h u.1 u.0) b.conns)) ∙ seen_far) in
            by_first
            (any_append (same u) (counterpart (sockets_seen k h b.conns)) (counterpart (sockets_named false hs))
            ∙ ap (λ (c : Bool). c || list_any (same u) (counterpart (sockets_named false hs))) (turned_there u (sockets_seen k h b.conns) stands))

-- ---- replies that are due: of each connection one RET at most, and one ERP

abbrev rets_owed : List Owing → List Sockets
rets_owed [] = []
rets_owed (Echoes byte ∷ os) = rets_owed os
rets_owed (Returning u link messages bits ∷ os) = u ∷ rets_owed os

no_echo_length : (os : List Owing) → has_echo os ≡ false → length os ≡ length (rets_owed os)
no_echo_length [] e = refl
no_echo_length (Echoes byte ∷ os) e = absurd (cc e)
no_echo_length (Returning u link messages bits ∷ os) e = ap (λ (n : ℕ). suc n) (no_echo_length os e)

none_owed_of : (u : Sockets) (os : List Owing) → list_any (is_owed_of u) os ≡ false → list_any (same u) (rets_owed os) ≡ false
none_owed_of u [] e = refl
none_owed_of u (Echoes byte ∷ os) e = none_owed_of u os e
none_owed_of u (Returning v link messages bits ∷ os) e =
    let apart = either (same v u) (list_any (is_owed_of u) os) e in
    ap (λ (b : Bool). b || list_any (same u) (rets_owed os)) (same_back v u apart.0) ∙ none_owed_of u os apart.1

both_some : (m : Option Shape) → has_both m ≡ true → is_some m ≡ true
both_some None e = absurd (cc e)
both_some (Some m) e = refl

module _ (s : Bool) (x : Said) where
  distinct_rets : (os : List Owing) → OwesRightly s x.shapes x.users x.counts os → Distinct (rets_owed os)
  distinct_rets [] o = tt
  distinct_rets (Echoes byte ∷ os) (h, rest) = distinct_rets os rest
  distinct_rets (Returning u link messages bits ∷ os) (h, rest) = (none_owed_of u os h.once, distinct_rets os rest)

  rets_among : (all : List Sockets) → ((u : Sockets) → is_some (x.shapes u) ≡ true → list_any (same u) all ≡ true) → (os : List Owing) → OwesRightly s x.shapes x.users x.counts os → AreAmong (rets_owed os) all
  rets_among all f [] o = tt
  rets_among all f (Echoes byte ∷ os) (h, rest) = rets_among all f os rest
  rets_among all f (Returning u link messages bits ∷ os) (h, rest) = (f u (both_some (x.shapes u) h.both), rets_among all f os rest)

  one_echo : (os : List Owing) → OwesRightly s x.shapes x.users x.counts os → length os ≤ length (rets_owed os) + 1
  one_echo [] o = omega arith
  one_echo (Echoes byte ∷ os) (h, rest) = let l = no_echo_length os h in omega (arith, l)
  one_echo (Returning u link messages bits ∷ os) (h, rest) = let l = one_echo os rest in omega (arith, l)

due_length : (s : Bool) (pending_replies : List PendingReply) (os : List Owing) → AreDue s pending_replies os → length pending_replies ≡ length os
due_length s [] [] a = refl
due_length s [] (o ∷ os) a = absurd a
due_length s (due ∷ pending_replies) [] a = absurd a
due_length s (due ∷ pending_replies) (o ∷ os) a = ap (λ (n : ℕ). suc n) (due_length s pending_replies os a.1)

-- those of the one side are of its senders, and those of the other of its receivers

abbrev AllBy : Bool → List Sockets → Type 0
AllBy s [] = Unit {0}
AllBy s (u ∷ us) = (receives_by (not s) u ≡ true) × AllBy s us

rets_by : (s : Bool) (x : Said) (os : List Owing) → OwesRightly s x.shapes x.users x.counts os → AllBy s (rets_owed os)
rets_by s x [] o = tt
rets_by s x (Echoes byte ∷ os) (h, rest) = rets_by s x os rest
rets_by s x (Returning u link messages bits ∷ os) (h, rest) = (h.sends, rets_by s x os rest)

other_kind : (u : Sockets) (vs : List Sockets) → receives_by false u ≡ true → AllBy false vs → list_any (same u) vs ≡ false
other_kind u [] e a = refl
other_kind u (v ∷ vs) e (k, a) = ap (λ (b : Bool). b || list_any (same u) vs) (go (same u v) refl) ∙ other_kind u vs e a
  where
    go : (b : Bool) → same u v ≡ b → same u v ≡ false
    go true d = let no : true ≡ false = one_side true false u (ap (receives_by true) (same_is u v d) ∙ k) e in absurd (cc no)
    go false d = d

distinct_both : (us vs : List Sockets) → Distinct us → Distinct vs → AllBy true us → AllBy false vs → Distinct (us ++ vs)
distinct_both [] vs d e a b = e
distinct_both (u ∷ us) vs (d, ds) e (a, more) b =
    (any_append (same u) us vs ∙ ap (λ (c : Bool). c || list_any (same u) vs) d ∙ other_kind u vs a b, distinct_both us vs ds e more b)

among_both : (us vs all : List Sockets) → AreAmong us all → AreAmong vs all → AreAmong (us ++ vs) all
among_both [] vs all a b = b
among_both (u ∷ us) vs all (a, more) b = (a, among_both us vs all more b)

pub few_pending : (me n : ℕ) (b : SeenTables) (x : Said) → ReadAs me n b x → length (filter (is_due_between me n) b.pending_replies) ≤ length (filter (is_conn_between me n) b.conns) + 2
few_pending me n b x r =
    let two = by_two (is_due_between me n) (is_due_of me n true) (is_due_of me n false) b.pending_replies (either_side b.pending_replies) in
    let i = due_length true (filter (is_due_of me n true) b.pending_replies) (x.owing true) (r.pending_replies true) in
    let j = due_length false (filter (is_due_of me n false) b.pending_replies) (x.owing false) (r.pending_replies false) in
    let k = one_echo true x (x.owing true) (r.returning true) in
    let l = one_echo false x (x.owing false) (r.returning false) in
    let both = length-append (rets_owed (x.owing true)) (rets_owed (x.owing false)) in
    let few = few_among (rets_owed (x.owing true) ++ rets_owed (x.owing false)) (sockets_seen me n b.conns)
    (distinct_both (rets_owed (x.owing true)) (rets_owed (x.owing false)) (distinct_rets true x (x.owing true) (r.returning true)) (distinct_rets false x (x.owing false) (r.returning false)) (rets_by true x (x.owing true) (r.returning true)) (rets_by false x (x.owing false) (r.returning false)))
    (among_both (rets_owed (x.owing true)) (rets_owed (x.owing false)) (sockets_seen me n b.conns) (rets_among true x (sockets_seen me n b.conns) there (x.owing true) (r.returning true)) (rets_among false x (sockets_seen me n b.conns) there (x.owing false) (r.returning false))) in
    let m = length-map (filter (is_conn_between me n) b.conns) sockets_of_conn in omega (arith, two, i, j, k, l, both, few, m)
  where
    either_side : (pending_replies : List PendingReply) → list_any (λ due. is_due_between me n due && not (is_due_of me n true due || is_due_of me n false due)) pending_replies ≡ false
    either_side [] = refl
    either_side (due ∷ pending_replies) = ap (λ (c : Bool). c || list_any (λ one. is_due_between me n one && not (is_due_of me n true one || is_due_of me n false one)) pending_replies) (go (is_due_between me n due) due.host) ∙ either_side pending_replies
      where
        go : (c h : Bool) → (c && not ((c && beq h true) || (c && beq h false))) ≡ false
        go true true = refl
        go true false = refl
        go false h = refl

    there : (u : Sockets) → is_some (x.shapes u) ≡ true → list_any (same u) (sockets_seen me n b.conns) ≡ true
    there u e = seen_there me n u b.conns (sym (seen_some me n (first (is_of_sockets me n u.0 u.1) b.conns)) ∙ ap is_some (r.shapes u) ∙ e)

-- ---- the only other fact: whether an echo is requested

beq_self : (b : Bool) → beq b b ≡ true
beq_self true = refl
beq_self false = refl

topic_self : (what : FactKind) → same_topic what what ≡ true
topic_self (FactKind.LinkSuspended host link) = ap (λ (b : Bool). b && (link == link)) (beq_self host) ∙ eq-eqb link link refl
topic_self (FactKind.Admits host bytes) = ap (λ (b : Bool). b && same_bytes bytes bytes) (beq_self host) ∙ bytes_self bytes
  where
    bytes_self : (bytes : List ℕ) → same_bytes bytes bytes ≡ true
    bytes_self [] = refl
    bytes_self (byte ∷ bytes) = ap (λ (b : Bool). b && same_bytes bytes bytes) (eq-eqb byte byte refl) ∙ bytes_self bytes
topic_self (FactKind.EchoesRest host) = beq_self host
topic_self (FactKind.Asks host) = beq_self host

pub few_marks : (me n : ℕ) (b : SeenTables) (x : Said) → ReadAs me n b x → ((host : Bool) → Unique (is_topic me n (FactKind.Asks host)) b.known_facts) → length (filter (is_fact_between me n) b.known_facts) ≤ 2
few_marks me n b x r unique =
    let two = by_two (is_fact_between me n) (is_topic me n (FactKind.Asks true)) (is_topic me n (FactKind.Asks false)) b.known_facts (asks b.known_facts r.links r.echoes r.admits) in
    let i = once (is_topic me n (FactKind.Asks true)) b.known_facts (unique true) in
    let j = once (is_topic me n (FactKind.Asks false)) b.known_facts (unique false) in omega (arith, two, i, j)
  where
    of_itself : (mark : Fact) → is_fact_between me n mark ≡ true → is_topic me n mark.fact_kind mark ≡ true
    of_itself mark e = ap (λ (c : Bool). c && same_topic mark.fact_kind mark.fact_kind) e ∙ topic_self mark.fact_kind

    nay : {A : Type 0} (what : FactKind) (mark : Fact) → mark.fact_kind ≡ what → is_fact_between me n mark ≡ true → is_topic me n what mark ≡ false → A
    nay what mark k e f = let no : true ≡ false = sym (of_itself mark e) ∙ ap (λ (t : FactKind). is_topic me n t mark) k ∙ f in absurd (cc no)

    asks : (known_facts : List Fact) → ((on : Bool) (link : ℕ) → list_any (is_topic me n (FactKind.LinkSuspended on link)) known_facts ≡ false) → ((host : Bool) → list_any (is_topic me n (FactKind.EchoesRest host)) known_facts ≡ false)
        → ((host : Bool) (bytes : List ℕ) → list_any (is_topic me n (FactKind.Admits host bytes)) known_facts ≡ false)
        → list_any (λ mark. is_fact_between me n mark && not (is_topic me n (FactKind.Asks true) mark || is_topic me n (FactKind.Asks false) mark)) known_facts ≡ false
    asks [] links echoes admits = refl
    asks (mark ∷ known_facts) links echoes admits =
        ap (λ (c : Bool). c || list_any (λ one. is_fact_between me n one && not (is_topic me n (FactKind.Asks true) one || is_topic me n (FactKind.Asks false) one)) known_facts) (go (is_fact_between me n mark) refl mark.fact_kind refl)
        ∙ asks known_facts (λ on link. (either (is_topic me n (FactKind.LinkSuspended on link) mark) (list_any (is_topic me n (FactKind.LinkSuspended on link)) known_facts) (links on link)).1)
        (λ host. (either (is_topic me n (FactKind.EchoesRest host) mark) (list_any (is_topic me n (FactKind.EchoesRest host)) known_facts) (echoes host)).1)
        (λ host bytes. (either (is_topic me n (FactKind.Admits host bytes) mark) (list_any (is_topic me n (FactKind.Admits host bytes)) known_facts) (admits host bytes)).1)
      where
        go : (c : Bool) → is_fact_between me n mark ≡ c → (t : FactKind) → mark.fact_kind ≡ t → (c && not ((c && same_topic t (FactKind.Asks true)) || (c && same_topic t (FactKind.Asks false)))) ≡ false
        go false e t k = refl
        go true e (FactKind.Asks true) k = refl
        go true e (FactKind.Asks false) k = refl
        go true e (FactKind.LinkSuspended on link) k = nay (FactKind.LinkSuspended on link) mark k e (either (is_topic me n (FactKind.LinkSuspended on link) mark) (list_any (is_topic me n (FactKind.LinkSuspended on link)) known_facts) (links on link)).0
        go true e (FactKind.EchoesRest host) k = nay (FactKind.EchoesRest host) mark k e (either (is_topic me n (FactKind.EchoesRest host) mark) (list_any (is_topic me n (FactKind.EchoesRest host)) known_facts) (echoes host)).0
        go true e (FactKind.Admits host bytes) k = nay (FactKind.Admits host bytes) mark k e (either (is_topic me n (FactKind.Admits host bytes) mark) (list_any (is_topic me n (FactKind.Admits host bytes)) known_facts) (admits host bytes)).0
