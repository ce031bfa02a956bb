-- What the other says stays right where one text has gone out or has come before it, and where the one forgets what it owed: what
-- is counted and owed is less, and the connections and their links are the same.
use Rattle.std.proofs.Common.{◌≡◌, ℕ, ◌+◌, ◌-◌, ◌*◌, ◌≤◌, Bool, true, false, not, ◌||◌, if◌then◌else◌, List, [], ◌∷◌, ◌++◌, Option, None, Some, ◌⊎◌, inl, inr, ◌<◌, refl, sym, ap, ◌∙◌, subst, arith}
use Rattle.std.proofs.Math.Nat.{mul-le-mul_left, add-mul}
use Rattle.std.proofs.lemmas.Bool.{and_parts, cases_lt}
use Rattle.ncp_wire.specs.declared.command.Command.{Command}
use Rattle.ncp_wire.specs.declared.command.Command.TheVariants.{Rts, Str, Cls, Eco, Erp, Err, Nop, All, Gvb, Ret, Inr, Ins, Rst, Rrp}
use Rattle.ncp_monitor.specs.Allocation.{part_returned}
use Rattle.ncp_monitor.proofs.Shapes.{Shape, Say, Ask, Leave, their_step}
use Rattle.ncp_monitor.proofs.LinkOrder.{Sockets, same, same_is}
use Rattle.ncp_proof_monitor_allocation.proofs.Words.{Count, no_count}
use Rattle.ncp_proof_monitor_network.specs.Owing.{Owing, Echoes, Returning, is_echo_of, is_returning_on, is_echo, Chosen, NextOwed, owed_after, has_echo, any_owing}
use Rattle.ncp_proof_monitor_network.proofs.Tallied.{left_by, has_both, is_open_by, receives_by, IsDemuxed, HasNumbers, count_put, counted_on, counted_off, recalled_by, returned_by, return_asked, by_side, counts_after_cls, owing_without, owed_messages, owed_bits}
use Rattle.ncp_proof_monitor_network.proofs.Said.{Said, say_of, number_by, after_say, TallyLegal, Legal, TextLegal, counts_said, owing_after, after_said_by, after_text_by, without_owed, LegalRun, after_run}
use Rattle.ncp_proof_monitor_network.proofs.UsersSaid.{one_side, same_self}
use Rattle.ncp_proof_monitor_network.proofs.MatchSteps.{owed_more_messages, owed_more_bits, OwesNone, asked_other}
use Rattle.ncp_proof_monitor_network.proofs.FacesSteps.{part_of_all, part_monotone}

-- ---- the same connections, with other counts, and with other replies that are owed

abbrev pub beside : Said → (Sockets → Count) → (Bool → List Owing) → Said
beside x c o = record x { counts = c; owing = o }

abbrev pub counts_beside : Command → Said → (Sockets → Count) → (Bool → List Owing) → Sockets → Count
counts_beside k x c o = counts_said false k (beside x c o)

abbrev pub owing_beside : Command → Said → (Sockets → Count) → (Bool → List Owing) → Bool → List Owing
owing_beside k x c o = owing_after false k (beside x c o)

beside_after : (k : Command) (x : Said) (c : Sockets → Count) (o : Bool → List Owing) → after_said_by false k (beside x c o) ≡ beside (after_said_by false k x) (counts_beside k x c o) (owing_beside k x c o)
beside_after (Rts receive send link) x c o = refl
beside_after (Str send receive size) x c o = refl
beside_after (Cls my your) x c o = refl
beside_after (Eco byte) x c o = refl
beside_after (Erp byte) x c o = refl
beside_after (Err code bytes) x c o = refl
beside_after Nop x c o = refl
beside_after (All link messages bits) x c o = refl
beside_after (Gvb link fm fb) x c o = refl
beside_after (Ret link messages bits) x c o = refl
beside_after (Inr link) x c o = refl
beside_after (Ins link) x c o = refl
beside_after Rst x c o = refl
beside_after Rrp x c o = refl

abbrev pub Relation : Type 1
Relation = List Command → Said → (Sockets → Count) → (Bool → List Owing) → Type 0

pub record RunBeside (r : Relation) (ks : List Command) (x : Said) (c : Sockets → Count) (o : Bool → List Owing) : Type 0 where
  pub legal : LegalRun false ks (beside x c o)
  pub counts : Sockets → Count
  pub owing : Bool → List Owing
  pub ends : after_run false ks (beside x c o) ≡ beside (after_run false ks x) counts owing
  pub rel : r [] (after_run false ks x) counts owing

run_beside : (r : Relation)
    → ((k : Command) (ks : List Command) (x : Said) (c : Sockets → Count) (o : Bool → List Owing) → Legal false k x → LegalRun false ks (after_said_by false k x) → r (k ∷ ks) x c o
    → Legal false k (beside x c o) × r ks (after_said_by false k x) (counts_beside k x c o) (owing_beside k x c o))
    → (ks : List Command) (x : Said) (c : Sockets → Count) (o : Bool → List Owing) → LegalRun false ks x → r ks x c o → RunBeside r ks x c o
run_beside r step [] x c o l h = record { legal = tt; counts = c; owing = o; ends = refl; rel = h }
run_beside r step (k ∷ ks) x c o (l, ls) h =
    let one = step k ks x c o l ls h in
    let rest = run_beside r step ks (after_said_by false k x) (counts_beside k x c o) (owing_beside k x c o) ls one.1 in
    record {
      legal = (one.0, subst (LegalRun false ks) (sym (beside_after k x c o)) rest.legal);
      counts = rest.counts;
      owing = rest.owing;
      ends = ap (after_run false ks) (beside_after k x c o) ∙ rest.ends;
      rel = rest.rel;
    }

-- ---- what may be said there

led_map : (s r : Bool) (o : Option Sockets) (m : Sockets → Option Shape) (p q : Sockets → Type 0) → ((u : Sockets) → o ≡ Some u → receives_by r u ≡ true → p u → q u) → IsDemuxed s r o m p → IsDemuxed s r o m q
led_map s r None m p q f led = absurd led
led_map s r (Some u) m p q f led = (led.0, led.1, f u refl led.0 led.2)

next_map : (fits : Owing → Bool) (p q : Owing → Type 0) (os : List Owing) → ((o : Owing) → p o → q o) → NextOwed fits p os → NextOwed fits q os
next_map fits p q [] f n = absurd n
next_map fits p q (o ∷ os) f n = go (fits o) (is_echo o) n (next_map fits p q os f)
  where
    go : (b e : Bool) → Chosen b e (p o) (NextOwed fits p os) → (NextOwed fits p os → NextOwed fits q os) → Chosen b e (q o) (NextOwed fits q os)
    go true e n rest = f o n
    go false true n rest = absurd n
    go false false n rest = rest n

pub record Enough (messages bits : ℕ) (k : Count) : Type 0 where
  pub has_messages : messages ≤ k.messages
  pub has_bits : bits ≤ k.bits

numbers_map : (messages bits : ℕ) (k j : Count) → (Enough messages bits k → Enough messages bits j) → (o : Owing) → HasNumbers false messages bits k o → HasNumbers false messages bits j o
numbers_map messages bits k j f (Echoes byte) h = absurd h
numbers_map messages bits k j f (Returning u link most most_bits) h = let e = f (record { has_messages = h.2; has_bits = h.3 }) in (h.0, h.1, e.has_messages, e.has_bits)

module _ (x : Said) (c : Sockets → Count) (o : Bool → List Owing) (theirs : o false ≡ x.owing false) (echo : has_echo (x.owing true) ≡ false → has_echo (o true) ≡ false)
    (low : (u : Sockets) → receives_by false u ≡ true → Enough (c u).messages (c u).bits (x.counts u)) (recall : (u : Sockets) → (c u).recall ≡ (x.counts u).recall) where
  tally_beside : (k : Command)
      → ((link messages bits : ℕ) (u : Sockets) → k ≡ Ret link messages bits → x.users true link ≡ Some u → receives_by true u ≡ true → Enough messages bits (x.counts u) → Enough messages bits (c u))
      → TallyLegal false k x → TallyLegal false k (beside x c o)
  tally_beside (Rts receive send link) enough t = t
  tally_beside (Str send receive size) enough t = tt
  tally_beside (Cls my your) enough t = tt
  tally_beside (Eco byte) enough t = echo t
  tally_beside (Erp byte) enough t = subst (λ (os : List Owing). NextOwed (is_echo_of byte) any_owing os) (sym theirs) t
  tally_beside (Err code bytes) enough t = absurd t
  tally_beside Nop enough t = tt
  tally_beside (All link messages bits) enough t =
      led_map false false (x.users false link) x.shapes (λ u. ((x.counts u).messages + messages ≤ 65535) × ((x.counts u).bits + bits ≤ 65536)) (λ u. ((c u).messages + messages ≤ 65535) × ((c u).bits + bits ≤ 65536))
      (λ u e r k. let less = low u r in let a = less.has_messages in let b = less.has_bits in let d = k.0 in let f = k.1 in (omega (arith, a, d), omega (arith, b, f))) t
  tally_beside (Gvb link fm fb) enough t =
      led_map false false (x.users false link) x.shapes (λ u. (x.counts u).recall ≡ false) (λ u. (c u).recall ≡ false) (λ u e r k. recall u ∙ k) t
  tally_beside (Ret link messages bits) enough t =
      led_map false true (x.users true link) x.shapes (λ u. ((x.counts u).recall ≡ true) × NextOwed (is_returning_on link) (HasNumbers false messages bits (x.counts u)) (x.owing false))
      (λ u. ((c u).recall ≡ true) × NextOwed (is_returning_on link) (HasNumbers false messages bits (c u)) (o false))
      (λ u e r k. (
        recall u ∙ k.0,
        subst (λ (os : List Owing). NextOwed (is_returning_on link) (HasNumbers false messages bits (c u)) os) (sym theirs)
            (next_map (is_returning_on link) (HasNumbers false messages bits (x.counts u)) (HasNumbers false messages bits (c u)) (x.owing false) (numbers_map messages bits (x.counts u) (c u) (enough link messages bits u refl e r)) k.1),
      )) t
  tally_beside (Inr link) enough t = t
  tally_beside (Ins link) enough t = t
  tally_beside Rst enough t = tt
  tally_beside Rrp enough t = tt

  legal_beside : (k : Command)
      → ((link messages bits : ℕ) (u : Sockets) → k ≡ Ret link messages bits → x.users true link ≡ Some u → receives_by true u ≡ true → Enough messages bits (x.counts u) → Enough messages bits (c u))
      → Legal false k x → Legal false k (beside x c o)
  legal_beside k enough l = record { right = l.right; fits = l.fits; tally = tally_beside k enough l.tally }

-- what the other owes is after it what it was, less the same
theirs_beside : (k : Command) (x : Said) (c : Sockets → Count) (o : Bool → List Owing) → o false ≡ x.owing false → owing_beside k x c o false ≡ owing_after false k x false
theirs_beside (Rts receive send link) x c o e = e
theirs_beside (Str send receive size) x c o e = e
theirs_beside (Cls my your) x c o e = ap (owing_without (your, my)) e
theirs_beside (Eco byte) x c o e = e
theirs_beside (Erp byte) x c o e = ap (owed_after (is_echo_of byte)) e
theirs_beside (Err code bytes) x c o e = e
theirs_beside Nop x c o e = e
theirs_beside (All link messages bits) x c o e = e
theirs_beside (Gvb link fm fb) x c o e = e
theirs_beside (Ret link messages bits) x c o e = ap (owed_after (is_returning_on link)) e
theirs_beside (Inr link) x c o e = e
theirs_beside (Ins link) x c o e = e
theirs_beside Rst x c o e = e
theirs_beside Rrp x c o e = e

-- ---- the one forgets what it owed

pub record Forgot (old : List Owing) (x : Said) (c : Sockets → Count) (o : Bool → List Owing) : Type 0 where
  pub counts : c ≡ x.counts
  pub mine : x.owing true ≡ old ++ o true
  pub theirs : o false ≡ x.owing false

more_after : (old os now ds : List Owing) → os ≡ old ++ now → os ++ ds ≡ old ++ (now ++ ds)
more_after old os now ds e = ap (λ (z : List Owing). z ++ ds) e ∙ go old
  where
    go : (old : List Owing) → (old ++ now) ++ ds ≡ old ++ (now ++ ds)
    go [] = refl
    go (o ∷ old) = ap (λ (z : List Owing). o ∷ z) (go old)

forgot_counts : (k : Command) (x : Said) (c : Sockets → Count) (o : Bool → List Owing) → c ≡ x.counts → counts_beside k x c o ≡ counts_said false k x
forgot_counts (Rts receive send link) x c o e = e
forgot_counts (Str send receive size) x c o e = e
forgot_counts (Cls my your) x c o e = ap (λ (d : Sockets → Count). counts_after_cls (left_by true (x.shapes (your, my))) (your, my) d) e
forgot_counts (Eco byte) x c o e = e
forgot_counts (Erp byte) x c o e = e
forgot_counts (Err code bytes) x c o e = e
forgot_counts Nop x c o e = e
forgot_counts (All link messages bits) x c o e = ap (λ (d : Sockets → Count). count_put d (x.users false link) (counted_on messages bits)) e
forgot_counts (Gvb link fm fb) x c o e = ap (λ (d : Sockets → Count). count_put d (x.users false link) (recalled_by false fm fb)) e
forgot_counts (Ret link messages bits) x c o e = ap (λ (d : Sockets → Count). count_put d (x.users true link) (returned_by false messages bits)) e
forgot_counts (Inr link) x c o e = e
forgot_counts (Ins link) x c o e = e
forgot_counts Rst x c o e = e
forgot_counts Rrp x c o e = e

forgot_mine : (old : List Owing) (k : Command) (x : Said) (c : Sockets → Count) (o : Bool → List Owing) → c ≡ x.counts → x.owing true ≡ old ++ o true → owing_after false k x true ≡ old ++ owing_beside k x c o true
forgot_mine old (Rts receive send link) x c o k e = e
forgot_mine old (Str send receive size) x c o k e = e
forgot_mine old (Cls my your) x c o k e = e
forgot_mine old (Eco byte) x c o k e = more_after old (x.owing true) (o true) (Echoes byte ∷ []) e
forgot_mine old (Erp byte) x c o k e = e
forgot_mine old (Err code bytes) x c o k e = e
forgot_mine old Nop x c o k e = e
forgot_mine old (All link messages bits) x c o k e = e
forgot_mine old (Gvb link fm fb) x c o k e =
    more_after old (x.owing true) (o true) (return_asked false link fm fb x.shapes x.counts (x.users false link)) e
    ∙ ap (λ (d : Sockets → Count). old ++ (o true ++ return_asked false link fm fb x.shapes d (x.users false link))) (sym k)
forgot_mine old (Ret link messages bits) x c o k e = e
forgot_mine old (Inr link) x c o k e = e
forgot_mine old (Ins link) x c o k e = e
forgot_mine old Rst x c o k e = e
forgot_mine old Rrp x c o k e = e

none_later : (old os : List Owing) → has_echo (old ++ os) ≡ false → has_echo os ≡ false
none_later [] os e = e
none_later (o ∷ old) os e = none_later old os (go (is_echo o) e)
  where
    go : (b : Bool) → (b || has_echo (old ++ os)) ≡ false → has_echo (old ++ os) ≡ false
    go true e = absurd (cc e)
    go false e = e

pub forgot_run : (old : List Owing) (ks : List Command) (x : Said) (c : Sockets → Count) (o : Bool → List Owing) → LegalRun false ks x → Forgot old x c o → RunBeside (λ ls. Forgot old) ks x c o
forgot_run old = run_beside (λ ls. Forgot old) step
  where
    step : (k : Command) (ks : List Command) (x : Said) (c : Sockets → Count) (o : Bool → List Owing) → Legal false k x → LegalRun false ks (after_said_by false k x) → Forgot old x c o
        → Legal false k (beside x c o) × Forgot old (after_said_by false k x) (counts_beside k x c o) (owing_beside k x c o)
    step k ks x c o l ls f = (
      legal_beside x c o f.theirs (λ e. none_later old (o true) (ap has_echo (sym f.mine) ∙ e))
          (λ u r. subst (λ (d : Sockets → Count). Enough (c u).messages (c u).bits (d u)) f.counts (record { has_messages = omega arith; has_bits = omega arith }))
          (λ u. ap (λ (d : Sockets → Count). (d u).recall) f.counts) k (λ link messages bits u e g r h. subst (λ (d : Sockets → Count). Enough messages bits (d u)) (sym f.counts) h) l,
      record { counts = forgot_counts k x c o f.counts; mine = forgot_mine old k x c o f.counts f.mine; theirs = theirs_beside k x c o f.theirs },
    )

pub forgets : (x : Said) → Forgot (x.owing true) x x.counts (by_side true [] x.owing)
forgets x = record { counts = refl; mine = nil (x.owing true); theirs = refl }
  where
    nil : (os : List Owing) → os ≡ os ++ []
    nil [] = refl
    nil (o ∷ os) = ap (λ (ps : List Owing). o ∷ ps) (nil os)

pub room_run : (ks : List Command) (x : Said) → LegalRun false ks x → LegalRun false ks (without_owed x)
room_run ks x l = (forgot_run (x.owing true) ks x x.counts (by_side true [] x.owing) l (forgets x)).legal

-- ---- what the other says takes nothing but by RET from what the one receives

less_put : (d : Sockets → Count) (o : Option Sockets) (f : Count → Count) (u : Sockets) → ((v : Sockets) → o ≡ Some v → same u v ≡ true → Enough (f (d u)).messages (f (d u)).bits (d u)) → Enough (count_put d o f u).messages (count_put d o f u).bits (d u)
less_put d None f u k = record { has_messages = omega arith; has_bits = omega arith }
less_put d (Some v) f u k = go (same u v) refl
  where
    go : (b : Bool) → same u v ≡ b → Enough (if b then f (d u) else d u).messages (if b then f (d u) else d u).bits (d u)
    go true e = k v refl e
    go false e = record { has_messages = omega arith; has_bits = omega arith }

-- one sends by the connection, and the other receives by it
pub other_side : (u v : Sockets) → receives_by true u ≡ true → receives_by false v ≡ true → same u v ≡ true → ⊥
other_side u v a b e = let nay : true ≡ false = one_side true false u a (ap (receives_by false) (same_is u v e) ∙ b) in cc nay

pub led_receives : (s r : Bool) (o : Option Sockets) (m : Sockets → Option Shape) (p : Sockets → Type 0) → IsDemuxed s r o m p → (v : Sockets) → o ≡ Some v → receives_by r v ≡ true
led_receives s r None m p led v e = absurd led
led_receives s r (Some w) m p led v e = let is : w ≡ v = cc e in ap (receives_by r) (sym is) ∙ led.0

falls : (k : Command) (x : Said) (u : Sockets) → receives_by true u ≡ true → Legal false k x → Enough (counts_said false k x u).messages (counts_said false k x u).bits (x.counts u)
falls (Rts receive send link) x u r l = record { has_messages = omega arith; has_bits = omega arith }
falls (Str send receive size) x u r l = record { has_messages = omega arith; has_bits = omega arith }
falls (Cls my your) x u r l = go (left_by true (x.shapes (your, my)))
  where
    go : (b : Bool) → Enough (counts_after_cls b (your, my) x.counts u).messages (counts_after_cls b (your, my) x.counts u).bits (x.counts u)
    go true = less_put x.counts (Some (your, my)) (λ k. no_count) u (λ v e d. record { has_messages = omega arith; has_bits = omega arith })
    go false = record { has_messages = omega arith; has_bits = omega arith }
falls (Eco byte) x u r l = record { has_messages = omega arith; has_bits = omega arith }
falls (Erp byte) x u r l = record { has_messages = omega arith; has_bits = omega arith }
falls (Err code bytes) x u r l = absurd l.tally
falls Nop x u r l = record { has_messages = omega arith; has_bits = omega arith }
falls (All link messages bits) x u r l =
    less_put x.counts (x.users false link) (counted_on messages bits) u
    (λ v e d. absurd (other_side u v r (led_receives false false (x.users false link) x.shapes (λ u. ((x.counts u).messages + messages ≤ 65535) × ((x.counts u).bits + bits ≤ 65536)) l.tally v e) d))
falls (Gvb link fm fb) x u r l =
    less_put x.counts (x.users false link) (recalled_by false fm fb) u
    (λ v e d. absurd (other_side u v r (led_receives false false (x.users false link) x.shapes (λ u. (x.counts u).recall ≡ false) l.tally v e) d))
falls (Ret link messages bits) x u r l = less_put x.counts (x.users true link) (returned_by false messages bits) u (λ v e d. record { has_messages = omega arith; has_bits = omega arith })
falls (Inr link) x u r l = record { has_messages = omega arith; has_bits = omega arith }
falls (Ins link) x u r l = record { has_messages = omega arith; has_bits = omega arith }
falls Rst x u r l = record { has_messages = omega arith; has_bits = omega arith }
falls Rrp x u r l = record { has_messages = omega arith; has_bits = omega arith }

pub run_falls : (ks : List Command) (x : Said) (u : Sockets) → receives_by true u ≡ true → LegalRun false ks x → Enough ((after_run false ks x).counts u).messages ((after_run false ks x).counts u).bits (x.counts u)
run_falls [] x u r l = record { has_messages = omega arith; has_bits = omega arith }
run_falls (k ∷ ks) x u r (l, ls) =
    let one = falls k x u r l in
    let rest = run_falls ks (after_said_by false k x) u r ls in
    let a = one.has_messages in
    let b = one.has_bits in
    let c = rest.has_messages in
    let d = rest.has_bits in record { has_messages = omega (arith, a, c); has_bits = omega (arith, b, d) }

-- ---- a text of the other has come before what it said: so much is left for it at the end

pub record Early (u : Sockets) (bits : ℕ) (ks : List Command) (x : Said) (c : Sockets → Count) (o : Bool → List Owing) : Type 0 where
  pub receives : receives_by true u ≡ true
  pub counts : (v : Sockets) → c v ≡ count_put x.counts (Some u) (counted_off 1 bits) v
  pub owing : (s : Bool) → o s ≡ x.owing s
  pub last : Enough 1 bits ((after_run false ks x).counts u)

abbrev counted_with : ℕ → ℕ → Bool → Count
counted_with n k b = record { messages = n; bits = k; recall = b }

count_is : (a b c d : ℕ) (r : Bool) → a ≡ c → b ≡ d → counted_with a b r ≡ counted_with c d r
count_is a b c d r e f = ap (λ (n : ℕ). counted_with n b r) e ∙ ap (λ (n : ℕ). counted_with c n r) f

-- each takes off its own
put_commutes : (c d : Sockets → Count) (o : Option Sockets) (u : Sockets) (f g : Count → Count) (v : Sockets) → c v ≡ count_put d (Some u) g v
    → ((w : Sockets) → o ≡ Some w → same v w ≡ true → same v u ≡ true → f (g (d v)) ≡ g (f (d v))) → count_put c o f v ≡ count_put (count_put d o f) (Some u) g v
put_commutes c d None u f g v e k = e
put_commutes c d (Some w) u f g v e k = ap (λ (j : Count). if same v w then f j else c v) e ∙ ap (λ (j : Count). if same v w then f (count_put d (Some u) g v) else j) e ∙ go (same v w) refl (same v u) refl
  where
    go : (a : Bool) → same v w ≡ a → (b : Bool) → same v u ≡ b → (if a then f (if b then g (d v) else d v) else if b then g (d v) else d v) ≡ (if b then g (if a then f (d v) else d v) else if a then f (d v) else d v)
    go true x true y = k w refl x y
    go true x false y = refl
    go false x true y = refl
    go false x false y = refl

early_counts : (k : Command) (x : Said) (c : Sockets → Count) (o : Bool → List Owing) (u : Sockets) (bits : ℕ) → receives_by true u ≡ true → Legal false k x
    → ((v : Sockets) → c v ≡ count_put x.counts (Some u) (counted_off 1 bits) v) → (v : Sockets) → counts_beside k x c o v ≡ count_put (counts_said false k x) (Some u) (counted_off 1 bits) v
early_counts (Rts receive send link) x c o u t r l e v = e v
early_counts (Str send receive size) x c o u t r l e v = e v
early_counts (Cls my your) x c o u t r l e v = go (left_by true (x.shapes (your, my)))
  where
    go : (b : Bool) → counts_after_cls b (your, my) c v ≡ count_put (counts_after_cls b (your, my) x.counts) (Some u) (counted_off 1 t) v
    go true = put_commutes c x.counts (Some (your, my)) u (λ k. no_count) (counted_off 1 t) v (e v) (λ w f a b. count_is 0 0 (0 - 1) (0 - t) false (omega arith) (omega arith))
    go false = e v
early_counts (Eco byte) x c o u t r l e v = e v
early_counts (Erp byte) x c o u t r l e v = e v
early_counts (Err code bytes) x c o u t r l e v = e v
early_counts Nop x c o u t r l e v = e v
early_counts (All link messages bits) x c o u t r l e v =
    put_commutes c x.counts (x.users false link) u (counted_on messages bits) (counted_off 1 t) v (e v)
    (λ w f a b. absurd (other_side v w (ap (receives_by true) (same_is v u b) ∙ r) (led_receives false false (x.users false link) x.shapes (λ u. ((x.counts u).messages + messages ≤ 65535) × ((x.counts u).bits + bits ≤ 65536)) l.tally w f) a))
early_counts (Gvb link fm fb) x c o u t r l e v =
    put_commutes c x.counts (x.users false link) u (recalled_by false fm fb) (counted_off 1 t) v (e v)
    (λ w f a b. absurd (other_side v w (ap (receives_by true) (same_is v u b) ∙ r) (led_receives false false (x.users false link) x.shapes (λ u. (x.counts u).recall ≡ false) l.tally w f) a))
early_counts (Ret link messages bits) x c o u t r l e v =
    put_commutes c x.counts (x.users true link) u (returned_by false messages bits) (counted_off 1 t) v (e v)
    (λ w f a b. let n : ℕ = (x.counts v).messages in let k : ℕ = (x.counts v).bits in count_is (n - 1 - messages) (k - t - bits) (n - messages - 1) (k - bits - t) false (omega arith) (omega arith))
early_counts (Inr link) x c o u t r l e v = e v
early_counts (Ins link) x c o u t r l e v = e v
early_counts Rst x c o u t r l e v = e v
early_counts Rrp x c o u t r l e v = e v

-- where the other receives the counts are as they were
early_other : (d : Sockets → Count) (u : Sockets) (g : Count → Count) (w : Sockets) → receives_by true u ≡ true → receives_by false w ≡ true → count_put d (Some u) g w ≡ d w
early_other d u g w a b = go (same w u) refl
  where
    go : (z : Bool) → same w u ≡ z → (if z then g (d w) else d w) ≡ d w
    go true e = absurd (other_side w u (ap (receives_by true) (same_is w u e) ∙ a) (ap (receives_by false) (sym (same_is w u e)) ∙ b) (ap (λ (z : Sockets). same w z) (sym (same_is w u e)) ∙ same_self w))
    go false e = refl

-- what a GVB asks for is by the counts
asked_by : (link fm fb : ℕ) (m : Sockets → Option Shape) (c d : Sockets → Count) (o : Option Sockets) → ((w : Sockets) → o ≡ Some w → c w ≡ d w) → return_asked false link fm fb m c o ≡ return_asked false link fm fb m d o
asked_by link fm fb m c d None k = refl
asked_by link fm fb m c d (Some w) k = ap (λ (j : Count). if left_by true (m w) then [] else Returning w link (part_returned j.messages fm) (part_returned j.bits fb) ∷ []) (k w refl)

by_both : (t : Bool) (now then_now : List Owing) (o p : Bool → List Owing) → now ≡ then_now → ((s : Bool) → o s ≡ p s) → (s : Bool) → by_side t now o s ≡ by_side t then_now p s
by_both true now then_now o p e k true = e
by_both true now then_now o p e k false = k false
by_both false now then_now o p e k true = k true
by_both false now then_now o p e k false = e

early_owing : (k : Command) (x : Said) (c : Sockets → Count) (o : Bool → List Owing) (u : Sockets) (bits : ℕ) → receives_by true u ≡ true → Legal false k x
    → ((v : Sockets) → c v ≡ count_put x.counts (Some u) (counted_off 1 bits) v) → ((s : Bool) → o s ≡ x.owing s) → (s : Bool) → owing_beside k x c o s ≡ owing_after false k x s
early_owing (Rts receive send link) x c o u t r l e p s = p s
early_owing (Str send receive size) x c o u t r l e p s = p s
early_owing (Cls my your) x c o u t r l e p s = by_both false (owing_without (your, my) (o false)) (owing_without (your, my) (x.owing false)) o x.owing (ap (owing_without (your, my)) (p false)) p s
early_owing (Eco byte) x c o u t r l e p s = by_both true (o true ++ Echoes byte ∷ []) (x.owing true ++ Echoes byte ∷ []) o x.owing (ap (λ (z : List Owing). z ++ Echoes byte ∷ []) (p true)) p s
early_owing (Erp byte) x c o u t r l e p s = by_both false (owed_after (is_echo_of byte) (o false)) (owed_after (is_echo_of byte) (x.owing false)) o x.owing (ap (owed_after (is_echo_of byte)) (p false)) p s
early_owing (Err code bytes) x c o u t r l e p s = p s
early_owing Nop x c o u t r l e p s = p s
early_owing (All link messages bits) x c o u t r l e p s = p s
early_owing (Gvb link fm fb) x c o u t r l e p s =
    by_both true (o true ++ return_asked false link fm fb x.shapes c (x.users false link)) (x.owing true ++ return_asked false link fm fb x.shapes x.counts (x.users false link)) o x.owing
    (ap (λ (z : List Owing). z ++ return_asked false link fm fb x.shapes c (x.users false link)) (p true)
    ∙ ap (λ (z : List Owing). x.owing true ++ z) (asked_by link fm fb x.shapes c x.counts (x.users false link)
    (λ w f. e w ∙ early_other x.counts u (counted_off 1 t) w r (led_receives false false (x.users false link) x.shapes (λ u. (x.counts u).recall ≡ false) l.tally w f)))) p s
early_owing (Ret link messages bits) x c o u t r l e p s = by_both false (owed_after (is_returning_on link) (o false)) (owed_after (is_returning_on link) (x.owing false)) o x.owing (ap (owed_after (is_returning_on link)) (p false)) p s
early_owing (Inr link) x c o u t r l e p s = p s
early_owing (Ins link) x c o u t r l e p s = p s
early_owing Rst x c o u t r l e p s = p s
early_owing Rrp x c o u t r l e p s = p s

off_recall : (d : Sockets → Count) (u : Sockets) (bits : ℕ) (w : Sockets) → (count_put d (Some u) (counted_off 1 bits) w).recall ≡ (d w).recall
off_recall d u bits w = go (same w u)
  where
    go : (b : Bool) → (if b then counted_off 1 bits (d w) else d w).recall ≡ (d w).recall
    go true = refl
    go false = refl

pub early_run : (u : Sockets) (bits : ℕ) (ks : List Command) (x : Said) (c : Sockets → Count) (o : Bool → List Owing) → LegalRun false ks x → Early u bits ks x c o → RunBeside (Early u bits) ks x c o
early_run u t = run_beside (Early u t) step
  where
    step : (k : Command) (ks : List Command) (x : Said) (c : Sockets → Count) (o : Bool → List Owing) → Legal false k x → LegalRun false ks (after_said_by false k x) → Early u t (k ∷ ks) x c o
        → Legal false k (beside x c o) × Early u t ks (after_said_by false k x) (counts_beside k x c o) (owing_beside k x c o)
    step k ks x c o l ls f = (
      legal_beside x c o (f.owing false) (λ e. ap has_echo (f.owing true) ∙ e)
          (λ w r. subst (λ (j : Count). Enough j.messages j.bits (x.counts w)) (sym (f.counts w ∙ early_other x.counts u (counted_off 1 t) w f.receives r)) (record { has_messages = omega arith; has_bits = omega arith }))
          (λ w. ap (λ (j : Count). j.recall) (f.counts w) ∙ off_recall x.counts u t w)
          k enough l,
      record { receives = f.receives; counts = early_counts k x c o u t f.receives l f.counts; owing = early_owing k x c o u t f.receives l f.counts f.owing; last = f.last },
    )
      where
        enough : (link messages bits : ℕ) (w : Sockets) → k ≡ Ret link messages bits → x.users true link ≡ Some w → receives_by true w ≡ true → Enough messages bits (x.counts w) → Enough messages bits (c w)
        enough link messages bits w g used r h = subst (λ (j : Count). Enough messages bits j) (sym (f.counts w)) (go (same w u) refl)
          where
            go : (b : Bool) → same w u ≡ b → Enough messages bits (if b then counted_off 1 t (x.counts w) else x.counts w)
            go false e = h
            go true e =
                let is : Sockets = w in
                let same_one : w ≡ u = same_is w u e in
                let left = run_falls ks (after_said_by false k x) u f.receives ls in
                let now : counts_said false k x u ≡ returned_by false messages bits (x.counts w) =
                ap (λ (j : Command). counts_said false j x u) g
                ∙ ap (λ (z : Option Sockets). count_put x.counts z (returned_by false messages bits) u) used
                ∙ ap (λ (z : Bool). if z then returned_by false messages bits (x.counts u) else x.counts u) (ap (λ (z : Sockets). same u z) same_one ∙ same_self u)
                ∙ ap (λ (z : Sockets). returned_by false messages bits (x.counts z)) (sym same_one) in
                let a = f.last.has_messages in
                let b = f.last.has_bits in
                let c = left.has_messages in
                let d = left.has_bits in
                let i : (counts_said false k x u).messages ≡ (x.counts w).messages - messages = ap (λ (j : Count). j.messages) now in
                let j : (counts_said false k x u).bits ≡ (x.counts w).bits - bits = ap (λ (j : Count). j.bits) now in
                let m = h.has_messages in
                let n = h.has_bits in
                record { has_messages = omega (arith, a, c, i, m); has_bits = omega (arith, b, d, j, n) }

-- ---- a text of the one has gone out: with what is counted and what is owed of it there is so much less

-- the same is owed, with no greater numbers
abbrev pub AsOwed : Owing → Owing → Type 0
AsOwed (Echoes byte) (Echoes other) = byte ≡ other
AsOwed (Echoes byte) (Returning u link messages bits) = ⊥
AsOwed (Returning u link messages bits) (Echoes byte) = ⊥
AsOwed (Returning u link messages bits) (Returning v on less less_bits) = (u ≡ v) × (link ≡ on) × (less ≤ messages) × (less_bits ≤ bits)

abbrev pub FewerOwed : List Owing → List Owing → Type 0
FewerOwed [] [] = Unit {0}
FewerOwed [] (q ∷ qs) = ⊥
FewerOwed (p ∷ ps) [] = ⊥
FewerOwed (p ∷ ps) (q ∷ qs) = AsOwed p q × FewerOwed ps qs

pub fewer_same : (ps : List Owing) → FewerOwed ps ps
fewer_same [] = tt
fewer_same (Echoes byte ∷ ps) = (refl, fewer_same ps)
fewer_same (Returning u link messages bits ∷ ps) = ((refl, refl, omega arith, omega arith), fewer_same ps)

fewer_append : (ps qs ds es : List Owing) → FewerOwed ps qs → FewerOwed ds es → FewerOwed (ps ++ ds) (qs ++ es)
fewer_append [] [] ds es f g = g
fewer_append [] (q ∷ qs) ds es f g = absurd f
fewer_append (p ∷ ps) [] ds es f g = absurd f
fewer_append (p ∷ ps) (q ∷ qs) ds es f g = (f.0, fewer_append ps qs ds es f.1 g)

as_echo : (p q : Owing) → AsOwed p q → is_echo q ≡ is_echo p
as_echo (Echoes byte) (Echoes other) a = refl
as_echo (Echoes byte) (Returning v on messages bits) a = absurd a
as_echo (Returning u link messages bits) (Echoes other) a = absurd a
as_echo (Returning u link messages bits) (Returning v on less less_bits) a = refl

pub fewer_echo : (ps qs : List Owing) → FewerOwed ps qs → has_echo qs ≡ has_echo ps
fewer_echo [] [] f = refl
fewer_echo [] (q ∷ qs) f = absurd f
fewer_echo (p ∷ ps) [] f = absurd f
fewer_echo (p ∷ ps) (q ∷ qs) f = ap (λ (b : Bool). b || has_echo qs) (as_echo p q f.0) ∙ ap (λ (b : Bool). is_echo p || b) (fewer_echo ps qs f.1)

-- what is counted of its connection, and owed: so much less
pub record SoMuchLess (k j : Count) (om ob pm pb bits : ℕ) : Type 0 where
  pub recall : j.recall ≡ k.recall
  pub messages_fall : j.messages ≤ k.messages
  pub bits_fall : j.bits ≤ k.bits
  pub messages_less : j.messages + pm + 1 ≤ k.messages + om
  pub bits_less : j.bits + pb + bits ≤ k.bits + ob

pub record Spent (u : Sockets) (bits : ℕ) (x : Said) (c : Sockets → Count) (o : Bool → List Owing) : Type 0 where
  pub sends : receives_by false u ≡ true
  pub unleft : left_by true (x.shapes u) ≡ false
  pub other : (v : Sockets) → same v u ≡ false → c v ≡ x.counts v
  pub less : SoMuchLess (x.counts u) (c u) (owed_messages u (x.owing true)) (owed_bits u (x.owing true)) (owed_messages u (o true)) (owed_bits u (o true)) bits
  pub mine : FewerOwed (x.owing true) (o true)
  pub theirs : o false ≡ x.owing false

-- what is left after a GVB grows with what was there
rest_monotone : (a b f : ℕ) → a ≤ b → a - part_returned a f ≤ b - part_returned b f
rest_monotone a b f e = go (cases_lt f 128)
  where
    go : (f < 128) ⊎ (128 ≤ f) → a - part_returned a f ≤ b - part_returned b f
    go (inl k) =
        let d : ℕ = b - a in
        let is : a + (b - a) ≡ b = omega (arith, e) in
        let more : a * f + (b - a) * f ≡ b * f = sym (add-mul a (b - a) f) ∙ ap (λ (n : ℕ). n * f) is in
        let low : f ≤ 128 = omega (arith, k) in
        let most : (b - a) * f ≤ (b - a) * 128 = mul-le-mul_left (b - a) low in
        omega (arith, e, more, most)
    go (inr k) =
        let all : a * 128 ≤ a * f = mul-le-mul_left a k in
        omega (arith, all)

plus_none : {a b d : ℕ} → a ≡ b + d → d ≡ 0 → a ≡ b
plus_none {a} {b} {d} e f = omega (arith, e, f)

less_same : (k j : Count) (om ob pm pb bits : ℕ) → SoMuchLess k j om ob pm pb bits → (qm qb rm rb : ℕ) → qm ≡ om → qb ≡ ob → rm ≡ pm → rb ≡ pb → SoMuchLess k j qm qb rm rb bits
less_same k j om ob pm pb bits l qm qb rm rb a b c d = record {
  recall = l.recall;
  messages_fall = l.messages_fall;
  bits_fall = l.bits_fall;
  messages_less = let m = l.messages_less in omega (arith, m, a, c);
  bits_less = let m = l.bits_less in omega (arith, m, b, d);
}

less_grant : (k j : Count) (om ob pm pb t messages bits : ℕ) → SoMuchLess k j om ob pm pb t → SoMuchLess (counted_on messages bits k) (counted_on messages bits j) om ob pm pb t
less_grant k j om ob pm pb t messages bits l = record {
  recall = l.recall;
  messages_fall = let m = l.messages_fall in omega (arith, m);
  bits_fall = let m = l.bits_fall in omega (arith, m);
  messages_less = let m = l.messages_less in omega (arith, m);
  bits_less = let m = l.bits_less in omega (arith, m);
}

less_recall : (k j : Count) (om ob pm pb t fm fb qm qb rm rb : ℕ) → SoMuchLess k j om ob pm pb t → qm ≡ om + part_returned k.messages fm → qb ≡ ob + part_returned k.bits fb → rm ≡ pm + part_returned j.messages fm → rb ≡ pb + part_returned j.bits fb
    → SoMuchLess (recalled_by false fm fb k) (recalled_by false fm fb j) qm qb rm rb t
less_recall k j om ob pm pb t fm fb qm qb rm rb l a b c d = record {
  recall = refl;
  messages_fall = rest_monotone j.messages k.messages fm l.messages_fall;
  bits_fall = rest_monotone j.bits k.bits fb l.bits_fall;
  messages_less = let m = l.messages_less in let p = part_of_all k.messages fm in let q = part_of_all j.messages fm in omega (arith, m, p, q, a, c);
  bits_less = let m = l.bits_less in let p = part_of_all k.bits fb in let q = part_of_all j.bits fb in omega (arith, m, p, q, b, d);
}

-- the connection is not left by the one, so no CLS of the other ends it
their_unleft : (k : Command) (x : Said) (u : Sockets) → left_by true (x.shapes u) ≡ false → left_by true ((after_said_by false k x).shapes u) ≡ false
their_unleft k x u e = go (say_of false k)
  where
    stays : (a : Say) (m : Option Shape) → left_by true m ≡ false → left_by true (their_step a m) ≡ false
    stays (Ask n) None e = refl
    stays (Ask n) (Some s) e = e
    stays Leave None e = refl
    stays Leave (Some s) e = ap (λ (b : Bool). left_by true (if b then None else Some (record s { cls = true }))) e ∙ e

    go : (o : Option (Sockets × Say)) → left_by true (after_say false o x.shapes u) ≡ false
    go None = e
    go (Some (p, a)) = by (same u p) refl
      where
        by : (b : Bool) → same u p ≡ b → left_by true (if b then their_step a (x.shapes p) else x.shapes u) ≡ false
        by true d = stays a (x.shapes p) (ap (λ (w : Sockets). left_by true (x.shapes w)) (sym (same_is u p d)) ∙ e)
        by false d = e

put_other : (c d : Sockets → Count) (o : Option Sockets) (f : Count → Count) (v : Sockets) → c v ≡ d v → count_put c o f v ≡ count_put d o f v
put_other c d None f v e = e
put_other c d (Some w) f v e = ap (λ (j : Count). if same v w then f j else j) e

spent_other : (k : Command) (x : Said) (c : Sockets → Count) (o : Bool → List Owing) (v : Sockets) → c v ≡ x.counts v → counts_beside k x c o v ≡ counts_said false k x v
spent_other (Rts receive send link) x c o v e = e
spent_other (Str send receive size) x c o v e = e
spent_other (Cls my your) x c o v e = go (left_by true (x.shapes (your, my)))
  where
    go : (b : Bool) → counts_after_cls b (your, my) c v ≡ counts_after_cls b (your, my) x.counts v
    go true = put_other c x.counts (Some (your, my)) (λ k. no_count) v e
    go false = e
spent_other (Eco byte) x c o v e = e
spent_other (Erp byte) x c o v e = e
spent_other (Err code bytes) x c o v e = e
spent_other Nop x c o v e = e
spent_other (All link messages bits) x c o v e = put_other c x.counts (x.users false link) (counted_on messages bits) v e
spent_other (Gvb link fm fb) x c o v e = put_other c x.counts (x.users false link) (recalled_by false fm fb) v e
spent_other (Ret link messages bits) x c o v e = put_other c x.counts (x.users true link) (returned_by false messages bits) v e
spent_other (Inr link) x c o v e = e
spent_other (Ins link) x c o v e = e
spent_other Rst x c o v e = e
spent_other Rrp x c o v e = e

module _ (u : Sockets) (t : ℕ) (x : Said) (c : Sockets → Count) (o : Bool → List Owing) (f : Spent u t x c o) where
  abbrev LessAt : (Sockets → Count) → (Sockets → Count) → List Owing → List Owing → Type 0
  LessAt d e os ps = SoMuchLess (d u) (e u) (owed_messages u os) (owed_bits u os) (owed_messages u ps) (owed_bits u ps) t

  less_put_both : (w : Option Sockets) (g : Count → Count) (os ps : List Owing) → ((v : Sockets) → w ≡ Some v → same u v ≡ true → SoMuchLess (g (x.counts u)) (g (c u)) (owed_messages u os) (owed_bits u os) (owed_messages u ps) (owed_bits u ps) t)
      → (((v : Sockets) → w ≡ Some v → same u v ≡ true → ⊥) → LessAt x.counts c os ps) → LessAt (count_put x.counts w g) (count_put c w g) os ps
  less_put_both None g os ps here there = there (λ v e d. absurd (cc e))
  less_put_both (Some w) g os ps here there = go (same u w) refl
    where
      go : (b : Bool) → same u w ≡ b → SoMuchLess (if b then g (x.counts u) else x.counts u) (if b then g (c u) else c u) (owed_messages u os) (owed_bits u os) (owed_messages u ps) (owed_bits u ps) t
      go true e = here w refl e
      go false e = there (λ v k d. let is : w ≡ v = cc k in let nay : true ≡ false = sym d ∙ ap (same u) (sym is) ∙ e in cc nay)

  less_eco : (byte : ℕ) → LessAt x.counts c (x.owing true ++ Echoes byte ∷ []) (o true ++ Echoes byte ∷ [])
  less_eco byte =
      let a : owed_messages u (x.owing true ++ Echoes byte ∷ []) ≡ owed_messages u (x.owing true) + 0 = owed_more_messages u (x.owing true) (Echoes byte ∷ []) in
      let b : owed_bits u (x.owing true ++ Echoes byte ∷ []) ≡ owed_bits u (x.owing true) + 0 = owed_more_bits u (x.owing true) (Echoes byte ∷ []) in
      let d : owed_messages u (o true ++ Echoes byte ∷ []) ≡ owed_messages u (o true) + 0 = owed_more_messages u (o true) (Echoes byte ∷ []) in
      let e : owed_bits u (o true ++ Echoes byte ∷ []) ≡ owed_bits u (o true) + 0 = owed_more_bits u (o true) (Echoes byte ∷ []) in
      less_same (x.counts u) (c u) (owed_messages u (x.owing true)) (owed_bits u (x.owing true)) (owed_messages u (o true)) (owed_bits u (o true)) t f.less
      (owed_messages u (x.owing true ++ Echoes byte ∷ [])) (owed_bits u (x.owing true ++ Echoes byte ∷ [])) (owed_messages u (o true ++ Echoes byte ∷ [])) (owed_bits u (o true ++ Echoes byte ∷ []))
      (omega (arith, a)) (omega (arith, b)) (omega (arith, d)) (omega (arith, e))

  -- a GVB of it

  abbrev asked_with : (Sockets → Count) → Option Sockets → ℕ → ℕ → ℕ → List Owing
  asked_with d w link fm fb = return_asked false link fm fb x.shapes d w

  asked_here : (d : Sockets → Count) (w : Option Sockets) (link fm fb : ℕ) → w ≡ Some u → asked_with d w link fm fb ≡ Returning u link (part_returned (d u).messages fm) (part_returned (d u).bits fb) ∷ []
  asked_here d w link fm fb e = ap (λ (z : Option Sockets). asked_with d z link fm fb) e ∙ ap (λ (b : Bool). if b then [] else Returning u link (part_returned (d u).messages fm) (part_returned (d u).bits fb) ∷ []) f.unleft

  owed_one : (link n k : ℕ) → (owed_messages u (Returning u link n k ∷ []) ≡ n) × (owed_bits u (Returning u link n k ∷ []) ≡ k)
  owed_one link n k = (ap (λ (b : Bool). if b then n + 0 else 0) (same_self u) ∙ omega arith, ap (λ (b : Bool). if b then k + 0 else 0) (same_self u) ∙ omega arith)

  less_gvb : (w : Option Sockets) (link fm fb : ℕ)
      → LessAt (count_put x.counts w (recalled_by false fm fb)) (count_put c w (recalled_by false fm fb)) (x.owing true ++ asked_with x.counts w link fm fb) (o true ++ asked_with c w link fm fb)
  less_gvb w link fm fb = less_put_both w (recalled_by false fm fb) (x.owing true ++ asked_with x.counts w link fm fb) (o true ++ asked_with c w link fm fb) here there
    where
      here : (v : Sockets) → w ≡ Some v → same u v ≡ true
          → SoMuchLess (recalled_by false fm fb (x.counts u)) (recalled_by false fm fb (c u)) (owed_messages u (x.owing true ++ asked_with x.counts w link fm fb)) (owed_bits u (x.owing true ++ asked_with x.counts w link fm fb)) (owed_messages u (o true ++ asked_with c w link fm fb)) (owed_bits u (o true ++ asked_with c w link fm fb)) t
      here v e d =
          let at : w ≡ Some u = e ∙ ap (λ (z : Sockets). Some z) (sym (same_is u v d)) in
          let a = asked_here x.counts w link fm fb at in
          let b = asked_here c w link fm fb at in
          let k = owed_one link (part_returned (x.counts u).messages fm) (part_returned (x.counts u).bits fb) in
          let j = owed_one link (part_returned (c u).messages fm) (part_returned (c u).bits fb) in
          less_recall (x.counts u) (c u) (owed_messages u (x.owing true)) (owed_bits u (x.owing true)) (owed_messages u (o true)) (owed_bits u (o true)) t fm fb
          (owed_messages u (x.owing true ++ asked_with x.counts w link fm fb)) (owed_bits u (x.owing true ++ asked_with x.counts w link fm fb)) (owed_messages u (o true ++ asked_with c w link fm fb)) (owed_bits u (o true ++ asked_with c w link fm fb)) f.less
          (owed_more_messages u (x.owing true) (asked_with x.counts w link fm fb) ∙ ap (λ (n : ℕ). owed_messages u (x.owing true) + n) (ap (owed_messages u) a ∙ k.0))
          (owed_more_bits u (x.owing true) (asked_with x.counts w link fm fb) ∙ ap (λ (n : ℕ). owed_bits u (x.owing true) + n) (ap (owed_bits u) a ∙ k.1))
          (owed_more_messages u (o true) (asked_with c w link fm fb) ∙ ap (λ (n : ℕ). owed_messages u (o true) + n) (ap (owed_messages u) b ∙ j.0))
          (owed_more_bits u (o true) (asked_with c w link fm fb) ∙ ap (λ (n : ℕ). owed_bits u (o true) + n) (ap (owed_bits u) b ∙ j.1))

      there : ((v : Sockets) → w ≡ Some v → same u v ≡ true → ⊥) → LessAt x.counts c (x.owing true ++ asked_with x.counts w link fm fb) (o true ++ asked_with c w link fm fb)
      there apart =
          let k = none x.counts w apart in
          let j = none c w apart in
          less_same (x.counts u) (c u) (owed_messages u (x.owing true)) (owed_bits u (x.owing true)) (owed_messages u (o true)) (owed_bits u (o true)) t f.less
          (owed_messages u (x.owing true ++ asked_with x.counts w link fm fb)) (owed_bits u (x.owing true ++ asked_with x.counts w link fm fb)) (owed_messages u (o true ++ asked_with c w link fm fb)) (owed_bits u (o true ++ asked_with c w link fm fb))
          (plus_none (owed_more_messages u (x.owing true) (asked_with x.counts w link fm fb)) k.messages) (plus_none (owed_more_bits u (x.owing true) (asked_with x.counts w link fm fb)) k.bits)
          (plus_none (owed_more_messages u (o true) (asked_with c w link fm fb)) j.messages) (plus_none (owed_more_bits u (o true) (asked_with c w link fm fb)) j.bits)
        where
          none : (d : Sockets → Count) (w : Option Sockets) → ((v : Sockets) → w ≡ Some v → same u v ≡ true → ⊥) → OwesNone u (asked_with d w link fm fb)
          none d None other = record { messages = refl; bits = refl }
          none d (Some v) other = asked_other false link fm fb x.shapes d (Some v) v u refl (is_distinct (same v u) refl)
            where
              is_distinct : (b : Bool) → same v u ≡ b → same v u ≡ false
              is_distinct false e = e
              is_distinct true e = absurd (other v refl (ap (same u) (same_is v u e) ∙ same_self u))

  asked_fewer : (w : Option Sockets) (link fm fb : ℕ) → FewerOwed (asked_with x.counts w link fm fb) (asked_with c w link fm fb)
  asked_fewer None link fm fb = tt
  asked_fewer (Some w) link fm fb = go (left_by true (x.shapes w))
    where
      less : Enough (c w).messages (c w).bits (x.counts w)
      less = by (same w u) refl
        where
          by : (b : Bool) → same w u ≡ b → Enough (c w).messages (c w).bits (x.counts w)
          by true e = subst (λ (z : Sockets). Enough (c z).messages (c z).bits (x.counts z)) (sym (same_is w u e)) (record { has_messages = f.less.messages_fall; has_bits = f.less.bits_fall })
          by false e = subst (λ (j : Count). Enough j.messages j.bits (x.counts w)) (sym (f.other w e)) (record { has_messages = omega arith; has_bits = omega arith })

      go : (b : Bool) → FewerOwed (if b then [] else Returning w link (part_returned (x.counts w).messages fm) (part_returned (x.counts w).bits fb) ∷ []) (if b then [] else Returning w link (part_returned (c w).messages fm) (part_returned (c w).bits fb) ∷ [])
      go true = tt
      go false = ((refl, refl, part_monotone (c w).messages (x.counts w).messages fm less.has_messages, part_monotone (c w).bits (x.counts w).bits fb less.has_bits), tt)

  spent_less : (k : Command) → Legal false k x → LessAt (counts_said false k x) (counts_beside k x c o) (owing_after false k x true) (owing_beside k x c o true)
  spent_less (Rts receive send link) l = f.less
  spent_less (Str send receive size) l = f.less
  spent_less (Cls my your) l = go (left_by true (x.shapes (your, my))) refl
    where
      go : (b : Bool) → left_by true (x.shapes (your, my)) ≡ b → LessAt (counts_after_cls b (your, my) x.counts) (counts_after_cls b (your, my) c) (x.owing true) (o true)
      go false e = f.less
      go true e =
          less_put_both (Some (your, my)) (λ k. no_count) (x.owing true) (o true)
          (λ v g d. let is : (your, my) ≡ v = cc g in
          let nay : true ≡ false = sym e ∙ ap (λ (w : Sockets). left_by true (x.shapes w)) (is ∙ sym (same_is u v d)) ∙ f.unleft in absurd (cc nay)) (λ apart. f.less)
  spent_less (Eco byte) l = less_eco byte
  spent_less (Erp byte) l = f.less
  spent_less (Err code bytes) l = f.less
  spent_less Nop l = f.less
  spent_less (All link messages bits) l =
      less_put_both (x.users false link) (counted_on messages bits) (x.owing true) (o true)
      (λ v e d. less_grant (x.counts u) (c u) (owed_messages u (x.owing true)) (owed_bits u (x.owing true)) (owed_messages u (o true)) (owed_bits u (o true)) t messages bits f.less) (λ apart. f.less)
  spent_less (Gvb link fm fb) l = less_gvb (x.users false link) link fm fb
  spent_less (Ret link messages bits) l =
      less_put_both (x.users true link) (returned_by false messages bits) (x.owing true) (o true)
      (λ v e d. absurd (other_side v u
      (led_receives false true (x.users true link) x.shapes (λ u. ((x.counts u).recall ≡ true) × NextOwed (is_returning_on link) (HasNumbers false messages bits (x.counts u)) (x.owing false)) l.tally v e) f.sends (ap (λ (z : Sockets). same z u) (sym (same_is u v d)) ∙ same_self u))) (λ apart. f.less)
  spent_less (Inr link) l = f.less
  spent_less (Ins link) l = f.less
  spent_less Rst l = f.less
  spent_less Rrp l = f.less

  spent_mine : (k : Command) → FewerOwed (owing_after false k x true) (owing_beside k x c o true)
  spent_mine (Rts receive send link) = f.mine
  spent_mine (Str send receive size) = f.mine
  spent_mine (Cls my your) = f.mine
  spent_mine (Eco byte) = fewer_append (x.owing true) (o true) (Echoes byte ∷ []) (Echoes byte ∷ []) f.mine (refl, tt)
  spent_mine (Erp byte) = f.mine
  spent_mine (Err code bytes) = f.mine
  spent_mine Nop = f.mine
  spent_mine (All link messages bits) = f.mine
  spent_mine (Gvb link fm fb) = fewer_append (x.owing true) (o true) (asked_with x.counts (x.users false link) link fm fb) (asked_with c (x.users false link) link fm fb) f.mine (asked_fewer (x.users false link) link fm fb)
  spent_mine (Ret link messages bits) = f.mine
  spent_mine (Inr link) = f.mine
  spent_mine (Ins link) = f.mine
  spent_mine Rst = f.mine
  spent_mine Rrp = f.mine

  spent_step : (k : Command) → Legal false k x → Legal false k (beside x c o) × Spent u t (after_said_by false k x) (counts_beside k x c o) (owing_beside k x c o)
  spent_step k l = (
    legal_beside x c o f.theirs (λ e. fewer_echo (x.owing true) (o true) f.mine ∙ e) low recall k
        (λ link messages bits w g used r h. subst (λ (j : Count). Enough messages bits j) (sym (f.other w (by_it w r (same w u) refl))) h) l,
    record {
      sends = f.sends;
      unleft = their_unleft k x u f.unleft;
      other = λ v e. spent_other k x c o v (f.other v e);
      less = spent_less k l;
      mine = spent_mine k;
      theirs = theirs_beside k x c o f.theirs;
    },
  )
    where
      by_it : (w : Sockets) → receives_by true w ≡ true → (b : Bool) → same w u ≡ b → same w u ≡ false
      by_it w r false e = e
      by_it w r true e = absurd (other_side w u r f.sends e)

      low : (w : Sockets) → receives_by false w ≡ true → Enough (c w).messages (c w).bits (x.counts w)
      low w r = by (same w u) refl
        where
          by : (b : Bool) → same w u ≡ b → Enough (c w).messages (c w).bits (x.counts w)
          by true e = subst (λ (z : Sockets). Enough (c z).messages (c z).bits (x.counts z)) (sym (same_is w u e)) (record { has_messages = f.less.messages_fall; has_bits = f.less.bits_fall })
          by false e = subst (λ (j : Count). Enough j.messages j.bits (x.counts w)) (sym (f.other w e)) (record { has_messages = omega arith; has_bits = omega arith })

      recall : (w : Sockets) → (c w).recall ≡ (x.counts w).recall
      recall w = by (same w u) refl
        where
          by : (b : Bool) → same w u ≡ b → (c w).recall ≡ (x.counts w).recall
          by true e = subst (λ (z : Sockets). (c z).recall ≡ (x.counts z).recall) (sym (same_is w u e)) f.less.recall
          by false e = ap (λ (j : Count). j.recall) (f.other w e)

pub spent_run : (u : Sockets) (t : ℕ) (ks : List Command) (x : Said) (c : Sockets → Count) (o : Bool → List Owing) → LegalRun false ks x → Spent u t x c o → RunBeside (λ ls. Spent u t) ks x c o
spent_run u t = run_beside (λ ls. Spent u t) (λ k ks x c o l ls f. spent_step u t x c o f k l)

-- ---- a text of one host is sent

pub record TextBy (s : Bool) (link size bits : ℕ) (x : Said) : Type 0 where
  pub by : Sockets
  pub used : x.users (not s) link ≡ Some by
  pub receives : receives_by (not s) by ≡ true
  pub is_open : is_open_by s (x.shapes by) ≡ true
  pub asked : number_by s (x.shapes by) ≡ Some size
  pub messages : 1 ≤ (x.counts by).messages
  pub enough : bits ≤ (x.counts by).bits

pub text_by : (s : Bool) (link size bits : ℕ) (x : Said) → TextLegal s link size bits x → TextBy s link size bits x
text_by s link size bits x t = go (x.users (not s) link) refl t
  where
    go : (o : Option Sockets) → x.users (not s) link ≡ o → IsDemuxed s (not s) o x.shapes (λ u. (number_by s (x.shapes u) ≡ Some size) × (1 ≤ (x.counts u).messages) × (bits ≤ (x.counts u).bits)) → TextBy s link size bits x
    go None e t = absurd t
    go (Some u) e t = record { by = u; used = e; receives = t.0; is_open = t.1; asked = t.2.0; messages = t.2.1; enough = t.2.2 }

pub open_stays : (m : Option Shape) → is_open_by true m ≡ true → left_by true m ≡ false
open_stays None e = absurd (cc e)
open_stays (Some s) e = go s.left (and_parts (has_both (Some s)) (not s.left) e).1
  where
    go : (b : Bool) → not b ≡ true → b ≡ false
    go true e = absurd (cc e)
    go false e = refl

pub text_out : (link size bits : ℕ) (x : Said) (t : TextBy true link size bits x) → Spent t.by bits x (count_put x.counts (x.users false link) (counted_off 1 bits)) x.owing
text_out link size bits x t = record {
  sends = t.receives;
  unleft = open_stays (x.shapes t.by) t.is_open;
  other = λ v e. ap (λ (o : Option Sockets). count_put x.counts o (counted_off 1 bits) v) t.used ∙ ap (λ (b : Bool). if b then counted_off 1 bits (x.counts v) else x.counts v) e;
  less = subst (λ (j : Count). SoMuchLess (x.counts t.by) j (owed_messages t.by (x.owing true)) (owed_bits t.by (x.owing true)) (owed_messages t.by (x.owing true)) (owed_bits t.by (x.owing true)) bits)
      (sym (ap (λ (o : Option Sockets). count_put x.counts o (counted_off 1 bits) t.by) t.used ∙ ap (λ (b : Bool). if b then counted_off 1 bits (x.counts t.by) else x.counts t.by) (same_self t.by))) off;
  mine = fewer_same (x.owing true);
  theirs = refl;
}
  where
    off : SoMuchLess (x.counts t.by) (counted_off 1 bits (x.counts t.by)) (owed_messages t.by (x.owing true)) (owed_bits t.by (x.owing true)) (owed_messages t.by (x.owing true)) (owed_bits t.by (x.owing true)) bits
    off = record {
      recall = refl;
      messages_fall = omega arith;
      bits_fall = omega arith;
      messages_less = let m = t.messages in omega (arith, m);
      bits_less = let m = t.enough in omega (arith, m);
    }

pub text_run : (link size bits : ℕ) (ks : List Command) (x : Said) → TextLegal true link size bits x → LegalRun false ks x → LegalRun false ks (after_text_by true link bits x)
text_run link size bits ks x t l =
    (spent_run (text_by true link size bits x t).by bits ks x (count_put x.counts (x.users false link) (counted_off 1 bits)) x.owing l (text_out link size bits x (text_by true link size bits x t))).legal
