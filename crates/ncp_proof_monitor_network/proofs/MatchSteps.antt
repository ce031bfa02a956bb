-- What one of two hosts expects of the other, and what that owes it, through replies, and through a CLS; and how much of each
-- connection is owed.
use Rattle.std.proofs.Common.{◌≡◌, ℕ, ◌+◌, ◌≤◌, ◌==◌, Bool, true, false, not, ◌&&◌, ◌||◌, if◌then◌else◌, List, [], ◌∷◌, ◌++◌, Option, Some, inl, inr, refl, sym, ap, ◌∙◌, subst, arith}
use Rattle.std.specs.List.{list_any}
use Rattle.std.proofs.lemmas.Bool.{eqb-true}
use Rattle.ncp_monitor.specs.Allocation.{part_returned}
use Rattle.ncp_monitor.proofs.Shapes.{Shape}
use Rattle.ncp_monitor.proofs.LinkOrder.{Sockets, same, same_is}
use Rattle.ncp_proof_monitor_allocation.proofs.Words.{Count}
use Rattle.ncp_proof_monitor_network.specs.Owing.{Owing, Echoes, Returning, is_echo_of, is_returning_on, is_owed_of, is_echo, Chosen, NextOwed, owed_after, has_echo, any_owing}
use Rattle.ncp_proof_monitor_network.proofs.Tallied.{left_by, return_asked, HasNumbers, owed_messages, owed_bits, Expected, IsReturning, MatchesOwed, owing_without}
use Rattle.ncp_proof_monitor_network.proofs.PendingOwed.{OwesRightly}
use Rattle.ncp_proof_monitor_network.proofs.UsersSaid.{same_self}

pub same_turned : (u p : Sockets) → same (u.1, u.0) p ≡ same u (p.1, p.0)
same_turned u p = go (u.1 == p.0) (u.0 == p.1)
  where
    go : (x y : Bool) → (x && y) ≡ (y && x)
    go true true = refl
    go true false = refl
    go false true = refl
    go false false = refl

-- ---- an ERP

not_echo : (o : Owing) → IsReturning o → is_echo o ≡ false
not_echo (Echoes byte) r = absurd r
not_echo (Returning u link messages bits) r = refl

expected_echo : (o p : Owing) → Expected o p → is_echo o ≡ is_echo p
expected_echo (Echoes a) (Echoes b) x = refl
expected_echo (Echoes a) (Returning u link messages bits) x = absurd x
expected_echo (Returning v link messages bits) (Echoes b) x = absurd x
expected_echo (Returning v link messages bits) (Returning u on m b) x = refl

pub matches_echo : (os ps : List Owing) → MatchesOwed os ps → has_echo os ≡ has_echo ps
matches_echo [] [] m = refl
matches_echo [] (p ∷ ps) m = absurd m
matches_echo (o ∷ os) [] (r, m) = ap (λ (b : Bool). b || has_echo os) (not_echo o r) ∙ matches_echo os [] m
matches_echo (o ∷ os) (p ∷ ps) (inl (x, m)) = ap (λ (b : Bool). b || has_echo os) (expected_echo o p x) ∙ ap (λ (b : Bool). is_echo p || b) (matches_echo os ps m)
matches_echo (o ∷ os) (p ∷ ps) (inr (r, m)) = ap (λ (b : Bool). b || has_echo os) (not_echo o r) ∙ matches_echo os (p ∷ ps) m

pub matches_erp : (byte : ℕ) (os ps : List Owing) → MatchesOwed os ps → NextOwed (is_echo_of byte) any_owing ps → NextOwed (is_echo_of byte) any_owing os × MatchesOwed (owed_after (is_echo_of byte) os) (owed_after (is_echo_of byte) ps)
matches_erp byte [] [] m n = absurd n
matches_erp byte [] (p ∷ ps) m n = absurd m
matches_erp byte (o ∷ os) [] m n = absurd n
matches_erp byte (o ∷ os) (p ∷ ps) (inr (r, m)) n = skip o r (matches_erp byte os (p ∷ ps) m n)
  where
    skip : (o : Owing) → IsReturning o → NextOwed (is_echo_of byte) any_owing os × MatchesOwed (owed_after (is_echo_of byte) os) (owed_after (is_echo_of byte) (p ∷ ps))
        → NextOwed (is_echo_of byte) any_owing (o ∷ os) × MatchesOwed (owed_after (is_echo_of byte) (o ∷ os)) (owed_after (is_echo_of byte) (p ∷ ps))
    skip (Echoes other) r s = absurd r
    skip (Returning u link messages bits) r s = s
matches_erp byte (o ∷ os) (p ∷ ps) (inl (x, m)) n = both o p x n (matches_erp byte os ps m)
  where
    both : (o p : Owing) → Expected o p → NextOwed (is_echo_of byte) any_owing (p ∷ ps) → (NextOwed (is_echo_of byte) any_owing ps → NextOwed (is_echo_of byte) any_owing os × MatchesOwed (owed_after (is_echo_of byte) os) (owed_after (is_echo_of byte) ps))
        → NextOwed (is_echo_of byte) any_owing (o ∷ os) × MatchesOwed (owed_after (is_echo_of byte) (o ∷ os)) (owed_after (is_echo_of byte) (p ∷ ps))
    both (Echoes a) (Echoes b) x n rest =
        subst (λ (z : ℕ). NextOwed (is_echo_of byte) any_owing (Echoes z ∷ os) × MatchesOwed (owed_after (is_echo_of byte) (Echoes z ∷ os)) (owed_after (is_echo_of byte) (Echoes b ∷ ps))) (sym x) (by (b == byte) n)
      where
        by : (y : Bool) → Chosen y true (any_owing (Echoes b)) (NextOwed (is_echo_of byte) any_owing ps)
            → Chosen y true (any_owing (Echoes b)) (NextOwed (is_echo_of byte) any_owing os) × MatchesOwed (if y then os else owed_after (is_echo_of byte) os) (if y then ps else owed_after (is_echo_of byte) ps)
        by true n = (tt, m)
        by false n = absurd n
    both (Echoes a) (Returning u link messages bits) x n rest = absurd x
    both (Returning v link messages bits) (Echoes b) x n rest = absurd x
    both (Returning v link messages bits) (Returning u on k j) x n rest = rest n

-- ---- a RET: of one link one is expected

pub next_has : (fits : Owing → Bool) (p : Owing → Type 0) (os : List Owing) → NextOwed fits p os → list_any fits os ≡ true
next_has fits p [] n = absurd n
next_has fits p (o ∷ os) n = go (fits o) (is_echo o) n (next_has fits p os)
  where
    go : (y e : Bool) → Chosen y e (p o) (NextOwed fits p os) → (NextOwed fits p os → list_any fits os ≡ true) → (y || list_any fits os) ≡ true
    go true e n rest = refl
    go false true n rest = absurd n
    go false false n rest = rest n

abbrev pub OneOn : ℕ → List Owing → Type 0
OneOn link [] = Unit {0}
OneOn link (o ∷ os) = (is_returning_on link o ≡ true → list_any (is_returning_on link) os ≡ false) × OneOn link os

pub matches_ret : (link messages bits : ℕ) (k j : Count) (os ps : List Owing) → OneOn link os → MatchesOwed os ps → NextOwed (is_returning_on link) (HasNumbers true messages bits k) ps → messages ≤ j.messages → bits ≤ j.bits
    → NextOwed (is_returning_on link) (HasNumbers false messages bits j) os × MatchesOwed (owed_after (is_returning_on link) os) (owed_after (is_returning_on link) ps)
matches_ret link messages bits k j [] [] one m n e f = absurd n
matches_ret link messages bits k j [] (p ∷ ps) one m n e f = absurd m
matches_ret link messages bits k j (o ∷ os) [] one m n e f = absurd n
matches_ret link messages bits k j (o ∷ os) (p ∷ ps) one (inr (r, m)) n e f = skip o r one.0 (matches_ret link messages bits k j os (p ∷ ps) one.1 m n e f)
  where
    skip : (o : Owing) → IsReturning o → (is_returning_on link o ≡ true → list_any (is_returning_on link) os ≡ false)
        → NextOwed (is_returning_on link) (HasNumbers false messages bits j) os × MatchesOwed (owed_after (is_returning_on link) os) (owed_after (is_returning_on link) (p ∷ ps))
        → NextOwed (is_returning_on link) (HasNumbers false messages bits j) (o ∷ os) × MatchesOwed (owed_after (is_returning_on link) (o ∷ os)) (owed_after (is_returning_on link) (p ∷ ps))
    skip (Echoes byte) r one s = absurd r
    skip (Returning v on most most_bits) r one s = by (on == link) one
      where
        by : (y : Bool) → (y ≡ true → list_any (is_returning_on link) os ≡ false)
            → Chosen y false (HasNumbers false messages bits j (Returning v on most most_bits)) (NextOwed (is_returning_on link) (HasNumbers false messages bits j) os)
            × MatchesOwed (if y then os else owed_after (is_returning_on link) os) (owed_after (is_returning_on link) (p ∷ ps))
        by true one = let nay : true ≡ false = sym (next_has (is_returning_on link) (HasNumbers false messages bits j) os s.0) ∙ one refl in absurd (cc nay)
        by false one = s
matches_ret link messages bits k j (o ∷ os) (p ∷ ps) one (inl (x, m)) n e f = both o p x n (matches_ret link messages bits k j os ps one.1 m)
  where
    both : (o p : Owing) → Expected o p → NextOwed (is_returning_on link) (HasNumbers true messages bits k) (p ∷ ps)
        → (NextOwed (is_returning_on link) (HasNumbers true messages bits k) ps → messages ≤ j.messages → bits ≤ j.bits → NextOwed (is_returning_on link) (HasNumbers false messages bits j) os × MatchesOwed (owed_after (is_returning_on link) os) (owed_after (is_returning_on link) ps))
        → NextOwed (is_returning_on link) (HasNumbers false messages bits j) (o ∷ os) × MatchesOwed (owed_after (is_returning_on link) (o ∷ os)) (owed_after (is_returning_on link) (p ∷ ps))
    both (Echoes a) (Echoes b) x n rest = absurd n
    both (Echoes a) (Returning u on least least_bits) x n rest = absurd x
    both (Returning v on most most_bits) (Echoes b) x n rest = absurd x
    both (Returning v on most most_bits) (Returning u l least least_bits) x n rest =
        subst (λ (z : ℕ). NextOwed (is_returning_on link) (HasNumbers false messages bits j) (Returning v z most most_bits ∷ os) × MatchesOwed (owed_after (is_returning_on link) (Returning v z most most_bits ∷ os)) (owed_after (is_returning_on link) (Returning u l least least_bits ∷ ps)))
        (sym x.1) (by (l == link) n)
      where
        by : (y : Bool) → Chosen y false ((messages ≡ least) × (bits ≡ least_bits)) (NextOwed (is_returning_on link) (HasNumbers true messages bits k) ps)
            → Chosen y false ((messages ≤ most) × (bits ≤ most_bits) × (messages ≤ j.messages) × (bits ≤ j.bits)) (NextOwed (is_returning_on link) (HasNumbers false messages bits j) os)
            × MatchesOwed (if y then os else owed_after (is_returning_on link) os) (if y then ps else owed_after (is_returning_on link) ps)
        by true n =
            let a = n.0 in
            let b = n.1 in
            let c = x.2 in
            let d = x.3 in
            let less : messages ≤ most = omega (arith, a, c) in
            let less_bits : bits ≤ most_bits = omega (arith, b, d) in
            ((less, less_bits, e, f), m)
        by false n = rest n e f

-- ---- a CLS

expected_of : (w : Sockets) (o p : Owing) → Expected o p → is_owed_of (w.1, w.0) o ≡ is_owed_of w p
expected_of w (Echoes a) (Echoes b) x = refl
expected_of w (Echoes a) (Returning u link messages bits) x = absurd x
expected_of w (Returning v link messages bits) (Echoes b) x = absurd x
expected_of w (Returning v link messages bits) (Returning u on m b) x = sym (same_turned v w) ∙ ap (λ (z : Sockets). same z w) x.0

let_out : (o : Owing) (os ps : List Owing) → IsReturning o → MatchesOwed os ps → MatchesOwed (o ∷ os) ps
let_out o os [] r m = (r, m)
let_out o os (p ∷ ps) r m = inr (r, m)

pub matches_without : (w : Sockets) (os ps : List Owing) → MatchesOwed os ps → MatchesOwed (owing_without (w.1, w.0) os) (owing_without w ps)
matches_without w [] [] m = tt
matches_without w [] (p ∷ ps) m = absurd m
matches_without w (o ∷ os) [] (r, m) = by (is_owed_of (w.1, w.0) o) (matches_without w os [] m)
  where
    by : (y : Bool) → MatchesOwed (owing_without (w.1, w.0) os) [] → MatchesOwed (if not y then o ∷ owing_without (w.1, w.0) os else owing_without (w.1, w.0) os) []
    by true rest = rest
    by false rest = (r, rest)
matches_without w (o ∷ os) (p ∷ ps) (inr (r, m)) = by (is_owed_of (w.1, w.0) o) (matches_without w os (p ∷ ps) m)
  where
    by : (y : Bool) → MatchesOwed (owing_without (w.1, w.0) os) (owing_without w (p ∷ ps)) → MatchesOwed (if not y then o ∷ owing_without (w.1, w.0) os else owing_without (w.1, w.0) os) (owing_without w (p ∷ ps))
    by true rest = rest
    by false rest = let_out o (owing_without (w.1, w.0) os) (owing_without w (p ∷ ps)) r rest
matches_without w (o ∷ os) (p ∷ ps) (inl (x, m)) = by (is_owed_of (w.1, w.0) o) (is_owed_of w p) (expected_of w o p x) (matches_without w os ps m)
  where
    by : (y z : Bool) → y ≡ z → MatchesOwed (owing_without (w.1, w.0) os) (owing_without w ps)
        → MatchesOwed (if not y then o ∷ owing_without (w.1, w.0) os else owing_without (w.1, w.0) os) (if not z then p ∷ owing_without w ps else owing_without w ps)
    by true true e rest = rest
    by true false e rest = absurd (cc e)
    by false true e rest = absurd (cc e)
    by false false e rest = inl (x, rest)

-- ---- more is expected, and owed

pub matches_append : (os ps ds es : List Owing) → MatchesOwed os ps → MatchesOwed ds es → MatchesOwed (os ++ ds) (ps ++ es)
matches_append [] [] ds es m n = n
matches_append [] (p ∷ ps) ds es m n = absurd m
matches_append (o ∷ os) [] ds es (r, m) n = let_out o (os ++ ds) es r (matches_append os [] ds es m n)
matches_append (o ∷ os) (p ∷ ps) ds es (inl (x, m)) n = inl (x, matches_append os ps ds es m n)
matches_append (o ∷ os) (p ∷ ps) ds es (inr (r, m)) n = inr (r, matches_append os (p ∷ ps) ds es m n)

-- ---- how much is owed of a connection

pub record OwesLess (u : Sockets) (less more : List Owing) : Type 0 where
  pub messages : owed_messages u less ≤ owed_messages u more
  pub bits : owed_bits u less ≤ owed_bits u more

pub owes_same : (u : Sockets) (os : List Owing) → OwesLess u os os
owes_same u os = record { messages = omega arith; bits = omega arith }

owes_then : (u : Sockets) (a b c : List Owing) → OwesLess u a b → OwesLess u b c → OwesLess u a c
owes_then u a b c l m = record { messages = let x = l.messages in let y = m.messages in omega (arith, x, y); bits = let x = l.bits in let y = m.bits in omega (arith, x, y) }

owes_tail : (u : Sockets) (o : Owing) (os : List Owing) → OwesLess u os (o ∷ os)
owes_tail u (Echoes byte) os = record { messages = omega arith; bits = omega arith }
owes_tail u (Returning v link messages bits) os = record { messages = go (same v u) messages (owed_messages u os); bits = go (same v u) bits (owed_bits u os) }
  where
    go : (y : Bool) (n k : ℕ) → k ≤ (if y then n + k else k)
    go true n k = omega arith
    go false n k = omega arith

owes_cons : (u : Sockets) (o : Owing) (a b : List Owing) → OwesLess u a b → OwesLess u (o ∷ a) (o ∷ b)
owes_cons u (Echoes byte) a b l = record { messages = l.messages; bits = l.bits }
owes_cons u (Returning v link messages bits) a b l =
    record { messages = go (same v u) messages (owed_messages u a) (owed_messages u b) l.messages; bits = go (same v u) bits (owed_bits u a) (owed_bits u b) l.bits }
  where
    go : (y : Bool) (n k j : ℕ) → k ≤ j → (if y then n + k else k) ≤ (if y then n + j else j)
    go true n k j e = omega (arith, e)
    go false n k j e = e

pub after_owes_less : (u : Sockets) (fits : Owing → Bool) (os : List Owing) → OwesLess u (owed_after fits os) os
after_owes_less u fits [] = owes_same u []
after_owes_less u fits (o ∷ os) = go (fits o) (after_owes_less u fits os)
  where
    go : (y : Bool) → OwesLess u (owed_after fits os) os → OwesLess u (if y then os else owed_after fits os) (o ∷ os)
    go true rest = owes_tail u o os
    go false rest = owes_then u (owed_after fits os) os (o ∷ os) rest (owes_tail u o os)

pub without_owes_less : (u w : Sockets) (os : List Owing) → OwesLess u (owing_without w os) os
without_owes_less u w [] = owes_same u []
without_owes_less u w (o ∷ os) = go (is_owed_of w o) (without_owes_less u w os)
  where
    go : (y : Bool) → OwesLess u (owing_without w os) os → OwesLess u (if not y then o ∷ owing_without w os else owing_without w os) (o ∷ os)
    go true rest = owes_then u (owing_without w os) os (o ∷ os) rest (owes_tail u o os)
    go false rest = owes_cons u o (owing_without w os) os rest

-- nothing of it is owed

pub record OwesNone (u : Sockets) (os : List Owing) : Type 0 where
  pub messages : owed_messages u os ≡ 0
  pub bits : owed_bits u os ≡ 0

none_more : (u v : Sockets) (link messages bits : ℕ) (os : List Owing) → same v u ≡ false → OwesNone u os → OwesNone u (Returning v link messages bits ∷ os)
none_more u v link messages bits os e n = record {
  messages = ap (λ (b : Bool). if b then messages + owed_messages u os else owed_messages u os) e ∙ n.messages;
  bits = ap (λ (b : Bool). if b then bits + owed_bits u os else owed_bits u os) e ∙ n.bits;
}

pub without_owes_none : (u : Sockets) (os : List Owing) → OwesNone u (owing_without u os)
without_owes_none u [] = record { messages = refl; bits = refl }
without_owes_none u (Echoes byte ∷ os) = record { messages = (without_owes_none u os).messages; bits = (without_owes_none u os).bits }
without_owes_none u (Returning v link messages bits ∷ os) = go (same v u) refl (without_owes_none u os)
  where
    go : (y : Bool) → same v u ≡ y → OwesNone u (owing_without u os) → OwesNone u (if not y then Returning v link messages bits ∷ owing_without u os else owing_without u os)
    go true e rest = rest
    go false e rest = none_more u v link messages bits (owing_without u os) e rest

pub owes_nothing : (s : Bool) (m : Sockets → Option Shape) (users : Bool → ℕ → Option Sockets) (counts : Sockets → Count) (u : Sockets) (os : List Owing)
    → ((counts u).recall ≡ true → left_by s (m u) ≡ false → ⊥) → OwesRightly s m users counts os → OwesNone u os
owes_nothing s m users counts u [] k o = record { messages = refl; bits = refl }
owes_nothing s m users counts u (Echoes byte ∷ os) k (i, o) = let rest = owes_nothing s m users counts u os k o in record { messages = rest.messages; bits = rest.bits }
owes_nothing s m users counts u (Returning v link messages bits ∷ os) k (i, o) = go (same v u) refl (owes_nothing s m users counts u os k o)
  where
    go : (y : Bool) → same v u ≡ y → OwesNone u os → OwesNone u (Returning v link messages bits ∷ os)
    go true e rest = absurd (k (ap (λ (z : Sockets). (counts z).recall) (sym (same_is v u e)) ∙ i.recalled) (ap (λ (z : Sockets). left_by s (m z)) (sym (same_is v u e)) ∙ i.stays))
    go false e rest = none_more u v link messages bits os e rest

-- more is owed

pub owed_more_messages : (u : Sockets) (os ds : List Owing) → owed_messages u (os ++ ds) ≡ owed_messages u os + owed_messages u ds
owed_more_messages u [] ds = omega arith
owed_more_messages u (Echoes byte ∷ os) ds = owed_more_messages u os ds
owed_more_messages u (Returning v link messages bits ∷ os) ds = go (same v u) (owed_more_messages u os ds)
  where
    go : (y : Bool) → owed_messages u (os ++ ds) ≡ owed_messages u os + owed_messages u ds
        → (if y then messages + owed_messages u (os ++ ds) else owed_messages u (os ++ ds)) ≡ (if y then messages + owed_messages u os else owed_messages u os) + owed_messages u ds
    go true e = omega (arith, e)
    go false e = e

pub owed_more_bits : (u : Sockets) (os ds : List Owing) → owed_bits u (os ++ ds) ≡ owed_bits u os + owed_bits u ds
owed_more_bits u [] ds = omega arith
owed_more_bits u (Echoes byte ∷ os) ds = owed_more_bits u os ds
owed_more_bits u (Returning v link messages bits ∷ os) ds = go (same v u) (owed_more_bits u os ds)
  where
    go : (y : Bool) → owed_bits u (os ++ ds) ≡ owed_bits u os + owed_bits u ds
        → (if y then bits + owed_bits u (os ++ ds) else owed_bits u (os ++ ds)) ≡ (if y then bits + owed_bits u os else owed_bits u os) + owed_bits u ds
    go true e = omega (arith, e)
    go false e = e

pub owes_more : (u : Sockets) (os ds : List Owing) → OwesNone u ds → OwesLess u (os ++ ds) os
owes_more u os ds n = record {
  messages = let e = owed_more_messages u os ds in let k = n.messages in omega (arith, e, k);
  bits = let e = owed_more_bits u os ds in let k = n.bits in omega (arith, e, k);
}

-- ---- what a GVB asks for

pub asked_other : (s : Bool) (link fm fb : ℕ) (m : Sockets → Option Shape) (counts : Sockets → Count) (o : Option Sockets) (q w : Sockets) → o ≡ Some q → same q w ≡ false → OwesNone w (return_asked s link fm fb m counts o)
asked_other s link fm fb m counts o q w e k = subst (λ (z : Option Sockets). OwesNone w (return_asked s link fm fb m counts z)) (sym e) (go (left_by (not s) (m q)))
  where
    go : (y : Bool) → OwesNone w (if y then [] else Returning q link (part_returned (counts q).messages fm) (part_returned (counts q).bits fb) ∷ [])
    go true = record { messages = refl; bits = refl }
    go false = none_more w q link (part_returned (counts q).messages fm) (part_returned (counts q).bits fb) [] k (record { messages = refl; bits = refl })

pub record AsksNoMore (q : Sockets) (messages bits : ℕ) (os : List Owing) : Type 0 where
  pub messages_asked : owed_messages q os ≤ messages
  pub bits_asked : owed_bits q os ≤ bits

pub asked_same : (s : Bool) (link fm fb : ℕ) (m : Sockets → Option Shape) (counts : Sockets → Count) (o : Option Sockets) (q : Sockets) → o ≡ Some q
    → AsksNoMore q (part_returned (counts q).messages fm) (part_returned (counts q).bits fb) (return_asked s link fm fb m counts o)
asked_same s link fm fb m counts o q e = subst (λ (z : Option Sockets). AsksNoMore q n k (return_asked s link fm fb m counts z)) (sym e) (go (left_by (not s) (m q)))
  where
    n : ℕ
    n = part_returned (counts q).messages fm

    k : ℕ
    k = part_returned (counts q).bits fb

    at : (y : Bool) (j : ℕ) → (if y then j + 0 else 0) ≤ j
    at true j = omega arith
    at false j = omega arith

    go : (y : Bool) → AsksNoMore q n k (if y then [] else Returning q link n k ∷ [])
    go true = record { messages_asked = omega arith; bits_asked = omega arith }
    go false = record { messages_asked = at (same q q) n; bits_asked = at (same q q) k }

-- ---- the RET of a link is that of its connection: so much less is owed of it

module _ (s : Bool) (m : Sockets → Option Shape) (users : Bool → ℕ → Option Sockets) (counts : Sockets → Count) (link : ℕ) (u : Sockets) (used : users (not s) link ≡ Some u) where
  its_user : (v : Sockets) (on : ℕ) → users (not s) on ≡ Some v → (on == link) ≡ true → v ≡ u
  its_user v on e k = let at : Some v ≡ Some u = sym e ∙ ap (users (not s)) (eqb-true on link k) ∙ used in cc at

  none_on : (os : List Owing) → OwesRightly s m users counts os → list_any (is_owed_of u) os ≡ false → list_any (is_returning_on link) os ≡ false
  none_on [] o e = refl
  none_on (Echoes byte ∷ os) (i, o) e = none_on os o e
  none_on (Returning v on messages bits ∷ os) (i, o) e = go (same v u) (on == link) refl refl e (none_on os o)
    where
      go : (x y : Bool) → same v u ≡ x → (on == link) ≡ y → (x || list_any (is_owed_of u) os) ≡ false → (list_any (is_owed_of u) os ≡ false → list_any (is_returning_on link) os ≡ false) → (y || list_any (is_returning_on link) os) ≡ false
      go true y k j e rest = absurd (cc e)
      go false true k j e rest = let nay : true ≡ false = sym (same_self u) ∙ ap (λ (z : Sockets). same z u) (sym (its_user v on i.user j)) ∙ k in absurd (cc nay)
      go false false k j e rest = rest e

  pub one_on : (os : List Owing) → OwesRightly s m users counts os → OneOn link os
  one_on [] o = tt
  one_on (Echoes byte ∷ os) (i, o) = (λ e. absurd (cc e), one_on os o)
  one_on (Returning v on messages bits ∷ os) (i, o) = (λ e. none_on os o (subst (λ (z : Sockets). list_any (is_owed_of z) os ≡ false) (its_user v on i.user e) i.once), one_on os o)

  pub owed_next : (messages bits : ℕ) (k : Count) (os : List Owing) → OwesRightly s m users counts os → NextOwed (is_returning_on link) (HasNumbers true messages bits k) os
      → (owed_messages u (owed_after (is_returning_on link) os) + messages ≤ owed_messages u os) × (owed_bits u (owed_after (is_returning_on link) os) + bits ≤ owed_bits u os)
  owed_next messages bits k [] o n = absurd n
  owed_next messages bits k (Echoes byte ∷ os) (i, o) n = absurd n
  owed_next messages bits k (Returning v on most most_bits ∷ os) (i, o) n = go (on == link) refl n (owed_next messages bits k os o)
    where
      go : (y : Bool) → (on == link) ≡ y → Chosen y false ((messages ≡ most) × (bits ≡ most_bits)) (NextOwed (is_returning_on link) (HasNumbers true messages bits k) os)
          → (NextOwed (is_returning_on link) (HasNumbers true messages bits k) os
          → (owed_messages u (owed_after (is_returning_on link) os) + messages ≤ owed_messages u os) × (owed_bits u (owed_after (is_returning_on link) os) + bits ≤ owed_bits u os))
          → (owed_messages u (if y then os else owed_after (is_returning_on link) os) + messages ≤ (if same v u then most + owed_messages u os else owed_messages u os))
          × (owed_bits u (if y then os else owed_after (is_returning_on link) os) + bits ≤ (if same v u then most_bits + owed_bits u os else owed_bits u os))
      go true e n later =
          let at : same v u ≡ true = ap (λ (z : Sockets). same z u) (its_user v on i.user e) ∙ same_self u in
          subst (λ (b : Bool). (owed_messages u os + messages ≤ (if b then most + owed_messages u os else owed_messages u os)) × (owed_bits u os + bits ≤ (if b then most_bits + owed_bits u os else owed_bits u os))) (sym at) sums
        where
          sums : (owed_messages u os + messages ≤ most + owed_messages u os) × (owed_bits u os + bits ≤ most_bits + owed_bits u os)
          sums = let a = n.0 in let b = n.1 in (omega (arith, a), omega (arith, b))
      go false e n later =
          let rest = later n in
          let more = owes_tail u (Returning v on most most_bits) os in
          let a = rest.0 in
          let b = rest.1 in
          let c = more.messages in
          let d = more.bits in (omega (arith, a, c), omega (arith, b, d))
