-- How large the text is that is cut: what waits, is admitted and fits a message, in whole bytes.
use Rattle.std.proofs.Common.{◌≡◌, ℕ, ◌*◌, ◌/◌, ◌≤◌, ◌<◌, Bool, true, false, cond, nat_le, List, ◌++◌, length, take, Option, Some, None, inl, inr, refl, sym, ap, ◌∙◌, arith}
use Rattle.std.proofs.lemmas.Bool.{cases_lt}
use Rattle.std.proofs.lemmas.List.{append-nil, length-take-le}
use Rattle.std.proofs.Math.Nat.{div-mul-le_self, div-zero, mul-div_cancel, mul-le-mul_right}
use Rattle.ncp_model.specs.declared.pair.Pair.{Pair}
use Rattle.ncp_model.specs.Endpoint.{Endpoint}
use Rattle.ncp_model.specs.Effect.{Stays, answer}
use Rattle.ncp_model.specs.Texts.{bytes_to_send, can_send, cut, cut_bits}
use Rattle.ncp_model.specs.Ends.{Ends, cut_at, cut_in, sender_on, pair_of, map_after, map_after_at}
use Rattle.ncp_conn.specs.Cutting.{cut_sizes, cut_text}

no_bytes : (e : Endpoint) → e.size ≡ 0 → bytes_to_send e ≡ 0
no_bytes e z =
    let a : length e.stored / e.size ≡ 0 = ap (λ n. length e.stored / n) z ∙ div-zero (length e.stored) in
    omega (arith, a)

at_least : (n : ℕ) → nat_le 1 n ≡ true → 1 ≤ n
at_least n h = grind arith

-- so many bytes are cut
counted : (e : Endpoint) → nat_le 1 (bytes_to_send e) ≡ true → length (take (bytes_to_send e * e.size) e.stored) / e.size ≡ bytes_to_send e
counted e h =
    let n = bytes_to_send e in
    let one : 1 ≤ n = at_least n h in
    let some : 0 < e.size = elim (cases_lt 0 e.size) [ inl y ↦ y | inr z ↦ absurd (let none : n ≡ 0 = no_bytes e (omega arith) in omega (arith, none, one)) ] in
    let a : n ≤ length e.stored / e.size = omega arith in
    let inside : n * e.size ≤ length e.stored = omega (arith, mul-le-mul_right e.size a, div-mul-le_self (length e.stored) e.size) in
    ap (λ (k : ℕ). k / e.size) (length-take-le (n * e.size) e.stored inside) ∙ mul-div_cancel n some

pub size_cut : (p : Pair × Endpoint) (size n : ℕ) → size ≡ p.1.size → n ≡ bytes_to_send p.1 → can_send p.0 p.1 ≡ true → Some (size, n) ≡ cut_sizes (answer (cut p.0 (Some p.1)))
size_cut p size n same is may = go (can_send p.0 p.1) may (counted p.1 (grind arith))
  where
    go : (b : Bool) → b ≡ true → length (take (bytes_to_send p.1 * p.1.size) p.1.stored) / p.1.size ≡ bytes_to_send p.1 → Some (size, n) ≡ cut_sizes (answer (cond b (cut_bits (bytes_to_send p.1 * p.1.size) p.1) (Stays None)))
    go true h c = ap (λ (k : ℕ). Some (k, n)) same ∙ ap (λ (k : ℕ). Some (p.1.size, k)) (is ∙ sym c)
    go false h c = absurd (cc)

-- nothing is cut where nothing may be
pub nothing_cut : (p : Pair × Endpoint) (bits : List Bool) → can_send p.0 p.1 ≡ false → bits ≡ bits ++ cut_text (answer (cut p.0 (Some p.1)))
nothing_cut p bits may = go (can_send p.0 p.1) may
  where
    go : (b : Bool) → b ≡ false → bits ≡ bits ++ cut_text (answer (cond b (cut_bits (bytes_to_send p.1 * p.1.size) p.1) (Stays None)))
    go false h = sym (append-nil bits)
    go true h = absurd (cc)

-- what is cut where it may be
pub text_cut : (p : Pair × Endpoint) (bits : List Bool) → can_send p.0 p.1 ≡ true → bits ++ take (bytes_to_send p.1 * p.1.size) p.1.stored ≡ bits ++ cut_text (answer (cut p.0 (Some p.1)))
text_cut p bits may = go (can_send p.0 p.1) may
  where
    go : (b : Bool) → b ≡ true → bits ++ take (bytes_to_send p.1 * p.1.size) p.1.stored ≡ bits ++ cut_text (answer (cond b (cut_bits (bytes_to_send p.1 * p.1.size) p.1) (Stays None)))
    go true h = refl
    go false h = absurd (cc)

-- a text is its size and its bits
pub sized : (o : Option (ℕ × List Bool)) (size count : ℕ) → Some (size, count) ≡ cut_sizes o → Some (size, cut_text o) ≡ o
sized None size count e = absurd (cc)
sized (Some text) size count e =
    let both : (size, count) ≡ (text.0, length text.1 / text.0) = cc in
    ap (λ (k : ℕ). Some (k, text.1)) (ap (λ (p : ℕ × ℕ). p.0) both)

pub counts_it : (o : Option (ℕ × List Bool)) (size count : ℕ) → Some (size, count) ≡ cut_sizes o → count ≡ length (cut_text o) / size
counts_it None size count e = absurd (cc)
counts_it (Some text) size count e =
    let both : (size, count) ≡ (text.0, length text.1 / text.0) = cc in
    ap (λ (p : ℕ × ℕ). p.1) both ∙ ap (λ (k : ℕ). length text.1 / k) (sym (ap (λ (p : ℕ × ℕ). p.0) both))

pub not_sized : (o : Option (ℕ × List Bool)) → cut_sizes o ≡ None → o ≡ None
not_sized None e = refl
not_sized (Some text) e = absurd (cc)

-- where nothing is cut, nothing changes
pub cut_none : (m : Ends) (on : ℕ) → answer (cut_in on m) ≡ None → map_after_at m (pair_of (sender_on on m)) (cut_in on m) ≡ m
cut_none m on h = at (sender_on on m) h
  where
    by : (p : Pair × Endpoint) (b : Bool) → answer (cond b (cut_bits (bytes_to_send p.1 * p.1.size) p.1) (Stays None)) ≡ None → map_after m p.0 (cond b (cut_bits (bytes_to_send p.1 * p.1.size) p.1) (Stays None)) ≡ m
    by p true e = absurd (cc)
    by p false e = refl

    at : (o : Option (Pair × Endpoint)) → answer (cut_at o) ≡ None → map_after_at m (pair_of o) (cut_at o) ≡ m
    at None e = refl
    at (Some p) e = by p (can_send p.0 p.1) e
