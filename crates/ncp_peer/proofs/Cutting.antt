-- What is cut for a link is whole bytes that fit a message; and where nothing is, nothing changes.
use Rattle.std.proofs.Common.{◌≡◌, ℕ, ◌*◌, ◌/◌, ◌%◌, ◌≤◌, ◌<◌, Bool, true, false, if◌then◌else◌, nat_le, Option, None, Some, is_some, refl, ap, ◌∙◌, arith, take, length, inl, inr}
use Rattle.std.proofs.lemmas.Bool.{cases_lt}
use Rattle.std.proofs.lemmas.List.{length-take-le}
use Rattle.std.proofs.Math.Nat.{div-mul-le_self, div-zero, mul-le-mul_right, mul-mod_left}
use Rattle.ncp_model.specs.declared.pair.Pair.{Pair}
use Rattle.ncp_model.specs.Endpoint.{Endpoint}
use Rattle.ncp_model.specs.Effect.{Stays, answer}
use Rattle.ncp_model.specs.Texts.{bytes_to_send, can_send, cut_bits}
use Rattle.ncp_model.specs.Ends.{Ends, cut_at, cut_in, sender_on, pair_of, map_after, map_after_at}
use Rattle.ncp_peer.specs.Steps.{IsWhole, IsWholeIfAny}

no_bytes : (e : Endpoint) → e.size ≡ 0 → bytes_to_send e ≡ 0
no_bytes e z =
    let a : length e.stored / e.size ≡ 0 = ap (λ n. length e.stored / n) z ∙ div-zero (length e.stored) in
    omega (arith, a)

at_least : (n : ℕ) → nat_le 1 n ≡ true → 1 ≤ n
at_least n h = grind arith

whole_of : (e : Endpoint) → nat_le 1 (bytes_to_send e) ≡ true → IsWhole e.size (take (bytes_to_send e * e.size) e.stored)
whole_of e h =
    let n = bytes_to_send e in
    let one : 1 ≤ n = at_least n h in
    let some : 0 < e.size = elim (cases_lt 0 e.size) [ inl y ↦ y | inr z ↦ absurd (let none : n ≡ 0 = no_bytes e (omega arith) in omega (arith, none, one)) ] in
    let a : n ≤ length e.stored / e.size = omega arith in
    let b : n ≤ 7928 / e.size = omega arith in
    let inside : n * e.size ≤ length e.stored = omega (arith, mul-le-mul_right e.size a, div-mul-le_self (length e.stored) e.size) in
    let short : n * e.size ≤ 7928 = omega (arith, mul-le-mul_right e.size b, div-mul-le_self 7928 e.size) in
    let long : length (take (n * e.size) e.stored) ≡ n * e.size = length-take-le (n * e.size) e.stored inside in
    record {
      some = some;
      fits = omega (arith, long, short);
      whole = ap (λ k. k % e.size) long ∙ mul-mod_left n e.size;
    }

pub cut_whole : (o : Option (Pair × Endpoint)) → IsWholeIfAny (answer (cut_at o))
cut_whole None = tt
cut_whole (Some p) = go (can_send p.0 p.1) refl
  where
    go : (b : Bool) → can_send p.0 p.1 ≡ b → IsWholeIfAny (answer (if b then cut_bits (bytes_to_send p.1 * p.1.size) p.1 else Stays None))
    go true e = whole_of p.1 (grind arith)
    go false e = tt

pub cut_none : (m : Ends) (on : ℕ) → answer (cut_in on m) ≡ None → map_after_at m (pair_of (sender_on on m)) (cut_in on m) ≡ m
cut_none m on h = at (sender_on on m) h
  where
    by : (p : Pair × Endpoint) (b : Bool) → answer (if b then cut_bits (bytes_to_send p.1 * p.1.size) p.1 else Stays None) ≡ None → map_after m p.0 (if b then cut_bits (bytes_to_send p.1 * p.1.size) p.1 else Stays None) ≡ m
    by p true e = absurd (cc)
    by p false e = refl

    at : (o : Option (Pair × Endpoint)) → answer (cut_at o) ≡ None → map_after_at m (pair_of o) (cut_at o) ≡ m
    at None e = refl
    at (Some p) e = by p (can_send p.0 p.1) e

-- where no text may be cut, none is there
pub not_cut : {A : Type 0} (o : Option A) → is_some o ≡ false → o ≡ None
not_cut None h = refl
not_cut (Some a) h = absurd (cc)
