-- Which link may send next, and the pairs of a table in a list.
use Rattle.std.proofs.Common.{◌≡◌, inl, inr, ℕ, zero, suc, ◌+◌, ◌-◌, ◌<◌, ◌≤◌, IfSome, Bool, true, false, cond, ◌*◌, ◌/◌, min, length, List, [], ◌∷◌, Option, Some, None, is_some, map, refl, sym, ap, ◌∙◌, subst, arith}
use Rattle.std.proofs.Math.Nat.{mul-le-mul_right, div-mul-le_self}
use Rattle.std.specs.List.{count_by}
use Rattle.std.specs.FinMap.{find}
use Rattle.std.proofs.lemmas.Bool.{cases_eq}
use Rattle.slab.specs.Slab.{entries_from}
use Rattle.ncp_model.specs.declared.limits.TheConstants.{MAX_TEXT}
use Rattle.ncp_model.specs.declared.pair.Pair.{Pair}
use Rattle.ncp_model.specs.Pairs.{pair_cmp, same}
use Rattle.ncp_model.specs.Endpoint.{Endpoint}
use Rattle.ncp_model.specs.Effect.{Stays, answer}
use Rattle.ncp_model.specs.Texts.{cut, cut_bits, bytes_to_send, can_send}
use Rattle.ncp_conn.specs.Entries.{AreEntries}
use Rattle.ncp_conn.specs.Links.{is_in, IsLowestIfAny}
use Rattle.ncp_conn.specs.Cutting.{first_number_that}
use Rattle.ncp_conn.proofs.Slabs.{vals}
use Rattle.ncp_conn.proofs.Finding.{is_pair, pair_is, same_is, same_itself, pair_itself}
use Rattle.ncp_conn.proofs.Counts.{one, count_cons}

pub cut_tells : (p : Pair × Endpoint) → is_some (answer (cut p.0 (Some p.1))) ≡ can_send p.0 p.1
cut_tells p = go (can_send p.0 p.1)
  where
    go : (b : Bool) → is_some (answer (cond b (cut_bits (bytes_to_send p.1 * p.1.size) p.1) (Stays None))) ≡ b
    go true = refl
    go false = refl

whole : (n a size : ℕ) → n ≤ a / size → n * size ≤ a
whole n a size h =
    let less : n * size ≤ a / size * size = mul-le-mul_right size h in
    let most : a / size * size ≤ a = div-mul-le_self a size in
    omega (arith, less, most)

-- what goes out is no more than waits, than is admitted and than a message takes
pub cut_takes : (e : Endpoint) (n size : ℕ) → n ≡ bytes_to_send e → size ≡ e.size → (n * size ≤ length e.stored) × (n * size ≤ e.bits) × (n * size ≤ MAX_TEXT)
cut_takes e n size is same =
    let least : n ≡ min (length e.stored / size) (min (e.bits / size) (MAX_TEXT / size)) = is ∙ ap (λ (s : ℕ). min (length e.stored / s) (min (e.bits / s) (MAX_TEXT / s))) (sym same) in
    (whole n (length e.stored) size (omega (arith, least)), whole n e.bits size (omega (arith, least)), whole n MAX_TEXT size (omega (arith, least)))

pub first_end : (test : ℕ → Bool) (n from : ℕ) → n ≡ 0 → first_number_that test n from ≡ None
unfolding first_number_that
first_end test n from h = rw h refl

pub first_yes : (test : ℕ → Bool) (n m from : ℕ) → n ≡ suc m → test from ≡ true → first_number_that test n from ≡ Some from
unfolding first_number_that
first_yes test n m from h t = rw h (ap (λ (b : Bool). cond b (Some from) (first_number_that test m (suc from))) t)

pub first_no : (test : ℕ → Bool) (n m from : ℕ) → n ≡ suc m → test from ≡ false → first_number_that test n from ≡ first_number_that test m (suc from)
unfolding first_number_that
first_no test n m from h t = rw h (ap (λ (b : Bool). cond b (Some from) (first_number_that test m (suc from))) t)

-- where no number from one on passes, and where one is the first that does
pub first_none : (test : ℕ → Bool) (n from : ℕ) → ((k : ℕ) → from ≤ k → test k ≡ false) → first_number_that test n from ≡ None
first_none test zero from h = first_end test zero from refl
first_none test (suc n) from h = first_no test (suc n) n from refl (h from (omega arith)) ∙ first_none test n (suc from) (λ k l. h k (omega arith))

pub first_some : (test : ℕ → Bool) (n from on : ℕ) → from ≤ on → on < from + n → test on ≡ true → ((k : ℕ) → from ≤ k → k < on → test k ≡ false) → first_number_that test n from ≡ Some on
first_some test zero from on l b t h = absurd (omega arith)
first_some test (suc n) from on l b t h = elim (cases_eq from on) [
  | inl e ↦ first_yes test (suc n) n from refl (ap test e ∙ t) ∙ ap Some e
  | inr d ↦ first_no test (suc n) n from refl (h from (omega arith) (omega (arith, d))) ∙ first_some test n (suc from) on (omega (arith, d)) (omega arith) t (λ k a c. h k (omega arith) c)
]

-- the lowest link of a set that has those that pass
pub first_found : (test : ℕ → Bool) (links last from : ℕ) (o : Option ℕ) → ((on : ℕ) → is_in links on ≡ test on) → IsLowestIfAny links from o → IfSome o (λ on. on ≤ last) → o ≡ first_number_that test (last + 1 - from) from
first_found test links last from None same none l = sym (first_none test (last + 1 - from) from (λ k b. sym (same k) ∙ none k b))
first_found test links last from (Some on) same is l =
    let least = is.least in
    sym (first_some test (last + 1 - from) from on least (omega arith) (sym (same on) ∙ is.here) (λ k a b. sym (same k) ∙ is.lower k a b))

-- what is passed by the first that passes
abbrev pub PassedBy : (ℕ → Bool) → ℕ → ℕ → Option ℕ → Type 0
PassedBy test last from None = (on : ℕ) → from ≤ on → on ≤ last → test on ≡ false
PassedBy test last from (Some c) = (from ≤ c) × (c ≤ last) × ((on : ℕ) → from ≤ on → on < c → test on ≡ false)

pub passed_by_first : (test : ℕ → Bool) (last from : ℕ) (o : Option ℕ) → o ≡ first_number_that test (last + 1 - from) from → PassedBy test last from o
passed_by_first test last from o is = subst (PassedBy test last from) (sym is) (walk (last + 1 - from) from refl)
  where
    at_once : (n from : ℕ) → n ≡ last + 1 - from → (b : Bool) → test from ≡ b → (m : ℕ) → n ≡ suc m → PassedBy test last (suc from) (first_number_that test m (suc from)) → PassedBy test last from (first_number_that test n from)
    at_once n from e true t m k rest = subst (PassedBy test last from) (sym (first_yes test n m from k t)) (omega arith, omega arith, λ on a b. absurd (omega arith))
    at_once n from e false t m k rest = subst (PassedBy test last from) (sym (first_no test n m from k t)) (go (first_number_that test m (suc from)) rest)
      where
        here : (on : ℕ) → from ≤ on → (suc from ≤ on → test on ≡ false) → test on ≡ false
        here on a r = elim (cases_eq from on) [ inl s ↦ ap test (sym s) ∙ t | inr d ↦ r (omega (arith, d)) ]

        go : (o : Option ℕ) → PassedBy test last (suc from) o → PassedBy test last from o
        go None r = λ on a b. here on a (λ c. r on c b)
        go (Some c) r = let over = r.0 in (omega arith, r.1, λ on a b. here on a (λ d. r.2 on d b))

    walk : (n from : ℕ) → n ≡ last + 1 - from → PassedBy test last from (first_number_that test n from)
    walk zero from e = subst (PassedBy test last from) (sym (first_end test zero from refl)) (λ on a b. absurd (omega arith))
    walk (suc n) from e = at_once (suc n) from e (test from) refl n refl (walk n (suc from) (omega arith))

pub pairs_counted : (n : ℕ) (slots : List (Option (Pair × Endpoint))) (k : Pair) → count_by (λ other. same other k) (map (λ e. e.1.0) (entries_from n slots)) ≡ count_by (λ e. same e.0 k) (vals slots)
pairs_counted n [] k = refl
pairs_counted n (None ∷ slots) k = pairs_counted (n + 1) slots k
pairs_counted n (Some x ∷ slots) k =
    count_cons (λ other. same other k) x.0 (map (λ e. e.1.0) (entries_from (n + 1) slots))
    ∙ ap (λ c. one (same x.0 k) + c) (pairs_counted (n + 1) slots k)
    ∙ sym (count_cons (λ e. same e.0 k) x (vals slots))

pub each_once : (es : List (Pair × Endpoint)) (k : Pair) → AreEntries es → count_by (λ e. same e.0 k) es ≡ one (is_some (find pair_cmp k es))
each_once [] k are = refl
each_once (x ∷ es) k are = count_cons (λ (e : Pair × Endpoint). same e.0 k) x es ∙ go (same x.0 k) refl (each_once es k are.2)
  where
    go : (b : Bool) → same x.0 k ≡ b → count_by (λ e. same e.0 k) es ≡ one (is_some (find pair_cmp k es)) → one (same x.0 k) + count_by (λ e. same e.0 k) es ≡ one (is_some (cond (is_pair k x.0) (Some x.1) (find pair_cmp k es)))
    go true h rest =
        let is_k : x.0 ≡ k = same_is x.0 k h in
        let o : one (same x.0 k) ≡ 1 = ap one h in
        let none : find pair_cmp k es ≡ None = subst (λ (p : Pair). find pair_cmp p es ≡ None) is_k are.0 in
        let z : count_by (λ (e : Pair × Endpoint). same e.0 k) es ≡ 0 = rest ∙ ap (λ (y : Option Endpoint). one (is_some y)) none in
        let here : is_pair k x.0 ≡ true = subst (λ (p : Pair). is_pair k p ≡ true) (sym is_k) (pair_itself k) in
        let n : one (is_some (cond (is_pair k x.0) (Some x.1) (find pair_cmp k es))) ≡ 1 = ap (λ (b : Bool). one (is_some (cond b (Some x.1) (find pair_cmp k es)))) here in
        omega (arith, o, z, n)
    go false h rest = other (is_pair k x.0) refl
      where
        other : (b : Bool) → is_pair k x.0 ≡ b → one (same x.0 k) + count_by (λ e. same e.0 k) es ≡ one (is_some (cond b (Some x.1) (find pair_cmp k es)))
        other true e = let t : true ≡ false = sym (same_itself k) ∙ ap (λ (p : Pair). same p k) (pair_is k x.0 e) ∙ h in absurd (cc)
        other false e = let o : one (same x.0 k) ≡ 0 = ap one h in let r = rest in omega (arith, o, r)
