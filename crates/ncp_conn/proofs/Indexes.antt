-- Indexes by link: where a link leads, and what keeps an index right.
use Rattle.std.proofs.Common.{◌≡◌, ◌≢◌, ◌⊎◌, inl, inr, ℕ, zero, suc, ◌+◌, ◌≤◌, Bool, true, false, cond, List, [], ◌∷◌, Option, Some, None, refl, sym, ap, ◌∙◌, subst, arith, get_or}
use Rattle.std.specs.Prelude.{length, replicate, nat_lt}
use Rattle.std.proofs.lemmas.Bool.Decides.{nat_tests}
use Rattle.std.proofs.lemmas.List.{get_or-replicate, get_or_past, length-replicate}
use Rattle.std.specs.List.{count_by}
use Rattle.std.proofs.lemmas.Bool.{cases_eq}
use Rattle.slab.specs.Slab.{Slab, get, values, ContainsKey, Updates}
use Rattle.ncp_model.specs.declared.pair.Pair.{Pair}
use Rattle.ncp_model.specs.Endpoint.{Endpoint}
use Rattle.ncp_model.specs.Ends.{first_by}
use Rattle.ncp_conn.specs.Indexes.{key_at, entry_passes, IsIndex, LeadsTo}
use Rattle.ncp_conn.proofs.Slabs.{vals, vals_at}
use Rattle.ncp_conn.proofs.Counts.{one, count_cons, first_at}

abbrev Slots : Type 0
Slots = List (Option (Pair × Endpoint))

none_passes : (t : Pair × Endpoint → Bool) (a : Slots) → ((key : ℕ) → entry_passes t (get_or a key None) ≡ false) → count_by t (vals a) ≡ 0
none_passes t [] h = refl
none_passes t (None ∷ a) h = none_passes t a (λ k. h (suc k))
none_passes t (Some x ∷ a) h =
    let c : count_by t (x ∷ vals a) ≡ one (t x) + count_by t (vals a) = count_cons t x (vals a) in
    let o : one (t x) ≡ 0 = ap one (h 0) in
    let r : count_by t (vals a) ≡ 0 = none_passes t a (λ k. h (suc k)) in
    omega (arith, c, o, r)

passes_none : (t : Pair × Endpoint → Bool) (a : Slots) → count_by t (vals a) ≡ 0 → (key : ℕ) → entry_passes t (get_or a key None) ≡ false
passes_none t [] h key = refl
passes_none t (None ∷ a) h zero = refl
passes_none t (None ∷ a) h (suc key) = passes_none t a h key
passes_none t (Some x ∷ a) h zero = go (t x) refl
  where
    c : count_by t (x ∷ vals a) ≡ one (t x) + count_by t (vals a)
    c = count_cons t x (vals a)

    go : (b : Bool) → t x ≡ b → t x ≡ false
    go false e = e
    go true e = let o : one (t x) ≡ 1 = ap one e in let d = c in absurd (omega (arith, d, o, h))
passes_none t (Some x ∷ a) h (suc key) =
    let c : count_by t (x ∷ vals a) ≡ one (t x) + count_by t (vals a) = count_cons t x (vals a) in
    passes_none t a (omega (arith, c, h)) key

not_both : {A : Type 0} → (b : Bool) → b ≡ true → b ≡ false → A
not_both b h g = let t : true ≡ false = sym h ∙ g in absurd (cc)

-- what is under a key, where that passes
under : (t : Pair × Endpoint → Bool) (o : Option (Pair × Endpoint)) → entry_passes t o ≡ true → (p : Pair × Endpoint) × (o ≡ Some p) × (t p ≡ true)
under t None h = absurd (cc)
under t (Some p) h = (p, refl, h)

module _ (test : ℕ → Pair × Endpoint → Bool) (keys : List (Option ℕ)) (s : Slab (Pair × Endpoint)) (index : IsIndex test keys s) where
  -- a link leads to an entry that has it
  pub led : (on key : ℕ) → key_at keys on ≡ Some key → (p : Pair × Endpoint) × (get s key ≡ Some p) × (test on p ≡ true)
  led on key h = under (test on) (get s key) ((index on key).0 h)

  pub led_has : (on key : ℕ) → key_at keys on ≡ Some key → ContainsKey s key
  led_has on key h = rw (led on key h).1 refl

  pub led_test : (on key : ℕ) (r : Pair × Endpoint) → key_at keys on ≡ Some key → get s key ≡ Some r → test on r ≡ true
  led_test on key r h at = sym (ap (entry_passes (test on)) at) ∙ (index on key).0 h

  pub led_first : (on key : ℕ) (r : Pair × Endpoint) → key_at keys on ≡ Some key → get s key ≡ Some r → count_by (test on) (values s) ≤ 1 → first_by (test on) (values s) ≡ Some r
  led_first on key r h at most = first_at (test on) (values s) _ r (vals_at s.slots key r at) (led_test on key r h at) most

  pub led_nowhere : (on : ℕ) → key_at keys on ≡ None → count_by (test on) (values s) ≡ 0
  led_nowhere on h = none_passes (test on) s.slots (λ key. go key (entry_passes (test on) (get s key)) refl)
    where
      go : (key : ℕ) (b : Bool) → entry_passes (test on) (get s key) ≡ b → entry_passes (test on) (get s key) ≡ false
      go key false e = e
      go key true e = let g : key_at keys on ≡ Some key = (index on key).1 e in absurd (cc)

  -- two entries with one link are one
  same_key : (on a b : ℕ) → entry_passes (test on) (get s a) ≡ true → entry_passes (test on) (get s b) ≡ true → a ≡ b
  same_key on a b h g =
      let x : key_at keys on ≡ Some a = (index on a).1 h in
      let y : key_at keys on ≡ Some b = (index on b).1 g in
      let z : Some a ≡ Some b = sym x ∙ y in
      cc

  -- a change under one key after which the same links have it
  pub index_kept : (new : Slab (Pair × Endpoint)) (key : ℕ) (slot : Option (Pair × Endpoint)) → Updates s new key slot → ((on : ℕ) → entry_passes (test on) slot ≡ entry_passes (test on) (get s key)) → IsIndex test keys new
  index_kept new key slot u h on k =
      let same : entry_passes (test on) (get new k) ≡ entry_passes (test on) (get s k) = at (cases_eq k key) in
      (λ g. same ∙ (index on k).0 g, λ g. (index on k).1 (sym same ∙ g))
    where
      at : (k ≡ key) ⊎ (k ≢ key) → entry_passes (test on) (get new k) ≡ entry_passes (test on) (get s k)
      at (inl e) = subst (λ (n : ℕ). entry_passes (test on) (get new n) ≡ entry_passes (test on) (get s n)) (sym e) (ap (entry_passes (test on)) u.changed ∙ h on)
      at (inr d) = ap (entry_passes (test on)) (u.others k d)

  -- the entry under a key is gone, and no link leads there
  pub index_left : (new : Slab (Pair × Endpoint)) (key : ℕ) (p : Pair × Endpoint) (later : List (Option ℕ)) → get s key ≡ Some p → Updates s new key None → LeadsTo test p None keys later → IsIndex test later new
  index_left new key p later there u l on k = go (test on p) refl
    where
      passed : (b : Bool) → test on p ≡ b → entry_passes (test on) (get s key) ≡ b
      passed b e = ap (entry_passes (test on)) there ∙ e

      leads : (b : Bool) → test on p ≡ b → key_at later on ≡ cond b None (key_at keys on)
      leads b e = l on ∙ ap (λ (x : Bool). cond x None (key_at keys on)) e

      go : (b : Bool) → test on p ≡ b → (key_at later on ≡ Some k → entry_passes (test on) (get new k) ≡ true) × (entry_passes (test on) (get new k) ≡ true → key_at later on ≡ Some k)
      go true e = (λ h. let g : None ≡ Some k = sym (leads true e) ∙ h in absurd (cc), λ h. absurd (at h (cases_eq k key)))
        where
          at : entry_passes (test on) (get new k) ≡ true → (k ≡ key) ⊎ (k ≢ key) → ⊥
          at h (inl d) = let g : entry_passes (test on) (get new k) ≡ false = ap (λ (n : ℕ). entry_passes (test on) (get new n)) d ∙ ap (entry_passes (test on)) u.changed in not_both (entry_passes (test on) (get new k)) h g
          at h (inr d) = d (same_key on k key (sym (ap (entry_passes (test on)) (u.others k d)) ∙ h) (passed true e))
      go false e = at (cases_eq k key)
        where
          at : (k ≡ key) ⊎ (k ≢ key) → (key_at later on ≡ Some k → entry_passes (test on) (get new k) ≡ true) × (entry_passes (test on) (get new k) ≡ true → key_at later on ≡ Some k)
          at (inl d) = (
            λ h. not_both (entry_passes (test on) (get s key)) (ap (λ (n : ℕ). entry_passes (test on) (get s n)) (sym d) ∙ (index on k).0 (sym (leads false e) ∙ h)) (passed false e),
            λ h. not_both (entry_passes (test on) (get new k)) h (ap (λ (n : ℕ). entry_passes (test on) (get new n)) d ∙ ap (entry_passes (test on)) u.changed),
          )
          at (inr d) = (
            λ h. ap (entry_passes (test on)) (u.others k d) ∙ (index on k).0 (sym (leads false e) ∙ h),
            λ h. leads false e ∙ (index on k).1 (sym (ap (entry_passes (test on)) (u.others k d)) ∙ h),
          )

  -- an entry is under a key that has the links of the one before, and others only that none had
  pub index_led : (new : Slab (Pair × Endpoint)) (key : ℕ) (f : Pair × Endpoint) (later : List (Option ℕ)) → Updates s new key (Some f) → LeadsTo test f (Some key) keys later → ((on : ℕ) → entry_passes (test on) (get s key) ≡ true → test on f ≡ true) → ((on : ℕ) → test on f ≡ true → (entry_passes (test on) (get s key) ≡ true) ⊎ (count_by (test on) (values s) ≡ 0)) → IsIndex test later new
  index_led new key f later u l old free on k = go (test on f) refl
    where
      leads : (b : Bool) → test on f ≡ b → key_at later on ≡ cond b (Some key) (key_at keys on)
      leads b e = l on ∙ ap (λ (x : Bool). cond x (Some key) (key_at keys on)) e

      here : (b : Bool) → test on f ≡ b → k ≡ key → entry_passes (test on) (get new k) ≡ b
      here b e d = ap (λ (n : ℕ). entry_passes (test on) (get new n)) d ∙ ap (entry_passes (test on)) u.changed ∙ e

      go : (b : Bool) → test on f ≡ b → (key_at later on ≡ Some k → entry_passes (test on) (get new k) ≡ true) × (entry_passes (test on) (get new k) ≡ true → key_at later on ≡ Some k)
      go true e = (
        λ h. let g : Some key ≡ Some k = sym (leads true e) ∙ h in let d : k ≡ key = cc in here true e d,
        λ h. at h (cases_eq k key),
      )
        where
          only : entry_passes (test on) (get s k) ≡ true → k ≢ key → (entry_passes (test on) (get s key) ≡ true) ⊎ (count_by (test on) (values s) ≡ 0) → key_at later on ≡ Some k
          only h d (inl g) = absurd (d (same_key on k key h g))
          only h d (inr z) = not_both (entry_passes (test on) (get s k)) h (passes_none (test on) s.slots z k)

          at : entry_passes (test on) (get new k) ≡ true → (k ≡ key) ⊎ (k ≢ key) → key_at later on ≡ Some k
          at h (inl d) = leads true e ∙ ap Some (sym d)
          at h (inr d) = only (sym (ap (entry_passes (test on)) (u.others k d)) ∙ h) d (free on e)
      go false e = at (cases_eq k key)
        where
          at : (k ≡ key) ⊎ (k ≢ key) → (key_at later on ≡ Some k → entry_passes (test on) (get new k) ≡ true) × (entry_passes (test on) (get new k) ≡ true → key_at later on ≡ Some k)
          at (inl d) = (
            λ h. not_both (test on f) (old on (ap (λ (n : ℕ). entry_passes (test on) (get s n)) (sym d) ∙ (index on k).0 (sym (leads false e) ∙ h))) e,
            λ h. not_both (entry_passes (test on) (get new k)) h (here false e d),
          )
          at (inr d) = (
            λ h. ap (entry_passes (test on)) (u.others k d) ∙ (index on k).0 (sym (leads false e) ∙ h),
            λ h. leads false e ∙ (index on k).1 (sym (ap (entry_passes (test on)) (u.others k d)) ∙ h),
          )

-- an index with no key

abbrev nothing : Option ℕ
nothing = None

pub nowhere : (many on : ℕ) → key_at (replicate many None) on ≡ None
nowhere many on = go (nat_lt on many) refl
  where
    go : (b : Bool) → nat_lt on many ≡ b → key_at (replicate many None) on ≡ None
    go true h = get_or-replicate many on None None (grind (arith, nat_tests))
    go false h = get_or_past (replicate many None) on None (let n : length (replicate many nothing) ≡ many = length-replicate many nothing in let l : many ≤ on = grind (arith, nat_tests) in omega (arith, n, l))

pub no_entries : (test : ℕ → Pair × Endpoint → Bool) (keys : List (Option ℕ)) (s : Slab (Pair × Endpoint)) → ((on : ℕ) → key_at keys on ≡ None) → s.slots ≡ [] → IsIndex test keys s
no_entries test keys s none empty on key = (
  λ h. let n : key_at keys on ≡ None = none on in absurd (cc),
  λ h. let n : entry_passes (test on) (get s key) ≡ false = ap (λ (xs : Slots). entry_passes (test on) (get_or xs key None)) empty in not_both (entry_passes (test on) (get s key)) h n,
)
