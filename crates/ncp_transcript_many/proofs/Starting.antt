-- New hosts: many of them are fine, and two of them have what two new hosts have.
use Rattle.std.proofs.Common.{◌≡◌, ◌≢◌, ◌<◌, ℕ, ◌==◌, Bool, true, false, not, ◌||◌, List, [], ◌∷◌, refl, sym, ap, ◌∙◌, subst}
use Rattle.std.proofs.lemmas.Bool.{and_parts, eq-eqb, eqb-true, ne_eqb}
use Rattle.ncp_subnet.specs.Subnet.{has_way, new_subnet}
use Rattle.ncp_subnet.proofs.NewRows.{has_way-new, transit-new}
use Rattle.ncp_host.specs.Host.{Host, state_of, is_one_of, are_distinct, new_host}
use Rattle.ncp_proof_runs.proofs.HostRuns.{Holds}
use Rattle.ncp_proof_runs.proofs.EachPeer.{new-state, new-holds}
use Rattle.ncp_transcript_two.specs.Between.{new_hosts}
use Rattle.ncp_transcript_two.proofs.Accepting.{both}
use Rattle.ncp_transcript_many.specs.Network.{is_there, are_hosts, others, new_network, host_at}
use Rattle.ncp_transcript_many.proofs.Others.{other-of, other-there, others-distinct}
use Rattle.ncp_transcript_many.proofs.Crowds.{many-new, new-numbers}
use Rattle.ncp_transcript_many.proofs.Transits.{InPlace, AllInPlace}
use Rattle.ncp_transcript_many.proofs.Agreeing.{Fine, Agrees}

-- the only number of one
its-own : (b n : ℕ) → is_one_of n (b ∷ []) ≡ true → n ≡ b
its-own b n e = go (b == n) refl e
  where
    go : (c : Bool) → (b == n) ≡ c → (c || false) ≡ true → n ≡ b
    go true t e = sym (eqb-true b n t)
    go false t e = absurd (cc)

is-own : (b : ℕ) → is_one_of b (b ∷ []) ≡ true
is-own b = ap (λ (c : Bool). c || false) (eq-eqb b b refl)

one-holds : (a b : ℕ) → b < 256 → Holds (b ∷ []) (new_host a (b ∷ []))
one-holds a b small = new-holds a (b ∷ []) refl (λ n e. subst (λ (k : ℕ). k < 256) (sym (its-own b n e)) small)

way-between : (ns : List ℕ) (a b : ℕ) → is_one_of a ns ≡ true → is_one_of b ns ≡ true → a ≢ b → has_way (new_subnet ns) a b ≡ true
way-between ns a b i j differ = has_way-new ns a b ∙ both _ _ (both _ _ i j) (ap not (ne_eqb a b differ))

module _ (ns : List ℕ) (good : are_hosts ns ≡ true) (fits : (n : ℕ) → is_one_of n ns ≡ true → n < 256) where
  distinct : are_distinct ns ≡ true
  distinct = (and_parts _ (are_distinct ns) good).1

  among : (k : ℕ) → is_there k (new_network ns) ≡ true → is_one_of k ns ≡ true
  among k e = ap (is_one_of k) (sym (new-numbers ns)) ∙ e

  new-in-place : AllInPlace (new_subnet ns)
  new-in-place from to link = subst (InPlace to link) (sym (transit-new ns from to link)) tt

  pub new-fine : Fine (new_network ns)
  new-fine = record {
    fits = λ k e. fits k (among k e);
    own = λ k e. (
      others k ns,
      subst (Holds (others k ns)) (sym (many-new ns k (among k e))) (new-holds k (others k ns) (others-distinct k ns distinct) (λ n i. fits n (other-of k n ns i))),
    );
    in_place = new-in-place;
  }

  -- what one has for another is what it would have as its only peer
  has-new : (a b : ℕ) → is_one_of a ns ≡ true → is_one_of b ns ≡ true → a ≢ b → state_of (host_at a (new_network ns)) b ≡ state_of (new_host a (b ∷ [])) b
  has-new a b i j differ =
      ap (λ (h : Host). state_of h b) (many-new ns a i)
      ∙ new-state (others a ns) b (other-there a b ns j (ne_eqb b a (λ e. differ (sym e))))
      ∙ sym (new-state (b ∷ []) b (is-own b))

  pub new-agrees : (a b : ℕ) → is_one_of a ns ≡ true → is_one_of b ns ≡ true → a ≢ b → Agrees (new_network ns) (new_hosts a b)
  new-agrees a b i j differ = record {
    differ = differ;
    there_a = ap (is_one_of a) (new-numbers ns) ∙ i;
    there_b = ap (is_one_of b) (new-numbers ns) ∙ j;
    own_a = one-holds a b (fits b j);
    own_b = one-holds b a (fits a i);
    here = has-new a b i j differ;
    there = has-new b a j i (λ e. differ (sym e));
    going = λ on. transit-new ns a b on ∙ sym (transit-new (a ∷ b ∷ []) a b on);
    coming = λ on. transit-new ns b a on ∙ sym (transit-new (a ∷ b ∷ []) b a on);
    many_to_b = way-between ns a b i j differ;
    many_to_a = way-between ns b a j i (λ e. differ (sym e));
    two_to_b = way-between (a ∷ b ∷ []) a b (is-first a b) (is-second a b) differ;
    two_to_a = way-between (a ∷ b ∷ []) b a (is-second a b) (is-first a b) (λ e. differ (sym e));
  }
    where
      is-first : (a b : ℕ) → is_one_of a (a ∷ b ∷ []) ≡ true
      is-first a b = ap (λ (c : Bool). c || is_one_of a (b ∷ [])) (eq-eqb a a refl)

      or-true : (c d : Bool) → d ≡ true → (c || d) ≡ true
      or-true true d e = refl
      or-true false d e = e

      is-second : (a b : ℕ) → is_one_of b (a ∷ b ∷ []) ≡ true
      is-second a b = or-true (a == b) (is_one_of b (b ∷ [])) (is-own b)
