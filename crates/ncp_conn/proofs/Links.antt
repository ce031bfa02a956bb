-- A set of links that are bits of a number.
use Rattle.std.proofs.Common.{◌≡◌, ◌≢◌, inl, inr, ℕ, ◌+◌, ◌-◌, ◌*◌, ◌/◌, ◌%◌, ◌^◌, ◌<◌, ◌≤◌, ◌==◌, Bool, true, false, cond, if◌then◌else◌, refl, sym, ap, ◌∙◌, arith}
use Rattle.std.specs.Int.{bit_at, bit_not, w128, trailing_zeros}
use Rattle.std.specs.Int.RustNames.{bit_and}
use Rattle.std.proofs.lemmas.Bool.{cases_lt, eqb-true}
use Rattle.std.proofs.lemmas.Nat.{shr-shr, and_le_l}
use Rattle.std.proofs.lemmas.Nat.Bits.{bit_at-zero, bit_at-trailing_zeros, bit_at_above, bit_at_clear_other}
use Rattle.ncp_conn.specs.Links.{is_in, IsLowest}

pub out_of : (links on : ℕ) → bit_at links on ≡ 0 → is_in links on ≡ false
out_of links on e = ap (λ (n : ℕ). n == 1) e

-- one link is in the set or is not, and of the others nothing changes
pub changed : (links now old link : ℕ) (here : Bool) → links ≡ old → is_in now link ≡ here → ((on : ℕ) → on ≢ link → bit_at now on ≡ bit_at links on) → (on : ℕ) → is_in now on ≡ (if on == link then here else is_in old on)
changed links now old link here was is others on = go (on == link) refl
  where
    go : (b : Bool) → (on == link) ≡ b → is_in now on ≡ cond b here (is_in old on)
    go true e = ap (is_in now) (eqb-true on link e) ∙ is
    go false e = ap (λ (n : ℕ). n == 1) (others on (λ s. absurd (grind arith))) ∙ ap (λ (n : ℕ). is_in n on) was

-- the bits from one on
above : (links from i : ℕ) → bit_at (links / 2 ^ from) i ≡ bit_at links (from + i)
above links from i = ap (λ (n : ℕ). n % 2) (shr-shr links from i)

pub none_above : (links from : ℕ) → links / 2 ^ from ≡ 0 → (on : ℕ) → from ≤ on → is_in links on ≡ false
none_above links from e on l =
    let there : from + (on - from) ≡ on = omega arith in
    out_of links on (ap (bit_at links) (sym there) ∙ sym (above links from (on - from)) ∙ ap (λ (n : ℕ). bit_at n (on - from)) e ∙ bit_at-zero (on - from))

pub none_past : (links last from : ℕ) → links < 2 ^ (last + 1) → last < from → (on : ℕ) → from ≤ on → is_in links on ≡ false
none_past links last from small l on b = out_of links on (bit_at_above links (last + 1) on small (omega arith))

module _ (links from : ℕ) (some : 0 < links / 2 ^ from) (fits : links / 2 ^ from < 2 ^ 128) where
  abbrev pub lowest : ℕ
  lowest = trailing_zeros w128 (links / 2 ^ from)

  pub low : lowest < 128
  low = (bit_at-trailing_zeros w128 (links / 2 ^ from) some fits).0

  pub is_lowest : IsLowest links from (from + lowest)
  is_lowest =
      let t = bit_at-trailing_zeros w128 (links / 2 ^ from) some fits in
      record {
        least = omega arith;
        here = ap (λ (n : ℕ). n == 1) (sym (above links from lowest) ∙ t.1);
        lower = λ other l b.
            let there : from + (other - from) ≡ other = omega arith in
            out_of links other (ap (bit_at links) (sym there) ∙ sym (above links from (other - from)) ∙ t.2 (other - from) (omega arith));
      }

  pub not_past : (last : ℕ) → links < 2 ^ (last + 1) → from + lowest ≤ last
  not_past last small = elim (cases_lt (from + lowest) (last + 1)) [
    | inl h ↦ omega arith
    | inr h ↦ absurd (let e = bit_at_above links (last + 1) (from + lowest) small h in let f = sym (above links from lowest) ∙ (bit_at-trailing_zeros w128 (links / 2 ^ from) some fits).1 in cc)
  ]

-- a bit that is cleared leaves the others
pub cleared : (links link : ℕ) → link < 128 → links < 2 ^ 128 → (on : ℕ) → on ≢ link → bit_at (bit_and links (bit_not w128 (1 * 2 ^ link % 2 ^ 128))) on ≡ bit_at links on
cleared links link within fits on d = elim (cases_lt on 128) [
  | inl h ↦ bit_at_clear_other w128 links link within on h d
  | inr h ↦ (let less = and_le_l links (bit_not w128 (1 * 2 ^ link % 2 ^ 128)) in bit_at_above (bit_and links (bit_not w128 (1 * 2 ^ link % 2 ^ 128))) 128 on (omega (arith, less, fits)) h ∙ sym (bit_at_above links 128 on fits h))
]
