-- The first link on which a message is ready, link after link.
use Rattle.std.proofs.Common.{◌≡◌, ℕ, zero, suc, ◌+◌, ◌-◌, ◌≤◌, ◌<◌, Bool, List, [], ◌∷◌, Option, None, Some, true, false, is_some, refl, sym, ap, ◌∙◌, subst, arith}
use Rattle.std.specs.List.{range_with_len}
use Rattle.ncp_slot.specs.Slots.{data_links}
use Rattle.ncp_peer.specs.PeerState.{PeerState}
use Rattle.ncp_peer.specs.Silence.{SilentTo, SilentFrom}
use Rattle.ncp_peer.specs.Output.{output_on, after_output_on, first_or, first_output, next_of, after_next}
use Rattle.ncp_peer.specs.Sending.{link_on}

pub first_none : (n : ℕ) (s : PeerState) → first_output n [] s ≡ None
unfolding first_output
first_none n s = refl

pub first_more : (n : ℕ) (s : PeerState) (on : ℕ) (ons : List ℕ) → first_output n (on ∷ ons) s ≡ first_or on (output_on n on s) (first_output n ons s)
unfolding first_output
first_more n s on ons = refl

cut_range : (on : ℕ) → on < 72 → range_with_len on (72 - on) ≡ on ∷ range_with_len (on + 1) (72 - (on + 1))
cut_range on l = let e : 72 - on ≡ suc (72 - (on + 1)) = omega arith in ap (λ k. range_with_len on k) e

-- none is ready on the links before this one
pub record Passed (n : ℕ) (s : PeerState) (on : ℕ) (now : PeerState) : Type 0 where
  pub same : now ≡ s
  pub rest : next_of n s ≡ first_output n (range_with_len on (72 - on)) s

-- what came of the first that is ready, if one is
pub record Told (n : ℕ) (s : PeerState) (o : Option ℕ) (now : PeerState) : Type 0 where
  pub link : o ≡ link_on (next_of n s)
  pub state : now ≡ after_next (next_of n s) s

pub went : (o : Option (List Bool)) → true ≡ is_some o → (m : List Bool) × (o ≡ Some m)
went None e = absurd (cc)
went (Some m) e = (m, refl)

pub silent : (o : Option (List Bool)) → false ≡ is_some o → o ≡ None
silent None e = refl
silent (Some m) e = absurd (cc)

module _ (n : ℕ) (s : PeerState) where
  pub returned_first : (now : PeerState) → true ≡ is_some (output_on n 0 s) → now ≡ after_output_on 0 (output_on n 0 s) s → Told n s (Some 0) now
  returned_first now sent t =
      let there = went (output_on n 0 s) sent in
      let m : List Bool = there.0 in
      let e : output_on n 0 s ≡ Some m = there.1 in
      let is : next_of n s ≡ Some (0, m) = first_more n s 0 data_links ∙ ap (λ o. first_or 0 o (first_output n data_links s)) e in
      record {
        link = ap link_on (sym is);
        state = t ∙ ap (λ o. after_output_on 0 o s) e ∙ ap (λ o. after_next o s) (sym is);
      }

  pub passed_first : (now : PeerState) → output_on n 0 s ≡ None → now ≡ after_output_on 0 (output_on n 0 s) s → Passed n s 2 now
  passed_first now e t = record {
    same = t ∙ ap (λ o. after_output_on 0 o s) e;
    rest = first_more n s 0 data_links ∙ ap (λ o. first_or 0 o (first_output n data_links s)) e;
  }

  here : (on : ℕ) (now : PeerState) (o : Option (List Bool)) → on < 72 → Passed n s on now → output_on n on s ≡ o → next_of n s ≡ first_or on o (first_output n (range_with_len (on + 1) (72 - (on + 1))) s)
  here on now o l p e = p.rest ∙ ap (λ ons. first_output n ons s) (cut_range on l) ∙ first_more n s on (range_with_len (on + 1) (72 - (on + 1))) ∙ ap (λ x. first_or on x (first_output n (range_with_len (on + 1) (72 - (on + 1))) s)) e

  at_now : (on : ℕ) (now : PeerState) → Passed n s on now → output_on n on now ≡ output_on n on s
  at_now on now p = ap (λ (x : PeerState). output_on n on x) p.same

  pub told_here : (on : ℕ) (now after : PeerState) → on < 72 → Passed n s on now → true ≡ is_some (output_on n on now) → after ≡ after_output_on on (output_on n on now) now → Told n s (Some on) after
  told_here on now after l p sent t =
      let there = went (output_on n on now) sent in
      let m : List Bool = there.0 in
      let e : output_on n on now ≡ Some m = there.1 in
      let is : next_of n s ≡ Some (on, m) = here on now (Some m) l p (sym (at_now on now p) ∙ e) in
      record {
        link = ap link_on (sym is);
        state = t ∙ ap (λ (x : PeerState). after_output_on on (output_on n on x) x) p.same ∙ ap (λ o. after_output_on on o s) (sym (at_now on now p) ∙ e) ∙ ap (λ o. after_next o s) (sym is);
      }

  pub passed_here : (on : ℕ) (now after : PeerState) → on < 72 → Passed n s on now → output_on n on now ≡ None → after ≡ after_output_on on (output_on n on now) now → Passed n s (on + 1) after
  passed_here on now after l p e t = record {
    same = t ∙ ap (λ (x : PeerState). after_output_on on (output_on n on x) x) p.same ∙ ap (λ o. after_output_on on o s) (sym (at_now on now p) ∙ e);
    rest = here on now None l p (sym (at_now on now p) ∙ e);
  }

  pub passed_by : (on : ℕ) (now : PeerState) → on < 72 → Passed n s on now → output_on n on now ≡ None → Passed n s (on + 1) now
  passed_by on now l p e = passed_here on now now l p e (ap (λ o. after_output_on on o now) (sym e))

  -- and none is on those from it to another
  passed_over : (many on to : ℕ) (now : PeerState) → to ≡ on + many → to ≤ 72 → Passed n s on now → ((by : ℕ) → on ≤ by → by < to → output_on n by now ≡ None) → Passed n s to now
  passed_over zero on to now e l p h = let there : on ≡ to = omega arith in subst (λ (k : ℕ). Passed n s k now) there p
  passed_over (suc many) on to now e l p h = passed_over many (on + 1) to now (omega arith) l (passed_by on now (omega arith) p (h on (omega arith) (omega arith))) (λ by a b. h by (omega arith) b)

  pub passed_to : (on link : ℕ) (now : PeerState) → Passed n s on now → SilentTo on link now → Passed n s link now
  passed_to on link now p t =
      let least = t.least in
      let last = t.last in
      passed_over (link - on) on link now (omega arith) (omega arith) p (λ by a b. t.between by a b n)

  pub passed_all : (on : ℕ) (now : PeerState) → on ≤ 72 → Passed n s on now → SilentFrom on None now → Passed n s 72 now
  passed_all on now l p t = passed_over (72 - on) on 72 now (omega arith) (omega arith) p (λ by a b. t by a (omega arith) n)

  pub returned_none : (on : ℕ) (now : PeerState) → 72 ≤ on → Passed n s on now → Told n s None now
  returned_none on now l p =
      let z : 72 - on ≡ 0 = omega arith in
      let is : next_of n s ≡ None = p.rest ∙ ap (λ k. first_output n (range_with_len on k) s) z ∙ first_none n s in
      record { link = ap link_on (sym is); state = p.same ∙ ap (λ o. after_next o s) (sym is) }

  -- nothing goes out where all links are silent
  pub returned_idle : SilentFrom 0 None s → Told n s None s
  returned_idle t =
      let none : output_on n 0 s ≡ None = t 0 (omega arith) (omega arith) n in
      let first : Passed n s 2 s = passed_first s none (ap (λ o. after_output_on 0 o s) (sym none)) in
      returned_none 72 s (omega arith) (passed_all 2 s (omega arith) first (λ on low high. t on (omega arith) high))
