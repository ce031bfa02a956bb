-- Counts that saturate, over lists.
use Rattle.std.proofs.Common.{◌≡◌, ℕ, ◌+◌, ◌≤◌, Bool, true, false, cond, List, [], ◌∷◌, length, refl, ap, ◌∙◌, arith}
use Rattle.std.specs.List.{count_by}
use Rattle.std.proofs.lemmas.List.Recursion.{is_count_by}
use Rattle.ncp_play_files.specs.Checked.{capped}
use Rattle.ncp_play_files.specs.Tallies.{one_more_where}

capped_more : (b : Bool) (number n : ℕ) → capped (one_more_where b number + n) ≡ capped (number + cond b (1 + n) n)
capped_more true number n = omega arith
capped_more false number n = refl

stays_capped : (b : Bool) (number : ℕ) → number ≤ 4294967295 → one_more_where b number ≤ 4294967295
stays_capped true number h = omega arith
stays_capped false number h = h

module _ {X : Type 0} where
  -- what a count becomes over items
  abbrev pub count_from : (X → Bool) → ℕ → List X → ℕ
  count_from test number [] = number
  count_from test number (item ∷ items) = count_from test (one_more_where (test item) number) items

  -- how many items pass
  abbrev passing : (X → Bool) → List X → ℕ
  passing test [] = 0
  passing test (item ∷ items) = cond (test item) (1 + passing test items) (passing test items)

  count_from_is : (test : X → Bool) (number : ℕ) (items : List X) → number ≤ 4294967295 → count_from test number items ≡ capped (number + passing test items)
  count_from_is test number [] h = omega arith
  count_from_is test number (item ∷ items) h =
      let b = test item in
      count_from_is test (one_more_where b number) items (stays_capped b number h) ∙ capped_more b number (passing test items)

  passing_all : (items : List X) → passing (λ item. true) items ≡ length items
  passing_all [] = refl
  passing_all (item ∷ items) = let h : passing (λ item. true) items ≡ length items = passing_all items in omega arith

  pub from_none : (test : X → Bool) (items : List X) → count_from test 0 items ≡ capped (count_by test items)
  from_none test items =
      let same : passing test items ≡ count_by test items = is_count_by (passing test) test refl (λ item rest. refl) items in
      count_from_is test 0 items (omega arith) ∙ (let e : 0 + passing test items ≡ count_by test items = omega arith in ap capped e)

  pub from_all : (items : List X) → count_from (λ item. true) 0 items ≡ capped (length items)
  from_all items =
      count_from_is (λ item. true) 0 items (omega arith) ∙ (let e : 0 + passing (λ item. true) items ≡ length items = omega (arith, passing_all items) in ap capped e)
