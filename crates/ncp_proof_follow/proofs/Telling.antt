-- The text reported for a connection and the history of one of its ends, through any event of the end:
-- for a receiver it is the text got; for a sender the text given, except for the text that is still
-- stored.
use Rattle.std.proofs.Common.{◌≡◌, ◌⊎◌, inl, inr, ℕ, zero, suc, ◌-◌, Bool, true, false, List, [], ◌∷◌, ◌++◌, length, take, Option, append-nil, append_assoc, refl, sym, ap, ◌∙◌, subst, arith}
use Rattle.ncp_bits.specs.declared.bits.TheConstants.{MAX_BITS}
use Rattle.ncp_model.specs.declared.pair.Pair.{Pair}
use Rattle.ncp_model.specs.Pairs.{sends}
use Rattle.ncp_model.specs.Endpoint.{Endpoint, or_new, is_live, is_closing}
use Rattle.ncp_proof_endpoint.specs.Histories.{PairHistory, IsPrefix}
use Rattle.ncp_follow.specs.Connections.{text_with}
use Rattle.ncp_proof_follow.proofs.EndLives.{EndLives}

-- ---- a text that is kept up to a number of bits

take_with_any : (n : ℕ) (xs ys : List Bool) → take n (xs ++ ys) ≡ take n xs ++ take (n - length (take n xs)) ys
take_with_any zero [] ys = refl
take_with_any (suc n) [] ys = let same : suc n ≡ suc n - 0 = omega arith in ap (λ (k : ℕ). take k ys) same
take_with_any zero (x ∷ xs) ys = refl
take_with_any (suc n) (x ∷ xs) ys =
    let less : n - length (take n xs) ≡ suc n - suc (length (take n xs)) = omega arith in
    ap (λ (zs : List Bool). x ∷ zs) (take_with_any n xs ys) ∙ ap (λ (k : ℕ). x ∷ take n xs ++ take k ys) less

pub take_with : (xs ys : List Bool) → take MAX_BITS (xs ++ ys) ≡ text_with (take MAX_BITS xs) ys
take_with xs ys = take_with_any MAX_BITS xs ys

none_taken : (n : ℕ) → ◌≡◌ {A = List Bool} (take n []) []
none_taken zero = refl
none_taken (suc n) = refl

pub with_none : (xs : List Bool) → text_with xs [] ≡ xs
with_none xs = ap (λ (zs : List Bool). xs ++ zs) (none_taken (MAX_BITS - length xs)) ∙ append-nil xs

-- ---- a receiver

-- until it closes the text is what it got; then that is a beginning of the text
pub record Got (o : Option Endpoint) (past : PairHistory) (text : List Bool) : Type 0 where
  pub is : is_live o ≡ true → is_closing (or_new o) ≡ false → text ≡ take MAX_BITS past.got
  pub begins : is_live o ≡ true → IsPrefix (take MAX_BITS past.got) text

begins_self : (xs ys : List Bool) → ys ≡ xs → IsPrefix xs ys
begins_self xs ys e = ([], append-nil xs ∙ sym e)

begins_then : (xs ys zs : List Bool) → IsPrefix xs ys → IsPrefix ys zs → IsPrefix xs zs
begins_then xs ys zs (a, e) (b, f) = (a ++ b, sym (append_assoc xs a b) ∙ ap (λ (ws : List Bool). ws ++ b) e ∙ f)

module _ (q : Pair) (o after : Option Endpoint) (past now : PairHistory) (given come gone : List Bool) (asked : Bool) (k : EndLives q o after past now given come gone asked) (text then_text : List Bool) where
  -- received text is reported, unless the end closes; and reported text stays
  pub got_step : (is_live o ≡ true → is_live after ≡ true → is_closing (or_new o) ≡ false → then_text ≡ text_with text come) → (is_live o ≡ true → is_live after ≡ true → IsPrefix text then_text)
      → (is_live o ≡ false → is_live after ≡ true → then_text ≡ []) → Got o past text → Got after now then_text
  got_step tells stays anew g = record { is = λ l n. until l n (is_live o) refl; begins = λ l. from l (is_live o) refl (is_closing (or_new o)) refl }
    where
      was_open : is_live after ≡ true → is_closing (or_new after) ≡ false → (b : Bool) → is_closing (or_new o) ≡ b → is_closing (or_new o) ≡ false
      was_open l n true e = let nay : true ≡ false = sym (k.going_stays e l) ∙ n in absurd (cc nay)
      was_open l n false e = e

      grown : is_live o ≡ true → text ≡ take MAX_BITS past.got → text_with text come ≡ take MAX_BITS now.got
      grown a e = ap (λ (xs : List Bool). text_with xs come) e ∙ sym (take_with past.got come) ∙ ap (take MAX_BITS) (sym (k.gets a))

      nothing : is_live o ≡ false → is_live after ≡ true → take MAX_BITS now.got ≡ []
      nothing a l = ap (take MAX_BITS) (k.none_got a l) ∙ none_taken MAX_BITS

      until : is_live after ≡ true → is_closing (or_new after) ≡ false → (b : Bool) → is_live o ≡ b → then_text ≡ take MAX_BITS now.got
      until l n true a = let w = was_open l n (is_closing (or_new o)) refl in tells a l w ∙ grown a (g.is a w)
      until l n false a = anew a l ∙ sym (nothing a l)

      from : is_live after ≡ true → (b : Bool) → is_live o ≡ b → (c : Bool) → is_closing (or_new o) ≡ c → IsPrefix (take MAX_BITS now.got) then_text
      from l false a c w = begins_self (take MAX_BITS now.got) then_text (anew a l ∙ sym (nothing a l))
      from l true a false w = begins_self (take MAX_BITS now.got) then_text (tells a l w ∙ grown a (g.is a w))
      from l true a true w =
          let same : now.got ≡ past.got = k.gets a ∙ ap (λ (xs : List Bool). past.got ++ xs) (k.going_gets w) ∙ append-nil past.got in
          subst (λ (xs : List Bool). IsPrefix (take MAX_BITS xs) then_text) (sym same) (begins_then (take MAX_BITS past.got) text then_text (g.begins a) (stays a l))

-- ---- a sender

pub record GivenSo (o : Option Endpoint) (past : PairHistory) (text : List Bool) : Type 0 where
  pub sent : List Bool
  pub rest : List Bool
  pub is : past.given ≡ sent ++ rest
  pub told : text ≡ take MAX_BITS sent
  pub waits : is_closing (or_new o) ≡ false → rest ≡ (or_new o).stored

abbrev pub Given : Option Endpoint → PairHistory → List Bool → Type 0
Given o past text = is_live o ≡ true → GivenSo o past text

module _ (q : Pair) (o after : Option Endpoint) (past now : PairHistory) (given come gone : List Bool) (asked : Bool) (k : EndLives q o after past now given come gone asked) (text then_text : List Bool) where
  -- sent text is reported; an end does not close by sending it
  pub given_step : sends q ≡ true → (gone ≡ []) ⊎ (is_closing (or_new after) ≡ is_closing (or_new o)) → (is_live o ≡ true → is_live after ≡ true → then_text ≡ text_with text gone) → (is_live o ≡ false → is_live after ≡ true → then_text ≡ [])
      → Given o past text → Given after now then_text
  given_step s steady tells anew g l = go (is_live o) refl
    where
      open_after : is_live o ≡ true → GivenSo o past text → is_closing (or_new o) ≡ false → is_closing (or_new after) ≡ false → GivenSo after now then_text
      open_after a was w n = record {
        sent = was.sent ++ gone;
        rest = (or_new after).stored;
        is =
            k.gives a ∙ ap (λ (xs : List Bool). xs ++ given) (was.is ∙ ap (λ (xs : List Bool). was.sent ++ xs) (was.waits w)) ∙ append_assoc was.sent (or_new o).stored given
            ∙ ap (λ (xs : List Bool). was.sent ++ xs) (k.stores s a l n) ∙ sym (append_assoc was.sent gone (or_new after).stored);
        told = tells a l ∙ ap (λ (xs : List Bool). text_with xs gone) was.told ∙ sym (take_with was.sent gone);
        waits = λ e. refl;
      }

      none_gone : is_live o ≡ true → GivenSo o past text → gone ≡ [] → is_closing (or_new after) ≡ true → GivenSo after now then_text
      none_gone a was e n = record {
        sent = was.sent;
        rest = was.rest ++ given;
        is = k.gives a ∙ ap (λ (xs : List Bool). xs ++ given) was.is ∙ append_assoc was.sent was.rest given;
        told = tells a l ∙ ap (text_with text) e ∙ with_none text ∙ was.told;
        waits = λ f. let nay : true ≡ false = sym n ∙ f in absurd (cc nay);
      }

      by : is_live o ≡ true → GivenSo o past text → (b c : Bool) → is_closing (or_new o) ≡ b → is_closing (or_new after) ≡ c → GivenSo after now then_text
      by a was true c w n = none_gone a was (k.going_sends w) (k.going_stays w l)
      by a was false false w n = open_after a was w n
      by a was false true w n = closes steady
        where
          closes : (gone ≡ []) ⊎ (is_closing (or_new after) ≡ is_closing (or_new o)) → GivenSo after now then_text
          closes (inl e) = none_gone a was e n
          closes (inr e) = let nay : true ≡ false = sym n ∙ e ∙ w in absurd (cc nay)

      go : (b : Bool) → is_live o ≡ b → GivenSo after now then_text
      go true a = by a (g a) (is_closing (or_new o)) (is_closing (or_new after)) refl refl
      go false a = record {
        sent = [];
        rest = [];
        is = k.none_given a l;
        told = anew a l ∙ sym (none_taken MAX_BITS);
        waits = λ e. sym (k.none_stored a l);
      }
