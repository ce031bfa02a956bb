-- The messages that are out, as they are kept by what judges and by what follows: the same, in the same order; so a message is
-- fresh to the one where it is no repeat to the other. What follows does not mark those that came.
use Rattle.std.proofs.Common.{◌≡◌, ℕ, ◌==◌, Bool, true, false, not, ◌&&◌, if◌then◌else◌, List, ◌∷◌, [], ◌++◌, length, Option, None, Some, refl, sym, ap, ◌∙◌, subst}
use Rattle.std.specs.Prelude.{nat_lt}
use Rattle.std.proofs.lemmas.List.Quantifiers.{position-Some}
use Rattle.ncp_interface.specs.declared.sent_message.SentMessage.{SentMessage}
use Rattle.ncp_interface.specs.declared.sent_message.LinkState.{LinkState}
use Rattle.ncp_interface.specs.declared.sent_messages.TheConstants.{MAX_KEPT}
use Rattle.ncp_interface.specs.Slots.{is_of, same_bits, nothing_kept, kept_at, position_of, kept_slot, same_at, is_repeat, gone_out, has_room, with_out, with_kept_slot, with_answered, with_answer, is_slot_out, is_slot_again}
use Rattle.ncp_monitor.specs.Judged.{out_rule, is_fresh, with_coming}
use Rattle.ncp_proof_follow_tables.proofs.Besides.{Besides, besides_length, besides_after, besides_at, besides_set, besides_here, besides_remove, besides_position}

-- a message is there
abbrev pub is_there : LinkState → Bool
is_there LinkState.Unknown = false
is_there LinkState.Empty = false
is_there LinkState.Out = true
is_there LinkState.Came = true
is_there LinkState.Again = true

pub record SameOut (k o : SentMessage) : Type 0 where
  pub from : o.from ≡ k.from
  pub to : o.to ≡ k.to
  pub on : o.link ≡ k.link
  pub out : is_slot_out o.slot ≡ is_slot_out k.slot
  pub again : is_slot_again o.slot ≡ is_slot_again k.slot
  pub there : is_there k.slot ≡ true
  pub message : o.message ≡ k.message

abbrev pub SameOuts : List SentMessage → List SentMessage → Type 0
SameOuts = Besides SameOut

on_is : (at peer link : ℕ) (k o : SentMessage) → SameOut k o → is_of at peer link o ≡ is_of at peer link k
on_is at peer link k o s =
    ap (λ (x : ℕ). x == at && o.to == peer && o.link == link) s.from
    ∙ ap (λ (x : ℕ). k.from == at && x == peer && o.link == link) s.to
    ∙ ap (λ (x : ℕ). k.from == at && k.to == peer && x == link) s.on

pub out_place : (at peer link : ℕ) (ks os : List SentMessage) → SameOuts ks os → position_of at peer link os ≡ position_of at peer link ks
out_place at peer link = besides_position SameOut (is_of at peer link) (is_of at peer link) (on_is at peer link)

out_there : (at peer link p : ℕ) (ks os : List SentMessage) → SameOuts ks os → position_of at peer link ks ≡ Some p → SameOut (kept_at ks p) (kept_at os p)
out_there at peer link p ks os s e = besides_at SameOut ks os p nothing_kept nothing_kept (position-Some (is_of at peer link) ks p nothing_kept e).0 s

-- ---- a message is sent

gone_same : (at peer link : ℕ) (bits : List Bool) → SameOut (gone_out at peer link bits) (gone_out at peer link bits)
gone_same at peer link bits = record { from = refl; to = refl; on = refl; out = refl; again = refl; there = refl; message = refl }

pub sent_same : (at peer link : ℕ) (bits : List Bool) (ks os : List SentMessage) → SameOuts ks os → has_room ks (position_of at peer link ks) ≡ true
    → SameOuts (with_out ks (position_of at peer link ks) (gone_out at peer link bits)) (with_out os (position_of at peer link os) (gone_out at peer link bits))
sent_same at peer link bits ks os s room =
    subst (λ (o : Option ℕ). SameOuts (with_out ks (position_of at peer link ks) new) (with_out os o new)) (sym (out_place at peer link ks os s)) (go (position_of at peer link ks) room)
  where
    new : SentMessage
    new = gone_out at peer link bits

    go : (o : Option ℕ) → has_room ks o ≡ true → SameOuts (with_out ks o new) (with_out os o new)
    go (Some p) e = besides_set SameOut ks os p new new (gone_same at peer link bits) s
    go None e =
        let free : nat_lt (length os) MAX_KEPT ≡ true = ap (λ (n : ℕ). nat_lt n MAX_KEPT) (besides_length SameOut ks os s) ∙ e in
        subst (λ (x : Bool). SameOuts (with_out ks None new) (if x then os ++ new ∷ [] else os)) (sym free)
        (subst (λ (x : Bool). SameOuts (if x then ks ++ new ∷ [] else ks) (os ++ new ∷ [])) (sym e) (besides_after SameOut ks os new new (gone_same at peer link bits) s))

-- where no rule is broken by it, it is fresh unless it is a repeat
pub fresh_is : (at peer link : ℕ) (bits : List Bool) (ks os : List SentMessage) → SameOuts ks os
    → out_rule (kept_slot true ks (position_of at peer link ks)) (same_at ks (position_of at peer link ks) bits) link ≡ None
    → is_repeat os (position_of at peer link os) bits ≡ not (is_fresh (kept_slot true ks (position_of at peer link ks)) (same_at ks (position_of at peer link ks) bits))
fresh_is at peer link bits ks os s e = ap (λ (o : Option ℕ). is_repeat os o bits) (out_place at peer link ks os s) ∙ go (position_of at peer link ks) refl e
  where
    go : (o : Option ℕ) → position_of at peer link ks ≡ o → out_rule (kept_slot true ks o) (same_at ks o bits) link ≡ None → is_repeat os o bits ≡ not (is_fresh (kept_slot true ks o) (same_at ks o bits))
    go None f e = refl
    go (Some p) f e =
        let one = out_there at peer link p ks os s f in
        ap (λ (x : Bool). x && same_bits (kept_at os p).message bits) one.again ∙ ap (λ (xs : List Bool). is_slot_again (kept_at ks p).slot && same_bits xs bits) one.message
        ∙ by (kept_at ks p).slot (same_bits (kept_at ks p).message bits) one.there e
      where
        by : (s : LinkState) (x : Bool) → is_there s ≡ true → out_rule s x link ≡ None → (is_slot_again s && x) ≡ not (is_fresh s x)
        by LinkState.Unknown x t e = absurd (cc t)
        by LinkState.Empty x t e = absurd (cc t)
        by LinkState.Out x t e = absurd (cc e)
        by LinkState.Came x t e = absurd (cc e)
        by LinkState.Again true t e = refl
        by LinkState.Again false t e = absurd (cc e)

-- ---- it comes, or is answered

pub come_same : (at peer link : ℕ) (ks os : List SentMessage) → SameOuts ks os → SameOuts (with_coming ks (position_of at peer link ks)) os
come_same at peer link ks os s = go (position_of at peer link ks) refl
  where
    go : (o : Option ℕ) → position_of at peer link ks ≡ o → SameOuts (with_coming ks o) os
    go None e = s
    go (Some p) e = by (is_slot_out (kept_at ks p).slot) refl
      where
        one : SameOut (kept_at ks p) (kept_at os p)
        one = out_there at peer link p ks os s e

        still : (x : LinkState) → is_slot_out x ≡ true → is_slot_again x ≡ false
        still LinkState.Unknown e = absurd (cc e)
        still LinkState.Empty e = absurd (cc e)
        still LinkState.Out e = refl
        still LinkState.Came e = refl
        still LinkState.Again e = absurd (cc e)

        by : (x : Bool) → is_slot_out (kept_at ks p).slot ≡ x → SameOuts (if x then with_kept_slot ks p LinkState.Came else ks) os
        by true f =
            besides_here SameOut ks os p (record (kept_at ks p) { slot = LinkState.Came }) nothing_kept
            (record { from = one.from; to = one.to; on = one.on; out = one.out ∙ f; again = one.again ∙ still (kept_at ks p).slot f; there = refl; message = one.message }) s
        by false f = s

pub answer_same : (at peer link kind : ℕ) (ks os : List SentMessage) → SameOuts ks os
    → SameOuts (with_answer true kind ks (position_of at peer link ks)) (with_answer true kind os (position_of at peer link os))
answer_same at peer link kind ks os s =
    subst (λ (o : Option ℕ). SameOuts (with_answer true kind ks (position_of at peer link ks)) (with_answer true kind os o)) (sym (out_place at peer link ks os s)) (go (position_of at peer link ks) refl)
  where
    go : (o : Option ℕ) → position_of at peer link ks ≡ o → SameOuts (with_answer true kind ks o) (with_answer true kind os o)
    go None e = s
    go (Some p) e =
        subst (λ (x : Bool). SameOuts (with_answer true kind ks (Some p)) (if not x then os else answered kind os)) (sym one.out) (by (is_slot_out (kept_at ks p).slot))
      where
        one : SameOut (kept_at ks p) (kept_at os p)
        one = out_there at peer link p ks os s e

        answered : ℕ → List SentMessage → List SentMessage
        answered kind kept = if kind == 5 then with_answered true kept p else with_kept_slot kept p LinkState.Again

        at_kind : (x : Bool) → SameOuts (if x then with_answered true ks p else with_kept_slot ks p LinkState.Again) (if x then with_answered true os p else with_kept_slot os p LinkState.Again)
        at_kind true = besides_remove SameOut ks os p s
        at_kind false =
            besides_set SameOut ks os p (record (kept_at ks p) { slot = LinkState.Again }) (record (kept_at os p) { slot = LinkState.Again })
            (record { from = one.from; to = one.to; on = one.on; out = refl; again = refl; there = refl; message = one.message }) s

        by : (x : Bool) → SameOuts (if not x then ks else answered kind ks) (if not x then os else answered kind os)
        by true = at_kind (kind == 5)
        by false = s
