-- What was given since the last ask that has a give, of each end that sends.
use Rattle.std.proofs.Common.{◌≡◌, refl, true, false, ◌||◌, if◌then◌else◌, List, [], ◌++◌, Bool, Option, None, Some, subst, arith}
use Rattle.ncp_model.specs.declared.pair.Pair.{Pair}
use Rattle.ncp_model.specs.Pairs.{sends, receives}
use Rattle.ncp_model.specs.Endpoint.{Endpoint}
use Rattle.ncp_model.specs.Texts
use Rattle.ncp_model.specs.EndpointEvents.{EndpointEvent, Outcome, happens}
use Rattle.ncp_model.specs.Demux.{suits}
use Rattle.ncp_proof_endpoint.specs.Histories.{PairHistory, no_past, adds, opens, is_outcome_accepted, reopened}
use Rattle.ncp_proof_endpoint.specs.Sound.{SoundAt}
use Rattle.ncp_proof_statement.specs.Since.{Gifts, gifts_then, GiftsSince, Givings, givings_then, with_none, GivenSince}
use Rattle.ncp_proof_statement.proofs.Taking.{gifts-kept}

gives-if : (b : Bool) (text : List Bool) (opened z : Bool) (g : Givings)
    → (w : Bool) × ((if b then (let x : Gifts = record { given = (if g.anew then [] else g.given) ++ text; anew = false; none = false } in x) else with_none z g) ≡ with_none w (if b then record { given = (if g.anew then [] else g.given) ++ text; anew = false } else g))
gives-if true text opened z g = (false, refl)
gives-if false text opened z g = (z, refl)

-- the other tally is this one, with some mark
same-tally : (what : EndpointEvent) (o : Outcome) (opened z : Bool) (g : Givings) → (w : Bool) × (gifts_then what o opened (with_none z g) ≡ with_none w (givings_then what o g))
same-tally (EndpointEvent.Asks_to_send of_size with_room own full) o opened z g = (z || opened, refl)
same-tally (EndpointEvent.Gives text) o opened z g = gives-if (is_outcome_accepted o) text opened z g
same-tally what o opened z g = (z || opened, refl)

pub given-kept : (pair : Pair) (what : EndpointEvent) (before : Option Endpoint) (past : PairHistory) (g : Givings) → receives pair ≡ false → suits pair what ≡ true → SoundAt pair before → GivenSince before past g
    → GivenSince (happens pair what before).after (adds what (happens pair what before).outcome (if opens before (happens pair what before).after then reopened past else past)) (givings_then what (happens pair what before).outcome g)
given-kept pair what before past g n l s k =
    let o = (happens pair what before).outcome in
    let t = same-tally what o (opens before (happens pair what before).after) k.0 g in (
      t.0,
      subst (λ (x : Gifts). GiftsSince (happens pair what before).after (adds what o (if opens before (happens pair what before).after then reopened past else past)) x) t.1
          (gifts-kept pair what before past (with_none k.0 g) n l s k.1),
    )

pub other_way : (pair : Pair) → sends pair ≡ true → receives pair ≡ false
other_way pair h = grind arith

-- what goes out, and what was taken, leave what was given
goes-at : (pair : Pair) (before : Option Endpoint) (past : PairHistory) (g : Gifts) → SoundAt pair before → GiftsSince before past g → GiftsSince (happens pair EndpointEvent.Text_goes_out before).after past g
goes-at pair None past g s k = grind (arith)
goes-at pair (Some e) past g s k = grind (arith)

freed-at : (pair : Pair) (before : Option Endpoint) (past : PairHistory) (g : Gifts) → SoundAt pair before → GiftsSince before past g → GiftsSince (happens pair (EndpointEvent.Is_answered Texts.Rfnm) before).after past g
freed-at pair None past g s k = grind (arith)
freed-at pair (Some e) past g s k = grind (arith)

pub given-goes : (pair : Pair) (before : Option Endpoint) (past : PairHistory) (g : Givings) → SoundAt pair before → GivenSince before past g → GivenSince (happens pair EndpointEvent.Text_goes_out before).after past g
given-goes pair before past g s k = (k.0, goes-at pair before past (with_none k.0 g) s k.1)

pub given-freed : (pair : Pair) (before : Option Endpoint) (past : PairHistory) (g : Givings) → SoundAt pair before → GivenSince before past g → GivenSince (happens pair (EndpointEvent.Is_answered Texts.Rfnm) before).after past g
given-freed pair before past g s k = (k.0, freed-at pair before past (with_none k.0 g) s k.1)
