-- The effect of an event on the end of a pair and on its history: the text given, received and sent while
-- the end is live. An end that becomes live asked or was asked, and nothing was given, got or stored.
use Rattle.std.specs.Prelude.{is_some}
use Rattle.std.proofs.Common.{◌≡◌, ℕ, Bool, true, false, if◌then◌else◌, List, [], ◌++◌, Option, None, Some, refl, arith}
use Rattle.std.proofs.lemmas.List.{append-nil, append_assoc, take-append-drop}
use Rattle.ncp_model.specs.declared.pair.Pair.{Pair}
use Rattle.ncp_model.specs.Pairs.{sends}
use Rattle.ncp_model.specs.Endpoint.{Endpoint, or_new, is_live, is_closing}
use Rattle.ncp_model.specs.Texts.{Rfnm, Incomplete, Dead}
use Rattle.ncp_model.specs.Demux.{suits}
use Rattle.ncp_model.specs.EndpointEvents.{EndpointEvent, Outcome, happens}
use Rattle.ncp_proof_endpoint.specs.Histories.{PairHistory, is_outcome_accepted, is_admitted}
use Rattle.ncp_proof_endpoint.specs.Sound.{SoundAt}
use Rattle.ncp_proof_endpoint.proofs.SoundEnds.{one_way}
use Rattle.ncp_proof_machine.specs.Hosts.{past_after}

-- ---- text given, received, and sent

abbrev pub text_given : EndpointEvent → Outcome → List Bool
text_given (EndpointEvent.Gives text) o = if is_outcome_accepted o then text else []
text_given what o = []

abbrev pub text_come : EndpointEvent → Outcome → List Bool
text_come (EndpointEvent.Text_comes head of_size text) o = if is_admitted o then text else []
text_come what o = []

abbrev pub text_gone : Outcome → List Bool
text_gone (Outcome.Sent of_size text) = text
text_gone o = []

-- a request, of its own or of the other
abbrev pub is_request : EndpointEvent → Bool
is_request (EndpointEvent.Asks_to_send of_size with_room own full) = true
is_request (EndpointEvent.Asks_to_receive with_room on own full) = true
is_request (EndpointEvent.Rts_comes on taken by_peer) = true
is_request (EndpointEvent.Str_comes of_size by_peer) = true
is_request what = false

-- ---- before and after

pub record EndLives (q : Pair) (before after : Option Endpoint) (past now : PairHistory) (given come gone : List Bool) (asked : Bool) : Type 0 where
  pub gives : is_live before ≡ true → now.given ≡ past.given ++ given
  pub gets : is_live before ≡ true → now.got ≡ past.got ++ come
  -- a sender: given text is appended to the stored text, and sent from its front
  pub stores : sends q ≡ true → is_live before ≡ true → is_live after ≡ true → is_closing (or_new after) ≡ false → (or_new before).stored ++ given ≡ gone ++ (or_new after).stored
  pub going_stays : is_closing (or_new before) ≡ true → is_live after ≡ true → is_closing (or_new after) ≡ true
  pub left_stays : (or_new before).left ≡ true → is_some after ≡ true → (or_new after).left ≡ true
  pub going_gives : is_closing (or_new before) ≡ true → given ≡ []
  pub going_gets : is_closing (or_new before) ≡ true → come ≡ []
  pub going_sends : is_closing (or_new before) ≡ true → gone ≡ []
  -- it opens
  pub begins : is_live before ≡ false → is_live after ≡ true → asked ≡ true
  pub none_given : is_live before ≡ false → is_live after ≡ true → now.given ≡ []
  pub none_got : is_live before ≡ false → is_live after ≡ true → now.got ≡ []
  pub none_stored : is_live before ≡ false → is_live after ≡ true → (or_new after).stored ≡ []

ruleset on_lists = (append-nil, append_assoc, take-append-drop)

abbrev pub LivesAfter : Pair → EndpointEvent → Option Endpoint → PairHistory → Type 0
LivesAfter q what before past =
    EndLives q before (happens q what before).after past (past_after before what (happens q what before) past) (text_given what (happens q what before).outcome) (text_come what (happens q what before).outcome)
    (text_gone (happens q what before).outcome) (is_request what)

asks_to_send_none : (q : Pair) (of_size : ℕ) (with_room : ℕ) (own : ℕ) (full : Bool) (past : PairHistory) → SoundAt q None → LivesAfter q (EndpointEvent.Asks_to_send of_size with_room own full) None past
asks_to_send_none q of_size with_room own full past s = grind (arith, on_lists)

asks_to_send_some : (q : Pair) (of_size : ℕ) (with_room : ℕ) (own : ℕ) (full : Bool) (e : Endpoint) (past : PairHistory) → SoundAt q (Some e) → LivesAfter q (EndpointEvent.Asks_to_send of_size with_room own full) (Some e) past
asks_to_send_some q of_size with_room own full e past s = go e.asked e.heard refl refl
  where
    go : (a h : Bool) → e.asked ≡ a → e.heard ≡ h → LivesAfter q (EndpointEvent.Asks_to_send of_size with_room own full) (Some e) past
    go true true i j = grind (arith, on_lists)
    go true false i j = grind (arith, on_lists)
    go false true i j = grind (arith, on_lists)
    go false false i j = grind (arith, on_lists)

asks_to_receive_none : (q : Pair) (with_room : ℕ) (on : ℕ) (own : ℕ) (full : Bool) (past : PairHistory) → SoundAt q None → LivesAfter q (EndpointEvent.Asks_to_receive with_room on own full) None past
asks_to_receive_none q with_room on own full past s = grind (arith, on_lists)

asks_to_receive_some : (q : Pair) (with_room : ℕ) (on : ℕ) (own : ℕ) (full : Bool) (e : Endpoint) (past : PairHistory) → SoundAt q (Some e) → LivesAfter q (EndpointEvent.Asks_to_receive with_room on own full) (Some e) past
asks_to_receive_some q with_room on own full e past s = go e.asked e.heard refl refl
  where
    go : (a h : Bool) → e.asked ≡ a → e.heard ≡ h → LivesAfter q (EndpointEvent.Asks_to_receive with_room on own full) (Some e) past
    go true true i j = grind (arith, on_lists)
    go true false i j = grind (arith, on_lists)
    go false true i j = grind (arith, on_lists)
    go false false i j = grind (arith, on_lists)

closes_none : (q : Pair) (full : Bool) (past : PairHistory) → SoundAt q None → LivesAfter q (EndpointEvent.Closes full) None past
closes_none q full past s = grind (arith, on_lists)

closes_some : (q : Pair) (full : Bool) (e : Endpoint) (past : PairHistory) → SoundAt q (Some e) → LivesAfter q (EndpointEvent.Closes full) (Some e) past
closes_some q full e past s = grind (arith, on_lists)

gives_none : (q : Pair) (text : List Bool) (past : PairHistory) → SoundAt q None → LivesAfter q (EndpointEvent.Gives text) None past
gives_none q text past s = grind (arith, on_lists)

gives_some : (q : Pair) (text : List Bool) (e : Endpoint) (past : PairHistory) → SoundAt q (Some e) → LivesAfter q (EndpointEvent.Gives text) (Some e) past
gives_some q text e past s = grind (arith, on_lists)

takes_none : (q : Pair) (bytes : ℕ) (past : PairHistory) → SoundAt q None → LivesAfter q (EndpointEvent.Takes bytes) None past
takes_none q bytes past s = grind (arith, on_lists)

takes_some : (q : Pair) (bytes : ℕ) (e : Endpoint) (past : PairHistory) → SoundAt q (Some e) → LivesAfter q (EndpointEvent.Takes bytes) (Some e) past
takes_some q bytes e past s = grind (arith, on_lists)

allocates_none : (q : Pair) (m : ℕ) (b : ℕ) (full : Bool) (past : PairHistory) → SoundAt q None → LivesAfter q (EndpointEvent.Allocates m b full) None past
allocates_none q m b full past s = grind (arith, on_lists)

allocates_some : (q : Pair) (m : ℕ) (b : ℕ) (full : Bool) (e : Endpoint) (past : PairHistory) → SoundAt q (Some e) → LivesAfter q (EndpointEvent.Allocates m b full) (Some e) past
allocates_some q m b full e past s = grind (arith, on_lists)

calls_back_none : (q : Pair) (m : ℕ) (b : ℕ) (full : Bool) (past : PairHistory) → SoundAt q None → LivesAfter q (EndpointEvent.Calls_back m b full) None past
calls_back_none q m b full past s = grind (arith, on_lists)

calls_back_some : (q : Pair) (m : ℕ) (b : ℕ) (full : Bool) (e : Endpoint) (past : PairHistory) → SoundAt q (Some e) → LivesAfter q (EndpointEvent.Calls_back m b full) (Some e) past
calls_back_some q m b full e past s = grind (arith, on_lists)

interrupts_none : (q : Pair) (full : Bool) (past : PairHistory) → SoundAt q None → LivesAfter q (EndpointEvent.Interrupts full) None past
interrupts_none q full past s = grind (arith, on_lists)

interrupts_some : (q : Pair) (full : Bool) (e : Endpoint) (past : PairHistory) → SoundAt q (Some e) → LivesAfter q (EndpointEvent.Interrupts full) (Some e) past
interrupts_some q full e past s = grind (arith, on_lists)

rts_comes_none : (q : Pair) (on : ℕ) (taken : Bool) (by_peer : ℕ) (past : PairHistory) → SoundAt q None → LivesAfter q (EndpointEvent.Rts_comes on taken by_peer) None past
rts_comes_none q on taken by_peer past s = grind (arith, on_lists)

rts_comes_some : (q : Pair) (on : ℕ) (taken : Bool) (by_peer : ℕ) (e : Endpoint) (past : PairHistory) → SoundAt q (Some e) → LivesAfter q (EndpointEvent.Rts_comes on taken by_peer) (Some e) past
rts_comes_some q on taken by_peer e past s = grind (arith, on_lists)

str_comes_none : (q : Pair) (of_size : ℕ) (by_peer : ℕ) (past : PairHistory) → SoundAt q None → LivesAfter q (EndpointEvent.Str_comes of_size by_peer) None past
str_comes_none q of_size by_peer past s = grind (arith, on_lists)

str_comes_some : (q : Pair) (of_size : ℕ) (by_peer : ℕ) (e : Endpoint) (past : PairHistory) → SoundAt q (Some e) → LivesAfter q (EndpointEvent.Str_comes of_size by_peer) (Some e) past
str_comes_some q of_size by_peer e past s = grind (arith, on_lists)

cls_comes_none : (q : Pair) (past : PairHistory) → SoundAt q None → LivesAfter q EndpointEvent.Cls_comes None past
cls_comes_none q past s = grind (arith, on_lists)

cls_comes_some : (q : Pair) (e : Endpoint) (past : PairHistory) → SoundAt q (Some e) → LivesAfter q EndpointEvent.Cls_comes (Some e) past
cls_comes_some q e past s = grind (arith, on_lists)

all_comes_none : (q : Pair) (on : ℕ) (m : ℕ) (b : ℕ) (past : PairHistory) → SoundAt q None → LivesAfter q (EndpointEvent.All_comes on m b) None past
all_comes_none q on m b past s = grind (arith, on_lists)

all_comes_some : (q : Pair) (on : ℕ) (m : ℕ) (b : ℕ) (e : Endpoint) (past : PairHistory) → SoundAt q (Some e) → LivesAfter q (EndpointEvent.All_comes on m b) (Some e) past
all_comes_some q on m b e past s = grind (arith, on_lists)

gvb_comes_none : (q : Pair) (on : ℕ) (m : ℕ) (b : ℕ) (past : PairHistory) → SoundAt q None → LivesAfter q (EndpointEvent.Gvb_comes on m b) None past
gvb_comes_none q on m b past s = grind (arith, on_lists)

gvb_comes_some : (q : Pair) (on : ℕ) (m : ℕ) (b : ℕ) (e : Endpoint) (past : PairHistory) → SoundAt q (Some e) → LivesAfter q (EndpointEvent.Gvb_comes on m b) (Some e) past
gvb_comes_some q on m b e past s = grind (arith, on_lists)

ret_comes_none : (q : Pair) (on : ℕ) (m : ℕ) (b : ℕ) (past : PairHistory) → SoundAt q None → LivesAfter q (EndpointEvent.Ret_comes on m b) None past
ret_comes_none q on m b past s = grind (arith, on_lists)

ret_comes_some : (q : Pair) (on : ℕ) (m : ℕ) (b : ℕ) (e : Endpoint) (past : PairHistory) → SoundAt q (Some e) → LivesAfter q (EndpointEvent.Ret_comes on m b) (Some e) past
ret_comes_some q on m b e past s = grind (arith, on_lists)

inr_comes_none : (q : Pair) (on : ℕ) (past : PairHistory) → SoundAt q None → LivesAfter q (EndpointEvent.Inr_comes on) None past
inr_comes_none q on past s = grind (arith, on_lists)

inr_comes_some : (q : Pair) (on : ℕ) (e : Endpoint) (past : PairHistory) → SoundAt q (Some e) → LivesAfter q (EndpointEvent.Inr_comes on) (Some e) past
inr_comes_some q on e past s = grind (arith, on_lists)

ins_comes_none : (q : Pair) (on : ℕ) (past : PairHistory) → SoundAt q None → LivesAfter q (EndpointEvent.Ins_comes on) None past
ins_comes_none q on past s = grind (arith, on_lists)

ins_comes_some : (q : Pair) (on : ℕ) (e : Endpoint) (past : PairHistory) → SoundAt q (Some e) → LivesAfter q (EndpointEvent.Ins_comes on) (Some e) past
ins_comes_some q on e past s = grind (arith, on_lists)

text_comes_none : (q : Pair) (head : List Bool) (of_size : ℕ) (text : List Bool) (past : PairHistory) → SoundAt q None → LivesAfter q (EndpointEvent.Text_comes head of_size text) None past
text_comes_none q head of_size text past s = grind (arith, on_lists)

text_comes_some : (q : Pair) (head : List Bool) (of_size : ℕ) (text : List Bool) (e : Endpoint) (past : PairHistory) → sends q ≡ false → SoundAt q (Some e) → LivesAfter q (EndpointEvent.Text_comes head of_size text) (Some e) past
text_comes_some q head of_size text e past r s = grind (arith, on_lists)

text_goes_out_none : (q : Pair) (past : PairHistory) → SoundAt q None → LivesAfter q EndpointEvent.Text_goes_out None past
text_goes_out_none q past s = grind (arith, on_lists)

text_goes_out_some : (q : Pair) (e : Endpoint) (past : PairHistory) → SoundAt q (Some e) → LivesAfter q EndpointEvent.Text_goes_out (Some e) past
text_goes_out_some q e past s = grind (arith, on_lists)

is_answered_none_rfnm : (q : Pair) (past : PairHistory) → SoundAt q None → LivesAfter q (EndpointEvent.Is_answered Rfnm) None past
is_answered_none_rfnm q past s = grind (arith, on_lists)

is_answered_some_rfnm : (q : Pair) (e : Endpoint) (past : PairHistory) → SoundAt q (Some e) → LivesAfter q (EndpointEvent.Is_answered Rfnm) (Some e) past
is_answered_some_rfnm q e past s = grind (arith, on_lists)

is_answered_any_incomplete : (q : Pair) (before : Option Endpoint) (past : PairHistory) → SoundAt q before → LivesAfter q (EndpointEvent.Is_answered Incomplete) before past
is_answered_any_incomplete q before past s = grind (arith, on_lists)

is_answered_any_dead : (q : Pair) (before : Option Endpoint) (past : PairHistory) → SoundAt q before → LivesAfter q (EndpointEvent.Is_answered Dead) before past
is_answered_any_dead q before past s = grind (arith, on_lists)

is_cleared_any : (q : Pair) (before : Option Endpoint) (past : PairHistory) → SoundAt q before → LivesAfter q EndpointEvent.Is_cleared before past
is_cleared_any q before past s = grind (arith, on_lists)

-- of what comes to the right kind of end
pub end_lives : (q : Pair) (what : EndpointEvent) (before : Option Endpoint) (past : PairHistory) → suits q what ≡ true → SoundAt q before → LivesAfter q what before past
end_lives q (EndpointEvent.Asks_to_send of_size with_room own full) None past k s = asks_to_send_none q of_size with_room own full past s
end_lives q (EndpointEvent.Asks_to_send of_size with_room own full) (Some e) past k s = asks_to_send_some q of_size with_room own full e past s
end_lives q (EndpointEvent.Asks_to_receive with_room on own full) None past k s = asks_to_receive_none q with_room on own full past s
end_lives q (EndpointEvent.Asks_to_receive with_room on own full) (Some e) past k s = asks_to_receive_some q with_room on own full e past s
end_lives q (EndpointEvent.Closes full) None past k s = closes_none q full past s
end_lives q (EndpointEvent.Closes full) (Some e) past k s = closes_some q full e past s
end_lives q (EndpointEvent.Gives text) None past k s = gives_none q text past s
end_lives q (EndpointEvent.Gives text) (Some e) past k s = gives_some q text e past s
end_lives q (EndpointEvent.Takes bytes) None past k s = takes_none q bytes past s
end_lives q (EndpointEvent.Takes bytes) (Some e) past k s = takes_some q bytes e past s
end_lives q (EndpointEvent.Allocates m b full) None past k s = allocates_none q m b full past s
end_lives q (EndpointEvent.Allocates m b full) (Some e) past k s = allocates_some q m b full e past s
end_lives q (EndpointEvent.Calls_back m b full) None past k s = calls_back_none q m b full past s
end_lives q (EndpointEvent.Calls_back m b full) (Some e) past k s = calls_back_some q m b full e past s
end_lives q (EndpointEvent.Interrupts full) None past k s = interrupts_none q full past s
end_lives q (EndpointEvent.Interrupts full) (Some e) past k s = interrupts_some q full e past s
end_lives q (EndpointEvent.Rts_comes on taken by_peer) None past k s = rts_comes_none q on taken by_peer past s
end_lives q (EndpointEvent.Rts_comes on taken by_peer) (Some e) past k s = rts_comes_some q on taken by_peer e past s
end_lives q (EndpointEvent.Str_comes of_size by_peer) None past k s = str_comes_none q of_size by_peer past s
end_lives q (EndpointEvent.Str_comes of_size by_peer) (Some e) past k s = str_comes_some q of_size by_peer e past s
end_lives q EndpointEvent.Cls_comes None past k s = cls_comes_none q past s
end_lives q EndpointEvent.Cls_comes (Some e) past k s = cls_comes_some q e past s
end_lives q (EndpointEvent.All_comes on m b) None past k s = all_comes_none q on m b past s
end_lives q (EndpointEvent.All_comes on m b) (Some e) past k s = all_comes_some q on m b e past s
end_lives q (EndpointEvent.Gvb_comes on m b) None past k s = gvb_comes_none q on m b past s
end_lives q (EndpointEvent.Gvb_comes on m b) (Some e) past k s = gvb_comes_some q on m b e past s
end_lives q (EndpointEvent.Ret_comes on m b) None past k s = ret_comes_none q on m b past s
end_lives q (EndpointEvent.Ret_comes on m b) (Some e) past k s = ret_comes_some q on m b e past s
end_lives q (EndpointEvent.Inr_comes on) None past k s = inr_comes_none q on past s
end_lives q (EndpointEvent.Inr_comes on) (Some e) past k s = inr_comes_some q on e past s
end_lives q (EndpointEvent.Ins_comes on) None past k s = ins_comes_none q on past s
end_lives q (EndpointEvent.Ins_comes on) (Some e) past k s = ins_comes_some q on e past s
end_lives q (EndpointEvent.Text_comes head of_size text) None past k s = text_comes_none q head of_size text past s
end_lives q (EndpointEvent.Text_comes head of_size text) (Some e) past k s = text_comes_some q head of_size text e past (one_way q k) s
end_lives q EndpointEvent.Text_goes_out None past k s = text_goes_out_none q past s
end_lives q EndpointEvent.Text_goes_out (Some e) past k s = text_goes_out_some q e past s
end_lives q (EndpointEvent.Is_answered Rfnm) None past k s = is_answered_none_rfnm q past s
end_lives q (EndpointEvent.Is_answered Rfnm) (Some e) past k s = is_answered_some_rfnm q e past s
end_lives q (EndpointEvent.Is_answered Incomplete) before past k s = is_answered_any_incomplete q before past s
end_lives q (EndpointEvent.Is_answered Dead) before past k s = is_answered_any_dead q before past s
end_lives q EndpointEvent.Is_cleared before past k s = is_cleared_any q before past s
