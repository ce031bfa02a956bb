-- The links of a host as observed at its interface: for each, what became of the last message sent on it
-- (BBN 1822, section 3: a host sends no further message on a link before the answer to the last one).
use Rattle.std.specs.Prelude.{ℕ, ◌==◌, not, ◌&&◌, ◌||◌, Bool, true, false, List, [], ◌∷◌, ◌++◌, length, get_or, slice_set, slice_range, nat_lt, Option, Some, None, is_some, option_map, if◌then◌else◌}
use Rattle.std.specs.List.{position, remove}
use Rattle.std.specs.Cmp.Lexicographic.{pointwise}
use Rattle.std.proofs.Math.Bool.{beq}
use Rattle.ncp_interface.specs.declared.sent_message.LinkState.{LinkState}
use Rattle.ncp_interface.specs.declared.sent_message.LinkState.TheVariants.{Unknown, Empty, Out, Came, Again}
use Rattle.ncp_interface.specs.declared.doubt.Doubt.{Doubt}
use Rattle.ncp_interface.specs.declared.sent_message.SentMessage.{SentMessage}
use Rattle.ncp_interface.specs.declared.sent_messages.TheConstants.{MAX_KEPT}

abbrev pub is_slot_empty : LinkState → Bool
is_slot_empty Unknown = false
is_slot_empty Empty = true
is_slot_empty Out = false
is_slot_empty Came = false
is_slot_empty Again = false

abbrev pub is_unknown : LinkState → Bool
is_unknown Unknown = true
is_unknown Empty = false
is_unknown Out = false
is_unknown Came = false
is_unknown Again = false

-- a message is outstanding
abbrev pub is_slot_out : LinkState → Bool
is_slot_out Unknown = false
is_slot_out Empty = false
is_slot_out Out = true
is_slot_out Came = true
is_slot_out Again = false

-- a message is to be sent again
abbrev pub is_slot_again : LinkState → Bool
is_slot_again Unknown = false
is_slot_again Empty = false
is_slot_again Out = false
is_slot_again Came = false
is_slot_again Again = true

-- a message sent on this link from one host to the other
abbrev pub is_of : ℕ → ℕ → ℕ → SentMessage → Bool
is_of from to link kept = kept.from == from && kept.to == to && kept.link == link

-- a message that makes a data link busy: it is outstanding or to be sent again
abbrev pub makes_link_busy : ℕ → ℕ → SentMessage → Bool
makes_link_busy from to kept = kept.from == from && kept.to == to && not (kept.link == 0) && not (is_slot_empty kept.slot)

-- a message that makes this link busy
abbrev pub is_busy_on : ℕ → ℕ → ℕ → SentMessage → Bool
is_busy_on at peer link kept = is_of at peer link kept && not (is_slot_empty kept.slot)

abbrev pub same_bits : List Bool → List Bool → Bool
same_bits = pointwise beq

-- equal apart from bits 9 to 16, in which the subnet replaces the destination host by the source
abbrev pub same_but_host : List Bool → List Bool → Bool
same_but_host one other =
    if nat_lt (length one) 16 || nat_lt (length other) 16 then false
    else same_bits (slice_range one 0 8) (slice_range other 0 8) && same_bits (slice_range one 16 (length one)) (slice_range other 16 (length other))

abbrev pub position_of : ℕ → ℕ → ℕ → List SentMessage → Option ℕ
position_of from to link kept = position (is_of from to link) kept

abbrev pub nothing_kept : SentMessage
nothing_kept = record { from = 0; to = 0; link = 0; slot = Unknown; doubt = Doubt.None; message = [] }

abbrev pub kept_at : List SentMessage → ℕ → SentMessage
kept_at kept place = get_or kept place nothing_kept

-- the state of a link: empty or unknown if no message is stored
abbrev pub kept_slot : Bool → List SentMessage → Option ℕ → LinkState
kept_slot known kept None = if known then Empty else Unknown
kept_slot known kept (Some place) = (kept_at kept place).slot

-- whether the message of a link has these bits
abbrev pub same_at : List SentMessage → Option ℕ → List Bool → Bool
same_at kept None bits = false
same_at kept (Some place) bits = same_bits (kept_at kept place).message bits

abbrev pub same_but_host_at : List SentMessage → Option ℕ → List Bool → Bool
same_but_host_at kept None bits = false
same_but_host_at kept (Some place) bits = same_but_host (kept_at kept place).message bits

-- a message is the undelivered one, sent again
abbrev pub is_repeat : List SentMessage → Option ℕ → List Bool → Bool
is_repeat kept None bits = false
is_repeat kept (Some place) bits = is_slot_again (kept_at kept place).slot && same_bits (kept_at kept place).message bits

-- the data link of the first message that makes one busy
abbrev pub busy_link_at : List SentMessage → Option ℕ → Option ℕ
busy_link_at kept place = option_map (λ p. (kept_at kept p).link) place

abbrev pub busy_link : ℕ → ℕ → List SentMessage → Option ℕ
busy_link from to kept = busy_link_at kept (position (makes_link_busy from to) kept)

-- ---- how they change

abbrev pub gone_out : ℕ → ℕ → ℕ → List Bool → SentMessage
gone_out from to link bits = record { from = from; to = to; link = link; slot = Out; doubt = Doubt.None; message = bits }

-- there is room for a message: it replaces its link's last one, or one more fits
abbrev pub has_room : List SentMessage → Option ℕ → Bool
has_room kept place = is_some place || nat_lt (length kept) MAX_KEPT

-- with a message that is sent, if there is room
abbrev pub with_out : List SentMessage → Option ℕ → SentMessage → List SentMessage
with_out kept (Some place) new = slice_set kept place new
with_out kept None new = if nat_lt (length kept) MAX_KEPT then kept ++ new ∷ [] else kept

-- with another state for the message at an index
abbrev pub with_kept_slot : List SentMessage → ℕ → LinkState → List SentMessage
with_kept_slot kept place slot = slice_set kept place (record (kept_at kept place) { slot = slot })

-- the message at an index was delivered: it is removed if a link without a stored message is known to be
-- empty
abbrev pub with_answered : Bool → List SentMessage → ℕ → List SentMessage
with_answered known kept place = if known then remove kept place else with_kept_slot kept place Empty

-- after an answer to the message at an index: a Ready For Next Message (type 5) reports that it was
-- delivered
abbrev pub with_answer : Bool → ℕ → List SentMessage → Option ℕ → List SentMessage
with_answer known kind kept None = kept
with_answer known kind kept (Some place) =
    if not (is_slot_out (kept_at kept place).slot) then kept
    else if kind == 5 then with_answered known kept place
    else with_kept_slot kept place Again

-- after a reset of the interface of host `at`, each message of it may be sent again
abbrev pub after_repeat_at : ℕ → SentMessage → SentMessage
after_repeat_at at kept = if kept.from == at then record kept { slot = Again } else kept
