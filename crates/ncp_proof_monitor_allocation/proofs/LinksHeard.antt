-- What a command that names a link does at the end to which the link leads, and what a text does there: where it is refused, and
-- how, and that both sides count the same of it.
use Rattle.std.proofs.Common.{◌≡◌, ◌≤◌, ℕ, ◌+◌, ◌==◌, Bool, true, false, not, ◌&&◌, ◌||◌, if◌then◌else◌, List, [], ◌++◌, length, Option, None, Some, is_some, refl, sym, ap, ◌∙◌, arith}
use Rattle.std.specs.Prelude.{◌-◌, ◌^◌, min, nat_lt}
use Rattle.std.specs.Option.{option_to_list}
use Rattle.ncp_leader.specs.Message.{Message}
use Rattle.ncp_wire.specs.declared.command.Command.{Command}
use Rattle.ncp_wire.specs.declared.command.Command.TheVariants.{All, Ret}
use Rattle.ncp_model.specs.declared.pair.Pair.{Pair}
use Rattle.ncp_model.specs.declared.outcomes.Heard.{Heard}
use Rattle.ncp_model.specs.declared.outcomes.Heard.TheVariants.{Nothing, Reply, Late}
use Rattle.ncp_model.specs.declared.outcomes.Took.{Took}
use Rattle.ncp_model.specs.declared.outcomes.Took.TheVariants.{Admitted, NotOpen, WrongSize, Over}
use Rattle.ncp_model.specs.Amounts.{back}
use Rattle.ncp_model.specs.Endpoint.{Endpoint, is_closing}
use Rattle.ncp_model.specs.Effect.{Effect, Stays, Becomes, wrong_parameters, not_connected}
use Rattle.ncp_model.specs.Commands.{errs, at_open, all_at, gvb_at, ret_at}
use Rattle.ncp_model.specs.Texts.{text_at, hear_text}
use Rattle.ncp_proof_endpoint.specs.Sound.{SoundEnd}
use Rattle.ncp_monitor.specs.declared.finding.Rule.{Rule}
use Rattle.ncp_monitor.specs.declared.conn_state.ConnState.{ConnState}
use Rattle.ncp_monitor.specs.Allocation.{part_returned, kept_sum, limit_rule, granted_here}
use Rattle.ncp_monitor.specs.Texts.{open_text_rules, size_rule, over_text_rule, uses_too_much}

-- ---- an end that is there: on its way out, not opened, or open

pub late : (c : Command) (act : Endpoint → Effect Heard) (e : Endpoint) → is_closing e ≡ true → at_open c act (Some e) ≡ Stays Late
late c act e g = ap (λ (x : Bool). if x then Stays Late else if not e.opened then errs not_connected c else act e) g

pub unopened : (c : Command) (act : Endpoint → Effect Heard) (e : Endpoint) → is_closing e ≡ false → e.opened ≡ false → at_open c act (Some e) ≡ errs not_connected c
unopened c act e g o =
    ap (λ (x : Bool). if x then Stays Late else if not e.opened then errs not_connected c else act e) g
    ∙ ap (λ (x : Bool). if not x then errs not_connected c else act e) o

pub at_it : (c : Command) (act : Endpoint → Effect Heard) (e : Endpoint) → is_closing e ≡ false → e.opened ≡ true → at_open c act (Some e) ≡ act e
at_it c act e g o =
    ap (λ (x : Bool). if x then Stays Late else if not e.opened then errs not_connected c else act e) g
    ∙ ap (λ (x : Bool). if not x then errs not_connected c else act e) o

-- by its marks

pub asked_opened : (pair : Pair) (e : Endpoint) → SoundEnd pair e → e.asked ≡ true → e.heard ≡ true → is_closing e ≡ false → e.opened ≡ true
asked_opened pair e sound a h g = sound.opens (rw (a, h, g) refl)

pub unasked_unopened : (pair : Pair) (e : Endpoint) → SoundEnd pair e → (e.asked && e.heard) ≡ false → e.opened ≡ false
unasked_unopened pair e sound k = go e.opened refl
  where
    go : (x : Bool) → e.opened ≡ x → e.opened ≡ false
    go false o = o
    go true o = let both : (e.asked && e.heard) ≡ true = rw (sound.asked o, sound.heard o) refl in absurd (cc (both, k))

-- where the CLS of the other came it is on its way out
pub closed_going : (pair : Pair) (e : Endpoint) → SoundEnd pair e → e.cls ≡ true → is_closing e ≡ true
closed_going pair e sound c = ap (λ (x : Bool). x || e.left) (sound.shut c)

-- ---- ALL

-- both take it, or neither, and then a rule is broken
pub data AllHeard (on a b : ℕ) (e : Endpoint) (conn : ConnState) : Type 0 where
  AllRefused : all_at on a b e ≡ errs wrong_parameters (All on a b) → granted_here a b conn ≡ conn
      → is_some (limit_rule (All on a b) (kept_sum conn.messages a) (kept_sum conn.bits b)) ≡ true → AllHeard on a b e conn
  AllTaken : all_at on a b e ≡ Becomes (record e { messages = e.messages + a; bits = e.bits + b }) Nothing
      → granted_here a b conn ≡ record conn { messages = conn.messages + a; bits = conn.bits + b } → AllHeard on a b e conn

over_largest : (messages bits : ℕ) → (nat_lt 65535 messages || nat_lt (2 ^ 32 - 1) bits) ≡ true → (nat_lt 65535 (min messages (2 ^ 32 - 1)) || nat_lt 65536 (min bits (2 ^ 32 - 1))) ≡ true
over_largest messages bits k = grind arith

pub all_heard : (on a b : ℕ) (e : Endpoint) (conn : ConnState) → conn.messages ≡ e.messages → conn.bits ≡ e.bits → AllHeard on a b e conn
all_heard on a b e conn m k = go (nat_lt 65535 (conn.messages + a) || nat_lt (2 ^ 32 - 1) (conn.bits + b)) refl
  where
    acts : Bool → Effect Heard
    acts x = if x then errs wrong_parameters (All on a b) else Becomes (record e { messages = e.messages + a; bits = e.bits + b }) Nothing

    act : all_at on a b e ≡ acts (nat_lt 65535 (conn.messages + a) || nat_lt (2 ^ 32 - 1) (conn.bits + b))
    act = ap (λ (x : ℕ). acts (nat_lt 65535 (x + a) || nat_lt (2 ^ 32 - 1) (e.bits + b))) (sym m) ∙ ap (λ (x : ℕ). acts (nat_lt 65535 (conn.messages + a) || nat_lt (2 ^ 32 - 1) (x + b))) (sym k)

    conns : Bool → ConnState
    conns x = if x then conn else record conn { messages = conn.messages + a; bits = conn.bits + b }

    rules : Bool → Bool
    rules x = is_some (if x then Some (Rule.OverLimit (All on a b) (kept_sum conn.messages a) (kept_sum conn.bits b)) else None)

    go : (x : Bool) → (nat_lt 65535 (conn.messages + a) || nat_lt (2 ^ 32 - 1) (conn.bits + b)) ≡ x → AllHeard on a b e conn
    go true h = AllRefused (act ∙ ap acts h) (ap conns h) (ap rules (over_largest (conn.messages + a) (conn.bits + b) h))
    go false h = AllTaken (act ∙ ap acts h) (ap conns h)

-- ---- GVB

pub back_is_part : (number fraction : ℕ) → back number fraction ≡ part_returned number fraction
unfolding back
back_is_part number fraction = refl

-- what the host takes off, and gives back, is what is due of it
pub gvb_heard : (on of_messages of_bits : ℕ) (e : Endpoint) (conn : ConnState) → conn.messages ≡ e.messages → conn.bits ≡ e.bits
    → gvb_at on of_messages of_bits e ≡ Becomes (record e { messages = conn.messages - part_returned conn.messages of_messages; bits = conn.bits - part_returned conn.bits of_bits })
    (Reply (Ret on (part_returned conn.messages of_messages) (part_returned conn.bits of_bits)))
gvb_heard on of_messages of_bits e conn m k =
    ap (λ (x : ℕ). acts e.messages e.bits x (back e.bits of_bits)) (back_is_part e.messages of_messages)
    ∙ ap (λ (x : ℕ). acts e.messages e.bits (part_returned e.messages of_messages) x) (back_is_part e.bits of_bits)
    ∙ ap (λ (x : ℕ). acts x e.bits (part_returned x of_messages) (part_returned e.bits of_bits)) (sym m)
    ∙ ap (λ (x : ℕ). acts conn.messages x (part_returned conn.messages of_messages) (part_returned x of_bits)) (sym k)
  where
    acts : ℕ → ℕ → ℕ → ℕ → Effect Heard
    acts messages bits some_messages some_bits = Becomes (record e { messages = messages - some_messages; bits = bits - some_bits }) (Reply (Ret on some_messages some_bits))

-- ---- RET

-- one that is not over what is seen is not over what is outstanding
pub ret_taken : (on a b : ℕ) (e : Endpoint) → a ≤ e.messages → b ≤ e.bits → ret_at on a b e ≡ Becomes (record e { messages = e.messages - a; bits = e.bits - b; recall = false }) Nothing
ret_taken on a b e m k =
    ap (λ (x : Bool). if x then errs wrong_parameters (Ret on a b) else Becomes (record e { messages = e.messages - a; bits = e.bits - b; recall = false }) Nothing) (within a b e.messages e.bits m k)
  where
    within : (a b c d : ℕ) → a ≤ c → b ≤ d → (nat_lt c a || nat_lt d b) ≡ false
    within a b c d m k = grind arith

-- ---- a text

pub text_late : (size : ℕ) (text : List Bool) (e : Endpoint) → is_closing e ≡ true → hear_text size text (Some e) ≡ Stays Took.Late
text_late size text e g = ap (λ (x : Bool). if x then Stays Took.Late else if not e.opened then Stays NotOpen else text_at size text e) g

pub text_unopened : (size : ℕ) (text : List Bool) (e : Endpoint) → is_closing e ≡ false → e.opened ≡ false → hear_text size text (Some e) ≡ Stays NotOpen
text_unopened size text e g o =
    ap (λ (x : Bool). if x then Stays Took.Late else if not e.opened then Stays NotOpen else text_at size text e) g
    ∙ ap (λ (x : Bool). if not x then Stays NotOpen else text_at size text e) o

pub text_at_it : (size : ℕ) (text : List Bool) (e : Endpoint) → is_closing e ≡ false → e.opened ≡ true → hear_text size text (Some e) ≡ text_at size text e
text_at_it size text e g o =
    ap (λ (x : Bool). if x then Stays Took.Late else if not e.opened then Stays NotOpen else text_at size text e) g
    ∙ ap (λ (x : Bool). if not x then Stays NotOpen else text_at size text e) o

-- one that breaks no rule is taken
module _ (on : ℕ) (message : Message) (conn : ConnState) (e : Endpoint) where
  pub text_taken : open_text_rules on message conn ≡ [] → conn.size ≡ Some e.size → conn.messages ≤ e.messages → conn.bits ≤ e.bits
      → text_at message.size message.text e ≡ Becomes (record e { messages = e.messages - 1; bits = e.bits - length message.text; stored = e.stored ++ message.text }) Admitted
  text_taken none size m k = go (message.size == e.size) (uses_too_much (length message.text) conn) (sym broken ∙ none) refl refl
    where
      acts : Bool → Bool → Effect Took
      acts x y = if not x then Stays WrongSize else if y then Stays Over else Becomes (record e { messages = e.messages - 1; bits = e.bits - length message.text; stored = e.stored ++ message.text }) Admitted

      rules : Bool → Bool → List Rule
      rules x y =
          option_to_list (if x then None else Some (Rule.TextSize on message.size e.size))
          ++ option_to_list (if y then Some (Rule.TextOver on conn.messages (length message.text) conn.bits) else None)

      broken : open_text_rules on message conn ≡ rules (message.size == e.size) (uses_too_much (length message.text) conn)
      broken = ap (λ (o : Option ℕ). option_to_list (size_rule on message.size o) ++ option_to_list (over_text_rule on (length message.text) conn)) size

      within : (x y c d t : ℕ) → x ≤ c → y ≤ d → (x == 0 || nat_lt y t) ≡ false → (c == 0 || nat_lt d t) ≡ false
      within x y c d t m k h = grind arith

      go : (x y : Bool) → rules x y ≡ [] → (message.size == e.size) ≡ x → uses_too_much (length message.text) conn ≡ y
          → text_at message.size message.text e ≡ Becomes (record e { messages = e.messages - 1; bits = e.bits - length message.text; stored = e.stored ++ message.text }) Admitted
      go false y n s h = absurd (cc n)
      go true true n s h = absurd (cc n)
      go true false n s h =
          ap (λ (x : Bool). acts x (e.messages == 0 || nat_lt e.bits (length message.text))) s
          ∙ ap (acts true) (within conn.messages conn.bits e.messages e.bits (length message.text) m k h)
