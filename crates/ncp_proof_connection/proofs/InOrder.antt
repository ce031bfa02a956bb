-- A command or a text that comes is taken, or is late.
use Rattle.std.proofs.Common.{◌≡◌, ℕ, Bool, true, false, nat_lt, List, ◌∷◌, Option, None, Some, refl, arith}
use Rattle.std.proofs.lemmas.Bool.{or_parts}
use Rattle.ncp_wire.specs.declared.command.Command.{Command}
use Rattle.ncp_wire.specs.declared.command.Command.TheVariants.{Rts, Str, Cls, All, Gvb, Ret, Inr, Ins}
use Rattle.ncp_model.specs.declared.pair.Pair.{Pair}
use Rattle.ncp_model.specs.declared.limits.TheConstants.{MAX_BY_PEER}
use Rattle.ncp_model.specs.Pairs.{sends, counterpart}
use Rattle.ncp_model.specs.Endpoint.{Endpoint}
use Rattle.ncp_model.specs.EndpointEvents.{EndpointEvent, happens, is_violation}
use Rattle.ncp_proof_connection.specs.Connections.{Away, Connection, is_in_order, ComesInOrder, command_comes, comes_to_sender, comes_to_receiver}
use Rattle.ncp_proof_connection.proofs.Whole.{Inv, alien_to_sender, alien_to_receiver, comes_to_sender_keeps, comes_to_receiver_keeps, text_comes_keeps}

-- where no ERR is made
abbrev Fine : Pair → EndpointEvent → Option Endpoint → Type 0
Fine pair what before = is_violation (happens pair what before).outcome ≡ false → is_in_order (happens pair what before).outcome ≡ true

rts_fine : (pair : Pair) (on n : ℕ) (before : Option Endpoint) → nat_lt n MAX_BY_PEER ≡ true → Fine pair (EndpointEvent.Rts_comes on false n) before
rts_fine pair on n None few = λ v. grind arith
rts_fine pair on n (Some e) few = λ v. grind arith

str_fine : (pair : Pair) (m n : ℕ) (before : Option Endpoint) → nat_lt n MAX_BY_PEER ≡ true → Fine pair (EndpointEvent.Str_comes m n) before
str_fine pair m n None few = λ v. grind arith
str_fine pair m n (Some e) few = λ v. grind arith

cls_fine : (pair : Pair) (before : Option Endpoint) → Fine pair EndpointEvent.Cls_comes before
cls_fine pair None = λ v. grind arith
cls_fine pair (Some e) = λ v. grind arith

all_fine : (pair : Pair) (on a b : ℕ) (before : Option Endpoint) → Fine pair (EndpointEvent.All_comes on a b) before
all_fine pair on a b None = λ v. grind arith
all_fine pair on a b (Some e) = λ v. grind arith

gvb_fine : (pair : Pair) (on a b : ℕ) (before : Option Endpoint) → Fine pair (EndpointEvent.Gvb_comes on a b) before
gvb_fine pair on a b None = λ v. grind arith
gvb_fine pair on a b (Some e) = λ v. grind arith

ret_fine : (pair : Pair) (on a b : ℕ) (before : Option Endpoint) → Fine pair (EndpointEvent.Ret_comes on a b) before
ret_fine pair on a b None = λ v. grind arith
ret_fine pair on a b (Some e) = λ v. grind arith

inr_fine : (pair : Pair) (on : ℕ) (before : Option Endpoint) → Fine pair (EndpointEvent.Inr_comes on) before
inr_fine pair on None = λ v. grind arith
inr_fine pair on (Some e) = λ v. grind arith

ins_fine : (pair : Pair) (on : ℕ) (before : Option Endpoint) → Fine pair (EndpointEvent.Ins_comes on) before
ins_fine pair on None = λ v. grind arith
ins_fine pair on (Some e) = λ v. grind arith

text_fine : (pair : Pair) (head : List Bool) (n : ℕ) (bits : List Bool) (before : Option Endpoint) → Fine pair (EndpointEvent.Text_comes head n bits) before
text_fine pair head n bits None = λ v. grind arith
text_fine pair head n bits (Some e) = λ v. grind arith

module _ (pair : Pair) (sd : sends pair ≡ true) (n : ℕ) (few : nat_lt n MAX_BY_PEER ≡ true) where
  pub sender_in_order : (c : Command) (rest : List Command) (w : Connection) → Inv pair (record w { to_sender = c ∷ rest }) → ComesInOrder pair (command_comes n c) w.sender.end
  sender_in_order c rest w k = go c k (comes_to_sender_keeps pair sd n (c ∷ rest) w few k.local k.moment k.core)
    where
      go : (c : Command) → Inv pair (record w { to_sender = c ∷ rest }) → Inv pair (comes_to_sender pair n (c ∷ rest) (record w { to_sender = c ∷ rest })) → ComesInOrder pair (command_comes n c) w.sender.end
      go (Rts i j on) k m = rts_fine pair on n w.sender.end few (or_parts w.violated _ m.local.safe).1
      go (Cls i j) k m = cls_fine pair w.sender.end (or_parts w.violated _ m.local.safe).1
      go (All on a b) k m = all_fine pair on a b w.sender.end (or_parts w.violated _ m.local.safe).1
      go (Gvb on a b) k m = gvb_fine pair on a b w.sender.end (or_parts w.violated _ m.local.safe).1
      go (Inr on) k m = inr_fine pair on w.sender.end (or_parts w.violated _ m.local.safe).1
      go Command.Nop k m = absurd (alien_to_sender pair sd Command.Nop rest w refl k.core)
      go (Str i j z) k m = absurd (alien_to_sender pair sd (Str i j z) rest w refl k.core)
      go (Ret on a b) k m = absurd (alien_to_sender pair sd (Ret on a b) rest w refl k.core)
      go (Ins on) k m = absurd (alien_to_sender pair sd (Ins on) rest w refl k.core)
      go (Command.Eco b) k m = absurd (alien_to_sender pair sd (Command.Eco b) rest w refl k.core)
      go (Command.Erp b) k m = absurd (alien_to_sender pair sd (Command.Erp b) rest w refl k.core)
      go (Command.Err b d) k m = absurd (alien_to_sender pair sd (Command.Err b d) rest w refl k.core)
      go Command.Rst k m = absurd (alien_to_sender pair sd Command.Rst rest w refl k.core)
      go Command.Rrp k m = absurd (alien_to_sender pair sd Command.Rrp rest w refl k.core)

  pub receiver_in_order : (c : Command) (rest : List Command) (w : Connection) → Inv pair (record w { to_receiver = c ∷ rest }) → ComesInOrder (counterpart pair) (command_comes n c) w.receiver.end
  receiver_in_order c rest w k = go c k (comes_to_receiver_keeps pair sd n (c ∷ rest) w few k.local k.moment k.core)
    where
      go : (c : Command) → Inv pair (record w { to_receiver = c ∷ rest }) → Inv pair (comes_to_receiver pair n (c ∷ rest) (record w { to_receiver = c ∷ rest })) → ComesInOrder (counterpart pair) (command_comes n c) w.receiver.end
      go (Str i j z) k m = str_fine (counterpart pair) z n w.receiver.end few (or_parts w.violated _ m.local.safe).1
      go (Cls i j) k m = cls_fine (counterpart pair) w.receiver.end (or_parts w.violated _ m.local.safe).1
      go (Ret on a b) k m = ret_fine (counterpart pair) on a b w.receiver.end (or_parts w.violated _ m.local.safe).1
      go (Ins on) k m = ins_fine (counterpart pair) on w.receiver.end (or_parts w.violated _ m.local.safe).1
      go Command.Nop k m = absurd (alien_to_receiver pair sd Command.Nop rest w refl k.core)
      go (Rts i j z) k m = absurd (alien_to_receiver pair sd (Rts i j z) rest w refl k.core)
      go (All on a b) k m = absurd (alien_to_receiver pair sd (All on a b) rest w refl k.core)
      go (Gvb on a b) k m = absurd (alien_to_receiver pair sd (Gvb on a b) rest w refl k.core)
      go (Inr on) k m = absurd (alien_to_receiver pair sd (Inr on) rest w refl k.core)
      go (Command.Eco b) k m = absurd (alien_to_receiver pair sd (Command.Eco b) rest w refl k.core)
      go (Command.Erp b) k m = absurd (alien_to_receiver pair sd (Command.Erp b) rest w refl k.core)
      go (Command.Err b d) k m = absurd (alien_to_receiver pair sd (Command.Err b d) rest w refl k.core)
      go Command.Rst k m = absurd (alien_to_receiver pair sd Command.Rst rest w refl k.core)
      go Command.Rrp k m = absurd (alien_to_receiver pair sd Command.Rrp rest w refl k.core)

pub text_in_order : (pair : Pair) (sd : sends pair ≡ true) (head : List Bool) (li n : ℕ) (bits : List Bool) (w : Connection) → Inv pair (record w { text = Away li n bits }) → is_in_order (happens (counterpart pair) (EndpointEvent.Text_comes head n bits) w.receiver.end).outcome ≡ true
text_in_order pair sd head li n bits w k = text_fine (counterpart pair) head n bits w.receiver.end (or_parts w.violated _ (text_comes_keeps pair sd head (Away li n bits) w k.local k.moment k.core).local.safe).1
