-- A call for an echo while up, where none is awaited and a place is left.
use Rattle.std.proofs.Common.{◌≡◌, ℕ, true, false, not, ◌||◌, if◌then◌else◌, [], ◌∷◌, Ok, Err, sym, ap, ◌∙◌}
use Rattle.ncp_wire.specs.declared.command.Command.TheVariants.{Eco}
use Rattle.ncp_model.specs.declared.call_fault.CallFault.TheVariants.{NotUp, Busy, QueueFull}
use Rattle.ncp_model.specs.Effect.{made_by_call}
use Rattle.ncp_model.specs.Echo.{echo_answer}
use Rattle.ncp_model.specs.Phase.{up}
use Rattle.ncp_model.specs.Sending.{is_full}
use Rattle.ncp_model.specs.Peers.{Peer, makes, call_accepted, echo_called, calls_echo, reply_of_echo}

module _ (byte : ℕ) (p now : Peer) (is : p ≡ now) (stands : up p.phase ≡ true) (none : p.echoes.awaited ≡ false) (place : is_full p.phase ≡ false) where
  pub answered : Ok tt ≡ reply_of_echo byte now
  answered =
      sym (ap (λ b. if b then call_accepted (echo_answer byte (is_full p.phase) p.echoes) else Err NotUp) stands
      ∙ ap (λ b. call_accepted (if b then Err Busy else if is_full p.phase then Err QueueFull else Ok (Eco byte))) none
      ∙ ap (λ b. call_accepted (if b then Err QueueFull else Ok (Eco byte))) place)
      ∙ ap (reply_of_echo byte) is

  pub asked : makes (Eco byte ∷ []) (record p { echoes = record p.echoes { awaited = true } }) ≡ calls_echo byte now
  asked =
      sym (ap (λ b. if b then echo_called byte p else p) stands
      ∙ ap (λ b. makes (made_by_call (if b then Err Busy else if is_full p.phase then Err QueueFull else Ok (Eco byte))) (record p { echoes = record p.echoes { awaited = b || not (is_full p.phase) } })) none
      ∙ ap (λ b. makes (made_by_call (if b then Err QueueFull else Ok (Eco byte))) (record p { echoes = record p.echoes { awaited = not b } })) place)
      ∙ ap (calls_echo byte) is
