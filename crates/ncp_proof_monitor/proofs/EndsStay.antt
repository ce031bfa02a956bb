-- What is true of all ends of a host stays through what its links bring and take.
use Rattle.std.proofs.Common.{◌≡◌, ℕ, Bool, true, List, [], Option, None, Some, refl, ap}
use Rattle.std.specs.FinMap.{get}
use Rattle.ncp_wire.specs.declared.command.Command.{Command}
use Rattle.ncp_model.specs.declared.pair.Pair.{Pair}
use Rattle.ncp_model.specs.Endpoint.{Endpoint}
use Rattle.ncp_model.specs.Effect.{Effect, end_after}
use Rattle.ncp_model.specs.Texts.{hear_text, Rfnm}
use Rattle.ncp_model.specs.Ends.{Ends, uses_link, sender_on, receiver_on, pair_of, demux_command, hear, text_in, cut_in, answered_in, map_after, map_after_at}
use Rattle.ncp_model.specs.EndpointEvents.{EndpointEvent, Transition, happens}
use Rattle.ncp_model.specs.Demux.{suits, comes}
use Rattle.ncp_model.proofs.LinksDemux.{led, command-led, cut-led, answered-led, suits-led, user-receives}
use Rattle.ncp_proof_machine.proofs.EndsGood.{EndsInvariant, Fresh, act-changes, none-fresh, comes-fresh, good-after}

looked : {A : Type 0} → (m : Ends) (o : Option Pair) (act : Effect A)
    → ((pair : Pair) → o ≡ Some pair → (what : EndpointEvent) × ((happens pair what (get m pair)).after ≡ end_after (get m pair) act) × (suits pair what ≡ true) × Fresh m what)
    → EndsInvariant m → EndsInvariant (map_after_at m o act)
looked m None act f g = g
looked m (Some pair) act f g = let w = f pair refl in good-after m (map_after m pair act) pair w.0 w.2 (act-changes m pair w.0 act w.1) w.3 g

pub comes_some : (c : Command) (m : Ends) (pair : Pair) → demux_command c m ≡ Some pair → (what : EndpointEvent) × (comes c m ≡ Some what)
comes_some (Command.Rts a b d) m pair e = (_, refl)
comes_some (Command.Str a b d) m pair e = (_, refl)
comes_some (Command.Cls a b) m pair e = (_, refl)
comes_some (Command.All a b d) m pair e = (_, refl)
comes_some (Command.Gvb a b d) m pair e = (_, refl)
comes_some (Command.Ret a b d) m pair e = (_, refl)
comes_some (Command.Inr a) m pair e = (_, refl)
comes_some (Command.Ins a) m pair e = (_, refl)
comes_some c m pair e = absurd (cc e)

pub command_good : (c : Command) (m : Ends) → EndsInvariant m → EndsInvariant (map_after_at m (demux_command c m) (hear c m))
command_good c m =
    looked m (demux_command c m) (hear c m)
    (λ pair e. let w = comes_some c m pair e in let l = command-led m c pair w.0 e w.1 in (w.0, ap (λ (d : Transition). d.after) l.1, suits-led pair w.0 (get m pair) l.0, comes-fresh c m w.0 w.1))

pub text_good : (m : Ends) (on of_size : ℕ) (text : List Bool) → EndsInvariant m → EndsInvariant (map_after_at m (pair_of (receiver_on on m)) (text_in on of_size text m))
text_good m on of_size text =
    looked m (pair_of (receiver_on on m)) (text_in on of_size text m)
    (λ pair e. let l = led (uses_link on) m pair e in (
      EndpointEvent.Text_comes [] of_size text,
      ap (λ (o : Option Endpoint). end_after (get m pair) (hear_text of_size text o)) l.0,
      user-receives on pair (get m pair) l.1,
      none-fresh m (EndpointEvent.Text_comes [] of_size text) (λ k. refl) (λ k. refl),
    ))

pub cut_good : (m : Ends) (on : ℕ) → EndsInvariant m → EndsInvariant (map_after_at m (pair_of (sender_on on m)) (cut_in on m))
cut_good m on =
    looked m (pair_of (sender_on on m)) (cut_in on m)
    (λ pair e. let l = cut-led m on pair e in (EndpointEvent.Text_goes_out, ap (λ (d : Transition). d.after) l.1, l.0, none-fresh m EndpointEvent.Text_goes_out (λ k. refl) (λ k. refl)))

pub answered_good : (m : Ends) (on : ℕ) → EndsInvariant m → EndsInvariant (map_after_at m (pair_of (sender_on on m)) (answered_in on Rfnm m))
answered_good m on =
    looked m (pair_of (sender_on on m)) (answered_in on Rfnm m)
    (λ pair e. let l = answered-led m on Rfnm pair e in (EndpointEvent.Is_answered Rfnm, ap (λ (d : Transition). d.after) l.1, l.0, none-fresh m (EndpointEvent.Is_answered Rfnm) (λ k. refl) (λ k. refl)))
