-- What the host does with any command that names a link: nothing, or it makes an ERR; or the end to which the link leads has other
-- numbers, and after a GVB a RET is made.
use Rattle.std.proofs.Common.{◌≡◌, ℕ, ◌+◌, Bool, true, false, ◌||◌, if◌then◌else◌, List, [], ◌∷◌, Option, None, Some, refl, sym, ap, ◌∙◌, subst}
use Rattle.std.specs.Prelude.{◌-◌, min, nat_lt}
use Rattle.std.specs.FinMap.{get}
use Rattle.ncp_wire.specs.declared.command.Command.{Command}
use Rattle.ncp_wire.specs.declared.command.Command.TheVariants.{All, Gvb, Ret, Inr, Ins}
use Rattle.ncp_wire.specs.Spelling.{error_of}
use Rattle.ncp_model.specs.declared.pair.Pair.{Pair}
use Rattle.ncp_model.specs.declared.outcomes.Heard.{Heard}
use Rattle.ncp_model.specs.declared.outcomes.Heard.TheVariants.{Nothing, Reply, Late}
use Rattle.ncp_model.specs.declared.limits.TheConstants.{MAX_MESSAGES, MAX_AMOUNT, MAX_COUNT}
use Rattle.ncp_model.specs.Amounts.{back}
use Rattle.ncp_model.specs.Endpoint.{Endpoint, is_closing, is_ended}
use Rattle.ncp_model.specs.Effect.{Effect, Stays, Becomes, answer, end_after, made_by_hearing, wrong_parameters, not_connected}
use Rattle.ncp_model.specs.Commands.{errs, at_open, all_at, gvb_at, ret_at, interrupted}
use Rattle.ncp_model.specs.Ends.{Ends, sender_on, receiver_on, pair_of, end_of, demux_command, hear, map_after_at}
use Rattle.ncp_proof_endpoint.specs.Sound.{SoundAt}
use Rattle.ncp_proof_machine.proofs.EndsGood.{EndsInvariant}
use Rattle.ncp_monitor.specs.Replies.{says_wanted, error_wanted}
use Rattle.ncp_monitor.specs.Allocation.{other_code}
use Rattle.ncp_proof_monitor_allocation.proofs.Changed.{OneEnd}
use Rattle.ncp_proof_monitor_allocation.proofs.Refusals.{error_fits, other_error_fits}
use Rattle.ncp_proof_monitor_allocation.proofs.LinksHeard.{late, unopened, at_it}
use Rattle.ncp_proof_monitor_allocation.proofs.LinksReach.{led_sender, led_receiver}
use Rattle.ncp_proof_monitor_allocation.proofs.LinksOpen.{after_hearing, same_ends}

-- its marks are as they were
pub record SameFacts (e now : Endpoint) : Type 0 where
  pub asked : now.asked ≡ e.asked
  pub heard : now.heard ≡ e.heard
  pub going : is_closing now ≡ is_closing e
  pub over : is_ended now ≡ is_ended e
  pub its_link : now.link ≡ e.link

abbrev pub ends_after : Ends → Command → Ends
ends_after m c = map_after_at m (demux_command c m) (hear c m)

abbrev pub made_of : Ends → Command → List Command
made_of m c = made_by_hearing (answer (hear c m))

-- nothing is made, or an ERR that is admitted
pub data Quiet (c : Command) (made : List Command) : Type 0 where
  Silent : made ≡ [] → Quiet c made
  Erred : (code : ℕ) → says_wanted (error_wanted 5 (other_code c) c) (error_of code c) ≡ true → made ≡ error_of code c ∷ [] → Quiet c made

abbrev pub is_gvb : Command → Bool
is_gvb (Gvb on of_messages of_bits) = true
is_gvb c = false

pub data Did (m : Ends) (c : Command) (on : ℕ) (o : Option (Pair × Endpoint)) : Type 0 where
  Stayed : ends_after m c ≡ m → Quiet c (made_of m c) → Did m c on o
  Changed : (p : Pair × Endpoint) → o ≡ Some p → (then_end : Endpoint) → SameFacts p.1 then_end → OneEnd m (ends_after m c) p.0 (Some then_end) → made_of m c ≡ [] → Did m c on o
  Gave : is_gvb c ≡ true → (p : Pair × Endpoint) → o ≡ Some p → is_closing p.1 ≡ false → p.1.opened ≡ true → (then_end : Endpoint) → SameFacts p.1 then_end → OneEnd m (ends_after m c) p.0 (Some then_end) → (x y : ℕ)
      → made_of m c ≡ Ret on x y ∷ [] → Did m c on o

-- ---- at an open end

data ActDid (c : Command) (on : ℕ) (e : Endpoint) (act : Effect Heard) : Type 0 where
  ActErrs : (code : ℕ) → says_wanted (error_wanted 5 (other_code c) c) (error_of code c) ≡ true → act ≡ errs code c → ActDid c on e act
  ActBecomes : (then_end : Endpoint) → SameFacts e then_end → act ≡ Becomes then_end Nothing → ActDid c on e act
  ActReturns : is_gvb c ≡ true → (then_end : Endpoint) → SameFacts e then_end → (x y : ℕ) → act ≡ Becomes then_end (Reply (Ret on x y)) → ActDid c on e act

all_does : (on a b : ℕ) (e : Endpoint) → ActDid (All on a b) on e (all_at on a b e)
all_does on a b e = go (nat_lt MAX_MESSAGES (e.messages + a) || nat_lt MAX_AMOUNT (e.bits + b))
  where
    go : (x : Bool) → ActDid (All on a b) on e (if x then errs wrong_parameters (All on a b) else Becomes (record e { messages = e.messages + a; bits = e.bits + b }) Nothing)
    go true = ActErrs 3 (other_error_fits 5 3 (All on a b)) refl
    go false = ActBecomes (record e { messages = e.messages + a; bits = e.bits + b }) (record { asked = refl; heard = refl; going = refl; over = refl; its_link = refl }) refl

gvb_does : (on a b : ℕ) (e : Endpoint) → ActDid (Gvb on a b) on e (gvb_at on a b e)
gvb_does on a b e =
    ActReturns refl (record e { messages = e.messages - back e.messages a; bits = e.bits - back e.bits b }) (record { asked = refl; heard = refl; going = refl; over = refl; its_link = refl }) (back e.messages a) (back e.bits b) refl

ret_does : (on a b : ℕ) (e : Endpoint) → ActDid (Ret on a b) on e (ret_at on a b e)
ret_does on a b e = go (nat_lt e.messages a || nat_lt e.bits b)
  where
    go : (x : Bool) → ActDid (Ret on a b) on e (if x then errs wrong_parameters (Ret on a b) else Becomes (record e { messages = e.messages - a; bits = e.bits - b; recall = false }) Nothing)
    go true = ActErrs 3 (other_error_fits 5 3 (Ret on a b)) refl
    go false = ActBecomes (record e { messages = e.messages - a; bits = e.bits - b; recall = false }) (record { asked = refl; heard = refl; going = refl; over = refl; its_link = refl }) refl

hint_does : (c : Command) (on : ℕ) (e : Endpoint) → ActDid c on e (interrupted e)
hint_does c on e = ActBecomes (record e { interrupts = min (e.interrupts + 1) MAX_COUNT }) (record { asked = refl; heard = refl; going = refl; over = refl; its_link = refl }) refl

-- ---- wherever the link leads

module _ (m : Ends) (good : EndsInvariant m) (c : Command) (on : ℕ) (act : Endpoint → Effect Heard) (does : (e : Endpoint) → ActDid c on e (act e)) where
  did : (o : Option (Pair × Endpoint)) → demux_command c m ≡ pair_of o → hear c m ≡ at_open c act (end_of o) → ((p : Pair × Endpoint) → o ≡ Some p → get m p.0 ≡ Some p.1) → Did m c on o
  did None l h there = Stayed (ap (map_after_at m (demux_command c m)) h ∙ same_ends m (demux_command c m) (Reply (error_of not_connected c))) (Erred 5 (error_fits 5 (other_code c) c) (ap (λ (x : Effect Heard). made_by_hearing (answer x)) h))
  did (Some p) l h there = go (is_closing p.1) refl p.1.opened refl
    where
      stayed : (a : Heard) → hear c m ≡ Stays a → Quiet c (made_by_hearing a) → Did m c on (Some p)
      stayed a k q =
          Stayed (ap (map_after_at m (demux_command c m)) k ∙ same_ends m (demux_command c m) a)
          (subst (λ (x : Effect Heard). Quiet c (made_by_hearing (answer x))) (sym k) q)

      remains : (then_end : Endpoint) (a : Heard) → SameFacts p.1 then_end → end_after (Some p.1) (Becomes then_end a) ≡ Some then_end
      remains then_end a known_facts = ap (λ (x : Bool). if x then None else Some then_end) (known_facts.over ∙ (subst (SoundAt p.0) (there p refl) (good.sound p.0)).over)

      by : is_closing p.1 ≡ false → p.1.opened ≡ true → ActDid c on p.1 (act p.1) → Did m c on (Some p)
      by g o (ActErrs code fits k) = stayed (Reply (error_of code c)) (h ∙ at_it c act p.1 g o ∙ k) (Erred code fits refl)
      by g o (ActBecomes then_end known_facts k) =
          let a = after_hearing m c p.0 p.1 (Becomes then_end Nothing) (Some then_end) [] l (there p refl) (h ∙ at_it c act p.1 g o ∙ k) (remains then_end Nothing known_facts) refl in
          Changed p refl then_end known_facts a.one a.made
      by g o (ActReturns gvb then_end known_facts x y k) =
          let a = after_hearing m c p.0 p.1 (Becomes then_end (Reply (Ret on x y))) (Some then_end) (Ret on x y ∷ []) l (there p refl) (h ∙ at_it c act p.1 g o ∙ k) (remains then_end (Reply (Ret on x y)) known_facts) refl in
          Gave gvb p refl g o then_end known_facts a.one x y a.made

      go : (x : Bool) → is_closing p.1 ≡ x → (y : Bool) → p.1.opened ≡ y → Did m c on (Some p)
      go true g y o = stayed Late (h ∙ late c act p.1 g) (Silent refl)
      go false g false o = stayed (Reply (error_of not_connected c)) (h ∙ unopened c act p.1 g o) (Erred 5 (error_fits 5 (other_code c) c) refl)
      go false g true o = by g o (does p.1)

module _ (m : Ends) (good : EndsInvariant m) (on : ℕ) where
  sender_there : (p : Pair × Endpoint) → sender_on on m ≡ Some p → get m p.0 ≡ Some p.1
  sender_there p f = (led_sender m on p.0 p.1 f).there

  receiver_there : (p : Pair × Endpoint) → receiver_on on m ≡ Some p → get m p.0 ≡ Some p.1
  receiver_there p f = (led_receiver m on p.0 p.1 f).there

  pub all_did : (a b : ℕ) → Did m (All on a b) on (sender_on on m)
  all_did a b = did m good (All on a b) on (all_at on a b) (all_does on a b) (sender_on on m) refl refl sender_there

  pub gvb_did : (a b : ℕ) → Did m (Gvb on a b) on (sender_on on m)
  gvb_did a b = did m good (Gvb on a b) on (gvb_at on a b) (gvb_does on a b) (sender_on on m) refl refl sender_there

  pub inr_did : Did m (Inr on) on (sender_on on m)
  inr_did = did m good (Inr on) on interrupted (hint_does (Inr on) on) (sender_on on m) refl refl sender_there

  pub ret_did : (a b : ℕ) → Did m (Ret on a b) on (receiver_on on m)
  ret_did a b = did m good (Ret on a b) on (ret_at on a b) (ret_does on a b) (receiver_on on m) refl refl receiver_there

  pub ins_did : Did m (Ins on) on (receiver_on on m)
  ins_did = did m good (Ins on) on interrupted (hint_does (Ins on) on) (receiver_on on m) refl refl receiver_there
