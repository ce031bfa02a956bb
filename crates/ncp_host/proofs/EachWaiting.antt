-- What holds of each command that waits, where it holds of RST, of RRP and of each that is made.
use Rattle.std.proofs.Common.{Bool, true, false, ◌&&◌, if◌then◌else◌, List, [], ◌∷◌, ◌++◌, All}
use Rattle.std.specs.List.{list_any}
use Rattle.std.proofs.lemmas.List.Elements.{All-push, All-filter}
use Rattle.ncp_wire.specs.declared.command.Command.{Command}
use Rattle.ncp_wire.specs.declared.command.Command.TheVariants.{Rst, Rrp}
use Rattle.ncp_model.specs.Phase.{Phase, up, is_reset, is_other, is_rst, is_rrp, has_room_for_one, queued, goes_down, phase_makes, makes_all, is_resetting, phase_answers, phase_asks, wants_reset, owes_answer}
use Rattle.ncp_model.specs.Phase as phases

-- each of some commands
abbrev pub Each : (Command → Type 0) → List Command → Type 0
Each P [] = Unit {0}
Each P (c ∷ cs) = P c × Each P cs

pub each_of_both : (P : Command → Type 0) (cs ds : List Command) → Each P cs → Each P ds → Each P (cs ++ ds)
each_of_both P [] ds k l = l
each_of_both P (c ∷ cs) ds k l = (k.0, each_of_both P cs ds k.1 l)

abbrev pub EachWaits : (Command → Type 0) → Phase → Type 0
EachWaits P q = All P q.waiting

module _ (P : Command → Type 0) (rst : P Rst) (rrp : P Rrp) where
  either : (b : Bool) (q r : Phase) → EachWaits P q → EachWaits P r → EachWaits P (if b then q else r)
  either true q r k l = k
  either false q r k l = l

  pub down : (q : Phase) → EachWaits P q → EachWaits P (goes_down q)
  down q k = All-filter is_reset P q.waiting k

  made : (c : Command) (q : Phase) → P c → EachWaits P q → EachWaits P (phase_makes c q)
  made c q f k = either (up q && is_other c) (if has_room_for_one q then queued c q else goes_down q) q (either (has_room_for_one q) (queued c q) (goes_down q) (All-push P q.waiting c k f) (down q k)) k

  pub all_made : (cs : List Command) (q : Phase) → Each P cs → EachWaits P q → EachWaits P (makes_all cs q)
  all_made [] q f k = k
  all_made (c ∷ cs) q f k = all_made cs (phase_makes c q) f.1 (made c q f.0 k)

  answered : (q : Phase) → EachWaits P q → EachWaits P (phase_answers q)
  answered q k = go q.owe (list_any is_rrp q.waiting)
    where
      go : (a b : Bool) → EachWaits P (if a then record q { down = false; owe = false; waiting = if b then q.waiting else q.waiting ++ Rrp ∷ [] } else q)
      go true true = k
      go true false = All-push P q.waiting Rrp k rrp
      go false b = k

  asked : (q : Phase) → EachWaits P q → EachWaits P (phase_asks q)
  asked q k = go q.want (list_any is_rst q.waiting)
    where
      go : (a b : Bool) → EachWaits P (if a then record q { down = false; want = false; wait = true; waiting = if b then q.waiting else q.waiting ++ Rst ∷ [] } else q)
      go true true = k
      go true false = All-push P q.waiting Rst k rst
      go false b = k

  pub settled : (quiet : Bool) (q : Phase) → EachWaits P q → EachWaits P (phases.phase_settles quiet q)
  settled true q k = asked (phase_answers q) (answered q k)
  settled false q k = k

  pub reset : (quiet : Bool) (q : Phase) → EachWaits P q → EachWaits P (phases.resets quiet q)
  reset quiet q k = either (is_resetting q) q (phases.phase_settles quiet (wants_reset q)) k (settled quiet (wants_reset q) (All-filter is_reset P q.waiting k))

  pub rst_heard : (quiet : Bool) (q : Phase) → EachWaits P q → EachWaits P (phases.hears_rst quiet q)
  rst_heard quiet q k = settled quiet (owes_answer q) (All-filter is_reset P q.waiting k)
