-- The effect of a record on what is followed, by its leader.
use Rattle.std.proofs.Common.{◌≡◌, ℕ, ◌==◌, Bool, true, false, List, Option, None, Ok, refl, ap, ◌∙◌}
use Rattle.ncp_leader.specs.declared.leader.Leader.{Leader}
use Rattle.ncp_leader.specs.Leader.{leader_in}
use Rattle.ncp_interface.specs.declared.imp_direction.ImpDirection.TheVariants.{FromImp}
use Rattle.ncp_interface.specs.declared.event.InterfaceEvent.{InterfaceEvent}
use Rattle.ncp_interface.specs.declared.notice.ImpNotice.{ImpNotice}
use Rattle.ncp_interface.specs.Events.{is_answer, event_of}
use Rattle.ncp_interface.specs.Notices.{notice_of}
use Rattle.ncp_interface.proofs.Events.{to_host, goes_to, comes_by, regular_notes, answer_notes}
use Rattle.ncp_follow.specs.declared.follower.Follower.{Follower}
use Rattle.ncp_follow.specs.Followed.{follower_after_out, follower_after_in, follower_after_answer, follower_after_event, follower_after_notice, follower_after_record}

pub record_goes : (number me n on : ℕ) (bits : List Bool) (f : Follower) → leader_in bits ≡ Ok (to_host n on) → (n == me) ≡ false
    → follower_after_record number true me bits f ≡ follower_after_out number me n on bits f
record_goes number me n on bits f led apart = ap (λ (e : InterfaceEvent). follower_after_event number me bits e f) (goes_to me n on bits led apart)

-- without a notice
unnoticed : (number me : ℕ) (bits : List Bool) (f : Follower) (o : Option ImpNotice) (e : InterfaceEvent) → o ≡ None → event_of FromImp me bits ≡ e
    → follower_after_notice me o (follower_after_event number me bits (event_of FromImp me bits) f) ≡ follower_after_event number me bits e f
unnoticed number me bits f o e n is =
    ap (λ (x : Option ImpNotice). follower_after_notice me x (follower_after_event number me bits (event_of FromImp me bits) f)) n
    ∙ ap (λ (x : InterfaceEvent). follower_after_event number me bits x f) is

pub record_comes : (number me n on : ℕ) (bits : List Bool) (f : Follower) → leader_in bits ≡ Ok (to_host n on) → (n == me) ≡ false
    → follower_after_record number false me bits f ≡ follower_after_in number me n bits f
record_comes number me n on bits f led apart =
    unnoticed number me bits f (notice_of FromImp bits) (InterfaceEvent.In n on) (regular_notes bits (to_host n on) led refl) (comes_by me bits (to_host n on) false true false led apart refl refl)

pub record_answers : (number me : ℕ) (bits : List Bool) (leader : Leader) (f : Follower) → leader_in bits ≡ Ok leader → (leader.host == me) ≡ false → (leader.kind == 0) ≡ false → is_answer leader.kind ≡ true
    → follower_after_record number false me bits f ≡ follower_after_answer me leader.host leader.link leader.kind f
record_answers number me bits leader f led apart kind answer =
    unnoticed number me bits f (notice_of FromImp bits) (InterfaceEvent.Answer leader.kind leader.host leader.link) (answer_notes bits leader led answer) (comes_by me bits leader false false true led apart kind answer)
