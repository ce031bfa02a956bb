-- The event of a record, and the notice that it is, by its leader.
use Rattle.std.proofs.Common.{◌≡◌, ℕ, ◌==◌, Bool, true, false, not, ◌&&◌, if◌then◌else◌, List, Some, None, Result, Ok, refl, sym, ap, ◌∙◌}
use Rattle.std.proofs.lemmas.Bool.{eqb-true}
use Rattle.ncp_leader.specs.declared.leader.Leader.{Leader}
use Rattle.ncp_leader.specs.declared.leader.Short.{Short}
use Rattle.ncp_leader.specs.Leader.{leader_in}
use Rattle.ncp_interface.specs.declared.imp_direction.ImpDirection.TheVariants.{ToImp, FromImp}
use Rattle.ncp_interface.specs.declared.event.InterfaceEvent.{InterfaceEvent}
use Rattle.ncp_interface.specs.declared.event.InterfaceEvent.TheVariants as event
use Rattle.ncp_interface.specs.declared.notice.ImpNotice.TheVariants as notice
use Rattle.ncp_interface.specs.Events.{is_answer, event_after, event_of}
use Rattle.ncp_interface.specs.Notices.{notice_in, notice_after, notice_of}

-- the leader of a regular message to a host, or from it
abbrev pub to_host : ℕ → ℕ → Leader
to_host n on = record { flags = 0; kind = 0; host = n; link = on; low = 0 }

-- what goes out
pub goes_to : (me n on : ℕ) (bits : List Bool) → leader_in bits ≡ Ok (to_host n on) → (n == me) ≡ false → event_of ToImp me bits ≡ event.Out n on
goes_to me n on bits led apart = ap (event_after ToImp me) led ∙ ap (λ (b : Bool). if b then event.Own 0 on else event.Out n on) apart

-- what comes, by its leader: whether it names the host itself, is regular, and is an answer

abbrev pub of_leader : Leader → Bool → Bool → Bool → InterfaceEvent
of_leader leader own zero answer =
    if not zero && not answer then event.Nothing
    else if own then event.Own leader.kind leader.link
    else if zero then event.In leader.host leader.link
    else event.Answer leader.kind leader.host leader.link

pub comes_by : (me : ℕ) (bits : List Bool) (leader : Leader) (own zero answer : Bool) → leader_in bits ≡ Ok leader → (leader.host == me) ≡ own → (leader.kind == 0) ≡ zero → is_answer leader.kind ≡ answer
    → event_of FromImp me bits ≡ of_leader leader own zero answer
comes_by me bits leader own zero answer led o z a =
    ap (λ (r : Result Leader Short). event_after FromImp me r) led
    ∙ ap (λ (b : Bool). of_leader leader b (leader.kind == 0) (is_answer leader.kind)) o
    ∙ ap (λ (b : Bool). of_leader leader own b (is_answer leader.kind)) z
    ∙ ap (λ (b : Bool). of_leader leader own zero b) a

-- ---- neither a regular message nor an answer is a notice

no_notice : (leader : Leader) → (leader.kind == 10) ≡ false → (leader.kind == 8) ≡ false → notice_in leader ≡ None
no_notice leader a b =
    ap (λ (x : Bool). if x then Some notice.InterfaceReset else if leader.kind == 8 then Some (notice.MessageRefused leader.host leader.link) else None) a
    ∙ ap (λ (x : Bool). if x then Some (notice.MessageRefused leader.host leader.link) else None) b

pub regular_notes : (bits : List Bool) (leader : Leader) → leader_in bits ≡ Ok leader → (leader.kind == 0) ≡ true → notice_of FromImp bits ≡ None
regular_notes bits leader led zero =
    ap (notice_after FromImp) led
    ∙ no_notice leader (ap (λ (k : ℕ). k == 10) (eqb-true leader.kind 0 zero)) (ap (λ (k : ℕ). k == 8) (eqb-true leader.kind 0 zero))

pub answer_notes : (bits : List Bool) (leader : Leader) → leader_in bits ≡ Ok leader → is_answer leader.kind ≡ true → notice_of FromImp bits ≡ None
answer_notes bits leader led answer = ap (notice_after FromImp) led ∙ no_notice leader (differs 10 refl) (differs 8 refl)
  where
    differs : (other : ℕ) → is_answer other ≡ false → (leader.kind == other) ≡ false
    differs other unlike = go (leader.kind == other) refl
      where
        go : (b : Bool) → (leader.kind == other) ≡ b → (leader.kind == other) ≡ false
        go false e = e
        go true e = let nay : false ≡ true = sym unlike ∙ ap is_answer (sym (eqb-true leader.kind other e)) ∙ answer in absurd (cc nay)
