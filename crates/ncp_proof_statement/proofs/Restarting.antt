-- A restart is a run of the host, of answers alone.
use Rattle.std.proofs.Common.{◌≡◌, ◌<◌, ℕ, Bool, true, false, nat_lt, if◌then◌else◌, List, [], ◌∷◌, Option, None, Some, Result, Ok, refl, sym, ap, ◌∙◌, subst, arith}
use Rattle.std.specs.List.{list_all}
use Rattle.std.proofs.lemmas.Bool.{and_parts}
use Rattle.std.proofs.lemmas.List.{append-nil}
use Rattle.ncp_leader.specs.declared.leader.Short.{Short}
use Rattle.ncp_leader.specs.Leader.{leader_in}
use Rattle.ncp_leader.proofs.Leaders.{leader_in-bits}
use Rattle.ncp_wire.specs.declared.answer.Answer.TheVariants.{Incomplete}
use Rattle.ncp_peer.specs.declared.received.Received.{Received}
use Rattle.ncp_peer.specs.PeerState.{PeerState, is_answered, answer_comes}
use Rattle.ncp_peer.specs.Output.{links}
use Rattle.ncp_host.specs.Host.{Host, state_of, changed}
use Rattle.ncp_host.specs.Arrivals.{after_with, after_from, after_received}
use Rattle.ncp_host.specs.Restarting.{incomplete_leader, incomplete_bits, is_message_out, incomplete_comes, incompletes_come, after_restart}
use Rattle.ncp_host.proofs.Restarting.{come_none, come_more}
use Rattle.ncp_transcript.specs.declared.note.HostNote.{HostNote}
use Rattle.ncp_transcript.specs.After.{after_notes}
use Rattle.ncp_transcript.specs.Runs.{answer_returned, IsHostRun}
use Rattle.ncp_proof_statement.specs.Restarts.{answer_noted_if, incompletes_noted, notes_of_restart}

pub is_received : (number on : ℕ) (h : Host) (s : PeerState) → number < 256 → on < 256 → state_of h number ≡ Some s → after_received (incomplete_bits number on) h ≡ changed number (answer_comes on Incomplete) h
is_received number on h s n o known =
    let led : leader_in (incomplete_bits number on) ≡ Ok (incomplete_leader number on) =
    ap leader_in (sym (append-nil (incomplete_bits number on))) ∙ leader_in-bits (incomplete_leader number on) [] (record { flags = omega arith; kind = omega arith; host = omega arith; link = omega arith; low = omega arith }) in
    ap (λ (r : Result _ Short). after_with r (incomplete_bits number on) h) led
    ∙ ap (λ (x : Option PeerState). after_from x (incomplete_leader number on) (incomplete_bits number on) h) known

abbrev RunsTo : List HostNote → Host → Host → Type 0
RunsTo ns h last = IsHostRun ns h × (after_notes ns h ≡ last)

small : (on : ℕ) → nat_lt on 256 ≡ true → on < 256
small on h = grind arith

one : (number on : ℕ) (h last : Host) (rest : List HostNote) → number < 256 → on < 256 → RunsTo rest (incomplete_comes number on h) last → RunsTo (answer_noted_if (is_message_out on (state_of h number)) number on rest) h last
one number on h last rest n o r = go (state_of h number) refl
  where
    not_out : is_message_out on (state_of h number) ≡ false → RunsTo rest h last
    not_out e = subst (λ (x : Host). RunsTo rest x last) (ap (λ (b : Bool). if b then after_received (incomplete_bits number on) h else h) e) r

    is_out : (s : PeerState) → state_of h number ≡ Some s → is_answered on s ≡ true → RunsTo (HostNote.Answered number on Incomplete Received.Answered ∷ rest) h last
    is_out s e t =
        let out : is_message_out on (state_of h number) ≡ true = ap (is_message_out on) e ∙ t in
        let now : incomplete_comes number on h ≡ changed number (answer_comes on Incomplete) h = ap (λ (b : Bool). if b then after_received (incomplete_bits number on) h else h) out ∙ is_received number on h s n o e in
        let k : RunsTo rest (changed number (answer_comes on Incomplete) h) last = subst (λ (x : Host). RunsTo rest x last) now r in
        let said : answer_returned (state_of h number) on ≡ Some Received.Answered = ap (λ (x : Option PeerState). answer_returned x on) e ∙ ap (λ (b : Bool). Some (if b then Received.Answered else Received.Stray)) t in
        ((said, k.0), k.1)

    by : (s : PeerState) → state_of h number ≡ Some s → (b : Bool) → is_answered on s ≡ b → RunsTo (answer_noted_if b number on rest) h last
    by s e true t = is_out s e t
    by s e false t = not_out (ap (is_message_out on) e ∙ t)

    go : (x : Option PeerState) → state_of h number ≡ x → RunsTo (answer_noted_if (is_message_out on (state_of h number)) number on rest) h last
    go None e = subst (λ (b : Bool). RunsTo (answer_noted_if b number on rest) h last) (sym (ap (is_message_out on) e)) (not_out (ap (is_message_out on) e))
    go (Some s) e = subst (λ (b : Bool). RunsTo (answer_noted_if b number on rest) h last) (sym (ap (is_message_out on) e)) (by s e (is_answered on s) refl)

all : (number : ℕ) → number < 256 → (ons : List ℕ) → list_all (λ on. nat_lt on 256) ons ≡ true → (h : Host) → RunsTo (incompletes_noted number ons h) h (incompletes_come number ons h)
all number n [] o h = (tt, sym (come_none number h))
all number n (on ∷ ons) o h =
    let both : (nat_lt on 256 ≡ true) × (list_all (λ on. nat_lt on 256) ons ≡ true) = and_parts _ _ o in
    subst (RunsTo (incompletes_noted number (on ∷ ons) h) h) (sym (come_more number on ons h))
    (one number on h (incompletes_come number ons (incomplete_comes number on h)) (incompletes_noted number ons (incomplete_comes number on h)) n (small on both.0) (all number n ons both.1 (incomplete_comes number on h)))

pub restarts-run : (number : ℕ) (h : Host) → number < 256 → RunsTo (notes_of_restart number h) h (after_restart number h)
restarts-run number h n = all number n links refl h
