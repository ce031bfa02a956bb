-- A pipe of two hosts whose cuts are clearings, and whose leaves are closes by the peer.
use Rattle.std.proofs.Common.{◌≡◌, ◌≤◌, ℕ, Bool, true, false, List, [], length, Option, None, Some, refl, sym, ap, ◌∙◌, subst, arith}
use Rattle.std.specs.FinMap.{get}
use Rattle.ncp_model.specs.declared.pair.Pair.{Pair}
use Rattle.ncp_model.specs.Pairs.{sends, receives}
use Rattle.ncp_model.specs.Endpoint.{Endpoint}
use Rattle.ncp_peer.specs.PeerState.{PeerState}
use Rattle.ncp_host.specs.Host.{Host, numbers_of}
use Rattle.ncp_transcript.specs.declared.note.HostNote.{HostNote}
use Rattle.ncp_proof_runs.specs.Acts.{Acted, AreActs, acts_of}
use Rattle.ncp_proof_runs.proofs.ActsOfRuns.{acts-from-nothing}
use Rattle.ncp_proof_runs.proofs.Begun.{is_run, is_kept}
use Rattle.ncp_proof_runs.proofs.InRuns.{kept_as_noted}
use Rattle.ncp_transcript_two.specs.Sides.{notes_at}
use Rattle.ncp_transcript_two.specs.declared.side.Side.{Side}
use Rattle.ncp_transcript_two.specs.declared.note.Note.{Note}
use Rattle.ncp_transcript_two.specs.Between.{Hosts, other, side_number, host_of}
use Rattle.ncp_transcript_two.specs.Transcript.{IsTranscript}
use Rattle.ncp_transcript_two.proofs.OneSide.{by_itself}
use Rattle.ncp_proof_promises.proofs.MadeWalking.{ours}
use Rattle.ncp_proof_promises.proofs.Standing.{kept-for}
use Rattle.ncp_proof_statement.proofs.GoingOn.{Own}
use Rattle.ncp_pipe.specs.Pipe.{Pipe, Closed, Step, IsRun, new_pipe}
use Rattle.ncp_pipe.specs.Pipe as pipes
use Rattle.ncp_pipe.specs.Sides.{those, how_many, is_sender_step, is_receiver_step, is_sender_stop, is_receiver_stop, is_sender_cut, is_sender_leave, is_receiver_cut, is_receiver_leave, IsSenderAccount, IsReceiverAccount}
use Rattle.ncp_pipe.proofs.Weaving.{same-among}
use Rattle.ncp_proof_pipe.specs.Views.{sender_view, receiver_view, pipe_of_views, sender_step, receiver_step}
use Rattle.ncp_proof_pipe.specs.Clearings.{clearings, closes_read}
use Rattle.ncp_proof_pipe.specs.Stops.{AreSenderStops, AreReceiverStops, cuts_in, is_close_by_peer, times}
use Rattle.ncp_proof_pipe.proofs.Accounted.{calls_of, sender-account, receiver-account}

-- what happened at an endpoint, by the notes of its host, led to it
pub acts-to-end : (ns : List Note) (w : Hosts) (t : IsTranscript ns w) (side : Side) (pair : Pair) → AreActs pair None (acts_of pair (Own ns w t side)) (get (ours side w).peer.ends pair)
acts-to-end ns w t side pair =
    let n : ℕ = side_number (other side) w in
    let h : Host = host_of side w in
    let all : List HostNote = notes_at side ns in
    let alone = by_itself ns w side t in
    let noted = kept_as_noted h.me (numbers_of h.peers) all n (ours side w) (is_run all h alone) (is_kept all h n (Some (ours side w)) alone (kept-for ns w side t)) in
    subst (λ (x : PeerState). AreActs pair None (acts_of pair (Own ns w t side)) (get x.peer.ends pair)) (sym noted) (acts-from-nothing pair (Own ns w t side))

sender-cuts : (x : Step) → is_sender_stop x ≡ false → is_sender_cut x ≡ false
sender-cuts pipes.Cuts_sender e = absurd (cc e)
sender-cuts x e = refl

sender-leaves : (x : Step) → is_sender_stop x ≡ false → is_sender_leave x ≡ false
sender-leaves pipes.Leaves_sender e = absurd (cc e)
sender-leaves x e = refl

receiver-cuts : (x : Step) → is_receiver_stop x ≡ false → is_receiver_cut x ≡ false
receiver-cuts pipes.Cuts_receiver e = absurd (cc e)
receiver-cuts x e = refl

receiver-leaves : (x : Step) → is_receiver_stop x ≡ false → is_receiver_leave x ≡ false
receiver-leaves pipes.Leaves_receiver e = absurd (cc e)
receiver-leaves x e = refl

no-more : (some stop : Step → Bool) (xs ys : List Step) (n m : ℕ) → ((x : Step) → stop x ≡ false → some x ≡ false) → those stop xs ≡ those stop ys → how_many some ys ≤ n → n ≤ m → how_many some xs ≤ m
no-more some stop xs ys n m within e l k = subst (λ (i : ℕ). i ≤ m) (ap length (sym (same-among some stop within xs ys e))) (omega (arith, l, k))

abbrev Exchanges : Type 0
Exchanges =
    (steps sender receiver : List Step) (q : Pipe) (dropped : Bool) → IsRun new_pipe steps q → IsSenderAccount Closed sender q.sender → IsReceiverAccount Closed true receiver q.receiver dropped → (dropped ≡ true → q.held ≡ [])
    → those is_sender_step sender ≡ those is_sender_step steps → those is_receiver_step receiver ≡ those is_receiver_step steps
    → (now : List Step) × IsRun new_pipe now q × (those is_sender_step now ≡ those is_sender_step steps) × (those is_receiver_step now ≡ those is_receiver_step steps) × (those is_sender_stop now ≡ those is_sender_stop sender) × (those is_receiver_stop now ≡ those is_receiver_stop receiver)

-- what happened at an endpoint happened by these notes
abbrev pub Told : Pair → List Acted → List HostNote → Type 0
Told pair acts told = (cuts_in false acts ≤ clearings told) × (times is_close_by_peer acts ≤ closes_read pair told)

-- a run to this state with the calls of both sides is also one whose stops are explained
pub stopping : Exchanges → (pair back : Pair) → sends pair ≡ true → receives back ≡ true → (s r : Option Endpoint) (here there : List Acted) → AreActs pair None here s → AreActs back None there r → (told told_there : List HostNote) → Told pair here told → Told back there told_there
    → (steps calls answers : List Step) (out : List Bool) (fresh : Bool) → IsRun new_pipe steps (pipe_of_views (sender_view s) (receiver_view r) out fresh)
    → those is_sender_step steps ≡ calls → those is_receiver_step steps ≡ answers → calls_of sender_step here ≡ calls → calls_of receiver_step there ≡ answers
    → (now : List Step) × IsRun new_pipe now (pipe_of_views (sender_view s) (receiver_view r) out fresh) × (those is_sender_step now ≡ calls) × (those is_receiver_step now ≡ answers) × AreSenderStops pair now told × AreReceiverStops back now told_there
stopping law pair back sd rd s r here there acts acts_there told told_there known known_there steps calls answers out fresh run cs ct hs ht =
    let a = sender-account pair sd here None s false tt (λ x. refl) acts in
    let b = receiver-account back rd there None r true false tt (λ x. refl) (λ x. absurd (cc x)) (λ x. refl) acts_there in
    let k = law steps a.steps b.steps (pipe_of_views (sender_view s) (receiver_view r) out fresh) b.dropped run a.account b.account b.empty (a.called ∙ hs ∙ sym cs) (b.called ∙ ht ∙ sym ct) in (
      k.0,
      k.1,
      k.2 ∙ cs,
      k.3 ∙ ct,
      (no-more is_sender_cut is_sender_stop k.0 a.steps _ _ sender-cuts k.4 a.cut known.0, no-more is_sender_leave is_sender_stop k.0 a.steps _ _ sender-leaves k.4 a.left known.1),
      (no-more is_receiver_cut is_receiver_stop k.0 b.steps _ _ receiver-cuts k.5 b.cut known_there.0, no-more is_receiver_leave is_receiver_stop k.0 b.steps _ _ receiver-leaves k.5 b.left known_there.1),
    )
