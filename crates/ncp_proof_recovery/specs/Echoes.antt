-- An echo is answered (NIC 8246, ECO and ERP): if only a call can happen next, and both hosts are up,
-- neither awaits one.
use Rattle.std.specs.Prelude.{◌≡◌, true, false, List}
use Rattle.ncp_model.specs.Phase.{up}
use Rattle.ncp_proof_machine.specs.Resets.{is_up}
use Rattle.ncp_proof_machine.specs.Hosts.{TwoNodes}
use Rattle.ncp_transcript_two.specs.World.{World}
use Rattle.ncp_transcript_two.specs.declared.note.Note.{Note}
use Rattle.ncp_transcript_two.specs.Between.{Hosts}
use Rattle.ncp_transcript_two.specs.Seen.{seen}
use Rattle.ncp_proof_quiescence.specs.Settled.{IsSettled}

-- for two hosts of the model
abbrev pub NoneAwaits : TwoNodes → Type 0
NoneAwaits w = is_up w.this.host ≡ true → is_up w.that.host ≡ true → (w.this.echoes.awaited ≡ false) × (w.that.echoes.awaited ≡ false)

-- for a transcript
abbrev pub NoneAwaitsThen : World → Type 0
NoneAwaitsThen v = up v.this.peer.phase ≡ true → up v.that.peer.phase ≡ true → (v.this.peer.echoes.awaited ≡ false) × (v.that.peer.echoes.awaited ≡ false)

abbrev pub EchoesAreAnswered : List Note → Hosts → Type 0
EchoesAreAnswered ns w = IsSettled (seen w) → NoneAwaitsThen (seen w)
