-- The ledger of two of many is that of these two, balanced and booked.
use Rattle.std.proofs.Common.{◌≡◌, ◌≢◌, ℕ, ◌==◌, Bool, true, false, not, ◌&&◌, if◌then◌else◌, List, None, Some, refl, sym, ap, ◌∙◌, subst}
use Rattle.std.proofs.lemmas.Bool.{and_parts, eq-eqb}
use Rattle.ncp_model.specs.declared.pair.Pair.{Pair}
use Rattle.ncp_model.specs.Pairs.{counterpart}
use Rattle.ncp_proof_runs.specs.Peers.{notes_of_peer}
use Rattle.ncp_proof_runs.specs.Marks.{marks_of}
use Rattle.ncp_transcript_two.specs.World.{World}
use Rattle.ncp_transcript_two.specs.declared.ledger.Ledger.{Ledger}
use Rattle.ncp_transcript_two.specs.declared.note.Note.{Note}
use Rattle.ncp_transcript_two.specs.declared.side.Side.TheVariants.{A, B}
use Rattle.ncp_transcript_two.specs.Between.{Hosts}
use Rattle.ncp_transcript_two.specs.Ledgers.{ledger_from, ledger_of, IsBalanced}
use Rattle.ncp_transcript_two.specs.Seen.{seen}
use Rattle.ncp_transcript_two.specs.Sides.{notes_at}
use Rattle.ncp_transcript_two.specs.Transcript.{IsTranscript}
use Rattle.ncp_transcript_many.specs.declared.many_note.ManyNote.{ManyNote}
use Rattle.ncp_transcript_many.specs.Network.{Network, is_there, between}
use Rattle.ncp_transcript_many.specs.ManyHappening.{are_two}
use Rattle.ncp_transcript_many.specs.ManyTranscript.{IsManyTranscript}
use Rattle.ncp_transcript_many.specs.Pairs.{notes_between, hosts_between}
use Rattle.ncp_transcript_many.proofs.EachPair.{pair-runs, pair-seen}
use Rattle.ncp_world.specs.Booked.{Remains, IsBooked}
use Rattle.ncp_world.specs.Reckoning.{ledger_read}
use Rattle.ncp_world.specs.ManyLedgers.{many_ledger, many_ledger_read}
use Rattle.ncp_world.proofs.Ledgers.{ledger-seen, ledger-balanced}
use Rattle.ncp_world.proofs.Books.{ledger-booked}

module _ (ns : List ManyNote) (m : Network) (t : IsManyTranscript ns m) (from to : ℕ) (pair : Pair) where
  abbrev own : List Note
  own = notes_between from to ns

  abbrev alone : Hosts
  alone = hosts_between from to ns

  abbrev two : Hosts
  two = between from to m

  -- where both are there and differ, their own notes are a transcript, and lead to what is seen of them
  module _ (both : are_two from to m ≡ true) where
    there-both : (is_there from m ≡ true) × (is_there to m ≡ true)
    there-both = and_parts (is_there from m) (is_there to m) (and_parts (is_there from m && is_there to m) (not (from == to)) both).0

    apart : from ≢ to
    apart e =
        let differ : not (from == to) ≡ true = (and_parts (is_there from m && is_there to m) (not (from == to)) both).1 in
        absurd (cc (sym differ ∙ ap not (eq-eqb from to e)))

    run : IsTranscript own alone
    run = pair-runs ns m t from to there-both.0 there-both.1 apart

    same : seen alone ≡ seen two
    same = pair-seen ns m t from to there-both.0 there-both.1 apart

    is-ledger : ledger_read A pair two ≡ ledger_of A pair two
    is-ledger = ledger-seen own alone two run same pair

    there : (l : Ledger) → ledger_of A pair two ≡ Some l → ledger_of A pair alone ≡ Some l
    there l e = ap (ledger_from pair) same ∙ e

    balanced : (l : Ledger) → ledger_of A pair two ≡ Some l → IsBalanced l
    balanced l e = ledger-balanced own alone run A pair l (there l e)

    abbrev IsBookedAs : Ledger → World → Type 0
    IsBookedAs l v = Remains l.outstanding (marks_of (counterpart pair) (notes_of_peer v.here (notes_at B own))) × Remains l.counters (marks_of pair (notes_of_peer v.there (notes_at A own)))

    booked : (l : Ledger) → ledger_of A pair two ≡ Some l → IsBooked A pair own two l
    booked l e = subst (IsBookedAs l) same (ledger-booked own alone run A pair l (there l e))

  pub many-ledger-is : many_ledger_read from to pair m ≡ many_ledger from to pair m
  many-ledger-is = go (are_two from to m) refl
    where
      go : (b : Bool) → are_two from to m ≡ b → (if b then ledger_read A pair two else None) ≡ (if b then ledger_of A pair two else None)
      go true e = is-ledger e
      go false e = refl

  pub many-ledger-kept : (P : Ledger → Type 0) → (are_two from to m ≡ true → (l : Ledger) → ledger_of A pair two ≡ Some l → P l) → (l : Ledger) → many_ledger from to pair m ≡ Some l → P l
  many-ledger-kept P holds l e = go (are_two from to m) refl e
    where
      go : (b : Bool) → are_two from to m ≡ b → (if b then ledger_of A pair two else None) ≡ Some l → P l
      go true there is = holds there l is
      go false there is = absurd (cc is)

  pub many-balanced : (l : Ledger) → many_ledger from to pair m ≡ Some l → IsBalanced l
  many-balanced = many-ledger-kept IsBalanced balanced

  pub many-booked : (l : Ledger) → many_ledger from to pair m ≡ Some l → IsBooked A pair own two l
  many-booked = many-ledger-kept (IsBooked A pair own two) booked
