-- A beginning of a transcript is one too.
use Rattle.std.proofs.Common.{◌≡◌, ◌<◌, ◌^◌, ℕ, List, [], ◌∷◌, ◌++◌, refl, sym, ap, ◌∙◌, subst}
use Rattle.ncp_transcript_two.specs.declared.side.Side.TheVariants.{A, B}
use Rattle.ncp_transcript_two.specs.declared.note.Note.{Note}
use Rattle.ncp_transcript_two.specs.Between.{Hosts, hosts_after_note, hosts_after_notes}
use Rattle.ncp_transcript_two.specs.Transcript.{IsRun, began, IsTranscript}

-- the numbers of the hosts stay
began-noted : (note : Note) (w : Hosts) → began (hosts_after_note note w) ≡ began w
began-noted (Note.Called A note) w = refl
began-noted (Note.Called B note) w = refl
began-noted (Note.Out A note) w = refl
began-noted (Note.Out B note) w = refl
began-noted (Note.Came A link note) w = refl
began-noted (Note.Came B link note) w = refl
began-noted (Note.Lost side link) w = refl
began-noted (Note.FoundDead side link) w = refl
began-noted (Note.Answered A link note) w = refl
began-noted (Note.Answered B link note) w = refl
began-noted (Note.Nothing side link wanted) w = refl

began-all : (ns : List Note) (w : Hosts) → began (hosts_after_notes ns w) ≡ began w
began-all [] w = refl
began-all (note ∷ ns) w = began-all ns (hosts_after_note note w) ∙ began-noted note w

run-front : (some more : List Note) (w : Hosts) → IsRun (some ++ more) w → IsRun some w
run-front [] more w r = tt
run-front (note ∷ ns) more w r = (r.0, run-front ns more (hosts_after_note note w) r.1)

pub begins : (some more : List Note) (w : Hosts) → IsTranscript (some ++ more) w → IsTranscript some (hosts_after_notes some (began w))
begins some more w t =
    let same : began (hosts_after_notes some (began w)) ≡ began w = began-all some (began w) in
    let a : (hosts_after_notes some (began w)).number_a ≡ w.number_a = ap (λ (x : Hosts). x.number_a) same in
    let b : (hosts_after_notes some (began w)).number_b ≡ w.number_b = ap (λ (x : Hosts). x.number_b) same in
    record {
      differ = λ e. t.differ (sym a ∙ e ∙ b);
      fits_a = subst (λ (n : ℕ). n < 2 ^ 8) (sym a) t.fits_a;
      fits_b = subst (λ (n : ℕ). n < 2 ^ 8) (sym b) t.fits_b;
      run = subst (IsRun some) (sym same) (run-front some more (began w) t.run);
      state = ap (hosts_after_notes some) (sym same);
    }
