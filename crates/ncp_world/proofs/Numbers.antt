-- The numbers of two hosts stay, so the headline is of those with which they began.
use Rattle.std.proofs.Common.{◌≡◌, ℕ, List, [], ◌∷◌, refl, ap, ◌∙◌, subst}
use Rattle.ncp_transcript_two.specs.declared.note.Note.{Note}
use Rattle.ncp_transcript_two.specs.Between.{Hosts, new_hosts, hosts_after_note, hosts_after_notes}
use Rattle.ncp_transcript_two.specs.Transcript.{began}
use Rattle.ncp_transcript_two.proofs.Growing.{began_noted}
use Rattle.ncp_statement.specs.Statement.{Headline}

began-all : (ns : List Note) (w : Hosts) → began (hosts_after_notes ns w) ≡ began w
began-all [] w = refl
began-all (n ∷ ns) w = began-all ns (hosts_after_note n w) ∙ began_noted n w

pub of-numbers : (ns : List Note) (a b : ℕ) (w : Hosts) → w ≡ hosts_after_notes ns (new_hosts a b) → Headline w.number_a w.number_b ns → Headline a b ns
of-numbers ns a b w e h =
    let same : began w ≡ new_hosts a b = ap began e ∙ began-all ns (new_hosts a b) in
    subst (λ (x : Hosts). Headline x.number_a x.number_b ns) same h
