-- A message that came at the host of a side: its note, and what that leaves.
use Rattle.std.proofs.Common.{◌≡◌, ℕ, Option, Some, sym, ap, ◌∙◌}
use Rattle.ncp_subnet.specs.declared.transit.Transit.{Transit}
use Rattle.ncp_subnet.specs.Messages.{arriving}
use Rattle.ncp_subnet.specs.Subnet.{Subnet, transit_at}
use Rattle.ncp_host.specs.Host.{Host}
use Rattle.ncp_transcript.specs.declared.note.HostNote.{HostNote}
use Rattle.ncp_transcript_two.specs.declared.side.Side.{Side}
use Rattle.ncp_transcript_two.specs.declared.side.Side.TheVariants.{A, B}
use Rattle.ncp_transcript_two.specs.declared.note.Note.TheVariants as notes
use Rattle.ncp_transcript_two.specs.Between.{Hosts, other, side_number, transit_of, hosts_after_note}
use Rattle.ncp_transcript_two.specs.Happening.{note_of_delivery}
use Rattle.ncp_step.specs.Noted.{note_if_any, after_noted, put_noted}
use Rattle.ncp_step.proofs.Telling.{came-noted}

-- what is in transit there, as the code asks for it
pub transit-is : (x w : Hosts) (side o : Side) (link from to : ℕ) → x ≡ w → from ≡ side_number side w → o ≡ other side → to ≡ side_number o w → transit_at x.subnet from to link ≡ transit_of side link w
transit-is x w side o link from to e f counterpart t =
    let t2 : to ≡ side_number (other side) w = t ∙ ap (λ (s : Side). side_number s w) counterpart in
    λ k. transit_at (e k).subnet (f k) (t2 k) link

module _ (x w : Hosts) (o : Side) (link from to : ℕ) (e : x ≡ w) (note : HostNote) (noted : Option HostNote) (is : noted ≡ Some note) where
  pub noted-at-b : (side : Side) → side ≡ A → from ≡ side_number side w → o ≡ other side → to ≡ side_number o w → noted ≡ note_if_any (arriving from (transit_at x.subnet from to link)) x.b → notes.Came side link note ≡ note_of_delivery side link w
  noted-at-b A a f counterpart t n =
      let there = transit-is x w A o link from to e f counterpart t in
      came-noted A link (arriving w.number_a (transit_of A link w)) w note (sym is ∙ n ∙ (λ k. note_if_any (arriving (f k) (there k)) (e k).b))
  noted-at-b B a f counterpart t n = absurd (cc a)

  pub noted-at-a : (side : Side) → side ≡ B → from ≡ side_number side w → o ≡ other side → to ≡ side_number o w → noted ≡ note_if_any (arriving from (transit_at x.subnet from to link)) x.a → notes.Came side link note ≡ note_of_delivery side link w
  noted-at-a A b f counterpart t n = absurd (cc b)
  noted-at-a B b f counterpart t n =
      let there = transit-is x w B o link from to e f counterpart t in
      came-noted B link (arriving w.number_b (transit_of B link w)) w note (sym is ∙ n ∙ (λ k. note_if_any (arriving (f k) (there k)) (e k).a))

  pub came-at-b : (side : Side) (h : Host) (s : Subnet) → side ≡ A → from ≡ side_number side w → o ≡ other side → to ≡ side_number o w → h ≡ after_noted noted x.b → s ≡ put_noted noted from to link Transit.Delivered x.subnet
      → ◌≡◌ {A = Hosts} (record x { b = h; subnet = s }) (hosts_after_note (notes.Came side link note) w)
  came-at-b A h s a f counterpart t host subnet =
      let t2 : to ≡ w.number_b = t ∙ ap (λ (s : Side). side_number s w) counterpart in
      let h2 = host ∙ (λ k. after_noted (is k) (e k).b) in
      let s2 = subnet ∙ (λ k. put_noted (is k) (f k) (t2 k) link Transit.Delivered (e k).subnet) in
      λ k. record (e k) { b = h2 k; subnet = s2 k }
  came-at-b B h s a f counterpart t host subnet = absurd (cc a)

  pub came-at-a : (side : Side) (h : Host) (s : Subnet) → side ≡ B → from ≡ side_number side w → o ≡ other side → to ≡ side_number o w → h ≡ after_noted noted x.a → s ≡ put_noted noted from to link Transit.Delivered x.subnet
      → ◌≡◌ {A = Hosts} (record x { a = h; subnet = s }) (hosts_after_note (notes.Came side link note) w)
  came-at-a A h s b f counterpart t host subnet = absurd (cc b)
  came-at-a B h s b f counterpart t host subnet =
      let t2 : to ≡ w.number_a = t ∙ ap (λ (s : Side). side_number s w) counterpart in
      let h2 = host ∙ (λ k. after_noted (is k) (e k).a) in
      let s2 = subnet ∙ (λ k. put_noted (is k) (f k) (t2 k) link Transit.Delivered (e k).subnet) in
      λ k. record (e k) { a = h2 k; subnet = s2 k }
