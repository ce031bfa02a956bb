-- Hosts by their numbers: where they begin, what a note of one leaves, and that a note of two of them leaves
-- what it leaves of a world of two.
use Rattle.std.proofs.Common.{◌≡◌, ◌≢◌, ℕ, ◌==◌, Bool, true, false, if◌then◌else◌, List, [], ◌∷◌, Option, Some, refl, sym, ap, ◌∙◌}
use Rattle.std.proofs.lemmas.Bool.{eq-eqb, ne_eqb}
use Rattle.ncp_subnet.specs.Subnet.{Subnet}
use Rattle.ncp_host.specs.Host.{Host, is_one_of, new_host}
use Rattle.ncp_transcript.specs.declared.note.HostNote.{HostNote}
use Rattle.ncp_transcript.specs.After as after
use Rattle.ncp_transcript_two.specs.declared.side.Side.TheVariants.{A, B}
use Rattle.ncp_transcript_two.specs.declared.note.Note.{Note}
use Rattle.ncp_transcript_two.specs.declared.note.Note.TheVariants as notes
use Rattle.ncp_transcript_two.specs.Between.{Hosts, hosts_after_note}
use Rattle.ncp_transcript_many.specs.declared.many_note.ManyNote.{ManyNote}
use Rattle.ncp_transcript_many.specs.declared.many_note.ManyNote.TheVariants as many
use Rattle.ncp_transcript_many.specs.Numbered.{thing_in}
use Rattle.ncp_transcript_many.specs.Network.{Network, numbers_in, is_there, others, new_network, host_or_none, host_at, between, host_notes, after_many, after_many_notes}
use Rattle.ncp_transcript_many.specs.ManyHappening.{by_numbers}
use Rattle.ncp_transcript_many.proofs.Numbered.{done, done_not, thing-at, numbers-stay, thing-there, thing-made, numbers-made}

-- The beginning.

pub many-new : (ns : List ℕ) (k : ℕ) → is_one_of k ns ≡ true → host_at k (new_network ns) ≡ new_host k (others k ns)
many-new ns k there = ap (host_or_none k) (thing-made (λ n. new_host n (others n ns)) ns k there)

pub new-numbers : (ns : List ℕ) → numbers_in (new_network ns) ≡ ns
new-numbers ns = numbers-made (λ n. new_host n (others n ns)) ns

-- One note of one host.

pub host-here : (k : ℕ) (note : HostNote) (m : Network) → is_there k m ≡ true → host_at k (host_notes k note m) ≡ after.after_note note (host_at k m)
host-here k note m there =
    let f : Host → Host = after.after_note note in
    let h : (it : Host) × (thing_in m.hosts k ≡ Some it) = thing-there m.hosts k there in
    ap (host_or_none k) (thing-at m.hosts k k f ∙ ap (done (k == k) f) h.1 ∙ ap (λ (b : Bool). Some (if b then f h.0 else h.0)) (eq-eqb k k refl))
    ∙ ap (λ (o : Option Host). f (host_or_none k o)) (sym h.1)

pub host-there : (k j : ℕ) (note : HostNote) (m : Network) → (k == j) ≡ false → host_at j (host_notes k note m) ≡ host_at j m
host-there k j note m apart =
    let f : Host → Host = after.after_note note in
    ap (host_or_none j) (thing-at m.hosts k j f ∙ ap (λ (b : Bool). done b f (thing_in m.hosts j)) apart ∙ sym (done_not f (thing_in m.hosts j)))

-- The hosts stay the same ones.

pub numbers-after : (note : ManyNote) (m : Network) → numbers_in (after_many note m) ≡ numbers_in m
numbers-after (many.Called host note) m = numbers-stay m.hosts host (after.after_note note)
numbers-after (many.Out host note) m = numbers-stay m.hosts host (after.after_note note)
numbers-after (many.Came from to link note) m = numbers-stay m.hosts to (after.after_note note)
numbers-after (many.Lost from to link) m = refl
numbers-after (many.FoundDead from to link) m = refl
numbers-after (many.Answered from to link note) m = numbers-stay m.hosts from (after.after_note note)
numbers-after (many.Nothing event) m = refl

pub numbers-after-all : (ns : List ManyNote) (m : Network) → numbers_in (after_many_notes ns m) ≡ numbers_in m
numbers-after-all [] m = refl
numbers-after-all (note ∷ rest) m = numbers-after-all rest (after_many note m) ∙ numbers-after note m

pub there-after : (k : ℕ) (note : ManyNote) (m : Network) → is_there k (after_many note m) ≡ is_there k m
there-after k note m = ap (is_one_of k) (numbers-after note m)

-- A note of two of them, of which one is there: the two are what it leaves of a world of two, and the subnet too.

abbrev world : ℕ → ℕ → Subnet → Host → Host → Hosts
world a b subnet h k = record { number_a = a; number_b = b; a = h; b = k; subnet = subnet }

module _ (a b : ℕ) (m : Network) (differ : a ≢ b) where
  first : (note : HostNote) (subnet : Subnet) → is_there a m ≡ true → world a b subnet (host_at a (host_notes a note m)) (host_at b (host_notes a note m)) ≡ world a b subnet (after.after_note note (host_at a m)) (host_at b m)
  first note subnet there =
      ap (λ (h : Host). world a b subnet h (host_at b (host_notes a note m))) (host-here a note m there)
      ∙ ap (world a b subnet (after.after_note note (host_at a m))) (host-there a b note m (ne_eqb a b differ))

  second : (note : HostNote) (subnet : Subnet) → is_there b m ≡ true → world a b subnet (host_at a (host_notes b note m)) (host_at b (host_notes b note m)) ≡ world a b subnet (host_at a m) (after.after_note note (host_at b m))
  second note subnet there =
      ap (λ (h : Host). world a b subnet h (host_at b (host_notes b note m))) (host-there b a note m (ne_eqb b a (λ e. differ (sym e))))
      ∙ ap (world a b subnet (host_at a m)) (host-here b note m there)

  pub between-after : (note : Note) → is_there a m ≡ true → is_there b m ≡ true → between a b (after_many (by_numbers a b note) m) ≡ hosts_after_note note (between a b m)
  between-after (notes.Called A note) i j = first note _ i
  between-after (notes.Called B note) i j = second note _ j
  between-after (notes.Out A note) i j = first note _ i
  between-after (notes.Out B note) i j = second note _ j
  between-after (notes.Came A link note) i j = second note _ j
  between-after (notes.Came B link note) i j = first note _ i
  between-after (notes.Lost A link) i j = refl
  between-after (notes.Lost B link) i j = refl
  between-after (notes.FoundDead A link) i j = refl
  between-after (notes.FoundDead B link) i j = refl
  between-after (notes.Answered A link note) i j = first note _ i
  between-after (notes.Answered B link note) i j = second note _ j
  between-after (notes.Nothing A link wanted) i j = refl
  between-after (notes.Nothing B link wanted) i j = refl
