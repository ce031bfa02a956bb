-- What many hosts have between two of them is what a world of two has; and how it stays so.
use Rattle.std.proofs.Common.{◌≡◌, ◌≢◌, ◌<◌, ◌^◌, ℕ, ◌==◌, Bool, true, false, List, [], ◌∷◌, Option, refl, sym, ap, ◌∙◌, subst}
use Rattle.std.proofs.lemmas.Bool.{eqb-true, ne_eqb}
use Rattle.ncp_peer.specs.PeerState.{PeerState}
use Rattle.ncp_host.specs.Host.{Host, state_of}
use Rattle.ncp_subnet.specs.Ways.{OnLink}
use Rattle.ncp_subnet.specs.Subnet.{Subnet, has_way, with_transit}
use Rattle.ncp_transcript.specs.declared.note.HostNote.{HostNote}
use Rattle.ncp_transcript.specs.After as transcripts
use Rattle.ncp_transcript.specs.Runs as runs
use Rattle.ncp_proof_runs.specs.Peers.{names, note_for}
use Rattle.ncp_proof_runs.proofs.States.{done}
use Rattle.ncp_proof_runs.proofs.HostRuns.{Holds, note-state}
use Rattle.ncp_proof_runs.proofs.EachPeer.{holds-after}
use Rattle.ncp_transcript_two.specs.Between.{Hosts}
use Rattle.ncp_transcript_two.proofs.SeenRuns.{counterpart}
use Rattle.ncp_transcript_many.specs.Network.{Network, is_there, host_at, host_notes, put_transit}
use Rattle.ncp_transcript_many.proofs.Crowds.{host-here, host-there}
use Rattle.ncp_transcript_many.proofs.Untouched.{noted-there, untouched}
use Rattle.ncp_transcript_many.proofs.Transits.{SameWay, put-alike, put-elsewhere, AllInPlace}

-- Of many alone: each host keeps what names its peers, and what is in transit has its place in its leader.

pub record Fine (m : Network) : Type 0 where
  pub fits : (k : ℕ) → is_there k m ≡ true → k < 2 ^ 8
  pub own : (k : ℕ) → is_there k m ≡ true → (ns : List ℕ) × Holds ns (host_at k m)
  pub in_place : AllInPlace m.subnet

pub fine-noted : (m : Network) (k : ℕ) (n : HostNote) → Fine m → is_there k m ≡ true → runs.IsHostSaid n (host_at k m) → Fine (host_notes k n m)
fine-noted m k n f there said = record { fits = λ j e. f.fits j (sym (noted-there k j n m) ∙ e); own = own; in_place = f.in_place }
  where
    own : (j : ℕ) → is_there j (host_notes k n m) ≡ true → (ns : List ℕ) × Holds ns (host_at j (host_notes k n m))
    own j e = go (k == j) refl
      where
        go : (b : Bool) → (k == j) ≡ b → (ns : List ℕ) × Holds ns (host_at j (host_notes k n m))
        go true t =
            let h = f.own k there in
            subst (λ (i : ℕ). (ns : List ℕ) × Holds ns (host_at i (host_notes k n m))) (eqb-true k j t)
            (h.0, subst (Holds h.0) (sym (host-here k n m there)) (holds-after h.0 n (host_at k m) h.1 said))
        go false t =
            subst (λ (h : Host). (ns : List ℕ) × Holds ns h) (sym (host-there k j n m t)) (f.own j (sym (noted-there k j n m) ∙ e))

pub fine-subnet : (m : Network) (s : Subnet) → Fine m → AllInPlace s → Fine (record m { subnet = s })
fine-subnet m s f all = record { fits = f.fits; own = f.own; in_place = all }

-- Of two of them, and a world of two.

pub record Agrees (m : Network) (w : Hosts) : Type 0 where
  pub differ : w.number_a ≢ w.number_b
  pub there_a : is_there w.number_a m ≡ true
  pub there_b : is_there w.number_b m ≡ true
  pub own_a : Holds (w.number_b ∷ []) w.a
  pub own_b : Holds (w.number_a ∷ []) w.b
  pub here : state_of (host_at w.number_a m) w.number_b ≡ state_of w.a w.number_b
  pub there : state_of (host_at w.number_b m) w.number_a ≡ state_of w.b w.number_a
  pub going : SameWay m.subnet w.subnet w.number_a w.number_b
  pub coming : SameWay m.subnet w.subnet w.number_b w.number_a
  pub many_to_b : has_way m.subnet w.number_a w.number_b ≡ true
  pub many_to_a : has_way m.subnet w.number_b w.number_a ≡ true
  pub two_to_b : has_way w.subnet w.number_a w.number_b ≡ true
  pub two_to_a : has_way w.subnet w.number_b w.number_a ≡ true

pub agrees-counterpart : (m : Network) (w : Hosts) → Agrees m w → Agrees m (counterpart w)
agrees-counterpart m w g = record {
  differ = λ e. g.differ (sym e);
  there_a = g.there_b;
  there_b = g.there_a;
  own_a = g.own_b;
  own_b = g.own_a;
  here = g.there;
  there = g.here;
  going = g.coming;
  coming = g.going;
  many_to_b = g.many_to_a;
  many_to_a = g.many_to_b;
  two_to_b = g.two_to_a;
  two_to_a = g.two_to_b;
}

-- side A notes the same in both
pub agrees-noted : (m : Network) (w : Hosts) (n : HostNote) → Fine m → Agrees m w → runs.IsHostSaid n (host_at w.number_a m) → runs.IsHostSaid n w.a
    → Agrees (host_notes w.number_a n m) (record w { a = transcripts.after_note n w.a })
agrees-noted m w n f g in_many in_two = record {
  differ = g.differ;
  there_a = noted-there w.number_a w.number_a n m ∙ g.there_a;
  there_b = noted-there w.number_a w.number_b n m ∙ g.there_b;
  own_a = holds-after (w.number_b ∷ []) n w.a g.own_a in_two;
  own_b = g.own_b;
  here =
      ap (λ (h : Host). state_of h w.number_b) (host-here w.number_a n m g.there_a)
      ∙ note-state own.0 n (host_at w.number_a m) w.number_b own.1 in_many
      ∙ ap (λ (o : Option PeerState). done (names w.number_b n) (note_for n) o) g.here
      ∙ sym (note-state (w.number_b ∷ []) n w.a w.number_b g.own_a in_two);
  there = ap (λ (h : Host). state_of h w.number_a) (host-there w.number_a w.number_b n m (ne_eqb w.number_a w.number_b g.differ)) ∙ g.there;
  going = g.going;
  coming = g.coming;
  many_to_b = g.many_to_b;
  many_to_a = g.many_to_a;
  two_to_b = g.two_to_b;
  two_to_a = g.two_to_a;
}
  where
    own : (ns : List ℕ) × Holds ns (host_at w.number_a m)
    own = f.own w.number_a g.there_a

-- a host notes what is not of these two
pub agrees-others : (m : Network) (w : Hosts) (k : ℕ) (n : HostNote) → Fine m → Agrees m w → is_there k m ≡ true → runs.IsHostSaid n (host_at k m)
    → (k ≡ w.number_a → names w.number_b n ≡ false) → (k ≡ w.number_b → names w.number_a n ≡ false) → Agrees (host_notes k n m) w
agrees-others m w k n f g is_here said not_b not_a = record {
  differ = g.differ;
  there_a = noted-there k w.number_a n m ∙ g.there_a;
  there_b = noted-there k w.number_b n m ∙ g.there_b;
  own_a = g.own_a;
  own_b = g.own_b;
  here = untouched k w.number_a w.number_b n m own.0 is_here own.1 said not_b ∙ g.here;
  there = untouched k w.number_b w.number_a n m own.0 is_here own.1 said not_a ∙ g.there;
  going = g.going;
  coming = g.coming;
  many_to_b = g.many_to_b;
  many_to_a = g.many_to_a;
  two_to_b = g.two_to_b;
  two_to_a = g.two_to_a;
}
  where
    own : (ns : List ℕ) × Holds ns (host_at k m)
    own = f.own k is_here

-- both subnets come to have the same between the two
pub agrees-subnets : (m : Network) (w : Hosts) (s t : Subnet) → Agrees m w → SameWay s t w.number_a w.number_b → SameWay s t w.number_b w.number_a
    → has_way s w.number_a w.number_b ≡ true → has_way s w.number_b w.number_a ≡ true → has_way t w.number_a w.number_b ≡ true → has_way t w.number_b w.number_a ≡ true
    → Agrees (record m { subnet = s }) (record w { subnet = t })
agrees-subnets m w s t g going coming sb sa tb ta = record {
  differ = g.differ;
  there_a = g.there_a;
  there_b = g.there_b;
  own_a = g.own_a;
  own_b = g.own_b;
  here = g.here;
  there = g.there;
  going = going;
  coming = coming;
  many_to_b = sb;
  many_to_a = sa;
  two_to_b = tb;
  two_to_a = ta;
}

-- on a link of side A
pub agrees-put : (m : Network) (w : Hosts) (link : ℕ) (x : OnLink) → Agrees m w
    → Agrees (put_transit w.number_a w.number_b link x m) (record w { subnet = with_transit w.subnet w.number_a w.number_b link x })
agrees-put m w link x g =
    agrees-subnets m w (with_transit m.subnet w.number_a w.number_b link x) (with_transit w.subnet w.number_a w.number_b link x) g
    (put-alike m.subnet w.subnet w.number_a w.number_b w.number_a w.number_b link x g.going)
    (put-alike m.subnet w.subnet w.number_b w.number_a w.number_a w.number_b link x g.coming)
    g.many_to_b g.many_to_a g.two_to_b g.two_to_a

-- on a link between others
pub agrees-put-others : (m : Network) (w : Hosts) (from to link : ℕ) (x : OnLink) → Agrees m w → (w.number_a ≡ from → w.number_b ≡ to → ⊥) → (w.number_b ≡ from → w.number_a ≡ to → ⊥)
    → Agrees (put_transit from to link x m) w
agrees-put-others m w from to link x g not_going not_coming =
    agrees-subnets m w (with_transit m.subnet from to link x) w.subnet g
    (λ on. put-elsewhere m.subnet w.number_a w.number_b from to link x not_going on ∙ g.going on)
    (λ on. put-elsewhere m.subnet w.number_b w.number_a from to link x not_coming on ∙ g.coming on)
    g.many_to_b g.many_to_a g.two_to_b g.two_to_a
