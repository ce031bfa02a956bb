-- The order of events that need no call, of two hosts and of three.
use Rattle.std.proofs.Common.{◌≡◌, ℕ, suc, ◌==◌, true, false, if◌then◌else◌, [], ◌∷◌, Option, None, Some, ap, ◌∙◌}
use Rattle.std.specs.Prelude.{option_map}
use Rattle.std.specs.Option.{option_or}
use Rattle.ncp_subnet.specs.Ways.{OnLink}
use Rattle.ncp_transcript_two.specs.declared.side.Side.TheVariants.{A, B}
use Rattle.ncp_transcript_two.specs.declared.event.Event.{Event}
use Rattle.ncp_transcript_two.specs.Between.{Hosts}
use Rattle.ncp_transcript_many.specs.declared.many_event.ManyEvent.{ManyEvent}
use Rattle.ncp_transcript_many.specs.Network.{Network}
use Rattle.ncp_world.specs.Lowest.{lowest_kept}
use Rattle.ncp_world.specs.Kinds.{Kind}
use Rattle.ncp_world.specs.Next.{first_at, next_of_kept, next_to, next_at, next_by_itself}
use Rattle.ncp_world.specs.TwoKind.{two_kind}
use Rattle.ncp_world.specs.ManyKind.{many_kind}
use Rattle.ncp_world.proofs.Following.{next-out, next-kept}

module _ {Name E N H : Type 0} (kind : Kind Name E N H) where
  -- a message on the lowest link, of which the subnet has this
  pub going-by : (from to : Name) (h : H) (link : ℕ) (t : OnLink) → lowest_kept (kind.kept from to h) ≡ Some link → kind.transit from to h link ≡ t → next_to kind from to h ≡ Some (next_of_kept kind from to h link t)
  going-by from to h link t lowest has =
      ap (option_map (λ on. next_of_kept kind from to h on (kind.transit from to h on))) lowest ∙ ap (λ (it : OnLink). Some (next_of_kept kind from to h link it)) has

  pub none-going : (from to : Name) (h : H) → lowest_kept (kind.kept from to h) ≡ None → next_to kind from to h ≡ None
  none-going from to h lowest = ap (option_map (λ on. next_of_kept kind from to h on (kind.transit from to h on))) lowest

-- Two hosts.

abbrev First : Hosts → Option Event → Option Event
First w it = option_or it (first_at (λ (k : ℕ). next_at two_kind w (suc k)) (B ∷ []))

pub two-sends : (w : Hosts) → two_kind.ready A w ≡ true → next_by_itself two_kind w ≡ Some (two_kind.out A)
two-sends w e = ap (First w) (next-out two_kind w 0 A e)

pub two-goes : (w : Hosts) (event : Event) → two_kind.ready A w ≡ false → next_to two_kind A B w ≡ Some event → next_by_itself two_kind w ≡ Some event
two-goes w event e f = ap (First w) (next-kept two_kind w 0 A e ∙ ap (λ (it : Option Event). option_or it None) f)

two-rests : (w : Hosts) → two_kind.ready A w ≡ false → next_to two_kind A B w ≡ None → next_by_itself two_kind w ≡ option_or (next_at two_kind w 1 B) None
two-rests w e f = ap (First w) (next-kept two_kind w 0 A e ∙ ap (λ (it : Option Event). option_or it None) f)

pub two-other : (w : Hosts) → two_kind.ready A w ≡ false → next_to two_kind A B w ≡ None → two_kind.ready B w ≡ true → next_by_itself two_kind w ≡ Some (two_kind.out B)
two-other w e f g = two-rests w e f ∙ ap (λ (it : Option Event). option_or it None) (next-out two_kind w 1 B g)

pub two-none : (w : Hosts) → two_kind.ready A w ≡ false → next_to two_kind A B w ≡ None → two_kind.ready B w ≡ false → next_to two_kind B A w ≡ None → next_by_itself two_kind w ≡ None
two-none w e f g h =
    two-rests w e f ∙ ap (λ (it : Option Event). option_or it None) (next-kept two_kind w 1 B g ∙ ap (λ (it : Option Event). option_or it None) h)

-- Three hosts.

module _ (m : Network) (a b c : ℕ) (named : many_kind.names m ≡ a ∷ b ∷ c ∷ []) where
  abbrev After : Option ManyEvent → Option ManyEvent
  After it = option_or it (first_at (λ (k : ℕ). next_at many_kind m (suc k)) (b ∷ c ∷ []))

  firsts : next_by_itself many_kind m ≡ After (next_at many_kind m 0 a)
  firsts = ap (first_at (next_at many_kind m)) named

  pub many-sends : many_kind.ready a m ≡ true → next_by_itself many_kind m ≡ Some (many_kind.out a)
  many-sends e = firsts ∙ ap After (next-out many_kind m 0 a e)

  abbrev Goes : Option ManyEvent → Option ManyEvent → Option ManyEvent
  Goes it other = option_or it (option_or other None)

  -- no message goes on
  stays : (it other : Option ManyEvent) → it ≡ None → other ≡ None → Goes it other ≡ None
  stays it other e f = ap (λ (one : Option ManyEvent). Goes one other) e ∙ ap (Goes None) f

  kept-by : many_kind.ready a m ≡ false → next_at many_kind m 0 a ≡ Goes (next_to many_kind a b m) (next_to many_kind a c m)
  kept-by e = next-kept many_kind m 0 a e ∙ ap (first_at (λ (place : ℕ) (to : ℕ). if place == 0 then None else next_to many_kind a to m)) named

  pub many-goes : (event : ManyEvent) → many_kind.ready a m ≡ false → next_to many_kind a b m ≡ Some event → next_by_itself many_kind m ≡ Some event
  many-goes event e f = firsts ∙ ap After (kept-by e ∙ ap (λ (it : Option ManyEvent). Goes it (next_to many_kind a c m)) f)

  pub many-goes-next : (event : ManyEvent) → many_kind.ready a m ≡ false → next_to many_kind a b m ≡ None → next_to many_kind a c m ≡ Some event → next_by_itself many_kind m ≡ Some event
  many-goes-next event e f g = firsts ∙ ap After (kept-by e ∙ ap (λ (it : Option ManyEvent). Goes it (next_to many_kind a c m)) f ∙ ap (Goes None) g)

  -- the first host has no event
  abbrev Then : Option ManyEvent → Option ManyEvent
  Then it = option_or it (first_at (λ (k : ℕ). next_at many_kind m (suc (suc k))) (c ∷ []))

  many-rests : many_kind.ready a m ≡ false → next_to many_kind a b m ≡ None → next_to many_kind a c m ≡ None → next_by_itself many_kind m ≡ Then (next_at many_kind m 1 b)
  many-rests e f g = firsts ∙ ap After (kept-by e ∙ stays (next_to many_kind a b m) (next_to many_kind a c m) f g)

  pub many-other : many_kind.ready a m ≡ false → next_to many_kind a b m ≡ None → next_to many_kind a c m ≡ None → many_kind.ready b m ≡ true → next_by_itself many_kind m ≡ Some (many_kind.out b)
  many-other e f g h = many-rests e f g ∙ ap Then (next-out many_kind m 1 b h)

  -- nor the others
  kept-by-second : many_kind.ready b m ≡ false → next_at many_kind m 1 b ≡ Goes (next_to many_kind b a m) (next_to many_kind b c m)
  kept-by-second e = next-kept many_kind m 1 b e ∙ ap (first_at (λ (place : ℕ) (to : ℕ). if place == 1 then None else next_to many_kind b to m)) named

  kept-by-third : many_kind.ready c m ≡ false → next_at many_kind m 2 c ≡ Goes (next_to many_kind c a m) (next_to many_kind c b m)
  kept-by-third e = next-kept many_kind m 2 c e ∙ ap (first_at (λ (place : ℕ) (to : ℕ). if place == 2 then None else next_to many_kind c to m)) named

  pub many-none : many_kind.ready a m ≡ false → next_to many_kind a b m ≡ None → next_to many_kind a c m ≡ None
      → many_kind.ready b m ≡ false → next_to many_kind b a m ≡ None → next_to many_kind b c m ≡ None
      → many_kind.ready c m ≡ false → next_to many_kind c a m ≡ None → next_to many_kind c b m ≡ None → next_by_itself many_kind m ≡ None
  many-none e f g h i j k l n =
      many-rests e f g
      ∙ ap Then (kept-by-second h ∙ stays (next_to many_kind b a m) (next_to many_kind b c m) i j)
      ∙ ap (λ (it : Option ManyEvent). option_or it None) (kept-by-third k ∙ stays (next_to many_kind c a m) (next_to many_kind c b m) l n)
