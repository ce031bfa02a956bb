-- One link, as its deeds tell it: a machine of four states, and what follows of a list that it passes.
use Rattle.std.proofs.Common.{◌≡◌, ℕ, Bool, true, false, List, [], ◌∷◌, refl, sym, ap, ◌∙◌, arith, subst}
use Rattle.ncp_transcript_two.specs.Subnet.{from_host}
use Rattle.ncp_transcript_two.specs.Honest.{MessageEvent, Sent, Arrives, Acked, Nacked, Other, InFlight, Clear, Flying, Landed, HonestFrom, sent_from, messages_coming, RepeatsFrom, IsPrefixWithin}

pub data Flight : Type 0 where
  Idle : Flight
  Again : (m : List Bool) → Flight  -- it was answered by an Incomplete Transmission
  Away : (m : List Bool) → Flight
  Here : Flight

abbrev pub Passes : ℕ → Flight → MessageEvent → Flight → Type 0
Passes number f Other g = g ≡ f
Passes number Idle (Sent m) g = g ≡ Away m
Passes number (Again m) (Sent n) g = (n ≡ m) × (g ≡ Away m)
Passes number (Away m) (Arrives n) g = (n ≡ from_host number m) × (g ≡ Here)
Passes number (Away m) Nacked g = g ≡ Again m
Passes number Here Acked g = g ≡ Idle
Passes number f d g = ⊥

abbrev pub Flies : ℕ → Flight → List MessageEvent → Type 0
Flies number f [] = Unit {0}
Flies number f (d ∷ ds) = (g : Flight) × Passes number f d g × Flies number g ds

abbrev pub position_of : Flight → InFlight
position_of Idle = Clear
position_of (Again m) = Clear
position_of (Away m) = Flying m
position_of Here = Landed

-- such a link is honest
pub honest : (number : ℕ) (f : Flight) (ds : List MessageEvent) → Flies number f ds → HonestFrom number (position_of f) ds
honest number f [] k = tt
honest number f (Other ∷ ds) k = honest number f ds (subst (λ (g : Flight). Flies number g ds) k.1 k.2)
honest number Idle (Sent m ∷ ds) k = honest number (Away m) ds (subst (λ (g : Flight). Flies number g ds) k.1 k.2)
honest number (Again m) (Sent n ∷ ds) k = subst (λ (x : List Bool). HonestFrom number (Flying x) ds) (sym k.1.0) (honest number (Away m) ds (subst (λ (g : Flight). Flies number g ds) k.1.1 k.2))
honest number (Away m) (Arrives n ∷ ds) k = (k.1.0, honest number Here ds (subst (λ (g : Flight). Flies number g ds) k.1.1 k.2))
honest number (Away m) (Nacked ∷ ds) k = honest number (Again m) ds (subst (λ (g : Flight). Flies number g ds) k.1 k.2)
honest number Here (Acked ∷ ds) k = honest number Idle ds (subst (λ (g : Flight). Flies number g ds) k.1 k.2)
honest number f (d ∷ ds) k = absurd k.1

-- what came is a beginning of what was sent, and that of what is away comes first

abbrev pub to_come : ℕ → Flight → List (List Bool) → List (List Bool)
to_come number Idle xs = xs
to_come number (Again m) xs = from_host number m ∷ xs
to_come number (Away m) xs = from_host number m ∷ xs
to_come number Here xs = xs

-- after an Incomplete Transmission the next Out is not fresh
abbrev pub Fresh : Flight → Bool → Type 0
Fresh Idle b = b ≡ true
Fresh (Again m) b = b ≡ false
Fresh (Away m) b = Unit {0}
Fresh Here b = Unit {0}

pub begins : (number : ℕ) (f : Flight) (b : Bool) (ds : List MessageEvent) → Fresh f b → Flies number f ds → IsPrefixWithin 1 (messages_coming ds) (to_come number f (sent_from number b ds))
begins number Idle b [] r k = ([], refl, omega arith)
begins number (Again m) b [] r k = (from_host number m ∷ [], refl, omega arith)
begins number (Away m) b [] r k = (from_host number m ∷ [], refl, omega arith)
begins number Here b [] r k = ([], refl, omega arith)
begins number f b (Other ∷ ds) r k = begins number f b ds r (subst (λ (g : Flight). Flies number g ds) k.1 k.2)
begins number Idle true (Sent m ∷ ds) r k = begins number (Away m) true ds tt (subst (λ (g : Flight). Flies number g ds) k.1 k.2)
begins number Idle false (Sent m ∷ ds) r k = absurd (cc r)
begins number (Again m) true (Sent n ∷ ds) r k = absurd (cc r)
begins number (Again m) false (Sent n ∷ ds) r k = begins number (Away m) false ds tt (subst (λ (g : Flight). Flies number g ds) k.1.1 k.2)
begins number (Away m) b (Arrives n ∷ ds) r k =
    let t = begins number Here b ds tt (subst (λ (g : Flight). Flies number g ds) k.1.1 k.2) in
    (t.0, ap (λ (x : List Bool). x ∷ sent_from number b ds) (sym k.1.0) ∙ ap (λ (xs : List (List Bool)). n ∷ xs) t.1, t.2)
begins number (Away m) b (Nacked ∷ ds) r k = begins number (Again m) false ds refl (subst (λ (g : Flight). Flies number g ds) k.1 k.2)
begins number Here b (Acked ∷ ds) r k = begins number Idle true ds refl (subst (λ (g : Flight). Flies number g ds) k.1 k.2)
begins number f b (d ∷ ds) r k = absurd k.1

-- the message that went out last
abbrev pub IsLast : Flight → List Bool → Type 0
IsLast Idle last = Unit {0}
IsLast (Again m) last = m ≡ last
IsLast (Away m) last = m ≡ last
IsLast Here last = Unit {0}

pub repeats : (number : ℕ) (f : Flight) (last : List Bool) (b : Bool) (ds : List MessageEvent) → Fresh f b → IsLast f last → Flies number f ds → RepeatsFrom last b ds
repeats number f last b [] r l k = tt
repeats number f last b (Other ∷ ds) r l k = repeats number f last b ds r l (subst (λ (g : Flight). Flies number g ds) k.1 k.2)
repeats number Idle last true (Sent m ∷ ds) r l k = repeats number (Away m) m true ds tt refl (subst (λ (g : Flight). Flies number g ds) k.1 k.2)
repeats number Idle last false (Sent m ∷ ds) r l k = absurd (cc r)
repeats number (Again m) last true (Sent n ∷ ds) r l k = absurd (cc r)
repeats number (Again m) last false (Sent n ∷ ds) r l k = (k.1.0 ∙ l, repeats number (Away m) last false ds tt l (subst (λ (g : Flight). Flies number g ds) k.1.1 k.2))
repeats number (Away m) last b (Arrives n ∷ ds) r l k = repeats number Here last b ds tt tt (subst (λ (g : Flight). Flies number g ds) k.1.1 k.2)
repeats number (Away m) last b (Nacked ∷ ds) r l k = repeats number (Again m) last false ds refl l (subst (λ (g : Flight). Flies number g ds) k.1 k.2)
repeats number Here last b (Acked ∷ ds) r l k = repeats number Idle last true ds refl tt (subst (λ (g : Flight). Flies number g ds) k.1 k.2)
repeats number f last b (d ∷ ds) r l k = absurd k.1
