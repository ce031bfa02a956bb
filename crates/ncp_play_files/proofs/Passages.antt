-- `==` of passages, by their directions and their hosts.
use Rattle.std.proofs.Common.{◌≡◌, ℕ, Bool, true, false, not, eqb, ◌&&◌, Option, Some, None, refl, sym, ap, ◌∙◌}
use denote.Enum.Bare.{sameb}
use Rattle.std.specs.Option.{option_eq}
use Rattle.ncp_play_files.specs.contracts.file.Direction.{the_type}
use Rattle.ncp_play_files.specs.declared.file.Direction.{Direction}
use Rattle.ncp_play_files.specs.declared.file.Direction.TheVariants.{ToImp, FromImp}
use Rattle.ncp_play_files.specs.declared.version.CapturePoint.{CapturePoint}
use Rattle.ncp_play_files.specs.Converted.{same_direction, same_host, same_capture_point}

directions : (a b : Direction) → sameb the_type a b ≡ same_direction a b
directions ToImp ToImp = refl
directions ToImp FromImp = refl
directions FromImp ToImp = refl
directions FromImp FromImp = refl

hosts : (a b : Option ℕ) → option_eq eqb a b ≡ same_host a b
hosts None None = refl
hosts None (Some b) = refl
hosts (Some a) None = refl
hosts (Some a) (Some b) = refl

abbrev are_equal : CapturePoint → CapturePoint → Bool
are_equal a b = sameb the_type a.direction b.direction && option_eq eqb a.at b.at

equal : (a b : CapturePoint) → are_equal a b ≡ same_capture_point a b
equal a b = ap (λ d. d && option_eq eqb a.at b.at) (directions a.direction b.direction) ∙ ap (λ h. same_direction a.direction b.direction && h) (hosts a.at b.at)

holds : (t : Bool) → not t ≡ false → t ≡ true
holds true h = refl
holds false h = let e : ⊥ = cc in absurd e

fails : (t : Bool) → not t ≡ true → t ≡ false
fails true h = let e : ⊥ = cc in absurd e
fails false h = refl

pub is_same : (a b : CapturePoint) → not (are_equal a b) ≡ false → same_capture_point a b ≡ true
is_same a b h = sym (equal a b) ∙ holds (are_equal a b) h

pub is_other : (a b : CapturePoint) → not (are_equal a b) ≡ true → same_capture_point a b ≡ false
is_other a b h = sym (equal a b) ∙ fails (are_equal a b) h
