-- Whether an argument without a value is given, from its text.
use Rattle.std.proofs.Common.{◌≡◌, ◌≢◌, Bool, true, false, Option, Some, None, Result, Ok, Err, codes, refl, sym, ap}
use Rattle.std.specs.Prelude.{unwrap_or}
use Rattle.std.specs.Str.{bytes_eq}
use Rattle.std.specs.Str.Parse.{ParsesBool}
use Rattle.std.proofs.lemmas.Slice.Eq.{bytes_eq-Decides}
use Rattle.clap.specs.Matches.{ReadsOne}
use Rattle.clap.specs.Walk.{Text}

other_text : (text : Text) (b : Bool) → bytes_eq text (codes "true") ≡ b → text ≢ codes "true" → false ≡ bytes_eq text (codes "true")
other_text text true e n = absurd (n ((bytes_eq-Decides text (codes "true")).0 e))
other_text text false e n = sym e

-- a text that parses as true or false, or as neither
pub flag_read : {E : Type 0} (gives : Text → Result Bool E → Type 0) (text : Text) (read : Option Bool)
    → ((t : Text) (r : Result Bool E) → gives t r → ParsesBool t r) → ReadsOne gives text read → unwrap_or read false ≡ bytes_eq text (codes "true")
flag_read gives text (Some true) parses h = sym ((bytes_eq-Decides text (codes "true")).1 (parses text (Ok true) h))
flag_read gives text (Some false) parses h = sym (ap (λ (t : Text). bytes_eq t (codes "true")) (parses text (Ok false) h))
flag_read gives text None parses h = other_text text (bytes_eq text (codes "true")) refl (parses text (Err h.0) h.1).0
