-- The version of the bytes in which a host is saved.
use Rattle.std.proofs.Common.{◌≡◌, ℕ, Bool, true, false, if◌then◌else◌, List, take, drop, None, ap}
use Rattle.std.specs.List.{slice_get}
use Rattle.std.specs.Str.{bytes_eq}
use Rattle.ncp_host.specs.Saved.{file_name}
use Rattle.ncp_host.specs.Loading.{version_in}

pub version_unnamed : (bytes : List ℕ) → bytes_eq (take 8 bytes) file_name ≡ false → version_in bytes ≡ None
version_unnamed bytes e = ap (λ (b : Bool). if b then slice_get (drop 8 bytes) 0 else None) e

pub version_named : (bytes : List ℕ) → bytes_eq (take 8 bytes) file_name ≡ true → version_in bytes ≡ slice_get (drop 8 bytes) 0
version_named bytes e = ap (λ (b : Bool). if b then slice_get (drop 8 bytes) 0 else None) e
