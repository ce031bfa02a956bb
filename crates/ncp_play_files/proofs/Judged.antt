-- Which fault stands where no record of version 2 begins.
use Rattle.std.proofs.Common.{◌≡◌, ◌↔◌, ℕ, ◌<◌, Bool, true, false, not, ◌||◌, cond, eqb, List, [], ◌∷◌, length, Some, None, Result, Ok, Err, refl, sym, arith, subst}
use Rattle.std.proofs.lemmas.Bool.{le-ltb}
use Rattle.ncp_play_files.specs.declared.file.Direction.TheVariants.{ToImp, FromImp}
use Rattle.ncp_play_files.specs.declared.file.FileFault.{FileFault}
use Rattle.ncp_play_files.specs.declared.file.FileFault.TheVariants.{Truncated, BadDirection}
use Rattle.ncp_play_files.specs.declared.version.Version.TheVariants.{Two}
use Rattle.ncp_play_files.specs.declared.version.CapturePoint.{CapturePoint}
use Rattle.ncp_play_files.specs.File.{Next, next_record}
use Rattle.ncp_play_files.specs.Versions.{placed, recorded, capture_point_toward, after_capture_point, next_in}
use Rattle.ncp_play_files.specs.Reasons.{first_fault_of, reasons_at, names_none, placed_reasons_at}
use Rattle.ncp_play_files.proofs.Files.{next_none}
use Rattle.ncp_play_files.proofs.Written.{record_ends, record_judged}

-- a fault behind a passage is that of the message
passed : (capture_point : CapturePoint) (r : Result Next FileFault) (fault : FileFault) → (r ≡ Ok None → ⊥) → (recorded capture_point (Err Truncated) r ≡ Err fault) ↔ (r ≡ Err fault)
passed capture_point (Ok None) fault never = absurd (never refl)
passed capture_point (Ok (Some (message, rest))) fault never = (λ h. absurd (let e : ⊥ = cc in e), λ h. absurd (let e : ⊥ = cc in e))
passed capture_point (Err other) fault never = (λ h. cc, λ h. cc)

begins : (byte : ℕ) (rest : List ℕ) → next_record (byte ∷ rest) ≡ Ok None → ⊥
begins byte rest h = let e : byte ∷ rest ≡ [] = (record_ends (byte ∷ rest)).0 h in cc

-- behind a passage a message has to stand
message_judged : (capture_point : CapturePoint) (bytes : List ℕ) (fault : FileFault) → (recorded capture_point (Err Truncated) (next_record bytes) ≡ Err fault) ↔ (first_fault_of (reasons_at bytes) ≡ Some fault)
message_judged capture_point [] fault = subst (λ next. (recorded capture_point (Err Truncated) next ≡ Err fault) ↔ (first_fault_of (reasons_at []) ≡ Some fault)) (sym (next_none [] refl)) (λ h. cc, λ h. cc)
message_judged capture_point (byte ∷ rest) fault =
    let same = passed capture_point (next_record (byte ∷ rest)) fault (begins byte rest) in
    let judged = record_judged (byte ∷ rest) fault (omega arith) in
    (λ h. judged.0 (same.0 h), λ h. same.1 (judged.1 h))

-- a direction alone
direction_judged : (b c : Bool) (fault : FileFault)
    → (after_capture_point (capture_point_toward (cond b (Some ToImp) (cond c (Some FromImp) None)) []) ≡ Err fault) ↔ (first_fault_of ((BadDirection, not (b || c)) ∷ (Truncated, true) ∷ reasons_at []) ≡ Some fault)
direction_judged true c fault = (λ h. cc, λ h. cc)
direction_judged false true fault = (λ h. cc, λ h. cc)
direction_judged false false fault = (λ h. cc, λ h. cc)

-- a direction and a host
placed_judged : (b c : Bool) (host : ℕ) (bytes : List ℕ) (fault : FileFault)
    → (after_capture_point (capture_point_toward (cond b (Some ToImp) (cond c (Some FromImp) None)) (host ∷ bytes)) ≡ Err fault) ↔ (first_fault_of ((BadDirection, not (b || c)) ∷ (Truncated, false) ∷ reasons_at bytes) ≡ Some fault)
placed_judged true c host bytes fault = message_judged (placed ToImp host) bytes fault
placed_judged false true host bytes fault = message_judged (placed FromImp host) bytes fault
placed_judged false false host bytes fault = (λ h. cc, λ h. cc)

pub record_at_judged : (bytes : List ℕ) (fault : FileFault) → 0 < length bytes → (next_in Two bytes ≡ Err fault) ↔ (first_fault_of (placed_reasons_at bytes) ≡ Some fault)
record_at_judged [] fault h = absurd (omega arith)
record_at_judged (byte ∷ []) fault h = direction_judged (eqb byte 72) (eqb byte 73) fault
record_at_judged (byte ∷ host ∷ bytes) fault h =
    subst (λ short. (next_in Two (byte ∷ host ∷ bytes) ≡ Err fault) ↔ (first_fault_of ((BadDirection, names_none (byte ∷ host ∷ bytes)) ∷ (Truncated, short) ∷ reasons_at bytes) ≡ Some fault))
    (sym (le-ltb (length (byte ∷ host ∷ bytes)) 2 (omega arith))) (placed_judged (eqb byte 72) (eqb byte 73) host bytes fault)
