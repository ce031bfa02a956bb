-- Reading and writing a leader.
use Rattle.std.proofs.Common.{◌≡◌, ℕ, ◌+◌, ◌^◌, ◌<◌, ◌≤◌, Bool, true, false, cond, List, [], ◌++◌, length, drop, Result, Ok, Err, sym, ap, ◌∙◌, arith, refl}
use Rattle.std.proofs.lemmas.List.{append_assoc, append-nil}
use Rattle.std.proofs.lemmas.Bool.{le-ltb}
use Rattle.ncp_numbers.specs.Numbers.{number_of, bits_of}
use Rattle.ncp_numbers.proofs.Numbers.{number_of_range}
use Rattle.ncp_numbers.proofs.Fields.{field_rest, number_of-fitting}
use Rattle.ncp_leader.specs.declared.leader.Leader.{Leader}
use Rattle.ncp_leader.specs.Leader.{IsLeader, BeginsWith, leader_bits, leader_at, leader_in, number_at}

-- ---- what is read stands there

pub IsLeader-at : (bits : List Bool) → IsLeader (leader_at bits)
IsLeader-at bits =
    let flags : number_at bits 0 4 < 2 ^ 4 = number_of_range bits 0 4 in
    let kind : number_at bits 4 4 < 2 ^ 4 = number_of_range bits 4 4 in
    record {
      flags = omega arith;
      kind = omega arith;
      host = number_of_range bits 8 8;
      link = number_of_range bits 16 8;
      low = number_of_range bits 24 8;
    }

-- bits that are long enough begin with those of the leader that is read
pub leader_first : (bits : List Bool) → 32 ≤ length bits → bits ≡ leader_bits (leader_at bits) ++ drop 32 bits
leader_first bits long =
    let field : ℕ → ℕ → List Bool = λ at width. bits_of width (number_at bits at width) in
    simp append_assoc (
    field_rest bits 0 4 (omega arith)
    ∙ ap (λ rest. field 0 4 ++ rest) (field_rest bits 4 4 (omega arith)
    ∙ ap (λ rest. field 4 4 ++ rest) (field_rest bits 8 8 (omega arith)
    ∙ ap (λ rest. field 8 8 ++ rest) (field_rest bits 16 8 (omega arith)
    ∙ ap (λ rest. field 16 8 ++ rest) (field_rest bits 24 8 (omega arith))))))

pub BeginsWith-at : (bits : List Bool) → 32 ≤ length bits → BeginsWith bits (leader_at bits)
BeginsWith-at bits long = record { fits = IsLeader-at bits; rest = drop 32 bits; form = leader_first bits long }

-- ---- what stands there is read

pub leader_at-bits : (leader : Leader) (rest : List Bool) → IsLeader leader → leader_at (leader_bits leader ++ rest) ≡ leader
unfolding bits_of
leader_at-bits leader rest fits =
    let flags : number_of (bits_of 4 leader.flags) ≡ leader.flags = number_of-fitting 4 leader.flags (let h : leader.flags ≤ 15 = fits.flags in omega arith) in
    let kind : number_of (bits_of 4 leader.kind) ≡ leader.kind = number_of-fitting 4 leader.kind (let h : leader.kind ≤ 15 = fits.kind in omega arith) in
    let host : number_of (bits_of 8 leader.host) ≡ leader.host = number_of-fitting 8 leader.host fits.host in
    let link : number_of (bits_of 8 leader.link) ≡ leader.link = number_of-fitting 8 leader.link fits.link in
    let low : number_of (bits_of 8 leader.low) ≡ leader.low = number_of-fitting 8 leader.low fits.low in
    rw (flags, kind, host, link, low) refl

length-leader : (leader : Leader) (rest : List Bool) → length (leader_bits leader ++ rest) ≡ 32 + length rest
unfolding bits_of
length-leader leader rest = omega arith

-- a test that does not hold refuses nothing
pub unless_false : {A E : Type 0} (test : Bool) (error : E) (given wanted : Result A E) → test ≡ false → given ≡ wanted → cond test (Err error) given ≡ wanted
unless_false true error given wanted off same = cc
unless_false false error given wanted off same = same

pub leader_in-long : (bits : List Bool) → 32 ≤ length bits → leader_in bits ≡ Ok (leader_at bits)
leader_in-long bits long = unless_false _ _ _ _ (le-ltb _ _ long) refl

pub leader_in-bits : (leader : Leader) (rest : List Bool) → IsLeader leader → leader_in (leader_bits leader ++ rest) ≡ Ok leader
leader_in-bits leader rest fits =
    let n : length (leader_bits leader ++ rest) ≡ 32 + length rest = length-leader leader rest in
    leader_in-long _ (omega arith) ∙ ap Ok (leader_at-bits leader rest fits)

-- one list begins with one leader
same_ok : {A E : Type 0} (r : Result A E) (x y : A) → r ≡ Ok x → r ≡ Ok y → x ≡ y
same_ok r x y p q = cc

pub one_value : {A E : Type 0} {x y : A} (r : Result A E) → r ≡ Ok x → r ≡ Ok y → x ≡ y
one_value {x = x} {y = y} r p q = same_ok r x y p q

pub one_leader : (bits : List Bool) (one other : Leader) → BeginsWith bits one → BeginsWith bits other → one ≡ other
one_leader bits one other p q =
    one_value (leader_in bits) (ap leader_in p.form ∙ leader_in-bits one p.rest p.fits) (ap leader_in q.form ∙ leader_in-bits other q.rest q.fits)

-- ---- what is written is a leader

pub BeginsWith-bits : (leader : Leader) (bits : List Bool) → IsLeader leader → bits ≡ leader_bits leader → BeginsWith bits leader
BeginsWith-bits leader bits fits same = record { fits = fits; rest = []; form = same ∙ sym (append-nil (leader_bits leader)) }
