-- What a call's reasons to be refused come to, one after the other.
use Rattle.std.specs.Prelude.{◌≡◌, Bool, true, false, Result, Ok, Err}
use Rattle.std.proofs.Common.{refl, ap}
use Rattle.ncp_model.specs.declared.call_fault.CallFault.{CallFault}
use Rattle.ncp_model.specs.Effect.{Effect, Stays}
use Rattle.ncp_model.specs.Calls.{refuse, ◌>>◌, unless_refused}

-- this one holds, or does not
pub refused : {A : Type 0} (fault : CallFault) (c : Bool) (next : Result A CallFault) → c ≡ true → (refuse fault c >> next) ≡ Err fault
refused fault true next e = refl
refused fault false next e = absurd (cc)

pub not_refused : {A : Type 0} (fault : CallFault) (c : Bool) (next : Result A CallFault) → c ≡ false → (refuse fault c >> next) ≡ next
not_refused fault true next e = absurd (cc)
not_refused fault false next e = refl

-- the first of several, whatever it asks
pub first_err : {A : Type 0} (r : Result (Unit {0}) CallFault) (fault : CallFault) (next : Result A CallFault) → r ≡ Err fault → (r >> next) ≡ Err fault
first_err (Ok t) fault next e = absurd (cc)
first_err (Err it) fault next e = let same : it ≡ fault = cc in ap Err same

pub first_ok : {A : Type 0} (r : Result (Unit {0}) CallFault) (next : Result A CallFault) → r ≡ Ok tt → (r >> next) ≡ next
first_ok (Ok t) next e = refl
first_ok (Err it) next e = absurd (cc)

-- and the act follows, or does not
pub stays_by : {A : Type 0} (r : Result (Unit {0}) CallFault) (fault : CallFault) (act : Effect (Result A CallFault)) → r ≡ Err fault → unless_refused r act ≡ Stays (Err fault)
stays_by (Ok t) fault act e = absurd (cc)
stays_by (Err it) fault act e = let same : it ≡ fault = cc in ap (λ (f : CallFault). Stays (Err f)) same

pub acts_by : {A : Type 0} (r : Result (Unit {0}) CallFault) (act : Effect (Result A CallFault)) → r ≡ Ok tt → unless_refused r act ≡ act
acts_by (Ok t) act e = refl
acts_by (Err it) act e = absurd (cc)
