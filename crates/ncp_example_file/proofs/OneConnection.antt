-- On a user's only connection the texts of the pipe are those of the page: `given` and `taken`.
use Rattle.std.proofs.Common.{◌≡◌, Bool, true, false, List, [], ◌∷◌, ◌++◌, refl, sym, ap, ◌∙◌, subst}
use Rattle.ncp_model.specs.declared.pair.Pair.{Pair}
use Rattle.ncp_transcript_two.specs.declared.side.Side.{Side}
use Rattle.ncp_transcript_two.specs.declared.note.Note.{Note}
use Rattle.ncp_statement.specs.Statement.{UserEvent, Asked, Gave, TookBits, AllowedBits, CalledBack, OtherEvent, user_events, given, given_from, taken, taken_from}
use Rattle.ncp_pipe.specs.Accounts.{given_after, taken_after, head_of}
use Rattle.ncp_proof_pipe.specs.Noted.{sender_did, receiver_did, steps_by}
use Rattle.ncp_example_file.specs.Accounts.{HasGiven, HasTaken}

taken-same : (us : List UserEvent) (t : List Bool) (ts : List (List Bool)) → taken_from t us ≡ head_of (taken_after (steps_by receiver_did us) (t ∷ ts))
taken-same [] t ts = refl
taken-same (Asked ∷ us) t ts = taken-same us [] (t ∷ ts)
taken-same (Gave text ∷ us) t ts = taken-same us t ts
taken-same (TookBits text ∷ us) t ts = taken-same us (t ++ text) ts
taken-same (AllowedBits bits ∷ us) t ts = taken-same us t ts
taken-same (CalledBack ∷ us) t ts = taken-same us t ts
taken-same (UserEvent.Closed ∷ us) t ts = taken-same us t ts
taken-same (OtherEvent ∷ us) t ts = taken-same us t ts

pub taken-is : (side : Side) (pair : Pair) (text : List Bool) (ns : List Note) → HasTaken side pair text ns → taken side pair ns ≡ text
taken-is side pair text ns h = taken-same (user_events side pair ns) [] [] ∙ ap head_of h

-- Of what is given an ask alone resets nothing on the page: only the next give does. So it counts that nothing was given
-- on the earlier connections.

abbrev AllEmpty : List (List Bool) → Type 0
AllEmpty [] = Unit {0}
AllEmpty (g ∷ gs) = (g ≡ []) × AllEmpty gs

rest-of : (h g : List Bool) (gs es : List (List Bool)) → h ∷ gs ≡ g ∷ es → gs ≡ es
rest-of h g gs es e = cc e

below : (us : List UserEvent) (h : List Bool) (gs : List (List Bool)) (g : List Bool) (es : List (List Bool)) → given_after (steps_by sender_did us) (h ∷ gs) ≡ g ∷ es → AllEmpty es → AllEmpty gs
below [] h gs g es e k = subst AllEmpty (sym (rest-of h g gs es e)) k
below (Asked ∷ us) h gs g es e k = (below us [] (h ∷ gs) g es e k).1
below (Gave text ∷ us) h gs g es e k = below us (h ++ text) gs g es e k
below (TookBits text ∷ us) h gs g es e k = below us h gs g es e k
below (AllowedBits bits ∷ us) h gs g es e k = below us h gs g es e k
below (CalledBack ∷ us) h gs g es e k = below us h gs g es e k
below (UserEvent.Closed ∷ us) h gs g es e k = below us h gs g es e k
below (OtherEvent ∷ us) h gs g es e k = below us h gs g es e k

-- what the page and the pipe have so far
abbrev Agree : Bool → List Bool → List Bool → Type 0
Agree true x h = (h ≡ []) × (x ≡ [])
Agree false x h = x ≡ h

at-end : (anew : Bool) (x h : List Bool) → Agree anew x h → x ≡ h
at-end true x h m = m.1 ∙ sym m.0
at-end false x h m = m

first-of : (h g : List Bool) (gs es : List (List Bool)) → h ∷ gs ≡ g ∷ es → h ≡ g
first-of h g gs es e = cc e

given-same : (us : List UserEvent) (anew : Bool) (x h : List Bool) (gs : List (List Bool)) (g : List Bool) (es : List (List Bool))
    → given_after (steps_by sender_did us) (h ∷ gs) ≡ g ∷ es → AllEmpty es → Agree anew x h → given_from anew x us ≡ g
given-same [] anew x h gs g es e k m = at-end anew x h m ∙ first-of h g gs es e
given-same (Asked ∷ us) anew x h gs g es e k m = given-same us true x [] (h ∷ gs) g es e k (refl, at-end anew x h m ∙ (below us [] (h ∷ gs) g es e k).0)
given-same (Gave text ∷ us) true x h gs g es e k m = given-same us false text (h ++ text) gs g es e k (ap (λ (l : List Bool). l ++ text) (sym m.0))
given-same (Gave text ∷ us) false x h gs g es e k m = given-same us false (x ++ text) (h ++ text) gs g es e k (ap (λ (l : List Bool). l ++ text) m)
given-same (TookBits text ∷ us) true x h gs g es e k m = given-same us true x h gs g es e k m
given-same (TookBits text ∷ us) false x h gs g es e k m = given-same us false x h gs g es e k m
given-same (AllowedBits bits ∷ us) true x h gs g es e k m = given-same us true x h gs g es e k m
given-same (AllowedBits bits ∷ us) false x h gs g es e k m = given-same us false x h gs g es e k m
given-same (CalledBack ∷ us) true x h gs g es e k m = given-same us true x h gs g es e k m
given-same (CalledBack ∷ us) false x h gs g es e k m = given-same us false x h gs g es e k m
given-same (UserEvent.Closed ∷ us) true x h gs g es e k m = given-same us true x h gs g es e k m
given-same (UserEvent.Closed ∷ us) false x h gs g es e k m = given-same us false x h gs g es e k m
given-same (OtherEvent ∷ us) true x h gs g es e k m = given-same us true x h gs g es e k m
given-same (OtherEvent ∷ us) false x h gs g es e k m = given-same us false x h gs g es e k m

pub given-is : (side : Side) (pair : Pair) (text : List Bool) (ns : List Note) → HasGiven side pair text ns → given side pair ns ≡ text
given-is side pair text ns h = given-same (user_events side pair ns) true [] [] [] text ([] ∷ []) h (refl, tt) (refl, refl)
