-- The accounts after more notes.
use Rattle.std.proofs.Common.{◌≡◌, Bool, List, [], ◌∷◌, ◌++◌, refl, sym, ap, ◌∙◌}
use Rattle.std.proofs.lemmas.List.{append-nil, append_assoc}
use Rattle.ncp_model.specs.declared.pair.Pair.{Pair}
use Rattle.ncp_transcript_two.specs.declared.side.Side.{Side}
use Rattle.ncp_transcript_two.specs.declared.note.Note.{Note}
use Rattle.ncp_statement.specs.Statement.{UserEvent, user_event_at, user_events}
use Rattle.ncp_pipe.specs.Pipe.{Step}
use Rattle.ncp_pipe.specs.Accounts.{more_given, more_taken, given_after, taken_after, texts_given, texts_taken}
use Rattle.ncp_proof_pipe.specs.Noted.{sender_did, receiver_did, steps_by}
use Rattle.ncp_example_file.specs.Accounts.{all_given, all_taken}

steps-more : (did : UserEvent → List Step) (side : Side) (pair : Pair) (ns ms : List Note)
    → steps_by did (user_events side pair (ns ++ ms)) ≡ steps_by did (user_events side pair ns) ++ steps_by did (user_events side pair ms)
steps-more did side pair [] ms = refl
steps-more did side pair (n ∷ ns) ms =
    ap (λ (l : List Step). did (user_event_at side pair n) ++ l) (steps-more did side pair ns ms)
    ∙ sym (append_assoc (did (user_event_at side pair n)) (steps_by did (user_events side pair ns)) (steps_by did (user_events side pair ms)))

given-more : (xs ys : List Step) (gs : List (List Bool)) → given_after (xs ++ ys) gs ≡ given_after ys (given_after xs gs)
given-more [] ys gs = refl
given-more (s ∷ xs) ys gs = given-more xs ys (more_given s gs)

taken-more : (xs ys : List Step) (ts : List (List Bool)) → taken_after (xs ++ ys) ts ≡ taken_after ys (taken_after xs ts)
taken-more [] ys ts = refl
taken-more (s ∷ xs) ys ts = taken-more xs ys (more_taken s ts)

pub all-given-more : (side : Side) (pair : Pair) (ns ms : List Note) → all_given side pair (ns ++ ms) ≡ given_after (steps_by sender_did (user_events side pair ms)) (all_given side pair ns)
all-given-more side pair ns ms =
    ap texts_given (steps-more sender_did side pair ns ms) ∙ given-more (steps_by sender_did (user_events side pair ns)) (steps_by sender_did (user_events side pair ms)) ([] ∷ [])

pub all-taken-more : (side : Side) (pair : Pair) (ns ms : List Note) → all_taken side pair (ns ++ ms) ≡ taken_after (steps_by receiver_did (user_events side pair ms)) (all_taken side pair ns)
all-taken-more side pair ns ms =
    ap texts_taken (steps-more receiver_did side pair ns ms) ∙ taken-more (steps_by receiver_did (user_events side pair ns)) (steps_by receiver_did (user_events side pair ms)) ([] ∷ [])

-- after one note

pub given-by-one : (side : Side) (pair : Pair) (ns : List Note) (n : Note) → all_given side pair (ns ++ n ∷ []) ≡ given_after (sender_did (user_event_at side pair n)) (all_given side pair ns)
given-by-one side pair ns n =
    all-given-more side pair ns (n ∷ []) ∙ ap (λ (l : List Step). given_after l (all_given side pair ns)) (append-nil (sender_did (user_event_at side pair n)))

pub taken-by-one : (side : Side) (pair : Pair) (ns : List Note) (n : Note) → all_taken side pair (ns ++ n ∷ []) ≡ taken_after (receiver_did (user_event_at side pair n)) (all_taken side pair ns)
taken-by-one side pair ns n =
    all-taken-more side pair ns (n ∷ []) ∙ ap (λ (l : List Step). taken_after l (all_taken side pair ns)) (append-nil (receiver_did (user_event_at side pair n)))
