use Rattle.std.proofs.Common.{◌≡◌, ℕ, List, [], ◌∷◌, Bool, true, false, Option, Some, if◌then◌else◌, Decides, refl, sym, ◌∙◌, ap}
use Rattle.std.specs.Str.{bytes_eq}
use Rattle.std.proofs.lemmas.Slice.Eq.{bytes_eq-Decides}
use Rattle.ncp_play_script.specs.declared.verbs.Verb.{Verb}
use Rattle.ncp_play_script.specs.declared.verbs.Verb.TheVariants.{Reset, AskSend, AskReceive, Give, Take, Allocate, CallBack, Interrupt, Echo, Close, Wake, Phase, State, Echoed, Errors, Counts, Ignored}
use Rattle.ncp_play_script.specs.Verbs.{word_of_verb, verb_among, verb_of, all_verbs}
use Rattle.ncp_play_script.proofs.laws.words_name_calls.Goals as goal

named : (verb : Verb) → verb_of (word_of_verb verb) ≡ Some verb
named Reset = refl
named AskSend = refl
named AskReceive = refl
named Give = refl
named Take = refl
named Allocate = refl
named CallBack = refl
named Interrupt = refl
named Echo = refl
named Close = refl
named Wake = refl
named Phase = refl
named State = refl
named Echoed = refl
named Errors = refl
named Counts = refl
named Ignored = refl

here : (found : Bool) (verb first : Verb) (word : List ℕ) (behind : Option Verb) → Decides found (word_of_verb first ≡ word) → (if found then Some first else behind) ≡ Some verb → (behind ≡ Some verb → word ≡ word_of_verb verb) → word ≡ word_of_verb verb
here true verb first word behind decides e more = let same : first ≡ verb = cc in sym (decides.0 refl) ∙ ap word_of_verb same
here false verb first word behind decides e more = more e

among : (verbs : List Verb) (word : List ℕ) (verb : Verb) → verb_among verbs word ≡ Some verb → word ≡ word_of_verb verb
among [] word verb e = absurd (cc)
among (first ∷ verbs) word verb e = here (bytes_eq (word_of_verb first) word) verb first word (verb_among verbs word) (bytes_eq-Decides (word_of_verb first) word) e (among verbs word verb)

pub returns-clause-each : goal.returns-clause-each
returns-clause-each c = named

pub returns-clause-only : goal.returns-clause-only
returns-clause-only c = among all_verbs
