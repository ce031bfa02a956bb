-- The words that name calls in a script (this profile).
use Rattle.std.specs.Prelude.{ℕ, List, [], ◌∷◌, Option, Some, None, codes, if◌then◌else◌}
use Rattle.std.specs.Str.{bytes_eq}
use Rattle.ncp_play_script.specs.declared.verbs.Verb.{Verb}
use Rattle.ncp_play_script.specs.declared.verbs.Verb.TheVariants.{Reset, AskSend, AskReceive, Give, Take, Allocate, CallBack, Interrupt, Echo, Close, Wake, Phase, State, Echoed, Errors, Counts, Ignored}

abbrev pub word_of_verb : Verb → List ℕ
word_of_verb Reset = codes "reset"
word_of_verb AskSend = codes "ask-send"
word_of_verb AskReceive = codes "ask-receive"
word_of_verb Give = codes "give"
word_of_verb Take = codes "take"
word_of_verb Allocate = codes "allocate"
word_of_verb CallBack = codes "call-back"
word_of_verb Interrupt = codes "interrupt"
word_of_verb Echo = codes "echo"
word_of_verb Close = codes "close"
word_of_verb Wake = codes "wake"
word_of_verb Phase = codes "phase"
word_of_verb State = codes "state"
word_of_verb Echoed = codes "echoed"
word_of_verb Errors = codes "errors"
word_of_verb Counts = codes "counts"
word_of_verb Ignored = codes "ignored"

abbrev pub all_verbs : List Verb
all_verbs =
    Reset ∷ AskSend ∷ AskReceive ∷ Give ∷ Take ∷ Allocate ∷ CallBack ∷ Interrupt ∷ Echo ∷ Close ∷ Wake ∷ Phase ∷ State ∷ Echoed ∷ Errors ∷ Counts ∷ Ignored ∷ []

-- the verb among these that a word names
abbrev pub verb_among : List Verb → List ℕ → Option Verb
verb_among [] word = None
verb_among (verb ∷ verbs) word = if bytes_eq (word_of_verb verb) word then Some verb else verb_among verbs word

abbrev pub verb_of : List ℕ → Option Verb
verb_of word = verb_among all_verbs word
