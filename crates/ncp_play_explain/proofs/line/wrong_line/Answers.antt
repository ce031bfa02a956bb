-- A word that is no verb is printed as one.
use Rattle.std.proofs.Common.{◌==◌, ℕ, List, Contains, inl, inr}
use Rattle.std.specs.String.{string_bytes}
use Rattle.std.proofs.lemmas.Result.{IfOk-weaker}
use Rattle.ncp_play_explain.specs.declared.usage.ScriptKind.TheVariants.{Host}
use Rattle.ncp_play_explain.specs.Lines.{PrintsByVerb, PrintsDeed}
use Rattle.ncp_play_explain.specs.Printing.{first_word, words_of, PrintsNoVerb}
use Rattle.ncp_play_explain.specs.Verbs.{all_verb_words}
use Rattle.ncp_play_explain.proofs.FirstWords.{first_split}
use Rattle.ncp_play_explain.proofs.line.wrong_line.Goals as goal

no_verb_printed : (word : List ℕ) (P Q : Type 0) → ¬ (Contains all_verb_words word) → PrintsByVerb word P Q → Q
no_verb_printed word P Q other (inl h) = absurd (other h.0)
no_verb_printed word P Q other (inr h) = h.1

pub returns-in-Ok-clause-verb : goal.returns-in-Ok-clause-verb
returns-in-Ok-clause-verb c = λ host _ other.
    let line = c.args.text.now in
    IfOk-weaker c.wrong_words.result (λ printed. PrintsDeed Host (words_of line) (string_bytes printed)) (λ printed. PrintsNoVerb (first_word line) (string_bytes printed))
    (λ printed deed. no_verb_printed (first_word line) _ _ other (rw (first_split (λ byte. byte == 32) line) at deed)) (rw c.in-Ok.ensures.cases.0 at (c.wrong_words.ensures.one host))
