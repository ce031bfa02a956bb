use Rattle.std.proofs.Common.{refl, sym, arith}
use Rattle.std.proofs.lemmas.List.{append-nil}
use Rattle.ncp_model.specs.Rows.{ones, link_heard, size_heard, asked_send, asked_receive, opened_end, counting, storing, due, gone, shut}
use Rattle.ncp_proof_progress.specs.Finished.{Nobody, Sender_asked, Receiver_asked, Both_open, Receiver_holds}
use Rattle.ncp_proof_progress.proofs.pairs.pairs_that_are_finished.Goals as goal

pub returns-clause-nobody : goal.returns-clause-nobody
returns-clause-nobody c = Nobody refl refl

pub returns-clause-sender_asked : goal.returns-clause-sender_asked
returns-clause-sender_asked c = Sender_asked asked_send size_heard refl refl (record { asked = refl; heard = refl; opened = refl; leaving = refl; left = refl; cls = refl }) (record { asked = refl; heard = refl; opened = refl; leaving = refl; left = refl; cls = refl }) refl

pub returns-clause-receiver_asked : goal.returns-clause-receiver_asked
returns-clause-receiver_asked c = Receiver_asked link_heard asked_receive refl refl (record { asked = refl; heard = refl; opened = refl; leaving = refl; left = refl; cls = refl }) (record { asked = refl; heard = refl; opened = refl; leaving = refl; left = refl; cls = refl }) refl

pub returns-clause-open : goal.returns-clause-open
returns-clause-open c given = Both_open (counting 1 8) (counting 1 8) refl refl (record { sender = refl; receiver = refl; link = refl; size = refl; messages = refl; bits = refl; text = sym (append-nil given); waits = refl })

pub returns-clause-waiting : goal.returns-clause-waiting
returns-clause-waiting c = Both_open (storing (ones 8)) opened_end refl refl (record { sender = refl; receiver = refl; link = refl; size = refl; messages = refl; bits = refl; text = refl; waits = refl })

pub returns-clause-held : goal.returns-clause-held
returns-clause-held c = Receiver_holds (gone opened_end) (shut (due (storing (ones 8)))) refl refl (refl, refl, refl) (refl, refl, omega arith)
