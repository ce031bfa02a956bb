use Rattle.ncp_proof_endpoint.proofs.BooksKept.{books-ever}
use Rattle.ncp_proof_endpoint.proofs.histories.receivers_keep_their_books.Goals as goal

pub returns : goal.returns
returns c = books-ever
