-- `octets::get_u8` meets its contract. Assumes nothing.
use Rattle.octets.proofs.Read.{byte-short, byte-there}
use Rattle.octets.proofs.get_u8.Goals as goal

pub returns-then-s-at : goal.returns-then-s-at
returns-then-s-at c = search byte-short

pub returns : goal.returns
returns c = search byte-there
