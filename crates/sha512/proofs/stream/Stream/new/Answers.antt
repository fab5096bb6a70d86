use Rattle.std.proofs.Common.{[], refl}
use Rattle.sha512.specs.Sha512.{hash_blocks}
use Rattle.sha512.proofs.stream.Stream.new.Goals as goal

pub returns : goal.returns
unfolding hash_blocks
returns c = record { front = []; count = 0; whole = refl; parts = refl; hashed = refl; counted = refl }
