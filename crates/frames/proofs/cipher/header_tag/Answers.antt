use Rattle.octets.specs.Bytes.{repeat}
use Rattle.frames.specs.Cipher.{header_tag}
use Rattle.frames.proofs.cipher.header_tag.Goals as goal

pub returns : goal.returns
unfolding header_tag repeat
returns c = let s = rw c.unwrap.ensures at c.seal.ensures.value in record { value = s.tag_is }
