-- The length, from the layer below.
use Rattle.header.specs.Models.{request_of}
use Rattle.strongbox.proofs.Told.{length_tells}
use Rattle.strongbox.proofs.calls.sealed_len.Goals as goal

pub returns : goal.returns
returns c = record { value = length_tells (request_of c.args.request) c.sealed_len.result c.sealed_len.ensures.value c.sealed_len.ensures.told }
