-- Sealing's answer and what it leaves, from the layer below.
use Rattle.std.proofs.Common.{length}
use Rattle.format.specs.Request.{seal_refusal}
use Rattle.format.specs.Message.{message}
use Rattle.header.specs.Models.{request_of}
use Rattle.sealing.specs.Whole.{sealed_message}
use Rattle.strongbox.proofs.Told.{told, keeps}
use Rattle.strongbox.proofs.calls.seal.Goals as goal

pub returns : goal.returns
unfolding sealed_message
returns c =
    record {
      value = told (message (request_of c.args.request)) c.args.out.now c.seal.new.out (seal_refusal (request_of c.args.request)) (length c.args.out.now) c.seal.result c.seal.ensures.value c.seal.ensures.written;
      keeps = keeps (message (request_of c.args.request)) c.args.out.now c.seal.new.out c.seal.result c.seal.ensures.written;
    }
