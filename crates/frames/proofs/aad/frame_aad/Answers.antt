use Rattle.std.proofs.Common.{take, ap, ◌∙◌, arith, rules, take_at}
use Rattle.frames.specs.Kind.{aad_length}
use Rattle.octets.proofs.Writing.{has_room, lender_holds}
use Rattle.frames.proofs.Parts.{length_aad, aad_within}
use Rattle.frames.proofs.aad.frame_aad.Goals as goal

pub unwrap-requires : goal.unwrap-requires
unwrap-requires c =
    let l = length_aad c.args.kind c.args.id.now c.args.number c.args.len c.told-id in
    has_room _ _ _ _ _ c.new.ensures.value c.write_aad.ensures (omega (arith, aad_within c.args.kind))

pub returns : goal.returns
returns c =
    let w = rw c.unwrap.ensures at c.write_aad.ensures in
    record {
      value =
          ap (take (aad_length c.args.kind)) (lender_holds _ _ _ _ _ c.new.ensures.value w (search rules))
          ∙ take_at _ _ _ (length_aad c.args.kind c.args.id.now c.args.number c.args.len c.told-id);
    }
