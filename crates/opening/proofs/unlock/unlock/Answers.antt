use Rattle.std.proofs.Common.{[], sym, refl, ◌∙◌, arith}
use Rattle.gcm.specs.Key.{key_of}
use Rattle.header_read.specs.Parts.{header_in, read_header_in}
use Rattle.opening.proofs.Unlocking.{split, id_there, id_is, other_commitment, wrong_tag, unlocked}
use Rattle.opening.proofs.unlock.unlock.Goals as goal

pub unwrap-id-requires : goal.unwrap-id-requires
unwrap-id-requires c =
    let s = split c.args.bytes.now (read_header_in c.args.read) (λ i. omega (arith, c.type_inv.bytes i)) c.requires in
    id_there c.args.read.header.id.now c.array_32.result c.array_32.ensures.value s.id

pub returns-then-not-equal : goal.returns-then-not-equal
returns-then-not-equal c = λ rest.
    other_commitment c.args.key.now (header_in c.args.read.header) c.args.read.tag.now c.unwrap-id.result c.message_keys.result.commitment [] rest (id_is c.args.read.header.id.now c.unwrap-id.result c.array_32.result c.array_32.ensures.value c.unwrap-id.ensures) c.message_keys.ensures.value.1 c.if-not-equal.ensures.value

pub returns-then-not-header_tag_right : goal.returns-then-not-header_tag_right
returns-then-not-header_tag_right c = λ rest.
    wrong_tag c.args.key.now (header_in c.args.read.header) c.args.read.tag.now c.unwrap-id.result c.message_keys.result.commitment (key_of c.new.result) rest (id_is c.args.read.header.id.now c.unwrap-id.result c.array_32.result c.array_32.ensures.value c.unwrap-id.ensures) c.message_keys.ensures.value.1
    c.if-not-equal.ensures.value (c.new.ensures.value ∙ c.message_keys.ensures.value.0) c.if-not-header_tag_right.ensures

pub returns : goal.returns
returns c = (
  record { id = sym (id_is c.args.read.header.id.now c.unwrap-id.result c.array_32.result c.array_32.ensures.value c.unwrap-id.ensures); frame_length = refl },
  λ rest.
      unlocked c.args.key.now (header_in c.args.read.header) c.args.read.tag.now c.unwrap-id.result c.message_keys.result.commitment (key_of c.new.result) rest (id_is c.args.read.header.id.now c.unwrap-id.result c.array_32.result c.array_32.ensures.value c.unwrap-id.ensures) c.message_keys.ensures.value.1
      c.if-not-equal.ensures.value (c.new.ensures.value ∙ c.message_keys.ensures.value.0) c.if-not-header_tag_right.ensures,
)
