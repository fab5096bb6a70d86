-- What a message shows without its key, that one message doesn't open to two texts, and what a correct program gives out.
use Rattle.std.proofs.Common.{◌≡◌, ℕ, ◌+◌, ◌-◌, ◌*◌, ◌/◌, Bool, true, ◌&&◌, eqb, ltb, leb, ◌⊎◌, List, ◌∷◌, length, sym, refl, ap, ◌∙◌, subst, inl, inr}
use lib.Bits.{differ}
use Rattle.std.proofs.lemmas.Bool.{and_from, and_parts}
use Rattle.octets.specs.Bits.{pick}
use Rattle.octets.specs.Bytes.{all_bytes, bytes_eq, repeat}
use Rattle.octets.proofs.Numbers.{bytes_eq_true}
use Rattle.hkdf.specs.MessageKeys.{commitment}
use Rattle.format.specs.Corollaries.{CorrectProgramAccounts, FrontHidesText, NothingGivenOut, SameLengthSameSize, TwoTextsTwoKeys, with_other_text}
use Rattle.format.specs.Header.{context_bytes}
use Rattle.format.specs.Opening.{Opened, not_opened, open_message, opened}
use Rattle.format.specs.Promise.{Correct}
use Rattle.format.specs.Reading.{ReadHeader, read_header}
use Rattle.format.specs.Request.{Pair, Request, all_bytes_data_keys, all_bytes_pairs, data_keys_bytes, end_marker, pairs_bytes, rising, seal_refusal, short_data_keys, short_pairs, well_formed}
use Rattle.format.specs.Sealed.{Accounted, Forged, IdReused, KeysCollide, WhatOpensWasSealed, forged, id_reused, keys_collide, sealed_here}
use Rattle.format.specs.Statements.{HeaderIsSeen, LengthIsKnown}
use Rattle.format.proofs.Accounted.{what_opens_was_sealed}
use Rattle.format.proofs.Lengths.{length_is_known}
use Rattle.format.proofs.Opening.{open_read, picked_opened, with_header_some}
use Rattle.format.proofs.Sealing.{header_is_seen}
use Rattle.format.proofs.Steps.{first_is_first}

opened_commitment : (k bs text : List ℕ) (c : List Pair) → open_message k bs ≡ opened c text
    → (x : ReadHeader) × ((more : List ReadHeader) × ((read_header bs ≡ x ∷ more) × (commitment k x.header.id ≡ x.header.commitment)))
opened_commitment k bs text c e =
    let o = with_header_some (read_header bs) (open_read k) c text e in
    let x : ReadHeader = o.found in
    let p = picked_opened (bytes_eq (commitment k x.header.id) x.header.commitment) _ 4 0 c text o.then in
    (x, (o.more, (o.here, bytes_eq_true (commitment k x.header.id) x.header.commitment p.0)))

pub two_texts : TwoTextsTwoKeys
unfolding TwoTextsTwoKeys
two_texts k j bs text other c d e f differ =
    let a = opened_commitment k bs text c e in
    let b = opened_commitment j bs other d f in
    let x : ReadHeader = a.0 in
    let same : b.0 ≡ x = first_is_first b.0 x b.1.0 a.1.0 (sym b.1.1.0 ∙ a.1.1.0) in
    let w : commitment j x.header.id ≡ x.header.commitment = subst (λ y. commitment j y.header.id ≡ y.header.commitment) same b.1.1.1 in
    ((λ z. differ (sym e ∙ (ap (λ l. open_message l bs) z ∙ f))), (x, (a.1.0, (a.1.1.0, a.1.1.1 ∙ sym w))))

pub front_hides_text : FrontHidesText
unfolding FrontHidesText
front_hides_text r t = refl

-- another text of the same length is refused or not as the first is
same_refusal : (r : Request) (t : List ℕ) → length t ≡ length r.text → seal_refusal (with_other_text r t) ≡ seal_refusal r
same_refusal r t e =
    ap (λ l.
    pick ((eqb (length r.key) 32 && eqb (length r.id) 32) && (ltb 0 r.frame_length && leb r.frame_length end_marker))
    (pick ((rising r.context && short_pairs r.context) && leb (2 + length (pairs_bytes r.context)) 65535)
    (pick ((ltb 0 (length r.encrypted_data_keys) && leb (length r.encrypted_data_keys) 65535) && short_data_keys r.encrypted_data_keys)
    (pick (leb l (end_marker * r.frame_length) && ltb l 9223372036854775808) 0 5)
    4)
    3)
    2) e

same_form : (r : Request) (t : List ℕ) → well_formed r ≡ true → all_bytes t ≡ true → well_formed (with_other_text r t) ≡ true
same_form r t w b =
    let keys : Bool = all_bytes r.key && all_bytes r.id in
    let parts : Bool = all_bytes_pairs r.context && all_bytes_data_keys r.encrypted_data_keys in
    let size : Bool = ltb r.frame_length 4294967296 in
    let p = and_parts keys (parts && (all_bytes r.text && size)) w in
    let q = and_parts parts (all_bytes r.text && size) p.1 in
    let s = and_parts (all_bytes r.text) size q.1 in
    and_from keys (parts && (all_bytes t && size)) p.0 (and_from parts (all_bytes t && size) q.0 (and_from (all_bytes t) size b s.1))

pub same_length_same_size : SameLengthSameSize
unfolding SameLengthSameSize LengthIsKnown HeaderIsSeen
same_length_same_size r t w s b e =
    let w2 = same_form r t w b in
    let s2 = same_refusal r t e ∙ s in (
      length_is_known (with_other_text r t) w2 s2
          ∙ (ap (λ l. 90 + (length (context_bytes r.context) + (length (data_keys_bytes r.encrypted_data_keys) + (l + (32 * ((l - 1) / r.frame_length) + 40))))) e ∙ sym (length_is_known r w s)),
      header_is_seen (with_other_text r t) w2 s2 ∙ sym (header_is_seen r w s),
    )

-- a correct program
pub correct_program_accounts : CorrectProgramAccounts
unfolding CorrectProgramAccounts Correct WhatOpensWasSealed
correct_program_accounts f c rs k bs text context good bk lk bb e = what_opens_was_sealed rs k bs text context good bb (sym (c.2 k bs bk lk bb) ∙ e)

pub nothing_given_out : NothingGivenOut
unfolding NothingGivenOut Correct WhatOpensWasSealed
nothing_given_out f c rs k bs n good bk lk bb none = go (open_message k bs) refl
  where
    Shown : Type 0
    Shown = ((a : ℕ) × ((b : ℕ) × ((f.opens k bs ≡ not_opened a b) × (f.leaves k bs n ≡ repeat n 0)))) ⊎ (Forged k bs rs ⊎ (IdReused rs ⊎ KeysCollide k rs))

    shown : (context : List Pair) (text : List ℕ) → Accounted rs k bs context text → Shown
    shown context text (sealed_here s) = absurd (none s.0 s.1.0 s.1.1 s.1.4)
    shown context text (forged w) = inr (inl w)
    shown context text (id_reused w) = inr (inr (inl w))
    shown context text (keys_collide w) = inr (inr (inr w))

    go : (o : Opened) → open_message k bs ≡ o → Shown
    go (not_opened a b) e = inl (a, (b, (c.2 k bs bk lk bb ∙ e, c.3 k bs n a b bk lk bb e)))
    go (opened context text) e = shown context text (what_opens_was_sealed rs k bs text context good bb e)
